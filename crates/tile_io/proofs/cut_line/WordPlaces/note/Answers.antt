use Rattle.std.proofs.Common.{◌≢◌, ◌≤◌, arith}
use Rattle.tile_io.proofs.AtHandLemmas.{one_noted, one_counted}
use Rattle.tile_io.proofs.cut_line.WordPlaces.note.Goals as goal

pub returns-then-index-ge-AT_HAND : goal.returns-then-index-ge-AT_HAND
returns-then-index-ge-AT_HAND c = λ line before run.
    let order : c.args.start ≤ c.args.end = c.requires.order in
    let other : c.args.start ≢ c.args.end = c.if-start-end.false in
    one_counted line c.args.start c.args.end c.args.self.now.count c.args.self.now.starts c.args.self.now.ends (omega (arith, order, other)) run before (omega (arith, c.if-index-ge-AT_HAND.true))

pub returns : goal.returns
returns c = λ line before run.
    let order : c.args.start ≤ c.args.end = c.requires.order in
    let other : c.args.start ≢ c.args.end = c.if-start-end.false in
    one_noted line c.args.start c.args.end c.args.self.now.count c.args.self.now.starts c.args.self.now.ends (omega (arith, order, other)) run before (omega (arith, c.if-index-ge-AT_HAND.false))
