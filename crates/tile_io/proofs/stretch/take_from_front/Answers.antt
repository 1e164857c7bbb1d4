use Rattle.std.proofs.Common.{ℕ, List, length, ◌≤◌, subst, sym, rules}
use Rattle.std.proofs.lemmas.List.{take_rest}
use Rattle.tile_io.specs.LineReader.{TakesFront}
use Rattle.tile_io.specs.Inner.Turns.{TakesLine}
use Rattle.tile_io.proofs.Walks.{mark_within}
use Rattle.tile_io.proofs.Fronts.{front_turn}
use Rattle.tile_io.proofs.stretch.take_from_front.Goals as goal

pub slice_bounds-take_front-count : goal.slice_bounds-take_front-count
slice_bounds-take_front-count g c = (mark_within c.args.text.now c.args.from c.requires.mark).0

pub slice_bounds-take_front-start : goal.slice_bounds-take_front-start
slice_bounds-take_front-start g c = let within : c.args.from.at ≤ length c.args.text.now = (mark_within c.args.text.now c.args.from c.requires.mark).0 in search (rules, within)

pub turn_at-requires-clause-number : goal.turn_at-requires-clause-number
turn_at-requires-clause-number g c = (mark_within c.args.text.now c.args.from c.requires.mark).1

pub returns-clause-taken : goal.returns-clause-taken
returns-clause-taken g c =
    let table = g.R.LineReader.table (g.R.LineReader.context c.args.reader.now) in
    let Before = g.R.LineReader.holds c.args.reader.now in
    let After = g.R.LineReader.holds c.take_front.new.self in
    let Took : List ℕ → Type 0 = λ rest. TakesFront table Before After rest c.in_ok-front.front in
    let took = subst Took (take_rest c.args.text.now c.args.from.at) c.in_ok-front.ensures.taken in
    subst (TakesLine table Before After c.args.text.now c.args.from) (sym c.turn_at.ensures) (front_turn table Before After c.args.text.now c.args.from c.in_ok-front.front took)
