use Rattle.std.proofs.Common.{◌∷◌, [], sym, ◌∙◌, arith}
use Rattle.tile_table.proofs.Lines.{longer}
use Rattle.tile_table.proofs.TableSpelled.{label_short}
use Rattle.tile_table.proofs.print.add_side.Goals as goal

pub add_label_name-requires-clause-room : goal.add_label_name-requires-clause-room
add_label_name-requires-clause-room g c =
    let set = g.T.Table.tiles c.args.table.now in
    let label = c.in-Some.label in
    let listed = c.requires.numbered.sides c.args.kind c.args.side label c.requires.listed (sym c.side.ensures ∙ c.in-Some.is) in
    let short = label_short set c.requires.limits label listed in
    let more = longer c.add.new.self c.args.text.now (32 ∷ []) c.add.ensures in
    let room = c.requires.room in
    omega (arith, short, more, room)

pub returns-in-Some-clause-short : goal.returns-in-Some-clause-short
returns-in-Some-clause-short g c =
    let set = g.T.Table.tiles c.args.table.now in
    let label = c.in-Some.label in
    let listed = c.requires.numbered.sides c.args.kind c.args.side label c.requires.listed (sym c.side.ensures ∙ c.in-Some.is) in
    let short = label_short set c.requires.limits label listed in
    let more = longer c.add.new.self c.args.text.now (32 ∷ []) c.add.ensures in
    let named = longer c.add_label_name.new.text c.add.new.self (set.label_row label).2 c.add_label_name.ensures in
    omega (arith, short, more, named)
