use Rattle.std.proofs.Common.{◌≤◌, ◌∷◌, [], codes, decimal, sym, ap, length, arith}
use Rattle.std.proofs.lemmas.Fmt.{length-decimal-le}
use Rattle.tile_table.proofs.Lines.{longer, named_length, label_made}
use Rattle.tile_table.proofs.TableSpelled.{label_short}
use Rattle.tile_table.proofs.print.set_label_line.Goals as goal

pub add_label_name-requires-clause-room : goal.add_label_name-requires-clause-room
add_label_name-requires-clause-room g c =
    let short = label_short (g.T.Table.tiles c.args.table.now) c.requires.limits c.args.label c.requires.listed in
    let none = ap length c.clear.ensures in
    let more = longer c.add.new.self c.clear.new.self (codes "glue ") c.add.ensures in
    omega (arith, short, none, more)

pub add-requires-2 : goal.add-requires-2
add-requires-2 g c =
    let set = g.T.Table.tiles c.args.table.now in
    let short = label_short set c.requires.limits c.args.label c.requires.listed in
    let named = named_length c.clear.new.self c.add.new.self c.add_label_name.new.text (codes "glue ") (set.label_row c.args.label).2 40 c.clear.ensures c.add.ensures c.add_label_name.ensures short in
    omega (arith, named)

pub add_number-requires : goal.add_number-requires
add_number-requires g c =
    let set = g.T.Table.tiles c.args.table.now in
    let short = label_short set c.requires.limits c.args.label c.requires.listed in
    let named = named_length c.clear.new.self c.add.new.self c.add_label_name.new.text (codes "glue ") (set.label_row c.args.label).2 40 c.clear.ensures c.add.ensures c.add_label_name.ensures short in
    let space = longer c.add-2.new.self c.add_label_name.new.text (32 ∷ []) c.add-2.ensures in
    let weak = c.requires.limits.strengths c.args.label c.requires.listed in
    let is = c.strength.ensures in
    let few : length (decimal c.strength.result) ≤ 10 = length-decimal-le 10 c.strength.result (omega arith) (omega (arith, weak, is)) (omega (arith, weak, is)) in
    omega (arith, named, space, few)

pub add-requires-3 : goal.add-requires-3
add-requires-3 g c =
    let set = g.T.Table.tiles c.args.table.now in
    let short = label_short set c.requires.limits c.args.label c.requires.listed in
    let named = named_length c.clear.new.self c.add.new.self c.add_label_name.new.text (codes "glue ") (set.label_row c.args.label).2 40 c.clear.ensures c.add.ensures c.add_label_name.ensures short in
    let space = longer c.add-2.new.self c.add_label_name.new.text (32 ∷ []) c.add-2.ensures in
    let weak = c.requires.limits.strengths c.args.label c.requires.listed in
    let is = c.strength.ensures in
    let few : length (decimal c.strength.result) ≤ 10 = length-decimal-le 10 c.strength.result (omega arith) (omega (arith, weak, is)) (omega (arith, weak, is)) in
    let digits = longer c.add_number.new.self c.add-2.new.self (decimal c.strength.result) c.add_number.ensures in
    omega (arith, named, space, few, digits)

pub returns : goal.returns
returns g c =
    rw (sym c.strength.ensures) (label_made _ _ _ _ _ _ _ _ c.clear.ensures c.add.ensures c.add_label_name.ensures c.add-2.ensures c.add_number.ensures c.add-3.ensures)
