use Rattle.std.proofs.Common.{codes, ap, length, arith}
use Rattle.tile_table.proofs.Lines.{longer, named_length, seed_made}
use Rattle.tile_table.proofs.TableSpelled.{kind_short}
use Rattle.tile_table.proofs.print.set_seed_line.Goals as goal

pub add_kind_name-requires-clause-room : goal.add_kind_name-requires-clause-room
add_kind_name-requires-clause-room g c =
    let short = kind_short (g.T.Table.tiles c.args.table.now) c.requires.limits c.args.kind c.requires.listed in
    let none = ap length c.clear.ensures in
    let more = longer c.add.new.self c.clear.new.self (codes "seed 0 0 ") c.add.ensures in
    omega (arith, short, none, more)

pub add-requires-2 : goal.add-requires-2
add-requires-2 g c =
    let set = g.T.Table.tiles c.args.table.now in
    let short = kind_short set c.requires.limits c.args.kind c.requires.listed in
    let named = named_length c.clear.new.self c.add.new.self c.add_kind_name.new.text (codes "seed 0 0 ") (set.kind_row c.args.kind).1 40 c.clear.ensures c.add.ensures c.add_kind_name.ensures short in
    omega (arith, named)

pub returns : goal.returns
returns g c = seed_made _ _ _ _ _ c.clear.ensures c.add.ensures c.add_kind_name.ensures c.add-2.ensures
