use Rattle.std.proofs.Common.{codes, ap, length, arith}
use Rattle.tile_table.proofs.Lines.{longer, named_length, kind_made}
use Rattle.tile_table.proofs.TableSpelled.{kind_short}
use Rattle.tile_table.proofs.print.set_kind_line.Goals as goal

pub add_kind_name-requires-clause-room : goal.add_kind_name-requires-clause-room
add_kind_name-requires-clause-room g c =
    let short = kind_short (g.T.Table.tiles c.args.table.now) c.requires.limits c.args.kind c.requires.listed in
    let none = ap length c.clear.ensures in
    let more = longer c.add.new.self c.clear.new.self (codes "tile ") c.add.ensures in
    omega (arith, short, none, more)

pub add_side-requires-clause-room : goal.add_side-requires-clause-room
add_side-requires-clause-room g c =
    let set = g.T.Table.tiles c.args.table.now in
    let short = kind_short set c.requires.limits c.args.kind c.requires.listed in
    let named = named_length c.clear.new.self c.add.new.self c.add_kind_name.new.text (codes "tile ") (set.kind_row c.args.kind).1 40 c.clear.ensures c.add.ensures c.add_kind_name.ensures short in
    omega (arith, named)

pub add_side-requires-2-clause-room : goal.add_side-requires-2-clause-room
add_side-requires-2-clause-room g c =
    let set = g.T.Table.tiles c.args.table.now in
    let short = kind_short set c.requires.limits c.args.kind c.requires.listed in
    let named = named_length c.clear.new.self c.add.new.self c.add_kind_name.new.text (codes "tile ") (set.kind_row c.args.kind).1 40 c.clear.ensures c.add.ensures c.add_kind_name.ensures short in
    let north = c.add_side.ensures.short in
    omega (arith, named, north)

pub add_side-requires-3-clause-room : goal.add_side-requires-3-clause-room
add_side-requires-3-clause-room g c =
    let set = g.T.Table.tiles c.args.table.now in
    let short = kind_short set c.requires.limits c.args.kind c.requires.listed in
    let named = named_length c.clear.new.self c.add.new.self c.add_kind_name.new.text (codes "tile ") (set.kind_row c.args.kind).1 40 c.clear.ensures c.add.ensures c.add_kind_name.ensures short in
    let north = c.add_side.ensures.short in
    let east = c.add_side-2.ensures.short in
    omega (arith, named, north, east)

pub add_side-requires-4-clause-room : goal.add_side-requires-4-clause-room
add_side-requires-4-clause-room g c =
    let set = g.T.Table.tiles c.args.table.now in
    let short = kind_short set c.requires.limits c.args.kind c.requires.listed in
    let named = named_length c.clear.new.self c.add.new.self c.add_kind_name.new.text (codes "tile ") (set.kind_row c.args.kind).1 40 c.clear.ensures c.add.ensures c.add_kind_name.ensures short in
    let north = c.add_side.ensures.short in
    let east = c.add_side-2.ensures.short in
    let south = c.add_side-3.ensures.short in
    omega (arith, named, north, east, south)

pub add-requires-2 : goal.add-requires-2
add-requires-2 g c =
    let set = g.T.Table.tiles c.args.table.now in
    let short = kind_short set c.requires.limits c.args.kind c.requires.listed in
    let named = named_length c.clear.new.self c.add.new.self c.add_kind_name.new.text (codes "tile ") (set.kind_row c.args.kind).1 40 c.clear.ensures c.add.ensures c.add_kind_name.ensures short in
    let north = c.add_side.ensures.short in
    let east = c.add_side-2.ensures.short in
    let south = c.add_side-3.ensures.short in
    let west = c.add_side-4.ensures.short in
    omega (arith, named, north, east, south, west)

pub returns : goal.returns
returns g c =
    kind_made _ _ _ _ _ _ _ _ _ _ _ _ _ c.clear.ensures c.add.ensures c.add_kind_name.ensures c.add_side.ensures.word c.add_side-2.ensures.word c.add_side-3.ensures.word c.add_side-4.ensures.word c.add-2.ensures
