use Rattle.std.proofs.Common.{◌++◌, length, Option, refl, sym, subst, ap, arith, ◌∙◌}
use Rattle.std.proofs.lemmas.Option.{same_Some}
use Rattle.std.specs.Option.{IsSome}
use Rattle.atam.specs.declared.place.TypeId.{TypeId}
use Rattle.tile_table.proofs.Drafting.{kind_by_name}
use Rattle.tile_table.proofs.TableSpelled.{kind_short}
use Rattle.tile_table.proofs.build.type_of_kind.Goals as goal

pub add_kind_name-requires-clause-room : goal.add_kind_name-requires-clause-room
add_kind_name-requires-clause-room g c =
    let short = kind_short (g.T.Table.tiles c.args.table.now) c.requires.limits c.args.kind c.requires.kind in
    let none = ap length c.new-name.ensures in
    omega (arith, short, none)

pub unwrap-requires : goal.unwrap-requires
unwrap-requires g c =
    let set = g.T.Table.tiles c.args.table.now in
    let named = c.as_slice.ensures ∙ c.add_kind_name.ensures ∙ ap (λ l. l ++ (set.kind_row c.args.kind).1) c.new-name.ensures in
    subst (λ (o : Option TypeId). IsSome o)
    (sym (kind_by_name set c.requires.numbered c.requires.limits c.args.kind c.requires.kind c.args.builder.now _ c.find_type.result c.requires.kinds named c.find_type.ensures))
    refl

pub returns : goal.returns
returns g c =
    let set = g.T.Table.tiles c.args.table.now in
    let named = c.as_slice.ensures ∙ c.add_kind_name.ensures ∙ ap (λ l. l ++ (set.kind_row c.args.kind).1) c.new-name.ensures in
    same_Some _ _
    (sym c.unwrap.ensures
    ∙ kind_by_name set c.requires.numbered c.requires.limits c.args.kind c.requires.kind c.args.builder.now _ c.find_type.result c.requires.kinds named c.find_type.ensures)
