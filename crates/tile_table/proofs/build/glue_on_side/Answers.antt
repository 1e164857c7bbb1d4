use Rattle.std.proofs.Common.{sym, arith, ◌∙◌, ap, ◌++◌, length, option_map}
use Rattle.design.specs.TileSets.{glue_id}
use Rattle.tile_table.proofs.Drafting.{label_by_name}
use Rattle.tile_table.proofs.TableSpelled.{label_short}
use Rattle.tile_table.proofs.build.glue_on_side.Goals as goal

pub add_label_name-requires-clause-room : goal.add_label_name-requires-clause-room
add_label_name-requires-clause-room g c =
    let set = g.T.Table.tiles c.args.table.now in
    let listed = c.requires.numbered.sides c.args.kind c.args.side c.in_ok-label.label c.requires.kind (sym c.side.ensures ∙ c.in_ok-label.was) in
    let short = label_short set c.requires.limits c.in_ok-label.label listed in
    let none = ap length c.new-name.ensures in
    omega (arith, short, none)

pub returns : goal.returns
returns g c =
    let set = g.T.Table.tiles c.args.table.now in
    let side = sym c.side.ensures ∙ c.in_ok-label.was in
    let listed = c.requires.numbered.sides c.args.kind c.args.side c.in_ok-label.label c.requires.kind side in
    let named = c.as_slice.ensures ∙ c.add_label_name.ensures ∙ ap (λ l. l ++ (set.label_row c.in_ok-label.label).2) c.new-name.ensures in
    label_by_name set c.requires.numbered c.requires.limits c.in_ok-label.label listed c.args.builder.now _ c.find_glue.result c.requires.labels named c.find_glue.ensures
    ∙ sym (ap (option_map (glue_id set)) side)
