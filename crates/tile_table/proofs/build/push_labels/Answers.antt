use Rattle.std.proofs.Common.{◌++◌, length, ap, arith, ◌∙◌}
use Rattle.tile_table.proofs.Drafting.{label_listed, label_may_come, label_comes}
use Rattle.tile_table.proofs.TableSpelled.{label_short}
use Rattle.tile_table.proofs.build.push_labels.Goals as goal

pub add_label_name-requires-clause-listed : goal.add_label_name-requires-clause-listed
add_label_name-requires-clause-listed g c =
    label_listed (g.T.Table.tiles c.args.table.now) c.requires.numbered c.requires.limits c.args.labels.now c.requires.labels c.loop-label.label-index c.loop-label-test.true c.label-item.result c.label-item.is

pub add_label_name-requires-clause-room : goal.add_label_name-requires-clause-room
add_label_name-requires-clause-room g c =
    let set = g.T.Table.tiles c.args.table.now in
    let listed = label_listed set c.requires.numbered c.requires.limits c.args.labels.now c.requires.labels c.loop-label.label-index c.loop-label-test.true c.label-item.result c.label-item.is in
    let short = label_short set c.requires.limits c.label-item.result listed in
    let none = ap length c.new-name.ensures in
    omega (arith, short, none)

pub push_glue-requires : goal.push_glue-requires
push_glue-requires g c =
    let set = g.T.Table.tiles c.args.table.now in
    let named = c.as_slice.ensures ∙ c.add_label_name.ensures ∙ ap (λ l. l ++ (set.label_row c.label-item.result).2) c.new-name.ensures in
    label_may_come set c.requires.numbered c.requires.limits c.args.labels.now c.requires.labels c.loop-label.label-index c.loop-label-test.true c.label-item.result c.label-item.is _ _ _
    c.loop-label.invariant named c.strength.ensures

pub loop-label-preserved : goal.loop-label-preserved
loop-label-preserved g c =
    let set = g.T.Table.tiles c.args.table.now in
    let named = c.as_slice.ensures ∙ c.add_label_name.ensures ∙ ap (λ l. l ++ (set.label_row c.label-item.result).2) c.new-name.ensures in
    label_comes set c.requires.numbered c.requires.limits c.args.labels.now c.requires.labels c.loop-label.label-index c.loop-label-test.true c.label-item.result c.label-item.is _ _ _ _
    c.loop-label.invariant named c.strength.ensures c.in_ok-push_glue.ensures.ok
