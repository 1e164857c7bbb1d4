use Rattle.std.proofs.Common.{◌++◌, length, ap, arith, ◌∙◌}
use Rattle.tile_table.proofs.Drafting.{kind_listed, kind_may_come, kind_comes}
use Rattle.tile_table.proofs.TableSpelled.{kind_short}
use Rattle.tile_table.proofs.build.push_kinds.Goals as goal

pub add_kind_name-requires-clause-listed : goal.add_kind_name-requires-clause-listed
add_kind_name-requires-clause-listed g c =
    kind_listed (g.T.Table.tiles c.args.table.now) c.requires.numbered c.requires.limits c.args.kinds.now c.requires.kinds c.loop-kind.kind-index c.loop-kind-test.true c.kind-item.result c.kind-item.is

pub add_kind_name-requires-clause-room : goal.add_kind_name-requires-clause-room
add_kind_name-requires-clause-room g c =
    let set = g.T.Table.tiles c.args.table.now in
    let listed = kind_listed set c.requires.numbered c.requires.limits c.args.kinds.now c.requires.kinds c.loop-kind.kind-index c.loop-kind-test.true c.kind-item.result c.kind-item.is in
    let short = kind_short set c.requires.limits c.kind-item.result listed in
    let none = ap length c.new-name.ensures in
    omega (arith, short, none)

pub glues_of_kind-sides-requires-clause-labels : goal.glues_of_kind-sides-requires-clause-labels
glues_of_kind-sides-requires-clause-labels g c = ap (λ d. d.glues) c.loop-kind.invariant

pub glues_of_kind-sides-requires-clause-kind : goal.glues_of_kind-sides-requires-clause-kind
glues_of_kind-sides-requires-clause-kind g c =
    kind_listed (g.T.Table.tiles c.args.table.now) c.requires.numbered c.requires.limits c.args.kinds.now c.requires.kinds c.loop-kind.kind-index c.loop-kind-test.true c.kind-item.result c.kind-item.is

pub push_type-requires : goal.push_type-requires
push_type-requires g c =
    let set = g.T.Table.tiles c.args.table.now in
    let named = c.as_slice.ensures ∙ c.add_kind_name.ensures ∙ ap (λ l. l ++ (set.kind_row c.kind-item.result).1) c.new-name.ensures in
    kind_may_come set c.requires.numbered c.requires.limits c.args.kinds.now c.requires.kinds c.loop-kind.kind-index c.loop-kind-test.true c.kind-item.result c.kind-item.is _ _ _
    c.loop-kind.invariant named c.glues_of_kind-sides.ensures

pub loop-kind-preserved : goal.loop-kind-preserved
loop-kind-preserved g c =
    let set = g.T.Table.tiles c.args.table.now in
    let named = c.as_slice.ensures ∙ c.add_kind_name.ensures ∙ ap (λ l. l ++ (set.kind_row c.kind-item.result).1) c.new-name.ensures in
    kind_comes set c.requires.numbered c.requires.limits c.args.kinds.now c.requires.kinds c.loop-kind.kind-index c.loop-kind-test.true c.kind-item.result c.kind-item.is _ _ _ _
    c.loop-kind.invariant named c.glues_of_kind-sides.ensures c.in_ok-push_type.ensures.ok
