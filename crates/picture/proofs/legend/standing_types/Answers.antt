use Rattle.std.proofs.Common.{◌≡◌, ◌*◌, arith}
use Rattle.picture.proofs.Legends.{none_marked, marked_more, marked_all}
use Rattle.picture.proofs.legend.standing_types.Goals as goal

pub loop-index-init : goal.loop-index-init
loop-index-init c = λ t less. none_marked 62 t

pub loop-index-preserved : goal.loop-index-preserved
loop-index-preserved c = λ t less.
    let long = c.loop-index-test.array_long in
    marked_more c.args.grid.now c.loop-index.index t _ _ _ _ _ (c.loop-index.invariant t less) (c.mark.ensures.marked t (omega (arith, long, less)))
    c.area-area.ensures.area c.site_of_index.ensures.site c.at.ensures.tile

pub returns : goal.returns
returns c = λ t less.
    let to_end = c.loop-index-test.false in
    let within = c.loop-index.auto.index-end in
    let all : c.loop-index.index ≡ c.width.result * c.height.result = omega (arith, to_end, within) in
    marked_all c.args.grid.now c.loop-index.index c.width.result c.height.result t _ _ (c.loop-index.invariant t less) c.area-area.ensures.area all c.width.ensures c.height.ensures
    c.area-area.ensures.distinct c.area-area.ensures.inside
