use Rattle.std.proofs.Common.{subst, sym, ap, ◌∙◌}
use Rattle.atam.specs.TileSystem.{TileSystem}
use Rattle.frontier_seat.specs.Inner.Pickers.{IsPickerOf}
use Rattle.frontier_seat.proofs.Looked.{growth_start}
use Rattle.frontier_seat.proofs.scout.Scout.with_types.Goals as goal

pub invariant_of-result : goal.invariant_of-result
invariant_of-result c =
    let system = c.requires.system in (
      growth_start c.args.sys.now c.args.seat c.args.seen system c.requires.area c.requires.seen c.recall_sites.ensures.distinct c.recall_possible.ensures.possible,
      subst (λ (z : TileSystem). IsPickerOf z c.in-Ok.picker) (sym system) c.in-Ok.ensures,
      c.in-Ok-make.ensures.area ∙ (c.area-area.ensures.area ∙ ap (λ (z : TileSystem). z.area) (sym system)),
      c.in-Ok-make.ensures.none,
    )
