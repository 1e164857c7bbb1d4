use Rattle.std.proofs.Common.{◌∙◌, ap}
use Rattle.tile_system.proofs.Drafts.{IsComplete-one}
use Rattle.tile_table.proofs.build.build_system.Goals as goal

pub build-requires : goal.build-requires
build-requires g c =
    IsComplete-one _ c.args.area _ (ap (λ d. d.area) c.set_seed.ensures ∙ ap (λ d. d.area) c.set_area.ensures) (ap (λ d. d.seeds) c.set_seed.ensures) c.requires.start
