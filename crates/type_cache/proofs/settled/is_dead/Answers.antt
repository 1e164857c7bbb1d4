use Rattle.std.proofs.Common.{◌∙◌, sym, ap}
use Rattle.atam.specs.Sites.{opposite}
use Rattle.atam.specs.TileSystem.{side_glue}
use Rattle.atam.specs.Assembly.{interaction}
use Rattle.type_cache.proofs.Settling.{dead_bare}
use Rattle.type_cache.proofs.settled.is_dead.Goals as goal

pub returns-in-None : goal.returns-in-None
returns-in-None c said = dead_bare c.args.sys.now c.args.tile c.args.side (sym c.in-None.ensures.glue)

pub returns-in-Some : goal.returns-in-Some
returns-in-Some c said u =
    let own = side_glue c.args.sys.now u (opposite c.args.side) in
    ap (λ o. interaction c.args.sys.now own o) (sym c.in-Some.ensures.glue) ∙ c.is_weak.ensures said own
