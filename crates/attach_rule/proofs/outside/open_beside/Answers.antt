use Rattle.std.proofs.Common.{◌≡◌, subst, Option, None, option_and_then}
use Rattle.atam.specs.declared.site.Side.{Side}
use Rattle.atam.specs.declared.site.Site.{Site}
use Rattle.atam.specs.declared.place.GlueId.{GlueId}
use Rattle.atam.specs.declared.place.TypeId.{TypeId}
use Rattle.atam.specs.Placements.{tile_at}
use Rattle.atam.specs.Sites.{neighbor, opposite}
use Rattle.atam.specs.TileSystem.{side_glue}
use Rattle.atam.specs.Growth.{IsCandidate}
use Rattle.attach_rule.proofs.Ring.{none_beside}
use Rattle.attach_rule.proofs.outside.open_beside.Goals as goal

-- no glue of the only tile that may stand beside the site faces it
pub returns-in_default : goal.returns-in_default
returns-in_default g c = λ m t same grows.
    let sys = c.args.sys.now in
    let tiles = g.P.Placed.placements c.args.placed.now in
    let d = c.args.side in
    let glue : Side → Option TypeId → Option GlueId = λ e o. option_and_then (λ u. side_glue sys u e) o in
    let there : c.at.result ≡ tile_at tiles (neighbor c.args.site d) = subst (λ (n : Site). c.at.result ≡ tile_at tiles n) c.step.ensures c.at.ensures.tile in
    let own : glue c.opposite.result c.at.result ≡ None = subst (λ (h : Option GlueId). h ≡ None) c.glue_of.ensures c.in_default.is in
    let faces : glue (opposite d) c.at.result ≡ None = subst (λ (e : Side). glue e c.at.result ≡ None) c.opposite.ensures own in
    none_beside sys tiles c.args.site d c.recall_valid.ensures.valid.some_tau c.requires.fits c.requires.beside
    (subst (λ (o : Option TypeId). glue (opposite d) o ≡ None) there faces) t
    (subst (λ (n : Site). IsCandidate sys tiles n t) same grows)
