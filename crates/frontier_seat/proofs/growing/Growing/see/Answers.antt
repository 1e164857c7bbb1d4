use Rattle.std.proofs.Common.{◌≡◌, ◌<◌, refl, sym, subst}
use Rattle.atam.specs.declared.area.BoxArea.{BoxArea}
use Rattle.assembly.specs.Cells.{cell_count, site_at}
use Rattle.atam.specs.TileSystem.{TileSystem, IsType}
use Rattle.frontier_seat.specs.declared.growing.Growing.{Growing}
use Rattle.frontier_seat.proofs.Looked.{claim_lost}
use Rattle.frontier_seat.proofs.growing.Growing.see.Goals as goal

pub returns-clause-sees : goal.returns-clause-sees
returns-clause-sees c =
    let old = c.args.self.now in
    let mid : Growing = record { seat = c.look_at.new.seat; grid = old.grid; won = old.won } in
    let sees = c.in-Some.ensures.sees in
    let kind = subst (λ (z : TileSystem). IsType z c.in-Some.tile) c.requires.system c.in-Some.ensures.kind in
    claim_lost c.args.sys.now old mid c.put.new.self c.args.spot.site c.in-Some.tile c.requires.growing c.requires.spot.inside kind c.look_at.ensures.seat refl refl sees c.put.ensures

pub put-requires-clause-within : goal.put-requires-clause-within
put-requires-clause-within c = subst (λ (a : BoxArea). c.args.spot.number < cell_count a) (sym c.requires.growing.area) c.requires.spot.within

pub put-requires-clause-number : goal.put-requires-clause-number
put-requires-clause-number c = subst (λ (a : BoxArea). site_at a c.args.spot.number ≡ c.args.spot.site) (sym c.requires.growing.area) c.requires.spot.site
