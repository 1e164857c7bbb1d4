use Rattle.std.proofs.Common.{arith, ◌≡◌, ◌<◌, ◌+◌, ◌∙◌, subst, sym, refl}
use Rattle.std.proofs.lemmas.Bool.{eqb-true}
use Rattle.atam.specs.declared.area.BoxArea.{BoxArea}
use Rattle.atam.specs.TileSystem.{TileSystem, IsType}
use Rattle.frontier_seat.specs.declared.growing.Growing.{Growing}
use Rattle.assembly.specs.Cells.{cell_count, site_at}
use Rattle.assembly.proofs.Cells.{cell_count-most}
use Rattle.atam.specs.Growth.{IsCandidate}
use Rattle.grow_core.specs.Steps.{Supports}
use Rattle.site_table.specs.Rule.{IsPossible}
use Rattle.frontier_seat.proofs.Looked.{supported, few_tiles, claim_won, claim_lost, never_lost}
use Rattle.frontier_seat.proofs.growing.Growing.claim.Goals as goal

pub claim_at-requires-clause-supported : goal.claim_at-requires-clause-supported
claim_at-requires-clause-supported g c =
    subst (λ (z : TileSystem). Supports z c.args.self.now.seat.scout c.args.spot.site c.args.tile) (sym c.requires.system)
    (supported c.args.sys.now c.args.self.now c.args.spot.site c.args.tile c.requires.growing c.recall_possible.ensures.possible.scout.distinct c.requires.open)

pub overflow_add-self : goal.overflow_add-self
overflow_add-self g c =
    let few = few_tiles c.args.sys.now c.args.self.now c.requires.growing in
    let wins = c.requires.growing.few_wins in
    let most = cell_count-most c.args.sys.now.area c.recall_valid.ensures.valid.box in
    omega (arith, few, wins, most)

pub returns-in-Won-clause-claim : goal.returns-in-Won-clause-claim
returns-in-Won-clause-claim g c =
    let old = c.args.self.now in
    let mid : Growing = record { seat = c.claim_at.new.seat; grid = old.grid; won = old.won + 1 } in
    claim_won c.args.sys.now old mid c.put.new.self c.args.spot.site c.args.tile c.requires.growing c.requires.spot.inside c.requires.open.kind c.in-Won.ensures.seat refl refl c.in-Won.ensures.claim.1 c.put.ensures c.requires.open

pub returns-in-Held-clause-claim : goal.returns-in-Held-clause-claim
returns-in-Held-clause-claim g c =
    let old = c.args.self.now in
    let mid : Growing = record { seat = c.claim_at.new.seat; grid = old.grid; won = old.won } in
    let system = c.requires.growing.system in
    let before = subst (λ (z : TileSystem). IsPossible z old.seat.scout) system c.recall_possible.ensures.possible in
    let after = subst (λ (z : TileSystem). IsPossible z c.claim_at.new.seat.scout) (c.in-Held.ensures.seat.sys ∙ system) c.recall_possible-in-Held.ensures.possible in
    let kind = subst (λ (z : TileSystem). IsType z c.in-Held.there) c.requires.system c.in-Held.ensures.kind in
    record {
      claim = claim_lost c.args.sys.now old mid c.put-in-Held.new.self c.args.spot.site c.in-Held.there c.requires.growing c.requires.spot.inside kind c.in-Held.ensures.seat refl refl c.in-Held.ensures.claim c.put-in-Held.ensures;
      attaches = λ same.
          let one : c.args.tile.0 ≡ c.in-Held.there.0 = sym (eqb-true c.in-Held.there.0 c.args.tile.0 (sym c.eq.ensures ∙ same)) in
          let own : c.args.tile ≡ c.in-Held.there = λ i. record { 0 = one i } in
          subst (IsCandidate c.args.sys.now old.grid.tiles c.args.spot.site) own c.requires.open;
      sole = λ all. absurd (never_lost c.args.sys.now old c.claim_at.new.seat.scout c.args.spot.site c.in-Held.there c.requires.growing before after c.requires.open.attaches.empty c.in-Held.ensures.claim all);
    }

pub claim_at-requires-clause-within : goal.claim_at-requires-clause-within
claim_at-requires-clause-within g c = subst (λ (z : TileSystem). c.args.spot.number < cell_count z.area) (sym c.requires.system) c.requires.spot.within

pub claim_at-requires-clause-number : goal.claim_at-requires-clause-number
claim_at-requires-clause-number g c = subst (λ (z : TileSystem). site_at z.area c.args.spot.number ≡ c.args.spot.site) (sym c.requires.system) c.requires.spot.site

pub put-requires-clause-within : goal.put-requires-clause-within
put-requires-clause-within g c = subst (λ (a : BoxArea). c.args.spot.number < cell_count a) (sym c.requires.growing.area) c.requires.spot.within

pub put-requires-clause-number : goal.put-requires-clause-number
put-requires-clause-number g c = subst (λ (a : BoxArea). site_at a c.args.spot.number ≡ c.args.spot.site) (sym c.requires.growing.area) c.requires.spot.site

pub put-requires-in-Held-clause-within : goal.put-requires-in-Held-clause-within
put-requires-in-Held-clause-within g c = subst (λ (a : BoxArea). c.args.spot.number < cell_count a) (sym c.requires.growing.area) c.requires.spot.within

pub put-requires-in-Held-clause-number : goal.put-requires-in-Held-clause-number
put-requires-in-Held-clause-number g c = subst (λ (a : BoxArea). site_at a c.args.spot.number ≡ c.args.spot.site) (sym c.requires.growing.area) c.requires.spot.site
