use Rattle.std.proofs.Common.{rules, ◌≡◌, ◌<◌, ◌-◌, ℕ, Option, List, refl, ap, sym, ◌∙◌, subst, arith}
use Rattle.std.proofs.lemmas.Int.{ints}
use Rattle.atam.specs.declared.area.BoxArea.{BoxArea}
use Rattle.atam.specs.declared.place.TypeId.{TypeId}
use Rattle.atam.specs.declared.place.Place.{Place}
use Rattle.atam.specs.Sites.{width_of}
use Rattle.atam.specs.Placements.{tile_at}
use Rattle.assembly.specs.Cells.{site_at}
use Rattle.replay_order.specs.Inner.Spans.{HaveStood}
use Rattle.replay_order.proofs.ReadySites.{Fits-tile}
use Rattle.replay_order.proofs.RowBelow.{stood_far, stood_none, stood_tile, stood_lacks, stood_ready}
use Rattle.replay_order.proofs.canonical.stand_row_below.Goals as goal

pub loop-number-init : goal.loop-number-init
loop-number-init c =
    let sys = c.args.bonds.now in
    let tiles = c.args.grid.now.tiles in
    let waiting = c.args.waiting.now in
    let valid = c.requires.valid in
    let wide : 0 < width_of sys.area = omega (arith, ints, valid.box.corners.columns) in
    let wide_as : c.width-width.result ≡ width_of sys.area = c.width-width.ensures ∙ ap width_of (c.area-area.ensures.area ∙ c.requires.area) in
    record {
      same_first = refl;
      same_end = refl;
      stood =
          stood_far sys tiles c.args.first valid.distinct_seeds valid.seed_sites c.requires.seeded waiting (c.args.first - c.min.result) wide
          (λ k lower. omega (arith, lower, c.min.ensures, c.requires.first, wide_as)) c.requires.stood;
      row = search rules;
    }

-- the tile at the number's site, by the system's box
at_own : (tiles : List Place) (found : Option TypeId) (area own : BoxArea) (n : ℕ) → area ≡ own → found ≡ tile_at tiles (site_at area n) → found ≡ tile_at tiles (site_at own n)
at_own tiles found area own n same at = at ∙ ap (λ a. tile_at tiles (site_at a n)) same

pub loop-number-preserved-in_default : goal.loop-number-preserved-in_default
loop-number-preserved-in_default c =
    let sys = c.args.bonds.now in
    let tiles = c.args.grid.now.tiles in
    let valid = c.requires.valid in
    let n = c.loop-number.number in
    let at = at_own tiles c.tile.result c.args.grid.now.area sys.area n c.requires.area c.tile.ensures in
    record {
      same_first = c.loop-number.invariant.same_first;
      same_end = c.loop-number.invariant.same_end;
      stood =
          stood_none sys tiles c.args.first valid.distinct_seeds valid.seed_sites c.requires.seeded n c.loop-number-test.true c.tile.result at
          c.loop-number.waiting c.in_default.is c.loop-number.invariant.stood;
      row = c.loop-number.invariant.row;
    }

pub lower_beside-requires-clause-kind : goal.lower_beside-requires-clause-kind
lower_beside-requires-clause-kind c =
    (Fits-tile c.args.bonds.now c.args.grid.now.tiles (site_at c.args.grid.now.area c.loop-number.number) c.in-Some.tile c.requires.fits (sym c.tile.ensures ∙ c.in-Some.is)).0

pub loop-number-preserved : goal.loop-number-preserved
loop-number-preserved c =
    let sys = c.args.bonds.now in
    let tiles = c.args.grid.now.tiles in
    let valid = c.requires.valid in
    let n = c.loop-number.number in
    let old = c.loop-number.waiting in
    let new = c.lower_beside.new.self in
    let p : Place = record { site = c.site-site.result; tile = c.in-Some.tile } in
    let at = at_own tiles c.tile.result c.args.grid.now.area sys.area n c.requires.area c.tile.ensures in
    let here : p.site ≡ site_at sys.area n = c.site-site.ensures.site ∙ ap (λ a. site_at a n) (c.area-area.ensures.area ∙ c.requires.area) in
    let earlier : n < old.first = omega (arith, c.loop-number-test.true, c.requires.first, c.loop-number.invariant.same_first) in
    record {
      same_first = c.lower_beside.ensures.same_first ∙ c.loop-number.invariant.same_first;
      same_end = c.lower_beside.ensures.same_end ∙ c.loop-number.invariant.same_end;
      stood =
          stood_tile sys tiles c.args.first valid.distinct_seeds valid.seed_sites c.requires.seeded n c.loop-number-test.true c.tile.result at
          old new p c.in-Some.is here earlier old.area c.loop-number.invariant.stood.lacks.area c.lower_beside.ensures c.loop-number.invariant.stood;
      row = c.site-site.ensures.row;
    }

-- what has stood below the first number, once all have been gone through
pub returns-clause-lacks : goal.returns-clause-lacks
returns-clause-lacks c =
    let sys = c.args.bonds.now in
    let tiles = c.args.grid.now.tiles in
    let valid = c.requires.valid in
    let waiting = c.loop-number.waiting in
    let end : c.loop-number.number ≡ c.args.first = omega (arith, c.loop-number-test.false, c.loop-number.auto.number-end) in
    let stood = subst (λ (n : ℕ). HaveStood sys tiles c.args.first sys.seeds n waiting) end c.loop-number.invariant.stood in
    stood_lacks sys tiles c.args.first valid.distinct_seeds valid.seed_sites c.requires.seeded waiting stood

pub returns-clause-ready : goal.returns-clause-ready
returns-clause-ready c =
    let sys = c.args.bonds.now in
    let tiles = c.args.grid.now.tiles in
    let valid = c.requires.valid in
    let waiting = c.loop-number.waiting in
    let end : c.loop-number.number ≡ c.args.first = omega (arith, c.loop-number-test.false, c.loop-number.auto.number-end) in
    let stood = subst (λ (n : ℕ). HaveStood sys tiles c.args.first sys.seeds n waiting) end c.loop-number.invariant.stood in
    stood_ready sys tiles c.args.first valid.distinct_seeds valid.seed_sites c.requires.seeded waiting stood
