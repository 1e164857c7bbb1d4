use Rattle.std.proofs.Common.{[], refl, ◌≡◌, ◌<◌, ◌≤◌, ℕ, List, length, Some, slice_get, get_or, All, ap, sym, ◌∙◌, subst, arith}
use Rattle.std.proofs.lemmas.List.{take_all}
use Rattle.std.proofs.lemmas.Option.{slice_get-get_or}
use Rattle.atam.specs.declared.site.Site.{Site}
use Rattle.atam.specs.declared.place.Place.{Place}
use Rattle.atam.specs.declared.area.BoxArea.{BoxArea}
use Rattle.atam.specs.Sites.{InBox}
use Rattle.atam.proofs.Lists.{All-slice_get}
use Rattle.assembly.specs.Cells.{cell_count, site_at}
use Rattle.replay_order.specs.Inner.Spans.{HaveStood}
use Rattle.replay_order.proofs.SeedsFrom.{none_from, stood_below, stood_from}
use Rattle.replay_order.proofs.canonical.stand_seeds.Goals as goal

-- the seed with this index, by the list that is gone through
seed_of : (items seeds : List Place) (k : ℕ) (e : Place) → items ≡ seeds → k < length items → slice_get seeds k ≡ Some (get_or items k e)
seed_of items seeds k e same within =
    let At : List Place → Type 0 = λ l. slice_get l k ≡ Some (get_or items k e) in
    subst At same (slice_get-get_or items k e within)

-- its site is in the box
seed_inside : (seeds : List Place) (k : ℕ) (p : Place) (own area : BoxArea) → area ≡ own → All (λ q. InBox own q.site) seeds → slice_get seeds k ≡ Some p → InBox area p.site
seed_inside seeds k p own area same inside there = subst (λ a. InBox a p.site) (sym same) (All-slice_get (λ q. InBox own q.site) seeds k p inside there)

-- its number, by the system's box
number_at : (area own : BoxArea) (number : ℕ) (m : Site) → area ≡ own → site_at area number ≡ m → site_at own number ≡ m
number_at area own number m same at = ap (λ a. site_at a number) (sym same) ∙ at

pub lower_beside-requires-clause-area : goal.lower_beside-requires-clause-area
lower_beside-requires-clause-area c = c.requires.area ∙ sym c.loop-seed.invariant.stood.lacks.area

pub lower_beside-requires-clause-inside : goal.lower_beside-requires-clause-inside
lower_beside-requires-clause-inside c =
    let there = seed_of c.seeds-seed-items.result.now c.args.bonds.now.seeds c.loop-seed.seed-index _ (c.seeds-seed-items.ensures.seeds ∙ ap (λ s. s.seeds) c.system.ensures) c.loop-seed-test.true in
    seed_inside c.args.bonds.now.seeds c.loop-seed.seed-index _ c.args.bonds.now.area c.loop-seed.waiting.area c.loop-seed.invariant.stood.lacks.area c.requires.valid.seed_sites there

pub lower_beside-requires-clause-within : goal.lower_beside-requires-clause-within
lower_beside-requires-clause-within c =
    omega (arith, c.site_index-number.ensures.within, ap cell_count (c.area-area.ensures.area ∙ c.requires.area ∙ sym c.loop-seed.invariant.stood.lacks.area))

pub lower_beside-requires-clause-number : goal.lower_beside-requires-clause-number
lower_beside-requires-clause-number c =
    ap (λ a. site_at a c.site_index-number.result) (sym (c.area-area.ensures.area ∙ c.requires.area ∙ sym c.loop-seed.invariant.stood.lacks.area)) ∙ c.site_index-number.ensures.site

pub loop-seed-init : goal.loop-seed-init
loop-seed-init c = record {
  same_first = refl;
  same_end = refl;
  stood = record { begun = []; seeds_from = none_from c.args.bonds.now.area c.args.first; lacks = c.requires.lacks; ready = c.requires.ready };
}

pub loop-seed-preserved-then-number-first : goal.loop-seed-preserved-then-number-first
loop-seed-preserved-then-number-first c =
    let sys = c.args.bonds.now in
    let k = c.loop-seed.seed-index in
    let there = seed_of c.seeds-seed-items.result.now sys.seeds k _ (c.seeds-seed-items.ensures.seeds ∙ ap (λ s. s.seeds) c.system.ensures) c.loop-seed-test.true in
    let here = number_at c.area-area.result sys.area c.site_index-number.result _ (c.area-area.ensures.area ∙ c.requires.area) c.site_index-number.ensures.site in
    record {
      same_first = c.loop-seed.invariant.same_first;
      same_end = c.loop-seed.invariant.same_end;
      stood = stood_below sys c.args.grid.now.tiles c.args.first k _ c.site_index-number.result there here c.loop-seed.waiting c.if-number-first.true c.loop-seed.invariant.stood;
    }

pub loop-seed-preserved : goal.loop-seed-preserved
loop-seed-preserved c =
    let sys = c.args.bonds.now in
    let tiles = c.args.grid.now.tiles in
    let k = c.loop-seed.seed-index in
    let there = seed_of c.seeds-seed-items.result.now sys.seeds k _ (c.seeds-seed-items.ensures.seeds ∙ ap (λ s. s.seeds) c.system.ensures) c.loop-seed-test.true in
    let here = number_at c.area-area.result sys.area c.site_index-number.result _ (c.area-area.ensures.area ∙ c.requires.area) c.site_index-number.ensures.site in
    let old = c.loop-seed.waiting in
    record {
      same_first = c.lower_beside.ensures.same_first ∙ c.loop-seed.invariant.same_first;
      same_end = c.lower_beside.ensures.same_end ∙ c.loop-seed.invariant.same_end;
      stood =
          stood_from sys tiles c.args.first k _ c.site_index-number.result there here old c.lower_beside.new.self c.requires.valid.distinct_seeds c.requires.seeded
          old.area c.loop-seed.invariant.stood.lacks.area c.lower_beside.ensures (omega (arith, c.if-number-first.false)) c.loop-seed.invariant.stood;
    }

pub returns-clause-stood : goal.returns-clause-stood
returns-clause-stood c =
    let seeds = c.args.bonds.now.seeds in
    let all : length seeds ≤ c.loop-seed.seed-index = omega (arith, ap length (c.seeds-seed-items.ensures.seeds ∙ ap (λ s. s.seeds) c.system.ensures), c.loop-seed-test.false) in
    subst (λ (l : List Place). HaveStood c.args.bonds.now c.args.grid.now.tiles c.args.first l 0 c.loop-seed.waiting) (take_all c.loop-seed.seed-index seeds all) c.loop-seed.invariant.stood
