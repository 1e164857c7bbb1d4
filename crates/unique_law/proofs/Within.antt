-- Where some list is deterministic within the box, or an outcome's verdict says so, there is one outcome.
use Rattle.std.proofs.Common.{◌≡◌, ◌↔◌, List, Some, get_or, subst}
use Rattle.std.proofs.lemmas.List.Elements.{All-contains, Contains-get_or}
use Rattle.atam.specs.declared.site.Site.{Site}
use Rattle.atam.specs.declared.place.TypeId.{TypeId}
use Rattle.atam.specs.declared.place.Place.{Place}
use Rattle.atam.specs.Sites.{InBox}
use Rattle.atam.specs.Placements.{HasDistinctSites, IsPartOf, SamePlacements}
use Rattle.atam.specs.TileSystem.{TileSystem, IsType}
use Rattle.atam.specs.Growth.{IsLegal, IsProducible, GrowsInto, IsClosedInBox, IsFullGrowth, IsLeastOpenSite, IsLeastOpenOutside}
use Rattle.atam.specs.Determinism.{HasExactInputs, HasNoRivals}
use Rattle.atam.proofs.Sequences.{IsLegal-distinct}
use Rattle.atam.proofs.Closure.{closure_of_part}
use Rattle.atam.proofs.Canon.{canonical_unique, canonical_too, canonical_same, canonical_IsLegal, producible_seeded, producible_types}
use Rattle.atam.proofs.Open.{least_open_unique, least_open_same}
use Rattle.atam.proofs.Opening.{IsCandidate-same}
use Rattle.atam.proofs.Confluence.{Settles, settled, settled_part}
use Rattle.atam.proofs.Extension.{legal_extension}
use Rattle.atam.proofs.SameVerdict.{exact_too, no_rival_too}
use Rattle.atam.proofs.Tiles.{SamePlacements-trans, SameTiles-from, same_back}
use Rattle.atam.specs.declared.verdict.Verdict.{Verdict}
use Rattle.atam.specs.declared.verdict.Verdict.TheVariants.{Yes, NotExact, Rival, NotTerminal}
use Rattle.local_check.specs.Judgement.{IsVerdict}
use Rattle.local_check.proofs.Verdicts.{verdict_unique}
use Rattle.unique_law.specs.Matches.{IsMatchedIn}
use Rattle.unique_law.specs.Outcomes.{Outcome, IsOutcome}
use Rattle.unique_law.specs.Within.{LiesInBox, IsDeterministicWithin, IsYesWithin, IsWithinInSomeOrder}

-- lists with the same placements have one outcome
pub outcome_by_placements : (sys : TileSystem) (a b : List Place) (o p : Outcome) → IsOutcome sys a o → IsOutcome sys b p → SamePlacements a b → o ≡ p
outcome_by_placements sys a b o p of_a of_b same =
    let order : o.order ≡ p.order = canonical_unique sys b of_b.full.distinct o.order p.order (canonical_too sys a b same o.order of_a.canonical) of_b.canonical in
    let Outside : Site → Type 0 = λ m. ¬ InBox sys.area m in
    let outside : o.outside ≡ p.outside =
    least_open_unique sys b Outside o.outside p.outside (least_open_same sys a b Outside o.outside (SameTiles-from a b of_a.full.distinct same) of_a.least) of_b.least
    in
    let judged : IsVerdict sys p.order o.verdict = subst (λ s. IsVerdict sys s o.verdict) order of_a.judged in
    let verdict : o.verdict ≡ p.verdict = verdict_unique sys p.order o.verdict p.verdict judged of_b.judged in
    λ i. record { order = order i; outside = outside i; verdict = verdict i }

-- conditions 1 and 2, by the verdict
conditions_told : (sys : TileSystem) (s : List Place) (v : Verdict) → IsYesWithin v → IsVerdict sys s v → HasExactInputs sys s × HasNoRivals sys s
conditions_told sys s Yes yes_it_is ld = (ld.exact, ld.no_rival)
conditions_told sys s (NotExact m sum) yes_it_is judged = absurd yes_it_is
conditions_told sys s (Rival m t) yes_it_is judged = absurd yes_it_is
conditions_told sys s (NotTerminal m t) yes_it_is judged = (judged.0, judged.1)

-- and the verdict by them
told_within : (sys : TileSystem) (s : List Place) (v : Verdict) → IsVerdict sys s v → HasExactInputs sys s → HasNoRivals sys s → IsYesWithin v
told_within sys s Yes judged exact no_rival = tt
told_within sys s (NotExact m sum) judged exact no_rival = judged.fails (exact judged.index judged.item judged.later judged.there)
told_within sys s (Rival m t) judged exact no_rival = let first = judged.1 in no_rival first.index first.item t first.later first.there first.told.1.holds
told_within sys s (NotTerminal m t) judged exact no_rival = tt

module _ (sys : TileSystem) (seeds_distinct : HasDistinctSites sys.seeds) where
  -- a list in the box settles each sequence of a closed assembly: then the assembly has its places
  pub settled_growth : (s tiles : List Place) → LiesInBox sys s → HasDistinctSites tiles → (producible : IsProducible sys tiles) → Settles sys s producible.sequence →
      IsClosedInBox sys tiles → SamePlacements tiles s
  settled_growth s tiles inside distinct producible settles closed =
      let b_in_s : IsPartOf producible.sequence s = settled_part sys s producible.sequence seeds_distinct settles producible.legal in
      let tiles_in_s : IsPartOf tiles s = λ p placed. b_in_s p (producible.same.whole p placed) in
      let itself : IsProducible sys s = record { sequence = s; legal = settles.legal; same = record { part = λ p h. h; whole = λ p h. h } } in
      closure_of_part sys s tiles seeds_distinct (IsLegal-distinct sys s seeds_distinct settles.legal) distinct itself tiles_in_s
      (producible_seeded sys tiles seeds_distinct producible)
      (λ p in_s attaches. closed p.site p.tile
      (All-contains (λ q. InBox sys.area q.site) s p inside in_s)
      (record { kind = All-contains (λ q. IsType sys q.tile) s p settles.legal.types in_s; attaches = attaches }))

  -- nothing in the box attaches to a list that is deterministic within it
  within_settles : (a b : List Place) → IsDeterministicWithin sys a → LiesInBox sys b → Settles sys a b
  within_settles a b within inside = record {
    legal = within.legal;
    exact = within.exact;
    no_rival = within.no_rival;
    closed = λ p in_b. within.closed p.site p.tile (All-contains (λ q. InBox sys.area q.site) b p inside in_b);
  }

  pub matched_within : (a b : List Place) → IsDeterministicWithin sys a → IsLegal sys b → LiesInBox sys b → IsMatchedIn sys a b
  matched_within a b within legal inside i p there =
      let match = settled sys a b seeds_distinct (within_settles a b within inside) legal i p there in
      record { index = match.index; there = match.there; inputs = match.inputs }

  pub grows_within : (a b : List Place) → IsDeterministicWithin sys a → IsLegal sys b → LiesInBox sys b → GrowsInto sys b a
  grows_within a b within legal inside =
      legal_extension sys a b seeds_distinct within.legal legal (settled_part sys a b seeds_distinct (within_settles a b within inside) legal)

  -- such a list is a full growth
  pub within_full : (s : List Place) → IsDeterministicWithin sys s → IsFullGrowth sys s
  within_full s within = record {
    distinct = IsLegal-distinct sys s seeds_distinct within.legal;
    inside = within.inside;
    producible = record { sequence = s; legal = within.legal; same = record { part = λ p h. h; whole = λ p h. h } };
    closed = within.closed;
  }

  -- and each full growth has its places
  pub full_growth_within : (s tiles : List Place) → IsDeterministicWithin sys s → IsFullGrowth sys tiles → SamePlacements tiles s
  full_growth_within s tiles within full =
      let b = full.producible.sequence in
      let inside : LiesInBox sys b = λ k d below.
      All-contains (λ q. InBox sys.area q.site) tiles (get_or b k d) full.inside (full.producible.same.part (get_or b k d) (Contains-get_or b k d below))
      in
      settled_growth s tiles within.inside full.distinct full.producible (within_settles s b within inside) full.closed

  module _ (tiles : List Place) (o : Outcome) (outcome : IsOutcome sys tiles o) where
    order_same : SamePlacements o.order tiles
    order_same = canonical_same sys tiles o.order seeds_distinct outcome.full.distinct outcome.full.producible outcome.canonical

    order_legal : IsLegal sys o.order
    order_legal = canonical_IsLegal sys tiles o.order outcome.full.distinct (producible_types sys tiles outcome.full.producible) seeds_distinct outcome.canonical

    -- the sequence of an outcome is deterministic within the box where its verdict says so
    order_within : IsYesWithin o.verdict → IsDeterministicWithin sys o.order
    order_within yes_it_is =
        let conditions = conditions_told sys o.order o.verdict yes_it_is outcome.judged in
        let tiles_same = SameTiles-from o.order tiles (IsLegal-distinct sys o.order seeds_distinct order_legal) order_same in
        record {
          legal = order_legal;
          exact = conditions.0;
          no_rival = conditions.1;
          closed = λ m t within grows. outcome.full.closed m t within (IsCandidate-same sys o.order tiles m t tiles_same grows);
          inside = λ k d below.
              All-contains (λ q. InBox sys.area q.site) tiles (get_or o.order k d) outcome.full.inside (order_same.part (get_or o.order k d) (Contains-get_or o.order k d below));
        }

    -- and its verdict says so where some list is
    pub within_throughout : (s : List Place) → IsDeterministicWithin sys s → IsYesWithin o.verdict
    within_throughout s within =
        let same : SamePlacements s o.order =
        SamePlacements-trans s tiles o.order (same_back tiles s (full_growth_within s tiles within outcome.full)) (same_back o.order tiles order_same)
        in
        told_within sys o.order o.verdict outcome.judged
        (exact_too sys s o.order seeds_distinct within.legal order_legal same within.exact within.no_rival)
        (no_rival_too sys s o.order seeds_distinct within.legal order_legal same within.exact within.no_rival)

    pub within_in_its_order : IsYesWithin o.verdict ↔ IsDeterministicWithin sys o.order
    within_in_its_order = (order_within, within_throughout o.order)

    pub within_in_some_order : IsYesWithin o.verdict ↔ IsWithinInSomeOrder sys tiles
    within_in_some_order = (
      λ yes_it_is. record { sequence = o.order; deterministic = order_within yes_it_is; same = order_same },
      λ some. within_throughout some.sequence some.deterministic,
    )

    pub grows_into_outcome_within : (b : List Place) → IsYesWithin o.verdict → IsLegal sys b → LiesInBox sys b → GrowsInto sys b tiles
    grows_into_outcome_within b yes_it_is legal inside =
        let grown = grows_within o.order b (order_within yes_it_is) legal inside in
        record {
          sequence = grown.sequence;
          legal = grown.legal;
          begins = grown.begins;
          same = SamePlacements-trans grown.sequence o.order tiles grown.same order_same;
        }

    -- a site that the verdict names is the least open one outside
    pub names_site_outside : (m : Site) (t : TypeId) → o.verdict ≡ NotTerminal m t → ¬ InBox sys.area m × (o.outside ≡ Some (m, t))
    names_site_outside m t named =
        let judged : IsVerdict sys o.order (NotTerminal m t) = subst (IsVerdict sys o.order) named outcome.judged in
        let tiles_same = SameTiles-from o.order tiles (IsLegal-distinct sys o.order seeds_distinct order_legal) order_same in
        let least : IsLeastOpenSite sys tiles (λ n. Unit {0}) m t = least_open_same sys o.order tiles (λ n. Unit {0}) (Some (m, t)) tiles_same judged.2 in
        let out : ¬ InBox sys.area m = λ within. outcome.full.closed m t within least.grows in
        let least_outside : IsLeastOpenOutside sys tiles (Some (m, t)) = record {
          among = out;
          grows = least.grows;
          least_site = λ n u beyond. least.least_site n u tt;
          least_type = least.least_type;
        }
        in
        (out, least_open_unique sys tiles (λ n. ¬ InBox sys.area n) o.outside (Some (m, t)) outcome.least least_outside)

  -- so such an outcome is the only one
  pub one_outcome_within : (a b : List Place) (o p : Outcome) → IsOutcome sys a o → IsYesWithin o.verdict → IsOutcome sys b p → SamePlacements a b × (o ≡ p)
  one_outcome_within a b o p of_a yes_it_is of_b =
      let b_order : SamePlacements b o.order = full_growth_within o.order b (order_within a o of_a yes_it_is) of_b.full in
      let same : SamePlacements a b = same_back b a (SamePlacements-trans b o.order a b_order (order_same a o of_a)) in
      (same, outcome_by_placements sys a b o p of_a of_b same)

  -- conditions 1 and 2 are of the placements
  pub conditions_by_placements : (a b : List Place) → IsLegal sys a → IsLegal sys b → SamePlacements a b →
      (HasExactInputs sys a × HasNoRivals sys a) ↔ (HasExactInputs sys b × HasNoRivals sys b)
  conditions_by_placements a b legal_a legal_b same =
      let back = same_back a b same in (
        λ h. (exact_too sys a b seeds_distinct legal_a legal_b same h.0 h.1, no_rival_too sys a b seeds_distinct legal_a legal_b same h.0 h.1),
        λ h. (exact_too sys b a seeds_distinct legal_b legal_a back h.0 h.1, no_rival_too sys b a seeds_distinct legal_b legal_a back h.0 h.1),
      )
