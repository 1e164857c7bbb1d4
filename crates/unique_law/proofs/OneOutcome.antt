-- A locally deterministic sequence in the box leaves one outcome.
use Rattle.std.proofs.Common.{◌≡◌, ◌≤◌, ◌↔◌, List, All, sym, subst}
use Rattle.atam.specs.declared.place.Place.{Place}
use Rattle.atam.specs.Sites.{InBox}
use Rattle.atam.specs.Placements.{HasDistinctSites, SamePlacements}
use Rattle.atam.specs.TileSystem.{TileSystem}
use Rattle.atam.specs.Growth.{IsLegal, IsProducible, GrowsInto, IsClosedInBox, IsFullGrowth}
use Rattle.atam.specs.Canonical.{IsCanonical}
use Rattle.atam.specs.Determinism.{IsLocallyDeterministic, IsDeterministicInBox}
use Rattle.atam.proofs.Canon.{canonical_same, canonical_IsLegal, producible_seeded, producible_types}
use Rattle.atam.proofs.Existence.{canonical_exists}
use Rattle.atam.proofs.Deciding.{least_outside_exists}
use Rattle.atam.proofs.Confluence.{confluence, deterministic_settles}
use Rattle.atam.proofs.Extension.{deterministic_extension}
use Rattle.atam.proofs.SameVerdict.{same_verdict}
use Rattle.atam.proofs.Tiles.{SamePlacements-trans, same_back}
use Rattle.atam.specs.declared.verdict.Verdict.{Verdict}
use Rattle.atam.specs.declared.verdict.Verdict.TheVariants.{Yes}
use Rattle.local_check.specs.Judgement.{IsVerdict}
use Rattle.local_check.proofs.Existence.{verdict_exists}
use Rattle.local_check.proofs.Verdicts.{verdict_yes}
use Rattle.unique_law.specs.Matches.{IsMatchedIn}
use Rattle.unique_law.specs.Outcomes.{Outcome, IsOutcome, IsDeterministicInSomeOrder}
use Rattle.unique_law.specs.Within.{IsDeterministicWithin, IsYesWithin}
use Rattle.unique_law.proofs.Within.{settled_growth, within_full, one_outcome_within}

pub matched : (sys : TileSystem) (a b : List Place) → HasDistinctSites sys.seeds → IsLocallyDeterministic sys a → IsLegal sys b → IsMatchedIn sys a b
matched sys a b distinct ld legal i p there =
    let match = confluence sys a b distinct ld legal i p there in
    record { index = match.index; there = match.there; inputs = match.inputs }

-- a full growth has an outcome
pub outcome_exists : (sys : TileSystem) (tiles : List Place) → 1 ≤ sys.tau → HasDistinctSites sys.seeds → IsFullGrowth sys tiles → (o : Outcome) × IsOutcome sys tiles o
outcome_exists sys tiles some_tau seeds_distinct full =
    let order = canonical_exists sys tiles full.distinct seeds_distinct (producible_seeded sys tiles seeds_distinct full.producible) in
    let legal : IsLegal sys order.0 = canonical_IsLegal sys tiles order.0 full.distinct (producible_types sys tiles full.producible) seeds_distinct order.1 in
    let outside = least_outside_exists sys tiles some_tau in
    let verdict = verdict_exists sys order.0 some_tau legal in (
      record { order = order.0; outside = outside.0; verdict = verdict.0 },
      record { full = full; canonical = order.1; least = outside.1; judged = verdict.1 },
    )

-- a locally deterministic list in the box is deterministic within it
pub deterministic_within : (sys : TileSystem) (s : List Place) → IsDeterministicInBox sys s → IsDeterministicWithin sys s
deterministic_within sys s found =
    let ld = found.deterministic in
    record { legal = ld.legal; exact = ld.exact; no_rival = ld.no_rival; closed = λ m t inside. ld.terminal m t; inside = found.inside }

module _ (sys : TileSystem) (seeds_distinct : HasDistinctSites sys.seeds) where
  -- a locally deterministic sequence in the box is a full growth
  pub deterministic_full : (s : List Place) → IsDeterministicInBox sys s → IsFullGrowth sys s
  deterministic_full s found = within_full sys seeds_distinct s (deterministic_within sys s found)

  -- a producible assembly that is closed in the box has the places of a locally deterministic sequence there
  pub one_full_growth : (s tiles : List Place) → IsLocallyDeterministic sys s → All (λ p. InBox sys.area p.site) s →
      HasDistinctSites tiles → IsProducible sys tiles → IsClosedInBox sys tiles → SamePlacements tiles s
  one_full_growth s tiles ld inside distinct producible =
      settled_growth sys seeds_distinct s tiles inside distinct producible (deterministic_settles sys s producible.sequence ld)

  -- an outcome with the verdict yes is the only one
  pub one_outcome : (a b : List Place) (o p : Outcome) → IsOutcome sys a o → o.verdict ≡ Yes → IsOutcome sys b p → SamePlacements a b × (o ≡ p)
  one_outcome a b o p of_a yes_it_is = one_outcome_within sys seeds_distinct a b o p of_a (subst IsYesWithin (sym yes_it_is) tt)

  -- the verdict is that of any order of the places
  pub yes_in_some_order : (tiles order : List Place) (v : Verdict) → HasDistinctSites tiles → IsProducible sys tiles → IsCanonical sys tiles order →
      IsVerdict sys order v → (v ≡ Yes) ↔ IsDeterministicInSomeOrder sys tiles
  yes_in_some_order tiles order v distinct producible canonical judged =
      let same : SamePlacements order tiles = canonical_same sys tiles order seeds_distinct distinct producible canonical in
      let legal : IsLegal sys order = canonical_IsLegal sys tiles order distinct (producible_types sys tiles producible) seeds_distinct canonical in
      let told = verdict_yes sys order v judged in (
        λ yes_it_is. record { sequence = order; deterministic = told.0 yes_it_is; same = same },
        λ some.
            let both : SamePlacements some.sequence order = SamePlacements-trans some.sequence tiles order some.same (same_back order tiles same) in
            told.1 ((same_verdict sys some.sequence order seeds_distinct some.deterministic.legal legal both).0 some.deterministic),
      )

  -- the verdict is yes where some sequence in the box is locally deterministic
  pub yes_throughout : (s tiles : List Place) (o : Outcome) → IsLocallyDeterministic sys s → All (λ p. InBox sys.area p.site) s → IsOutcome sys tiles o → o.verdict ≡ Yes
  yes_throughout s tiles o ld inside of_tiles =
      let same = one_full_growth s tiles ld inside of_tiles.full.distinct of_tiles.full.producible of_tiles.full.closed in
      (yes_in_some_order tiles o.order o.verdict of_tiles.full.distinct of_tiles.full.producible of_tiles.canonical of_tiles.judged).1
      (record { sequence = s; deterministic = ld; same = same_back tiles s same })

  -- and each legal sequence grows into the assembly where it is
  pub grows_into_outcome : (tiles b : List Place) (o : Outcome) → IsOutcome sys tiles o → o.verdict ≡ Yes → IsLegal sys b → GrowsInto sys b tiles
  grows_into_outcome tiles b o of_tiles yes_it_is legal =
      let ld : IsLocallyDeterministic sys o.order = subst (IsVerdict sys o.order) yes_it_is of_tiles.judged in
      let order_tiles : SamePlacements o.order tiles = canonical_same sys tiles o.order seeds_distinct of_tiles.full.distinct of_tiles.full.producible of_tiles.canonical in
      let grown = deterministic_extension sys o.order b seeds_distinct ld legal in
      record {
        sequence = grown.sequence;
        legal = grown.legal;
        begins = grown.begins;
        same = SamePlacements-trans grown.sequence o.order tiles grown.same order_tiles;
      }
