-- Laws of locally deterministic sequences, over every system and all lists of placements, at whatever sites.
use Rattle.std.specs.Prelude.{◌≡◌, ◌≤◌, ◌↔◌, List}
use Rattle.atam.specs.declared.place.Place.{Place}
use Rattle.atam.specs.Placements.{HasDistinctSites, SamePlacements}
use Rattle.atam.specs.TileSystem.{TileSystem}
use Rattle.atam.specs.Growth.{IsLegal, IsProducible, GrowsInto, IsClosedInBox, IsFullGrowth}
use Rattle.atam.specs.Canonical.{IsCanonical}
use Rattle.atam.specs.Determinism.{IsLocallyDeterministic, IsDeterministicInBox}
use Rattle.atam.specs.declared.verdict.Verdict.{Verdict}
use Rattle.atam.specs.declared.verdict.Verdict.TheVariants.{Yes}
use Rattle.local_check.specs.Judgement.{IsVerdict}
use Rattle.unique_law.specs.Matches.{IsMatchedIn}
use Rattle.unique_law.specs.Outcomes.{Outcome, IsOutcome, IsDeterministicInSomeOrder}

-- each place of a legal list is a place of a locally deterministic one, with the same input sides
abbrev pub HasNoOtherPlaces : Type 0
HasNoOtherPlaces = (sys : TileSystem) (a b : List Place) → HasDistinctSites sys.seeds →
    IsLocallyDeterministic sys a → IsLegal sys b → IsMatchedIn sys a b

-- and the legal list begins a legal one with exactly the placements of the locally deterministic one
abbrev pub GrowsIntoDeterministic : Type 0
GrowsIntoDeterministic = (sys : TileSystem) (a b : List Place) → HasDistinctSites sys.seeds →
    IsLocallyDeterministic sys a → IsLegal sys b → GrowsInto sys b a

-- a list in the box that is locally deterministic is itself a full growth
abbrev pub DeterministicIsFullGrowth : Type 0
DeterministicIsFullGrowth = (sys : TileSystem) (s : List Place) → HasDistinctSites sys.seeds → IsDeterministicInBox sys s → IsFullGrowth sys s

-- and where there is such a list, a producible assembly that is closed in the box has its placements
abbrev pub HasOneFullGrowth : Type 0
HasOneFullGrowth = (sys : TileSystem) (s tiles : List Place) → HasDistinctSites sys.seeds →
    IsDeterministicInBox sys s → HasDistinctSites tiles → IsProducible sys tiles → IsClosedInBox sys tiles → SamePlacements tiles s

-- each full growth has an outcome
abbrev pub HasOutcome : Type 0
HasOutcome = (sys : TileSystem) (tiles : List Place) → 1 ≤ sys.tau → HasDistinctSites sys.seeds → IsFullGrowth sys tiles →
    (o : Outcome) × IsOutcome sys tiles o

-- assemblies with the same placements have one outcome
abbrev pub HasOutcomeByPlacements : Type 0
HasOutcomeByPlacements = (sys : TileSystem) (a b : List Place) (o p : Outcome) →
    IsOutcome sys a o → IsOutcome sys b p → SamePlacements a b → o ≡ p

-- where an outcome has the verdict yes, every outcome is this one, of the same placements
abbrev pub HasOneOutcome : Type 0
HasOneOutcome = (sys : TileSystem) (a b : List Place) (o p : Outcome) → HasDistinctSites sys.seeds →
    IsOutcome sys a o → o.verdict ≡ Yes → IsOutcome sys b p → SamePlacements a b × (o ≡ p)

-- so where some list in the box is locally deterministic, every outcome has the verdict yes
abbrev pub IsYesThroughout : Type 0
IsYesThroughout = (sys : TileSystem) (s tiles : List Place) (o : Outcome) → HasDistinctSites sys.seeds →
    IsDeterministicInBox sys s → IsOutcome sys tiles o → o.verdict ≡ Yes

-- and each legal list, at whatever sites, grows into the assembly of an outcome with the verdict yes
abbrev pub GrowsIntoOutcome : Type 0
GrowsIntoOutcome = (sys : TileSystem) (tiles b : List Place) (o : Outcome) → HasDistinctSites sys.seeds →
    IsOutcome sys tiles o → o.verdict ≡ Yes → IsLegal sys b → GrowsInto sys b tiles

-- of two legal lists with the same placements, both are locally deterministic or neither is
abbrev pub HasVerdictByPlacements : Type 0
HasVerdictByPlacements = (sys : TileSystem) (a b : List Place) → HasDistinctSites sys.seeds → IsLegal sys a → IsLegal sys b → SamePlacements a b →
    IsLocallyDeterministic sys a ↔ IsLocallyDeterministic sys b

-- the verdict on the canonical sequence of a producible assembly is yes exactly where some order of its places is locally deterministic
abbrev pub IsYesWhereSomeOrderIs : Type 0
IsYesWhereSomeOrderIs = (sys : TileSystem) (tiles order : List Place) (v : Verdict) → HasDistinctSites sys.seeds → HasDistinctSites tiles →
    IsProducible sys tiles → IsCanonical sys tiles order → IsVerdict sys order v → (v ≡ Yes) ↔ IsDeterministicInSomeOrder sys tiles
