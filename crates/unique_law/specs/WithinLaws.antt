-- Laws of lists that are deterministic within the box, over every system. Each other list of which
-- one speaks lies in the box too: a legal list that leaves the box can come back, and place there
-- what nothing in the box could hold.
use Rattle.std.specs.Prelude.{◌≡◌, ◌↔◌, List, Some}
use Rattle.atam.specs.declared.site.Site.{Site}
use Rattle.atam.specs.declared.place.TypeId.{TypeId}
use Rattle.atam.specs.declared.place.Place.{Place}
use Rattle.atam.specs.Sites.{InBox}
use Rattle.atam.specs.Placements.{HasDistinctSites, SamePlacements}
use Rattle.atam.specs.TileSystem.{TileSystem}
use Rattle.atam.specs.Growth.{IsLegal, GrowsInto, IsFullGrowth}
use Rattle.atam.specs.Determinism.{HasExactInputs, HasNoRivals, IsDeterministicInBox}
use Rattle.atam.specs.declared.verdict.Verdict.TheVariants.{NotTerminal}
use Rattle.unique_law.specs.Matches.{IsMatchedIn}
use Rattle.unique_law.specs.Outcomes.{Outcome, IsOutcome}
use Rattle.unique_law.specs.Within.{LiesInBox, IsDeterministicWithin, IsYesWithin, IsWithinInSomeOrder}

-- a list in the box that is locally deterministic is deterministic within it
abbrev pub DeterministicIsWithin : Type 0
DeterministicIsWithin = (sys : TileSystem) (s : List Place) → IsDeterministicInBox sys s →
    IsDeterministicWithin sys s

-- each place of a legal list in the box is a place of one that is deterministic within it, with the
-- same input sides
abbrev pub HasNoOtherPlacesWithin : Type 0
HasNoOtherPlacesWithin = (sys : TileSystem) (a b : List Place) → HasDistinctSites sys.seeds →
    IsDeterministicWithin sys a → IsLegal sys b → LiesInBox sys b → IsMatchedIn sys a b

-- and the legal list begins a legal one with exactly the placements of the other, all in the box
abbrev pub GrowsIntoWithin : Type 0
GrowsIntoWithin = (sys : TileSystem) (a b : List Place) → HasDistinctSites sys.seeds →
    IsDeterministicWithin sys a → IsLegal sys b → LiesInBox sys b → GrowsInto sys b a

-- a list that is deterministic within the box is itself a full growth
abbrev pub WithinIsFullGrowth : Type 0
WithinIsFullGrowth = (sys : TileSystem) (s : List Place) → HasDistinctSites sys.seeds →
    IsDeterministicWithin sys s → IsFullGrowth sys s

-- and each full growth has its placements
abbrev pub HasOneFullGrowthWithin : Type 0
HasOneFullGrowthWithin = (sys : TileSystem) (s tiles : List Place) → HasDistinctSites sys.seeds →
    IsDeterministicWithin sys s → IsFullGrowth sys tiles → SamePlacements tiles s

-- where an outcome's verdict is yes or names the third condition, every outcome is this one, of the
-- same placements
abbrev pub HasOneOutcomeWithin : Type 0
HasOneOutcomeWithin = (sys : TileSystem) (a b : List Place) (o p : Outcome) →
    HasDistinctSites sys.seeds → IsOutcome sys a o → IsYesWithin o.verdict → IsOutcome sys b p →
    SamePlacements a b × (o ≡ p)

-- and each legal list in the box grows into its assembly
abbrev pub GrowsIntoOutcomeWithin : Type 0
GrowsIntoOutcomeWithin = (sys : TileSystem) (tiles b : List Place) (o : Outcome) →
    HasDistinctSites sys.seeds → IsOutcome sys tiles o → IsYesWithin o.verdict → IsLegal sys b →
    LiesInBox sys b → GrowsInto sys b tiles

-- an outcome has such a verdict exactly where its sequence is deterministic within the box
abbrev pub IsWithinWhereItsOrderIs : Type 0
IsWithinWhereItsOrderIs = (sys : TileSystem) (tiles : List Place) (o : Outcome) →
    HasDistinctSites sys.seeds → IsOutcome sys tiles o →
    IsYesWithin o.verdict ↔ IsDeterministicWithin sys o.order

-- and exactly where some order of its places is
abbrev pub IsWithinWhereSomeOrderIs : Type 0
IsWithinWhereSomeOrderIs = (sys : TileSystem) (tiles : List Place) (o : Outcome) →
    HasDistinctSites sys.seeds → IsOutcome sys tiles o →
    IsYesWithin o.verdict ↔ IsWithinInSomeOrder sys tiles

-- so where some list is deterministic within the box, every outcome has such a verdict
abbrev pub IsWithinThroughout : Type 0
IsWithinThroughout = (sys : TileSystem) (s tiles : List Place) (o : Outcome) →
    HasDistinctSites sys.seeds → IsDeterministicWithin sys s → IsOutcome sys tiles o →
    IsYesWithin o.verdict

-- where an outcome's verdict names the third condition, its site is the least open one outside
abbrev pub NamesSiteOutside : Type 0
NamesSiteOutside = (sys : TileSystem) (tiles : List Place) (o : Outcome) (m : Site) (t : TypeId) →
    HasDistinctSites sys.seeds → IsOutcome sys tiles o → o.verdict ≡ NotTerminal m t →
    ¬ InBox sys.area m × (o.outside ≡ Some (m, t))

-- of two legal lists with the same placements, conditions 1 and 2 hold of both or of neither, also
-- where types attach to them
abbrev pub HasConditionsByPlacements : Type 0
HasConditionsByPlacements = (sys : TileSystem) (a b : List Place) → HasDistinctSites sys.seeds →
    IsLegal sys a → IsLegal sys b → SamePlacements a b →
    (HasExactInputs sys a × HasNoRivals sys a) ↔ (HasExactInputs sys b × HasNoRivals sys b)
