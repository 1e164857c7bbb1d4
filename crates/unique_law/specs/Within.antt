-- Conditions 1 and 2 on a legal list in the box, where the third is asked of the box alone.
use Rattle.std.specs.Prelude.{List, All}
use Rattle.atam.specs.declared.place.Place.{Place}
use Rattle.atam.specs.Sites.{InBox}
use Rattle.atam.specs.Placements.{SamePlacements}
use Rattle.atam.specs.TileSystem.{TileSystem}
use Rattle.atam.specs.Growth.{IsLegal, IsClosedInBox}
use Rattle.atam.specs.Determinism.{HasExactInputs, HasNoRivals}
use Rattle.atam.specs.declared.verdict.Verdict.{Verdict}
use Rattle.atam.specs.declared.verdict.Verdict.TheVariants.{NotExact, Rival}

-- each place lies in the box
abbrev pub LiesInBox : TileSystem → List Place → Type 0
LiesInBox sys tiles = All (λ p. InBox sys.area p.site) tiles

-- A legal sequence in the box with exact inputs and no rivals, to which nothing attaches in the box.
-- Outside it types may attach.
pub record IsDeterministicWithin (sys : TileSystem) (s : List Place) : Type 0 where
  pub legal : IsLegal sys s
  pub exact : HasExactInputs sys s
  pub no_rival : HasNoRivals sys s
  pub closed : IsClosedInBox sys s
  pub inside : LiesInBox sys s

-- the verdict is yes, or names the third condition: the first two hold
abbrev pub IsYesWithin : Verdict → Type 0
IsYesWithin (NotExact m sum) = ⊥
IsYesWithin (Rival m t) = ⊥
IsYesWithin _ = Unit {0}

-- some order of exactly these placements is deterministic within the box
pub record IsWithinInSomeOrder (sys : TileSystem) (tiles : List Place) : Type 0 where
  pub sequence : List Place
  pub deterministic : IsDeterministicWithin sys sequence
  pub same : SamePlacements sequence tiles
