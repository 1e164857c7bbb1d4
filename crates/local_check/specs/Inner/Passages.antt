-- What is found as the places of a sequence are put into a grid.
use Rattle.std.specs.Prelude.{◌≡◌, ◌≢◌, ◌<◌, ◌^◌, Bool, true, List, length, take}
use Rattle.atam.specs.declared.place.Place.{Place}
use Rattle.atam.specs.Placements.{SamePlacements}
use Rattle.atam.specs.TileSystem.{TileSystem}
use Rattle.atam.specs.Assembly.{Fits}
use Rattle.atam.specs.Growth.{IsLegal}
use Rattle.atam.specs.Determinism.{HasExactInputs}
use Rattle.atam.specs.declared.legality.Legality.TheVariants as legality
use Rattle.assembly.specs.Grids.{TileGrid}
use Rattle.replay_order.specs.Legalities.{IsLegalityAnswer}
use Rattle.type_cache.specs.Clean.{HasCleanPlaces}
use Rattle.type_index.specs.Indexes.{TypeLists, IsIndexOf}
use Rattle.local_check.specs.Judgement.{IsFirstInexact}
use Rattle.local_check.specs.declared.passage.Passed.{Passed}
use Rattle.local_check.specs.declared.passage.Passed.TheVariants.{Breach, NotExact, Exact}

-- a sequence that fits and begins with the seeds, with an index of the system's types and a grid
-- of the seeds
pub record CanJudge (sys : TileSystem) (s : List Place) (types : TypeLists) (grid : TileGrid)
    : Type 0 where
  pub begun : take (length sys.seeds) s ≡ sys.seeds
  pub fits : Fits sys s
  pub short : length s < 2 ^ 32
  pub index : IsIndexOf sys types
  pub area : grid.area ≡ sys.area
  pub seeds : SamePlacements sys.seeds grid.tiles

-- each place of the sequence is held exactly, all of them now stand in the grid, and all came
-- clean, if that is said
pub record IsExactPassage (sys : TileSystem) (s tiles : List Place) (said : Bool) : Type 0 where
  pub exact : HasExactInputs sys s
  pub placed : SamePlacements s tiles
  pub clean : said ≡ true → HasCleanPlaces sys s

-- what breaks legality first, or of a legal sequence the first place that isn't held exactly
abbrev pub IsPassed : TileSystem → List Place → List Place → Passed → Type 0
IsPassed sys s tiles (Breach breach) = (breach ≢ legality.Legal) × IsLegalityAnswer sys s breach
IsPassed sys s tiles (NotExact m sum) = IsLegal sys s × IsFirstInexact sys s m sum
IsPassed sys s tiles (Exact clean) = IsLegal sys s × IsExactPassage sys s tiles clean
