-- What the replay of an assembly answers.
use Rattle.std.specs.Prelude.{◌≡◌, ◌≢◌, ℕ, List, Result, Ok, Err, All, Any, Some}
use Rattle.atam.specs.declared.site.Site.{Site}
use Rattle.atam.specs.declared.place.Place.{Place}
use Rattle.atam.specs.Placements.{SamePlacements, tile_at}
use Rattle.atam.specs.TileSystem.{TileSystem}
use Rattle.atam.specs.Assembly.{Fits}
use Rattle.atam.specs.Growth.{IsLegal, IsProducible}
use Rattle.atam.specs.Canonical.{IsCanonical, LeavesOver}
use Rattle.replay_order.specs.declared.stop.ReplayStop.{ReplayStop}
use Rattle.replay_order.specs.declared.stop.ReplayStop.TheVariants.{NoSeedThere, Stuck, NoMemory}

-- each seed's site holds the seed's type
abbrev pub HoldsSeeds : TileSystem → List Place → Type 0
HoldsSeeds sys tiles = All (λ p. tile_at tiles p.site ≡ Some p.tile) sys.seeds

-- some seed's site doesn't
abbrev pub LacksSeed : TileSystem → List Place → Type 0
LacksSeed sys tiles = Any (λ p. tile_at tiles p.site ≢ Some p.tile) sys.seeds

-- the canonical sequence of the tiles, which is legal, lists all of them, and fits
pub record IsWholeOrder (sys : TileSystem) (tiles order : List Place) : Type 0 where
  pub canonical : IsCanonical sys tiles order
  pub legal : IsLegal sys order
  pub same : SamePlacements order tiles
  pub fits : Fits sys order
  pub producible : IsProducible sys tiles

-- the tiles hold the seeds and aren't producible: this many are left by their canonical sequence, and this is the least site of those
pub record IsStuckAt (sys : TileSystem) (tiles : List Place) (left : ℕ) (least : Site) : Type 0 where
  pub sequence : List Place
  pub canonical : IsCanonical sys tiles sequence
  pub leaves : LeavesOver tiles sequence left least
  pub unproducible : ¬ IsProducible sys tiles

abbrev pub IsReplayAnswer : TileSystem → List Place → Result (List Place) ReplayStop → Type 0
IsReplayAnswer sys tiles (Ok order) = IsWholeOrder sys tiles order
IsReplayAnswer sys tiles (Err NoSeedThere) = LacksSeed sys tiles
IsReplayAnswer sys tiles (Err (Stuck left least)) = IsStuckAt sys tiles left least
-- there was no memory, and the seeds are there
IsReplayAnswer sys tiles (Err NoMemory) = HoldsSeeds sys tiles
