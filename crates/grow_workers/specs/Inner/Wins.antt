-- What workers win, as they are parted off one by one.
use Rattle.std.specs.Prelude.{◌≡◌, ◌≢◌, ℕ, zero, suc, ◌-◌, ◌^◌, List, [], ◌∷◌}
use Rattle.atam.specs.TileSystem.{TileSystem}
use Rattle.atam.specs.Placements.{SamePlacements, IsPartOf}
use Rattle.assembly.specs.Grids.{TileGrid}
use Rattle.grow_core.specs.declared.placed_tile.PlacedTile.{PlacedTile}
use Rattle.grow_core.specs.Core.{Owns, least, greatest, OwnsTwoOrMore, placed_by}
use Rattle.grow_core.specs.Steps.{IsKeptPart, IsGivenPart}
use Rattle.site_table.specs.Seats.{SeatValue, GoesOn}
use Rattle.site_table.specs.Rule.{IsPossible}
use Rattle.grow_workers.specs.Workers.{WinsUnder}

-- the numbers suffice for so many workers: all but the first have the greatest one that is left
abbrev pub HasNumbers : ℕ → ℕ → Type 0
HasNumbers zero owned = Unit {0}
HasNumbers (suc zero) owned = Unit {0}
HasNumbers (suc (suc k)) owned = OwnsTwoOrMore owned × HasNumbers (suc k) (owned - 2 ^ greatest owned)

-- under this number nothing was won
abbrev pub Rests : List PlacedTile → List PlacedTile → ℕ → Type 0
Rests old new n = placed_by n new ≡ placed_by n old

-- the workers from 1 on have won so many, each under the greatest number that is left, and nothing else was won but under the least number
abbrev pub OthersWin : List PlacedTile → List PlacedTile → ℕ → List ℕ → Type 0
OthersWin old new owned [] = (n : ℕ) → Owns owned n → n ≢ least owned → Rests old new n
OthersWin old new owned (k ∷ wins) = OwnsTwoOrMore owned × WinsUnder old new (greatest owned) k × OthersWin old new (owned - 2 ^ greatest owned) wins

-- a seat that was parted: one worker has the greatest number, and the rest is what the others have
pub record IsParted (seat kept given : SeatValue) : Type 0 where
  pub table : kept.table ≡ seat.table
  pub system : kept.sys ≡ seat.sys
  pub real : IsPossible seat.sys seat.scout
  pub two : OwnsTwoOrMore seat.scout.owned
  pub is_kept : IsKeptPart seat.scout kept.scout
  pub is_given : IsGivenPart seat.scout given.scout

-- what worker 0 and the others make of a seat
pub record PartedGrowth (sys : TileSystem) (old : SeatValue) (start : TileGrid) (new : SeatValue) (grid : TileGrid) (first : ℕ) (others : List ℕ) : Type 0 where
  pub seat : GoesOn old new
  pub area : grid.area ≡ sys.area
  pub seen : SamePlacements new.scout.seen grid.tiles
  pub kept : IsPartOf start.tiles grid.tiles
  pub first_wins : WinsUnder old.scout.mine new.scout.mine (least old.scout.owned) first
  pub others_win : OthersWin old.scout.mine new.scout.mine old.scout.owned others
