-- What a scout makes of its seat.
use Rattle.std.specs.Prelude.{◌≡◌, ℕ, ◌+◌, ◌≤◌, List, ◌++◌, length, All}
use Rattle.atam.specs.TileSystem.{TileSystem}
use Rattle.atam.specs.Placements.{SamePlacements, IsPartOf, HasDistinctSites}
use Rattle.atam.specs.Assembly.{Fits}
use Rattle.grow_core.specs.declared.placed_tile.PlacedTile.{PlacedTile}
use Rattle.grow_core.specs.Core.{least}
use Rattle.site_table.specs.Seats.{GoesOn}
use Rattle.atam.specs.Growth.{IsClosedInBox}
use Rattle.frontier_seat.specs.declared.growing.Growing.{Growing}
use Rattle.frontier_seat.specs.declared.bursting.Burst.{Burst}
use Rattle.frontier_seat.specs.declared.bursting.Burst.TheVariants.{Quiet, Spent}

-- the grid is what the seat has seen, over the box of its system
pub record IsGrowing (sys : TileSystem) (g : Growing) : Type 0 where
  pub system : g.seat.sys ≡ sys
  pub area : g.grid.area ≡ sys.area
  pub seen : SamePlacements g.seat.scout.seen g.grid.tiles
  pub distinct : HasDistinctSites g.grid.tiles
  pub fits : Fits sys g.grid.tiles
  pub some_tile : 1 ≤ length g.grid.tiles
  pub few_wins : g.won ≤ length g.grid.tiles

-- The seat goes on with the same numbers. What was seen stays seen, its own tiles stay, and those that it wins, all with its least number, come last and are counted.
pub record GrowsOn (old new : Growing) : Type 0 where
  pub seat : GoesOn old.seat new.seat
  pub area : new.grid.area ≡ old.grid.area
  pub kept : IsPartOf old.grid.tiles new.grid.tiles
  pub wins : List PlacedTile
  pub mine : new.seat.scout.mine ≡ old.seat.scout.mine ++ wins
  pub placer : All (λ t. t.placer ≡ least old.seat.scout.owned) wins
  pub won : new.won ≡ old.won + length wins

-- Nothing was claimed: its own tiles are as they were, and so is the count of those that it won.
pub record ClaimsNothing (old new : Growing) : Type 0 where
  pub mine : new.seat.scout.mine ≡ old.seat.scout.mine
  pub won : new.won ≡ old.won

-- how a burst of at most so many claims ends: quiet exactly where the box is closed, and else all claims were made, of which each added a site
abbrev pub EndsBurst : TileSystem → Growing → Growing → ℕ → Burst → Type 0
EndsBurst sys old new most Quiet = IsClosedInBox sys new.grid.tiles
EndsBurst sys old new most Spent = (¬ IsClosedInBox sys new.grid.tiles) × (length new.grid.tiles ≡ length old.grid.tiles + most)
