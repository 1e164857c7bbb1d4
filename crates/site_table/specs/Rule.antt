-- The rule of the table: what holds of its words and of the seats' views between any two steps.
use Rattle.std.specs.Prelude.{◌≡◌, List, All}
use Rattle.atomic_table.specs.Table.{State}
use Rattle.atam.specs.TileSystem.{TileSystem, IsValid}
use Rattle.grow_core.specs.declared.placed_tile.PlacedTile.{PlacedTile}
use Rattle.grow_core.specs.Core.{ScoutState, CoreState, state_of, IsHistory, ScoutInvariant, GrowthInvariant}
use Rattle.grow_core.specs.Listed.{by_name}
use Rattle.site_table.specs.declared.view.SeatView.{SeatView}
use Rattle.site_table.specs.Words.{Spells}
use Rattle.site_table.specs.Views.{IsLive, scouts_of}

-- the words, and the view of each seat that there has been, in the order in which they came to be
abbrev pub TableState : Type 0
TableState = State (Unit {0}) SeatView

-- Words and views spell tiles and scouts for which the core's invariant holds. The tiles are one legal history, and the live views are of one system.
pub record TableInvariant (sys : TileSystem) (s : TableState) : Type 0 where
  pub valid : IsValid sys
  pub tiles : List PlacedTile
  pub spells : Spells sys.area s.words tiles
  pub one_system : All (λ v. IsLive v → v.sys ≡ sys) s.views
  pub growth : GrowthInvariant sys tiles (scouts_of s.views)

-- the state of the core that is spelled: the tiles, and each scout at its name
abbrev pub core_of : (sys : TileSystem) (s : TableState) → TableInvariant sys s → CoreState
core_of sys s holds = state_of holds.tiles (by_name (scouts_of s.views))

-- what one scout can say alone: it is one of some growth of the system
pub record IsPossible (sys : TileSystem) (v : ScoutState) : Type 0 where
  pub valid : IsValid sys
  pub tiles : List PlacedTile
  pub history : IsHistory sys tiles
  pub scout : ScoutInvariant sys tiles v
