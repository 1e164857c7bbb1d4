-- The scouts of the machine by their names.
use Rattle.std.specs.Prelude.{◌≡◌, ◌⊎◌, ℕ, List, Option, Some, All, IfSome, slice_set}
use Rattle.atam.specs.declared.place.Place.{Place}
use Rattle.atam.specs.declared.area.BoxArea.{BoxArea}
use Rattle.grow_core.specs.declared.placed_tile.PlacedTile.{PlacedTile}
use Rattle.atam.specs.declared.event.CoreStop.{CoreStop}
use Rattle.atam.specs.declared.event.CoreStop.TheVariants.{NoNumberLeft, NoMemory}
use Rattle.grow_core.specs.Core.{ScoutState, OwnsTwoOrMore}
use Rattle.grow_core.specs.Steps.{IsScoutOf}

-- a scout, and the box in which it looks
pub record BoxedScout : Type 0 where
  pub area : BoxArea
  pub scout : ScoutState

-- scouts by their names, and the box in which they all look
pub record BoxedScouts : Type 0 where
  pub area : BoxArea
  pub scouts : List (Option ScoutState)

-- the scout with a name comes to be one with these numbers and own tiles, which has seen just these places, and no other changes
pub record Becomes (old new : List (Option ScoutState)) (name numbers : ℕ) (tiles : List Place) (wins : List PlacedTile) : Type 0 where
  pub scout : ScoutState
  pub is : IsScoutOf numbers tiles wins scout
  pub others : new ≡ slice_set old name (Some scout)

-- all look in one box
abbrev pub AreScoutsOf : BoxArea → List (Option BoxedScout) → Type 0
AreScoutsOf area entries = All (λ o. IfSome o (λ b. b.area ≡ area)) entries

-- why a scout with these numbers is not divided
abbrev pub IsSplitStop : ℕ → CoreStop → Type 0
IsSplitStop owned stop = (stop ≡ NoNumberLeft × ¬ OwnsTwoOrMore owned) ⊎ (stop ≡ NoMemory × OwnsTwoOrMore owned)
