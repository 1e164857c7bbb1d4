-- A survey of a range of the places of a sequence.
use Rattle.std.specs.Prelude.{◌≡◌, ℕ, ◌+◌, List, length}
use Rattle.atam.specs.declared.place.Place.{Place}
use Rattle.atam.specs.Placements.{SamePlacements}
use Rattle.atam.specs.TileSystem.{TileSystem, IsValid}
use Rattle.atam.specs.Assembly.{Fits}
use Rattle.atam.specs.Growth.{IsLegal}
use Rattle.type_index.specs.Indexes.{IsIndexOf}
use Rattle.local_check.specs.declared.laid_out.LaidOut.{LaidOut}
use Rattle.local_check.specs.declared.survey.Survey.{Survey}
use Rattle.local_check.specs.Inner.PlaceSides.{earlier_sets, output_sets}
use Rattle.local_check.specs.Inner.Sides.{AreEarlierFrom, AreOutputsFrom}
use Rattle.local_check.specs.Inner.Ranges.{FindsInexactIn, FindsRivalIn}

-- a legal sequence that fits, with the grid of its places and an index of the system's types
pub record CanSurvey (laid : LaidOut) : Type 0 where
  pub valid : IsValid laid.sys.now
  pub legal : IsLegal laid.sys.now laid.seq.now
  pub fits : Fits laid.sys.now laid.seq.now
  pub area : laid.grid.now.area ≡ laid.sys.now.area
  pub placements : SamePlacements laid.seq.now laid.grid.now.tiles
  pub index : IsIndexOf laid.sys.now laid.types.now

-- both sets of sides of each place from one index to before another, and where one of them breaks a condition first
pub record IsSurvey (sys : TileSystem) (s : List Place) (start end : ℕ) (survey : Survey) : Type 0 where
  pub count : start + length survey.sides.items ≡ end
  pub earlier : AreEarlierFrom sys s start (earlier_sets survey.sides.items)
  pub outputs : AreOutputsFrom sys s start (output_sets survey.sides.items)
  pub inexact : FindsInexactIn sys s start end survey.breaches.inexact
  pub rival : FindsRivalIn sys s start end survey.breaches.rival
