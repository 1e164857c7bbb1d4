-- What the events of a schedule come to.
use Rattle.std.specs.Prelude.{◌≡◌, ◌≢◌, List, map, All, Result, Err}
use Rattle.atam.specs.declared.place.Place.{Place}
use Rattle.atam.specs.TileSystem.{TileSystem, IsValid}
use Rattle.atam.specs.Canonical.{IsCanonical}
use Rattle.atam.specs.declared.event.Event.{Event}
use Rattle.atam.specs.declared.event.Seen.{Seen}
use Rattle.atam.specs.declared.event.CoreStop.{CoreStop}
use Rattle.atam.specs.declared.event.CoreStop.TheVariants.{NoMemory}
use Rattle.grow_core.specs.Core.{CoreState, places}
use Rattle.grow_core.specs.Steps.{IsStart, CoreRun}

-- memory was wanting at none of the events
abbrev pub HasMemory : List (Event × Result Seen CoreStop) → Type 0
HasMemory run = All (λ r. r.1 ≢ Err NoMemory) run

-- two runs of the same events from the start
pub record AreRunsOfOneSchedule (sys : TileSystem) (one two : List (Event × Result Seen CoreStop)) (s t : CoreState) : Type 0 where
  pub valid : IsValid sys
  pub first : CoreState
  pub first_start : IsStart sys first
  pub first_run : CoreRun sys first one s
  pub second : CoreState
  pub second_start : IsStart sys second
  pub second_run : CoreRun sys second two t
  pub events : map (λ r. r.0) one ≡ map (λ r. r.0) two

-- they have the same replies and the same tiles in the same order, want of memory aside
abbrev pub RunsHaveOneOutcome : Type 0
RunsHaveOneOutcome = (sys : TileSystem) (one two : List (Event × Result Seen CoreStop)) (s t : CoreState) →
    AreRunsOfOneSchedule sys one two s t → HasMemory one → HasMemory two → (one ≡ two) × (s.tiles ≡ t.tiles)

-- so the canonical sequence of their tiles is one
abbrev pub RunsHaveOneCanonicalSequence : Type 0
RunsHaveOneCanonicalSequence = (sys : TileSystem) (one two : List (Event × Result Seen CoreStop)) (s t : CoreState) (c d : List Place) →
    AreRunsOfOneSchedule sys one two s t → HasMemory one → HasMemory two →
    IsCanonical sys (places s.tiles) c → IsCanonical sys (places t.tiles) d → c ≡ d
