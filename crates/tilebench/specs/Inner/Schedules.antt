-- What a schedule comes to, event by event.
use Rattle.std.specs.Prelude.{◌≡◌, List, map, All, Result}
use Rattle.atam.specs.declared.place.Place.{Place}
use Rattle.atam.specs.TileSystem.{TileSystem}
use Rattle.atam.specs.Canonical.{IsCanonical}
use Rattle.atam.specs.declared.event.Event.{Event}
use Rattle.atam.specs.declared.event.Seen.{Seen}
use Rattle.atam.specs.declared.event.CoreStop.{CoreStop}
use Rattle.grow_core.specs.Core.{CoreState, places}
use Rattle.grow_core.specs.Steps.{CoreRun, IsStart}
use Rattle.seq_text.specs.SeenLines.{HasLine}

-- the events one after another on the growth core, each with its reply
pub record IsRunOf (sys : TileSystem) (start : CoreState) (events : List Event) (replies : List (Result Seen CoreStop)) (end : CoreState) : Type 0 where
  pub answered : List (Event × Result Seen CoreStop)
  pub events_are : map (λ p. p.0) answered ≡ events
  pub replies_are : map (λ p. p.1) answered ≡ replies
  pub run : CoreRun sys start answered end

-- the replies to the events of a schedule, and the tiles that came of them
pub record ScheduleOutcome : Type 0 where
  pub replies : List (Result Seen CoreStop)
  pub order : List Place

-- From the start of the core, the replies to the events, none of which is want of memory; and then the canonical sequence of the core's tiles.
pub record AreReplies (sys : TileSystem) (events : List Event) (schedule : ScheduleOutcome) : Type 0 where
  pub start : CoreState
  pub starts : IsStart sys start
  pub end : CoreState
  pub run : IsRunOf sys start events schedule.replies end
  pub told : All (HasLine sys) schedule.replies
  pub canonical : IsCanonical sys (places end.tiles) schedule.order
