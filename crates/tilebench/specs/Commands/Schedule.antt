-- `schedule`: steps of several scouts, run on a growth core.
use Rattle.std.specs.Prelude.{◌≡◌, ◌++◌, ℕ, Bool, List, map, All, Result, is_ok}
use Rattle.std.specs.List.{list_all}
use Rattle.atam.specs.declared.place.Place.{Place}
use Rattle.atam.specs.TileSystem.{TileSystem}
use Rattle.atam.specs.Canonical.{IsCanonical}
use Rattle.atam.specs.declared.event.Event.{Event}
use Rattle.atam.specs.declared.event.Seen.{Seen}
use Rattle.atam.specs.declared.event.CoreStop.{CoreStop}
use Rattle.grow_core.specs.Core.{CoreState, places}
use Rattle.grow_core.specs.Steps.{CoreRun, IsStart}
use Rattle.seq_text.specs.GrowthLines.{place_lines}
use Rattle.seq_text.specs.SeenLines.{seen_lines, HasLine}

-- From a start of the growth core the events one after another, each with its reply, none of which
-- is want of memory. The text is that of the replies, and then of the canonical sequence of the
-- core's tiles: a yes where no event was refused.
pub record IsScheduleAnswer (sys : TileSystem) (events : List Event) (is_yes : Bool)
    (text : List ℕ) : Type 0 where
  pub start : CoreState
  pub starts : IsStart sys start
  pub answered : List (Event × Result Seen CoreStop)
  pub events_are : map (λ p. p.0) answered ≡ events
  pub end : CoreState
  pub run : CoreRun sys start answered end
  pub told : All (HasLine sys) (map (λ p. p.1) answered)
  pub order : List Place
  pub canonical : IsCanonical sys (places end.tiles) order
  pub printed : text ≡ seen_lines sys (map (λ p. p.1) answered) ++ place_lines sys order
  pub answer : is_yes ≡ list_all is_ok (map (λ p. p.1) answered)
