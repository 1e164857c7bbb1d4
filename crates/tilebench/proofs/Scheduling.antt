-- Runs of the growth core, event by event.
use Rattle.std.proofs.Common.{◌≡◌, ◌∙◌, ◌++◌, ◌∷◌, ◌<◌, ◌+◌, [], ℕ, List, length, take, get_or, Some, Result, Err, All, refl, sym, ap, subst}
use Rattle.std.proofs.lemmas.List.{map_push, take_more}
use Rattle.std.proofs.lemmas.List.Elements.{All-contains, All-map, All-push}
use Rattle.atam.specs.declared.site.Site.{Site}
use Rattle.atam.specs.declared.place.TypeId.{TypeId}
use Rattle.atam.specs.declared.place.Place.{Place}
use Rattle.atam.specs.Sites.{InBox}
use Rattle.atam.specs.TileSystem.{TileSystem, IsType}
use Rattle.atam.specs.Assembly.{Fits}
use Rattle.atam.specs.Placements.{tile_at}
use Rattle.atam.proofs.Placements.{tile_at-Contains}
use Rattle.grow_core.specs.declared.placed_tile.PlacedTile.{PlacedTile}
use Rattle.atam.specs.declared.event.Event.{Event}
use Rattle.atam.specs.declared.event.Seen.{Seen}
use Rattle.atam.specs.declared.event.CoreStop.{CoreStop}
use Rattle.atam.specs.declared.event.CoreStop.TheVariants.{NoMemory}
use Rattle.grow_core.specs.Core.{CoreState, places, CoreInvariant}
use Rattle.grow_core.specs.Steps.{place, CoreStep, CoreRun, no_such_scout, no_other_scout, same_scout, looks_outside, claims_outside, unsupported, one_number, no_memory, saw_none, saw_tile, won, held, divided, joined, stopped, stepped}
use Rattle.seq_text.specs.SeenLines.{HasLine, seen_lines}
use Rattle.tilebench.specs.declared.commands.schedule.Scheduled.{Scheduled}
use Rattle.tilebench.specs.Commands.Schedule.{IsScheduleAnswer}
use Rattle.tilebench.specs.Inner.Schedules.{IsRunOf}
use Rattle.tilebench.specs.Inner.Rooms.{Schedules}
use Rattle.seq_text.specs.GrowthLines.{place_lines}
use Rattle.std.specs.List.{list_all}
use Rattle.std.specs.Prelude.{◌++◌, is_ok}

-- one more event
run_more : (sys : TileSystem) (s t u : CoreState) (answered : List (Event × Result Seen CoreStop)) (event : Event) (reply : Result Seen CoreStop) →
    CoreRun sys s answered t → CoreStep sys t event reply u → CoreRun sys s (answered ++ (event, reply) ∷ []) u
run_more sys s t u answered event reply (stopped a) step = stepped s u u event reply [] step (stopped u)
run_more sys s t u answered event reply (stepped a b c e r rest first run) step =
    stepped a b u e r (rest ++ (event, reply) ∷ []) first (run_more sys b c u rest event reply run step)

pub run_push : (sys : TileSystem) (s t u : CoreState) (events : List Event) (replies : List (Result Seen CoreStop)) (event : Event) (reply : Result Seen CoreStop) →
    IsRunOf sys s events replies t → CoreStep sys t event reply u → IsRunOf sys s (events ++ event ∷ []) (replies ++ reply ∷ []) u
run_push sys s t u events replies event reply run step = record {
  answered = run.answered ++ (event, reply) ∷ [];
  events_are = map_push (λ p. p.0) run.answered (event, reply) ∙ ap (λ l. l ++ event ∷ []) run.events_are;
  replies_are = map_push (λ p. p.1) run.answered (event, reply) ∙ ap (λ l. l ++ reply ∷ []) run.replies_are;
  run = run_more sys s t u run.answered event reply run.run step;
}

pub run_none : (sys : TileSystem) (s : CoreState) → IsRunOf sys s [] [] s
run_none sys s = record { answered = []; events_are = refl; replies_are = refl; run = stopped s }

-- what stands at a site of the core is of a type of the system
type_there : (sys : TileSystem) (s : CoreState) (m : Site) (t : TypeId) → CoreInvariant sys s → tile_at (places s.tiles) m ≡ Some t → IsType sys t
type_there sys s m t sound there =
    All-contains (λ p. IsType sys p.tile) (places s.tiles) (place m t) sound.growth.history.legal.types (tile_at-Contains (places s.tiles) m t there)

-- so each reply has a line, but for want of memory
pub has_line : (sys : TileSystem) (s t : CoreState) (event : Event) (reply : Result Seen CoreStop) → CoreInvariant sys s → CoreStep sys s event reply t →
    (reply ≡ Err NoMemory → ⊥) → HasLine sys reply
has_line sys s t event reply sound (no_such_scout e nobody) other = tt
has_line sys s t event reply sound (no_other_scout into from nobody) other = tt
has_line sys s t event reply sound (same_scout into from same) other = tt
has_line sys s t event reply sound (looks_outside who site v here outside) other = tt
has_line sys s t event reply sound (claims_outside who site tile v here outside) other = tt
has_line sys s t event reply sound (unsupported who site tile v here inside weak) other = tt
has_line sys s t event reply sound (one_number who v here one) other = tt
has_line sys s t event reply sound (no_memory who v here two) other = other refl
has_line sys s t event reply sound (saw_none who site v here inside empty) other = tt
has_line sys s t event reply sound (saw_tile who site there v w here inside found seen) other = type_there sys s site there sound found
has_line sys s t event reply sound (won who site tile v w here inside supports empty seen) other = tt
has_line sys s t event reply sound (held who site tile there v w here inside supports found seen) other = type_there sys s site there sound found
has_line sys s t event reply sound (divided who v w x here two kept given) other = tt
has_line sys s t event reply sound (joined into from v w x here there apart both) other = tt

-- the next event of a list
pub run_next : (sys : TileSystem) (s t u : CoreState) (events : List Event) (i : ℕ) (within : i < length events) (replies : List (Result Seen CoreStop))
    (reply : Result Seen CoreStop) (d : Event) → IsRunOf sys s (take i events) replies t → CoreStep sys t (get_or events i d) reply u →
    IsRunOf sys s (take (i + 1) events) (replies ++ reply ∷ []) u
run_next sys s t u events i within replies reply d run step =
    subst (λ l. IsRunOf sys s l (replies ++ reply ∷ []) u) (sym (take_more events i d within))
    (run_push sys s t u (take i events) replies (get_or events i d) reply run step)

pub told_more : (sys : TileSystem) (replies : List (Result Seen CoreStop)) (reply : Result Seen CoreStop) → All (HasLine sys) replies → HasLine sys reply →
    All (HasLine sys) (replies ++ reply ∷ [])
told_more sys replies reply all one = All-push (HasLine sys) replies reply all one

-- the tiles of a core fit its system
pub core_fits : (sys : TileSystem) (s : CoreState) → CoreInvariant sys s → Fits sys (places s.tiles)
core_fits sys s sound = record {
  types = sound.growth.history.legal.types;
  sites = All-map (λ (q : Place). InBox sys.area q.site) (λ (t : PlacedTile). t.place) s.tiles sound.growth.history.inside;
}

-- what the events of a schedule came to is the answer to it
pub schedule_answer : (sys : TileSystem) (events : List Event) (scheduled : Scheduled) → Schedules sys events scheduled →
    IsScheduleAnswer scheduled.sys events (list_all is_ok scheduled.replies.items) (seen_lines scheduled.sys scheduled.replies.items ++ place_lines scheduled.sys scheduled.order)
schedule_answer sys events scheduled done =
    let replied = done.replied in
    let Told : List (Result Seen CoreStop) → Type 0 = λ replies. All (HasLine scheduled.sys) replies in
    let same = sym replied.run.replies_are in
    record {
      start = replied.start;
      starts = replied.starts;
      answered = replied.run.answered;
      events_are = replied.run.events_are;
      end = replied.end;
      run = replied.run.run;
      told = subst Told same replied.told;
      order = scheduled.order;
      canonical = replied.canonical;
      printed = ap (λ (replies : List (Result Seen CoreStop)). seen_lines scheduled.sys replies ++ place_lines scheduled.sys scheduled.order) same;
      answer = ap (λ (replies : List (Result Seen CoreStop)). list_all is_ok replies) same;
    }
