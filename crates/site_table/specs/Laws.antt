-- Each step of the table is one event of the core, and where a seat has seen a closed assembly, growth is over.
use Rattle.std.specs.Prelude.{◌≡◌, ◌≢◌, ℕ, ◌<◌, ◌==◌, min, List, [], ◌∷◌, ◌++◌, map, Some, None, Result, Ok, slice_index, slice_set, if◌then◌else◌}
use mathlib.Core.Option.{some}
use mathlib.Core.Option as core
use lib.ListN.{get_elem?}
use Rattle.atomic_table.specs.Table.{step, opening}
use Rattle.atam.specs.declared.place.TypeId.{TypeId}
use Rattle.atam.specs.TileSystem.{TileSystem, IsValid}
use Rattle.atam.specs.Placements.{SamePlacements}
use Rattle.atam.specs.Growth.{IsClosedInBox}
use Rattle.assembly.specs.Cells.{cell_count, site_at}
use Rattle.atam.specs.declared.event.Event.{Event}
use Rattle.atam.specs.declared.event.Event.TheVariants.{Look, Claim, Split, Join}
use Rattle.atam.specs.declared.event.Seen.{Seen}
use Rattle.atam.specs.declared.event.Seen.TheVariants.{Saw, Won, Held, Divided, Joined}
use Rattle.atam.specs.declared.event.CoreStop.{CoreStop}
use Rattle.grow_core.specs.Core.{ScoutState, CoreState, scout_at, least, greatest, OwnsTwoOrMore, CoreInvariant}
use Rattle.grow_core.specs.Steps.{tile_of, Supports, HasScout, IsStart, CoreStep}
use Rattle.site_table.specs.declared.view.SeatView.{SeatView}
use Rattle.site_table.specs.Words.{Spells, code, type_in, spelled}
use Rattle.site_table.specs.Views.{scout_of, IsLive, scouts_of, first_view, kept_view, given_view, united_view, spent_view}
use Rattle.site_table.specs.Rule.{TableState, TableInvariant, core_of}
use Rattle.site_table.specs.Plays.{ClaimStep, LookStep}

-- a seat that has not joined another has this view
pub record HasSeat (s : TableState) (id : ℕ) (v : SeatView) : Type 0 where
  pub here : get_elem? s.views id ≡ some v
  pub live : IsLive v

-- the state with other words, and another view of one seat
abbrev pub with_words : TableState → List ℕ → ℕ → SeatView → TableState
with_words s words id w = record { words = words; homes = s.homes; views = slice_set s.views id w }

-- the table comes to another state that keeps the rule, by one event of the core with this answer
pub record ComesBy (sys : TileSystem) (s : TableState) (holds : TableInvariant sys s) (event : Event) (answer : Seen) (t : TableState) : Type 0 where
  pub kept : TableInvariant sys t
  pub event_is : CoreStep sys (core_of sys s holds) event (Ok answer) (core_of sys t kept)

-- at the start the words spell the seeds, and the one seat is the scout of the core's start
abbrev pub OpeningIsStart : Type 0
OpeningIsStart = (sys : TileSystem) (words : List ℕ) → IsValid sys →
    Spells sys.area words (map (λ p. tile_of p 65535) sys.seeds) →
    (holds : TableInvariant sys (opening words [] (first_view sys))) × IsStart sys (core_of sys (opening words [] (first_view sys)) holds)

-- the word after a claim, and the answer, by the word that it found
abbrev pub word_after : ℕ → ℕ → ℕ
word_after found word = if found == 0 then word else found

abbrev pub claim_answer : ℕ → Seen
claim_answer found = if found == 0 then Won else Held (type_in found)

-- A claim is the core's event: won where the word is 0, which then holds the type and the number, and held by the word's type else.
abbrev pub ClaimIsOneEvent : Type 0
ClaimIsOneEvent = (sys : TileSystem) (s : TableState) (holds : TableInvariant sys s) (id i : ℕ) (v : SeatView) (t : TypeId) →
    HasSeat s id v → i < cell_count sys.area → Supports sys (scout_of v) (site_at sys.area i) t →
    (w : SeatView)
    × ClaimStep (step 0 i 0 (code t (least v.owned)) core.none) (v, []) (slice_index s.words i) (w, [])
    × ComesBy sys s holds (Claim (least v.owned) (site_at sys.area i) t) (claim_answer (slice_index s.words i))
    (with_words s (slice_set s.words i (word_after (slice_index s.words i) (code t (least v.owned)))) id w)

abbrev pub look_answer : ℕ → Seen
look_answer found = Saw (if found == 0 then None else Some (type_in found))

-- a look is the core's event, and leaves the words
abbrev pub LookIsOneEvent : Type 0
LookIsOneEvent = (sys : TileSystem) (s : TableState) (holds : TableInvariant sys s) (id i : ℕ) (v : SeatView) →
    HasSeat s id v → i < cell_count sys.area →
    (w : SeatView)
    × LookStep (step 0 i 0 0 core.none) (v, []) (slice_index s.words i) (w, [])
    × ComesBy sys s holds (Look (least v.owned) (site_at sys.area i)) (look_answer (slice_index s.words i)) (with_words s s.words id w)

-- a split is the core's event, and the new seat comes last
abbrev pub SplitIsOneEvent : Type 0
SplitIsOneEvent = (sys : TileSystem) (s : TableState) (holds : TableInvariant sys s) (id : ℕ) (v : SeatView) →
    HasSeat s id v → OwnsTwoOrMore v.owned →
    ComesBy sys s holds (Split (least v.owned)) (Divided (greatest v.owned))
    (record { words = s.words; homes = s.homes; views = slice_set s.views id (kept_view v) ++ given_view v ∷ [] })

-- a join is the core's event, and the second seat's view is spent
abbrev pub JoinIsOneEvent : Type 0
JoinIsOneEvent = (sys : TileSystem) (s : TableState) (holds : TableInvariant sys s) (id other : ℕ) (v w : SeatView) →
    HasSeat s id v → HasSeat s other w → id ≢ other →
    ComesBy sys s holds (Join (least v.owned) (least w.owned)) (Joined (min (least v.owned) (least w.owned)))
    (record { words = s.words; homes = s.homes; views = slice_set (slice_set s.views id (united_view v w)) other spent_view })

-- the second load of a join writes no word and keeps the view, so that the state stays
abbrev pub SecondLoadIsNoEvent : Type 0
SecondLoadIsNoEvent = (s : TableState) (id i : ℕ) (v : SeatView) → HasSeat s id v →
    with_words s (slice_set s.words i (slice_index s.words i)) id v ≡ s

-- In every state that the rule allows with this scout, the words are those of what it has seen, and no event of any scout adds a tile.
pub record IsFinal (sys : TileSystem) (v : ScoutState) : Type 0 where
  pub words : (s : TableState) (j : ℕ) → TableInvariant sys s → scout_at (scouts_of s.views) j ≡ Some v →
      SamePlacements v.seen (spelled sys.area s.words)
  pub events : (s t : CoreState) (event : Event) (reply : Result Seen CoreStop) (name : ℕ) →
      CoreInvariant sys s → HasScout s name v → CoreStep sys s event reply t → t.tiles ≡ s.tiles

-- quiet is final
abbrev pub QuietIsFinal : Type 0
QuietIsFinal = (sys : TileSystem) (v : ScoutState) → IsValid sys → IsClosedInBox sys v.seen → IsFinal sys v
