-- The keywords of growth and schedule texts, as the code has them.
use Rattle.std.specs.Prelude.{ℕ, Bool, true, false, if◌then◌else◌, List, codes, bytes_eq, Option, Some, None}
use Rattle.std.specs.List.{slice_index_or}
use Rattle.tile_io.specs.Checks.{Keyword, no_row}
use Rattle.atam.specs.TileSystem.{TileSystem}
use Rattle.atam.specs.declared.event.Event.{Event}
use Rattle.seq_text.specs.declared.kind.LineKind.{LineKind}
use Rattle.seq_text.specs.declared.kind.LineKind.TheVariants as kinds
use Rattle.seq_text.specs.declared.action.Action.{Action}
use Rattle.seq_text.specs.declared.action.Action.TheVariants as actions
use Rattle.seq_text.specs.GrowthText.{GrowthItem, growth_rows}
use Rattle.seq_text.specs.ScheduleText.{schedule_rows}

-- the row of a keyword in the table of growth texts
abbrev pub row_of : Bool → TileSystem → LineKind → Keyword (List GrowthItem) GrowthItem
row_of distinct sys kinds.Place = slice_index_or (growth_rows distinct sys) 0 no_row
row_of distinct sys kinds.Closed = slice_index_or (growth_rows distinct sys) 1 no_row
row_of distinct sys kinds.Unique = slice_index_or (growth_rows distinct sys) 2 no_row

-- the keyword that a word is
abbrev pub kind_named : List ℕ → Option LineKind
kind_named word =
    if bytes_eq word (codes "place") then Some kinds.Place
    else if bytes_eq word (codes "closed") then Some kinds.Closed
    else if bytes_eq word (codes "unique") then Some kinds.Unique
    else None

-- the word of a keyword
abbrev pub kind_word : LineKind → List ℕ
kind_word kinds.Place = codes "place"
kind_word kinds.Closed = codes "closed"
kind_word kinds.Unique = codes "unique"

-- whether a keyword may stand right after a line of another one, or first
abbrev pub may_stand_after : LineKind → Option LineKind → Bool
may_stand_after kind None = true
may_stand_after kind (Some kinds.Place) = true
may_stand_after kinds.Unique (Some kinds.Closed) = true
may_stand_after kind last = false

-- the row of a keyword in the table of schedule texts
abbrev pub action_row : TileSystem → Action → Keyword (List Event) Event
action_row sys actions.Look = slice_index_or (schedule_rows sys) 0 no_row
action_row sys actions.Claim = slice_index_or (schedule_rows sys) 1 no_row
action_row sys actions.Split = slice_index_or (schedule_rows sys) 2 no_row
action_row sys actions.Join = slice_index_or (schedule_rows sys) 3 no_row
