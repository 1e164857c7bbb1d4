-- `report`: what is to be told of a growth, as one line of JSON.
use Rattle.std.specs.Prelude.{◌≡◌, ℕ, Bool, List, [], ◌∷◌, length, map, is_some}
use Rattle.std.specs.List.{range_with_len}
use Rattle.atam.specs.TileSystem.{TileSystem}
use Rattle.tile_io.specs.Lines.{line_of}
use Rattle.site_table.specs.Seats.{GrownValue}
use Rattle.report.specs.Reports.{report_line}
use Rattle.unique_law.specs.Outcomes.{Outcome}
use Rattle.job_board.specs.AnswerText.{is_unique}
use Rattle.tilebench.specs.Growths.{IsGrowth}
use Rattle.tilebench.specs.Wins.{WonAll, won_by}

-- this reports what the system grew into, which are the tiles that are handed out, and what each worker won of them
pub record IsReportText (workers : ℕ) (sys : TileSystem) (table : GrownValue) (is_yes : Bool) (text : List ℕ) : Type 0 where
  pub outcome : Outcome
  pub grown : IsGrowth sys table.grid.tiles outcome
  pub all : WonAll workers sys table
  pub printed : text ≡ line_of (report_line sys (length table.grid.tiles)
      (map (won_by table) (range_with_len 0 workers)) (is_some outcome.outside)
      (is_unique outcome.verdict) ∷ [])
  pub answer : is_yes ≡ is_unique outcome.verdict
