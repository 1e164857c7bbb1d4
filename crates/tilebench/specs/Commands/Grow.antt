-- `grow`: what a system grows into within its box.
use Rattle.std.specs.Prelude.{◌≡◌, ℕ, Bool, List}
use Rattle.atam.specs.TileSystem.{TileSystem}
use Rattle.site_table.specs.Seats.{GrownValue}
use Rattle.unique_law.specs.Outcomes.{Outcome}
use Rattle.job_board.specs.AnswerText.{growth_text, is_unique}
use Rattle.tilebench.specs.Growths.{IsGrowth}

-- this is the text of what the system grew into, which are the tiles that are handed out
pub record IsGrowthText (sys : TileSystem) (table : GrownValue) (is_yes : Bool) (text : List ℕ) : Type 0 where
  pub outcome : Outcome
  pub grown : IsGrowth sys table.grid.tiles outcome
  pub printed : text ≡ growth_text sys outcome
  pub answer : is_yes ≡ is_unique outcome.verdict
