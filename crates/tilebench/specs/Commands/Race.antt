-- `race`: how many tiles each worker won.
use Rattle.std.specs.Prelude.{◌≡◌, ◌++◌, ℕ, Bool, true, List, [], ◌∷◌, codes, decimal, flat_map, sum_by}
use Rattle.std.specs.List.{range_with_len}
use Rattle.atam.specs.TileSystem.{TileSystem}
use Rattle.atam.specs.Growth.{IsFullGrowth}
use Rattle.tile_io.specs.Lines.{line_of}
use Rattle.site_table.specs.Seats.{GrownValue}
use Rattle.tilebench.specs.Wins.{WonAll, won_by}

-- this is the text of what each worker won: a line for each in turn, and one for all
pub record IsRaceText (workers : ℕ) (sys : TileSystem) (table : GrownValue) (is_yes : Bool) (text : List ℕ) : Type 0 where
  pub full : IsFullGrowth sys table.grid.tiles
  pub all : WonAll workers sys table
  pub printed : text ≡ flat_map
      (λ w. line_of (codes "won" ∷ decimal w ∷ decimal (won_by table w) ∷ []))
      (range_with_len 0 workers) ++ line_of (codes "total"
      ∷ decimal (sum_by (won_by table) (range_with_len 0 workers)) ∷ [])
  pub answer : is_yes ≡ true
