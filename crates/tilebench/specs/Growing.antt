-- What commands answer that grow a system.
use Rattle.tile_text.specs.SystemText.{ReadsAny}
use Rattle.std.specs.Prelude.{◌≡◌, ℕ, Bool, List, Option, Some, None}
use Rattle.atam.specs.TileSystem.{TileSystem}
use Rattle.site_table.specs.Seats.{GrownValue}
use Rattle.grow_workers.specs.Workers.{IsGrownBy}
use Rattle.tilebench.specs.Inputs.{IsAlone}

-- The input is the text of one system, which so many workers grew. What it grew into is handed out, and this is told of it.
pub record TellsGrowth (Tells : TileSystem → GrownValue → Bool → List ℕ → Type 0) (workers : ℕ) (grown : Option GrownValue) (input : List ℕ) (is_yes : Bool) (text : List ℕ) : Type 0 where
  pub sys : TileSystem
  pub read : IsAlone ReadsAny input sys
  pub table : GrownValue
  pub handed_out : grown ≡ Some table
  pub grew : IsGrownBy sys workers table
  pub told : Tells sys table is_yes text

-- this is told of the input, and no growth is handed out
pub record TellsNoGrowth (Tells : List ℕ → Bool → List ℕ → Type 0) (grown : Option GrownValue) (input : List ℕ) (is_yes : Bool) (text : List ℕ) : Type 0 where
  pub none : grown ≡ None
  pub told : Tells input is_yes text
