-- What is logged of growth on a grid alone.
use Rattle.std.specs.Prelude.{ℕ, Bool, List}
use Rattle.atam.specs.declared.place.Place.{Place}

-- the seeds and the tiles that came after them, how many there is room for, and whether it is clear that each tile came clean, held by exactly the temperature
pub record LoggedTiles : Type 0 where
  pub places : List Place
  pub room : ℕ
  pub clean : Bool
