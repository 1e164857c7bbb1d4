-- Places that are logged into memory taken before.
use Rattle.std.specs.Prelude.{ℕ, List}
use Rattle.atam.specs.declared.place.Place.{Place}

-- places, and how many there is room for without more memory
pub record RoomyPlaces : Type 0 where
  pub places : List Place
  pub room : ℕ
