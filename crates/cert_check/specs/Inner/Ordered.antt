-- What a certificate keeps whose entries are made when they are asked for.
use Rattle.std.specs.Prelude.{◌≡◌, ℕ, ◌<◌, ◌≤◌, ◌^◌, List, length, All}
use Rattle.atam.specs.declared.place.Place.{Place}
use Rattle.atam.specs.Placements.{HasDistinctSites}

-- places at distinct sites, no more than there are ranks, and for each of them a set of the four sides
pub record AreInOrder (order : List Place) (sides : List ℕ) : Type 0 where
  pub few : length order ≤ 2 ^ 32
  pub distinct : HasDistinctSites order
  pub count : length sides ≡ length order
  pub small : All (λ s. s < 16) sides
