-- The order in which a scout claims, where it always claims the least open site.
use Rattle.std.specs.Prelude.{◌≡◌, ℕ, ◌≤◌, ◌<◌, Bool, List, ◌++◌, All, length, map}
use Rattle.atam.specs.declared.place.Place.{Place}
use Rattle.atam.specs.TileSystem.{TileSystem}
use Rattle.atam.specs.Placements.{IsPartOf}
use Rattle.atam.specs.Assembly.{Fits}
use Rattle.atam.specs.Canonical.{IsCanonical}
use Rattle.assembly.specs.Cells.{cell_count, site_at}

-- The numbers of the sites of claims, how many there is room for without more memory, whether each of these sites then had the type for which it was claimed,
-- so that its tile came in turn, and whether it is clear that each tile came clean, held by exactly the temperature.
pub record LoggedClaims : Type 0 where
  pub numbers : List ℕ
  pub room : ℕ
  pub in_order : Bool
  pub clean : Bool

-- Behind the seeds, the tiles at the sites of the box with these numbers are the canonical sequence.
pub record AreCanonicalClaims (sys : TileSystem) (tiles : List Place) (numbers : List ℕ) : Type 0 where
  pub claims : List Place
  pub sites : map (λ p. p.site) claims ≡ map (site_at sys.area) numbers
  pub within : All (λ n. n < cell_count sys.area) numbers
  pub few : length numbers ≤ cell_count sys.area
  pub fits : Fits sys claims
  pub stand : IsPartOf claims tiles
  pub canonical : IsCanonical sys tiles (sys.seeds ++ claims)
