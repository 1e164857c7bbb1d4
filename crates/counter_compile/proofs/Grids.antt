-- A grid of a counter.
use Rattle.std.proofs.Common.{◌≡◌, ◌<◌, ◌+◌, ◌/◌, ◌%◌, ◌^◌, ℕ, Some, All, ◌∙◌, ap, subst, arith}
use Rattle.std.proofs.lemmas.Int.{ints}
use Rattle.atam.specs.Sites.{height_of}
use Rattle.atam.specs.Placements.{HasDistinctSites}
use Rattle.atam.specs.Growth.{IsProducible, IsClosedInBox}
use Rattle.assembly.specs.Grids.{TileGrid}
use Rattle.counter_compile.specs.Counters.{IsOfCounter, counter_box, counter_system, number_in_row, row_count}
use Rattle.counter_compile.specs.Inner.Accepted.{IsAccepted}
use Rattle.counter_compile.proofs.Limits.{accepted, type_count}
use Rattle.counter_compile.proofs.Counting.{row_counts}

height : (bits start : ℕ) → IsAccepted bits start → height_of (counter_box bits start) ≡ row_count bits start
height bits start fits = let some = fits.start in omega (arith, ints, some)

module _ (bits start : ℕ) (grid : TileGrid) (is_grid : IsOfCounter bits start grid) where
  pub fits : IsAccepted bits start
  fits = accepted bits start is_grid.accepted

  pub types_listed : All (λ p. p.tile.0 < bits + 16) grid.tiles
  types_listed = λ i d inside.
      let type = is_grid.types i d inside in
      let least = fits.least in
      let long = type_count bits start (omega (arith, least)) in
      omega (arith, type, long)

  pub row_within : (y : ℕ) → y < height_of grid.area → y < row_count bits start
  row_within y within = subst (λ n. y < n) (ap height_of is_grid.area ∙ height bits start fits) within

  pub row_small : (y : ℕ) → y < height_of grid.area → y < 1024
  row_small y within = let row = row_within y within in let most = fits.rows in omega (arith, row, most)

  pub grid_counts : (y : ℕ) → y < height_of grid.area → HasDistinctSites grid.tiles → IsProducible (counter_system bits start) grid.tiles → IsClosedInBox (counter_system bits start) grid.tiles →
      number_in_row bits start grid.tiles y ≡ Some ((start + (y + 1) / 2) % 2 ^ bits)
  grid_counts y within distinct producible closed = row_counts bits start fits.least fits.start grid.tiles producible distinct closed y (row_within y within)
