-- The rest of a sequence, by the tiles of a grid.
use Rattle.std.proofs.Common.{◌≡◌, ◌≤◌, ◌+◌, ℕ, List, [], ◌∷◌, ◌++◌, length, take, slice_get, Some, is_none, filter, ap, ◌∙◌}
use Rattle.std.proofs.lemmas.List.Elements.{filter-append}
use Rattle.std.proofs.Math.Nat.{le_trans}
use Rattle.atam.specs.declared.place.Place.{Place}
use Rattle.atam.specs.Placements.{HasDistinctSites, rest_of, tile_at}
use Rattle.atam.specs.TileSystem.{TileSystem}
use Rattle.atam.specs.Sites.{IsBox}
use Rattle.atam.specs.Assembly.{Fits}
use Rattle.atam.proofs.Count.{count_in_box}
use Rattle.assembly.proofs.Cells.{cell_count-most}
use Rattle.assembly.proofs.Putting.{take_more}
use Rattle.atam.proofs.Tiles.{SameTiles}

pub rest_of-same : (a b whole : List Place) → SameTiles a b → rest_of a whole ≡ rest_of b whole
rest_of-same a b whole same = λ i. filter (λ p. is_none (same p.site i)) whole

-- one place more
pub rest_of-more : (part whole : List Place) (n : ℕ) (p : Place) → slice_get whole n ≡ Some p → rest_of part (take (n + 1) whole) ≡ rest_of part (take n whole) ++ rest_of part (p ∷ [])
rest_of-more part whole n p there = ap (rest_of part) (take_more whole n p there) ∙ filter-append (λ q. is_none (tile_at part q.site)) (take n whole) (p ∷ [])

-- an assembly in a box has no more places than the box has sites
pub few : (sys : TileSystem) (tiles : List Place) → IsBox sys.area → HasDistinctSites tiles → Fits sys tiles → length tiles ≤ 1048576
few sys tiles limits distinct fits = le_trans (count_in_box sys.area tiles distinct fits.sites) (cell_count-most sys.area limits)
