-- The rows of a picture, cell by cell.
use Rattle.std.proofs.Common.{◌≡◌, ◌<◌, ◌≤◌, ◌-◌, ℕ, List, [], ◌∷◌, length, map, take, flat_map, get_or, refl, sym, ◌∙◌, ap, arith}
use Rattle.std.specs.Prelude.{reverse}
use Rattle.std.specs.List.{range_with_len}
use Rattle.std.proofs.Math.Seq.{take-length}
use Rattle.std.proofs.lemmas.List.{get_or-reverse, length-reverse}
use Rattle.std.proofs.lemmas.List.FromFn.{get_or-range_with_len, length-range_with_len}
use Rattle.atam.specs.declared.site.Site.{Site}
use Rattle.atam.specs.declared.area.BoxArea.{BoxArea}
use Rattle.atam.specs.Sites.{width_of, height_of, site_in}
use Rattle.assembly.specs.Grids.{TileGrid}
use Rattle.picture.specs.Pictures.{site_character, row_line}

-- the character of one site
abbrev pub cell_text : TileGrid → ℕ → ℕ → List ℕ
cell_text grid row column = site_character grid.tiles (site_in grid.area column row) ∷ []

-- the columns from the west, and the rows from the top
abbrev pub columns : TileGrid → List ℕ
columns grid = range_with_len 0 (width_of grid.area)

abbrev pub rows_down : TileGrid → List ℕ
rows_down grid = reverse (range_with_len 0 (height_of grid.area))

pub range_at : (n k : ℕ) → k < n → get_or (range_with_len 0 n) k 0 ≡ k
range_at n k less = get_or-range_with_len 0 n k 0 less ∙ omega arith

singles : (f : ℕ → ℕ) (xs : List ℕ) → flat_map (λ x. f x ∷ []) xs ≡ map f xs
singles f [] = refl
singles f (x ∷ xs) = ap (λ l. f x ∷ l) (singles f xs)

pub cells_are_sites : (grid : TileGrid) (row : ℕ) → flat_map (cell_text grid row) (columns grid) ≡ map (λ column. site_character grid.tiles (site_in grid.area column row)) (range_with_len 0 (width_of grid.area))
cells_are_sites grid row = singles (λ column. site_character grid.tiles (site_in grid.area column row)) (columns grid)

-- in a copy of the grid's box, of so many columns or rows
module _ (grid : TileGrid) (area : BoxArea) (same : area ≡ grid.area) where
  pub column_within : (n k : ℕ) → n ≡ width_of area → k < n → k < length (columns grid)
  column_within n k wide less =
      let here : n ≡ width_of grid.area = wide ∙ ap width_of same in
      let long = length-range_with_len 0 (width_of grid.area) in
      omega (arith, here, long, less)

  pub all_columns : (n k : ℕ) → n ≡ width_of area → n ≤ k → k ≤ n → take k (columns grid) ≡ columns grid
  all_columns n k wide past within =
      let here : n ≡ width_of grid.area = wide ∙ ap width_of same in
      let long = length-range_with_len 0 (width_of grid.area) in
      let all : k ≡ length (columns grid) = omega (arith, here, long, past, within) in
      ap (λ m. take m (columns grid)) all ∙ take-length (columns grid)

  pub cell_is : (row n k : ℕ) (site : Site) (character : ℕ) → n ≡ width_of area → k < n → site ≡ site_in area k row → character ≡ site_character grid.tiles site →
      character ∷ [] ≡ cell_text grid row (get_or (columns grid) k 0)
  cell_is row n k site character wide less at shown =
      let here : n ≡ width_of grid.area = wide ∙ ap width_of same in
      let place : site ≡ site_in grid.area k row = at ∙ ap (λ a. site_in a k row) same in
      ap (λ x. x ∷ []) (shown ∙ ap (site_character grid.tiles) place) ∙ ap (cell_text grid row) (sym (range_at (width_of grid.area) k (omega (arith, here, less))))

  pub row_below : (n k : ℕ) → n ≡ height_of area → k < n → k < length (rows_down grid)
  row_below n k high less =
      let here : n ≡ height_of grid.area = high ∙ ap height_of same in
      let long = length-range_with_len 0 (height_of grid.area) in
      let turned = length-reverse (range_with_len 0 (height_of grid.area)) in
      omega (arith, here, long, turned, less)

  pub all_rows : (n k : ℕ) → n ≡ height_of area → n ≤ k → k ≤ n → take k (rows_down grid) ≡ rows_down grid
  all_rows n k high past within =
      let here : n ≡ height_of grid.area = high ∙ ap height_of same in
      let long = length-range_with_len 0 (height_of grid.area) in
      let turned = length-reverse (range_with_len 0 (height_of grid.area)) in
      let all : k ≡ length (rows_down grid) = omega (arith, here, long, turned, past, within) in
      ap (λ m. take m (rows_down grid)) all ∙ take-length (rows_down grid)

  pub row_is : (n k : ℕ) → n ≡ height_of area → k < n → row_line grid (n - 1 - k) ≡ row_line grid (get_or (rows_down grid) k 0)
  row_is n k high less =
      let here : n ≡ height_of grid.area = high ∙ ap height_of same in
      let range = range_with_len 0 (height_of grid.area) in
      let long = length-range_with_len 0 (height_of grid.area) in
      let down : get_or (rows_down grid) k 0 ≡ n - 1 - k =
      get_or-reverse range k 0 (omega (arith, here, long, less)) ∙ range_at (height_of grid.area) (length range - 1 - k) (omega (arith, here, long, less)) ∙ omega (arith, here, long)
      in
      ap (row_line grid) (sym down)
