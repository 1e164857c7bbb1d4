-- The symbols that a type of a quadrant's system is for.
use Rattle.std.proofs.Common.{◌≡◌, ◌<◌, ◌≤◌, ◌+◌, ◌-◌, ℕ, zero, suc, List, [], ◌∷◌, ◌++◌, length, map, is_some, Option, Some, None, slice_get, option_map, option_and_then, refl, sym, ◌∙◌, ap, inl, inr, arith}
use Rattle.std.specs.List.{range_with_len}
use Rattle.std.proofs.lemmas.List.{length-map}
use Rattle.std.proofs.lemmas.List.FromFn.{length-range_with_len}
use Rattle.std.proofs.lemmas.Option.{slice_get-map}
use Rattle.atam.specs.declared.place.TypeId.{TypeId}
use Rattle.atam.specs.declared.place.Place.{Place}
use Rattle.atam.specs.Placements.{tile_at}
use Rattle.atam.proofs.Lists.{some_or_none}
use Rattle.design.specs.TileSets.{cell_site, type_id}
use Rattle.design.proofs.Tables.{kind_there}
use Rattle.quadrant_compile.specs.declared.rule.Answer.{Answer}
use Rattle.quadrant_compile.specs.declared.tile.Kind.{Kind}
use Rattle.quadrant_compile.specs.declared.tile.Kind.TheVariants.{Corner, Bottom, Left, Cell}
use Rattle.quadrant_compile.specs.Quadrants.{RuleQuadrant, IsQuadrant, answer_among}
use Rattle.quadrant_compile.specs.Recurrence.{IsRecurrence}
use Rattle.quadrant_compile.specs.Quadrants.{ruled_pairs}
use Rattle.quadrant_compile.specs.Recurrence.{cell_for}
use Rattle.quadrant_compile.specs.QuadrantSystems.{tiles_of}
use Rattle.quadrant_compile.specs.Inner.Listed.{kinds, area_of}
use Rattle.quadrant_compile.specs.Cells.{symbols_of, type_symbols, cell_at, ruled_inputs, IsCellType, HasCells}
use Rattle.quadrant_compile.specs.Laws.{IsFullGrowth}
use Rattle.quadrant_compile.proofs.Listed.{is_tile_set, kind_listed}
use Rattle.quadrant_compile.proofs.Growing.{recurs}

slice_get-behind : {X : Type 0} (xs ys : List X) (i : ℕ) → slice_get (xs ++ ys) (length xs + i) ≡ slice_get ys i
slice_get-behind [] ys i = let same : 0 + i ≡ i = omega arith in ap (slice_get ys) same
slice_get-behind (x ∷ xs) ys i = let same : suc (length xs) + i ≡ suc (length xs + i) = omega arith in ap (slice_get (x ∷ (xs ++ ys))) same ∙ slice_get-behind xs ys i

range_length : {X : Type 0} (f : ℕ → X) (a n : ℕ) → length (map f (range_with_len a n)) ≡ n
range_length f a n = length-map (range_with_len a n) f ∙ length-range_with_len a n

own_pair : (o : Option (ℕ × ℕ)) → option_and_then symbols_of (option_map (λ p. Cell p.0 p.1) o) ≡ o
own_pair None = refl
own_pair (Some p) = refl

module _ (q : RuleQuadrant) (is_quadrant : IsQuadrant q) where
  -- the types of cells stand behind those of the borders, in the order of their pairs
  behind_borders : (t a b : ℕ) → slice_get (kinds q) t ≡ Some (Cell a b) → suc q.width + q.height ≤ t
  behind_borders t a b there = let number = (is_tile_set q is_quadrant).kinds t (Cell a b) there in omega (arith, number)

  pub border_symbols : (t : TypeId) → t.0 < suc q.width + q.height → type_symbols q t ≡ None
  border_symbols t less = by (slice_get (kinds q) t.0) (λ z. slice_get (kinds q) t.0)
    where
      by : (o : Option Kind) → slice_get (kinds q) t.0 ≡ o → option_and_then symbols_of o ≡ None
      by None there = refl
      by (Some Corner) there = refl
      by (Some (Bottom i)) there = refl
      by (Some (Left j)) there = refl
      by (Some (Cell a b)) there = let past = behind_borders t.0 a b there in let never : ⊥ = omega (arith, past, less) in absurd never

  pub pair_symbols : (t : TypeId) → suc q.width + q.height ≤ t.0 → type_symbols q t ≡ slice_get (ruled_pairs q) (t.0 - (suc q.width + q.height))
  pair_symbols t past =
      let r = t.0 - (suc q.width + q.height) in
      let bottoms : List Kind = map Bottom (range_with_len 1 q.width) in
      let lefts : List Kind = map Left (range_with_len 1 q.height) in
      let cells : List Kind = map (λ p. Cell p.0 p.1) (ruled_pairs q) in
      let wide = range_length Bottom 1 q.width in
      let high = range_length Left 1 q.height in
      let place : suc (length bottoms) + (length lefts + r) ≡ t.0 = omega (arith, past, wide, high) in
      let front = slice_get-behind (Corner ∷ bottoms) (lefts ++ cells) (length lefts + r) ∙ slice_get-behind lefts cells r in
      ap (option_and_then symbols_of) (ap (slice_get (kinds q)) (sym place) ∙ front ∙ slice_get-map (λ p. Cell p.0 p.1) (ruled_pairs q) r) ∙ own_pair (slice_get (ruled_pairs q) r)

  -- where only tiles of cells are at cells, there are symbols where there is a tile
  has_symbols : (o : Option TypeId) → ((t : TypeId) → o ≡ Some t → IsCellType q t) → is_some (option_and_then (type_symbols q) o) ≡ is_some o
  has_symbols None is = refl
  has_symbols (Some t) is = let cell = is t (λ z. Some t) in ap (λ k. is_some (option_and_then symbols_of k)) cell.2

  pub cell_there : (tiles : List Place) → HasCells q tiles → (i j : ℕ) → 1 ≤ i → 1 ≤ j → is_some (cell_at q tiles i j) ≡ is_some (tile_at tiles (cell_site i j))
  cell_there tiles has zero j some one = let never : ⊥ = omega (arith, some) in absurd never
  cell_there tiles has (suc i) zero some one = let never : ⊥ = omega (arith, one) in absurd never
  cell_there tiles has (suc i) (suc j) some one = has_symbols (tile_at tiles (cell_site (suc i) (suc j))) (λ t there. has i j t there)

  -- the symbols of the tile for two symbols
  own_symbols : (west south : Option ℕ) → option_and_then (type_symbols q) (option_map (type_id (tiles_of q)) (cell_for q west south)) ≡ ruled_inputs q west south
  own_symbols None south = refl
  own_symbols (Some a) None = refl
  own_symbols (Some a) (Some b) = elim (some_or_none (answer_among q.rules a b)) [
    | inl none ↦
        ap (λ o. option_and_then (type_symbols q) (option_map (type_id (tiles_of q)) (option_map (λ x. Cell a b) o))) none
        ∙ sym (ap (λ o. option_and_then symbols_of (option_map (λ (x : Answer). Cell a b) o)) none)
    | inr x ↦
        let listed = kind_listed q is_quadrant (Cell a b) (ap is_some x.1) in
        ap (λ o. option_and_then (type_symbols q) (option_map (type_id (tiles_of q)) (option_map (λ y. Cell a b) o))) x.1
        ∙ ap (option_and_then symbols_of) (kind_there (tiles_of q) (is_tile_set q is_quadrant) Corner (area_of q) (Cell a b) listed)
        ∙ sym (ap (λ o. option_and_then symbols_of (option_map (λ (y : Answer). Cell a b) o)) x.1)
  ]

  cell_recurs : (tiles : List Place) (e n : ℕ → ℕ → Option ℕ) → IsRecurrence q e n → IsFullGrowth q tiles → (i j : ℕ) → suc i ≤ q.width → suc j ≤ q.height →
      cell_at q tiles (suc i) (suc j) ≡ ruled_inputs q (e i (suc j)) (n (suc i) j)
  cell_recurs tiles e n is growth i j column row = ap (option_and_then (type_symbols q)) (recurs q is_quadrant tiles e n is growth i j column row) ∙ own_symbols (e i (suc j)) (n (suc i) j)

  pub cell_shows : (tiles : List Place) (e n : ℕ → ℕ → Option ℕ) → IsRecurrence q e n → IsFullGrowth q tiles → (i j : ℕ) → 1 ≤ i → i ≤ q.width → 1 ≤ j → j ≤ q.height →
      cell_at q tiles i j ≡ ruled_inputs q (e (i - 1) j) (n i (j - 1))
  cell_shows tiles e n is growth zero j some column one row = let never : ⊥ = omega (arith, some) in absurd never
  cell_shows tiles e n is growth (suc i) zero some column one row = let never : ⊥ = omega (arith, one) in absurd never
  cell_shows tiles e n is growth (suc i) (suc j) some column one row =
      let west : i ≡ suc i - 1 = omega arith in
      let south : j ≡ suc j - 1 = omega arith in
      cell_recurs tiles e n is growth i j column row ∙ (λ z. ruled_inputs q (e (west z) (suc j)) (n (suc i) (south z)))
