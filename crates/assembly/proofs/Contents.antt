-- The tiles that cells stand for. Each index has a site of its own.
use Rattle.std.proofs.Common.{◌≡◌, ◌≢◌, ◌⊎◌, ◌<◌, ◌≤◌, ◌+◌, ◌-◌, ◌==◌, ◌++◌, ℕ, zero, suc, true, false, cond, if◌then◌else◌, List, [], ◌∷◌, length, get_or, set, replicate, count_by, Some, None, All, refl, sym, zero-add, ◌∙◌, ap, subst, inl, inr, arith}
use Rattle.std.proofs.lemmas.Bool.{cases_Bool, cases_lt}
use Rattle.std.proofs.lemmas.List.Elements.{All-nil, All-cons}
use Rattle.std.proofs.lemmas.List.Sums.{sum_by-cons}
use Rattle.std.proofs.lemmas.List.Kept.{AllPairs-cons}
use Rattle.atam.specs.declared.site.Site.{Site}
use Rattle.atam.specs.declared.place.Place.{Place}
use Rattle.atam.specs.Placements.{HasDistinctSites, tile_at}
use Rattle.atam.proofs.Boxes.{same_site_tells}
use Rattle.atam.proofs.Placements.{tile_at-here, tile_at-past, tile_at-append, tile_at-append_past}
use Rattle.assembly.specs.Grids.{place_of, places_of}
use Rattle.assembly.specs.Inner.GridCells.{is_tile, type_in}
use Rattle.atam.proofs.Tiles.{SameTiles}

pub type_in-gap : (cell : ℕ) → (cell == 0) ≡ true → type_in cell ≡ None
type_in-gap cell gap = rw gap refl

pub type_in-tile : (cell : ℕ) → (cell == 0) ≡ false → type_in cell ≡ Some (record { 0 = cell - 1 })
type_in-tile cell tile = rw tile refl

-- one cell before others, at its own site and elsewhere
place_here : (m : Site) (cell : ℕ) (rest : List Place) → tile_at rest m ≡ None → tile_at (place_of m cell ++ rest) m ≡ type_in cell
place_here m cell rest empty = elim (cases_Bool (cell == 0)) [
  | inl none ↦ rw none empty
  | inr tile ↦ rw tile (tile_at-here (record { site = m; tile = record { 0 = cell - 1 } }) rest m refl)
]

place_past : (n m : Site) (cell : ℕ) (rest : List Place) → n ≢ m → tile_at (place_of n cell ++ rest) m ≡ tile_at rest m
place_past n m cell rest other = elim (cases_Bool (cell == 0)) [
  | inl none ↦ rw none refl
  | inr tile ↦ rw tile (tile_at-past (record { site = n; tile = record { 0 = cell - 1 } }) rest m other)
]

place_same : (n m : Site) (cell : ℕ) (rest more : List Place) → tile_at rest m ≡ tile_at more m → tile_at (place_of n cell ++ rest) m ≡ tile_at (place_of n cell ++ more) m
place_same n m cell rest more same =
    let p : Place = record { site = n; tile = record { 0 = cell - 1 } } in
    elim (cases_Bool (cell == 0)) [
      | inl none ↦ rw none same
      | inr tile ↦
          rw tile (elim (same_site_tells n m) [
            | inl here ↦ tile_at-here p rest m here.1 ∙ sym (tile_at-here p more m here.1)
            | inr other ↦ tile_at-past p rest m other.1 ∙ same ∙ sym (tile_at-past p more m other.1)
          ])
    ]

module _ (at : ℕ → Site) where
  -- what holds of the sites holds of the places
  pub All-places : (P : Site → Type 0) (k : ℕ) (cells : List ℕ) → ((j : ℕ) → k ≤ j → j < k + length cells → P (at j)) → All (λ p. P p.site) (places_of at k cells)
  All-places P k [] each = All-nil (λ p. P p.site)
  All-places P k (cell ∷ cells) each =
      let rest = All-places P (suc k) cells (λ j above below. each j (omega (arith, above)) (omega (arith, below))) in
      elim (cases_Bool (cell == 0)) [
        | inl none ↦ rw none rest
        | inr tile ↦ rw tile (All-cons (λ p. P p.site) (record { site = at k; tile = record { 0 = cell - 1 } }) (places_of at (suc k) cells) (each k (omega arith) (omega arith)) rest)
      ]

  -- as many places as cells of tiles
  pub length-places : (k : ℕ) (cells : List ℕ) → length (places_of at k cells) ≡ count_by is_tile cells
  length-places k [] = refl
  length-places k (cell ∷ cells) =
      let n = length (places_of at (suc k) cells) in
      let first : length (place_of (at k) cell ++ places_of at (suc k) cells) ≡ cond (is_tile cell) 1 0 + n = elim (cases_Bool (cell == 0)) [
        | inl none ↦ rw none (sym (zero-add n))
        | inr tile ↦ rw tile (omega arith)
      ]
      in
      first ∙ ap (λ r. cond (is_tile cell) 1 0 + r) (length-places (suc k) cells) ∙ sym (sum_by-cons (λ w. cond (is_tile w) 1 0) cell cells)

  -- cells that are 0 have none
  pub places-replicate : (k n : ℕ) → places_of at k (replicate n 0) ≡ []
  places-replicate k zero = refl
  places-replicate k (suc n) = places-replicate (suc k) n

  -- a site of no index is empty
  pub tile_at-outside : (k : ℕ) (cells : List ℕ) (m : Site) → ((j : ℕ) → k ≤ j → j < k + length cells → at j ≢ m) → tile_at (places_of at k cells) m ≡ None
  tile_at-outside k [] m apart = refl
  tile_at-outside k (cell ∷ cells) m apart =
      place_past (at k) m cell (places_of at (suc k) cells) (apart k (omega arith) (omega arith))
      ∙ tile_at-outside (suc k) cells m (λ j above below. apart j (omega (arith, above)) (omega (arith, below)))

  -- a cell that is written changes one site
  pub tile_at-set_other : (k i j w : ℕ) (cells : List ℕ) (m : Site) → j ≡ k + i → at j ≢ m → tile_at (places_of at k (set cells i w)) m ≡ tile_at (places_of at k cells) m
  tile_at-set_other k i j w [] m same other = refl
  tile_at-set_other k zero j w (cell ∷ cells) m same other =
      let first : j ≡ k = omega (arith, same) in
      let rest = places_of at (suc k) cells in
      let At : ℕ → Type 0 = λ n. at n ≢ m in
      let past : at k ≢ m = subst At first other in
      place_past (at k) m w rest past ∙ sym (place_past (at k) m cell rest past)
  tile_at-set_other k (suc i) j w (cell ∷ cells) m same other =
      place_same (at k) m cell (places_of at (suc k) (set cells i w)) (places_of at (suc k) cells)
      (tile_at-set_other (suc k) i j w cells m (omega (arith, same)) other)

  module _ (injective : (i j : ℕ) → at i ≡ at j → i ≡ j) where
    -- a cell's type stands at its site
    pub tile_at-cell : (k i j : ℕ) (cells : List ℕ) → j ≡ k + i → i < length cells → tile_at (places_of at k cells) (at j) ≡ type_in (get_or cells i 0)
    tile_at-cell k i j [] same below = let never : ⊥ = omega (arith, below) in absurd never
    tile_at-cell k zero j (cell ∷ cells) same below =
        let first : k ≡ j = omega (arith, same) in
        let Here : ℕ → Type 0 = λ n. tile_at (places_of at k (cell ∷ cells)) (at n) ≡ type_in cell in
        subst Here first (place_here (at k) cell (places_of at (suc k) cells)
        (tile_at-outside (suc k) cells (at k) (λ n above within one.
        let equal : n ≡ k = injective n k one in
        let never : ⊥ = omega (arith, above, equal) in
        never)))
    tile_at-cell k (suc i) j (cell ∷ cells) same below =
        place_past (at k) (at j) cell (places_of at (suc k) cells) (λ one.
        let equal : k ≡ j = injective k j one in
        let never : ⊥ = omega (arith, same, equal) in
        never)
        ∙ tile_at-cell (suc k) i j cells (omega (arith, same)) (omega (arith, below))

    -- the sites are distinct
    pub places-distinct : (k : ℕ) (cells : List ℕ) → HasDistinctSites (places_of at k cells)
    places-distinct k [] = λ i j d less below same. let never : ⊥ = omega (arith, below) in never
    places-distinct k (cell ∷ cells) =
        let rest = places-distinct (suc k) cells in
        elim (cases_Bool (cell == 0)) [
          | inl none ↦ rw none rest
          | inr tile ↦
              rw tile (AllPairs-cons (λ p q. p.site ≢ q.site) (record { site = at k; tile = record { 0 = cell - 1 } }) (places_of at (suc k) cells)
              (All-places (λ m. at k ≢ m) (suc k) cells (λ j above within one.
              let equal : k ≡ j = injective k j one in
              let never : ⊥ = omega (arith, above, equal) in
              never))
              rest)
        ]

    -- a site is that of an index, or of none
    find_index : (n : ℕ) (m : Site) → ((j : ℕ) × (j < n) × (at j ≡ m)) ⊎ ((j : ℕ) → j < n → at j ≢ m)
    find_index zero m = inr (λ j below one. let never : ⊥ = omega (arith, below) in never)
    find_index (suc n) m = elim (find_index n m) [
      | inl found ↦ inl (found.0, omega (arith, found.1), found.2)
      | inr none ↦ elim (same_site_tells (at n) m) [
        | inl here ↦ inl (n, omega arith, here.1)
        | inr other ↦ inr (λ j below one. elim (cases_lt j n) [
          | inl earlier ↦ none j earlier one
          | inr last ↦
              let equal : j ≡ n = omega (arith, below, last) in
              let At : ℕ → Type 0 = λ k. at k ≡ m in
              other.1 (subst At equal one)
        ])
      ]
    ]

    -- cells that fill the gaps of some by those of others stand for the tiles of both
    pub tile_at-merged : (a b c : List ℕ) → length a ≡ length c → length b ≡ length c →
        ((i : ℕ) → i < length c → get_or c i 0 ≡ (if get_or a i 0 == 0 then get_or b i 0 else get_or a i 0)) →
        SameTiles (places_of at 0 c) (places_of at 0 a ++ places_of at 0 b)
    tile_at-merged a b c length_a length_b filled m = elim (find_index (length c) m) [
      | inl found ↦
          let j = found.0 in
          let x = get_or a j 0 in
          let Same : Site → Type 0 = λ n. tile_at (places_of at 0 c) n ≡ tile_at (places_of at 0 a ++ places_of at 0 b) n in
          let zero_first : j ≡ 0 + j = omega arith in
          let in_a = tile_at-cell 0 j j a zero_first (omega (arith, length_a, found.1)) in
          let in_b = tile_at-cell 0 j j b zero_first (omega (arith, length_b, found.1)) in
          let in_c = tile_at-cell 0 j j c zero_first found.1 ∙ ap type_in (filled j found.1) in
          subst Same found.2 (elim (cases_Bool (x == 0)) [
            | inl gap ↦
                let none : tile_at (places_of at 0 a) (at j) ≡ None = in_a ∙ type_in-gap x gap in
                let other : (if x == 0 then get_or b j 0 else x) ≡ get_or b j 0 = rw gap refl in
                in_c ∙ ap type_in other ∙ sym in_b ∙ sym (tile_at-append_past (places_of at 0 a) (places_of at 0 b) (at j) none)
            | inr tile ↦
                let some = type_in-tile x tile in
                let own : (if x == 0 then get_or b j 0 else x) ≡ x = rw tile refl in
                in_c ∙ ap type_in own ∙ some ∙ sym (tile_at-append (places_of at 0 a) (places_of at 0 b) (at j) (record { 0 = x - 1 }) (in_a ∙ some))
          ])
      | inr none ↦
          let empty : (cells : List ℕ) → length cells ≡ length c → tile_at (places_of at 0 cells) m ≡ None = λ cells same.
          tile_at-outside 0 cells m (λ j above below. none j (omega (arith, below, same)))
          in
          empty c refl ∙ sym (tile_at-append_past (places_of at 0 a) (places_of at 0 b) m (empty a length_a) ∙ empty b length_b)
    ]
