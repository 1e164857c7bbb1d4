-- What grows from a counter's tiles.
use Rattle.std.proofs.Common.{◌≡◌, ◌<◌, ◌≤◌, ◌+◌, ◌-◌, ◌*◌, ◌/◌, ◌%◌, ◌^◌, ◌==◌, cond, not, ℕ, ℤ, zero, suc, pos, ◌≤ℤ◌, Bool, true, false, List, ◌∷◌, map, Some, slice_get, option_map, option_and_then, refl, sym, ◌∙◌, ap, subst, inl, inr, arith}
use Rattle.std.specs.Bool.{xor}
use Rattle.std.specs.List.{range_with_len}
use Rattle.std.proofs.lemmas.Bool.{cases_lt}
use Rattle.std.proofs.lemmas.Bool.Decides.{eqb_tells}
use Rattle.std.proofs.lemmas.Int.{ints}
use Rattle.std.proofs.lemmas.Nat.{mod-pow-add}
use Rattle.std.proofs.lemmas.List.FromFn.{length-map-range_with_len}
use Rattle.atam.specs.declared.place.Place.{Place}
use Rattle.atam.specs.Placements.{HasDistinctSites, tile_at}
use Rattle.atam.specs.TileSystem.{IsValid}
use Rattle.atam.specs.Growth.{IsProducible, IsClosedInBox}
use Rattle.design.specs.TileSets.{cell_site, type_id}
use Rattle.design.specs.Laws.{HasDeterministicGrowth}
use Rattle.design.specs.RowDesigns.{GrowsRowByRow, IsBoxOfRows}
use Rattle.design.proofs.Rows.{cells_are_filled, deterministic_rows}
use Rattle.design.proofs.Tables.{kind_there}
use Rattle.counter_compile.specs.declared.kind.Kind.{Kind}
use Rattle.counter_compile.specs.declared.kind.Kind.TheVariants.{First, AddEast, AddMiddle, AddWest, CopyWest, CopyMiddle, CopyEast}
use Rattle.counter_compile.specs.Tiles.{digit, shown_bit, kinds_of, tiles_of}
use Rattle.counter_compile.specs.Inner.Rows.{kind_number}
use Rattle.counter_compile.specs.Counters.{row_count, counter_box, counter_system, number_of, bit_in, number_in_row}
use Rattle.counter_compile.proofs.Cells.{bit, by_column, Row, Base, Adding, Copying, row_above, row_at, value_in, kind_in, carry, cell}
use Rattle.counter_compile.proofs.Listed.{is_tile_set}
use Rattle.counter_compile.proofs.Growing.{counter_rows, are_grown, cell_from, cell_filled, by_column-ap, column_between, column_last, xor-true}
use Rattle.counter_compile.proofs.Bits.{bit-suc}

-- every second row is one more
next_but_one : (v : ℕ) (R : Row) → value_in v (row_above v (row_above v R)) ≡ suc (value_in v R)
next_but_one v Base = refl
next_but_one v (Adding n) = refl
next_but_one v (Copying n) = refl

value_at : (v j : ℕ) → value_in v (row_at v j) ≡ v + j / 2
value_at v zero = omega arith
value_at v (suc zero) = omega arith
value_at v (suc (suc j)) = let before = value_at v j in next_but_one v (row_at v j) ∙ omega (arith, before)

-- the rows that are there
rows_within : (v j limit : ℕ) → v + j / 2 < limit → j ≤ 2 * (limit - v) - 1
rows_within v j limit below = omega (arith, below)

top_row : (j top : ℕ) (y : ℤ) → y ≡ pos top → j ≤ top → pos j ≤ℤ y
top_row j top y same within = omega (arith, ints, same, within)

module _ (bits v : ℕ) (two : 2 ≤ bits) (start : v < 2 ^ bits) where
  abbrev east_end : ℕ
  east_end = bits - 1

  whole : 2 ^ suc east_end ≡ 2 ^ bits
  whole = ap (λ n. 2 ^ n) (omega (arith, two))

  grown : GrowsRowByRow (tiles_of east_end v) (counter_rows east_end v) (First 0)
  grown = are_grown east_end v (omega (arith, two)) (subst (λ n. v < n) (sym whole) start)

  box : IsBoxOfRows (counter_rows east_end v) (counter_box bits v)
  box = record { left = refl; bottom = refl; right = omega (arith, ints, two) }

  -- what stands in a cell of the box
  closed_counts : (tiles : List Place) → IsProducible (counter_system bits v) tiles → HasDistinctSites tiles → IsClosedInBox (counter_system bits v) tiles →
      (i j : ℕ) → i ≤ east_end → j < row_count bits v → tile_at tiles (cell_site i j) ≡ option_map (type_id (tiles_of east_end v)) (cell east_end v i j)
  closed_counts tiles producible distinct closed i j column row =
      cells_are_filled (tiles_of east_end v) (is_tile_set east_end v) (First 0) (counter_box bits v) (counter_rows east_end v) grown box tiles producible distinct closed i j
      (omega (arith, column)) (top_row j (row_count bits v - 1) (pos (row_count bits v - 1)) refl (omega (arith, row)))

  pub deterministic_count : IsValid (counter_system bits v) → HasDeterministicGrowth (counter_system bits v)
  deterministic_count valid =
      deterministic_rows (tiles_of east_end v) (is_tile_set east_end v) (First 0) (counter_box bits v) (counter_rows east_end v) grown box valid (λ i j k wanted.
      let c = cell_from east_end v (row_at v j) i k wanted in
      let Below : ℕ → Type 0 = λ n. n < 2 ^ suc east_end in
      let less : v + j / 2 < 2 ^ suc east_end = subst Below (value_at v j) c.1 in
      top_row j (row_count bits v - 1) (pos (row_count bits v - 1)) refl (rows_within v j (2 ^ bits) (subst (λ n. v + j / 2 < n) whole less)))

-- the value that a row shows
shown_value : ℕ → Row → ℕ
shown_value v Base = v
shown_value v (Adding n) = suc n
shown_value v (Copying n) = n

shown_next : (v : ℕ) (R : Row) → shown_value v (row_above v (row_above v R)) ≡ suc (shown_value v R)
unfolding shown_value
shown_next v Base = refl
shown_next v (Adding n) = refl
shown_next v (Copying n) = refl

shown_at : (v j : ℕ) → shown_value v (row_at v j) ≡ v + suc j / 2
unfolding shown_value
shown_at v zero = omega arith
shown_at v (suc zero) = omega arith
shown_at v (suc (suc j)) = let before = shown_at v j in shown_next v (row_at v j) ∙ omega (arith, before)

adding_shows : (last v n i : ℕ) → 1 ≤ last → i ≤ last → shown_bit last v (kind_in last (Adding n) i) ≡ bit (last - i) (suc n)
adding_shows last v n i two within =
    let b = bit (last - i) n in
    let c = carry (last - i) n in
    let shows : shown_bit last v (kind_in last (Adding n) i) ≡ by_column last i (xor b c) (xor b c) (not b) = by_column-ap (shown_bit last v) last i (AddWest b c) (AddMiddle b c) (AddEast b) in
    shows ∙ by_place i within (xor b c) (not b) (λ end. sym (xor-true b) ∙ ap (xor b) (sym (ap (λ p. carry p n) (lowest i end)))) ∙ sym (bit-suc (last - i) n)
  where
    lowest : (i : ℕ) → i ≡ last → last - i ≡ 0
    lowest i end = omega (arith, end)

    by_place : (i : ℕ) → i ≤ last → (x y : Bool) → (i ≡ last → y ≡ x) → by_column last i x x y ≡ x
    by_place zero within x y same = refl
    by_place (suc i) within x y same = elim (cases_lt (suc i) last) [
      | inl between ↦ column_between last (suc i) x x y (omega arith) between
      | inr end ↦
          let at_end : suc i ≡ last = omega (arith, within, end) in
          ap (λ n. by_column last n x x y) at_end ∙ column_last last x x y two ∙ same at_end
    ]

row_shows : (last v : ℕ) (R : Row) (i : ℕ) → 1 ≤ last → i ≤ last → shown_bit last v (kind_in last R i) ≡ bit (last - i) (shown_value v R)
unfolding shown_value
row_shows last v Base i two within = refl
row_shows last v (Adding n) i two within = adding_shows last v n i two within
row_shows last v (Copying n) i two within =
    let b = bit (last - i) n in
    by_column-ap (shown_bit last v) last i (CopyWest b) (CopyMiddle b) (CopyEast b) ∙ one i
  where
    one : (j : ℕ) → by_column last j (bit (last - i) n) (bit (last - i) n) (bit (last - i) n) ≡ bit (last - i) n
    one zero = refl
    one (suc j) = elim (suc j == last) as (λ t. cond t (bit (last - i) n) (bit (last - i) n) ≡ bit (last - i) n) [ true ↦ refl | false ↦ refl ]

rows_show : (last v i j : ℕ) (k : Kind) → 1 ≤ last → cell last v i j ≡ Some k → shown_bit last v k ≡ bit (last - i) (v + suc j / 2)
rows_show last v i j k two there =
    let c = cell_from last v (row_at v j) i k there in
    ap (shown_bit last v) (sym c.2) ∙ row_shows last v (row_at v j) i two c.0 ∙ ap (bit (last - i)) (shown_at v j)

-- two functions that agree on a range
map-range : {A : Type 0} (f g : ℕ → A) (a len : ℕ) → ((i : ℕ) → i < a + len → f i ≡ g i) → map f (range_with_len a len) ≡ map g (range_with_len a len)
map-range f g a zero same = refl
map-range f g a (suc len) same =
    let rest = map-range f g (a + 1) len (λ i less. same i (omega (arith, less))) in
    ap (λ x. x ∷ map f (range_with_len (a + 1) len)) (same a (omega arith)) ∙ ap (λ l. g a ∷ l) rest

-- the number of the bits of a number, modulo a power of 2
digit-mod : (m : ℕ) → digit (m % 2 == 1) ≡ m % 2
digit-mod m = elim (eqb_tells (m % 2) 1) [
  | inl odd ↦ let o = odd.1 in rw odd.0 (sym o)
  | inr even ↦ let e = even.1 in rw even.0 (omega (arith, e))
]

number-bits : (n last a len : ℕ) → a + len ≡ suc last → number_of (map (λ i. Some (bit (last - i) n)) (range_with_len a len)) ≡ Some (n % 2 ^ len)
number-bits n last a zero whole = ap (λ m. Some m) (omega arith)
number-bits n last a (suc len) whole =
    let place : last - a ≡ len = omega (arith, whole) in
    let rest = number-bits n last (a + 1) len (omega (arith, whole)) in
    let long = length-map-range_with_len (λ i. Some (bit (last - i) n)) (a + 1) len in
    let high : digit (bit (last - a) n) ≡ n / 2 ^ len % 2 = ap (λ p. digit (bit p n)) place ∙ digit-mod (n / 2 ^ len) in
    let one_more : 1 + len ≡ suc len = omega arith in
    let split : n / 2 ^ len % 2 * 2 ^ len + n % 2 ^ len ≡ n % 2 ^ suc len = sym (mod-pow-add n 1 len) ∙ ap (λ p. n % 2 ^ p) one_more in
    rw (rest, long, high) (ap (λ m. Some m) split)

-- what is there in a list is found at its number
module _ (bits v : ℕ) (two : 2 ≤ bits) (start : v < 2 ^ bits) (tiles : List Place) (producible : IsProducible (counter_system bits v) tiles) (distinct : HasDistinctSites tiles)
    (closed : IsClosedInBox (counter_system bits v) tiles) where
  bit_there : (y i : ℕ) → y < row_count bits v → i < bits → bit_in bits v tiles y i ≡ Some (bit (bits - 1 - i) (v + (y + 1) / 2))
  bit_there y i row column =
      let last = bits - 1 in
      let within : i ≤ last = omega (arith, column) in
      let value : v + y / 2 < 2 ^ bits = omega (arith, row, start) in
      let below : value_in v (row_at v y) < 2 ^ suc last = subst (λ n. n < 2 ^ suc last) (sym (value_at v y)) (subst (λ n. v + y / 2 < n) (sym (whole bits v two start)) value) in
      let k = kind_in last (row_at v y) i in
      let there : cell last v i y ≡ Some k = cell_filled last v (row_at v y) i within below in
      let stands : tile_at tiles (cell_site i y) ≡ Some (type_id (tiles_of last v) k) = closed_counts bits v two start tiles producible distinct closed i y within row ∙ ap (option_map (type_id (tiles_of last v))) there in
      let listed = (grown bits v two start).kinds i y k there in
      let numbered : slice_get (kinds_of last) (kind_number last k) ≡ Some k = kind_there (tiles_of last v) (is_tile_set last v) (First 0) (counter_box bits v) k listed in
      let next : suc y ≡ y + 1 = omega arith in
      ap (option_and_then (λ t. option_map (shown_bit last v) (slice_get (kinds_of last) t.0))) stands
      ∙ ap (option_map (shown_bit last v)) numbered
      ∙ ap (λ b. Some b) (rows_show last v i y k (omega (arith, two)) there ∙ ap (λ n. bit (last - i) (v + n / 2)) next)

  pub row_counts : (y : ℕ) → y < row_count bits v → number_in_row bits v tiles y ≡ Some ((v + (y + 1) / 2) % 2 ^ bits)
  row_counts y row =
      ap number_of (map-range (bit_in bits v tiles y) (λ i. Some (bit (bits - 1 - i) (v + (y + 1) / 2))) 0 bits (λ i less. bit_there y i row (omega (arith, less))))
      ∙ number-bits (v + (y + 1) / 2) (bits - 1) 0 bits (omega (arith, two))
