-- The rows of a counter grow as the table has them.
use Rattle.std.proofs.Common.{◌≡◌, ◌⊎◌, ◌<◌, ◌≤◌, ◌-◌, ◌^◌, ◌==◌, ◌&&◌, nat_le, cond, ℕ, zero, suc, Bool, true, false, not, Option, Some, None, option_and_then, refl, sym, ◌∙◌, ap, subst, inl, inr, arith, zero-le}
use mathlib.Core.Bool.{xor}
use Rattle.std.proofs.Math.Nat.{le_refl}
use Rattle.std.proofs.lemmas.Option.{same_Some, none-some}
use Rattle.std.proofs.lemmas.Bool.{cases_lt, cases_order}
use Rattle.std.proofs.lemmas.Bool.Decides.{eqb_tells}
use Rattle.atam.specs.declared.site.Side.{Side}
use Rattle.atam.specs.declared.site.Side.TheVariants.{North, East, South, West}
use Rattle.design.specs.TileSets.{TileSet}
use Rattle.design.specs.RowDesigns.{RowDesign, IsFree, IsHeldByTwo, IsHeldByOneOrFree, IsHeldByTwoOrFree, GrowsRowByRow, label_shown, label_before, label_offered, label_strength}
use Rattle.design.proofs.Rows.{is_less, not_less}
use Rattle.design.proofs.RowSteps.{nat_le-true, nat_le-false}
use Rattle.counter_compile.specs.declared.kind.Kind.{Kind}
use Rattle.counter_compile.specs.declared.kind.Kind.TheVariants.{First, AddEast, AddMiddle, AddWest, CopyWest, CopyMiddle, CopyEast}
use Rattle.counter_compile.specs.declared.label.Label.{Label}
use Rattle.counter_compile.specs.declared.label.Label.TheVariants.{BitWest, Bit, BitEast, SumEast, Carry, SumWest, GoAhead, Chain}
use Rattle.counter_compile.specs.Tiles.{tiles_of, side}
use Rattle.counter_compile.proofs.Cells.{bit, by_column, column_is, carry, Row, Base, Adding, Copying, row_above, row_at, value_in, kind_in, cells_of}
use Rattle.counter_compile.proofs.Bits.{bit-suc, carry-suc, carry-out}
use Rattle.counter_compile.proofs.Listed.{IsKind, kind_listed}

-- which kind has these labels
module _ (last v : ℕ) where
  is_T : (k : Kind) (i : ℕ) → side last v k West ≡ Some (Chain (suc i)) → k ≡ First (suc i)
  is_T (First zero) i west = cc
  is_T (First (suc j)) i west = cc
  is_T (AddEast b) i west = cc
  is_T (AddMiddle b c) i west = cc
  is_T (AddWest b c) i west = cc
  is_T (CopyWest b) i west = cc
  is_T (CopyMiddle b) i west = cc
  is_T (CopyEast b) i west = cc

  is_IE : (k : Kind) (b : Bool) → side last v k South ≡ Some (BitEast b) → k ≡ AddEast b
  is_IE (First i) b south = cc
  is_IE (AddEast d) b south = cc
  is_IE (AddMiddle d e) b south = cc
  is_IE (AddWest d e) b south = cc
  is_IE (CopyWest d) b south = cc
  is_IE (CopyMiddle d) b south = cc
  is_IE (CopyEast d) b south = cc

  is_CW : (k : Kind) (b : Bool) → side last v k South ≡ Some (SumWest b) → k ≡ CopyWest b
  is_CW (First i) b south = cc
  is_CW (AddEast d) b south = cc
  is_CW (AddMiddle d e) b south = cc
  is_CW (AddWest d e) b south = cc
  is_CW (CopyWest d) b south = cc
  is_CW (CopyMiddle d) b south = cc
  is_CW (CopyEast d) b south = cc

  is_IW : (k : Kind) (b c : Bool) → side last v k South ≡ Some (BitWest b) → side last v k East ≡ Some (Carry c) → k ≡ AddWest b c
  is_IW (First i) b c south east = cc
  is_IW (AddEast d) b c south east = cc
  is_IW (AddMiddle d e) b c south east = cc
  is_IW (AddWest d e) b c south east = cc
  is_IW (CopyWest d) b c south east = cc
  is_IW (CopyMiddle d) b c south east = cc
  is_IW (CopyEast d) b c south east = cc

  is_IM : (k : Kind) (b c : Bool) → side last v k South ≡ Some (Bit b) → side last v k East ≡ Some (Carry c) → k ≡ AddMiddle b c
  is_IM (First i) b c south east = cc
  is_IM (AddEast d) b c south east = cc
  is_IM (AddMiddle d e) b c south east = cc
  is_IM (AddWest d e) b c south east = cc
  is_IM (CopyWest d) b c south east = cc
  is_IM (CopyMiddle d) b c south east = cc
  is_IM (CopyEast d) b c south east = cc

  is_CM : (k : Kind) (b : Bool) → side last v k South ≡ Some (Bit b) → side last v k West ≡ Some GoAhead → k ≡ CopyMiddle b
  is_CM (First i) b south west = cc
  is_CM (AddEast d) b south west = cc
  is_CM (AddMiddle d e) b south west = cc
  is_CM (AddWest d e) b south west = cc
  is_CM (CopyWest d) b south west = cc
  is_CM (CopyMiddle d) b south west = cc
  is_CM (CopyEast d) b south west = cc

  is_CE : (k : Kind) (b : Bool) → side last v k South ≡ Some (SumEast b) → side last v k West ≡ Some GoAhead → k ≡ CopyEast b
  is_CE (First i) b south west = cc
  is_CE (AddEast d) b south west = cc
  is_CE (AddMiddle d e) b south west = cc
  is_CE (AddWest d e) b south west = cc
  is_CE (CopyWest d) b south west = cc
  is_CE (CopyMiddle d) b south west = cc
  is_CE (CopyEast d) b south west = cc

-- one of three by its column
pub by_column-ap : {A Z : Type 0} (f : A → Z) (last i : ℕ) (a b c : A) → f (by_column last i a b c) ≡ by_column last i (f a) (f b) (f c)
by_column-ap f last zero a b c = refl
by_column-ap f last (suc i) a b c = elim (suc i == last) as (λ t. f (cond t c b) ≡ cond t (f c) (f b)) [ true ↦ refl | false ↦ refl ]

pub column_between : {A : Type 0} (last i : ℕ) (a b c : A) → 0 < i → i < last → by_column last i a b c ≡ b
column_between last zero a b c some less = let never : ⊥ = omega (arith, some) in absurd never
column_between last (suc i) a b c some less = elim (eqb_tells (suc i) last) [
  | inl same ↦ let e = same.1 in let never : ⊥ = omega (arith, e, less) in absurd never
  | inr other ↦ rw other.0 refl
]

pub column_last : {A : Type 0} (last : ℕ) (a b c : A) → 1 ≤ last → by_column last last a b c ≡ c
column_last zero a b c two = let never : ⊥ = omega (arith, two) in absurd never
column_last (suc n) a b c two = elim (eqb_tells (suc n) (suc n)) [
  | inl same ↦ rw same.0 refl
  | inr other ↦ absurd (other.1 refl)
]

both-false : (b : Bool) → (b && false) ≡ false
both-false true = refl
both-false false = refl

pub xor-true : (b : Bool) → xor b true ≡ not b
unfolding xor
xor-true true = refl
xor-true false = refl

module _ (last v : ℕ) where
  abbrev tiles : TileSet Kind Label
  tiles = tiles_of last v

  -- where each row starts
  abbrev pub start_in : Row → ℕ
  start_in Base = 0
  start_in (Adding n) = last
  start_in (Copying n) = 0

  abbrev pub counter_rows : RowDesign Kind
  counter_rows = record { row = λ j. cells_of last v (row_at v j); start = λ j. start_in (row_at v j); width = suc last }

  -- the same by the row itself
  abbrev cell_in : Row → ℕ → Option Kind
  cell_in R i = cells_of last v R i

  abbrev seen : Row → ℕ → Side → Option Label
  seen R i d = label_shown tiles (cells_of last v R) i d

  abbrev behind : Row → ℕ → Option Label
  behind R i = label_before tiles (cells_of last v R) i

  -- what a cell of row R above row Q is offered
  abbrev offers : Row → Row → ℕ → Side → Option Label
  offers Q R i = label_offered tiles (cells_of last v Q) (cells_of last v R) (start_in R) i

  -- a cell that is offered no label to the side, and at most one of strength 1 from below
  free : (Q R : Row) (i : ℕ) → cell_in R i ≡ None → offers Q R i East ≡ None → label_strength tiles (seen Q i North) ≤ 1 → offers Q R i West ≡ None →
      IsFree tiles (cell_in R i) (offers Q R i)
  free Q R i none east south west = record { none = none; weak = rw (east, west) (omega (arith, south)) }

  east_none : (Q R : Row) (i : ℕ) → start_in R ≤ i → offers Q R i East ≡ None
  east_none Q R i h = rw (not_less i (start_in R) h) refl

  west_none : (Q R : Row) (i : ℕ) → i ≤ start_in R → offers Q R i West ≡ None
  west_none Q R i h = rw (not_less (start_in R) i h) refl

  from_east : (Q R : Row) (i : ℕ) → i < start_in R → offers Q R i East ≡ seen R (suc i) West
  from_east Q R i h = ap (λ t. cond t (seen R (suc i) West) None) (is_less i (start_in R) h)

  from_west : (Q R : Row) (i : ℕ) → start_in R < i → offers Q R i West ≡ behind R i
  from_west Q R i h = ap (λ t. cond t (behind R i) None) (is_less (start_in R) i h)

  weak_none : (o : Option Label) → o ≡ None → label_strength tiles o ≤ 1
  weak_none o none = rw none zero-le

  -- a cell is there, or its column or its row isn't
  IsThere : Row → Type 0
  IsThere R = value_in v R < 2 ^ suc last

  cell_there : (R : Row) (i : ℕ) → i ≤ last → IsThere R → cell_in R i ≡ Some (kind_in last R i)
  unfolding IsThere
  cell_there R i column row = rw (nat_le-true i last column, is_less (value_in v R) (2 ^ suc last) row) refl

  no_column : (R : Row) (i : ℕ) → last < i → cell_in R i ≡ None
  no_column R i past = rw (nat_le-false i last past) refl

  no_row : (R : Row) (i : ℕ) → 2 ^ suc last ≤ value_in v R → cell_in R i ≡ None
  no_row R i past = rw (not_less (value_in v R) (2 ^ suc last) past, both-false (nat_le i last)) refl

  there_or_not : (R : Row) → IsThere R ⊎ (2 ^ suc last ≤ value_in v R)
  unfolding IsThere
  there_or_not R = cases_lt (value_in v R) (2 ^ suc last)

  pub cell_from : (R : Row) (i : ℕ) (k : Kind) → cell_in R i ≡ Some k → (i ≤ last) × (value_in v R < 2 ^ suc last) × (kind_in last R i ≡ k)
  unfolding IsThere
  cell_from R i k wanted = elim (cases_lt last i) [
    | inl past ↦ absurd (none-some k (sym (no_column R i past) ∙ wanted))
    | inr column ↦ elim (there_or_not R) [
      | inr past ↦ absurd (none-some k (sym (no_row R i past) ∙ wanted))
      | inl row ↦ (column, row, same_Some (kind_in last R i) k (sym (cell_there R i column row) ∙ wanted))
    ]
  ]

  pub cell_filled : (R : Row) (i : ℕ) → i ≤ last → value_in v R < 2 ^ suc last → cell_in R i ≡ Some (kind_in last R i)
  unfolding IsThere
  cell_filled R i column row = cell_there R i column row

  seen_there : (R : Row) (i : ℕ) (d : Side) → i ≤ last → IsThere R → seen R i d ≡ side last v (kind_in last R i) d
  seen_there R i d column row = ap (option_and_then (λ k. side last v k d)) (cell_there R i column row)

  seen_none : (R : Row) (i : ℕ) (d : Side) → cell_in R i ≡ None → seen R i d ≡ None
  seen_none R i d none = ap (option_and_then (λ k. side last v k d)) none

  -- what a row of values shows upwards, and one that adds
  value_up : (n i : ℕ) → Option Label
  value_up n i = let b = bit (last - i) n in by_column last i (Some (BitWest b)) (Some (Bit b)) (Some (BitEast b))

  first_up : (i : ℕ) → i ≤ last → IsThere Base → seen Base i North ≡ value_up v i
  unfolding value_up
  first_up i column row = let b = bit (last - i) v in seen_there Base i North column row ∙ ap (λ l. Some l) (column_is last i (BitWest b) (Bit b) (BitEast b)) ∙ by_column-ap (λ l. Some l) last i (BitWest b) (Bit b) (BitEast b)

  copying_up : (n i : ℕ) → i ≤ last → IsThere (Copying n) → seen (Copying n) i North ≡ value_up n i
  unfolding value_up
  copying_up n i column row =
      let b = bit (last - i) n in
      seen_there (Copying n) i North column row ∙ by_column-ap (λ k. side last v k North) last i (CopyWest b) (CopyMiddle b) (CopyEast b)

  adding_up : (n i : ℕ) → i ≤ last → IsThere (Adding n) →
      seen (Adding n) i North ≡ (let b = bit (last - i) n in let c = carry (last - i) n in by_column last i (cond (b && c) None (Some (SumWest (xor b c)))) (Some (Bit (xor b c))) (Some (SumEast (not b))))
  adding_up n i column row =
      let b = bit (last - i) n in
      let c = carry (last - i) n in
      seen_there (Adding n) i North column row ∙ by_column-ap (λ k. side last v k North) last i (AddWest b c) (AddMiddle b c) (AddEast b)

  -- the carry that a row that adds shows to the west, and the go-ahead that one that copies shows to the east
  module _ (two : 1 ≤ last) where
    adding_west : (n i : ℕ) → i < last → IsThere (Adding n) → seen (Adding n) (suc i) West ≡ Some (Carry (carry (last - i) n))
    adding_west n i less row =
        let p = last - suc i in
        let b = bit p n in
        let c = carry p n in
        let next : suc p ≡ last - i = omega (arith, less) in
        let out : (b && c) ≡ carry (last - i) n = sym (carry-suc p n) ∙ ap (λ q. carry q n) next in
        let shows : seen (Adding n) (suc i) West ≡ by_column last (suc i) None (Some (Carry (b && c))) (Some (Carry b)) =
        seen_there (Adding n) (suc i) West (omega (arith, less)) row ∙ by_column-ap (λ k. side last v k West) last (suc i) (AddWest b c) (AddMiddle b c) (AddEast b)
        in
        elim (cases_lt (suc i) last) [
          | inl between ↦ shows ∙ column_between last (suc i) None (Some (Carry (b && c))) (Some (Carry b)) (omega arith) between ∙ ap (λ x. Some (Carry x)) out
          | inr end ↦
              let at_end : suc i ≡ last = omega (arith, less, end) in
              let lowest : p ≡ 0 = omega (arith, end) in
              let carried : c ≡ true = ap (λ q. carry q n) lowest in
              let same : b ≡ (b && c) = and_true b c carried in
              shows ∙ ap (λ j. by_column last j None (Some (Carry (b && c))) (Some (Carry b))) at_end ∙ column_last last None (Some (Carry (b && c))) (Some (Carry b)) two ∙ ap (λ x. Some (Carry x)) (same ∙ out)
        ]
      where
        and_true : (b c : Bool) → c ≡ true → b ≡ (b && c)
        and_true true c e = sym e
        and_true false c e = refl

    copying_east : (n i : ℕ) → i < last → IsThere (Copying n) → seen (Copying n) i East ≡ Some GoAhead
    copying_east n i less row =
        let b = bit (last - i) n in
        let shows : seen (Copying n) i East ≡ by_column last i (Some GoAhead) (Some GoAhead) None =
        seen_there (Copying n) i East (omega (arith, less)) row ∙ by_column-ap (λ k. side last v k East) last i (CopyWest b) (CopyMiddle b) (CopyEast b)
        in
        shows ∙ west_or_between i less
      where
        west_or_between : (i : ℕ) → i < last → by_column last i (Some GoAhead) (Some GoAhead) None ≡ Some GoAhead
        west_or_between zero less = refl
        west_or_between (suc i) less = column_between last (suc i) (Some GoAhead) (Some GoAhead) None (omega arith) less

    -- nothing leaves a row at its ends
    last_east : (R : Row) → seen R last East ≡ None
    last_east R = elim (there_or_not R) [
      | inr past ↦ seen_none R last East (no_row R last past)
      | inl row ↦ seen_there R last East (le_refl last) row ∙ ends R
    ]
      where
        ends : (R : Row) → side last v (kind_in last R last) East ≡ None
        ends Base = rw (not_less last last (le_refl last)) refl
        ends (Adding n) = ap (λ k. side last v k East) (column_last last (AddWest (bit (last - last) n) (carry (last - last) n)) (AddMiddle (bit (last - last) n) (carry (last - last) n)) (AddEast (bit (last - last) n)) two)
        ends (Copying n) = ap (λ k. side last v k East) (column_last last (CopyWest (bit (last - last) n)) (CopyMiddle (bit (last - last) n)) (CopyEast (bit (last - last) n)) two)

    past_east : (R : Row) (i : ℕ) → last ≤ i → seen R i East ≡ None
    past_east R i past = elim (cases_order last i) [
      | inl same ↦ subst (λ n. seen R n East ≡ None) same (last_east R)
      | inr rest ↦ elim rest [
        | inl less ↦ seen_none R i East (no_column R i less)
        | inr more ↦ let never : ⊥ = omega (arith, past, more) in absurd never
      ]
    ]

    -- a row that adds, above a row of values
    module _ (n : ℕ) (Q : Row) (value : value_in v Q ≡ n) (shows : (i : ℕ) → i ≤ last → IsThere Q → seen Q i North ≡ value_up n i) where
      below_there : IsThere (Adding n) → IsThere Q
      unfolding IsThere
      below_there row = rw value row

      no_below : (i : ℕ) → 2 ^ suc last ≤ n → seen Q i North ≡ None
      no_below i past = seen_none Q i North (no_row Q i (rw value past))

      adding_start : IsHeldByOneOrFree tiles (cell_in (Adding n) last) (offers Q (Adding n) last) South
      unfolding value_up
      adding_start = elim (there_or_not (Adding n)) [
        | inr past ↦ inr (free Q (Adding n) last (no_row (Adding n) last past) (east_none Q (Adding n) last (le_refl last)) (weak_none (seen Q last North) (no_below last past)) (west_none Q (Adding n) last (le_refl last)))
        | inl row ↦
            let b = bit (last - last) n in
            let c = carry (last - last) n in
            let kind : kind_in last (Adding n) last ≡ AddEast b = column_last last (AddWest b c) (AddMiddle b c) (AddEast b) two in
            inl (record {
              label = BitEast b;
              offered = shows last (le_refl last) (below_there row) ∙ column_last last (Some (BitWest b)) (Some (Bit b)) (Some (BitEast b)) two;
              strong = refl;
              fits = λ k wanted. ap (λ l. side last v l South) (sym (cell_from (Adding n) last k wanted).2 ∙ kind);
              only = λ k listed south. cell_there (Adding n) last (le_refl last) row ∙ ap (λ l. Some l) (kind ∙ sym (is_IE last v k b south));
            })
      ]

      adding_west_of : (i : ℕ) → i < last → IsHeldByTwoOrFree tiles (cell_in (Adding n) i) (offers Q (Adding n) i) East
      unfolding value_up
      adding_west_of i less = elim (there_or_not (Adding n)) [
        | inr past ↦
            inr (free Q (Adding n) i (no_row (Adding n) i past) (beside_none past) (weak_none (seen Q i North) (no_below i past)) (west_none Q (Adding n) i (omega (arith, less))))
        | inl row ↦ inl (held i less row)
      ]
        where
          beside_none : 2 ^ suc last ≤ n → offers Q (Adding n) i East ≡ None
          beside_none past = from_east Q (Adding n) i less ∙ seen_none (Adding n) (suc i) West (no_row (Adding n) (suc i) past)

          held : (i : ℕ) → i < last → IsThere (Adding n) → IsHeldByTwo tiles (cell_in (Adding n) i) (offers Q (Adding n) i) East
          held zero less row =
              let b = bit (last - zero) n in
              let c = carry (last - zero) n in
              record {
                lower = BitWest b;
                side = Carry c;
                offered_below = shows zero zero-le (below_there row);
                offered_beside = from_east Q (Adding n) zero less ∙ adding_west n zero less row;
                lower_strength = refl;
                side_strength = refl;
                fits_below = λ k wanted. ap (λ l. side last v l South) (sym (cell_from (Adding n) zero k wanted).2);
                fits_beside = λ k wanted. ap (λ l. side last v l East) (sym (cell_from (Adding n) zero k wanted).2);
                only = λ k listed south east. cell_there (Adding n) zero zero-le row ∙ ap (λ l. Some l) (sym (is_IW last v k b c south east));
              }
          held (suc i) less row =
              let b = bit (last - suc i) n in
              let c = carry (last - suc i) n in
              let kind : kind_in last (Adding n) (suc i) ≡ AddMiddle b c = column_between last (suc i) (AddWest b c) (AddMiddle b c) (AddEast b) (omega arith) less in
              record {
                lower = Bit b;
                side = Carry c;
                offered_below = shows (suc i) (omega (arith, less)) (below_there row) ∙ column_between last (suc i) (Some (BitWest b)) (Some (Bit b)) (Some (BitEast b)) (omega arith) less;
                offered_beside = from_east Q (Adding n) (suc i) less ∙ adding_west n (suc i) less row;
                lower_strength = refl;
                side_strength = refl;
                fits_below = λ k wanted. ap (λ l. side last v l South) (sym (cell_from (Adding n) (suc i) k wanted).2 ∙ kind);
                fits_beside = λ k wanted. ap (λ l. side last v l East) (sym (cell_from (Adding n) (suc i) k wanted).2 ∙ kind);
                only = λ k listed south east. cell_there (Adding n) (suc i) (omega (arith, less)) row ∙ ap (λ l. Some l) (kind ∙ sym (is_IM last v k b c south east));
              }

      adding_east_of : (i : ℕ) → last < i → IsHeldByTwoOrFree tiles (cell_in (Adding n) i) (offers Q (Adding n) i) West
      adding_east_of zero more = let never : ⊥ = omega (arith, more) in absurd never
      adding_east_of (suc i) more =
          inr (free Q (Adding n) (suc i) (no_column (Adding n) (suc i) more) (east_none Q (Adding n) (suc i) (omega (arith, more)))
          (weak_none (seen Q (suc i) North) (seen_none Q (suc i) North (no_column Q (suc i) more)))
          (from_west Q (Adding n) (suc i) more ∙ past_east (Adding n) i (omega (arith, more))))

    -- a row that copies, above one that adds
    module _ (n : ℕ) where
      abbrev Q : Row
      Q = Adding n

      abbrev R : Row
      R = Copying (suc n)

      row_below : IsThere (Copying (suc n)) → IsThere (Adding n)
      unfolding IsThere
      row_below row = omega (arith, row)

      highest : last - 0 ≡ last
      highest = omega arith

      -- the highest carry
      top_carry : IsThere (Adding n) → (((bit (last - 0) n && carry (last - 0) n) ≡ true) × (suc n ≡ 2 ^ suc last)) ⊎ (((bit (last - 0) n && carry (last - 0) n) ≡ false) × (suc n < 2 ^ suc last))
      unfolding IsThere
      top_carry row =
          let out : carry (suc last) n ≡ (bit (last - 0) n && carry (last - 0) n) = carry-suc last n ∙ ap (λ p. bit p n && carry p n) (sym highest) in
          elim (carry-out (suc last) n row) [ inl all ↦ inl (sym out ∙ all.0, all.1) | inr some ↦ inr (sym out ∙ some.0, some.1) ]

      not_past : IsThere (Copying (suc n)) → suc n ≡ 2 ^ suc last → ⊥
      unfolding IsThere
      not_past row same = let never : ⊥ = omega (arith, row, same) in never

      below_at_start : 2 ^ suc last ≤ suc n → seen (Adding n) 0 North ≡ None
      below_at_start past = elim (there_or_not (Adding n)) [
        | inr gone ↦ seen_none (Adding n) 0 North (no_row (Adding n) 0 gone)
        | inl row ↦ elim (top_carry row) [
          | inl all ↦ adding_up n 0 zero-le row ∙ ap (λ t. cond t None (Some (SumWest (xor (bit (last - 0) n) (carry (last - 0) n))))) all.0
          | inr some ↦ let less = some.1 in let never : ⊥ = omega (arith, less, past) in absurd never
        ]
      ]

      copying_start : IsHeldByOneOrFree tiles (cell_in (Copying (suc n)) 0) (offers (Adding n) (Copying (suc n)) 0) South
      copying_start = elim (there_or_not (Copying (suc n))) [
        | inr past ↦
            inr (free (Adding n) (Copying (suc n)) 0 (no_row (Copying (suc n)) 0 past) (east_none (Adding n) (Copying (suc n)) 0 (le_refl 0)) (weak_none (seen (Adding n) 0 North) (below_at_start past)) (west_none (Adding n) (Copying (suc n)) 0 (le_refl 0)))
        | inl row ↦
            let b = bit (last - 0) (suc n) in
            let below = row_below row in
            inl (record {
              label = SumWest b;
              offered = adding_up n 0 zero-le below ∙ elim (top_carry below) [
                | inl all ↦ absurd (not_past row all.1)
                | inr some ↦ ap (λ t. cond t None (Some (SumWest (xor (bit (last - 0) n) (carry (last - 0) n))))) some.0 ∙ ap (λ t. Some (SumWest t)) (sym (bit-suc (last - 0) n))
              ];
              strong = refl;
              fits = λ k wanted. ap (λ l. side last v l South) (sym (cell_from (Copying (suc n)) 0 k wanted).2);
              only = λ k listed south. cell_there (Copying (suc n)) 0 zero-le row ∙ ap (λ l. Some l) (sym (is_CW last v k b south));
            })
      ]

      -- what the row below shows past its first column
      below_up : (i : ℕ) → suc i ≤ last → IsThere (Adding n) →
          ((suc i < last) × (seen (Adding n) (suc i) North ≡ Some (Bit (bit (last - suc i) (suc n))))) ⊎ ((suc i ≡ last) × (seen (Adding n) (suc i) North ≡ Some (SumEast (bit (last - suc i) (suc n)))))
      below_up i column row =
          let p = last - suc i in
          let b = bit p n in
          let c = carry p n in
          let up = adding_up n (suc i) column row in
          let left = cond (b && c) None (Some (SumWest (xor b c))) in
          elim (cases_lt (suc i) last) [
            | inl between ↦ inl (between, up ∙ column_between last (suc i) left (Some (Bit (xor b c))) (Some (SumEast (not b))) (omega arith) between ∙ ap (λ t. Some (Bit t)) (sym (bit-suc p n)))
            | inr end ↦
                let at_end : suc i ≡ last = omega (arith, column, end) in
                let lowest : p ≡ 0 = omega (arith, end) in
                let carried : c ≡ true = ap (λ q. carry q n) lowest in
                let flipped : not b ≡ bit p (suc n) = sym (xor-true b) ∙ ap (xor b) (sym carried) ∙ sym (bit-suc p n) in
                inr (
                  at_end,
                  up ∙ ap (λ j. by_column last j left (Some (Bit (xor b c))) (Some (SumEast (not b)))) at_end ∙ column_last last left (Some (Bit (xor b c))) (Some (SumEast (not b))) two ∙ ap (λ t. Some (SumEast t)) flipped,
                )
          ]

      copying_east_of : (i : ℕ) → 0 < i → IsHeldByTwoOrFree tiles (cell_in (Copying (suc n)) i) (offers (Adding n) (Copying (suc n)) i) West
      copying_east_of zero more = let never : ⊥ = omega (arith, more) in absurd never
      copying_east_of (suc i) more = elim (cases_lt last (suc i)) [
        | inl past ↦
            inr (free Q R (suc i) (no_column R (suc i) past) east (weak_none (seen Q (suc i) North) (seen_none Q (suc i) North (no_column Q (suc i) past)))
            (from_west Q R (suc i) more ∙ past_east R i (omega (arith, past))))
        | inr column ↦ elim (there_or_not R) [
          | inr gone ↦ inr (free Q R (suc i) (no_row R (suc i) gone) east (weak column) (from_west Q R (suc i) more ∙ seen_none R i East (no_row R i gone)))
          | inl row ↦ inl (held column row)
        ]
      ]
        where
          east : offers Q R (suc i) East ≡ None
          east = east_none Q R (suc i) zero-le

          weak : suc i ≤ last → label_strength tiles (seen Q (suc i) North) ≤ 1
          weak column = elim (there_or_not Q) [
            | inr gone ↦ weak_none (seen Q (suc i) North) (seen_none Q (suc i) North (no_row Q (suc i) gone))
            | inl row ↦ elim (below_up i column row) [
              | inl between ↦ rw (between.1) (le_refl 1)
              | inr end ↦ rw (end.1) (le_refl 1)
            ]
          ]

          held : suc i ≤ last → IsThere R → IsHeldByTwo tiles (cell_in R (suc i)) (offers Q R (suc i)) West
          held column row =
              let b = bit (last - suc i) (suc n) in
              let beside : offers Q R (suc i) West ≡ Some GoAhead = from_west Q R (suc i) more ∙ copying_east (suc n) i column row in
              elim (below_up i column (row_below row)) [
                | inl between ↦
                    let kind : kind_in last R (suc i) ≡ CopyMiddle b = column_between last (suc i) (CopyWest b) (CopyMiddle b) (CopyEast b) (omega arith) between.0 in
                    record {
                      lower = Bit b;
                      side = GoAhead;
                      offered_below = between.1;
                      offered_beside = beside;
                      lower_strength = refl;
                      side_strength = refl;
                      fits_below = λ k wanted. ap (λ l. side last v l South) (sym (cell_from R (suc i) k wanted).2 ∙ kind);
                      fits_beside = λ k wanted. ap (λ l. side last v l West) (sym (cell_from R (suc i) k wanted).2 ∙ kind);
                      only = λ k listed south west. cell_there R (suc i) column row ∙ ap (λ l. Some l) (kind ∙ sym (is_CM last v k b south west));
                    }
                | inr end ↦
                    let kind : kind_in last R (suc i) ≡ CopyEast b = ap (λ j. by_column last j (CopyWest b) (CopyMiddle b) (CopyEast b)) end.0 ∙ column_last last (CopyWest b) (CopyMiddle b) (CopyEast b) two in
                    record {
                      lower = SumEast b;
                      side = GoAhead;
                      offered_below = end.1;
                      offered_beside = beside;
                      lower_strength = refl;
                      side_strength = refl;
                      fits_below = λ k wanted. ap (λ l. side last v l South) (sym (cell_from R (suc i) k wanted).2 ∙ kind);
                      fits_beside = λ k wanted. ap (λ l. side last v l West) (sym (cell_from R (suc i) k wanted).2 ∙ kind);
                      only = λ k listed south west. cell_there R (suc i) column row ∙ ap (λ l. Some l) (kind ∙ sym (is_CE last v k b south west));
                    }
              ]

    module _ (start : v < 2 ^ suc last) where
      first_there : IsThere Base
      unfolding IsThere
      first_there = start

      first_seen : (i : ℕ) (d : Side) → i ≤ last → seen Base i d ≡ side last v (First i) d
      first_seen i d column = seen_there Base i d column first_there

      first_row : (i : ℕ) → IsHeldByOneOrFree tiles (cell_in Base (suc i)) (label_offered tiles (λ n. None) (cells_of last v Base) 0 (suc i)) West
      first_row i =
          let west : label_offered tiles (λ n. None) (cells_of last v Base) 0 (suc i) West ≡ seen Base i East = ap (λ t. cond t (seen Base i East) None) (is_less 0 (suc i) (omega arith)) in
          elim (cases_lt last (suc i)) [
            | inl past ↦
                let east : label_offered tiles (λ n. None) (cells_of last v Base) 0 (suc i) East ≡ None = rw (not_less (suc i) 0 zero-le) refl in
                let none : label_offered tiles (λ n. None) (cells_of last v Base) 0 (suc i) West ≡ None = west ∙ past_east Base i (omega (arith, past)) in
                inr (record { none = no_column Base (suc i) past; weak = rw (east, none) zero-le })
            | inr column ↦ inl (record {
              label = Chain (suc i);
              offered = west ∙ first_seen i East (omega (arith, column)) ∙ ap (λ t. cond t (Some (Chain (suc i))) None) (is_less i last column);
              strong = refl;
              fits = λ k wanted. ap (λ l. side last v l West) (sym (cell_from Base (suc i) k wanted).2);
              only = λ k listed has. cell_there Base (suc i) column first_there ∙ ap (λ l. Some l) (sym (is_T last v k i has));
            })
          ]

      at_start : (Q : Row) → IsHeldByOneOrFree tiles (cell_in (row_above v Q) (start_in (row_above v Q))) (offers Q (row_above v Q) (start_in (row_above v Q))) South
      at_start Base = adding_start v Base refl first_up
      at_start (Adding n) = copying_start n
      at_start (Copying n) = adding_start n (Copying n) refl (copying_up n)

      west_of : (Q : Row) (i : ℕ) → i < start_in (row_above v Q) → IsHeldByTwoOrFree tiles (cell_in (row_above v Q) i) (offers Q (row_above v Q) i) East
      west_of Base i less = adding_west_of v Base refl first_up i less
      west_of (Adding n) i less = let never : ⊥ = omega (arith, less) in absurd never
      west_of (Copying n) i less = adding_west_of n (Copying n) refl (copying_up n) i less

      east_of : (Q : Row) (i : ℕ) → start_in (row_above v Q) < i → IsHeldByTwoOrFree tiles (cell_in (row_above v Q) i) (offers Q (row_above v Q) i) West
      east_of Base i more = adding_east_of v Base refl first_up i more
      east_of (Adding n) i more = copying_east_of n i more
      east_of (Copying n) i more = adding_east_of n (Copying n) refl (copying_up n) i more

      start_within : (R : Row) → start_in R < suc last
      start_within Base = omega arith
      start_within (Adding n) = omega arith
      start_within (Copying n) = omega arith

      column_kind : (i : ℕ) (a b c : Kind) → IsKind last a → IsKind last b → IsKind last c → IsKind last (by_column last i a b c)
      column_kind zero a b c ha hb hc = ha
      column_kind (suc i) a b c ha hb hc = elim (suc i == last) as (λ t. IsKind last (cond t c b)) [ true ↦ hc | false ↦ hb ]

      row_kind : (R : Row) (i : ℕ) → i ≤ last → IsKind last (kind_in last R i)
      row_kind Base i column = column
      row_kind (Adding n) i column = column_kind i (AddWest (bit (last - i) n) (carry (last - i) n)) (AddMiddle (bit (last - i) n) (carry (last - i) n)) (AddEast (bit (last - i) n)) tt tt tt
      row_kind (Copying n) i column = column_kind i (CopyWest (bit (last - i) n)) (CopyMiddle (bit (last - i) n)) (CopyEast (bit (last - i) n)) tt tt tt

      west_border : (R : Row) → label_strength tiles (seen R 0 West) ≤ 1
      west_border R = elim (there_or_not R) [
        | inr past ↦ weak_none (seen R 0 West) (seen_none R 0 West (no_row R 0 past))
        | inl row ↦ weak_none (seen R 0 West) (seen_there R 0 West zero-le row ∙ ends R)
      ]
        where
          ends : (R : Row) → side last v (kind_in last R 0) West ≡ None
          ends Base = refl
          ends (Adding n) = refl
          ends (Copying n) = refl

      south_border : (i : ℕ) → label_strength tiles (seen Base i South) ≤ 1
      south_border i = elim (cases_lt last i) [
        | inl past ↦ weak_none (seen Base i South) (seen_none Base i South (no_column Base i past))
        | inr column ↦ weak_none (seen Base i South) (first_seen i South column)
      ]

      pub are_grown : GrowsRowByRow tiles counter_rows (First 0)
      are_grown = record {
        seed_there = cell_there Base 0 zero-le first_there;
        first_start = refl;
        starts = λ j. start_within (row_at v j);
        columns = λ i j k wanted. let column = (cell_from (row_at v j) i k wanted).0 in omega (arith, column);
        kinds = λ i j k wanted.
            let c = cell_from (row_at v j) i k wanted in
            kind_listed last v k (subst (IsKind last) c.2 (row_kind (row_at v j) i c.0));
        first_row = first_row;
        at_start = λ j. at_start (row_at v j);
        west_of_start = λ i j less. west_of (row_at v j) i less;
        east_of_start = λ i j more. east_of (row_at v j) i more;
        west_border = λ j. west_border (row_at v j);
        south_border = south_border;
      }
