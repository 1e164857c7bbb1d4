-- The kinds and the labels of a counter are numbered in their order, and the labels on sides are listed.
use Rattle.std.proofs.Common.{◌≡◌, ◌<◌, ◌≤◌, ◌+◌, ◌-◌, ◌==◌, nat_lt, cond, ℕ, zero, suc, Bool, List, true, false, [], ◌∷◌, ◌++◌, length, append_assoc, map, Option, Some, IfSome, slice_get, Contains, refl, sym, ◌∙◌, ap, subst, inl, inr, arith}
use Rattle.std.specs.List.{range_with_len}
use Rattle.std.proofs.lemmas.List.{length-map}
use Rattle.std.proofs.lemmas.List.FromFn.{length-range_with_len}
use Rattle.std.proofs.lemmas.Bool.{cases_lt}
use Rattle.std.proofs.lemmas.Bool.Decides.{nat_tests}
use Rattle.std.proofs.lemmas.List.Elements.{Contains-append_left, Contains-append_right, Contains-append_cases}
use Rattle.atam.specs.declared.site.Side.{Side}
use Rattle.atam.specs.declared.site.Side.TheVariants.{North, East, South, West}
use Rattle.atam.proofs.Lists.{slice_get-Contains}
use Rattle.design.specs.TileSets.{IsTileSet}
use Rattle.design.proofs.Listings.{IsNumbered, numbered_at, numbered-append, numbered-range, range-has, range-only, each-has}
use Rattle.counter_compile.specs.declared.kind.Kind.{Kind}
use Rattle.counter_compile.specs.declared.kind.Kind.TheVariants.{First, AddEast, AddMiddle, AddWest, CopyWest, CopyMiddle, CopyEast}
use Rattle.counter_compile.specs.declared.label.Label.{Label}
use Rattle.counter_compile.specs.declared.label.Label.TheVariants.{BitWest, Bit, BitEast, SumEast, Carry, SumWest, GoAhead, Chain}
use Rattle.counter_compile.specs.Tiles.{kinds_of, tiles_of, later_kinds, fixed_labels, side}
use Rattle.counter_compile.specs.Inner.Rows.{kind_number, kind_name, label_number}
use Rattle.counter_compile.proofs.Cells.{bit, by_column, column_is}

-- the name of a kind is the same in each counter
pub one_name : (last : ℕ) (k : Kind) → kind_name 0 k ≡ kind_name last k
one_name last (First i) = refl
one_name last (AddEast b) = refl
one_name last (AddMiddle b c) = refl
one_name last (AddWest b c) = refl
one_name last (CopyWest b) = refl
one_name last (CopyMiddle b) = refl
one_name last (CopyEast b) = refl

-- one number more
range-push : {X : Type 0} (f : ℕ → X) (a n : ℕ) → map f (range_with_len a n) ++ f (a + n) ∷ [] ≡ map f (range_with_len a (suc n))
range-push f a zero = let same : a + 0 ≡ a = omega arith in ap (λ m. f m ∷ []) same
range-push f a (suc n) =
    let next : a + suc n ≡ a + 1 + n = omega arith in
    ap (λ l. f a ∷ l) (ap (λ m. map f (range_with_len (a + 1) n) ++ f m ∷ []) next ∙ range-push f (a + 1) n)

-- after a list of others, or none
pub after_range : {X : Type 0} (front : List X) (f : ℕ → X) (a n m : ℕ) (old new : List X) → old ≡ front ++ map f (range_with_len a n) → m ≡ a + n → new ≡ old ++ f m ∷ [] →
    new ≡ front ++ map f (range_with_len a (n + 1))
after_range front f a n m old new so_far place pushed =
    let next : suc n ≡ n + 1 = omega arith in
    pushed ∙ ap (λ l. l ++ f m ∷ []) so_far ∙ append_assoc front (map f (range_with_len a n)) (f m ∷ [])
    ∙ ap (λ l. front ++ l) (ap (λ k. map f (range_with_len a n) ++ f k ∷ []) place ∙ range-push f a n ∙ ap (λ k. map f (range_with_len a k)) next)

-- what a range and a list behind it have
range-front : {X : Type 0} (f : ℕ → X) (rest : List X) (a len i : ℕ) → i < len → slice_get (map f (range_with_len a len) ++ rest) i ≡ Some (f (a + i))
range-front f rest a zero i less = let never : ⊥ = omega (arith, less) in absurd never
range-front f rest a (suc len) zero less = ap (λ m. Some (f m)) (omega arith)
range-front f rest a (suc len) (suc i) less = range-front f rest (a + 1) len i (omega (arith, less)) ∙ ap (λ m. Some (f m)) (omega arith)

range-behind : {X : Type 0} (f : ℕ → X) (rest : List X) (a len n : ℕ) → slice_get (map f (range_with_len a len) ++ rest) (len + n) ≡ slice_get rest n
range-behind f rest a zero n = let same : 0 + n ≡ n = omega arith in ap (slice_get rest) same
range-behind f rest a (suc len) n =
    let same : suc len + n ≡ suc (len + n) = omega arith in
    ap (slice_get (map f (range_with_len a (suc len)) ++ rest)) same ∙ range-behind f rest (a + 1) len n

-- the kinds at a number
pub first_kind : (last i : ℕ) → i ≤ last → slice_get (kinds_of last) i ≡ Some (First i)
first_kind last i within =
    let same : 0 + i ≡ i = omega arith in
    range-front First later_kinds 0 (suc last) i (omega (arith, within)) ∙ ap (λ n. Some (First n)) same

pub later_kind : (last i n : ℕ) (k : Kind) → i ≡ suc last + n → slice_get later_kinds n ≡ Some k → slice_get (kinds_of last) i ≡ Some k
later_kind last i n k place there = ap (slice_get (kinds_of last)) place ∙ range-behind First later_kinds 0 (suc last) n ∙ there

module _ (last : ℕ) where
  -- the labels that the table names, and the kinds
  abbrev pub IsLabel : Label → Type 0
  IsLabel (Chain i) = (1 ≤ i) × (i ≤ last)
  IsLabel _ = Unit {0}

  abbrev pub IsKind : Kind → Type 0
  IsKind (First i) = i ≤ last
  IsKind _ = Unit {0}

module _ (last v : ℕ) where
  fixed_numbered : (n : ℕ) → n ≡ suc last → IsNumbered (kind_number last) n later_kinds
  fixed_numbered n same = (omega arith, (omega arith, (omega arith, (omega arith, (omega arith, (omega arith, (omega arith, (omega arith, (omega arith, (omega arith, (omega arith, (omega arith, (omega arith, (omega arith, (omega arith, (omega arith, tt))))))))))))))))

  kinds_numbered : IsNumbered (kind_number last) 0 (map First (range_with_len 0 (suc last)) ++ later_kinds)
  kinds_numbered =
      let long : length (map First (range_with_len 0 (suc last))) ≡ suc last = length-map (range_with_len 0 (suc last)) First ∙ length-range_with_len 0 (suc last) in
      numbered-append (kind_number last) 0 (map First (range_with_len 0 (suc last))) later_kinds
      (numbered-range (kind_number last) First 0 0 (suc last) (λ i less. refl))
      (fixed_numbered (0 + length (map First (range_with_len 0 (suc last)))) (ap (λ l. 0 + l) long ∙ omega arith))

  labels_numbered : IsNumbered label_number 0 (fixed_labels ++ map Chain (range_with_len 1 last))
  labels_numbered =
      numbered-append label_number 0 fixed_labels (map Chain (range_with_len 1 last)) (refl, (refl, (refl, (refl, (refl, (refl, (refl, (refl, (refl, (refl, (refl, (refl, (refl, tt)))))))))))))
      (numbered-range label_number Chain 13 1 last (λ i less. omega arith))

  fixed : (k : Kind) (n : ℕ) → slice_get later_kinds n ≡ Some k → Contains (tiles_of last v).kinds k
  fixed k n there = Contains-append_right (map First (range_with_len 0 (suc last))) later_kinds k (slice_get-Contains later_kinds n k there)

  pub kind_listed : (k : Kind) → IsKind last k → Contains (tiles_of last v).kinds k
  kind_listed (First i) within =
      let zero_and : 0 + i ≡ i = omega arith in
      Contains-append_left (map First (range_with_len 0 (suc last))) later_kinds (First i)
      (subst (λ n. Contains (map First (range_with_len 0 (suc last))) (First n)) zero_and (range-has First 0 (suc last) i (omega (arith, within))))
  kind_listed (AddEast false) is_kind = fixed (AddEast false) 0 refl
  kind_listed (AddEast true) is_kind = fixed (AddEast true) 1 refl
  kind_listed (AddMiddle false false) is_kind = fixed (AddMiddle false false) 2 refl
  kind_listed (AddMiddle false true) is_kind = fixed (AddMiddle false true) 3 refl
  kind_listed (AddMiddle true false) is_kind = fixed (AddMiddle true false) 4 refl
  kind_listed (AddMiddle true true) is_kind = fixed (AddMiddle true true) 5 refl
  kind_listed (AddWest false false) is_kind = fixed (AddWest false false) 6 refl
  kind_listed (AddWest false true) is_kind = fixed (AddWest false true) 7 refl
  kind_listed (AddWest true false) is_kind = fixed (AddWest true false) 8 refl
  kind_listed (AddWest true true) is_kind = fixed (AddWest true true) 9 refl
  kind_listed (CopyWest false) is_kind = fixed (CopyWest false) 10 refl
  kind_listed (CopyWest true) is_kind = fixed (CopyWest true) 11 refl
  kind_listed (CopyMiddle false) is_kind = fixed (CopyMiddle false) 12 refl
  kind_listed (CopyMiddle true) is_kind = fixed (CopyMiddle true) 13 refl
  kind_listed (CopyEast false) is_kind = fixed (CopyEast false) 14 refl
  kind_listed (CopyEast true) is_kind = fixed (CopyEast true) 15 refl

  pub listed_kind : (k : Kind) → Contains (tiles_of last v).kinds k → IsKind last k
  listed_kind k contains = elim (Contains-append_cases (map First (range_with_len 0 (suc last))) later_kinds k contains) [
    | inl first ↦
        let i = range-only First 0 (suc last) k first in
        let below = i.2 in
        subst (IsKind last) i.3 (omega (arith, below))
    | inr later ↦ each-has (IsKind last) later_kinds k (tt, (tt, (tt, (tt, (tt, (tt, (tt, (tt, (tt, (tt, (tt, (tt, (tt, (tt, (tt, (tt, tt)))))))))))))))) later
  ]

  fixed_label : (g : Label) (n : ℕ) → slice_get fixed_labels n ≡ Some g → Contains (tiles_of last v).labels g
  fixed_label g n there = Contains-append_left fixed_labels (map Chain (range_with_len 1 last)) g (slice_get-Contains fixed_labels n g there)

  label_listed : (g : Label) → IsLabel last g → Contains (tiles_of last v).labels g
  label_listed (BitWest false) is_label = fixed_label (BitWest false) 0 refl
  label_listed (BitWest true) is_label = fixed_label (BitWest true) 1 refl
  label_listed (Bit false) is_label = fixed_label (Bit false) 2 refl
  label_listed (Bit true) is_label = fixed_label (Bit true) 3 refl
  label_listed (BitEast false) is_label = fixed_label (BitEast false) 4 refl
  label_listed (BitEast true) is_label = fixed_label (BitEast true) 5 refl
  label_listed (SumEast false) is_label = fixed_label (SumEast false) 6 refl
  label_listed (SumEast true) is_label = fixed_label (SumEast true) 7 refl
  label_listed (Carry false) is_label = fixed_label (Carry false) 8 refl
  label_listed (Carry true) is_label = fixed_label (Carry true) 9 refl
  label_listed (SumWest false) is_label = fixed_label (SumWest false) 10 refl
  label_listed (SumWest true) is_label = fixed_label (SumWest true) 11 refl
  label_listed GoAhead is_label = fixed_label GoAhead 12 refl
  label_listed (Chain zero) is_label = let first = is_label.0 in let never : ⊥ = omega (arith, first) in absurd never
  label_listed (Chain (suc i)) is_label =
      let within = is_label.1 in
      let one_and : 1 + i ≡ suc i = omega arith in
      Contains-append_right fixed_labels (map Chain (range_with_len 1 last)) (Chain (suc i))
      (subst (λ n. Contains (map Chain (range_with_len 1 last)) (Chain n)) one_and (range-has Chain 1 last i (omega (arith, within))))

  pub listed_label : (g : Label) → Contains (tiles_of last v).labels g → IsLabel last g
  listed_label g contains = elim (Contains-append_cases fixed_labels (map Chain (range_with_len 1 last)) g contains) [
    | inl first ↦ each-has (IsLabel last) fixed_labels g (tt, (tt, (tt, (tt, (tt, (tt, (tt, (tt, (tt, (tt, (tt, (tt, (tt, tt))))))))))))) first
    | inr later ↦
        let i = range-only Chain 1 last g later in
        let low = i.1 in
        let below = i.2 in
        subst (IsLabel last) i.3 (low, omega (arith, below))
  ]

  column_label : (i : ℕ) (b : Bool) → IsLabel last (by_column last i (BitWest b) (Bit b) (BitEast b))
  column_label zero b = tt
  column_label (suc i) b = elim (suc i == last) as (λ t. IsLabel last (cond t (BitEast b) (Bit b))) [ true ↦ tt | false ↦ tt ]

  -- each label on a side of a kind is one that the table names
  side_label : (k : Kind) (d : Side) → IsKind last k → IfSome (side last v k d) (IsLabel last)
  side_label (First i) North within = let b = bit (last - i) v in subst (IsLabel last) (sym (column_is last i (BitWest b) (Bit b) (BitEast b))) (column_label i b)
  side_label (First i) East within = elim (cases_lt i last) [
    | inl less ↦
        let is_less : nat_lt i last ≡ true = grind (arith, nat_tests, less) in
        rw is_less (omega arith, omega (arith, less))
    | inr more ↦
        let not_less : nat_lt i last ≡ false = grind (arith, nat_tests, more) in
        rw not_less tt
  ]
  side_label (First i) South within = tt
  side_label (First zero) West within = tt
  side_label (First (suc i)) West within = (omega arith, within)
  side_label (AddEast b) North within = tt
  side_label (AddEast b) East within = tt
  side_label (AddEast b) South within = tt
  side_label (AddEast b) West within = tt
  side_label (AddMiddle b c) North within = tt
  side_label (AddMiddle b c) East within = tt
  side_label (AddMiddle b c) South within = tt
  side_label (AddMiddle b c) West within = tt
  side_label (AddWest true true) North within = tt
  side_label (AddWest true false) North within = tt
  side_label (AddWest false c) North within = tt
  side_label (AddWest b c) East within = tt
  side_label (AddWest b c) South within = tt
  side_label (AddWest b c) West within = tt
  side_label (CopyWest b) North within = tt
  side_label (CopyWest b) East within = tt
  side_label (CopyWest b) South within = tt
  side_label (CopyWest b) West within = tt
  side_label (CopyMiddle b) North within = tt
  side_label (CopyMiddle b) East within = tt
  side_label (CopyMiddle b) South within = tt
  side_label (CopyMiddle b) West within = tt
  side_label (CopyEast b) North within = tt
  side_label (CopyEast b) East within = tt
  side_label (CopyEast b) South within = tt
  side_label (CopyEast b) West within = tt

  pub is_tile_set : IsTileSet (tiles_of last v)
  is_tile_set = record {
    kinds = λ i k there. let at = numbered_at (kind_number last) 0 (tiles_of last v).kinds i k kinds_numbered there in omega (arith, at);
    labels = λ i g there. let at = numbered_at label_number 0 (tiles_of last v).labels i g labels_numbered there in omega (arith, at);
    sides = λ k d g listed has.
        let IsOf : Option Label → Type 0 = λ o. IfSome o (IsLabel last) in
        label_listed g (subst IsOf has (side_label k d (listed_kind k listed)));
  }
