-- A counter that is not refused is within all limits, and its names are distinct.
use Rattle.std.proofs.Common.{◌≡◌, ◌≢◌, ◌⊎◌, ◌≤◌, ◌+◌, ◌-◌, ◌^◌, ℕ, suc, ◌∷◌, decimal, ◌<◌, not, ◌&&◌, nat_le, nat_lt, cond, Bool, true, false, List, length, length-append, map, get_or, Option, Some, None, bytes_eq, codes, zero-le, refl, sym, ◌∙◌, ap, subst, inl, inr, arith}
use Rattle.std.specs.Prelude.{find}
use Rattle.std.specs.Fmt.{digits}
use Rattle.std.specs.List.{range_with_len}
use Rattle.std.proofs.lemmas.Bool.Decides.{nat_tests}
use Rattle.std.proofs.lemmas.Option.{none-some, same_Some}
use Rattle.std.proofs.lemmas.Fmt.{length-decimal-le}
use Rattle.std.proofs.lemmas.List.{length-map}
use Rattle.std.proofs.lemmas.List.FromFn.{length-map-range_with_len}
use Rattle.atam.specs.declared.limits.TheConstants.{MOST_STRENGTH}
use Rattle.std.proofs.lemmas.Int.{ints}
use Rattle.atam.specs.Sites.{InBox, IsBox}
use Rattle.atam.specs.TileSystem.{IsName, is_name, IsValid}
use Rattle.design.specs.TileSets.{IsWithinLimits, cell_site, glue_of, tile_type}
use Rattle.design.proofs.Validity.{is_valid}
use Rattle.tile_table.proofs.Names.{numbered_name, numbered_apart}
use Rattle.tile_text.proofs.PlainWords.{name_short}
use Rattle.counter_compile.specs.declared.kind.Kind.{Kind}
use Rattle.counter_compile.specs.declared.kind.Kind.TheVariants.{First, AddEast, AddMiddle, AddWest, CopyWest, CopyMiddle, CopyEast}
use Rattle.counter_compile.specs.declared.label.Label.{Label}
use Rattle.counter_compile.specs.declared.label.Label.TheVariants.{BitWest, Bit, BitEast, SumEast, Carry, SumWest, GoAhead, Chain}
use Rattle.counter_compile.specs.declared.stop.CounterStop.TheVariants.{BitsOutOfRange, StartTooLarge, TooTall}
use Rattle.counter_compile.specs.Tiles.{kinds_of, labels_of, tiles_of, later_kinds, fixed_labels}
use Rattle.counter_compile.specs.Inner.Rows.{kind_name, label_name, strength}
use Rattle.counter_compile.specs.Counters.{counter_refusal, row_count, counter_box, counter_system}
use Rattle.counter_compile.specs.Inner.Accepted.{IsAccepted}
use Rattle.counter_compile.proofs.Listed.{IsKind, IsLabel, listed_kind, listed_label, kind_listed, is_tile_set}

pub accepted : (bits start : ℕ) → counter_refusal bits start ≡ None → IsAccepted bits start
unfolding counter_refusal
accepted bits start none = by (nat_le 2 bits) (nat_le bits 32) (nat_le (2 ^ bits) start) (nat_lt 1024 (row_count bits start)) refl refl refl refl none
  where
    by : (a b c d : Bool) → nat_le 2 bits ≡ a → nat_le bits 32 ≡ b → nat_le (2 ^ bits) start ≡ c → nat_lt 1024 (row_count bits start) ≡ d →
        cond (not (a && b)) (Some BitsOutOfRange) (cond c (Some StartTooLarge) (cond d (Some TooTall) None)) ≡ None → IsAccepted bits start
    by false b c d ha hb hc hd none = absurd (none-some BitsOutOfRange (sym none))
    by true false c d ha hb hc hd none = absurd (none-some BitsOutOfRange (sym none))
    by true true true d ha hb hc hd none = absurd (none-some StartTooLarge (sym none))
    by true true false true ha hb hc hd none = absurd (none-some TooTall (sym none))
    by true true false false ha hb hc hd none = record {
      least = grind (arith, nat_tests, ha);
      most = grind (arith, nat_tests, hb);
      start = grind (arith, nat_tests, hc);
      rows = grind (arith, nat_tests, hd);
    }

-- what a list has by a name is one
module _ {X : Type 0} (name : X → List ℕ) (xs : List X) where
  abbrev found : List ℕ → Option X
  found wanted = find (λ x. bytes_eq wanted (name x)) xs

  found_apart : (x y : X) → found (name x) ≡ Some x → found (name y) ≡ Some y → name x ≡ name y → x ≡ y
  found_apart x y at_x at_y same = same_Some x y (sym at_x ∙ ap found same ∙ at_y)

-- a kind is of the first row, or is found by its name, which then begins with another byte; likewise a label
kind_sort : (last : ℕ) (k : Kind) → ((i : ℕ) × (k ≡ First i)) ⊎ ((found (kind_name last) later_kinds (kind_name last k) ≡ Some k) × (get_or (kind_name last k) 0 0 ≢ 116))
unfolding digits
kind_sort last (First i) = inl (i, refl)
kind_sort last (AddEast false) = inr (refl, λ e. omega (arith, e))
kind_sort last (AddEast true) = inr (refl, λ e. omega (arith, e))
kind_sort last (AddMiddle false false) = inr (refl, λ e. omega (arith, e))
kind_sort last (AddMiddle false true) = inr (refl, λ e. omega (arith, e))
kind_sort last (AddMiddle true false) = inr (refl, λ e. omega (arith, e))
kind_sort last (AddMiddle true true) = inr (refl, λ e. omega (arith, e))
kind_sort last (AddWest false false) = inr (refl, λ e. omega (arith, e))
kind_sort last (AddWest false true) = inr (refl, λ e. omega (arith, e))
kind_sort last (AddWest true false) = inr (refl, λ e. omega (arith, e))
kind_sort last (AddWest true true) = inr (refl, λ e. omega (arith, e))
kind_sort last (CopyWest false) = inr (refl, λ e. omega (arith, e))
kind_sort last (CopyWest true) = inr (refl, λ e. omega (arith, e))
kind_sort last (CopyMiddle false) = inr (refl, λ e. omega (arith, e))
kind_sort last (CopyMiddle true) = inr (refl, λ e. omega (arith, e))
kind_sort last (CopyEast false) = inr (refl, λ e. omega (arith, e))
kind_sort last (CopyEast true) = inr (refl, λ e. omega (arith, e))

label_sort : (g : Label) → ((i : ℕ) × (g ≡ Chain i)) ⊎ ((found label_name fixed_labels (label_name g) ≡ Some g) × (get_or (label_name g) 0 0 ≢ 112))
unfolding digits
label_sort (BitWest false) = inr (refl, λ e. omega (arith, e))
label_sort (BitWest true) = inr (refl, λ e. omega (arith, e))
label_sort (Bit false) = inr (refl, λ e. omega (arith, e))
label_sort (Bit true) = inr (refl, λ e. omega (arith, e))
label_sort (BitEast false) = inr (refl, λ e. omega (arith, e))
label_sort (BitEast true) = inr (refl, λ e. omega (arith, e))
label_sort (SumEast false) = inr (refl, λ e. omega (arith, e))
label_sort (SumEast true) = inr (refl, λ e. omega (arith, e))
label_sort (Carry false) = inr (refl, λ e. omega (arith, e))
label_sort (Carry true) = inr (refl, λ e. omega (arith, e))
label_sort (SumWest false) = inr (refl, λ e. omega (arith, e))
label_sort (SumWest true) = inr (refl, λ e. omega (arith, e))
label_sort GoAhead = inr (refl, λ e. omega (arith, e))
label_sort (Chain i) = inl (i, refl)

-- two that have one name are one, where their numbers are small
kinds_apart : (last : ℕ) → last ≤ 31 → (j k : Kind) → IsKind last j → IsKind last k → kind_name last j ≡ kind_name last k → j ≡ k
kinds_apart last small j k listed_j listed_k same = elim (kind_sort last j) [
  | inl first_j ↦ elim (kind_sort last k) [
    | inl first_k ↦
        let in_j : first_j.0 ≤ last = subst (IsKind last) first_j.1 listed_j in
        let in_k : first_k.0 ≤ last = subst (IsKind last) first_k.1 listed_k in
        let names : kind_name last (First first_j.0) ≡ kind_name last (First first_k.0) = ap (kind_name last) (sym first_j.1) ∙ same ∙ ap (kind_name last) first_k.1 in
        first_j.1 ∙ ap First (numbered_apart (codes "t:") first_j.0 first_k.0 (omega (arith, small, in_j)) (omega (arith, small, in_k)) names) ∙ sym first_k.1
    | inr later_k ↦ absurd (later_k.1 (ap (λ n. get_or n 0 0) (sym same ∙ ap (kind_name last) first_j.1)))
  ]
  | inr later_j ↦ elim (kind_sort last k) [
    | inl first_k ↦ absurd (later_j.1 (ap (λ n. get_or n 0 0) (same ∙ ap (kind_name last) first_k.1)))
    | inr later_k ↦ found_apart (kind_name last) later_kinds j k later_j.0 later_k.0 same
  ]
]

labels_apart : (last : ℕ) → last ≤ 31 → (g h : Label) → IsLabel last g → IsLabel last h → label_name g ≡ label_name h → g ≡ h
labels_apart last small g h listed_g listed_h same = elim (label_sort g) [
  | inl chain_g ↦ elim (label_sort h) [
    | inl chain_h ↦
        let in_g : (1 ≤ chain_g.0) × (chain_g.0 ≤ last) = subst (IsLabel last) chain_g.1 listed_g in
        let in_h : (1 ≤ chain_h.0) × (chain_h.0 ≤ last) = subst (IsLabel last) chain_h.1 listed_h in
        let most_g = in_g.1 in
        let most_h = in_h.1 in
        let names : label_name (Chain chain_g.0) ≡ label_name (Chain chain_h.0) = ap label_name (sym chain_g.1) ∙ same ∙ ap label_name chain_h.1 in
        chain_g.1 ∙ ap Chain (numbered_apart (codes "p:") chain_g.0 chain_h.0 (omega (arith, small, most_g)) (omega (arith, small, most_h)) names) ∙ sym chain_h.1
    | inr fixed_h ↦ absurd (fixed_h.1 (ap (λ n. get_or n 0 0) (sym same ∙ ap label_name chain_g.1)))
  ]
  | inr fixed_g ↦ elim (label_sort h) [
    | inl chain_h ↦ absurd (fixed_g.1 (ap (λ n. get_or n 0 0) (same ∙ ap label_name chain_h.1)))
    | inr fixed_h ↦ found_apart label_name fixed_labels g h fixed_g.0 fixed_h.0 same
  ]
]

kind_named : (last : ℕ) → last ≤ 31 → (k : Kind) → IsKind last k → IsName (kind_name last k)
unfolding is_name digits
kind_named last small (First i) within = numbered_name (codes "t:") i (omega (arith, small, within)) (omega arith) refl
kind_named last small (AddEast false) within = refl
kind_named last small (AddEast true) within = refl
kind_named last small (AddMiddle false false) within = refl
kind_named last small (AddMiddle false true) within = refl
kind_named last small (AddMiddle true false) within = refl
kind_named last small (AddMiddle true true) within = refl
kind_named last small (AddWest false false) within = refl
kind_named last small (AddWest false true) within = refl
kind_named last small (AddWest true false) within = refl
kind_named last small (AddWest true true) within = refl
kind_named last small (CopyWest false) within = refl
kind_named last small (CopyWest true) within = refl
kind_named last small (CopyMiddle false) within = refl
kind_named last small (CopyMiddle true) within = refl
kind_named last small (CopyEast false) within = refl
kind_named last small (CopyEast true) within = refl

label_named : (last : ℕ) → last ≤ 31 → (g : Label) → IsLabel last g → IsName (label_name g)
unfolding is_name digits
label_named last small (BitWest false) within = refl
label_named last small (BitWest true) within = refl
label_named last small (Bit false) within = refl
label_named last small (Bit true) within = refl
label_named last small (BitEast false) within = refl
label_named last small (BitEast true) within = refl
label_named last small (SumEast false) within = refl
label_named last small (SumEast true) within = refl
label_named last small (Carry false) within = refl
label_named last small (Carry true) within = refl
label_named last small (SumWest false) within = refl
label_named last small (SumWest true) within = refl
label_named last small GoAhead within = refl
label_named last small (Chain i) within = let most = within.1 in numbered_name (codes "p:") i (omega (arith, small, most)) (omega arith) refl

-- names are short, however many columns there are
within_room : (name : List ℕ) → IsName name → length name ≤ 256
within_room name named = let short = name_short name named in omega (arith, short)

numbered_room : (letter n : ℕ) → n < 2 ^ 32 → length (letter ∷ 58 ∷ decimal n) ≤ 256
numbered_room letter n small = let few : length (decimal n) ≤ 10 = length-decimal-le 10 n (omega arith) (omega (arith, small)) (omega (arith, small)) in omega (arith, few)

pub kind_short : (last : ℕ) → last < 2 ^ 32 → (k : Kind) → IsKind last k → length (kind_name last k) ≤ 256
kind_short last small (First i) within = numbered_room 116 i (omega (arith, small, within))
kind_short last small (AddEast b) within = within_room (kind_name last (AddEast b)) (kind_named 0 zero-le (AddEast b) tt)
kind_short last small (AddMiddle b c) within = within_room (kind_name last (AddMiddle b c)) (kind_named 0 zero-le (AddMiddle b c) tt)
kind_short last small (AddWest b c) within = within_room (kind_name last (AddWest b c)) (kind_named 0 zero-le (AddWest b c) tt)
kind_short last small (CopyWest b) within = within_room (kind_name last (CopyWest b)) (kind_named 0 zero-le (CopyWest b) tt)
kind_short last small (CopyMiddle b) within = within_room (kind_name last (CopyMiddle b)) (kind_named 0 zero-le (CopyMiddle b) tt)
kind_short last small (CopyEast b) within = within_room (kind_name last (CopyEast b)) (kind_named 0 zero-le (CopyEast b) tt)

pub label_short : (last : ℕ) → last < 2 ^ 32 → (g : Label) → IsLabel last g → length (label_name g) ≤ 256
label_short last small (BitWest b) within = within_room (label_name (BitWest b)) (label_named 0 zero-le (BitWest b) tt)
label_short last small (Bit b) within = within_room (label_name (Bit b)) (label_named 0 zero-le (Bit b) tt)
label_short last small (BitEast b) within = within_room (label_name (BitEast b)) (label_named 0 zero-le (BitEast b) tt)
label_short last small (SumEast b) within = within_room (label_name (SumEast b)) (label_named 0 zero-le (SumEast b) tt)
label_short last small (Carry b) within = within_room (label_name (Carry b)) (label_named 0 zero-le (Carry b) tt)
label_short last small (SumWest b) within = within_room (label_name (SumWest b)) (label_named 0 zero-le (SumWest b) tt)
label_short last small GoAhead within = within_room (label_name GoAhead) (label_named 0 zero-le GoAhead tt)
label_short last small (Chain i) within = let most = within.1 in numbered_room 112 i (omega (arith, small, most))

weak : (g : Label) → strength g ≤ MOST_STRENGTH
weak (BitWest b) = omega arith
weak (Bit b) = omega arith
weak (BitEast b) = omega arith
weak (SumEast b) = omega arith
weak (Carry b) = omega arith
weak (SumWest b) = omega arith
weak GoAhead = omega arith
weak (Chain i) = omega arith

pub kinds_long : (last : ℕ) → length (kinds_of last) ≡ suc last + 16
kinds_long last = length-append (map First (range_with_len 0 (suc last))) later_kinds ∙ ap (λ n. n + 16) (length-map-range_with_len First 0 (suc last))

labels_long : (last : ℕ) → length (labels_of last) ≡ 13 + last
labels_long last = length-append fixed_labels (map Chain (range_with_len 1 last)) ∙ ap (λ n. 13 + n) (length-map-range_with_len Chain 1 last)

pub glue_count : (bits start : ℕ) → 1 ≤ bits → length (counter_system bits start).glues ≡ bits + 12
glue_count bits start some =
    let made = length-map (labels_of (bits - 1)) (glue_of (tiles_of (bits - 1) start)) in
    let long = labels_long (bits - 1) in
    omega (arith, made, long, some)

pub type_count : (bits start : ℕ) → 1 ≤ bits → length (counter_system bits start).types ≡ bits + 16
type_count bits start some =
    let made = length-map (kinds_of (bits - 1)) (tile_type (tiles_of (bits - 1) start)) in
    let long = kinds_long (bits - 1) in
    omega (arith, made, long, some)

pub within_limits : (last v : ℕ) → last ≤ 31 → IsWithinLimits (tiles_of last v)
within_limits last v small =
    let kinds = kinds_long last in
    let labels = labels_long last in
    record {
      label_count = omega (arith, labels, small);
      label_names = λ g listed. label_named last small g (listed_label last v g listed);
      distinct_labels = λ g h listed_g listed_h. labels_apart last small g h (listed_label last v g listed_g) (listed_label last v h listed_h);
      strengths = λ g listed. weak g;
      kind_count = omega (arith, kinds, small);
      kind_names = λ k listed. kind_named last small k (listed_kind last v k listed);
      distinct_kinds = λ j k listed_j listed_k. kinds_apart last small j k (listed_kind last v j listed_j) (listed_kind last v k listed_k);
    }

-- the box of a counter
module _ (bits start : ℕ) (fits : IsAccepted bits start) where
  pub is_counter_box : IsBox (counter_box bits start)
  is_counter_box =
      let least = fits.least in
      let most = fits.most in
      let rows = fits.rows in
      record {
        corners = record {
          columns = omega (arith, ints);
          rows = omega (arith, ints);
          left = omega (arith, ints);
          right = omega (arith, ints, most);
          bottom = omega (arith, ints);
          top = omega (arith, ints, rows);
        };
        width = omega (arith, ints, most);
        height = omega (arith, ints, rows);
      }

  pub seed_inside : InBox (counter_box bits start) (cell_site 0 0)
  seed_inside = record { left = omega (arith, ints); right = omega (arith, ints); bottom = omega (arith, ints); top = omega (arith, ints) }

  pub is_valid_counter : IsValid (counter_system bits start)
  is_valid_counter =
      let most = fits.most in
      is_valid (tiles_of (bits - 1) start) (First 0) (counter_box bits start) (is_tile_set (bits - 1) start) (within_limits (bits - 1) start (omega (arith, most)))
      (kind_listed (bits - 1) start (First 0) zero-le) is_counter_box seed_inside
