-- The names of a machine's types and glues, and that its system is valid.
use Rattle.std.proofs.Common.{◌≡◌, ◌<◌, ◌≤◌, ℕ, List, [], ◌∷◌, length, Contains, refl, sym, ◌∙◌, ap, arith, codes}
use Rattle.std.specs.List.{slice_index_or}
use Rattle.std.proofs.lemmas.Int.{ints}
use Rattle.atam.specs.Sites.{IsBox, InBox}
use Rattle.atam.specs.TileSystem.{IsName, IsValid}
use Rattle.design.specs.TileSets.{IsWithinLimits, cell_site}
use Rattle.design.proofs.Validity.{is_valid}
use Rattle.machine_text.specs.Machines.{TuringMachine, IsMachine}
use Rattle.tile_table.proofs.Names.{numbered_name, numbered_apart}
use Rattle.turing_compile.specs.declared.kind.Kind.{Kind}
use Rattle.turing_compile.specs.declared.kind.Kind.TheVariants.{First, Action, FromLeft, FromRight, RightOf, LeftOf}
use Rattle.turing_compile.specs.declared.kind.Label.{Label}
use Rattle.turing_compile.specs.declared.kind.Label.TheVariants.{Symbol, Acting, Rightward, Leftward, HeadRightward, HeadLeftward, Joint}
use Rattle.turing_compile.specs.Compiled.{pair_name, tiles_of, compiled}
use Rattle.turing_compile.specs.Inner.Listed.{kinds, area_of}
use Rattle.turing_compile.specs.Inner.Members.{IsKind, IsLabel}
use Rattle.turing_compile.specs.Inner.Rows.{strength, kind_name, label_name}
use Rattle.turing_compile.proofs.MachineFacts.{pair_bounds}
use Rattle.turing_compile.proofs.Listed.{kind_listed, listed_kind, listed_label, label_count, kind_count, is_tile_set}
use Rattle.machine_text.proofs.ShortNames.{IsShort, IsRest, short_name, one_name, rest-short, rest-pair, named, named_byte, one_pair}

-- the first byte of a name tells its kind, or its sort of label
kind_code : Kind → ℕ
kind_code (First i) = 116
kind_code (Action q a) = 97
kind_code (FromLeft q a) = 82
kind_code (FromRight q a) = 76
kind_code (RightOf a) = 114
kind_code (LeftOf a) = 108

label_code : Label → ℕ
label_code (Symbol a) = 115
label_code (Acting q a) = 104
label_code Rightward = 114
label_code Leftward = 108
label_code (HeadRightward q) = 82
label_code (HeadLeftward q) = 76
label_code (Joint i) = 99

head_of : List ℕ → ℕ
head_of [] = 0
head_of (x ∷ xs) = x

module _ (M : TuringMachine) (is_machine : IsMachine M) where
  state_short : (q : ℕ) → q < length M.states → IsShort (slice_index_or M.states q [])
  state_short q less = short_name M.states is_machine.states q less

  symbol_short : (a : ℕ) → a < length M.symbols → IsShort ((slice_index_or M.symbols a []))
  symbol_short a less = short_name M.symbols is_machine.symbols a less

  pair_rest : (q a : ℕ) → q < length M.states → a < length M.symbols → IsRest (pair_name M q a)
  pair_rest q a q_less a_less = rest-pair (slice_index_or M.states q []) ((slice_index_or M.symbols a [])) (state_short q q_less) (symbol_short a a_less)

  -- what is told by names
  same_state : (p q : ℕ) → p < length M.states → q < length M.states → (slice_index_or M.states p []) ≡ (slice_index_or M.states q []) → p ≡ q
  same_state p q p_less q_less same = one_name M.states is_machine.states p q p_less q_less same

  same_symbol : (a b : ℕ) → a < length M.symbols → b < length M.symbols → (slice_index_or M.symbols a []) ≡ (slice_index_or M.symbols b []) → a ≡ b
  same_symbol a b a_less b_less same = one_name M.symbols is_machine.symbols a b a_less b_less same

  same_pair : (p a q b : ℕ) → p < length M.states → a < length M.symbols → q < length M.states → b < length M.symbols → pair_name M p a ≡ pair_name M q b → (p ≡ q) × (a ≡ b)
  same_pair p a q b p_less a_less q_less b_less same =
      let both = one_pair ((slice_index_or M.states p [])) ((slice_index_or M.symbols a [])) (slice_index_or M.states q []) ((slice_index_or M.symbols b [])) (state_short p p_less).bytes (state_short q q_less).bytes same in
      (same_state p q p_less q_less both.0, same_symbol a b a_less b_less both.1)

  kind_named : (k : Kind) → IsKind M k → IsName (kind_name M k)
  kind_named (First i) kind = let most = is_machine.cells.1 in numbered_name (codes "t:") i (omega (arith, kind, most)) (omega arith) refl
  kind_named (Action q a) kind = let r = pair_bounds M is_machine q a kind in named 97 (pair_name M q a) refl (pair_rest q a r.0 r.1)
  kind_named (FromLeft q a) kind = named 82 (pair_name M q a) refl (pair_rest q a kind.0 kind.1)
  kind_named (FromRight q a) kind = named 76 (pair_name M q a) refl (pair_rest q a kind.0 kind.1)
  kind_named (RightOf a) kind = named 114 ((slice_index_or M.symbols a [])) refl (rest-short ((slice_index_or M.symbols a [])) (symbol_short a kind))
  kind_named (LeftOf a) kind = named 108 ((slice_index_or M.symbols a [])) refl (rest-short ((slice_index_or M.symbols a [])) (symbol_short a kind))

  kind_coded : (k : Kind) → head_of (kind_name M k) ≡ kind_code k
  unfolding head_of kind_code
  kind_coded (First i) = refl
  kind_coded (Action q a) = refl
  kind_coded (FromLeft q a) = refl
  kind_coded (FromRight q a) = refl
  kind_coded (RightOf a) = refl
  kind_coded (LeftOf a) = refl

  one_kind : (j k : Kind) → IsKind M j → IsKind M k → kind_code j ≡ kind_code k → kind_name M j ≡ kind_name M k → j ≡ k
  unfolding kind_code
  one_kind (First i) (First j) first second code same =
      let most = is_machine.cells.1 in
      ap (λ n. First n) (numbered_apart (codes "t:") i j (omega (arith, first, most)) (omega (arith, second, most)) same)
  one_kind (Action p a) (Action q b) first second code same =
      let f = pair_bounds M is_machine p a first in
      let s = pair_bounds M is_machine q b second in
      let both = same_pair p a q b f.0 f.1 s.0 s.1 cc in
      λ z. Action (both.0 z) (both.1 z)
  one_kind (FromLeft p a) (FromLeft q b) first second code same =
      let both = same_pair p a q b first.0 first.1 second.0 second.1 cc in
      λ z. FromLeft (both.0 z) (both.1 z)
  one_kind (FromRight p a) (FromRight q b) first second code same =
      let both = same_pair p a q b first.0 first.1 second.0 second.1 cc in
      λ z. FromRight (both.0 z) (both.1 z)
  one_kind (RightOf a) (RightOf b) first second code same = ap (λ n. RightOf n) (same_symbol a b first second cc)
  one_kind (LeftOf a) (LeftOf b) first second code same = ap (λ n. LeftOf n) (same_symbol a b first second cc)
  one_kind j k first second code same = let never : ⊥ = omega (arith, code) in absurd never

  label_named : (g : Label) → IsLabel M g → IsName (label_name M g)
  label_named (Symbol a) label = named 115 ((slice_index_or M.symbols a [])) refl (rest-short ((slice_index_or M.symbols a [])) (symbol_short a label))
  label_named (Acting q a) label = let r = pair_bounds M is_machine q a label in named 104 (pair_name M q a) refl (pair_rest q a r.0 r.1)
  label_named Rightward label = named_byte 114 refl
  label_named Leftward label = named_byte 108 refl
  label_named (HeadRightward q) label = named 82 (slice_index_or M.states q []) refl (rest-short (slice_index_or M.states q []) (state_short q label))
  label_named (HeadLeftward q) label = named 76 (slice_index_or M.states q []) refl (rest-short (slice_index_or M.states q []) (state_short q label))
  label_named (Joint i) label =
      let most = is_machine.cells.1 in
      let within = label.1 in
      numbered_name (codes "c:") i (omega (arith, within, most)) (omega arith) refl

  label_coded : (g : Label) → head_of (label_name M g) ≡ label_code g
  unfolding head_of label_code
  label_coded (Symbol a) = refl
  label_coded (Acting q a) = refl
  label_coded Rightward = refl
  label_coded Leftward = refl
  label_coded (HeadRightward q) = refl
  label_coded (HeadLeftward q) = refl
  label_coded (Joint i) = refl

  one_label : (g h : Label) → IsLabel M g → IsLabel M h → label_code g ≡ label_code h → label_name M g ≡ label_name M h → g ≡ h
  unfolding label_code
  one_label (Symbol a) (Symbol b) first second code same = ap (λ n. Symbol n) (same_symbol a b first second cc)
  one_label (Acting p a) (Acting q b) first second code same =
      let f = pair_bounds M is_machine p a first in
      let s = pair_bounds M is_machine q b second in
      let both = same_pair p a q b f.0 f.1 s.0 s.1 cc in
      λ z. Acting (both.0 z) (both.1 z)
  one_label Rightward Rightward first second code same = refl
  one_label Leftward Leftward first second code same = refl
  one_label (HeadRightward p) (HeadRightward q) first second code same = ap (λ n. HeadRightward n) (same_state p q first second cc)
  one_label (HeadLeftward p) (HeadLeftward q) first second code same = ap (λ n. HeadLeftward n) (same_state p q first second cc)
  one_label (Joint i) (Joint j) first second code same =
      let most = is_machine.cells.1 in
      let a = first.1 in
      let b = second.1 in
      ap (λ n. Joint n) (numbered_apart (codes "c:") i j (omega (arith, a, most)) (omega (arith, b, most)) same)
  one_label g h first second code same = let never : ⊥ = omega (arith, code) in absurd never

  weak_label : (g : Label) → strength M g ≤ 250
  weak_label (Symbol a) = omega arith
  weak_label (Acting q a) = omega arith
  weak_label Rightward = omega arith
  weak_label Leftward = omega arith
  weak_label (HeadRightward q) = omega arith
  weak_label (HeadLeftward q) = omega arith
  weak_label (Joint i) = omega arith

  pub within_limits : IsWithinLimits (tiles_of M)
  within_limits = record {
    label_count = omega (arith, label_count M is_machine);
    label_names = λ g listed. label_named g (listed_label M is_machine g listed);
    distinct_labels = λ g h in_g in_h same.
        one_label g h (listed_label M is_machine g in_g) (listed_label M is_machine h in_h) (sym (label_coded g) ∙ ap head_of same ∙ label_coded h) same;
    strengths = λ g listed. weak_label g;
    kind_count = omega (arith, kind_count M is_machine);
    kind_names = λ k listed. kind_named k (listed_kind M is_machine k listed);
    distinct_kinds = λ j k in_j in_k same.
        one_kind j k (listed_kind M is_machine j in_j) (listed_kind M is_machine k in_k) (sym (kind_coded j) ∙ ap head_of same ∙ kind_coded k) same;
  }

  pub seed_listed : Contains (kinds M) (First 0)
  seed_listed = let some = is_machine.cells.0 in kind_listed M is_machine (First 0) (omega (arith, some))

  pub box_fits : IsBox (area_of M)
  box_fits =
      let columns = is_machine.cells.1 in
      let rows = is_machine.rows.1 in
      record {
        corners = record {
          columns = omega (arith, ints);
          rows = omega (arith, ints);
          left = omega (arith, ints);
          right = omega (arith, ints, columns);
          bottom = omega (arith, ints);
          top = omega (arith, ints, rows);
        };
        width = omega (arith, ints, columns);
        height = omega (arith, ints, rows);
      }

  pub seed_inside : InBox (area_of M) (cell_site 0 0)
  seed_inside = record { left = omega (arith, ints); right = omega (arith, ints); bottom = omega (arith, ints); top = omega (arith, ints) }

  pub compiled_valid : IsValid (compiled M)
  compiled_valid = is_valid (tiles_of M) (First 0) (area_of M) (is_tile_set M is_machine) within_limits seed_listed box_fits seed_inside
