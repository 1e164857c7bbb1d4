-- The names of a quadrant's types and glues, and that its system is valid.
use Rattle.std.proofs.Common.{◌≡◌, ◌<◌, ◌≤◌, ℕ, List, [], ◌∷◌, ◌++◌, length, Contains, refl, sym, ◌∙◌, ap, arith, codes}
use Rattle.std.specs.List.{slice_index_or}
use Rattle.std.proofs.lemmas.Int.{ints}
use Rattle.atam.specs.Sites.{IsBox, InBox}
use Rattle.atam.specs.TileSystem.{IsName, IsValid}
use Rattle.design.specs.TileSets.{IsWithinLimits, cell_site}
use Rattle.design.proofs.Validity.{is_valid}
use Rattle.tile_table.proofs.Names.{numbered_name, numbered_apart}
use Rattle.machine_text.proofs.ShortNames.{IsShort, short_name, one_name, rest-short, rest-pair, named, named_byte, one_pair}
use Rattle.quadrant_compile.specs.declared.tile.Kind.{Kind}
use Rattle.quadrant_compile.specs.declared.tile.Kind.TheVariants.{Corner, Bottom, Left, Cell}
use Rattle.quadrant_compile.specs.declared.tile.Label.{Label}
use Rattle.quadrant_compile.specs.declared.tile.Label.TheVariants.{Eastward, Northward, Column, Row}
use Rattle.quadrant_compile.specs.Quadrants.{RuleQuadrant, IsQuadrant}
use Rattle.quadrant_compile.specs.QuadrantSystems.{tiles_of, quadrant_system}
use Rattle.quadrant_compile.specs.Inner.Listed.{kinds, area_of}
use Rattle.quadrant_compile.specs.Inner.Listed.{kind_name, label_name, strength}
use Rattle.quadrant_compile.specs.Inner.Members.{IsKind, IsLabel}
use Rattle.quadrant_compile.proofs.Ruling.{pair_bounds}
use Rattle.quadrant_compile.proofs.Listed.{kind_listed, listed_kind, listed_label, label_count, kind_count, is_tile_set}

-- the first byte of a name tells its kind, or its sort of label
kind_code : Kind → ℕ
kind_code Corner = 111
kind_code (Bottom i) = 98
kind_code (Left j) = 97
kind_code (Cell a b) = 113

label_code : Label → ℕ
label_code (Eastward a) = 104
label_code (Northward a) = 118
label_code (Column i) = 98
label_code (Row j) = 97

head_of : List ℕ → ℕ
head_of [] = 0
head_of (x ∷ xs) = x

module _ (q : RuleQuadrant) (is_quadrant : IsQuadrant q) where
  symbol_short : (a : ℕ) → a < length q.symbols → IsShort ((slice_index_or q.symbols a []))
  symbol_short a less = short_name q.symbols is_quadrant.symbols a less

  same_symbol : (a b : ℕ) → a < length q.symbols → b < length q.symbols → (slice_index_or q.symbols a []) ≡ (slice_index_or q.symbols b []) → a ≡ b
  same_symbol a b a_less b_less same = one_name q.symbols is_quadrant.symbols a b a_less b_less same

  same_pair : (a b c d : ℕ) → a < length q.symbols → b < length q.symbols → c < length q.symbols → d < length q.symbols → (slice_index_or q.symbols a []) ++ codes ":" ++ (slice_index_or q.symbols b []) ≡ (slice_index_or q.symbols c []) ++ codes ":" ++ (slice_index_or q.symbols d []) → (a ≡ c) × (b ≡ d)
  same_pair a b c d a_less b_less c_less d_less same =
      let both = one_pair ((slice_index_or q.symbols a [])) ((slice_index_or q.symbols b [])) ((slice_index_or q.symbols c [])) ((slice_index_or q.symbols d [])) (symbol_short a a_less).bytes (symbol_short c c_less).bytes same in
      (same_symbol a c a_less c_less both.0, same_symbol b d b_less d_less both.1)

  kind_named : (k : Kind) → IsKind q k → IsName (kind_name q k)
  kind_named Corner kind = named_byte 111 refl
  kind_named (Bottom i) kind = let most = is_quadrant.columns.1 in let within = kind.1 in numbered_name (codes "b:") i (omega (arith, within, most)) (omega arith) refl
  kind_named (Left j) kind = let most = is_quadrant.rows.1 in let within = kind.1 in numbered_name (codes "a:") j (omega (arith, within, most)) (omega arith) refl
  kind_named (Cell a b) kind =
      let r = pair_bounds q is_quadrant a b kind in
      named 113 ((slice_index_or q.symbols a []) ++ codes ":" ++ (slice_index_or q.symbols b [])) refl (rest-pair ((slice_index_or q.symbols a [])) ((slice_index_or q.symbols b [])) (symbol_short a r.0) (symbol_short b r.1))

  kind_coded : (k : Kind) → head_of (kind_name q k) ≡ kind_code k
  unfolding head_of kind_code
  kind_coded Corner = refl
  kind_coded (Bottom i) = refl
  kind_coded (Left j) = refl
  kind_coded (Cell a b) = refl

  one_kind : (j k : Kind) → IsKind q j → IsKind q k → kind_code j ≡ kind_code k → kind_name q j ≡ kind_name q k → j ≡ k
  unfolding kind_code
  one_kind Corner Corner first second code same = refl
  one_kind (Bottom i) (Bottom j) first second code same =
      let most = is_quadrant.columns.1 in
      let a = first.1 in
      let b = second.1 in
      ap (λ n. Bottom n) (numbered_apart (codes "b:") i j (omega (arith, a, most)) (omega (arith, b, most)) same)
  one_kind (Left i) (Left j) first second code same =
      let most = is_quadrant.rows.1 in
      let a = first.1 in
      let b = second.1 in
      ap (λ n. Left n) (numbered_apart (codes "a:") i j (omega (arith, a, most)) (omega (arith, b, most)) same)
  one_kind (Cell a b) (Cell c d) first second code same =
      let f = pair_bounds q is_quadrant a b first in
      let s = pair_bounds q is_quadrant c d second in
      let both = same_pair a b c d f.0 f.1 s.0 s.1 cc in
      λ z. Cell (both.0 z) (both.1 z)
  one_kind j k first second code same = let never : ⊥ = omega (arith, code) in absurd never

  label_named : (g : Label) → IsLabel q g → IsName (label_name q g)
  label_named (Eastward a) label = named 104 ((slice_index_or q.symbols a [])) refl (rest-short ((slice_index_or q.symbols a [])) (symbol_short a label))
  label_named (Northward a) label = named 118 ((slice_index_or q.symbols a [])) refl (rest-short ((slice_index_or q.symbols a [])) (symbol_short a label))
  label_named (Column i) label = let most = is_quadrant.columns.1 in let within = label.1 in numbered_name (codes "b:") i (omega (arith, within, most)) (omega arith) refl
  label_named (Row j) label = let most = is_quadrant.rows.1 in let within = label.1 in numbered_name (codes "a:") j (omega (arith, within, most)) (omega arith) refl

  label_coded : (g : Label) → head_of (label_name q g) ≡ label_code g
  unfolding head_of label_code
  label_coded (Eastward a) = refl
  label_coded (Northward a) = refl
  label_coded (Column i) = refl
  label_coded (Row j) = refl

  one_label : (g h : Label) → IsLabel q g → IsLabel q h → label_code g ≡ label_code h → label_name q g ≡ label_name q h → g ≡ h
  unfolding label_code
  one_label (Eastward a) (Eastward b) first second code same = ap (λ n. Eastward n) (same_symbol a b first second cc)
  one_label (Northward a) (Northward b) first second code same = ap (λ n. Northward n) (same_symbol a b first second cc)
  one_label (Column i) (Column j) first second code same =
      let most = is_quadrant.columns.1 in
      let a = first.1 in
      let b = second.1 in
      ap (λ n. Column n) (numbered_apart (codes "b:") i j (omega (arith, a, most)) (omega (arith, b, most)) same)
  one_label (Row i) (Row j) first second code same =
      let most = is_quadrant.rows.1 in
      let a = first.1 in
      let b = second.1 in
      ap (λ n. Row n) (numbered_apart (codes "a:") i j (omega (arith, a, most)) (omega (arith, b, most)) same)
  one_label g h first second code same = let never : ⊥ = omega (arith, code) in absurd never

  weak_label : (g : Label) → strength q g ≤ 250
  weak_label (Eastward a) = omega arith
  weak_label (Northward a) = omega arith
  weak_label (Column i) = omega arith
  weak_label (Row j) = omega arith

  pub within_limits : IsWithinLimits (tiles_of q)
  within_limits = record {
    label_count = let count = label_count q is_quadrant in omega (arith, count);
    label_names = λ g listed. label_named g (listed_label q is_quadrant g listed);
    distinct_labels = λ g h in_g in_h same.
        one_label g h (listed_label q is_quadrant g in_g) (listed_label q is_quadrant h in_h) (sym (label_coded g) ∙ ap head_of same ∙ label_coded h) same;
    strengths = λ g listed. weak_label g;
    kind_count = let count = kind_count q is_quadrant in omega (arith, count);
    kind_names = λ k listed. kind_named k (listed_kind q is_quadrant k listed);
    distinct_kinds = λ j k in_j in_k same.
        one_kind j k (listed_kind q is_quadrant j in_j) (listed_kind q is_quadrant k in_k) (sym (kind_coded j) ∙ ap head_of same ∙ kind_coded k) same;
  }

  pub seed_listed : Contains (kinds q) Corner
  seed_listed = kind_listed q is_quadrant Corner tt

  pub box_fits : IsBox (area_of q)
  box_fits =
      let columns = is_quadrant.columns.1 in
      let rows = is_quadrant.rows.1 in
      record {
        corners = record {
          columns = omega (arith, ints);
          rows = omega (arith, ints);
          left = omega (arith, ints);
          right = omega (arith, ints, columns);
          bottom = omega (arith, ints);
          top = omega (arith, ints, rows);
        };
        width = omega (arith, ints, columns);
        height = omega (arith, ints, rows);
      }

  pub seed_inside : InBox (area_of q) (cell_site 0 0)
  seed_inside = record { left = omega (arith, ints); right = omega (arith, ints); bottom = omega (arith, ints); top = omega (arith, ints) }

  pub quadrant_system_valid : IsValid (quadrant_system q)
  quadrant_system_valid = is_valid (tiles_of q) Corner (area_of q) (is_tile_set q is_quadrant) within_limits seed_listed box_fits seed_inside
