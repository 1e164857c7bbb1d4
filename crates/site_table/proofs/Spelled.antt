-- Words and the tiles that they spell.
use Rattle.std.proofs.Common.{◌≡◌, ◌≢◌, ◌⊎◌, ◌<◌, ◌≤◌, ◌+◌, ◌-◌, ◌*◌, ◌/◌, ◌%◌, ◌==◌, ◌&&◌, not, ne_eqb, count_by, append-nil, length-append, ℕ, zero, suc, Bool, false, cond, List, [], ◌∷◌, ◌++◌, length, get_or, set, Option, Some, None, option_map, refl, sym, ◌∙◌, ap, subst, inl, inr, arith, get_or-set_same, get_or-set_other, length-set, replicate, ◌^◌, bit_or, map, take}
use Rattle.std.proofs.lemmas.List.{length-replicate, get_or-replicate, take_more}
use Rattle.std.proofs.lemmas.Bool.{cases_Bool}
use Rattle.std.proofs.lemmas.List.Folds.{sum_by-replicate}
use Rattle.std.proofs.lemmas.List.Sums.{sum_by-set}
use Rattle.std.proofs.lemmas.List.Elements.{filter-append}
use mathlib.Core.List.{map-append}
use mathlib.Core.Logic.{dite}
use native.Mathlib.Decide.{ℕ_discrete}
use Rattle.std.proofs.lemmas.Option.{none-some}
use Rattle.std.specs.Option.{option_map_or}
use Rattle.atam.specs.declared.site.Site.{Site}
use Rattle.atam.specs.declared.place.TypeId.{TypeId}
use Rattle.atam.specs.declared.area.BoxArea.{BoxArea}
use Rattle.atam.specs.declared.place.Place.{Place}
use Rattle.atam.specs.Placements.{tile_at, HasDistinctSites}
use Rattle.atam.proofs.Lists.{some_or_none}
use Rattle.atam.proofs.Placements.{tile_at-here, tile_at-past}
use Rattle.atam.proofs.Boxes.{same_site_tells}
use Rattle.assembly.specs.Cells.{cell_count, site_at}
use Rattle.assembly.proofs.Cells.{site_at-injective}
use Rattle.grow_core.specs.declared.placed_tile.PlacedTile.{PlacedTile}
use Rattle.grow_core.specs.Core.{places, placed_by, least, greatest}
use Rattle.std.proofs.lemmas.Int.{ints}
use Rattle.std.proofs.lemmas.Nat.{mul-add-lt}
use Rattle.atam.specs.Sites.{width_of, height_of}
use Rattle.atam.specs.TileSystem.{TileSystem, IsValid}
use Rattle.grow_core.specs.Steps.{tile_of}
use Rattle.grow_core.proofs.Tables.{next_empty}
use Rattle.grow_core.proofs.Numbers.{top, some_owned, least-owned, either-owns}
use Rattle.site_table.specs.Words.{is_by, code, word_of, type_in, tile_on, word_at, Spells}

-- the first tile is at the site, or it isn't
on_site : (t : PlacedTile) (m : Site) → (t.place.site ≡ m) ⊎ (t.place.site ≢ m)
on_site t m = elim (same_site_tells t.place.site m) [ inl same ↦ inl same.1 | inr differ ↦ inr differ.1 ]

tile_on-here : (t : PlacedTile) (s : List PlacedTile) (m : Site) → t.place.site ≡ m → tile_on (t ∷ s) m ≡ Some t
tile_on-here t s m here = elim (same_site_tells t.place.site m) [ inl same ↦ rw same.0 refl | inr differ ↦ absurd (differ.1 here) ]

tile_on-past : (t : PlacedTile) (s : List PlacedTile) (m : Site) → t.place.site ≢ m → tile_on (t ∷ s) m ≡ tile_on s m
tile_on-past t s m other = elim (same_site_tells t.place.site m) [ inl same ↦ absurd (other same.1) | inr differ ↦ rw differ.0 refl ]

-- what stands at a site, with its placer and without
pub tile_at-places : (tiles : List PlacedTile) (m : Site) → tile_at (places tiles) m ≡ option_map (λ t. t.place.tile) (tile_on tiles m)
tile_at-places [] m = refl
tile_at-places (t ∷ s) m = elim (on_site t m) [
  | inl here ↦ tile_at-here t.place (places s) m here ∙ sym (ap (option_map (λ (x : PlacedTile). x.place.tile)) (tile_on-here t s m here))
  | inr other ↦ tile_at-past t.place (places s) m other ∙ (tile_at-places s m ∙ sym (ap (option_map (λ (x : PlacedTile). x.place.tile)) (tile_on-past t s m other)))
]

tile_on-push_other : (tiles : List PlacedTile) (t : PlacedTile) (m : Site) → t.place.site ≢ m → tile_on (tiles ++ t ∷ []) m ≡ tile_on tiles m
tile_on-push_other [] t m other = tile_on-past t [] m other
tile_on-push_other (x ∷ s) t m other = elim (on_site x m) [
  | inl here ↦ tile_on-here x (s ++ t ∷ []) m here ∙ sym (tile_on-here x s m here)
  | inr past ↦ tile_on-past x (s ++ t ∷ []) m past ∙ (tile_on-push_other s t m other ∙ sym (tile_on-past x s m past))
]

tile_on-push_none : (tiles : List PlacedTile) (t : PlacedTile) → tile_on tiles t.place.site ≡ None → tile_on (tiles ++ t ∷ []) t.place.site ≡ Some t
tile_on-push_none [] t empty = tile_on-here t [] t.place.site refl
tile_on-push_none (x ∷ s) t empty = elim (on_site x t.place.site) [
  | inl here ↦ absurd (none-some x (sym empty ∙ tile_on-here x s t.place.site here))
  | inr other ↦ tile_on-past x (s ++ t ∷ []) t.place.site other ∙ tile_on-push_none s t (sym (tile_on-past x s t.place.site other) ∙ empty)
]

-- a word is 0 exactly where no tile is
pub none_from_word : (tiles : List PlacedTile) (m : Site) → word_at tiles m ≡ 0 → tile_on tiles m ≡ None
none_from_word tiles m e = elim (some_or_none (tile_on tiles m)) [
  | inl none ↦ none
  | inr found ↦ let h : word_of found.0 ≡ 0 = rw found.1 at e in absurd (omega arith)
]

pub some_from_word : (tiles : List PlacedTile) (m : Site) → word_at tiles m ≢ 0 → (t : PlacedTile) × (tile_on tiles m ≡ Some t) × (word_at tiles m ≡ word_of t)
some_from_word tiles m e = elim (some_or_none (tile_on tiles m)) [
  | inl none ↦ absurd (e (rw none refl))
  | inr found ↦ (found.0, found.1, rw found.1 refl)
]

-- no tile is on a site without a type
pub tile_on-none : (tiles : List PlacedTile) (m : Site) → tile_at (places tiles) m ≡ None → tile_on tiles m ≡ None
tile_on-none tiles m empty = elim (some_or_none (tile_on tiles m)) [
  | inl none ↦ none
  | inr found ↦ absurd (none-some found.0.place.tile (sym empty ∙ (tile_at-places tiles m ∙ ap (option_map (λ (t : PlacedTile). t.place.tile)) found.1)))
]

-- the type that was written is the type that is read
pub type_in-code : (t : TypeId) (n : ℕ) → t.0 < 4294967295 → (type_in (code t n) ≡ t) × (code t n % 4294967296 ≡ t.0 + 1)
type_in-code t n small = let e : code t n % 4294967296 - 1 ≡ t.0 = omega arith in ((λ i. record { 0 = e i }), omega arith)

abbrev one : Bool → ℕ
one b = cond b 1 0

-- a count after a word that did not count was changed
count_set : (p : ℕ → Bool) (xs : List ℕ) (i y : ℕ) → i < length xs → p (get_or xs i 0) ≡ false → count_by p (set xs i y) ≡ count_by p xs + one (p y)
count_set p xs i y l e = let moved = sum_by-set (λ (x : ℕ). one (p x)) xs i y 0 l in let old : one (p (get_or xs i 0)) ≡ 0 = ap one e in omega (arith, moved, old)

count_none : (p : ℕ → Bool) (n : ℕ) → p 0 ≡ false → count_by p (replicate n 0) ≡ 0
count_none p n e = simp (sum_by-replicate) (ap (λ b. n * one b) e ∙ omega arith)

-- a word tells its placer
is_by-code : (n : ℕ) (t : PlacedTile) → t.place.tile.0 < 4294967295 → is_by n (word_of t) ≡ (t.placer == n)
is_by-code n t small =
    let some_word : word_of t ≢ 0 = λ e. omega (arith, e) in
    let placer : word_of t / 4294967296 ≡ t.placer = omega arith in
    ap (λ b. not b && (word_of t / 4294967296 == n)) (ne_eqb (word_of t) 0 some_word) ∙ ap (λ k. k == n) placer

by_length : (n : ℕ) (tiles : List PlacedTile) (t : PlacedTile) → length (placed_by n tiles) + one (t.placer == n) ≡ length (placed_by n tiles ++ placed_by n (t ∷ []))
by_length n tiles t = elim (cases_Bool (t.placer == n)) [
  | inl same ↦ rw same (sym (length-append (placed_by n tiles) (t ∷ [])))
  | inr differ ↦ rw differ (omega (arith, ap length (append-nil (placed_by n tiles))))
]

-- the words after a tile was placed
pub Spells-push : (area : BoxArea) (words : List ℕ) (tiles : List PlacedTile) (i : ℕ) (t : PlacedTile) → Spells area words tiles → t.place.tile.0 < 4294967295 → i < length words → t.place.site ≡ site_at area i
    → tile_on tiles t.place.site ≡ None → Spells area (set words i (word_of t)) (tiles ++ t ∷ [])
Spells-push area words tiles i t spells small inside here empty = record {
  count = length-set words i (word_of t) ∙ spells.count;
  each = λ k l. let near : k < length words = rw (length-set words i (word_of t)) at l in
      dite (ℕ_discrete k i)
      (λ same. let stands : tile_on (tiles ++ t ∷ []) (site_at area k) ≡ Some t = subst (λ (m : Site). tile_on (tiles ++ t ∷ []) m ≡ Some t) (here ∙ sym (ap (site_at area) same)) (tile_on-push_none tiles t empty) in
      ap (λ n. get_or (set words i (word_of t)) n 0) same ∙ (get_or-set_same words i (word_of t) 0 inside ∙ sym (ap (λ (o : Option PlacedTile). option_map_or word_of o 0) stands)))
      (λ other. let stands : tile_on (tiles ++ t ∷ []) (site_at area k) ≡ tile_on tiles (site_at area k) = tile_on-push_other tiles t (site_at area k) (λ e. other (site_at-injective area k i (sym e ∙ here))) in
      get_or-set_other words i k (word_of t) 0 other ∙ (spells.each k near ∙ sym (ap (λ (o : Option PlacedTile). option_map_or word_of o 0) stands)));
  counted = λ n.
      let bare : get_or words i 0 ≡ 0 = spells.each i inside ∙ (ap (λ m. word_at tiles m) (sym here) ∙ ap (λ (o : Option PlacedTile). option_map_or word_of o 0) empty) in
      let none : is_by n (get_or words i 0) ≡ false = ap (is_by n) bare in
      count_set (is_by n) words i (word_of t) inside none
      ∙ (ap (λ k. k + one (is_by n (word_of t))) (spells.counted n)
      ∙ (ap (λ b. length (placed_by n tiles) + one b) (is_by-code n t small)
      ∙ (by_length n tiles t ∙ sym (ap length (filter-append (λ (x : PlacedTile). x.placer == n) tiles (t ∷ []))))));
}

-- the words of no tiles
pub Spells-none : (area : BoxArea) (n : ℕ) → n ≡ cell_count area → Spells area (replicate n 0) []
Spells-none area n e = record { counted = λ k. count_none (is_by k) n refl; count = length-replicate n 0 ∙ e; each = λ i l. get_or-replicate n i 0 0 (subst (λ k. i < k) (length-replicate n 0) l) }

pub get_or-any : (xs : List ℕ) (i d e : ℕ) → i < length xs → get_or xs i d ≡ get_or xs i e
get_or-any [] i d e l = let never : ⊥ = omega (arith, l) in absurd never
get_or-any (x ∷ xs) zero d e l = refl
get_or-any (x ∷ xs) (suc i) d e l = get_or-any xs i d e (omega (arith, l))

-- a box has a site
pub cells-some : (sys : TileSystem) → IsValid sys → 0 < cell_count sys.area
cells-some sys valid =
    let a = valid.box.corners.columns in let b = valid.box.corners.rows in
    let w : 0 < width_of sys.area = omega (arith, ints, a) in
    let h : 0 < height_of sys.area = omega (arith, ints, b) in
    let m = mul-add-lt 0 (width_of sys.area) 0 (height_of sys.area) h w in omega (arith, m)

-- the number that is given away, as a program computes it
pub gone_is : (owned : ℕ) → 0 < owned → owned < 2 ^ 64 → (1 * 2 ^ greatest owned % 18446744073709551616 ≡ 2 ^ greatest owned) × (2 ^ greatest owned ≤ owned)
gone_is owned live small = let t = top owned live small in let l = t.low in (omega (arith, l, small), l)

-- some number is owned by both
pub either-some : (a b : ℕ) → 0 < a → a < 2 ^ 64 → 0 < bit_or a b
either-some a b live small = some_owned (bit_or a b) (least a) (either-owns a b (least a) (inl (least-owned a live small).1))

-- the words after one seed more
pub Spells-seed : (area : BoxArea) (words : List ℕ) (seeds : List Place) (i j word : ℕ) (e : Place) → HasDistinctSites seeds → i < length seeds →
    Spells area words (map (λ p. tile_of p 65535) (take i seeds)) → (get_or seeds i e).tile.0 < 4294967295 → j < cell_count area → site_at area j ≡ (get_or seeds i e).site →
    word ≡ code (get_or seeds i e).tile 65535 → Spells area (set words j word) (map (λ p. tile_of p 65535) (take (i + 1) seeds))
Spells-seed area words seeds i j word e distinct within spells small near here coded =
    let p = get_or seeds i e in
    let t : PlacedTile = tile_of p 65535 in
    let log : List PlacedTile = map (λ q. tile_of q 65535) (take i seeds) in
    let more : map (λ (q : Place). tile_of q 65535) (take (i + 1) seeds) ≡ log ++ t ∷ [] =
    ap (map (λ (q : Place). tile_of q 65535)) (take_more seeds i e within) ∙ map-append (λ (q : Place). tile_of q 65535) (take i seeds) (p ∷ []) in
    let empty : tile_on log p.site ≡ None = tile_on-none log p.site (next_empty log seeds i 65535 e distinct within refl) in
    subst (λ l. Spells area (set words j word) l) (sym more)
    (subst (λ n. Spells area (set words j n) (log ++ t ∷ [])) (sym coded)
    (Spells-push area words log j t spells small (subst (λ n. j < n) (sym spells.count) near) (sym here) empty))
