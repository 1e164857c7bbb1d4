-- The table of a quadrant's tiles, in its order.
use Rattle.std.proofs.Common.{◌≡◌, ◌<◌, ◌≤◌, ◌+◌, ◌*◌, nat_lt, cond, is_some, ℕ, zero, suc, true, Bool, List, [], ◌∷◌, ◌++◌, length, map, filter, get_or, Option, Some, None, IfSome, option_and_then, Contains, refl, sym, ◌∙◌, ap, subst, inl, inr, arith, length-append}
use Rattle.std.specs.List.{range_with_len}
use Rattle.std.proofs.Math.Nat.{mul-le-mul}
use Rattle.std.proofs.lemmas.List.{length-map}
use Rattle.std.proofs.lemmas.List.FromFn.{length-range_with_len}
use Rattle.std.proofs.lemmas.List.Elements.{Contains-append_left, Contains-append_right, Contains-get_or}
use Rattle.std.proofs.lemmas.Bool.{cases_Bool, cases_lt}
use Rattle.atam.specs.declared.site.Side.{Side}
use Rattle.atam.specs.declared.site.Side.TheVariants.{North, East, South, West}
use Rattle.atam.proofs.Lists.{Contains-here, Contains-there}
use Rattle.design.specs.TileSets.{IsTileSet}
use Rattle.design.proofs.Listings.{IsNumbered, numbered_at, numbered-then, numbered-range, numbered-map, numbered-pairs, numbered-kept, range-has, pairs-has, Contains-map, Contains-filter, Each, each-append, each-has, each-map, each-range, each-pairs, length-pairs_from, length-filter_at_most}
use Rattle.design.proofs.Rows.{is_less, not_less}
use Rattle.machine_text.proofs.Finding.{some_is}
use Rattle.quadrant_compile.specs.declared.rule.Answer.{Answer}
use Rattle.quadrant_compile.specs.declared.tile.Kind.{Kind}
use Rattle.quadrant_compile.specs.declared.tile.Kind.TheVariants.{Corner, Bottom, Left, Cell}
use Rattle.quadrant_compile.specs.declared.tile.Label.{Label}
use Rattle.quadrant_compile.specs.declared.tile.Label.TheVariants.{Eastward, Northward, Column, Row}
use Rattle.quadrant_compile.specs.Quadrants.{RuleQuadrant, IsQuadrant, answer_among, pairs_below, has_rule, ruled_pairs}
use Rattle.quadrant_compile.specs.Tiles.{cell_side, label_on}
use Rattle.quadrant_compile.specs.QuadrantSystems.{tiles_of}
use Rattle.quadrant_compile.specs.Inner.Listed.{kinds, labels}
use Rattle.quadrant_compile.specs.Inner.Listed.{kind_number, label_number}
use Rattle.quadrant_compile.specs.Inner.Members.{IsKind, IsLabel}
use Rattle.quadrant_compile.proofs.Ruling.{answer_bounds, pair_bounds, bottom_known, left_known}

-- what a filter keeps passes
kept_pass : {X : Type 0} (test : X → Bool) (xs : List X) → Each (λ x. test x ≡ true) (filter test xs)
kept_pass test [] = tt
kept_pass test (x ∷ xs) = elim (cases_Bool (test x)) [
  | inl stays ↦ rw stays (stays, kept_pass test xs)
  | inr goes ↦ rw goes (kept_pass test xs)
]

module _ (q : RuleQuadrant) (is_quadrant : IsQuadrant q) where
  -- how many symbols there are
  abbrev n : ℕ
  n = length q.symbols

  range_length : {X : Type 0} (f : ℕ → X) (a n : ℕ) → length (map f (range_with_len a n)) ≡ n
  range_length f a n = length-map (range_with_len a n) f ∙ length-range_with_len a n

  abbrev pair_number : ℕ × ℕ → ℕ
  pair_number pair = pair.0 * length q.symbols + pair.1

  pairs_placed : IsNumbered pair_number 0 (pairs_below n)
  pairs_placed =
      let start : 0 + 0 * n ≡ 0 = omega arith in
      subst (λ m. IsNumbered pair_number m (pairs_below n)) start (numbered-pairs pair_number 0 n 0 n (λ p a less. omega arith))

  -- the parts of the list of kinds
  abbrev bottoms : List Kind
  bottoms = map Bottom (range_with_len 1 q.width)

  abbrev lefts : List Kind
  lefts = map Left (range_with_len 1 q.height)

  abbrev cells : List Kind
  cells = map (λ p. Cell p.0 p.1) (ruled_pairs q)

  kinds_numbered : IsNumbered (kind_number q) 0 (kinds q)
  kinds_numbered = (
    refl,
    numbered-then (kind_number q) 1 (suc q.width) bottoms (lefts ++ cells) (numbered-range (kind_number q) Bottom 1 1 q.width (λ i less. refl)) (let h = range_length Bottom 1 q.width in omega (arith, h))
        (numbered-then (kind_number q) (suc q.width) (suc q.width + q.height) lefts cells (numbered-range (kind_number q) Left (suc q.width) 1 q.height (λ i less. omega arith)) (ap (λ m. suc q.width + m) (range_length Left 1 q.height))
        (numbered-map (kind_number q) (λ p. Cell p.0 p.1) (suc q.width + q.height) (ruled_pairs q)
        (numbered-kept pair_number (λ p. kind_number q (Cell p.0 p.1)) (has_rule q) (suc q.width + q.height) (pairs_below n) pairs_placed (λ x. refl)))),
  )

  -- the parts of the list of labels
  abbrev easts : List Label
  easts = map Eastward (range_with_len 0 n)

  abbrev norths : List Label
  norths = map Northward (range_with_len 0 n)

  abbrev columns : List Label
  columns = map Column (range_with_len 1 q.width)

  abbrev rows : List Label
  rows = map Row (range_with_len 1 q.height)

  labels_numbered : IsNumbered (label_number q) 0 (labels q)
  labels_numbered =
      numbered-then (label_number q) 0 n easts (norths ++ (columns ++ rows)) (numbered-range (label_number q) Eastward 0 0 n (λ i less. refl)) (let h = range_length Eastward 0 n in omega (arith, h))
      (numbered-then (label_number q) n (n + n) norths (columns ++ rows) (numbered-range (label_number q) Northward n 0 n (λ i less. omega arith)) (ap (λ m. n + m) (range_length Northward 0 n))
      (numbered-then (label_number q) (n + n) (n + n + q.width) columns rows (numbered-range (label_number q) Column (n + n) 1 q.width (λ i less. omega arith)) (ap (λ m. n + n + m) (range_length Column 1 q.width))
      (numbered-range (label_number q) Row (n + n + q.width) 1 q.height (λ i less. omega arith))))

  in_range : {X : Type 0} (f : ℕ → X) (n i : ℕ) → i < n → Contains (map f (range_with_len 0 n)) (f i)
  in_range f n i less = let same : 0 + i ≡ i = omega arith in subst (λ m. Contains (map f (range_with_len 0 n)) (f m)) same (range-has f 0 n i less)

  from_one : {X : Type 0} (f : ℕ → X) (n i : ℕ) → 1 ≤ i → i ≤ n → Contains (map f (range_with_len 1 n)) (f i)
  from_one f n zero some within = let never : ⊥ = omega (arith, some) in absurd never
  from_one f n (suc i) some within = let same : 1 + i ≡ suc i = omega arith in subst (λ m. Contains (map f (range_with_len 1 n)) (f m)) same (range-has f 1 n i (omega (arith, within)))

  rule_listed : (a b : ℕ) → is_some (answer_among q.rules a b) ≡ true → Contains (ruled_pairs q) (a, b)
  rule_listed a b rule =
      let bounds = pair_bounds q is_quadrant a b rule in
      let same : 0 + a ≡ a = omega arith in
      Contains-filter (has_rule q) (pairs_below n) (a, b) (subst (λ m. Contains (pairs_below n) (m, b)) same (pairs-has n 0 n a b bounds.0 bounds.1)) rule

  -- the pairs of a list of pairs are of symbols
  pub pair_below : (all : List (ℕ × ℕ)) (i : ℕ) → all ≡ pairs_below n → i < length all → ((get_or all i (0, 0)).0 < length q.symbols) × ((get_or all i (0, 0)).1 < length q.symbols)
  pair_below all i same less =
      each-has (λ x. (x.0 < n) × (x.1 < n)) (pairs_below n) (get_or all i (0, 0))
      (each-pairs (λ x. (x.0 < n) × (x.1 < n)) n 0 n (λ p b p_less b_less. (omega (arith, p_less), b_less)))
      (subst (λ xs. Contains xs (get_or all i (0, 0))) same (Contains-get_or all i (0, 0) less))

  pub kind_listed : (k : Kind) → IsKind q k → Contains (kinds q) k
  kind_listed Corner is_kind = Contains-here Corner (bottoms ++ (lefts ++ cells))
  kind_listed (Bottom i) within = Contains-there Corner (Bottom i) (bottoms ++ (lefts ++ cells)) (Contains-append_left bottoms (lefts ++ cells) (Bottom i) (from_one Bottom q.width i within.0 within.1))
  kind_listed (Left j) within =
      Contains-there Corner (Left j) (bottoms ++ (lefts ++ cells)) (Contains-append_right bottoms (lefts ++ cells) (Left j) (Contains-append_left lefts cells (Left j) (from_one Left q.height j within.0 within.1)))
  kind_listed (Cell a b) rule =
      Contains-there Corner (Cell a b) (bottoms ++ (lefts ++ cells))
      (Contains-append_right bottoms (lefts ++ cells) (Cell a b) (Contains-append_right lefts cells (Cell a b) (Contains-map (λ p. Cell p.0 p.1) (ruled_pairs q) (a, b) (rule_listed a b rule))))

  -- each listed kind is one of the quadrant
  all_are_kinds : Each (IsKind q) (kinds q)
  all_are_kinds = (
    tt,
    each-append (IsKind q) bottoms (lefts ++ cells) (each-map (IsKind q) Bottom (range_with_len 1 q.width) (each-range (λ i. (1 ≤ i) × (i ≤ q.width)) 1 q.width (λ i above below. (above, omega (arith, below)))))
        (each-append (IsKind q) lefts cells (each-map (IsKind q) Left (range_with_len 1 q.height) (each-range (λ j. (1 ≤ j) × (j ≤ q.height)) 1 q.height (λ j above below. (above, omega (arith, below)))))
        (each-map (IsKind q) (λ p. Cell p.0 p.1) (ruled_pairs q) (kept_pass (has_rule q) (pairs_below n)))),
  )

  pub listed_kind : (k : Kind) → Contains (kinds q) k → IsKind q k
  listed_kind k contains = each-has (IsKind q) (kinds q) k all_are_kinds contains

  label_listed : (g : Label) → IsLabel q g → Contains (labels q) g
  label_listed (Eastward a) below = Contains-append_left easts (norths ++ (columns ++ rows)) (Eastward a) (in_range Eastward n a below)
  label_listed (Northward a) below = Contains-append_right easts (norths ++ (columns ++ rows)) (Northward a) (Contains-append_left norths (columns ++ rows) (Northward a) (in_range Northward n a below))
  label_listed (Column i) within = Contains-append_right easts (norths ++ (columns ++ rows)) (Column i) (Contains-append_right norths (columns ++ rows) (Column i) (Contains-append_left columns rows (Column i) (from_one Column q.width i within.0 within.1)))
  label_listed (Row j) within = Contains-append_right easts (norths ++ (columns ++ rows)) (Row j) (Contains-append_right norths (columns ++ rows) (Row j) (Contains-append_right columns rows (Row j) (from_one Row q.height j within.0 within.1)))

  -- each listed label is one of the quadrant
  all_are_labels : Each (IsLabel q) (labels q)
  all_are_labels =
      let Is = IsLabel q in
      each-append Is easts (norths ++ (columns ++ rows)) (each-map Is Eastward (range_with_len 0 n) (each-range (λ i. i < n) 0 n (λ i above below. omega (arith, below))))
      (each-append Is norths (columns ++ rows) (each-map Is Northward (range_with_len 0 n) (each-range (λ i. i < n) 0 n (λ i above below. omega (arith, below))))
      (each-append Is columns rows (each-map Is Column (range_with_len 1 q.width) (each-range (λ i. (1 ≤ i) × (i ≤ q.width)) 1 q.width (λ i above below. (above, omega (arith, below)))))
      (each-map Is Row (range_with_len 1 q.height) (each-range (λ j. (1 ≤ j) × (j ≤ q.height)) 1 q.height (λ j above below. (above, omega (arith, below)))))))

  pub listed_label : (g : Label) → Contains (labels q) g → IsLabel q g
  listed_label g contains = each-has (IsLabel q) (labels q) g all_are_labels contains

  -- each label on a side of a kind is one of the quadrant
  next_label : (i m : ℕ) (f : ℕ → Label) → ((k : ℕ) → (1 ≤ k) × (k ≤ m) → IsLabel q (f k)) → IfSome (cond (nat_lt i m) (Some (f (suc i))) None) (IsLabel q)
  next_label i m f fine = elim (cases_lt i m) [
    | inl less ↦ rw (is_less i m less) (fine (suc i) (omega arith, less))
    | inr past ↦ rw (not_less i m past) tt
  ]

  cell_label : (a b : ℕ) (x : Answer) (d : Side) → answer_among q.rules a b ≡ Some x → IfSome (cell_side a b x d) (IsLabel q)
  cell_label a b x North rule = (answer_bounds q is_quadrant a b x rule).north
  cell_label a b x East rule = (answer_bounds q is_quadrant a b x rule).east
  cell_label a b x South rule = (answer_bounds q is_quadrant a b x rule).south
  cell_label a b x West rule = (answer_bounds q is_quadrant a b x rule).west

  side_label : (k : Kind) (d : Side) → IsKind q k → IfSome (label_on q k d) (IsLabel q)
  side_label Corner North is_kind = (omega arith, is_quadrant.rows.0)
  side_label Corner East is_kind = (omega arith, is_quadrant.columns.0)
  side_label Corner South is_kind = tt
  side_label Corner West is_kind = tt
  side_label (Bottom i) North within = bottom_known q is_quadrant i
  side_label (Bottom i) East within = next_label i q.width (λ m. Column m) (λ m h. h)
  side_label (Bottom i) South within = tt
  side_label (Bottom i) West within = within
  side_label (Left j) North within = next_label j q.height (λ m. Row m) (λ m h. h)
  side_label (Left j) East within = left_known q is_quadrant j
  side_label (Left j) South within = within
  side_label (Left j) West within = tt
  side_label (Cell a b) d rule =
      let x = some_is (answer_among q.rules a b) rule in
      let IsOf : Option Answer → Type 0 = λ o. IfSome (option_and_then (λ y. cell_side a b y d) o) (IsLabel q) in
      subst IsOf (sym (x.1)) (cell_label a b x.0 d x.1)

  -- how many there are
  rule_count : length (ruled_pairs q) ≤ 4096
  rule_count =
      let symbols = is_quadrant.symbols.count.1 in
      let kept = length-filter_at_most (has_rule q) (pairs_below n) in
      let all : length (pairs_below n) ≤ 4096 = rw (length-pairs_from n 0 n) (mul-le-mul symbols symbols) in
      omega (arith, kept, all)

  pub label_count : length (labels q) ≤ 2174
  label_count =
      let a = length-append easts (norths ++ (columns ++ rows)) in
      let b = length-append norths (columns ++ rows) in
      let d = length-append columns rows in
      let e = range_length Eastward 0 n in
      let f = range_length Northward 0 n in
      let g = range_length Column 1 q.width in
      let h = range_length Row 1 q.height in
      let symbols = is_quadrant.symbols.count.1 in
      let width = is_quadrant.columns.1 in
      let height = is_quadrant.rows.1 in
      omega (arith, a, b, d, e, f, g, h, symbols, width, height)

  pub kind_count : length (kinds q) ≤ 6143
  kind_count =
      let a = length-append bottoms (lefts ++ cells) in
      let b = length-append lefts cells in
      let d = range_length Bottom 1 q.width in
      let e = range_length Left 1 q.height in
      let f = length-map (ruled_pairs q) (λ p. Cell p.0 p.1) in
      let r = rule_count in
      let width = is_quadrant.columns.1 in
      let height = is_quadrant.rows.1 in
      omega (arith, a, b, d, e, f, r, width, height)

  pub is_tile_set : IsTileSet (tiles_of q)
  is_tile_set = record {
    kinds = λ i k there. let at = numbered_at (kind_number q) 0 (kinds q) i k kinds_numbered there in omega (arith, at);
    labels = λ i g there. let at = numbered_at (label_number q) 0 (labels q) i g labels_numbered there in omega (arith, at);
    sides = λ k d g listed has.
        let IsOf : Option Label → Type 0 = λ o. IfSome o (IsLabel q) in
        label_listed g (subst IsOf has (side_label k d (listed_kind k listed)));
  }
