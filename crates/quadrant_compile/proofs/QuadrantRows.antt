-- The rows of a quadrant grow as the rules go.
use Rattle.std.proofs.Common.{◌≡◌, ◌<◌, ◌≤◌, ◌+◌, nat_lt, cond, is_some, ℕ, zero, suc, Bool, true, false, Option, Some, None, option_and_then, option_map, Contains, refl, sym, ◌∙◌, ap, subst, inl, inr, arith, zero-le}
use Rattle.std.proofs.Math.Nat.{le_refl}
use Rattle.std.proofs.lemmas.Option.{same_Some, none-some}
use Rattle.std.proofs.lemmas.Bool.{cases_lt}
use Rattle.atam.specs.declared.site.Side.{Side}
use Rattle.atam.specs.declared.site.Side.TheVariants.{North, East, South, West}
use Rattle.atam.proofs.Lists.{some_or_none}
use Rattle.design.specs.TileSets.{TileSet}
use Rattle.design.specs.RowDesigns.{RowDesign, IsFree, IsHeldByOneOrFree, IsHeldByTwoOrFree, GrowsRowByRow, label_shown, label_offered, label_strength}
use Rattle.design.proofs.Rows.{is_less, not_less}
use Rattle.quadrant_compile.specs.declared.rule.Answer.{Answer}
use Rattle.quadrant_compile.specs.declared.tile.Kind.{Kind}
use Rattle.quadrant_compile.specs.declared.tile.Kind.TheVariants.{Corner, Bottom, Left, Cell}
use Rattle.quadrant_compile.specs.declared.tile.Label.{Label}
use Rattle.quadrant_compile.specs.declared.tile.Label.TheVariants.{Eastward, Northward, Column, Row}
use Rattle.quadrant_compile.specs.Quadrants.{RuleQuadrant, answer_among}
use Rattle.quadrant_compile.specs.Recurrence.{answer, east, north}
use Rattle.quadrant_compile.specs.Tiles.{cell_side, label_on}
use Rattle.quadrant_compile.specs.Recurrence.{cell_for, kind_at}
use Rattle.quadrant_compile.specs.QuadrantSystems.{tiles_of}
use Rattle.quadrant_compile.specs.Inner.Listed.{kinds, strength}
use Rattle.quadrant_compile.specs.Inner.Members.{IsKind}

module _ (q : RuleQuadrant) where
  cell_label : (a b : ℕ) (d : Side) (g : Label) → label_on q (Cell a b) d ≡ Some g → (x : Answer) × (answer_among q.rules a b ≡ Some x) × (cell_side a b x d ≡ Some g)
  cell_label a b d g has = elim (some_or_none (answer_among q.rules a b)) [
    | inl none ↦ absurd (none-some g (sym (ap (option_and_then (λ x. cell_side a b x d)) none) ∙ has))
    | inr x ↦ (x.0, x.1, sym (ap (option_and_then (λ y. cell_side a b y d)) (x.1)) ∙ has)
  ]

  is_Bottom : (k : Kind) (i : ℕ) → label_on q k West ≡ Some (Column i) → k ≡ Bottom i
  is_Bottom Corner i west = cc
  is_Bottom (Bottom j) i west = cc
  is_Bottom (Left j) i west = cc
  is_Bottom (Cell a b) i west = let h = (cell_label a b West (Column i) west).2 in cc

  is_Left : (k : Kind) (j : ℕ) → label_on q k South ≡ Some (Row j) → k ≡ Left j
  is_Left Corner j south = cc
  is_Left (Bottom i) j south = cc
  is_Left (Left i) j south = cc
  is_Left (Cell a b) j south = let h = (cell_label a b South (Row j) south).2 in cc

  is_Cell : (k : Kind) (a b : ℕ) → label_on q k South ≡ Some (Northward b) → label_on q k West ≡ Some (Eastward a) → (k ≡ Cell a b) × ((x : Answer) × (answer_among q.rules a b ≡ Some x))
  is_Cell Corner a b south west = cc
  is_Cell (Bottom i) a b south west = cc
  is_Cell (Left j) a b south west = cc
  is_Cell (Cell c d) a b south west =
      let s = cell_label c d South (Northward b) south in
      let t = cell_label c d West (Eastward a) west in
      let low : Some (Northward d) ≡ Some (Northward b) = s.2 in
      let side_by : Some (Eastward c) ≡ Some (Eastward a) = t.2 in
      let same_b : d ≡ b = cc in
      let same_a : c ≡ a = cc in
      (λ z. Cell (same_a z) (same_b z), (s.0, there s.0 s.1 same_a same_b))
    where
      there : (x : Answer) → answer_among q.rules c d ≡ Some x → c ≡ a → d ≡ b → answer_among q.rules a b ≡ Some x
      there x rule same_a same_b = sym (λ z. answer_among q.rules (same_a z) (same_b z)) ∙ rule

module _ (q : RuleQuadrant) (listed : (k : Kind) → IsKind q k → Contains (kinds q) k) (some_column : 1 ≤ q.width) (some_row : 1 ≤ q.height) where
  abbrev tiles : TileSet Kind Label
  tiles = tiles_of q

  -- what belongs in row j, by columns
  abbrev row : ℕ → ℕ → Option Kind
  row j i = kind_at q i j

  abbrev pub quadrant_rows : RowDesign Kind
  quadrant_rows = record { row = row; start = λ j. 0; width = suc q.width }

  abbrev offers : ℕ → ℕ → Side → Option Label
  offers j i = label_offered tiles (row j) (row (suc j)) 0 i

  none_west : (j i : ℕ) → offers j i East ≡ None
  none_west j i = ap (λ t. cond t (label_shown tiles (row (suc j)) (suc i) West) None) (not_less i 0 zero-le)

  from_west : (j i : ℕ) → offers j (suc i) West ≡ label_shown tiles (row (suc j)) i East
  from_west j i = ap (λ t. cond t (label_shown tiles (row (suc j)) i East) None) (is_less 0 (suc i) (omega arith))

  -- the cells by their places
  bottom_there : (i : ℕ) → i < q.width → row 0 (suc i) ≡ Some (Bottom (suc i))
  bottom_there i less = rw (is_less i q.width less) refl

  bottom_past : (i : ℕ) → q.width ≤ i → row 0 (suc i) ≡ None
  bottom_past i past = rw (not_less i q.width past) refl

  flank_there : (j : ℕ) → j < q.height → row (suc j) 0 ≡ Some (Left (suc j))
  flank_there j less = rw (is_less j q.height less) refl

  row_past : (j i : ℕ) → q.height ≤ j → row (suc j) i ≡ None
  row_past j zero past = rw (not_less j q.height past) refl
  row_past j (suc i) past = ap (λ t. cond t (cond (nat_lt i q.width) (cell_for q (east q i (suc j)) (north q (suc i) j)) None) None) (not_less j q.height past)

  pub cell_there : (j i : ℕ) → j < q.height → i < q.width → row (suc j) (suc i) ≡ cell_for q (east q i (suc j)) (north q (suc i) j)
  cell_there j i high wide =
      ap (λ t. cond t (cond (nat_lt i q.width) (cell_for q (east q i (suc j)) (north q (suc i) j)) None) None) (is_less j q.height high)
      ∙ ap (λ t. cond t (cell_for q (east q i (suc j)) (north q (suc i) j)) None) (is_less i q.width wide)

  no_kind : (b : Bool) → cond {A = Option Kind} b None None ≡ None
  no_kind true = refl
  no_kind false = refl

  column_past : (j i : ℕ) → q.width ≤ i → row (suc j) (suc i) ≡ None
  column_past j i past =
      ap (λ t. cond (nat_lt j q.height) (cond t (cell_for q (east q i (suc j)) (north q (suc i) j)) None) None) (not_less i q.width past) ∙ no_kind (nat_lt j q.height)

  -- what a cell for two symbols shows
  cell_for-shows : (a b : Option ℕ) → (option_and_then (λ k. label_on q k North) (cell_for q a b) ≡ option_map (λ n. Northward n) (option_map (λ x. x.north) (answer q a b)))
      × (option_and_then (λ k. label_on q k East) (cell_for q a b) ≡ option_map (λ n. Eastward n) (option_map (λ x. x.east) (answer q a b)))
  cell_for-shows None b = (refl, refl)
  cell_for-shows (Some a) None = (refl, refl)
  cell_for-shows (Some a) (Some b) = elim (some_or_none (answer_among q.rules a b)) [
    | inl none ↦ (
      ap (λ o. option_and_then (λ k. label_on q k North) (option_map (λ z. Cell a b) o)) none ∙ sym (ap (λ o. option_map (λ n. Northward n) (option_map (λ (y : Answer). y.north) o)) none),
      ap (λ o. option_and_then (λ k. label_on q k East) (option_map (λ z. Cell a b) o)) none ∙ sym (ap (λ o. option_map (λ n. Eastward n) (option_map (λ (y : Answer). y.east) o)) none),
    )
    | inr x ↦
        let is_cell : cell_for q (Some a) (Some b) ≡ Some (Cell a b) = ap (option_map (λ z. Cell a b)) (x.1) in (
          ap (option_and_then (λ k. label_on q k North)) is_cell
              ∙ ap (option_and_then (λ y. cell_side a b y North)) (x.1)
              ∙ sym (ap (λ o. option_map (λ n. Northward n) (option_map (λ y. y.north) o)) (x.1)),
          ap (option_and_then (λ k. label_on q k East)) is_cell
              ∙ ap (option_and_then (λ y. cell_side a b y East)) (x.1)
              ∙ sym (ap (λ o. option_map (λ n. Eastward n) (option_map (λ y. y.east) o)) (x.1)),
        )
  ]

  -- each row shows its symbols
  up : (j i : ℕ) → j ≤ q.height → i < q.width → label_shown tiles (row j) (suc i) North ≡ option_map (λ n. Northward n) (north q (suc i) j)
  up zero i high wide = ap (option_and_then (λ k. label_on q k North)) (bottom_there i wide)
  up (suc j) i high wide = ap (option_and_then (λ k. label_on q k North)) (cell_there j i high wide) ∙ (cell_for-shows (east q i (suc j)) (north q (suc i) j)).0

  along : (j i : ℕ) → j < q.height → i ≤ q.width → label_shown tiles (row (suc j)) i East ≡ option_map (λ n. Eastward n) (east q i (suc j))
  along j zero high wide = ap (option_and_then (λ k. label_on q k East)) (flank_there j high)
  along j (suc i) high wide = ap (option_and_then (λ k. label_on q k East)) (cell_there j i high wide) ∙ (cell_for-shows (east q i (suc j)) (north q (suc i) j)).1

  weak_symbol : (o : Option ℕ) (f : ℕ → Label) → ((n : ℕ) → strength q (f n) ≡ 1) → label_strength tiles (option_map f o) ≤ 1
  weak_symbol None f weak = zero-le
  weak_symbol (Some n) f weak = rw (weak n) (le_refl 1)

  none_shows : (j i : ℕ) (d : Side) → row j i ≡ None → label_shown tiles (row j) i d ≡ None
  none_shows j i d none = ap (option_and_then (λ k. label_on q k d)) none

  free : (j i : ℕ) → row (suc j) (suc i) ≡ None → label_strength tiles (offers j (suc i) South) + label_strength tiles (offers j (suc i) West) ≤ 1 → IsFree tiles (row (suc j) (suc i)) (offers j (suc i))
  free j i none weak = record { none = none; weak = rw (none_west j (suc i)) (omega (arith, weak)) }

  -- a cell over two symbols
  crossing : (j i : ℕ) → j < q.height → i < q.width → IsHeldByTwoOrFree tiles (row (suc j) (suc i)) (offers j (suc i)) West
  crossing j i high wide = by (east q i (suc j)) (north q (suc i) j) refl refl
    where
      ruled : (a b : ℕ) (k : Kind) → option_map (λ z. Cell a b) (answer_among q.rules a b) ≡ Some k → (x : Answer) × (answer_among q.rules a b ≡ Some x) × (k ≡ Cell a b)
      ruled a b k wanted = elim (some_or_none (answer_among q.rules a b)) [
        | inl none ↦ absurd (none-some k (sym (ap (option_map (λ z. Cell a b)) none) ∙ wanted))
        | inr x ↦ (x.0, x.1, same_Some k (Cell a b) (sym wanted ∙ ap (option_map (λ z. Cell a b)) (x.1)))
      ]

      by : (a b : Option ℕ) → east q i (suc j) ≡ a → north q (suc i) j ≡ b → IsHeldByTwoOrFree tiles (row (suc j) (suc i)) (offers j (suc i)) West
      by None b is_a is_b =
          let there = cell_there j i high wide ∙ ap (λ o. cell_for q o (north q (suc i) j)) is_a in
          let west : offers j (suc i) West ≡ None = from_west j i ∙ along j i high (omega (arith, wide)) ∙ ap (option_map (λ n. Eastward n)) is_a in
          let low = weak_symbol (north q (suc i) j) (λ n. Northward n) (λ n. refl) in
          inr (free j i there (rw (up j i (omega (arith, high)) wide, west) (omega (arith, low))))
      by (Some a) None is_a is_b =
          let there = cell_there j i high wide ∙ ap (λ o. cell_for q o (north q (suc i) j)) is_a ∙ ap (cell_for q (Some a)) is_b in
          let south : offers j (suc i) South ≡ None = up j i (omega (arith, high)) wide ∙ ap (option_map (λ n. Northward n)) is_b in
          let west : offers j (suc i) West ≡ Some (Eastward a) = from_west j i ∙ along j i high (omega (arith, wide)) ∙ ap (option_map (λ n. Eastward n)) is_a in
          inr (free j i there (rw (south, west) (le_refl 1)))
      by (Some a) (Some b) is_a is_b =
          let there : row (suc j) (suc i) ≡ cell_for q (Some a) (Some b) = cell_there j i high wide ∙ ap (λ o. cell_for q o (north q (suc i) j)) is_a ∙ ap (cell_for q (Some a)) is_b in
          let fits : (k : Kind) → row (suc j) (suc i) ≡ Some k → (x : Answer) × (answer_among q.rules a b ≡ Some x) × (k ≡ Cell a b) = λ k wanted. ruled a b k (sym there ∙ wanted) in
          inl (record {
            lower = Northward b;
            side = Eastward a;
            offered_below = up j i (omega (arith, high)) wide ∙ ap (option_map (λ n. Northward n)) is_b;
            offered_beside = from_west j i ∙ along j i high (omega (arith, wide)) ∙ ap (option_map (λ n. Eastward n)) is_a;
            lower_strength = refl;
            side_strength = refl;
            fits_below = λ k wanted. let f = fits k wanted in ap (λ l. label_on q l South) f.2 ∙ ap (option_and_then (λ x. cell_side a b x South)) f.1;
            fits_beside = λ k wanted. let f = fits k wanted in ap (λ l. label_on q l West) f.2 ∙ ap (option_and_then (λ x. cell_side a b x West)) f.1;
            only = λ k listed south west.
                let c = is_Cell q k a b south west in
                there ∙ ap (option_map (λ z. Cell a b)) c.1.1 ∙ ap (λ l. Some l) (sym c.0);
          })

  weak_none : (o : Option Label) → o ≡ None → label_strength tiles o ≤ 1
  weak_none o none = rw none zero-le

  weak_up : (j i : ℕ) → label_strength tiles (label_shown tiles (row j) (suc i) North) ≤ 1
  weak_up zero i = elim (cases_lt i q.width) [
    | inl wide ↦ rw (up zero i zero-le wide) (weak_symbol (north q (suc i) zero) (λ n. Northward n) (λ n. refl))
    | inr past ↦ weak_none (label_shown tiles (row zero) (suc i) North) (none_shows zero (suc i) North (bottom_past i past))
  ]
  weak_up (suc j) i = elim (cases_lt j q.height) [
    | inr gone ↦ weak_none (label_shown tiles (row (suc j)) (suc i) North) (none_shows (suc j) (suc i) North (row_past j (suc i) gone))
    | inl high ↦ elim (cases_lt i q.width) [
      | inl wide ↦ rw (up (suc j) i high wide) (weak_symbol (north q (suc i) (suc j)) (λ n. Northward n) (λ n. refl))
      | inr past ↦ weak_none (label_shown tiles (row (suc j)) (suc i) North) (none_shows (suc j) (suc i) North (column_past j i past))
    ]
  ]

  none_up : (j i : ℕ) → q.width ≤ i → label_shown tiles (row j) (suc i) North ≡ None
  none_up zero i past = none_shows zero (suc i) North (bottom_past i past)
  none_up (suc j) i past = none_shows (suc j) (suc i) North (column_past j i past)

  weak_along : (j i : ℕ) → label_strength tiles (label_shown tiles (row (suc j)) i East) ≤ 1
  weak_along j i = elim (cases_lt j q.height) [
    | inr gone ↦ weak_none (label_shown tiles (row (suc j)) i East) (none_shows (suc j) i East (row_past j i gone))
    | inl high ↦ elim (cases_lt q.width i) [
      | inr wide ↦ rw (along j i high wide) (weak_symbol (east q i (suc j)) (λ n. Eastward n) (λ n. refl))
      | inl past ↦ weak_none (label_shown tiles (row (suc j)) i East) (far i past)
    ]
  ]
    where
      far : (i : ℕ) → q.width < i → label_shown tiles (row (suc j)) i East ≡ None
      far zero past = let never : ⊥ = omega (arith, past) in absurd never
      far (suc i) past = none_shows (suc j) (suc i) East (column_past j i (omega (arith, past)))

  east_of : (i j : ℕ) → 0 < i → IsHeldByTwoOrFree tiles (row (suc j) i) (offers j i) West
  east_of zero j more = let never : ⊥ = omega (arith, more) in absurd never
  east_of (suc i) j more = elim (cases_lt j q.height) [
    | inr gone ↦
        let south = weak_up j i in
        let west : offers j (suc i) West ≡ None = from_west j i ∙ none_shows (suc j) i East (row_past j i gone) in
        inr (free j i (row_past j (suc i) gone) (rw west (omega (arith, south))))
    | inl high ↦ elim (cases_lt i q.width) [
      | inl wide ↦ crossing j i high wide
      | inr past ↦
          let beside = weak_along j i in
          let west = from_west j i in
          inr (free j i (column_past j i past) (rw (none_up j i past, west) (omega (arith, beside))))
    ]
  ]

  -- the first column
  flank_up : (j : ℕ) → j < q.height → label_shown tiles (row j) 0 North ≡ Some (Row (suc j))
  flank_up zero high = refl
  flank_up (suc j) high = ap (option_and_then (λ k. label_on q k North)) (flank_there j (omega (arith, high))) ∙ ap (λ t. cond t (Some (Row (suc (suc j)))) None) (is_less (suc j) q.height high)

  flank_none : (j : ℕ) → q.height ≤ j → label_shown tiles (row j) 0 North ≡ None
  flank_none zero past = let never : ⊥ = omega (arith, past, some_row) in absurd never
  flank_none (suc j) past = elim (cases_lt j q.height) [
    | inl high ↦ ap (option_and_then (λ k. label_on q k North)) (flank_there j high) ∙ ap (λ t. cond t (Some (Row (suc (suc j)))) None) (not_less (suc j) q.height past)
    | inr gone ↦ none_shows (suc j) 0 North (row_past j 0 gone)
  ]

  at_start : (j : ℕ) → IsHeldByOneOrFree tiles (row (suc j) 0) (offers j 0) South
  at_start j = elim (cases_lt j q.height) [
    | inl high ↦ inl (record {
      label = Row (suc j);
      offered = flank_up j high;
      strong = refl;
      fits = λ k wanted. ap (λ l. label_on q l South) (same_Some k (Left (suc j)) (sym wanted ∙ flank_there j high));
      only = λ k listed south. flank_there j high ∙ ap (λ l. Some l) (sym (is_Left q k (suc j) south));
    })
    | inr gone ↦ inr (record { none = row_past j 0 gone; weak = rw (flank_none j gone) zero-le })
  ]

  first_shows : (i : ℕ) → i < q.width → label_shown tiles (row 0) i East ≡ Some (Column (suc i))
  first_shows zero wide = refl
  first_shows (suc i) wide = ap (option_and_then (λ k. label_on q k East)) (bottom_there i (omega (arith, wide))) ∙ ap (λ t. cond t (Some (Column (suc (suc i)))) None) (is_less (suc i) q.width wide)

  first_ends : (i : ℕ) → q.width ≤ i → label_shown tiles (row 0) i East ≡ None
  first_ends zero past = let never : ⊥ = omega (arith, past, some_column) in absurd never
  first_ends (suc i) past = elim (cases_lt i q.width) [
    | inl wide ↦ ap (option_and_then (λ k. label_on q k East)) (bottom_there i wide) ∙ ap (λ t. cond t (Some (Column (suc (suc i)))) None) (not_less (suc i) q.width past)
    | inr gone ↦ none_shows 0 (suc i) East (bottom_past i gone)
  ]

  first_row : (i : ℕ) → IsHeldByOneOrFree tiles (row 0 (suc i)) (label_offered tiles (λ n. None) (row 0) 0 (suc i)) West
  first_row i =
      let west : label_offered tiles (λ n. None) (row 0) 0 (suc i) West ≡ label_shown tiles (row 0) i East = ap (λ t. cond t (label_shown tiles (row 0) i East) None) (is_less 0 (suc i) (omega arith)) in
      elim (cases_lt i q.width) [
        | inl wide ↦ inl (record {
          label = Column (suc i);
          offered = west ∙ first_shows i wide;
          strong = refl;
          fits = λ k wanted. ap (λ l. label_on q l West) (same_Some k (Bottom (suc i)) (sym wanted ∙ bottom_there i wide));
          only = λ k listed has. bottom_there i wide ∙ ap (λ l. Some l) (sym (is_Bottom q k (suc i) has));
        })
        | inr past ↦
            let none = west ∙ first_ends i past in
            let east : label_offered tiles (λ n. None) (row 0) 0 (suc i) East ≡ None = ap (λ t. cond t (label_shown tiles (row 0) (suc (suc i)) West) None) (not_less (suc i) 0 zero-le) in
            inr (record { none = bottom_past i past; weak = rw (east, none) zero-le })
      ]

  -- what is wanted is a kind, in a column and a row
  pub record IsIn (i j : ℕ) (k : Kind) : Type 0 where
    pub column : i ≤ q.width
    pub line : j ≤ q.height
    pub kind : IsKind q k

  cell_kind : (a b : Option ℕ) (k : Kind) → cell_for q a b ≡ Some k → IsKind q k
  cell_kind None b k wanted = absurd (none-some k wanted)
  cell_kind (Some a) None k wanted = absurd (none-some k wanted)
  cell_kind (Some a) (Some b) k wanted = elim (some_or_none (answer_among q.rules a b)) [
    | inl none ↦ absurd (none-some k (sym (ap (option_map (λ z. Cell a b)) none) ∙ wanted))
    | inr x ↦ subst (IsKind q) (same_Some (Cell a b) k (sym (ap (option_map (λ z. Cell a b)) (x.1)) ∙ wanted)) (ap is_some (x.1))
  ]

  pub is_in : (i j : ℕ) (k : Kind) → row j i ≡ Some k → IsIn i j k
  is_in zero zero k wanted = record { column = zero-le; line = zero-le; kind = subst (IsKind q) (same_Some Corner k wanted) tt }
  is_in (suc i) zero k wanted = elim (cases_lt i q.width) [
    | inl wide ↦ record { column = wide; line = zero-le; kind = subst (IsKind q) (same_Some (Bottom (suc i)) k (sym (bottom_there i wide) ∙ wanted)) (omega arith, wide) }
    | inr past ↦ absurd (none-some k (sym (bottom_past i past) ∙ wanted))
  ]
  is_in zero (suc j) k wanted = elim (cases_lt j q.height) [
    | inl high ↦ record { column = zero-le; line = high; kind = subst (IsKind q) (same_Some (Left (suc j)) k (sym (flank_there j high) ∙ wanted)) (omega arith, high) }
    | inr gone ↦ absurd (none-some k (sym (row_past j 0 gone) ∙ wanted))
  ]
  is_in (suc i) (suc j) k wanted = elim (cases_lt j q.height) [
    | inr gone ↦ absurd (none-some k (sym (row_past j (suc i) gone) ∙ wanted))
    | inl high ↦ elim (cases_lt i q.width) [
      | inr past ↦ absurd (none-some k (sym (column_past j i past) ∙ wanted))
      | inl wide ↦ record { column = wide; line = high; kind = cell_kind (east q i (suc j)) (north q (suc i) j) k (sym (cell_there j i high wide) ∙ wanted) }
    ]
  ]

  west_border : (j : ℕ) → label_strength tiles (label_shown tiles (row j) 0 West) ≤ 1
  west_border zero = zero-le
  west_border (suc j) = elim (cases_lt j q.height) [
    | inl high ↦ weak_none (label_shown tiles (row (suc j)) 0 West) (ap (option_and_then (λ k. label_on q k West)) (flank_there j high))
    | inr gone ↦ weak_none (label_shown tiles (row (suc j)) 0 West) (none_shows (suc j) 0 West (row_past j 0 gone))
  ]

  south_border : (i : ℕ) → label_strength tiles (label_shown tiles (row 0) i South) ≤ 1
  south_border zero = zero-le
  south_border (suc i) = elim (cases_lt i q.width) [
    | inl wide ↦ weak_none (label_shown tiles (row 0) (suc i) South) (ap (option_and_then (λ k. label_on q k South)) (bottom_there i wide))
    | inr past ↦ weak_none (label_shown tiles (row 0) (suc i) South) (none_shows 0 (suc i) South (bottom_past i past))
  ]

  pub are_grown : GrowsRowByRow tiles quadrant_rows Corner
  are_grown = record {
    seed_there = refl;
    first_start = refl;
    starts = λ j. omega arith;
    columns = λ i j k wanted. let column = (is_in i j k wanted).column in omega (arith, column);
    kinds = λ i j k wanted. listed k (is_in i j k wanted).kind;
    first_row = first_row;
    at_start = at_start;
    west_of_start = λ i j less. let never : ⊥ = omega (arith, less) in absurd never;
    east_of_start = east_of;
    west_border = west_border;
    south_border = south_border;
  }
