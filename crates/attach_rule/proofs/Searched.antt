-- The least open site among sites that are searched part by part.
use Rattle.std.proofs.Common.{◌≡◌, ◌⊎◌, ◌+◌, ℕ, ℤ, pos, ◌+ℤ◌, ◌-ℤ◌, ◌≤ℤ◌, ◌<ℤ◌, List, Option, Some, None, subst, sym, arith, inl, inr}
use Rattle.std.proofs.lemmas.Int.{ints, by_lt_z}
use Rattle.atam.specs.declared.site.Site.{Site}
use Rattle.atam.specs.declared.place.TypeId.{TypeId}
use Rattle.atam.specs.declared.place.Place.{Place}
use Rattle.atam.specs.declared.area.BoxArea.{BoxArea}
use Rattle.atam.specs.Sites.{IsBefore, InBox}
use Rattle.atam.specs.TileSystem.{TileSystem}
use Rattle.atam.specs.Growth.{IsCandidate, IsLeastOpenAmong}
use Rattle.atam.proofs.Boxes.{same_coordinates}
use Rattle.attach_rule.specs.Inner.Searches.{row_at, IsAtEnds}

not_both : (m n : Site) → IsBefore m n → ¬ IsBefore n m
not_both m n (inl less) (inl more) = omega (arith, ints, less, more)
not_both m n (inl less) (inr more) = omega (arith, ints, less, more.0)
not_both m n (inr less) (inl more) = omega (arith, ints, less.0, more)
not_both m n (inr less) (inr more) = omega (arith, ints, less.1, more.1)

pub less_or_not : (a b : ℤ) → (a <ℤ b) ⊎ (b ≤ℤ a)
less_or_not a b = by_lt_z a b (λ less. inl less) (λ more. inr more)

module _ (sys : TileSystem) (tiles : List Place) (P Q R : Site → Type 0) where
  -- nothing is open among the sites of two parts where nothing is in either
  pub none_in_parts : ((m : Site) (t : TypeId) → IsCandidate sys tiles m t → R m → P m ⊎ Q m) →
      IsLeastOpenAmong sys tiles P None → IsLeastOpenAmong sys tiles Q None → IsLeastOpenAmong sys tiles R None
  none_in_parts parts none_p none_q m t among grows =
      elim (parts m t grows among) [ inl in_p ↦ none_p m t in_p grows | inr in_q ↦ none_q m t in_q grows ]

  -- and what is found in the later part, and is before the sites that are left, is least of all
  pub least_in_parts : (found : Site × TypeId) → ((m : Site) → Q m → R m) →
      ((m n : Site) (t : TypeId) → IsCandidate sys tiles n t → Q m → R n → P n ⊎ (Q n ⊎ IsBefore m n)) →
      IsLeastOpenAmong sys tiles P None → IsLeastOpenAmong sys tiles Q (Some found) → IsLeastOpenAmong sys tiles R (Some found)
  least_in_parts found inside parts none_p least = record {
    among = inside found.0 least.among;
    grows = least.grows;
    least_site = λ n u among grows before. elim (parts found.0 n u grows least.among among) [
      | inl in_p ↦ none_p n u in_p grows
      | inr rest ↦ elim rest [ inl in_q ↦ least.least_site n u in_q grows before | inr after ↦ not_both found.0 n after before ]
    ];
    least_type = least.least_type;
  }

  -- whatever the last part has
  pub last_part : (found : Option (Site × TypeId)) → ((m : Site) → Q m → R m) → ((m : Site) (t : TypeId) → IsCandidate sys tiles m t → R m → P m ⊎ Q m) →
      IsLeastOpenAmong sys tiles P None → IsLeastOpenAmong sys tiles Q found → IsLeastOpenAmong sys tiles R found
  last_part None inside parts none_p none = none_in_parts parts none_p none
  last_part (Some found) inside parts none_p least =
      least_in_parts found inside
      (λ m n t grows of_q among. elim (parts n t grows among) [ inl in_p ↦ inl in_p | inr in_q ↦ inr (inl in_q) ])
      none_p least

-- the first columns, and the first rows, of a box
abbrev pub first_columns : BoxArea → ℕ → BoxArea
first_columns area columns = record { x0 = area.x0; y0 = area.y0; x1 = (area.x0 +ℤ pos columns) -ℤ pos 1; y1 = area.y1 }

abbrev pub first_rows : BoxArea → ℕ → BoxArea
first_rows area rows = record { x0 = area.x0; y0 = area.y0; x1 = area.x1; y1 = (area.y0 +ℤ pos rows) -ℤ pos 1 }

-- a site of the row is in the columns so far, or at the next one, or after it
column_cases : (area : BoxArea) (y : ℤ) (columns : ℕ) (site n : Site) → site.x ≡ area.x0 +ℤ pos columns → site.y ≡ y →
    InBox (row_at area y) n → InBox (first_columns (row_at area y) columns) n ⊎ ((n ≡ site) ⊎ IsBefore site n)
column_cases area y columns site n x_is y_is inside = elim (less_or_not n.x site.x) [
  | inl less ↦ inl (record { left = inside.left; right = omega (arith, ints, less, x_is); bottom = inside.bottom; top = inside.top })
  | inr more ↦ elim (less_or_not site.x n.x) [
    | inl after ↦ inr (inr (inr (omega (arith, ints, inside.bottom, inside.top, y_is), after)))
    | inr not_after ↦ inr (inl (same_coordinates n site (omega (arith, ints, inside.bottom, inside.top, y_is)) (omega (arith, ints, more, not_after))))
  ]
]

-- a site of the box is in the rows so far, or in the next one, or after that
row_cases : (area : BoxArea) (y : ℤ) (rows : ℕ) (m n : Site) → y ≡ area.y0 +ℤ pos rows → m.y ≤ℤ y →
    InBox area n → InBox (first_rows area rows) n ⊎ (InBox (row_at area y) n ⊎ IsBefore m n)
row_cases area y rows m n y_is m_top inside = elim (less_or_not n.y y) [
  | inl less ↦ inl (record { left = inside.left; right = inside.right; bottom = inside.bottom; top = omega (arith, ints, less, y_is) })
  | inr more ↦ elim (less_or_not y n.y) [
    | inl after ↦ inr (inr (inl (omega (arith, ints, m_top, after))))
    | inr not_after ↦ inr (inl (record { left = inside.left; right = inside.right; bottom = more; top = not_after }))
  ]
]

module _ (sys : TileSystem) (tiles : List Place) where
  -- the next column of a row
  pub column_none : (area : BoxArea) (y : ℤ) (columns : ℕ) (site : Site) → IsLeastOpenAmong sys tiles (InBox (first_columns (row_at area y) columns)) None →
      IsLeastOpenAmong sys tiles (λ m. m ≡ site) None → site.x ≡ area.x0 +ℤ pos columns → site.y ≡ y →
      IsLeastOpenAmong sys tiles (InBox (first_columns (row_at area y) (columns + 1))) None
  column_none area y columns site earlier none x_is y_is =
      none_in_parts sys tiles (InBox (first_columns (row_at area y) columns)) (λ m. m ≡ site) (InBox (first_columns (row_at area y) (columns + 1)))
      (λ m t grows inside. elim (less_or_not m.x site.x) [
        | inl less ↦ inl (record { left = inside.left; right = omega (arith, ints, less, x_is); bottom = inside.bottom; top = inside.top })
        | inr more ↦ inr (same_coordinates m site (omega (arith, ints, inside.bottom, inside.top, y_is)) (omega (arith, ints, inside.right, more, x_is)))
      ])
      earlier none

  pub column_found : (area : BoxArea) (y : ℤ) (columns : ℕ) (site : Site) (found : Site × TypeId) → IsLeastOpenAmong sys tiles (InBox (first_columns (row_at area y) columns)) None →
      IsLeastOpenAmong sys tiles (λ m. m ≡ site) (Some found) → site.x ≡ area.x0 +ℤ pos columns → site.x ≤ℤ area.x1 → site.y ≡ y →
      IsLeastOpenAmong sys tiles (InBox (row_at area y)) (Some found)
  column_found area y columns site found earlier least x_is within y_is =
      let left : area.x0 ≤ℤ site.x = omega (arith, ints, x_is) in
      let inside : InBox (row_at area y) site = record { left = left; right = within; bottom = omega (arith, ints, y_is); top = omega (arith, ints, y_is) } in
      least_in_parts sys tiles (InBox (first_columns (row_at area y) columns)) (λ m. m ≡ site) (InBox (row_at area y)) found
      (λ m same. subst (InBox (row_at area y)) (sym same) inside)
      (λ m n t grows same n_inside.
      let Claim : Site → Type 0 = λ s. InBox (first_columns (row_at area y) columns) n ⊎ ((n ≡ site) ⊎ IsBefore s n) in
      subst Claim (sym same) (column_cases area y columns site n x_is y_is n_inside))
      earlier least

  -- the next row of a box
  pub row_none : (area : BoxArea) (y : ℤ) (rows : ℕ) → IsLeastOpenAmong sys tiles (InBox (first_rows area rows)) None →
      IsLeastOpenAmong sys tiles (InBox (row_at area y)) None → y ≡ area.y0 +ℤ pos rows → IsLeastOpenAmong sys tiles (InBox (first_rows area (rows + 1))) None
  row_none area y rows earlier none y_is =
      none_in_parts sys tiles (InBox (first_rows area rows)) (InBox (row_at area y)) (InBox (first_rows area (rows + 1)))
      (λ m t grows inside. elim (less_or_not m.y y) [
        | inl less ↦ inl (record { left = inside.left; right = inside.right; bottom = inside.bottom; top = omega (arith, ints, less, y_is) })
        | inr more ↦ inr (record { left = inside.left; right = inside.right; bottom = more; top = omega (arith, ints, inside.top, y_is) })
      ])
      earlier none

  pub row_found : (area : BoxArea) (y : ℤ) (rows : ℕ) (found : Site × TypeId) → IsLeastOpenAmong sys tiles (InBox (first_rows area rows)) None →
      IsLeastOpenAmong sys tiles (InBox (row_at area y)) (Some found) → y ≡ area.y0 +ℤ pos rows → y ≤ℤ area.y1 → IsLeastOpenAmong sys tiles (InBox area) (Some found)
  row_found area y rows found earlier least y_is within =
      least_in_parts sys tiles (InBox (first_rows area rows)) (InBox (row_at area y)) (InBox area) found
      (λ m of_row. record { left = of_row.left; right = of_row.right; bottom = omega (arith, ints, of_row.bottom, y_is); top = omega (arith, ints, of_row.top, within) })
      (λ m n t grows of_row inside. row_cases area y rows m n y_is of_row.top inside)
      earlier least

  -- the two sites at the ends of a row
  module _ (area : BoxArea) (y : ℤ) (west : Site) (west_x : west.x ≡ area.x0 -ℤ pos 1) (west_y : west.y ≡ y) where
    at_ends : (m : Site) → m.y ≡ y → (m.x ≡ area.x0 -ℤ pos 1) ⊎ (m.x ≡ area.x1 +ℤ pos 1) → IsAtEnds (row_at area y) m
    at_ends m in_row column = record { column = column; bottom = omega (arith, ints, in_row); top = omega (arith, ints, in_row) }

    pub west_found : (found : Site × TypeId) → area.x0 ≤ℤ area.x1 → IsLeastOpenAmong sys tiles (λ m. m ≡ west) (Some found) → IsLeastOpenAmong sys tiles (IsAtEnds (row_at area y)) (Some found)
    west_found found ordered least =
        least_in_parts sys tiles (λ m. ⊥) (λ m. m ≡ west) (IsAtEnds (row_at area y)) found
        (λ m same. subst (IsAtEnds (row_at area y)) (sym same) (at_ends west west_y (inl west_x)))
        (λ m n t grows same n_at.
        let Claim : Site → Type 0 = λ s. ⊥ ⊎ ((n ≡ west) ⊎ IsBefore s n) in
        let in_row : n.y ≡ west.y = omega (arith, ints, n_at.bottom, n_at.top, west_y) in
        subst Claim (sym same) (elim n_at.column [
          | inl is_west ↦ inr (inl (same_coordinates n west in_row (omega (arith, ints, is_west, west_x))))
          | inr is_east ↦ inr (inr (inr (sym in_row, omega (arith, ints, is_east, west_x, ordered))))
        ]))
        (λ m t never grows. never) least

    pub east_last : (east : Site) (found : Option (Site × TypeId)) → east.x ≡ area.x1 +ℤ pos 1 → east.y ≡ y →
        IsLeastOpenAmong sys tiles (λ m. m ≡ west) None → IsLeastOpenAmong sys tiles (λ m. m ≡ east) found → IsLeastOpenAmong sys tiles (IsAtEnds (row_at area y)) found
    east_last east found east_x east_y none least =
        last_part sys tiles (λ m. m ≡ west) (λ m. m ≡ east) (IsAtEnds (row_at area y)) found
        (λ m same. subst (IsAtEnds (row_at area y)) (sym same) (at_ends east east_y (inr east_x)))
        (λ m t grows m_at. elim m_at.column [
          | inl is_west ↦ inl (same_coordinates m west (omega (arith, ints, m_at.bottom, m_at.top, west_y)) (omega (arith, ints, is_west, west_x)))
          | inr is_east ↦ inr (same_coordinates m east (omega (arith, ints, m_at.bottom, m_at.top, east_y)) (omega (arith, ints, is_east, east_x)))
        ])
        none least

  -- the ends of the next row
  pub ends_none : (area : BoxArea) (y : ℤ) (rows : ℕ) → IsLeastOpenAmong sys tiles (IsAtEnds (first_rows area rows)) None →
      IsLeastOpenAmong sys tiles (IsAtEnds (row_at area y)) None → y ≡ area.y0 +ℤ pos rows → IsLeastOpenAmong sys tiles (IsAtEnds (first_rows area (rows + 1))) None
  ends_none area y rows earlier none y_is =
      none_in_parts sys tiles (IsAtEnds (first_rows area rows)) (IsAtEnds (row_at area y)) (IsAtEnds (first_rows area (rows + 1)))
      (λ m t grows m_at. elim (less_or_not m.y y) [
        | inl less ↦ inl (record { column = m_at.column; bottom = m_at.bottom; top = omega (arith, ints, less, y_is) })
        | inr more ↦ inr (record { column = m_at.column; bottom = more; top = omega (arith, ints, m_at.top, y_is) })
      ])
      earlier none

  pub ends_found : (area : BoxArea) (y : ℤ) (rows : ℕ) (found : Site × TypeId) → IsLeastOpenAmong sys tiles (IsAtEnds (first_rows area rows)) None →
      IsLeastOpenAmong sys tiles (IsAtEnds (row_at area y)) (Some found) → y ≡ area.y0 +ℤ pos rows → y ≤ℤ area.y1 → IsLeastOpenAmong sys tiles (IsAtEnds area) (Some found)
  ends_found area y rows found earlier least y_is within =
      least_in_parts sys tiles (IsAtEnds (first_rows area rows)) (IsAtEnds (row_at area y)) (IsAtEnds area) found
      (λ m of_row. record { column = of_row.column; bottom = omega (arith, ints, of_row.bottom, y_is); top = omega (arith, ints, of_row.top, within) })
      (λ m n t grows of_row n_at. elim (less_or_not n.y y) [
        | inl less ↦ inl (record { column = n_at.column; bottom = n_at.bottom; top = omega (arith, ints, less, y_is) })
        | inr more ↦ elim (less_or_not y n.y) [
          | inl after ↦ inr (inr (inl (omega (arith, ints, of_row.top, after))))
          | inr not_after ↦ inr (inl (record { column = n_at.column; bottom = more; top = not_after }))
        ]
      ])
      earlier least
