-- An open site outside the box is below it, at the end of a row, or above it.
use Rattle.std.proofs.Common.{◌≡◌, ◌⊎◌, ◌≤◌, ◌∙◌, ℤ, pos, ◌+ℤ◌, ◌-ℤ◌, ◌≤ℤ◌, List, Option, Some, None, refl, ap, subst, sym, arith, inl, inr}
use Rattle.std.proofs.lemmas.Int.{ints}
use Rattle.std.proofs.Math.Nat.{le_trans}
use Rattle.atam.specs.declared.site.Site.{Site}
use Rattle.atam.specs.declared.site.Side.{Side}
use Rattle.atam.specs.declared.site.Side.TheVariants.{North, East, South, West}
use Rattle.atam.specs.declared.place.TypeId.{TypeId}
use Rattle.atam.specs.declared.place.Place.{Place}
use Rattle.atam.specs.declared.area.BoxArea.{BoxArea}
use Rattle.atam.specs.Placements.{tile_at}
use Rattle.atam.specs.Sites.{InBox, neighbor, opposite}
use Rattle.atam.specs.TileSystem.{TileSystem, side_glue}
use Rattle.atam.specs.Assembly.{Fits, bond, glue_at, interaction, pull}
use Rattle.atam.specs.Growth.{IsCandidate, IsLeastOpenAmong, IsLeastOpenOutside}
use Rattle.atam.proofs.Lists.{All-slice_get, some_or_none}
use Rattle.atam.proofs.Bonds.{beside_a_tile, bond-none, interaction-none}
use Rattle.atam.proofs.Placements.{tile_at-place}
use Rattle.attach_rule.specs.Inner.Searches.{row_at, IsAtEnds, IsBesideBox}
use Rattle.attach_rule.proofs.Searched.{less_or_not, none_in_parts, least_in_parts, last_part}

-- the tile at a site of an assembly that fits is in the box
tile_inside : (sys : TileSystem) (tiles : List Place) (m : Site) (t : TypeId) → Fits sys tiles → tile_at tiles m ≡ Some t → InBox sys.area m
tile_inside sys tiles m t fits there =
    let q = tile_at-place tiles m t there in
    let Inside : Site → Type 0 = λ n. InBox sys.area n in
    subst Inside q.3 (All-slice_get (λ p. InBox sys.area p.site) tiles q.0 q.1 fits.sites q.2)

-- where no glue of the tile towards the box faces a site beside it, no type attaches
pub none_beside : (sys : TileSystem) (tiles : List Place) (m : Site) (d : Side) → 1 ≤ sys.tau → Fits sys tiles → IsBesideBox sys.area d m →
    glue_at sys tiles (neighbor m d) (opposite d) ≡ None → (t : TypeId) → ¬ IsCandidate sys tiles m t
unfolding bond pull
none_beside sys tiles m d some_tau fits beside none t grows =
    let Glue : Side → Type 0 = λ e. glue_at sys tiles (neighbor m e) (opposite e) ≡ None in
    let apart : (e : Side) → bond sys tiles m t e ≡ 0 = λ e. elim (some_or_none (tile_at tiles (neighbor m e))) [
      | inl empty ↦ bond-none sys tiles m t e empty
      | inr there ↦
          let same : e ≡ d = beside e (tile_inside sys tiles (neighbor m e) there.0 fits there.1) in
          ap (interaction sys (side_glue sys t e)) (subst Glue (sym same) none) ∙ interaction-none sys (side_glue sys t e)
    ]
    in
    let never : ⊥ = omega (arith, some_tau, grows.attaches.held, apart North, apart East, apart South, apart West) in
    never

-- the rows below and above the box, and the two ends of a row, are beside it
pub below_beside : (area : BoxArea) (below : ℤ) → below ≡ area.y0 -ℤ pos 1 → (m : Site) → InBox (row_at area below) m → IsBesideBox area North m
below_beside area below is m of_row North inside = refl
below_beside area below is m of_row East inside = let never : ⊥ = omega (arith, ints, is, of_row.top, inside.bottom) in absurd never
below_beside area below is m of_row South inside = let never : ⊥ = omega (arith, ints, is, of_row.top, inside.bottom) in absurd never
below_beside area below is m of_row West inside = let never : ⊥ = omega (arith, ints, is, of_row.top, inside.bottom) in absurd never

pub above_beside : (area : BoxArea) (above : ℤ) → above ≡ area.y1 +ℤ pos 1 → (m : Site) → InBox (row_at area above) m → IsBesideBox area South m
above_beside area above is m of_row North inside = let never : ⊥ = omega (arith, ints, is, of_row.bottom, inside.top) in absurd never
above_beside area above is m of_row East inside = let never : ⊥ = omega (arith, ints, is, of_row.bottom, inside.top) in absurd never
above_beside area above is m of_row South inside = refl
above_beside area above is m of_row West inside = let never : ⊥ = omega (arith, ints, is, of_row.bottom, inside.top) in absurd never

pub west_beside : (area : BoxArea) (m : Site) → m.x ≡ area.x0 -ℤ pos 1 → IsBesideBox area East m
west_beside area m is North inside = let never : ⊥ = omega (arith, ints, is, inside.left) in absurd never
west_beside area m is East inside = refl
west_beside area m is South inside = let never : ⊥ = omega (arith, ints, is, inside.left) in absurd never
west_beside area m is West inside = let never : ⊥ = omega (arith, ints, is, inside.left) in absurd never

pub east_beside : (area : BoxArea) (m : Site) → m.x ≡ area.x1 +ℤ pos 1 → IsBesideBox area West m
east_beside area m is North inside = let never : ⊥ = omega (arith, ints, is, inside.right) in absurd never
east_beside area m is East inside = let never : ⊥ = omega (arith, ints, is, inside.right) in absurd never
east_beside area m is South inside = let never : ⊥ = omega (arith, ints, is, inside.right) in absurd never
east_beside area m is West inside = refl

-- a site that isn't in the box, beside one that is
ring_cases : (area : BoxArea) (below above : ℤ) (m : Site) (d : Side) → below ≡ area.y0 -ℤ pos 1 → above ≡ area.y1 +ℤ pos 1 → ¬ InBox area m → InBox area (neighbor m d) →
    InBox (row_at area below) m ⊎ (IsAtEnds area m ⊎ InBox (row_at area above) m)
ring_cases area below above m North below_is above_is outside beside = elim (less_or_not m.y area.y0) [
  | inl less ↦ inl (record { left = beside.left; right = beside.right; bottom = omega (arith, ints, beside.bottom, below_is); top = omega (arith, ints, less, below_is) })
  | inr more ↦ absurd (outside (record { left = beside.left; right = beside.right; bottom = more; top = omega (arith, ints, beside.top) }))
]
ring_cases area below above m East below_is above_is outside beside = elim (less_or_not m.x area.x0) [
  | inl less ↦ inr (inl (record { column = inl (omega (arith, ints, less, beside.left)); bottom = beside.bottom; top = beside.top }))
  | inr more ↦ absurd (outside (record { left = more; right = omega (arith, ints, beside.right); bottom = beside.bottom; top = beside.top }))
]
ring_cases area below above m South below_is above_is outside beside = elim (less_or_not area.y1 m.y) [
  | inl more ↦ inr (inr (record { left = beside.left; right = beside.right; bottom = omega (arith, ints, more, above_is); top = omega (arith, ints, beside.top, above_is) }))
  | inr less ↦ absurd (outside (record { left = beside.left; right = beside.right; bottom = omega (arith, ints, beside.bottom); top = less }))
]
ring_cases area below above m West below_is above_is outside beside = elim (less_or_not area.x1 m.x) [
  | inl more ↦ inr (inl (record { column = inr (omega (arith, ints, more, beside.right)); bottom = beside.bottom; top = beside.top }))
  | inr less ↦ absurd (outside (record { left = omega (arith, ints, beside.left); right = less; bottom = beside.bottom; top = beside.top }))
]

module _ (sys : TileSystem) (tiles : List Place) (some_tau : 1 ≤ sys.tau) (fits : Fits sys tiles) (area : BoxArea) (same_area : area ≡ sys.area) where
  -- an open site is beside a tile, which is in the box
  open_cases : (below above : ℤ) → below ≡ area.y0 -ℤ pos 1 → above ≡ area.y1 +ℤ pos 1 → (m : Site) (t : TypeId) → IsCandidate sys tiles m t → ¬ InBox area m →
      InBox (row_at area below) m ⊎ (IsAtEnds area m ⊎ InBox (row_at area above) m)
  open_cases below above below_is above_is m t grows outside =
      let tile = beside_a_tile sys tiles m t (le_trans some_tau grows.attaches.held) in
      let InArea : BoxArea → Type 0 = λ a. InBox a (neighbor m tile.0) in
      let beside = tile_inside sys tiles (neighbor m tile.0) tile.1 fits tile.2 in
      ring_cases area below above m tile.0 below_is above_is outside (subst InArea (sym same_area) beside)

  to_outside : (found : Option (Site × TypeId)) → IsLeastOpenAmong sys tiles (λ m. ¬ InBox area m) found → IsLeastOpenOutside sys tiles found
  to_outside found least =
      let Least : BoxArea → Type 0 = λ a. IsLeastOpenAmong sys tiles (λ m. ¬ InBox a m) found in
      subst Least same_area least

  module _ (below : ℤ) (below_is : below ≡ area.y0 -ℤ pos 1) where
    pub below_found : (found : Site × TypeId) → IsLeastOpenAmong sys tiles (InBox (row_at area below)) (Some found) → area.y0 ≤ℤ area.y1 → IsLeastOpenOutside sys tiles (Some found)
    below_found found least rows =
        to_outside (Some found) (least_in_parts sys tiles (λ m. ⊥) (InBox (row_at area below)) (λ m. ¬ InBox area m) found
        (λ m of_row inside. let never : ⊥ = omega (arith, ints, of_row.top, inside.bottom, below_is) in never)
        (λ m n t grows of_row outside. elim (open_cases below (area.y1 +ℤ pos 1) below_is refl n t grows outside) [
          | inl is_below ↦ inr (inl is_below)
          | inr rest ↦ elim rest [
            | inl at_end ↦ inr (inr (inl (omega (arith, ints, of_row.top, at_end.bottom, below_is))))
            | inr is_above ↦ inr (inr (inl (omega (arith, ints, of_row.top, is_above.bottom, below_is, rows))))
          ]
        ])
        (λ m t never grows. never) least)

    module _ (none_below : IsLeastOpenAmong sys tiles (InBox (row_at area below)) None) where
      not_inside : (m : Site) → IsAtEnds area m → ¬ InBox area m
      not_inside m at_end inside = elim at_end.column [
        | inl is_west ↦ let never : ⊥ = omega (arith, ints, is_west, inside.left) in never
        | inr is_east ↦ let never : ⊥ = omega (arith, ints, is_east, inside.right) in never
      ]

      pub ends_found : (found : Site × TypeId) → IsLeastOpenAmong sys tiles (IsAtEnds area) (Some found) → IsLeastOpenOutside sys tiles (Some found)
      ends_found found least =
          to_outside (Some found) (least_in_parts sys tiles (InBox (row_at area below)) (IsAtEnds area) (λ m. ¬ InBox area m) found
          not_inside
          (λ m n t grows at_end outside. elim (open_cases below (area.y1 +ℤ pos 1) below_is refl n t grows outside) [
            | inl is_below ↦ inl is_below
            | inr rest ↦ elim rest [
              | inl n_at_end ↦ inr (inl n_at_end)
              | inr is_above ↦ inr (inr (inl (omega (arith, ints, at_end.top, is_above.bottom))))
            ]
          ])
          none_below least)

      pub above_last : (above : ℤ) (found : Option (Site × TypeId)) → above ≡ area.y1 +ℤ pos 1 → IsLeastOpenAmong sys tiles (IsAtEnds area) None →
          IsLeastOpenAmong sys tiles (InBox (row_at area above)) found → IsLeastOpenOutside sys tiles found
      above_last above found above_is none_at_ends least =
          to_outside found (last_part sys tiles (λ m. InBox (row_at area below) m ⊎ IsAtEnds area m) (InBox (row_at area above)) (λ m. ¬ InBox area m) found
          (λ m of_row inside. let never : ⊥ = omega (arith, ints, of_row.bottom, inside.top, above_is) in never)
          (λ m t grows outside. elim (open_cases below above below_is above_is m t grows outside) [
            | inl is_below ↦ inl (inl is_below)
            | inr rest ↦ elim rest [ inl at_end ↦ inl (inr at_end) | inr is_above ↦ inr is_above ]
          ])
          (none_in_parts sys tiles (InBox (row_at area below)) (IsAtEnds area) (λ m. InBox (row_at area below) m ⊎ IsAtEnds area m) (λ m t grows either. either) none_below none_at_ends)
          least)
