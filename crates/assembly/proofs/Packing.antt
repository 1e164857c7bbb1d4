-- Places as numbers, and back.
use Rattle.std.proofs.Common.{◌≡◌, ℕ, ◌+◌, ◌-◌, ◌*◌, ◌/◌, ◌%◌, ◌<◌, ◌≤◌, false, nat_lt, List, [], ◌∷◌, ◌++◌, length, slice_index_or, ℤ, pos, ◌-ℤ◌, ◌+ℤ◌, ap, ◌∙◌, sym, arith, refl}
use Rattle.std.specs.Prelude.{if◌then◌else◌}
use Rattle.std.proofs.lemmas.Int.{ints}
use Rattle.std.proofs.lemmas.Bool.Decides.{nat_tests}
use Rattle.std.proofs.lemmas.List.{get_or_append_left, map-append}
use Rattle.std.proofs.lemmas.List.Elements.{recursion_from_All}
use Rattle.std.proofs.Math.Seq.{get_or-append_seam}
use Rattle.std.specs.List.{All, AllByRecursion}
use Rattle.atam.specs.declared.place.Place.{Place}
use Rattle.assembly.specs.declared.packed_place.PackedPlace.{PackedPlace}
use Rattle.assembly.specs.declared.packed_place.TheConstants.{SPAN, MIDDLE, FAR}
use Rattle.assembly.specs.Inner.Packing.{IsNear, IsPackedIn, near_place, place_in, places_in}

abbrev of_numbers : ℤ → ℤ → ℕ → Place
of_numbers y x tile = record { site = record { y = y; x = x }; tile = record { 0 = tile } }

-- the place with these numbers is the near one of this number
pub near_place-is : (n : ℕ) (y x : ℤ) (tile : ℕ) → y ≡ pos (n / SPAN / SPAN) -ℤ MIDDLE → x ≡ pos (n / SPAN % SPAN) -ℤ MIDDLE → tile ≡ n % SPAN → of_numbers y x tile ≡ near_place n
unfolding near_place
near_place-is n y x tile rows columns types =
    ap (λ (z : ℤ). of_numbers z x tile) rows ∙ (ap (λ (z : ℤ). of_numbers (pos (n / SPAN / SPAN) -ℤ MIDDLE) z tile) columns
    ∙ ap (of_numbers (pos (n / SPAN / SPAN) -ℤ MIDDLE) (pos (n / SPAN % SPAN) -ℤ MIDDLE)) types)

-- a coordinate by its number from the first
from_first : (coordinate : ℤ) (number : ℕ) → pos number ≡ coordinate +ℤ MIDDLE → coordinate ≡ pos number -ℤ MIDDLE
from_first coordinate number is = omega (arith, ints)

-- a near place's number gives it back
pub near_place-packed : (p : Place) (row column : ℕ) → IsNear p → pos row ≡ p.site.y +ℤ MIDDLE → pos column ≡ p.site.x +ℤ MIDDLE → near_place ((row * SPAN + column) * SPAN + p.tile.0) ≡ p
near_place-packed p row column near rows columns =
    let n = (row * SPAN + column) * SPAN + p.tile.0 in
    let narrow : column < SPAN = omega (arith, ints, near.right, columns) in
    let few : p.tile.0 < SPAN = near.tile in
    let upper : n / SPAN ≡ row * SPAN + column = omega arith in
    let row_is : n / SPAN / SPAN ≡ row = rw upper (omega arith) in
    let column_is : n / SPAN % SPAN ≡ column = rw upper (omega arith) in
    let tile_is : n % SPAN ≡ p.tile.0 = omega arith in
    sym (near_place-is n p.site.y p.site.x p.tile.0 (from_first p.site.y row rows ∙ ap (λ (i : ℕ). pos i -ℤ MIDDLE) (sym row_is)) (from_first p.site.x column columns ∙ ap (λ (i : ℕ). pos i -ℤ MIDDLE) (sym column_is)) (sym tile_is))

-- the far places may become more
place_in-more : (far : List Place) (p : Place) (packed : PackedPlace) → IsPackedIn far packed → place_in (far ++ p ∷ []) packed ≡ place_in far packed
place_in-more far p packed known = grind (arith, nat_tests, get_or_append_left)

places_in-more : (far : List Place) (p : Place) (packed : List PackedPlace) → AllByRecursion (IsPackedIn far) packed → places_in (far ++ p ∷ []) packed ≡ places_in far packed
places_in-more far p [] known = refl
places_in-more far p (x ∷ xs) known = ap (λ (y : Place). y ∷ places_in (far ++ p ∷ []) xs) (place_in-more far p x known.0) ∙ ap (λ (ys : List Place). place_in far x ∷ ys) (places_in-more far p xs known.1)

-- one far place more
pub places_in-push_far : (far : List Place) (p : Place) (packed : List PackedPlace) (x : PackedPlace) → All (IsPackedIn far) packed → x.0 ≡ FAR + length far → places_in (far ++ p ∷ []) (packed ++ x ∷ []) ≡ places_in far packed ++ p ∷ []
places_in-push_far far p packed x known index =
    let longer = far ++ p ∷ [] in
    let is_far : nat_lt x.0 FAR ≡ false = grind (arith, nat_tests) in
    let place : ℕ → Place = λ i. slice_index_or longer i (near_place 0) in
    let at : x.0 - FAR ≡ length far = omega arith in
    let last : place_in longer x ≡ p = ap (λ b. if b then near_place x.0 else place (x.0 - FAR)) is_far ∙ (ap place at ∙ get_or-append_seam far p [] (near_place 0)) in
    map-append (place_in (far ++ p ∷ [])) packed (x ∷ []) ∙ (ap (λ (ys : List Place). ys ++ place_in (far ++ p ∷ []) x ∷ []) (places_in-more far p packed (recursion_from_All (IsPackedIn far) packed known))
    ∙ ap (λ (y : Place). places_in far packed ++ y ∷ []) last)

-- places that are near all are the same whatever the far ones are
places_in-near : (far : List Place) (packed : List PackedPlace) → AllByRecursion (IsPackedIn []) packed → places_in far packed ≡ places_in [] packed
places_in-near far [] near = refl
places_in-near far (x ∷ xs) near = ap (λ (y : Place). y ∷ places_in far xs) (place_in-near far x near.0) ∙ ap (λ (ys : List Place). place_in [] x ∷ ys) (places_in-near far xs near.1)
  where
    place_in-near : (far : List Place) (packed : PackedPlace) → IsPackedIn [] packed → place_in far packed ≡ place_in [] packed
    place_in-near far packed near = grind (arith, nat_tests)

-- places behind others, where there are no far ones among them
pub places_in-append : (far others_far : List Place) (packed others : List PackedPlace) → length others_far ≤ 0 → All (IsPackedIn others_far) others →
    places_in far (packed ++ others) ≡ places_in far packed ++ places_in others_far others
places_in-append far (p ∷ rest) packed others none known = let never : ⊥ = omega (arith, none) in absurd never
places_in-append far [] packed others none known =
    map-append (place_in far) packed others ∙ ap (λ (ys : List Place). places_in far packed ++ ys) (places_in-near far others (recursion_from_All (IsPackedIn []) others known))
