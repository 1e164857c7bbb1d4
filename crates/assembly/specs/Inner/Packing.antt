-- Places as numbers below 2 ^ 64.
use Rattle.std.specs.Prelude.{ℕ, ◌+◌, ◌-◌, ◌/◌, ◌%◌, ◌<◌, pos, ◌-ℤ◌, ◌≤ℤ◌, ◌<ℤ◌, nat_lt, if◌then◌else◌, List, length, map, slice_index_or}
use Rattle.atam.specs.declared.place.Place.{Place}
use Rattle.assembly.specs.declared.packed_place.PackedPlace.{PackedPlace}

-- column, row and type have numbers of 21 bits
pub record IsNear (p : Place) : Type 0 where
  pub left : (pos 0 -ℤ pos 1048576) ≤ℤ p.site.x
  pub right : p.site.x <ℤ pos 1048576
  pub bottom : (pos 0 -ℤ pos 1048576) ≤ℤ p.site.y
  pub top : p.site.y <ℤ pos 1048576
  pub tile : p.tile.0 < 2097152

-- row, column and type, the type lowest
unfoldable pub near_place : ℕ → Place
near_place n =
    record {
      site = record { y = pos (n / 2097152 / 2097152) -ℤ pos 1048576; x = pos (n / 2097152 % 2097152) -ℤ pos 1048576 };
      tile = record { 0 = n % 2097152 };
    }

-- the place of a packed one, where these are the far places, whose numbers are those from 2 ^ 63 on
abbrev pub place_in : List Place → PackedPlace → Place
place_in far packed = if nat_lt packed.0 9223372036854775808 then near_place packed.0 else slice_index_or far (packed.0 - 9223372036854775808) (near_place 0)

-- it is near, or one of the far ones
abbrev pub IsPackedIn : List Place → PackedPlace → Type 0
IsPackedIn far packed = packed.0 < 9223372036854775808 + length far

abbrev pub places_in : List Place → List PackedPlace → List Place
places_in far packed = map (place_in far) packed
