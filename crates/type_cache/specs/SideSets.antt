-- Sets of sides.
use Rattle.std.specs.Prelude.{ℕ, ◌+◌, Bool, is_some, not, ◌&&◌, ◌||◌, nat_lt, if◌then◌else◌, List, None}
use Rattle.atam.specs.declared.site.Side.{Side}
use Rattle.atam.specs.declared.site.Side.TheVariants.{North, East, South, West}
use Rattle.atam.specs.declared.site.Site.{Site}
use Rattle.atam.specs.declared.place.Place.{Place}
use Rattle.atam.specs.Sites.{neighbor}
use Rattle.atam.specs.Placements.{tile_at}
use Rattle.attach_rule.specs.declared.bonding.Strengths.{Strengths}
use Rattle.attach_rule.specs.declared.facing.FacingGlues.{FacingGlues}

-- the sides of a tile that something holds of
pub record SideSet : Type 0 where
  pub north : Bool
  pub east : Bool
  pub south : Bool
  pub west : Bool

-- whether a side is in the set
abbrev pub has : SideSet → Side → Bool
has sides North = sides.north
has sides East = sides.east
has sides South = sides.south
has sides West = sides.west

-- whether each side of the one set is in the other
abbrev pub is_within : SideSet → SideSet → Bool
is_within a b = (not a.north || b.north) && (not a.east || b.east) && (not a.south || b.south) && (not a.west || b.west)

-- the sides with a strength
abbrev pub bound_by : Strengths → SideSet
bound_by bonds = record { north = nat_lt 0 bonds.north; east = nat_lt 0 bonds.east; south = nat_lt 0 bonds.south; west = nat_lt 0 bonds.west }

-- the sides of a site beside which there is a tile
abbrev pub sides_beside : List Place → Site → SideSet
sides_beside tiles m = record {
  north = is_some (tile_at tiles (neighbor m North));
  east = is_some (tile_at tiles (neighbor m East));
  south = is_some (tile_at tiles (neighbor m South));
  west = is_some (tile_at tiles (neighbor m West));
}

-- the sides that both sets have
abbrev pub intersection : SideSet → SideSet → SideSet
intersection a b = record { north = a.north && b.north; east = a.east && b.east; south = a.south && b.south; west = a.west && b.west }

-- the sides of the one set that the other doesn't have, and those that a set doesn't have
abbrev pub difference : SideSet → SideSet → SideSet
difference a b = record { north = a.north && not b.north; east = a.east && not b.east; south = a.south && not b.south; west = a.west && not b.west }

abbrev pub complement : SideSet → SideSet
complement a = record { north = not a.north; east = not a.east; south = not a.south; west = not a.west }

abbrev pub bond_if : Bool → ℕ → ℕ
bond_if on strength = if on then strength else 0

-- the sum of the strengths of these sides alone
abbrev pub sum_on : SideSet → Strengths → ℕ
sum_on sides bonds = bond_if sides.north bonds.north + bond_if sides.east bonds.east + bond_if sides.south bonds.south + bond_if sides.west bonds.west

-- the glues that face these sides alone
abbrev pub glues_on : SideSet → FacingGlues → FacingGlues
glues_on sides glues = record {
  north = if sides.north then glues.north else None;
  east = if sides.east then glues.east else None;
  south = if sides.south then glues.south else None;
  west = if sides.west then glues.west else None;
}
