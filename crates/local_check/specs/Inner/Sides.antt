-- Sides that interact with the tiles beside them.
use Rattle.std.specs.Prelude.{◌≡◌, ℕ, ◌+◌, nat_lt, List, length, slice_get, take, max, Some}
use Rattle.atam.specs.declared.site.Side.{Side}
use Rattle.atam.specs.declared.site.Side.TheVariants.{North, East, South, West}
use Rattle.atam.specs.declared.site.Site.{Site}
use Rattle.atam.specs.declared.place.TypeId.{TypeId}
use Rattle.atam.specs.declared.place.Place.{Place}
use Rattle.atam.specs.TileSystem.{TileSystem}
use Rattle.atam.specs.Assembly.{bond}
use Rattle.atam.specs.Determinism.{is_output}
use Rattle.type_cache.specs.SideSets.{SideSet, has, bond_if}

-- the sides of a tile of the type at the site that interact with a tile beside them
abbrev pub bound_sides : TileSystem → List Place → Site → TypeId → SideSet
bound_sides sys tiles m t = record {
  north = nat_lt 0 (bond sys tiles m t North);
  east = nat_lt 0 (bond sys tiles m t East);
  south = nat_lt 0 (bond sys tiles m t South);
  west = nat_lt 0 (bond sys tiles m t West);
}

-- the pull on a type by these sides alone
abbrev pub pull_on : TileSystem → List Place → Site → TypeId → SideSet → ℕ
pull_on sys tiles m t sides =
    bond_if sides.north (bond sys tiles m t North) + bond_if sides.east (bond sys tiles m t East)
    + bond_if sides.south (bond sys tiles m t South) + bond_if sides.west (bond sys tiles m t West)

-- each set has the sides of a place that interact with the seeds or with an earlier place: the k-th set is that of the k-th place from an index on
abbrev pub AreEarlierFrom : TileSystem → List Place → ℕ → List SideSet → Type 0
AreEarlierFrom sys s start sets = (k : ℕ) (p : Place) (sides : SideSet) → slice_get s (start + k) ≡ Some p → slice_get sets k ≡ Some sides →
    sides ≡ bound_sides sys (take (max (length sys.seeds) (start + k)) s) p.site p.tile

-- each set has the output sides of a place, in the same way
abbrev pub AreOutputsFrom : TileSystem → List Place → ℕ → List SideSet → Type 0
AreOutputsFrom sys s start sets = (k : ℕ) (sides : SideSet) → slice_get sets k ≡ Some sides → (d : Side) → has sides d ≡ is_output sys s (start + k) d
