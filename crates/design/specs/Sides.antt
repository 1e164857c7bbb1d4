-- The labels on the sides of a kind of tile.
use Rattle.std.specs.Prelude.{ℕ, zero, suc, nat_lt, if◌then◌else◌, Option, Some, None}
use Rattle.atam.specs.declared.site.Side.{Side}
use Rattle.atam.specs.declared.site.Side.TheVariants.{North, East, South, West}

module _ {G : Type 0} where
  -- a row of a table of kinds: the labels to the north, east, south and west
  abbrev pub by_side : Option G → Option G → Option G → Option G → Side → Option G
  by_side north east south west North = north
  by_side north east south west East = east
  by_side north east south west South = south
  by_side north east south west West = west

  -- of tiles in a line from 0 to `last`, the label between a tile and the next one, and the one before
  abbrev pub label_ahead : (ℕ → G) → ℕ → ℕ → Option G
  label_ahead label last i = if nat_lt i last then Some (label (suc i)) else None

  abbrev pub label_behind : (ℕ → G) → ℕ → Option G
  label_behind label zero = None
  label_behind label (suc i) = Some (label (suc i))
