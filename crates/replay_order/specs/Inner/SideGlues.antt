-- The glues on the sides of types, as a table has them.
use Rattle.std.specs.Prelude.{◌≡◌, ℕ, ◌+◌, List, length, Option, Some, None, slice_get}
use Rattle.atam.specs.declared.site.Side.{Side}
use Rattle.atam.specs.declared.site.Side.TheVariants.{North, East, South, West}
use Rattle.atam.specs.declared.place.GlueId.{GlueId}
use Rattle.atam.specs.declared.place.TypeId.{TypeId}
use Rattle.atam.specs.TileSystem.{TileSystem, side_glue, strength_of}
use Rattle.replay_order.specs.declared.bonds.SideGlue.{SideGlue}
use Rattle.replay_order.specs.declared.bonds.SideGlues.{SideGlues}

-- one more than the glue's number and its strength, and twice 0 where there is none
abbrev pub IsGlueOn : TileSystem → Option GlueId → SideGlue → Type 0
IsGlueOn sys None s = (s.code ≡ 0) × (s.strength ≡ 0)
IsGlueOn sys (Some g) s = (s.code ≡ g.0 + 1) × (s.strength ≡ strength_of sys g)

abbrev pub glue_on : SideGlues → Side → SideGlue
glue_on glues North = glues.north
glue_on glues East = glues.east
glue_on glues South = glues.south
glue_on glues West = glues.west

-- the glues on all sides of a type
abbrev pub AreGluesOf : TileSystem → TypeId → SideGlues → Type 0
AreGluesOf sys t glues = (d : Side) → IsGlueOn sys (side_glue sys t d) (glue_on glues d)

-- those of so many types in their order
pub record AreGluesOfFirst (sys : TileSystem) (n : ℕ) (rows : List SideGlues) : Type 0 where
  pub count : length rows ≡ n
  pub each : (t : TypeId) (glues : SideGlues) → slice_get rows t.0 ≡ Some glues → AreGluesOf sys t glues

-- and of all types
abbrev pub AreGluesOfAll : TileSystem → List SideGlues → Type 0
AreGluesOfAll sys rows = AreGluesOfFirst sys (length sys.types) rows
