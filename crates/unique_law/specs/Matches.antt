-- Places of one sequence in another.
use Rattle.std.specs.Prelude.{◌≡◌, ℕ, List, Some, slice_get}
use Rattle.atam.specs.declared.site.Side.{Side}
use Rattle.atam.specs.declared.place.Place.{Place}
use Rattle.atam.specs.TileSystem.{TileSystem}
use Rattle.atam.specs.Determinism.{is_input}

-- place p of b, of index i, is a place of a, with the same input sides
pub record Matches (sys : TileSystem) (a b : List Place) (i : ℕ) (p : Place) : Type 0 where
  pub index : ℕ
  pub there : slice_get a index ≡ Some p
  pub inputs : (d : Side) → is_input sys b i d ≡ is_input sys a index d

-- each place of b does so
abbrev pub IsMatchedIn : TileSystem → List Place → List Place → Type 0
IsMatchedIn sys a b = (i : ℕ) (p : Place) → slice_get b i ≡ Some p → Matches sys a b i p
