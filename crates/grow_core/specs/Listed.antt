-- Scouts that are listed in whatever order, and the state of the core that has them.
use Rattle.std.specs.Prelude.{List, [], ◌∷◌, Option, Some, None, replicate, slice_set}
use Rattle.grow_core.specs.Core.{ScoutState, least}

-- each scout at its name
abbrev pub by_name : List (Option ScoutState) → List (Option ScoutState)
by_name [] = replicate 64 None
by_name (None ∷ scouts) = by_name scouts
by_name (Some v ∷ scouts) = slice_set (by_name scouts) (least v.owned) (Some v)
