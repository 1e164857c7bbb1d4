use Rattle.std.proofs.Common.{◌≡◌, ◌++◌, take}
use Rattle.atam.specs.Placements.{rest_of}
use Rattle.unique_law.proofs.extension.push_rest.Given as goal

-- the places so far at whose sites the grid has no tile are added
abbrev pub invariant-loop-index : goal.invariant-loop-index
invariant-loop-index l = l.whole ≡ l.initial.whole ++ rest_of l.grid.tiles (take l.index l.places)
