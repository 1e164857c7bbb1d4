use Rattle.std.proofs.Common.{ℕ, ◌≡◌, ◌<◌, false}
use Rattle.std.specs.List.{slice_index_or}
use Rattle.picture.specs.Inner.Entries.{is_seen}
use Rattle.picture.proofs.legend.standing_types.Given as goal

-- the types at the sites so far are marked
abbrev pub invariant-loop-index : goal.invariant-loop-index
invariant-loop-index l = (t : ℕ) → t < 62 → slice_index_or l.standing t false ≡ is_seen l.grid l.index t
