use Rattle.std.proofs.Common.{◌-◌, ◌≤◌, ℕ, length}
use Rattle.type_index.specs.Indexes.{IsNextBearer}
use Rattle.type_index.proofs.bearer_lists.BearerLists.next_from.Given as goal

-- the next one from an index on that is not past the bound
abbrev pub invariant-loop-at : goal.invariant-loop-at
invariant-loop-at l = record {
  from : ℕ;
  before : from ≤ l.bound;
  next : IsNextBearer l.sys l.side l.glue from l.at;
}

abbrev pub decreases-loop-at : goal.decreases-loop-at
decreases-loop-at l = length l.sys.types - l.at
