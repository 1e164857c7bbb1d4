use Rattle.std.proofs.Common.{◌≡◌}
use Rattle.grow_core.specs.Core.{CoreInvariant}
use Rattle.table_tests.proofs.scouts.first_unlike.Given as goal

-- the core is one of the system
abbrev pub invariant-loop-index : goal.invariant-loop-index
invariant-loop-index l = record {
  area : l.core.area ≡ l.sys.area;
  holds : CoreInvariant l.sys l.core.state;
}
