use Rattle.std.proofs.Common.{◌≡◌}
use Rattle.grow_core.specs.Core.{CoreInvariant}
use Rattle.table_tests.proofs.scouts.split_all.Given as goal

-- the core is one of the system
abbrev pub invariant-loop-given : goal.invariant-loop-given
invariant-loop-given l = record {
  area : l.core.area ≡ l.sys.area;
  holds : CoreInvariant l.sys l.core.state;
}
