use Rattle.type_cache.specs.Findings.{AreFindings}
use Rattle.index_tests.proofs.index.are_same_sites.Given as goal

-- what the cache knows was found for the system
abbrev pub invariant-loop-number : goal.invariant-loop-number
invariant-loop-number l = AreFindings l.sys l.cache
