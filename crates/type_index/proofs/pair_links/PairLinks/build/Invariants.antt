use Rattle.std.proofs.Common.{◌-◌, length}
use Rattle.type_index.specs.PairLinks.{ArePairLinks}
use Rattle.type_index.proofs.pair_links.PairLinks.build.Given as goal

-- the links of the pairs that were passed
abbrev pub invariant-loop-passed : goal.invariant-loop-passed
invariant-loop-passed l = ArePairLinks l.sys l.kinds (length l.sys.pairs - l.passed) l.links
