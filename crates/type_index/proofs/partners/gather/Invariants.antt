use Rattle.std.proofs.Common.{◌≡◌, ◌-◌, ◌++◌, drop, length}
use Rattle.type_index.specs.PairLinks.{IsNextPair}
use Rattle.type_index.specs.Partners.{partners_of}
use Rattle.type_index.proofs.partners.gather.Given as goal

-- the partners so far and those that the pairs from here on give are all
abbrev pub invariant-loop-number : goal.invariant-loop-number
invariant-loop-number l = record {
  told : l.partners.items ++ partners_of l.kinds l.glue (drop l.number l.sys.pairs) ≡ l.fn.partners.items ++ partners_of l.kinds l.glue l.sys.pairs;
  next : IsNextPair l.sys.pairs l.kinds l.glue l.number l.number;
}

abbrev pub decreases-loop-number : goal.decreases-loop-number
decreases-loop-number l = length l.sys.pairs - l.number
