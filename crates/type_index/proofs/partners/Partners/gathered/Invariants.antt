use Rattle.std.proofs.Common.{◌≤◌, ◌*◌, length}
use Rattle.type_index.specs.Partners.{ArePartners}
use Rattle.type_index.proofs.partners.Partners.gathered.Given as goal

-- the partners of the glues so far
abbrev pub invariant-loop-number : goal.invariant-loop-number
invariant-loop-number l = record {
  lists : ArePartners l.sys l.kinds l.number (record { starts = l.starts.items; partners = l.partners.items });
  few : length l.partners.items ≤ 65536 * l.number;
}
