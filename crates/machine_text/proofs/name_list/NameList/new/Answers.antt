use Rattle.std.proofs.Common.{arith}
use Rattle.machine_text.proofs.Marking.{AreFirsts-none}
use Rattle.machine_text.proofs.name_list.NameList.new.Goals as goal

pub invariant_of-result : goal.invariant_of-result
invariant_of-result c = rw c.new.ensures.items (omega arith, AreFirsts-none)
