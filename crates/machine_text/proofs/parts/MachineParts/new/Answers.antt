use Rattle.std.proofs.Common.{refl}
use Rattle.machine_text.specs.MachineText.{machine_of}
use Rattle.machine_text.proofs.parts.MachineParts.new.Goals as goal

pub returns : goal.returns
unfolding machine_of
returns c = rw (c.new.ensures, c.new-2.ensures, c.in_ok-new.ensures, c.new-4.ensures.items) refl
