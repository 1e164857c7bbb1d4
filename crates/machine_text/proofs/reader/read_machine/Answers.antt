use Rattle.std.proofs.Common.{sym, subst}
use Rattle.std.specs.Prelude.{None, []}
use Rattle.tile_io.proofs.Progress.{reads_is_mark}
use Rattle.machine_text.specs.Machines.{TuringMachine}
use Rattle.machine_text.specs.MachineText.{machine_format}
use Rattle.machine_text.specs.Inner.SoFar.{HoldsLines, machine_in}
use Rattle.machine_text.proofs.Built.{nothing_held, IsMachine-read}
use Rattle.machine_text.proofs.reader.read_machine.Goals as goal

pub read_text-requires-clause-empty : goal.read_text-requires-clause-empty
read_text-requires-clause-empty c = subst (λ (M : TuringMachine). HoldsLines M None []) (sym c.in-Ok.ensures) nothing_held

pub new-requires-2 : goal.new-requires-2
new-requires-2 c =
    let read = c.in_ok-to.ensures.read in
    let reader = c.read_text.new.reader in
    IsMachine-read (machine_in reader.parts) reader.last read.items c.args.text.now c.args.from c.in_ok-to.to read.held read.reads

pub returns-clause-mark : goal.returns-clause-mark
returns-clause-mark c =
    let read = c.in_ok-to.ensures.read in
    reads_is_mark machine_format c.args.text.now c.args.from c.in_ok-to.to read.items c.requires.mark read.reads
