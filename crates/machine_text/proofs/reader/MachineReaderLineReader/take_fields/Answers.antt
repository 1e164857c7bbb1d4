use Rattle.std.proofs.Common.{◌≡◌, true, Ok, sym, ap, subst, ◌∙◌}
use Rattle.machine_text.specs.Machines.{TuringMachine}
use Rattle.machine_text.specs.MachineText.{MachineItem, machine_table}
use Rattle.machine_text.specs.Inner.Kinds.{word_of_kind, row_of, may_stand_after}
use Rattle.machine_text.specs.Inner.SoFar.{machine_in}
use Rattle.machine_text.proofs.Lines.{IsLine}
use Rattle.machine_text.proofs.Built.{holds-push, last_is}
use Rattle.machine_text.proofs.Fits.{line_of, room_by_machine, follows_is}
use Rattle.machine_text.proofs.reader.MachineReaderLineReader.take_fields.Goals as goal

pub returns-clause-taken : goal.returns-clause-taken
unfolding machine_table
returns-clause-taken c = λ items held.
    let M = machine_in c.args.self.now.parts in
    let last = c.args.self.now.last in
    let kind = c.args.kind in
    let words = c.args.words.now in
    let may = c.requires in
    let item : MachineItem = (word_of_kind kind, machine_in c.take_item.new.parts) in
    let check : (row_of kind).fields items words ≡ Ok item = c.in_ok-take_item.ensures items held.machine in
    let room = room_by_machine kind items may.items words (sym held.machine ∙ may.held.machine) ∙ may.room in
    let line : IsLine M kind item = subst (λ (N : TuringMachine). IsLine N kind item) (sym held.machine) (line_of kind items words item room check) in
    let stands : may_stand_after kind last ≡ true = sym (ap (row_of kind).may_follow may.held.last_item ∙ follows_is kind last M) ∙ may.follows in
    (item, check, last_is kind ∙ sym c.is_last.ensures, holds-push M last kind items item held stands line)
