use Rattle.std.proofs.Common.{Ok, sym, ap, subst}
use Rattle.machine_text.specs.declared.kind.LineKind.{LineKind}
use Rattle.machine_text.specs.Machines.{TuringMachine}
use Rattle.machine_text.specs.Inner.Kinds.{word_of_kind, row_of, machine_row, end_row}
use Rattle.machine_text.specs.Inner.SoFar.{machine_in}
use Rattle.machine_text.specs.NameChecks.{Gets}
use Rattle.machine_text.proofs.take.take_item.Goals as goal

pub returns-in-Machine : goal.returns-in-Machine
returns-in-Machine c = λ earlier same.
    let M = machine_in c.args.parts.now in
    let words = c.args.words.now in
    let Taken : LineKind → Type 0 = λ kind. Gets (word_of_kind kind) ((row_of kind).fields earlier words) M M c.check_version.result in
    let Told : TuringMachine → Type 0 = λ N. Gets machine_row.word (machine_row.fields N words) M M c.check_version.result in
    subst Taken (sym c.in-Machine.is) (subst Told same (c.check_version.ensures M))

pub returns-in-End : goal.returns-in-End
returns-in-End c = λ earlier same.
    let M = machine_in c.args.parts.now in
    let Taken : LineKind → Type 0 = λ kind. Gets (word_of_kind kind) ((row_of kind).fields earlier c.args.words.now) M M (Ok tt) in
    subst Taken (sym c.in-End.is) (ap (λ (N : TuringMachine). Ok (end_row.word, N)) (sym same))
