use Rattle.std.proofs.Common.{List, ℕ, ap, refl, ◌∙◌, ◌++◌}
use Rattle.machine_text.specs.Machines.{TuringMachine}
use Rattle.machine_text.specs.Inner.SoFar.{machine_in}
use Rattle.machine_text.proofs.take.take_tape.Goals as goal

pub returns-in-Ok : goal.returns-in-Ok
returns-in-Ok c =
    let M : TuringMachine = machine_in c.args.parts.now in
    let tape = c.in-Ok.ensures.items ∙ ap (λ (l : List ℕ). c.args.parts.now.tape.items ++ l) c.as_slice.ensures.value in
    rw (c.in_ok-symbols.ensures, tape) refl
