use Rattle.std.proofs.Common.{◌-◌, sym, subst, ap, ◌∙◌}
use Rattle.machine_text.specs.Machines.{TuringMachine, IsConfigOf, IsMachine, acted}
use Rattle.machine_text.proofs.Steps.{IsConfigOf-acted}
use Rattle.machine_text.proofs.machine.Machine.next.Goals as goal

pub returns-clause-config : goal.returns-clause-config
returns-clause-config c =
    let M = c.args.self.now in
    let valid : IsMachine M = subst IsMachine c.self.view_is c.self.invariant in
    let rule = c.in-Some-rule.ensures in
    let cells = ap (λ (m : TuringMachine). m.cells) c.self.view_is in
    let stepped = IsConfigOf-acted M c.args.config.now c.in-Some.head c.in-Some-rule.rule valid c.requires (sym c.place.ensures ∙ c.in-Some.is) rule.next_state rule.next_symbol in
    subst (IsConfigOf M) (sym (c.act.ensures ∙ ap (λ n. acted (n - 1) c.args.config.now c.in-Some.head c.in-Some-rule.rule) cells)) stepped
