use Rattle.std.proofs.Common.{◌≡◌, ◌<◌, length, Option, IfSome, sym, subst, ap, ◌∙◌}
use Rattle.machine_text.specs.declared.rule.Rule.{Rule}
use Rattle.machine_text.specs.Machines.{TuringMachine, IsMachine, rule_of}
use Rattle.machine_text.proofs.Steps.{rule_in_range}
use Rattle.machine_text.proofs.machine.Machine.rule.Goals as goal

pub returns-clause-next_state : goal.returns-clause-next_state
returns-clause-next_state c =
    let M : TuringMachine = c.args.self.now in
    let is : c.find.result ≡ rule_of M c.args.state c.args.symbol = c.find.ensures ∙ ap (λ (N : TuringMachine). rule_of N c.args.state c.args.symbol) c.self.view_is in
    let valid : IsMachine M = subst IsMachine c.self.view_is c.self.invariant in
    subst (λ (found : Option Rule). IfSome found (λ rule. rule.state < length M.states)) (sym is) (rule_in_range M c.args.state c.args.symbol valid).0

pub returns-clause-next_symbol : goal.returns-clause-next_symbol
returns-clause-next_symbol c =
    let M : TuringMachine = c.args.self.now in
    let is : c.find.result ≡ rule_of M c.args.state c.args.symbol = c.find.ensures ∙ ap (λ (N : TuringMachine). rule_of N c.args.state c.args.symbol) c.self.view_is in
    let valid : IsMachine M = subst IsMachine c.self.view_is c.self.invariant in
    subst (λ (found : Option Rule). IfSome found (λ rule. rule.symbol < length M.symbols)) (sym is) (rule_in_range M c.args.state c.args.symbol valid).1
