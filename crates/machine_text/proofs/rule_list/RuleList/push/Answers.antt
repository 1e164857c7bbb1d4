use Rattle.std.proofs.Common.{◌≡◌, List, ℕ, Some, None, sym, subst, ◌++◌, ◌∷◌, []}
use Rattle.std.specs.Prelude.{slice_set}
use Rattle.machine_text.specs.declared.rule.Transition.{Transition}
use Rattle.machine_text.specs.Machines.{rule_among}
use Rattle.machine_text.specs.Inner.Tables.{IsTableOf}
use Rattle.machine_text.proofs.RuleTables.{IsTableOf-push}
use Rattle.machine_text.proofs.rule_list.RuleList.push.Goals as goal

pub invariant_of-self-2 : goal.invariant_of-self-2
invariant_of-self-2 c =
    let t = c.args.transition in
    let table = c.self.inside.table.items in
    let fresh : rule_among c.self.inside.transitions.items t.state t.symbol ≡ None = subst (λ (ts : List Transition). rule_among ts t.state t.symbol ≡ None) (sym c.self.view_is) c.requires.fresh in
    let pushed = IsTableOf-push c.self.inside.transitions.items table t c.self.invariant c.requires.state c.requires.symbol fresh in
    let Table : ℕ → Type 0 = λ n. IsTableOf (c.self.inside.transitions.items ++ t ∷ []) (slice_set table n (Some t.rule)) in
    let placed : Table c.entry.result = subst Table (sym c.entry.ensures.place) pushed in
    subst (λ (ts : List Transition). IsTableOf ts (slice_set table c.entry.result (Some t.rule))) (sym c.in_ok-push.ensures.items) placed
