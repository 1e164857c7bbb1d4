use Rattle.std.proofs.Common.{◌≡◌, List, ℕ, Some, None, sym, subst, ◌++◌, ◌∷◌, []}
use Rattle.std.specs.Prelude.{slice_set}
use Rattle.quadrant_compile.specs.declared.rule.Rule.{Rule}
use Rattle.quadrant_compile.specs.Quadrants.{answer_among}
use Rattle.quadrant_compile.specs.Inner.Tables.{IsTableOf}
use Rattle.quadrant_compile.proofs.RuleTables.{IsTableOf-push}
use Rattle.quadrant_compile.proofs.rule_list.RuleList.push.Goals as goal

pub invariant_of-self-2 : goal.invariant_of-self-2
invariant_of-self-2 c =
    let t = c.args.rule in
    let table = c.self.inside.table.items in
    let fresh : answer_among c.self.inside.rules.items t.west t.south ≡ None = subst (λ (ts : List Rule). answer_among ts t.west t.south ≡ None) (sym c.self.view_is) c.requires.fresh in
    let pushed = IsTableOf-push c.self.inside.rules.items table t c.self.invariant c.requires.west c.requires.south fresh in
    let Table : ℕ → Type 0 = λ n. IsTableOf (c.self.inside.rules.items ++ t ∷ []) (slice_set table n (Some t.answer)) in
    let placed : Table c.entry.result = subst Table (sym c.entry.ensures.place) pushed in
    subst (λ (ts : List Rule). IsTableOf ts (slice_set table c.entry.result (Some t.answer))) (sym c.in_ok-push.ensures.items) placed
