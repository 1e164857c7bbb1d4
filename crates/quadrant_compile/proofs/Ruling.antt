-- What the rules of a quadrant keep to, and the symbols at its borders.
use Rattle.std.proofs.Common.{◌≡◌, ◌<◌, ◌≤◌, ◌-◌, is_some, ℕ, true, List, length, get_or, Option, Some, None, IfSome, option_map, All, sym, ◌∙◌, ap, subst, inl, inr, arith}
use Rattle.std.specs.Prelude.{find}
use Rattle.std.proofs.lemmas.Bool.{cases_lt}
use Rattle.std.proofs.lemmas.Bool.Decides.{nat_tests}
use Rattle.std.proofs.lemmas.Option.{same_Some, none-some}
use Rattle.std.proofs.lemmas.List.{get_or_past}
use Rattle.std.proofs.lemmas.List.Elements.{All-get_or}
use Rattle.atam.proofs.Lists.{some_or_none}
use Rattle.machine_text.proofs.Finding.{some_is, find_has, find_passes}
use Rattle.quadrant_compile.specs.declared.rule.Answer.{Answer}
use Rattle.quadrant_compile.specs.declared.rule.Rule.{Rule}
use Rattle.quadrant_compile.specs.Quadrants.{RuleQuadrant, IsQuadrant, IsRuleOver, is_for, answer_among, border_symbol}

-- a rule that is for two symbols has them
both_same : (a b : ℕ) (t : Rule) → is_for a b t ≡ true → (t.west ≡ a) × (t.south ≡ b)
both_same a b t passes = (grind (arith, nat_tests), grind (arith, nat_tests))

-- the symbols of an answer, and those that it is for
pub record IsAnswerFor (q : RuleQuadrant) (a b : ℕ) (answer : Answer) : Type 0 where
  pub west : a < length q.symbols
  pub south : b < length q.symbols
  pub east : answer.east < length q.symbols
  pub north : answer.north < length q.symbols

module _ (q : RuleQuadrant) (is_quadrant : IsQuadrant q) where
  pub answer_bounds : (a b : ℕ) (answer : Answer) → answer_among q.rules a b ≡ Some answer → IsAnswerFor q a b answer
  answer_bounds a b answer there = elim (some_or_none (find (is_for a b) q.rules)) [
    | inl none ↦ absurd (none-some answer (sym (ap (option_map (λ (t : Rule). t.answer)) none) ∙ there))
    | inr t ↦
        let is = find_has (is_for a b) (IsRuleOver (length q.symbols)) q.rules t.0 is_quadrant.rules t.1 in
        let pair = both_same a b t.0 (find_passes (is_for a b) q.rules t.0 t.1) in
        let same : t.0.answer ≡ answer = same_Some t.0.answer answer (sym (ap (option_map (λ (t : Rule). t.answer)) t.1) ∙ there) in
        record {
          west = subst (λ n. n < length q.symbols) pair.0 is.inputs.0;
          south = subst (λ n. n < length q.symbols) pair.1 is.inputs.1;
          east = subst (λ (x : Answer). x.east < length q.symbols) same is.answer.0;
          north = subst (λ (x : Answer). x.north < length q.symbols) same is.answer.1;
        }
  ]

  pub pair_bounds : (a b : ℕ) → is_some (answer_among q.rules a b) ≡ true → (a < length q.symbols) × (b < length q.symbols)
  pair_bounds a b ruled =
      let answer = some_is (answer_among q.rules a b) ruled in
      let bounds = answer_bounds a b answer.0 answer.1 in
      (bounds.west, bounds.south)

  in_range_or : (o : Option Answer) → ((x : Answer) → o ≡ Some x → (x.east < length q.symbols) × (x.north < length q.symbols)) →
      IfSome o (λ x. x.east < length q.symbols) × IfSome o (λ x. x.north < length q.symbols)
  in_range_or None is = (tt, tt)
  in_range_or (Some x) is = is x (λ z. Some x)

  pub answer_in_range : (a b : ℕ) → IfSome (answer_among q.rules a b) (λ x. x.east < length q.symbols) × IfSome (answer_among q.rules a b) (λ x. x.north < length q.symbols)
  answer_in_range a b = in_range_or (answer_among q.rules a b) (λ x there. let bounds = answer_bounds a b x there in (bounds.east, bounds.north))

  -- the symbol at a border, given or not
  border_known : (given : List ℕ) (i : ℕ) → All (λ a. a < length q.symbols) given → get_or given i 0 < length q.symbols
  border_known given i all = elim (cases_lt i (length given)) [
    | inl within ↦ All-get_or (λ a. a < length q.symbols) given i 0 within all
    | inr past ↦ let some = is_quadrant.symbols.count.0 in subst (λ n. n < length q.symbols) (sym (behind given i past)) (omega (arith, some))
  ]
    where
      behind : (given : List ℕ) (i : ℕ) → length given ≤ i → get_or given i 0 ≡ 0
      behind given i past = get_or_past given i 0 past

  pub bottom_known : (i : ℕ) → border_symbol q.bottom i < length q.symbols
  bottom_known i = border_known q.bottom (i - 1) is_quadrant.bottom.1

  pub left_known : (j : ℕ) → border_symbol q.left j < length q.symbols
  left_known j = border_known q.left (j - 1) is_quadrant.left.1
