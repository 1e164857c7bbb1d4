use Rattle.std.proofs.Common.{◌≡◌, Some, None, sym, ap, subst, ◌∙◌, inl, inr, arith}
use Rattle.std.specs.Prelude.{bytes_eq, slice_get, position}
use Rattle.std.proofs.lemmas.Bool.{cases_lt}
use Rattle.std.proofs.lemmas.Option.{same_Some}
use Rattle.machine_text.proofs.Finding.{position_first, position_none}
use Rattle.machine_text.specs.Inner.Marks.{has_mark}
use Rattle.machine_text.proofs.Marking.{none_before_first, none_marked}
use Rattle.machine_text.proofs.name_list.NameList.find.Goals as goal

pub returns-in_default : goal.returns-in_default
returns-in_default c =
    let name = c.args.name.now in
    let names = c.args.self.now in
    let none : position (has_mark c.mark_of.result) names ≡ None = sym c.in_default.ensures in
    sym (position_none (bytes_eq name) names (none_marked name names (subst (λ m. position (has_mark m) names ≡ None) c.mark_of.ensures none)))

pub loop-number-init : goal.loop-number-init
loop-number-init c =
    let name = c.args.name.now in
    let names = c.args.self.now in
    let first : position (has_mark c.mark_of.result) names ≡ Some c.in-Some.first = sym c.in-Some.ensures in
    none_before_first name names c.in-Some.first (subst (λ m. position (has_mark m) names ≡ Some c.in-Some.first) c.mark_of.ensures first)

pub returns-then-eq : goal.returns-then-eq
returns-then-eq c = sym (position_first (bytes_eq c.args.name.now) c.args.self.now c.loop-number.number c.name.result.now c.name.ensures (sym c.eq.ensures ∙ c.if-eq.true) c.loop-number.invariant)

pub returns : goal.returns
returns c =
    sym (position_none (bytes_eq c.args.name.now) c.args.self.now (λ k x below at.
    c.loop-number.invariant k x (omega (arith, below, c.len-number-end.ensures, c.loop-number-test.false)) at))

pub loop-number-preserved : goal.loop-number-preserved
loop-number-preserved c = λ k x below at. elim (cases_lt k c.loop-number.number) [
  | inl before ↦ c.loop-number.invariant k x before at
  | inr here ↦
      let same : k ≡ c.loop-number.number = omega (arith, below, here) in
      let name : c.name.result.now ≡ x = same_Some c.name.result.now x (sym c.name.ensures ∙ ap (slice_get c.args.self.now) (sym same) ∙ at) in
      ap (bytes_eq c.args.name.now) (sym name) ∙ sym c.eq.ensures ∙ c.if-eq.false
]
