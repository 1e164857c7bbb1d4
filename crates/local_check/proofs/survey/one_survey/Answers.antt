use Rattle.std.proofs.Common.{◌≡◌, ◌∙◌, suc, [], ℕ, List, Result, sym, subst}
use Rattle.std.proofs.lemmas.Result.{IfOk-at_ok}
use Rattle.std.proofs.lemmas.List.{nil_from_length}
use Rattle.tile_system.specs.declared.memory.NoMemory.{NoMemory}
use Rattle.fan_out.specs.Portions.{InARow}
use Rattle.fan_out.proofs.InARow.{first_rest}
use Rattle.local_check.specs.declared.survey.Survey.{Survey}
use Rattle.local_check.specs.Inner.Portions.{SurveysPortion}
use Rattle.local_check.specs.Inner.Surveys.{IsSurvey}
use Rattle.local_check.proofs.survey.one_survey.Goals as goal

pub loop-survey-init : goal.loop-survey-init
loop-survey-init c sys s end row =
    let all = first_rest c.args.surveys.items c.remove.new.self.items c.remove.result c.requires c.remove.ensures.value c.remove.ensures.items in
    let Row : List (Result Survey NoMemory) → Type 0 = λ l. InARow (SurveysPortion sys s) 0 0 end l in
    let parted = subst Row all row in
    let Rest : List (Result Survey NoMemory) → Type 0 = λ l. InARow (SurveysPortion sys s) 1 parted.0 end l in
    (1, parted.0, IfOk-at_ok (IsSurvey sys s 0 parted.0) c.in_ok-whole.was parted.2, subst Rest (sym c.into_iter-survey-iterator.ensures.into_iter_gives.0) parted.3)

pub loop-survey-preserved : goal.loop-survey-preserved
loop-survey-preserved c sys s end row =
    let before = c.loop-survey.invariant sys s end row in
    let Row : List (Result Survey NoMemory) → Type 0 = λ l. InARow (SurveysPortion sys s) before.0 before.1 end l in
    let parted = subst Row c.in-Some.ensures.steps.0 before.3 in
    let behind = IfOk-at_ok (IsSurvey sys s before.1 parted.0) c.in_ok-survey.was parted.2 in
    (suc before.0, parted.0, c.in_ok-append.ensures sys s 0 before.1 parted.0 before.2 behind, parted.3)

pub returns : goal.returns
returns c sys s end row =
    let before = c.loop-survey.invariant sys s end row in
    let rest = c.loop-survey.survey-iterator.rest in
    let none : rest.items ≡ [] = nil_from_length rest.items (sym rest.ok.0 ∙ c.in-None.ensures.steps.0) in
    let Row : List (Result Survey NoMemory) → Type 0 = λ l. InARow (SurveysPortion sys s) before.0 before.1 end l in
    subst (λ (n : ℕ). IsSurvey sys s 0 n c.loop-survey.whole) (subst Row none before.3) before.2
