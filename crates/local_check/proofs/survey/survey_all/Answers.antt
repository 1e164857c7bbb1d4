use Rattle.std.proofs.Common.{rules, length, ℕ, subst}
use Rattle.std.proofs.lemmas.Result.{IfOk-weaker}
use Rattle.fan_out.specs.Portions.{InARow}
use Rattle.fan_out.proofs.InARow.{row_map}
use Rattle.local_check.specs.Inner.Portions.{SurveysPortion}
use Rattle.local_check.proofs.survey.survey_all.Goals as goal

pub returns : goal.returns
returns g c =
    let sys = c.args.laid.now.sys.now in
    let s = c.args.laid.now.seq.now in
    let surveys = c.in_ok-surveys.surveys.items in
    let row : InARow (SurveysPortion sys s) 0 0 c.len.result surveys =
    row_map _ (SurveysPortion sys s) (λ worker start end found below said. search rules) 0 0 c.len.result surveys c.in_ok-surveys.ensures.each
    in
    IfOk-weaker c.one_survey.result _ _ (λ survey all. all sys s (length s) (subst (λ (end : ℕ). InARow (SurveysPortion sys s) 0 0 end surveys) c.len.ensures row)) c.one_survey.ensures
