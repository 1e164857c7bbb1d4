use Rattle.std.proofs.Common.{ℕ, IfOk, subst}
use Rattle.local_check.specs.Inner.Surveys.{IsSurvey}
use Rattle.local_check.proofs.survey.survey_whole.Goals as goal

pub returns : goal.returns
returns c =
    let sys = c.args.laid.now.sys.now in
    let s = c.args.laid.now.seq.now in
    subst (λ (n : ℕ). IfOk c.survey_portion.result (IsSurvey sys s 0 n)) c.len.ensures c.survey_portion.ensures
