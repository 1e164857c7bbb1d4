use Rattle.std.proofs.lemmas.Result.{IfOk-weaker}
use Rattle.tilebench.proofs.Growths.{judged_types}
use Rattle.tilebench.proofs.commands.check.judgement_of.Goals as goal

pub returns-clause-types : goal.returns-clause-types
returns-clause-types c =
    IfOk-weaker c.judge_once.result _ _ (judged_types c.args.sys.now c.args.sequence.now) c.judge_once.ensures
