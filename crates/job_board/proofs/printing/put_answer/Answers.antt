use Rattle.std.proofs.Common.{rules, ◌≡◌, ◌∷◌, [], codes, decimal, ap}
use Rattle.std.proofs.lemmas.Result.{err_from_is_err_and}
use Rattle.tile_io.specs.Lines.{line_of}
use Rattle.tile_io.proofs.Printing.{PassesOn-then, PassesOn-stopped, PassesOn-text}
use Rattle.job_board.specs.AnswerText.{growth_text}
use Rattle.job_board.proofs.Told.{answer_order, answer_outside, answer_verdict}
use Rattle.job_board.proofs.printing.put_answer.Goals as goal

pub put_outcome-requires-clause-order : goal.put_outcome-requires-clause-order
put_outcome-requires-clause-order g c = answer_order c.args.job.now.sys c.args.outcome.now c.recall_valid.ensures.valid.distinct_seeds c.requires

pub put_outcome-requires-clause-outside : goal.put_outcome-requires-clause-outside
put_outcome-requires-clause-outside g c = answer_outside c.args.job.now.sys c.args.outcome.now c.requires

pub put_outcome-requires-clause-verdict : goal.put_outcome-requires-clause-verdict
put_outcome-requires-clause-verdict g c = answer_verdict c.args.job.now.sys c.args.outcome.now c.requires

pub returns-in_err-put_line : goal.returns-in_err-put_line
returns-in_err-put_line g c =
    let same : c.as_bytes.result.now ≡ decimal c.args.number = search rules in
    let told = ap (λ w. line_of (codes "job" ∷ w ∷ [])) same in
    let p = err_from_is_err_and c.from_residual.result c.from_residual.ensures.1 in
    rw p.1 (PassesOn-stopped (growth_text c.args.job.now.sys c.args.outcome.now) (PassesOn-text told c.in_err-put_line.ensures))

pub returns : goal.returns
returns g c =
    let same : c.as_bytes.result.now ≡ decimal c.args.number = search rules in
    let told = ap (λ w. line_of (codes "job" ∷ w ∷ [])) same in
    PassesOn-then c.put_outcome.result (PassesOn-text told c.in_ok-put_line.ensures) c.put_outcome.ensures
