use Rattle.std.proofs.Common.{[], ap, append-nil, length, ◌∷◌, codes, decimal, filter, ℕ, List}
use Rattle.std.proofs.lemmas.Result.{err_from_is_err_and}
use Rattle.tile_io.proofs.Printing.{PassesOn-both, PassesOn-fails, PassesOn-text, Prints-flushed, Prints-lost, Prints-text}
use Rattle.job_board.specs.AnswerText.{batch_text, is_unique}
use Rattle.job_board.proofs.printing.print_batch.Goals as goal
use Rattle.tile_io.specs.Lines.{line_of}
use Rattle.unique_law.specs.Outcomes.{Outcome}

abbrev done : ℕ → ℕ → List ℕ
done jobs yeses = line_of (codes "done" ∷ decimal jobs ∷ codes "yes" ∷ decimal yeses ∷ [])

pub returns-in_err-put_answers : goal.returns-in_err-put_answers
returns-in_err-put_answers g c =
    let p = err_from_is_err_and c.from_residual.result c.from_residual.ensures.1 in
    rw p.1 (Prints-lost (done (length c.args.jobs.now) (length (filter (λ (outcome : Outcome). is_unique outcome.verdict) c.args.outcomes.now))) c.new-chunk.ensures c.in_err-put_answers.ensures)

pub returns-in_err-put_done : goal.returns-in_err-put_done
returns-in_err-put_done g c =
    let text = batch_text c.args.jobs.now c.args.outcomes.now in
    let told = ap (λ n. done (length c.args.jobs.now) n) c.count_yes.ensures in
    let p = err_from_is_err_and c.from_residual-in_err-put_done.result c.from_residual-in_err-put_done.ensures.1 in
    rw p.1 (Prints-text (append-nil text) (Prints-lost [] c.new-chunk.ensures (PassesOn-fails c.in_ok-put_answers.ensures (PassesOn-text told c.in_err-put_done.ensures))))

pub returns : goal.returns
returns g c =
    let told = ap (λ n. done (length c.args.jobs.now) n) c.count_yes.ensures in
    Prints-flushed c.flush.result c.new-chunk.ensures (PassesOn-both c.in_ok-put_answers.ensures (PassesOn-text told c.in_ok-put_done.ensures)) c.flush.ensures.bytes
