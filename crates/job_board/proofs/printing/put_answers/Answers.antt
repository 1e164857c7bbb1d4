use Rattle.std.proofs.Common.{◌≡◌, ◌++◌, ◌+◌, ◌≤◌, [], length, drop, slice_get, None, refl, sym, ap, ◌∙◌, arith, append-nil}
use Rattle.std.proofs.lemmas.List.{append_assoc}
use Rattle.std.proofs.lemmas.Option.{slice_get_read}
use Rattle.std.proofs.lemmas.Result.{err_from_is_err_and}
use Rattle.std.specs.Option.{option_copied}
use Rattle.tile_io.proofs.Printing.{PassesOn-both, PassesOn-fails, PassesOn-stopped, PassesOn-text}
use Rattle.job_board.specs.Answers.{Answers}
use Rattle.job_board.specs.AnswerText.{answer_text}
use Rattle.job_board.proofs.Outcomes.{AllZip-at, AllZip-length}
use Rattle.job_board.proofs.Printed.{PassesOn-nothing, answers_from, answers-empty, answers-next, answers-end}
use Rattle.job_board.proofs.printing.put_answers.Goals as goal

pub loop-number-init : goal.loop-number-init
loop-number-init g c = record { printed = []; passes = PassesOn-nothing g.K.Sink.written g.K.Sink.faults c.args.sink.now c.args.chunk.now; others = refl }

pub returns-in_default : goal.returns-in_default
returns-in_default g c =
    let none : slice_get c.args.jobs.now 0 ≡ None = sym c.first.ensures.value ∙ ap (λ found. option_copied found) c.in_default.is in
    PassesOn-text (answers-empty c.args.jobs.now c.args.outcomes.now none) (PassesOn-nothing g.K.Sink.written g.K.Sink.faults c.args.sink.now c.args.chunk.now)

pub bounds-outcomes-number : goal.bounds-outcomes-number
bounds-outcomes-number g c = omega (arith, AllZip-length _ _ _ c.requires)

pub put_answer-requires : goal.put_answer-requires
put_answer-requires g c =
    let here = slice_get_read c.args.jobs.now _ c.loop-number.number c.index-jobs-number.result refl (omega arith) c.index-jobs-number.is in
    let there = slice_get_read c.args.outcomes.now _ c.loop-number.number c.index-outcomes-number.result refl (omega (arith, AllZip-length _ _ _ c.requires)) c.index-outcomes-number.is in
    AllZip-at (λ job outcome. Answers job.sys outcome) c.args.jobs.now c.args.outcomes.now c.loop-number.number _ _ c.requires here there

pub loop-number-preserved : goal.loop-number-preserved
loop-number-preserved g c =
    let jobs = c.args.jobs.now in
    let outcomes = c.args.outcomes.now in
    let k = c.loop-number.number in
    let before = c.loop-number.invariant in
    let job = c.index-jobs-number.result in
    let outcome = c.index-outcomes-number.result in
    let here = slice_get_read jobs _ k job refl (omega arith) c.index-jobs-number.is in
    let there = slice_get_read outcomes _ k outcome refl (omega (arith, AllZip-length _ _ _ c.requires)) c.index-outcomes-number.is in
    let next = answers-next k k jobs outcomes job outcome here there in
    record {
      printed = before.printed ++ answer_text (k, (job, outcome));
      passes = PassesOn-both before.passes c.in_ok-put_answer.ensures;
      others = append_assoc before.printed (answer_text (k, (job, outcome))) (answers_from (k + 1) (drop (k + 1) jobs) (drop (k + 1) outcomes)) ∙ (ap (λ rest. before.printed ++ rest) (sym next) ∙ before.others);
    }

pub returns-in_err-put_answer : goal.returns-in_err-put_answer
returns-in_err-put_answer g c =
    let jobs = c.args.jobs.now in
    let outcomes = c.args.outcomes.now in
    let k = c.loop-number.number in
    let before = c.loop-number.invariant in
    let job = c.index-jobs-number.result in
    let outcome = c.index-outcomes-number.result in
    let here = slice_get_read jobs _ k job refl (omega arith) c.index-jobs-number.is in
    let there = slice_get_read outcomes _ k outcome refl (omega (arith, AllZip-length _ _ _ c.requires)) c.index-outcomes-number.is in
    let next = answers-next k k jobs outcomes job outcome here there in
    let rest = answers_from (k + 1) (drop (k + 1) jobs) (drop (k + 1) outcomes) in
    let told = append_assoc before.printed (answer_text (k, (job, outcome))) rest ∙ (ap (λ more. before.printed ++ more) (sym next) ∙ before.others) in
    let p = err_from_is_err_and c.from_residual.result c.from_residual.ensures.1 in
    rw p.1 (PassesOn-text told (PassesOn-stopped rest (PassesOn-fails before.passes c.in_err-put_answer.ensures)))

pub returns : goal.returns
returns g c =
    let jobs = c.args.jobs.now in
    let outcomes = c.args.outcomes.now in
    let k = c.loop-number.number in
    let before = c.loop-number.invariant in
    let past : length jobs ≤ k = omega arith in
    let all = sym (append-nil before.printed) ∙ (ap (λ rest. before.printed ++ rest) (sym (answers-end k k jobs outcomes past)) ∙ before.others) in
    PassesOn-text all before.passes
