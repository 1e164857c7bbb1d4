use Rattle.std.proofs.Common.{◌≡◌, ◌++◌, ◌∷◌, [], ◌+◌, List, length, Ok, Err, Vec, Global, ap, sym, subst, ◌∙◌, arith, length-append}
use Rattle.std.proofs.lemmas.Result.{err_from_is_err_and}
use Rattle.job_board.specs.declared.job.Job.{Job}
use Rattle.job_board.specs.BatchText.{BeginsBatch, ReadsBatch, sites_of}
use Rattle.job_board.specs.Inner.Reading.{FindsJob, FindsNext}
use Rattle.job_board.proofs.Reading.{batch_more, batch_stops, sites_more}
use Rattle.job_board.proofs.reader.read_batch.Goals as goal

pub jobs-preserved : goal.jobs-preserved
jobs-preserved c =
    let text = c.args.text.now in
    let from = c.args.from in
    let old = c.jobs.jobs.items in
    let job = c.in-Some.found.0 in
    let next = c.in-Some.found.1 in
    let count = c.in-Some.found.2 in
    let found : FindsJob text c.jobs.mark old job next count =
    subst (λ (jobs : List Job). FindsJob text c.jobs.mark jobs job next count) c.as_slice.ensures.value
    (subst (λ o. FindsNext text c.jobs.mark c.as_slice.result.now (Ok o)) c.in-Some.is c.in_ok-read_next.ensures)
    in
    let items : c.push.new.self.items ≡ old ++ job ∷ [] = c.in-Ok.ensures.items in
    let begins = batch_more text from c.jobs.mark next old job count c.jobs.invariant.begins found in
    record {
      begins = subst (λ (jobs : List Job). BeginsBatch text from jobs next) (sym items) begins;
      mark = found.mark;
      sites = ap (λ n. n + count) c.jobs.invariant.sites ∙ (ap (λ n. sites_of old + n) found.count_is ∙ (sym (sites_more old job) ∙ ap sites_of (sym items)));
      few = omega (arith, found.few_jobs, ap (λ (jobs : List Job). length jobs) items, length-append old (job ∷ []));
    }

pub returns-in_err-read_next-clause-read : goal.returns-in_err-read_next-clause-read
returns-in_err-read_next-clause-read c =
    let text = c.args.text.now in
    let stop = c.in_err-read_next.field-0.0 in
    let p = err_from_is_err_and c.from_residual-in_err-read_next.result c.from_residual-in_err-read_next.ensures.1 in
    let stops : FindsNext text c.jobs.mark c.jobs.jobs.items (Err stop) =
    subst (λ (jobs : List Job). FindsNext text c.jobs.mark jobs (Err stop)) c.as_slice.ensures.value c.in_err-read_next.ensures
    in
    rw (p.1, p.2) (batch_stops (λ (found : Vec Job Global). ReadsBatch text c.args.from found.items) text c.args.from c.jobs.mark c.jobs.jobs.items stop c.jobs.invariant.begins stops)
