use Rattle.std.proofs.Common.{arith}
use Rattle.std.proofs.lemmas.Result.{IfOk-weaker}
use Rattle.grow_workers.specs.declared.leavings.Harvest.{Harvest}
use Rattle.grow_workers.proofs.Numbering.{numbers_suffice}
use Rattle.grow_workers.proofs.Joined.{team_grew, works_seen}
use Rattle.grow_workers.proofs.Winning.{first_few}
use Rattle.grow_workers.proofs.growth.grow_together.Goals as goal

pub split-requires-clause-numbers : goal.split-requires-clause-numbers
split-requires-clause-numbers g c κs within =
    let possible = c.recall_possible.ensures.possible in
    numbers_suffice c.args.shared.now.workers.count c.args.seat.scout.owned possible.scout.some_number possible.scout.numbers c.requires.numbers

pub join-requires-clause-each : goal.join-requires-clause-each
join-requires-clause-each g c κs within =
    works_seen c.args.shared.now c.in_ok-starts.starts.items c.in_ok-done.done.items c.in_ok-starts.ensures.starts.first c.in_ok-done.ensures

pub end-requires-clause-few : goal.end-requires-clause-few
end-requires-clause-few g c κs within =
    let team : Harvest = c.in_ok-team.team in
    let grew = c.in_ok-team.ensures.grew c.args.seat c.args.seen c.in_ok-starts.starts.items c.requires.seen.at_table c.in_ok-starts.ensures.starts c.in_ok-done.ensures in
    first_few c.args.shared.now.sys.now c.args.seat team.part.seat c.args.seen team.part.grid team.part.won team.others.items grew

pub returns-clause-grew : goal.returns-clause-grew
returns-clause-grew g c =
    let possible = c.recall_possible.ensures.possible in
    let team = c.in_ok-team.ensures.grew c.args.seat c.args.seen c.in_ok-starts.starts.items c.requires.seen.at_table c.in_ok-starts.ensures.starts c.in_ok-done.ensures in
    team_grew c.args.shared.now.sys.now c.args.seat c.args.seen c.end.result possible.scout.some_number possible.scout.numbers c.end.ensures.closed
    (IfOk-weaker c.end.result _ _ (λ h grew. grew c.args.seat c.args.seen team) c.end.ensures.grew)

pub returns-clause-count : goal.returns-clause-count
returns-clause-count g c =
    let joined = c.in_ok-team.ensures.count in
    let done = c.in_ok-done.ensures.count in
    let starts = c.in_ok-starts.ensures.count in
    IfOk-weaker c.end.result _ _ (λ h same. omega (arith, same, joined, done, starts)) c.end.ensures.count
