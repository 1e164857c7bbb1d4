use Rattle.std.proofs.Common.{◌≡◌, ◌∷◌, ◌∙◌, ℕ, IfSome, length, subst, sym, ap, arith}
use Rattle.grow_workers.specs.Workers.{GrewOn, OwnsAtLeast}
use Rattle.grow_workers.specs.Inner.Sharing.{IsLogOf}
use Rattle.grow_workers.proofs.Numbering.{owns_many}
use Rattle.grow_workers.proofs.Whole.{log_of, whole_of}
use Rattle.grow_workers.proofs.growth.grow_whole.Goals as goal

pub grow_together-requires-clause-numbers : goal.grow_together-requires-clause-numbers
grow_together-requires-clause-numbers g c κs within =
    let few = c.args.workers.few in
    let count = ap (λ w. w.count) c.of-shared.ensures.workers in
    subst (λ n. OwnsAtLeast n c.in_ok-table.field-0.seat.scout.owned) (sym count)
    (subst (OwnsAtLeast c.args.workers.count) (sym c.in_ok-table.ensures.scout.owned) (owns_many c.args.workers.count (omega (arith, few))))

pub returns-clause-growth : goal.returns-clause-growth
returns-clause-growth g c =
    let sys = c.args.lent.now.sys.now in
    let prepared = c.in_ok-table.field-0 in
    let team = c.in_ok-team.team in
    let wins = team.part.won ∷ team.others.items in
    let grew = subst (λ z. GrewOn z prepared.seat prepared.seen team.part.seat team.part.grid wins) c.of-shared.ensures.system c.in_ok-team.ensures.grew in
    let count = c.in_ok-team.ensures.count in
    let workers = ap (λ w. w.count) c.of-shared.ensures.workers in
    whole_of sys prepared c.args.workers.count team.part.seat team.part.grid wins c.close.result c.in_ok-table.ensures grew (omega (arith, count, workers)) c.args.workers.few c.close.ensures.growth

pub returns-clause-log : goal.returns-clause-log
returns-clause-log g c =
    let sys = c.args.lent.now.sys.now in
    let part = c.in_ok-team.team.part in
    let log = subst (λ z. IfSome part.log (IsLogOf z part.grid)) c.of-shared.ensures.system c.in_ok-team.ensures.log in
    log_of sys c.in_ok-table.field-0 part.grid c.close.result part.log c.in_ok-table.ensures log c.close.ensures.log
