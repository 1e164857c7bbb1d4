use Rattle.std.proofs.Common.{[], ◌∷◌, Some, subst, refl, arith}
use Rattle.grow_workers.specs.Workers.{GrewOn}
use Rattle.grow_workers.specs.Inner.Sharing.{IsLogOf}
use Rattle.grow_workers.proofs.Ordering.{grew_alone}
use Rattle.grow_workers.proofs.Whole.{log_of, whole_of}
use Rattle.grow_workers.proofs.in_order.claim_in_order.Goals as goal

pub returns-clause-growth : goal.returns-clause-growth
returns-clause-growth g c =
    let prepared = c.in_ok-table.field-0 in
    let part = c.in_ok-part.part in
    let alone = grew_alone c.of-shared.result.sys.now prepared.seen prepared.seat part.seat part.grid part.won c.in_ok-table.ensures.scout.owned c.in_ok-part.ensures.log.closed c.in_ok-part.ensures.grew in
    let grew = subst (λ z. GrewOn z prepared.seat prepared.seen part.seat part.grid (part.won ∷ [])) c.of-shared.ensures.system alone in
    whole_of c.args.lent.now.sys.now prepared 1 part.seat part.grid (part.won ∷ []) c.close.result c.in_ok-table.ensures grew refl (omega arith) c.close.ensures.growth

pub returns-clause-log : goal.returns-clause-log
returns-clause-log g c =
    let part = c.in_ok-part.part in
    let log = c.in_ok-part.log in
    log_of c.args.lent.now.sys.now c.in_ok-table.field-0 part.grid c.close.result (Some log) c.in_ok-table.ensures (subst (λ z. IsLogOf z part.grid log) c.of-shared.ensures.system c.in_ok-part.ensures.log)
    c.close.ensures.log

pub returns-clause-sole : goal.returns-clause-sole
returns-clause-sole g c = c.in_ok-part.ensures.sole c.in_ok-table.ensures.scout.owned
