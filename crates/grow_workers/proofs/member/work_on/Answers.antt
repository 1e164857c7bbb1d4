use Rattle.std.proofs.Common.{IfSome, subst, sym}
use Rattle.grow_workers.specs.Inner.Sharing.{IsLogOf}
use Rattle.grow_workers.proofs.Joined.{seen_on}
use Rattle.grow_workers.proofs.Winning.{scout_grew}
use Rattle.grow_workers.proofs.member.work_on.Goals as goal

pub returns-clause-seen : goal.returns-clause-seen
returns-clause-seen g c =
    let shared = c.args.shared.now in
    let seen = c.requires.seen in
    let part = c.part_of.result in
    let grew = scout_grew shared.sys.now c.args.seat c.args.seen c.in_ok-scout.scout c.take_turns.new.scout part c.in_ok-scout.ensures c.part_of.ensures.part seen.area c.take_turns.ensures c.part_of.ensures.seen in
    record { seen = seen_on shared c.args.seat part.seat c.args.seen part.grid part.won _ seen.at_table grew; log = subst (λ l. IfSome l (IsLogOf shared.sys.now part.grid)) (sym c.part_of.ensures.log) tt }

pub returns-clause-grew : goal.returns-clause-grew
returns-clause-grew g c =
    scout_grew c.args.shared.now.sys.now c.args.seat c.args.seen c.in_ok-scout.scout c.take_turns.new.scout c.part_of.result c.in_ok-scout.ensures c.part_of.ensures.part c.requires.seen.area c.take_turns.ensures c.part_of.ensures.seen
