use Rattle.grow_workers.specs.Inner.Sharing.{start_grid}
use Rattle.grow_workers.proofs.Joined.{begins_in, seen_in, work_of}
use Rattle.grow_workers.proofs.member.work.Goals as goal

pub work_on-requires-clause-seen : goal.work_on-requires-clause-seen
work_on-requires-clause-seen g c κs within =
    let shared = c.args.shared.now in
    let start = c.args.start in
    seen_in shared start.seat (start_grid shared.sys.now start.seen) c.in_ok-seen.seen c.in_ok-seen.ensures.area c.in_ok-seen.ensures.tiles c.requires.start.seen

pub work_on-requires-clause-begins : goal.work_on-requires-clause-begins
work_on-requires-clause-begins g c κs within =
    let shared = c.args.shared.now in
    begins_in shared (start_grid shared.sys.now c.args.start.seen) c.in_ok-seen.seen c.in_ok-seen.ensures.tiles c.requires.start.begins

pub returns : goal.returns
returns g c = work_of c.args.shared.now c.args.start c.in_ok-seen.seen c.work_on.result c.in_ok-seen.ensures.tiles c.work_on.ensures.seen c.work_on.ensures.grew
