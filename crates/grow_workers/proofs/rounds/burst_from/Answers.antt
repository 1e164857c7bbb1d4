use Rattle.std.proofs.Common.{◌+◌, [], length, IfSome, subst, sym}
use Rattle.frontier_seat.specs.declared.growing.Growing.{Growing}
use Rattle.grow_workers.specs.Inner.Rounds.{IsFar}
use Rattle.grow_workers.specs.Inner.Sharing.{IsLogOf, IsSeenPart, start_grid}
use Rattle.grow_workers.proofs.Joined.{seen_in, seen_on}
use Rattle.grow_workers.proofs.Stages.{round_of}
use Rattle.grow_workers.proofs.Winning.{scout_grew}
use Rattle.grow_workers.proofs.rounds.burst_from.Goals as goal

pub returns : goal.returns
returns g c =
    let shared = c.args.shared.now in
    let start = c.args.start in
    let grid = c.in_ok-seen.seen in
    let part = c.part_of.result in
    let here = seen_in shared start.seat (start_grid shared.sys.now start.seen) grid c.in_ok-seen.ensures.area c.in_ok-seen.ensures.tiles c.requires.start.seen in
    let grew = scout_grew shared.sys.now start.seat grid c.in_ok-scout.scout c.burst_counted.new.scout part c.in_ok-scout.ensures c.part_of.ensures.part here.area c.burst_counted.ensures.goes c.part_of.ensures.seen in
    let left : IsSeenPart shared part = record {
      seen = seen_on shared start.seat part.seat grid part.grid part.won [] here.at_table grew;
      log = subst (λ l. IfSome l (IsLogOf shared.sys.now part.grid)) (sym c.part_of.ensures.log) tt;
    } in
    let far : IsFar shared.sys.now (length grid.tiles + 4096) part.grid =
    subst (λ (h : Growing). IsFar shared.sys.now (length grid.tiles + 4096) h.grid) c.part_of.ensures.part
    (subst (λ (h : Growing). IsFar shared.sys.now (length h.grid.tiles + 4096) c.burst_counted.new.scout.grid) c.in_ok-scout.ensures c.burst_counted.ensures.far) in
    round_of shared start grid part c.in_ok-seen.ensures.tiles c.recall_sites.ensures.distinct left grew far
