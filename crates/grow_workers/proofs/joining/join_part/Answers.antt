use Rattle.std.proofs.Common.{◌≡◌, ◌∷◌, ◌∙◌, ℕ, List, if◌then◌else◌, subst, sym}
use Rattle.std.specs.Result.{is_ok}
use Rattle.atam.proofs.Placements.{same_tiles}
use Rattle.site_table.specs.Rule.{IsPossible}
use Rattle.site_table.specs.Seats.{IsPartOfGrowth}
use Rattle.grow_workers.specs.Inner.Wins.{PartedGrowth}
use Rattle.grow_workers.proofs.Winning.{united_grew, united_seen}
use Rattle.grow_workers.proofs.Stages.{far_joined}
use Rattle.grow_workers.proofs.Whole.{closed_by_log, log_stays, nothing_comes}
use Rattle.grow_workers.proofs.joining.join_part.Goals as goal

pub take_over-requires-clause-agree : goal.take_over-requires-clause-agree
take_over-requires-clause-agree g c m t u one other =
    let rest = c.args.rest.part in
    let part = c.args.part in
    c.join-seat.ensures.agree m t u
    ((same_tiles rest.seat.scout.seen rest.grid.tiles c.recall_possible.ensures.possible.scout.distinct c.recall_sites.ensures.distinct c.requires.first.seen.seen).1 m t one)
    ((same_tiles part.seat.scout.seen part.grid.tiles c.recall_possible-2.ensures.possible.scout.distinct c.recall_sites-2.ensures.distinct c.requires.second.seen).1 m u other)

pub returns-clause-grew : goal.returns-clause-grew
returns-clause-grew g c old kept given start is parted rest_grew part_grew =
    let sys = c.args.shared.now.sys.now in
    let rest = c.args.rest.part in
    let part = c.args.part in
    let others = c.args.rest.others.items in
    let joined = c.join-seat.ensures in
    let real_kept : IsPossible sys rest.seat.scout = subst (λ z. IsPossible z rest.seat.scout) (c.requires.first.seen.at_table.sys ∙ c.requires.shared.system) c.recall_possible.ensures.possible in
    let real_given : IsPossible sys part.seat.scout = subst (λ z. IsPossible z part.seat.scout) (c.requires.second.at_table.sys ∙ c.requires.shared.system) c.recall_possible-2.ensures.possible in
    let done : c.insert.new.self.items ≡ part.won ∷ others =
    subst (λ r. c.insert.new.self.items ≡ (if is_ok r then part.won ∷ others else others)) c.in_ok-insert.was c.insert.ensures.items in
    subst (λ (l : List ℕ). PartedGrowth sys old start c.join-seat.result c.take_over.new.grid rest.won l) (sym done)
    (united_grew sys old kept rest.seat given part.seat c.join-seat.result start rest.grid part.grid c.take_over.new.grid rest.won part.won others parted rest_grew part_grew real_kept real_given
    (joined.seat.table ∙ sym is.table) (joined.seat.sys ∙ sym is.sys) joined.union c.take_over.ensures.area c.take_over.ensures.placements)

pub returns-clause-part : goal.returns-clause-part
returns-clause-part g c =
    let rest = c.args.rest.part in
    let part = c.args.part in
    record {
      seen = record {
        at_table = c.join-seat.ensures.seat;
        area = c.take_over.ensures.area ∙ c.requires.first.seen.area;
        seen = united_seen rest.seat.scout.seen part.seat.scout.seen c.join-seat.result.scout.seen rest.grid.tiles part.grid.tiles c.take_over.new.grid.tiles c.requires.first.seen.seen c.requires.second.seen
            c.join-seat.ensures.union.seen c.take_over.ensures.placements;
      };
      log = log_stays c.args.shared.now.sys.now rest.grid c.take_over.new.grid rest.log c.requires.first.log (λ said. c.take_over.ensures.whole (c.is_some.ensures ∙ said));
    }

pub take_over-requires-clause-whole : goal.take_over-requires-clause-whole
take_over-requires-clause-whole g c said =
    let sys = c.args.shared.now.sys.now in
    let rest = c.args.rest.part in
    let part = c.args.part in
    let joined = c.join-seat.ensures in
    let real : IsPossible sys rest.seat.scout = subst (λ z. IsPossible z rest.seat.scout) (c.requires.first.seen.at_table.sys ∙ c.requires.shared.system) c.recall_possible.ensures.possible in
    nothing_comes sys rest.grid.tiles part.grid.tiles rest.seat.scout.seen part.seat.scout.seen c.join-seat.result.scout.seen real.valid c.recall_sites.ensures.distinct real.scout.seeds c.requires.first.seen.seen c.requires.second.seen
    joined.union.seen (closed_by_log sys rest.grid rest.log c.requires.first.log (sym c.is_some.ensures ∙ said)) (subst (λ z. IsPartOfGrowth z c.join-seat.result.scout.seen) c.requires.shared.system joined.part)

pub returns-clause-far : goal.returns-clause-far
returns-clause-far g c n far =
    let sys = c.args.shared.now.sys.now in
    let rest = c.args.rest.part in
    let part = c.args.part in
    let joined = c.join-seat.ensures in
    let real : IsPossible sys rest.seat.scout = subst (λ z. IsPossible z rest.seat.scout) (c.requires.first.seen.at_table.sys ∙ c.requires.shared.system) c.recall_possible.ensures.possible in
    far_joined sys n rest.grid part.grid c.take_over.new.grid rest.seat.scout.seen part.seat.scout.seen c.join-seat.result.scout.seen real.valid c.recall_sites.ensures.distinct c.recall_sites-3.ensures.distinct real.scout.seeds
    c.requires.first.seen.seen c.requires.second.seen joined.union.seen (subst (λ z. IsPartOfGrowth z c.join-seat.result.scout.seen) c.requires.shared.system joined.part) c.take_over.ensures.placements far
