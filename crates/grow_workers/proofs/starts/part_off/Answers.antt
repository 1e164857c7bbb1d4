use Rattle.std.proofs.Common.{subst, sym, ◌∙◌, ◌-◌}
use Rattle.atam.proofs.Tiles.{same_back, SamePlacements-trans}
use Rattle.grow_workers.specs.Inner.Wins.{HasNumbers}
use Rattle.grow_workers.proofs.Winning.{two_numbers}
use Rattle.grow_workers.proofs.starts.part_off.Goals as goal

pub split-requires-clause-two : goal.split-requires-clause-two
split-requires-clause-two g c = (two_numbers c.args.left c.args.seat.scout.owned c.requires.many c.requires.numbers).0

pub returns-clause-parted : goal.returns-clause-parted
returns-clause-parted g c = record {
  table = c.split.ensures.first.table ∙ sym c.requires.seen.at_table.table;
  system = c.split.ensures.first.sys ∙ sym c.requires.seen.at_table.sys;
  real = c.recall_possible.ensures.possible;
  two = (two_numbers c.args.left c.args.seat.scout.owned c.requires.many c.requires.numbers).0;
  is_kept = c.split.ensures.kept;
  is_given = c.split.ensures.given;
}

pub returns-clause-numbers : goal.returns-clause-numbers
returns-clause-numbers g c =
    subst (λ n. HasNumbers (c.args.left - 1) n) (sym c.split.ensures.kept.owned) (two_numbers c.args.left c.args.seat.scout.owned c.requires.many c.requires.numbers).1

pub returns-clause-first : goal.returns-clause-first
returns-clause-first g c = record {
  at_table = c.split.ensures.first;
  area = c.requires.seen.area;
  seen = SamePlacements-trans c.split.result.0.scout.seen c.args.seat.scout.seen c.args.seen.now.tiles (same_back c.args.seat.scout.seen c.split.result.0.scout.seen c.split.ensures.kept.seen) c.requires.seen.seen;
}

pub returns-clause-second : goal.returns-clause-second
returns-clause-second g c = record {
  at_table = c.split.ensures.second;
  area = c.requires.seen.area;
  seen = SamePlacements-trans c.split.result.1.scout.seen c.args.seat.scout.seen c.args.seen.now.tiles (same_back c.args.seat.scout.seen c.split.result.1.scout.seen c.split.ensures.given.seen) c.requires.seen.seen;
}
