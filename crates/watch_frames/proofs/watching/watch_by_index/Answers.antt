use Rattle.std.proofs.Common.{rules, ◌≡◌, ◌-◌, ◌^◌, ℕ, [], length, sym, ◌∙◌, ap, subst, arith}
use Rattle.atam.specs.Placements.{SamePlacements}
use Rattle.atam.specs.TileSystem.{TileSystem}
use Rattle.assembly.specs.Grids.{TileGrid}
use Rattle.grow_core.specs.Core.{greatest, placed_by, OwnsTwoOrMore}
use Rattle.grow_core.specs.Steps.{kept_tiles}
use Rattle.grow_core.proofs.Numbers.{two-all}
use Rattle.site_table.specs.Seats.{SeatValue, Closes}
use Rattle.grow_workers.specs.Workers.{GrewOn, OwnsAtLeast}
use Rattle.watch_frames.specs.Frames.{FrameList, AreFrames}
use Rattle.grow_workers.proofs.Splitting.{rest_owns, seeds_seen}
use Rattle.watch_frames.proofs.Watched.{is_watched, total, watcher_won, idle_won}
use Rattle.watch_frames.proofs.watching.watch_by_index.Goals as goal

pub split-kept-requires-clause-two : goal.split-kept-requires-clause-two
split-kept-requires-clause-two g c = subst OwnsTwoOrMore (sym c.in_ok-table.ensures.scout.owned) two-all

pub make-requires-2-clause-seen : goal.make-requires-2-clause-seen
make-requires-2-clause-seen g c =
    let given = c.split-kept.result.1.scout.seen in
    let same : SamePlacements given c.in_ok-seen.seen.tiles = seeds_seen c.args.lent.now.sys.now.seeds c.in_ok-table.seat.scout.seen given c.in_ok-seen.seen.tiles c.in_ok-table.ensures.scout.seen c.split-kept.ensures.given.seen c.in_ok-seen.ensures.seeds in
    subst (λ (grid : TileGrid). SamePlacements given grid.tiles) (sym c.in_ok-own.ensures) same

pub grow_watched-watcher-requires-clause-numbers : goal.grow_watched-watcher-requires-clause-numbers
grow_watched-watcher-requires-clause-numbers g c κs within =
    let few = c.args.workers.few in
    let all = c.in_ok-table.ensures.scout.owned in
    let rest = c.split-kept.ensures.kept.owned ∙ ap (λ (o : ℕ). o - 2 ^ greatest o) all in
    subst (OwnsAtLeast c.args.workers.count) (sym rest) (rest_owns c.args.workers.count (omega (arith, few)))

pub grow_watched-watcher-requires-clause-seen : goal.grow_watched-watcher-requires-clause-seen
grow_watched-watcher-requires-clause-seen g c κs within =
    seeds_seen c.args.lent.now.sys.now.seeds c.in_ok-table.seat.scout.seen c.split-kept.result.0.scout.seen c.in_ok-seen.seen.tiles c.in_ok-table.ensures.scout.seen c.split-kept.ensures.kept.seen c.in_ok-seen.ensures.seeds

pub returns : goal.returns
returns g c =
    let sys = c.args.lent.now.sys.now in
    let frames = c.end-given.result.2 in
    let watcher = c.grow_watched-watcher.result.0 in
    let done = c.grow_watched-watcher.ensures.watched in
    let kept = c.in_ok-kept.kept in
    let given = c.end-given.result.0 in
    let joined = c.join-seat.result in
    let first = c.in_ok-table.seat.scout in
    let all = c.in_ok-table.ensures.scout.owned in
    let table_sys : c.in_ok-table.table.sys ≡ sys = c.in_ok-table.ensures.table in
    let was_given : c.in-Ok.watcher.seat ≡ c.split-kept.result.1 = c.in-Ok.ensures.seat.0 in
    let ended : given ≡ watcher.seat = c.end-given.ensures.seat in
    let seat_sys : watcher.seat.sys ≡ sys = done.goes.sys ∙ ap (λ (s : SeatValue). s.sys) was_given ∙ c.split-kept.ensures.second.sys ∙ table_sys in
    let are : AreFrames sys frames.places frames.counts = subst (λ (z : TileSystem). AreFrames z frames.places frames.counts) seat_sys c.end-given.ensures.are in
    let taken : length frames.counts ≡ c.args.frames = ap (λ (f : FrameList). length f.counts) c.end-given.ensures.frames ∙ done.taken ∙ c.in-Ok.ensures.many in
    let grew : GrewOn sys c.split-kept.result.0 c.in_ok-seen.seen kept c.in_ok-kept.grid c.in_ok-kept._wins.items = search rules in
    let closes : Closes sys joined.scout c.close.result = subst (λ (z : TileSystem). Closes z joined.scout c.close.result) table_sys c.close.ensures in
    let rest : kept.scout.owned ≡ 2 ^ 64 - 1 - 2 ^ greatest (2 ^ 64 - 1) = grew.seat.owned ∙ c.split-kept.ensures.kept.owned ∙ ap (λ (o : ℕ). o - 2 ^ greatest o) all in
    let top : given.scout.owned ≡ 2 ^ greatest (2 ^ 64 - 1) =
    ap (λ (s : SeatValue). s.scout.owned) ended ∙ done.goes.owned ∙ ap (λ (s : SeatValue). s.scout.owned) was_given ∙ c.split-kept.ensures.given.owned ∙ ap (λ (o : ℕ). 2 ^ greatest o) all
    in
    let none : given.scout.mine ≡ [] =
    ap (λ (s : SeatValue). s.scout.mine) ended ∙ done.mine ∙ ap (λ (s : SeatValue). s.scout.mine) was_given ∙ c.split-kept.ensures.given.mine
    ∙ ap (placed_by (greatest first.owned)) c.in_ok-table.ensures.scout.mine
    in
    let none_old : c.split-kept.result.0.scout.mine ≡ [] =
    c.split-kept.ensures.kept.mine ∙ ap (kept_tiles (greatest first.owned)) c.in_ok-table.ensures.scout.mine
    in
    let few = c.args.workers.few in
    let count : length c.in_ok-kept._wins.items ≡ c.args.workers.count = search rules in
    record {
      watched = is_watched sys c.args.frames frames.places frames.counts c.split-kept.result.0 kept given joined c.in_ok-seen.seen c.in_ok-kept.grid c.in_ok-kept._wins.items c.close.result
          c.recall_valid.ensures.valid are taken c.end-given.ensures.part c.join-seat.ensures.union c.in_ok-seen.ensures.seeds grew c.recall_sites.ensures.distinct closes;
      grew = record {
        placed = record {
          area = closes.area;
          numbers = closes.numbers;
          idle = idle_won sys kept.scout given.scout joined.scout c.close.result rest top c.join-seat.ensures.union closes kept.sys c.recall_possible.ensures.possible none
              c.split-kept.result.0.scout (sym grew.seat.owned) none_old c.in_ok-kept._wins.items grew.workers_win c.args.workers.count count few;
          total = total sys kept.scout given.scout joined.scout c.close.result rest top c.join-seat.ensures.union closes c.recall_valid.ensures.valid;
        };
        watcher = watcher_won sys kept.scout given.scout joined.scout c.close.result rest top c.join-seat.ensures.union closes kept.sys c.recall_possible.ensures.possible none;
      };
    }
