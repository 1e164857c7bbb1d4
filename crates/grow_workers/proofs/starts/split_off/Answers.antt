use Rattle.std.proofs.Common.{◌≡◌, ◌<◌, ◌+◌, ◌-◌, ◌++◌, [], ◌∷◌, List, All, length, length-append, sym, ap, subst, arith}
use Rattle.std.proofs.lemmas.List.Elements.{All-push}
use Rattle.atam.specs.Placements.{SamePlacements}
use Rattle.grow_workers.specs.declared.starts.Start.{Start}
use Rattle.grow_workers.specs.Inner.Sharing.{ArePartedOff, IsStart, start_grid}
use Rattle.grow_workers.specs.Inner.Wins.{HasNumbers}
use Rattle.grow_workers.proofs.Joined.{begins_in, given_grid, parted_more, seen_in}
use Rattle.grow_workers.proofs.starts.split_off.Goals as goal

pub loop-worker-preserved : goal.loop-worker-preserved
loop-worker-preserved g c =
    let inv = c.loop-worker.invariant in
    let shared = c.args.shared.now in
    let rest = c.part_off-rest.result.0 in
    let old = c.loop-worker.starts.items in
    let start : Start = record { worker = c.loop-worker.worker; seat = c.part_off-rest.result.1; seen = c.in_ok-grid_for_another.field-0 } in
    let longer : c.push.new.self.items ≡ old ++ start ∷ [] = c.in_ok-push.ensures.items in
    let few : c.loop-worker.worker < shared.workers.count = omega (arith, c.loop-worker-test.true, c.get-workers.ensures.count) in
    let left : c.get-workers.result - c.loop-worker.worker + 1 - 1 ≡ shared.workers.count - (c.loop-worker.worker + 1) + 1 = omega (arith, few, c.get-workers.ensures.count) in
    let Same : Start → Type 0 = λ s. SamePlacements c.args.seen.now.tiles (start_grid shared.sys.now s.seen).tiles in
    let given = given_grid shared.sys.now c.args.seen.now c.is_in_order-are_seeds.result start.seen c.requires.seen.area (λ said. c.requires.begins (c.is_in_order-are_seeds.ensures.0 said)) c.in_ok-grid_for_another.ensures in
    let same : Same start = given.1 in
    let one : IsStart shared start = record { worker = few; seen = seen_in shared start.seat c.args.seen.now (start_grid shared.sys.now start.seen) given.0 same c.part_off-rest.ensures.second; begins = begins_in shared c.args.seen.now (start_grid shared.sys.now start.seen) same c.requires.begins } in
    let count = inv.count in
    let many = ap length longer in
    let both = length-append old (start ∷ []) in
    record {
      some = omega arith;
      few = omega (arith, few);
      numbers = subst (λ n. HasNumbers n rest.scout.owned) left c.part_off-rest.ensures.numbers;
      seen = c.part_off-rest.ensures.first;
      parted = subst (λ (l : List Start). ArePartedOff c.args.seat l rest) (sym longer) (parted_more c.args.seat c.loop-worker.kept rest old start inv.parted c.part_off-rest.ensures.parted);
      grids = subst (All Same) (sym longer) (All-push Same old start inv.grids same);
      each = subst (All (IsStart shared)) (sym longer) (All-push (IsStart shared) old start inv.each one);
      count = omega (arith, count, many, both);
    }
