use Rattle.std.proofs.Common.{◌≡◌, ◌≤◌, ◌<◌, ◌+◌, ◌*◌, ◌∙◌, ℕ, List, length, replicate, get_or, refl, sym, ap, subst, inl, inr, arith}
use Rattle.std.proofs.lemmas.Bool.{false≢true}
use Rattle.std.proofs.lemmas.List.{get_or-replicate, length-replicate}
use Rattle.atam.proofs.Count.{count_in_box}
use Rattle.assembly.specs.Grids.{TileGrid}
use Rattle.assembly.proofs.Cells.{cell_count-most}
use Rattle.site_table.specs.Seats.{SeatValue}
use Rattle.grow_workers.specs.declared.rounds.Stage.{Stage}
use Rattle.grow_workers.specs.Inner.Rounds.{WentOn}
use Rattle.grow_workers.proofs.Stages.{each_few, seen_went, went_both, went_nowhere}
use Rattle.grow_workers.proofs.rounds.grow_in_rounds.Goals as goal

-- before the first round nobody has won anything
pub loop-round-init : goal.loop-round-init
loop-round-init g c =
    let sys = c.args.shared.now.sys.now in
    let seat = c.args.seat in
    let seen = c.args.seen in
    let none = c.in_ok-vec.field-0.items in
    let zeros : none ≡ replicate c.get.result 0 = c.in_ok-vec.ensures.items_if_clones_equal (λ y same. same) in
    let many : length none ≡ c.get.result = ap length zeros ∙ length-replicate c.get.result 0 in
    let each : (i : ℕ) → i < length none → get_or none i 0 ≡ 0 = λ i within. ap (λ l. get_or l i 0) zeros ∙ get_or-replicate c.get.result i 0 0 (omega (arith, within, many)) in
    record {
      went = went_nowhere sys seat _ seen _ none refl refl c.requires.seen.area c.requires.seen.seen each;
      count = many ∙ c.get.ensures.count;
      far = omega arith;
    }

pub go_round-requires-clause-stage : goal.go_round-requires-clause-stage
go_round-requires-clause-stage g c κs within =
    let stage : Stage = c.loop-round.stage in
    let inv = c.loop-round.invariant in
    record {
      seen = seen_went _ c.args.seat stage.seat c.args.seen stage.grid stage.wins.items c.requires.seen.at_table inv.went;
      count = inv.count;
      few = each_few c.args.seat.scout.mine stage.seat.scout.mine c.args.seat.scout.owned stage.wins.items inv.went.workers_win;
    }

pub returns-then-is_closed-clause-grew : goal.returns-then-is_closed-clause-grew
returns-then-is_closed-clause-grew g c =
    let old : Stage = c.loop-round.stage in
    let new : Stage = c.in_ok-stage.stage in
    let inv = c.loop-round.invariant in
    let round = c.in_ok-stage.ensures in
    let went = went_both c.args.shared.now.sys.now c.args.seat old.seat new.seat c.args.seen old.grid new.grid old.wins.items round.wins new.wins.items (round.count ∙ sym inv.count) round.added inv.went round.went in
    record {
      seat = went.seat;
      area = went.area;
      seen = went.seen;
      kept = went.kept;
      closed = c.is_closed.ensures.0 c.if-is_closed.true;
      workers_win = went.workers_win;
    }

pub loop-round-preserved : goal.loop-round-preserved
loop-round-preserved g c =
    let old : Stage = c.loop-round.stage in
    let new : Stage = c.in_ok-stage.stage in
    let inv = c.loop-round.invariant in
    let round = c.in_ok-stage.ensures in
    record {
      went = went_both c.args.shared.now.sys.now c.args.seat old.seat new.seat c.args.seen old.grid new.grid old.wins.items round.wins new.wins.items (round.count ∙ sym inv.count) round.added inv.went round.went;
      count = round.added.count ∙ inv.count;
      far = elim round.far [
        | inl closed ↦ absurd (false≢true (sym c.if-is_closed.false ∙ c.is_closed.ensures.1 closed))
        | inr long ↦ let far = inv.far in omega (arith, far, long)
      ];
    }

-- so many rounds would have taken more sites than the box has
pub unreachable-requires : goal.unreachable-requires
unreachable-requires g c =
    let stage : Stage = c.loop-round.stage in
    let sites = c.recall_sites.ensures in
    let far = c.loop-round.invariant.far in
    let all = c.loop-round-test.false in
    let few = count_in_box stage.grid.area stage.grid.tiles sites.distinct sites.inside in
    let most = cell_count-most stage.grid.area sites.box_limits in
    omega (arith, far, all, few, most)
