use Rattle.std.proofs.Common.{◌≡◌, ◌<◌, ℕ, Some, None, slice_index, inl, inr, sym, ◌∙◌, ap, subst, arith}
use Rattle.atam.specs.declared.area.BoxArea.{BoxArea}
use Rattle.atam.specs.declared.place.Place.{Place}
use Rattle.atam.specs.Placements.{tile_at}
use Rattle.assembly.specs.Cells.{site_at}
use Rattle.replay_order.specs.Inner.Spans.{IsListedBehind}
use Rattle.replay_order.proofs.ReadySites.{Fits-tile}
use Rattle.replay_order.proofs.InTurn.{due_no_seed, no_due_seed, turn_listed, turn_more, turn_same}
use Rattle.replay_order.proofs.in_turn.list_held.Goals as goal

pub loop-number-preserved-in_default : goal.loop-number-preserved-in_default
loop-number-preserved-in_default c =
    let sys = c.args.bonds.now in
    let grid = c.args.grid.now in
    let n = c.loop-number.number in
    let now = c.loop-number.invariant in
    let empty : tile_at grid.tiles (site_at sys.area n) ≡ None = ap (λ (a : BoxArea). tile_at grid.tiles (site_at a n)) (sym c.requires.can.area) ∙ sym c.tile.ensures ∙ c.in_default.is in
    record {
      turn = turn_same sys grid c.requires.can c.args.first n c.args.log.now.places c.loop-number.log.places now.turn (inr empty);
      same_room = now.same_room;
      row = now.row;
    }

pub loop-number-preserved-then-not-is_lacking : goal.loop-number-preserved-then-not-is_lacking
loop-number-preserved-then-not-is_lacking c =
    let sys = c.args.bonds.now in
    let grid = c.args.grid.now in
    let n = c.loop-number.number in
    let now = c.loop-number.invariant in
    let valid = c.requires.can.valid in
    let due = c.requires.due n (record { from = omega (arith, now.turn.few, c.requires.waits.0); before = omega (arith, c.loop-number-test.true, c.requires.waits.1) }) in
    let nothing : ¬ (0 < slice_index c.args.waiting.now.lacks n) = λ some. absurd (cc (sym c.if-not-is_lacking.true ∙ c.is_lacking.ensures.1 some)) in
    record {
      turn =
          turn_same sys grid c.requires.can c.args.first n c.args.log.now.places c.loop-number.log.places now.turn
          (inl (no_due_seed sys.seeds sys.tau (slice_index c.args.waiting.now.lacks n) (site_at sys.area n) valid.some_tau due nothing));
      same_room = now.same_room;
      row = now.row;
    }

pub returns-then-not-is_held_before-clause-listed : goal.returns-then-not-is_held_before-clause-listed
returns-then-not-is_held_before-clause-listed c =
    turn_listed c.args.bonds.now c.args.grid.now c.requires.can c.args.first c.loop-number.number c.args.log.now.places c.loop-number.log.places c.loop-number.invariant.turn

pub push-requires-clause-small : goal.push-requires-clause-small
push-requires-clause-small c =
    let kind = (Fits-tile c.args.bonds.now c.args.grid.now.tiles (site_at c.args.grid.now.area c.loop-number.number) c.in-Some.tile c.requires.can.fits (sym c.tile.ensures ∙ c.in-Some.is)).0 in
    omega (arith, kind, c.requires.can.valid.type_count)

pub loop-number-preserved : goal.loop-number-preserved
loop-number-preserved c =
    let sys = c.args.bonds.now in
    let grid = c.args.grid.now in
    let n = c.loop-number.number in
    let now = c.loop-number.invariant in
    let p : Place = record { site = c.site-site.result; tile = c.in-Some.tile } in
    let same_area : c.area-area.result ≡ sys.area = c.area-area.ensures.area ∙ c.requires.can.area in
    let here : site_at sys.area n ≡ p.site = ap (λ (a : BoxArea). site_at a n) (sym same_area) ∙ sym c.site-site.ensures.site in
    let tile : tile_at grid.tiles p.site ≡ Some p.tile = ap (tile_at grid.tiles) (c.site-site.ensures.site ∙ ap (λ (a : BoxArea). site_at a n) c.area-area.ensures.area) ∙ sym c.tile.ensures ∙ c.in-Some.is in
    let due = c.requires.due n (record { from = omega (arith, now.turn.few, c.requires.waits.0); before = omega (arith, c.loop-number-test.true, c.requires.waits.1) }) in
    let some = c.is_lacking.ensures.0 c.if-not-is_lacking.false in
    let none : tile_at sys.seeds p.site ≡ None = subst (λ m. tile_at sys.seeds m ≡ None) here (due_no_seed sys.seeds sys.tau (slice_index c.args.waiting.now.lacks n) (site_at sys.area n) due some) in
    record {
      turn =
          turn_more sys grid c.requires.can c.args.first n c.args.log.now.places c.loop-number.log.places now.turn (omega (arith, now.turn.few)) p here none tile
          (c.is_held_before.ensures c.if-not-is_held_before.false) c.push.new.self.places c.push.ensures.places;
      same_room = c.push.ensures.room ∙ now.same_room;
      row = c.site-site.ensures.row;
    }

pub returns-clause-listed : goal.returns-clause-listed
returns-clause-listed c =
    let end : c.loop-number.number ≡ c.args.end = omega (arith, c.loop-number-test.false, c.loop-number.auto.number-end) in
    let Listed : ℕ → Type 0 = λ n. IsListedBehind c.args.bonds.now c.args.grid.now.tiles c.args.first n c.args.log.now.places c.loop-number.log.places in
    subst Listed end (turn_listed c.args.bonds.now c.args.grid.now c.requires.can c.args.first c.loop-number.number c.args.log.now.places c.loop-number.log.places c.loop-number.invariant.turn)
