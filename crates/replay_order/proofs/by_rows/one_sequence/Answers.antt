use Rattle.std.proofs.Common.{◌*◌, ◌≡◌, ◌∙◌, [], suc, ℕ, List, Result, sym, subst}
use Rattle.std.proofs.Math.Nat.{zero-mul}
use Rattle.std.proofs.lemmas.Result.{IfOk-at_ok}
use Rattle.std.proofs.lemmas.List.{nil_from_length}
use Rattle.atam.specs.declared.place.Place.{Place}
use Rattle.tile_system.specs.declared.memory.NoMemory.{NoMemory}
use Rattle.atam.specs.Sites.{width_of}
use Rattle.fan_out.specs.Portions.{InARow}
use Rattle.fan_out.proofs.InARow.{first_rest}
use Rattle.replay_order.specs.Inner.Rows.{begun_by, ListsRows}
use Rattle.replay_order.specs.Inner.Spans.{IsListedBehind}
use Rattle.replay_order.proofs.Rows.{rows_more}
use Rattle.replay_order.proofs.by_rows.one_sequence.Goals as goal

pub loop-part-init : goal.loop-part-init
loop-part-init c sys grid end can row =
    let all = first_rest c.args.parts.items c.remove.new.self.items c.remove.result c.requires c.remove.ensures.value c.remove.ensures.items in
    let Row : List (Result (List Place) NoMemory) → Type 0 = λ l. InARow (ListsRows sys grid) 0 0 end l in
    let parted = subst Row all row in
    let Rest : List (Result (List Place) NoMemory) → Type 0 = λ l. InARow (ListsRows sys grid) 1 parted.0 end l in
    let width = width_of sys.area in
    let at = parted.0 * width in
    let first = IfOk-at_ok (IsListedBehind sys grid.tiles (0 * width) at sys.seeds) c.in_ok-order.was parted.2 in
    (0, parted.0, subst (λ (n : ℕ). IsListedBehind sys grid.tiles n at sys.seeds c.in_ok-order.order) (zero-mul width) first, subst Rest (sym c.into_iter-part-iterator.ensures.into_iter_gives.0) parted.3)

pub loop-part-preserved : goal.loop-part-preserved
loop-part-preserved c sys grid end can row =
    let before = c.loop-part.invariant sys grid end can row in
    let Row : List (Result (List Place) NoMemory) → Type 0 = λ l. InARow (ListsRows sys grid) (suc before.0) before.1 end l in
    let parted = subst Row c.in-Some.ensures.steps.0 before.3 in
    let from = before.1 * width_of sys.area in
    let to = parted.0 * width_of sys.area in
    let behind = IfOk-at_ok (IsListedBehind sys grid.tiles from to (begun_by sys (suc before.0))) c.in_ok-part.was parted.2 in
    (suc before.0, parted.0, rows_more sys grid before.0 before.1 parted.0 can parted.1 c.loop-part.order c.in_ok-part.field-0 c.append.new.self before.2 behind c.in_ok-append.ensures.ok, parted.3)

pub returns : goal.returns
returns c sys grid end can row =
    let before = c.loop-part.invariant sys grid end can row in
    let rest = c.loop-part.part-iterator.rest in
    let none : rest.items ≡ [] = nil_from_length rest.items (sym rest.ok.0 ∙ c.in-None.ensures.steps.0) in
    let Row : List (Result (List Place) NoMemory) → Type 0 = λ l. InARow (ListsRows sys grid) (suc before.0) before.1 end l in
    subst (λ (row : ℕ). IsListedBehind sys grid.tiles 0 (row * width_of sys.area) sys.seeds c.loop-part.order) (subst Row none before.3) before.2
