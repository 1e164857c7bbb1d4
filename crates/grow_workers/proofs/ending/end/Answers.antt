use Rattle.std.proofs.Common.{◌∙◌, ◌≤◌, subst, sym, arith}
use Rattle.assembly.specs.Cells.{cell_count}
use Rattle.assembly.proofs.Cells.{cell_count-most}
use Rattle.site_table.specs.Rule.{IsPossible}
use Rattle.frontier_seat.specs.declared.growing.Growing.{Growing}
use Rattle.grow_workers.proofs.Whole.{closed_by_log}
use Rattle.grow_workers.proofs.Winning.{went_on, wins_few}
use Rattle.grow_workers.proofs.ending.end.Goals as goal

pub returns-then-is_some-clause-closed : goal.returns-then-is_some-clause-closed
returns-then-is_some-clause-closed g c =
    let part = c.args.team.part in
    closed_by_log c.args.shared.now.sys.now part.grid part.log c.requires.part.log (sym c.is_some.ensures ∙ c.if-is_some.true)

pub overflow_add-part : goal.overflow_add-part
overflow_add-part g c =
    let sys = c.args.shared.now.sys.now in
    let before = c.args.team.part in
    let part = c.in_ok-part.part in
    let goes = c.in_ok-part.ensures.goes in
    let real : IsPossible sys part.seat.scout = subst (λ z. IsPossible z part.seat.scout) (goes.seat.sys ∙ (c.requires.part.seen.at_table.sys ∙ c.requires.shared.system)) c.recall_possible-2.ensures.possible in
    let after : Growing = record { seat = part.seat; grid = part.grid; won = part.won } in
    let few = wins_few sys before.seat before.grid before.won after real c.requires.few goes in
    let most : cell_count sys.area ≤ 1048576 = cell_count-most sys.area (c.recall_valid.ensures.valid.box) in
    omega (arith, few, most)

pub returns-clause-grew : goal.returns-clause-grew
returns-clause-grew g c old start grew =
    let sys = c.args.shared.now.sys.now in
    let before = c.args.team.part in
    let part = c.in_ok-part.part in
    let real : IsPossible sys before.seat.scout = subst (λ z. IsPossible z before.seat.scout) (c.requires.part.seen.at_table.sys ∙ c.requires.shared.system) c.recall_possible.ensures.possible in
    went_on sys old start before.grid before.seat before.won c.args.team.others.items (record { seat = part.seat; grid = part.grid; won = part.won }) real grew c.in_ok-part.ensures.goes c.in_ok-part.ensures.seen
