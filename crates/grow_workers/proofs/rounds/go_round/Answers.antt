use Rattle.std.proofs.Common.{◌≡◌, ◌≤◌, ◌+◌, ◌∷◌, ◌∙◌, ℕ, List, All, if◌then◌else◌, length, subst, sym, ap, arith}
use Rattle.std.specs.Result.{is_ok}
use Rattle.assembly.proofs.Cells.{cell_count-most}
use Rattle.site_table.specs.Rule.{IsPossible}
use Rattle.grow_workers.specs.declared.leavings.Harvest.{Harvest}
use Rattle.grow_workers.specs.Inner.Rounds.{WentOn}
use Rattle.grow_workers.proofs.Joined.{works_seen}
use Rattle.grow_workers.proofs.Numbering.{numbers_suffice}
use Rattle.grow_workers.proofs.Stages.{each_few, round_far, round_works, went_parted}
use Rattle.grow_workers.proofs.Winning.{mine_few}
use Rattle.grow_workers.proofs.rounds.go_round.Goals as goal

pub split-requires-clause-numbers : goal.split-requires-clause-numbers
split-requires-clause-numbers g c κs within =
    let possible = c.recall_possible.ensures.possible in
    numbers_suffice c.args.shared.now.workers.count c.args.stage.seat.scout.owned possible.scout.some_number possible.scout.numbers c.requires.numbers

pub join-requires-clause-each : goal.join-requires-clause-each
join-requires-clause-each g c κs within =
    let starts = c.in_ok-starts.starts.items in
    let done = c.in_ok-done.done.items in
    works_seen c.args.shared.now starts done c.in_ok-starts.ensures.starts.first (round_works c.args.shared.now starts done c.in_ok-done.ensures)

pub add_wins-requires-clause-count : goal.add_wins-requires-clause-count
add_wins-requires-clause-count g c =
    let all : Harvest = c.in_ok-part.field-0 in
    let items : c.insert.new.self.items ≡ all.part.won ∷ all.others.items =
    subst (λ r. c.insert.new.self.items ≡ (if is_ok r then all.part.won ∷ all.others.items else all.others.items)) c.in_ok-insert.was c.insert.ensures.items in
    let longer = ap length items in
    let joined = c.in_ok-part.ensures.count in
    let done = c.in_ok-done.ensures.count in
    let starts = c.in_ok-starts.ensures.count in
    let stage = c.requires.stage.count in
    omega (arith, longer, joined, done, starts, stage)

pub add_wins-requires-clause-few : goal.add_wins-requires-clause-few
add_wins-requires-clause-few g c = λ k d inside.
    let shared = c.args.shared.now in
    let seat = c.args.stage.seat in
    let real : IsPossible shared.sys.now seat.scout = subst (λ z. IsPossible z seat.scout) (c.requires.stage.seen.at_table.sys ∙ c.requires.shared.system) c.recall_possible.ensures.possible in
    let few = c.requires.stage.few k d inside in
    let mine = mine_few shared.sys.now seat.scout real in
    let most = cell_count-most shared.sys.now.area real.valid.box in
    omega (arith, few, mine, most)

pub returns : goal.returns
returns g c =
    let shared = c.args.shared.now in
    let old = c.args.stage in
    let starts = c.in_ok-starts.starts.items in
    let done = c.in_ok-done.done.items in
    let all : Harvest = c.in_ok-part.field-0 in
    let possible = c.recall_possible.ensures.possible in
    let items : c.insert.new.self.items ≡ all.part.won ∷ all.others.items =
    subst (λ r. c.insert.new.self.items ≡ (if is_ok r then all.part.won ∷ all.others.items else all.others.items)) c.in_ok-insert.was c.insert.ensures.items in
    let parted = c.in_ok-part.ensures.grew old.seat old.grid starts c.requires.stage.seen.at_table c.in_ok-starts.ensures.starts (round_works shared starts done c.in_ok-done.ensures) in
    record {
      wins = c.insert.new.self.items;
      went = subst (λ (l : List ℕ). WentOn shared.sys.now old.seat old.grid all.part.seat all.part.grid l) (sym items)
          (went_parted shared.sys.now old.seat all.part.seat old.grid all.part.grid all.part.won all.others.items possible.scout.some_number possible.scout.numbers parted);
      count = let longer = ap length items in
          let joined = c.in_ok-part.ensures.count in
          let counted = c.in_ok-done.ensures.count in
          let begun = c.in_ok-starts.ensures.count in
          omega (arith, longer, joined, counted, begun);
      added = c.add_wins.ensures;
      far = c.in_ok-part.ensures.far (length old.grid.tiles + 4096)
          (round_far shared old.grid.tiles starts done c.in_ok-starts.ensures.starts.first c.recall_sites.ensures.distinct c.in_ok-starts.ensures.starts.grids c.in_ok-done.ensures);
    }

pub add_wins-requires-clause-few_more : goal.add_wins-requires-clause-few_more
add_wins-requires-clause-few_more g c = λ k d inside.
    let shared = c.args.shared.now in
    let old = c.args.stage in
    let starts = c.in_ok-starts.starts.items in
    let done = c.in_ok-done.done.items in
    let all : Harvest = c.in_ok-part.field-0 in
    let possible = c.recall_possible.ensures.possible in
    let items : c.insert.new.self.items ≡ all.part.won ∷ all.others.items =
    subst (λ r. c.insert.new.self.items ≡ (if is_ok r then all.part.won ∷ all.others.items else all.others.items)) c.in_ok-insert.was c.insert.ensures.items in
    let parted = c.in_ok-part.ensures.grew old.seat old.grid starts c.requires.stage.seen.at_table c.in_ok-starts.ensures.starts (round_works shared starts done c.in_ok-done.ensures) in
    let went = went_parted shared.sys.now old.seat all.part.seat old.grid all.part.grid all.part.won all.others.items possible.scout.some_number possible.scout.numbers parted in
    let real : IsPossible shared.sys.now all.part.seat.scout =
    subst (λ z. IsPossible z all.part.seat.scout) (parted.seat.sys ∙ (c.requires.stage.seen.at_table.sys ∙ c.requires.shared.system)) c.recall_possible-2.ensures.possible in
    let few = subst (λ (l : List ℕ). All (λ (n : ℕ). n ≤ length all.part.seat.scout.mine) l) (sym items) (each_few old.seat.scout.mine all.part.seat.scout.mine old.seat.scout.owned (all.part.won ∷ all.others.items) went.workers_win) k d inside in
    let mine = mine_few shared.sys.now all.part.seat.scout real in
    let most = cell_count-most shared.sys.now.area real.valid.box in
    omega (arith, few, mine, most)
