use Rattle.std.proofs.Common.{◌≡◌, ◌++◌, [], ◌∷◌, Some, All, sym, subst, arith}
use Rattle.std.proofs.lemmas.List.Elements.{All-push}
use Rattle.atam.specs.Placements.{SamePlacements}
use Rattle.grow_workers.specs.declared.starts.Start.{Start}
use Rattle.grow_workers.specs.Inner.Sharing.{IsStart, start_grid}
use Rattle.grow_workers.proofs.starts.split.Goals as goal

pub returns-clause-starts : goal.returns-clause-starts
returns-clause-starts g c =
    let old = c.in_ok-starts.starts.items in
    let start : Start = record { worker = 0; seat = c.in_ok-starts.kept; seen = Some c.args.seen } in
    let longer : c.push.new.self.items ≡ old ++ start ∷ [] = c.in_ok-push.ensures.items in
    let Same : Start → Type 0 = λ s. SamePlacements c.args.seen.tiles (start_grid c.args.shared.now.sys.now s.seen).tiles in
    record {
      others = old;
      first = start;
      all = longer;
      parted = c.in_ok-starts.ensures.parted;
      grids = subst (All Same) (sym longer) (All-push Same old start c.in_ok-starts.ensures.grids (record { part = λ p c. c; whole = λ p c. c }));
    }

pub returns-clause-each : goal.returns-clause-each
returns-clause-each g c =
    let shared = c.args.shared.now in
    let old = c.in_ok-starts.starts.items in
    let start : Start = record { worker = 0; seat = c.in_ok-starts.kept; seen = Some c.args.seen } in
    let longer : c.push.new.self.items ≡ old ++ start ∷ [] = c.in_ok-push.ensures.items in
    let some = shared.workers.some in
    let one : IsStart shared start = record { worker = omega (arith, some); seen = c.in_ok-starts.ensures.kept; begins = c.requires.begins } in
    subst (All (IsStart shared)) (sym longer) (All-push (IsStart shared) old start c.in_ok-starts.ensures.each one)
