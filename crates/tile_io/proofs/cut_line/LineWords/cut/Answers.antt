use Rattle.std.proofs.Common.{◌≡◌, ◌≢◌, ◌≤◌, ◌<◌, ◌+◌, ℕ, length, get_or, below_more, arith}
use Rattle.tile_io.specs.Lines.{words_of}
use Rattle.tile_io.specs.Inner.AtHand.{IsRun}
use Rattle.tile_io.proofs.Cuts.{words-few}
use Rattle.tile_io.proofs.AtHandLemmas.{past_space, all_noted}
use Rattle.tile_io.proofs.cut_line.LineWords.cut.Goals as goal
use Rattle.tile_io.proofs.cut_line.LineWords.cut.Goals.{then-line-at-eq32, else-line-at-eq32}

pub loop-at-init : goal.loop-at-init
loop-at-init c = record { order = omega arith; cut = c.none-places.ensures c.args.line.now; inside = λ k low high. absurd (omega (arith, high)) }

pub note-requires-clause-few : goal.note-requires-clause-few
note-requires-clause-few c =
    let few : length (words_of c.args.line.now) ≤ length c.args.line.now + 1 = words-few c.args.line.now in
    let noted : c.loop-at.places.count ≤ length (words_of c.args.line.now) = c.loop-at.invariant.cut.few in
    let short : length c.args.line.now ≤ 256 = c.requires in
    omega (arith, few, noted, short)

pub note-requires-2-clause-few : goal.note-requires-2-clause-few
note-requires-2-clause-few c =
    let few : length (words_of c.args.line.now) ≤ length c.args.line.now + 1 = words-few c.args.line.now in
    let noted : c.loop-at.places.count ≤ length (words_of c.args.line.now) = c.loop-at.invariant.cut.few in
    let short : length c.args.line.now ≤ 256 = c.requires in
    omega (arith, few, noted, short)

pub loop-at-preserved : goal.loop-at-preserved
loop-at-preserved c =
    let line = c.args.line.now in
    let start = c.loop-at.start in
    let at = c.loop-at.at in
    let before = c.loop-at.invariant in
    let within : at < length line = c.loop-at-test.true in
    elim c.if-line-at-eq32.branch [
      | then-line-at-eq32 w ↦
          let space : get_or line at 0 ≡ 32 = w.if-line-at-eq32.true in
          let run : IsRun line start at = record { order = before.order; within = omega (arith, within); inside = before.inside; behind = λ less. space } in
          let after = past_space line at w.note.new.self.count w.note.new.self.starts w.note.new.self.ends within space (w.note.ensures line before.cut run) in
          rw (w.start-is, w.places-is) (record { order = omega arith; cut = after; inside = λ k low high. absurd (omega (arith, low, high)) })
      | else-line-at-eq32 w ↦
          let order : start ≤ at = before.order in
          let inside : (k : ℕ) → start ≤ k → k < at + 1 → get_or line k 0 ≢ 32 = λ k low high.
          below_more (λ j. start ≤ j → get_or line j 0 ≢ 32) at (λ j less from. before.inside j from less) (λ from. w.if-line-at-eq32.false) k high low
          in
          rw (w.start-is, w.places-is) (record { order = omega (arith, order); cut = before.cut; inside = inside })
    ]

pub invariant_of-result : goal.invariant_of-result
invariant_of-result c =
    let line = c.args.line.now in
    let start = c.loop-at.start in
    let before = c.loop-at.invariant in
    let past : length line ≤ c.loop-at.at = c.loop-at-test.false in
    let end : c.loop-at.at ≤ length line = c.loop-at.auto.at-end in
    let order : start ≤ c.loop-at.at = before.order in
    let inside : (k : ℕ) → start ≤ k → k < length line → get_or line k 0 ≢ 32 = λ k low high. before.inside k low (omega (arith, high, past)) in
    let run : IsRun line start (length line) = record { order = omega (arith, order, end); within = omega arith; inside = inside; behind = λ less. absurd (omega (arith, less)) } in
    let noted = c.note-2.new.self in
    all_noted line noted.count noted.starts noted.ends (c.note-2.ensures line before.cut run)
