use Rattle.std.proofs.Common.{◌≡◌, ◌<◌, ◌≤◌, ◌+◌, ℕ, suc, List, length, get_or, flat_map, refl, sym, ◌∙◌, ap, arith}
use Rattle.std.proofs.lemmas.Result.{err_from_is_err_and}
use Rattle.std.proofs.lemmas.List.{take_all}
use Rattle.atam.specs.TileSystem.{TileSystem}
use Rattle.tile_io.proofs.Printing.{PassesOn-next, PassesOn-halted, PassesOn-text}
use Rattle.watch_frames.specs.declared.printing.FrameSpan.{FrameSpan}
use Rattle.watch_frames.specs.Inner.Spans.{span_lines, spans}
use Rattle.watch_frames.proofs.FrameSpans.{told_before, spans-length, spans-at, lines_of_spans}
use Rattle.watch_frames.proofs.printing.put_frames.Goals as goal

-- the frame that is printed is that with this index
here : (counts : List ℕ) (k number before count : ℕ) (d : FrameSpan) → k < length counts → number ≡ k + 1 → before ≡ told_before 0 counts k → count ≡ get_or counts k 0 →
    record { number = number; before = before; count = count } ≡ get_or (spans counts) k d
here counts k number before count d within is_number is_before is_count =
    let same : number ≡ 1 + k = omega (arith, is_number) in
    ap (λ n. record { number = n; before = before; count = count }) same ∙ ap (λ b. record { number = 1 + k; before = b; count = count }) is_before
    ∙ ap (λ m. record { number = 1 + k; before = told_before 0 counts k; count = m }) is_count ∙ sym (spans-at 1 0 counts k d within)

pub returns-in_err-put_frame : goal.returns-in_err-put_frame
returns-in_err-put_frame g c =
    let counts = c.args.frames.now.counts in
    let line = span_lines c.args.pieces.now c.args.frames.now.places in
    let k = c.loop-index.index in
    let p = err_from_is_err_and c.from_residual.result c.from_residual.ensures.1 in
    let below : k < length counts = omega (arith, c.loop-index-test.true, c.taken-index-end.ensures) in
    let within : k < length (spans counts) = omega (arith, below, spans-length 1 0 counts) in
    let d : FrameSpan = record { number = 0; before = 0; count = 0 } in
    let there = here counts k (k + 1) c.loop-index.before c.count-count.result d below refl c.loop-index.invariant.before c.count-count.ensures.value in
    let told : FrameSpan = record { number = k + 1; before = c.loop-index.before; count = c.count-count.result } in
    let one = ap (λ (sys : TileSystem). span_lines sys c.args.frames.now.places told) c.loop-index.invariant.same in
    let all = lines_of_spans c.args.pieces.now c.args.frames.now.places 1 0 counts in
    rw p.1 (PassesOn-text all (PassesOn-halted line (spans counts) k d within c.loop-index.invariant.passes (PassesOn-text (one ∙ ap line there) c.in_err-put_frame.ensures.passes)))

pub loop-index-preserved : goal.loop-index-preserved
loop-index-preserved g c =
    let counts = c.args.frames.now.counts in
    let line = span_lines c.args.pieces.now c.args.frames.now.places in
    let k = c.loop-index.index in
    let below : k < length counts = omega (arith, c.loop-index-test.true, c.taken-index-end.ensures) in
    let within : k < length (spans counts) = omega (arith, below, spans-length 1 0 counts) in
    let d : FrameSpan = record { number = 0; before = 0; count = 0 } in
    let there = here counts k (k + 1) c.loop-index.before c.count-count.result d below refl c.loop-index.invariant.before c.count-count.ensures.value in
    let told : FrameSpan = record { number = k + 1; before = c.loop-index.before; count = c.count-count.result } in
    let one = ap (λ (sys : TileSystem). span_lines sys c.args.frames.now.places told) c.loop-index.invariant.same in
    let suc_is : suc k ≡ k + 1 = omega arith in
    record {
      same = c.in_ok-put_frame.ensures.same ∙ c.loop-index.invariant.same;
      passes = PassesOn-next line (spans counts) k d within c.loop-index.invariant.passes (PassesOn-text (one ∙ ap line there) c.in_ok-put_frame.ensures.passes);
      before = c.count-count.ensures.value ∙ ap (told_before 0 counts) suc_is;
    }

pub returns : goal.returns
returns g c =
    let counts = c.args.frames.now.counts in
    let line = span_lines c.args.pieces.now c.args.frames.now.places in
    let past : length (spans counts) ≤ c.loop-index.index = omega (arith, c.loop-index-test.false, c.taken-index-end.ensures, spans-length 1 0 counts) in
    let all = lines_of_spans c.args.pieces.now c.args.frames.now.places 1 0 counts in
    PassesOn-text (ap (flat_map line) (take_all c.loop-index.index (spans counts) past) ∙ all) c.loop-index.invariant.passes
