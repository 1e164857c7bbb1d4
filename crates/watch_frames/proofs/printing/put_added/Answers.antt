use Rattle.std.proofs.Common.{◌≡◌, ◌<◌, ◌≤◌, ◌+◌, ◌-◌, length, take, drop, get_or, flat_map, sym, ◌∙◌, ap, arith}
use Rattle.std.proofs.lemmas.Option.{get_or_from_slice_get}
use Rattle.std.proofs.lemmas.Result.{err_from_is_err_and}
use Rattle.atam.specs.TileSystem.{TileSystem}
use Rattle.tile_io.proofs.Printing.{PassesOn-next, PassesOn-halted, PassesOn-text}
use Rattle.seq_text.specs.GrowthLines.{place_line}
use Rattle.watch_frames.proofs.FrameSpans.{added-length, added-at, added-all}
use Rattle.watch_frames.proofs.printing.put_added.Goals as goal

pub returns-in_err-put-clause-passes : goal.returns-in_err-put-clause-passes
returns-in_err-put-clause-passes g c =
    let line = place_line c.args.pieces.now in
    let s = c.args.frames.now.places in
    let b = c.args.before in
    let n = c.args.count in
    let j = c.loop-j.j in
    let p = err_from_is_err_and c.from_residual.result c.from_residual.ensures.1 in
    let items = drop b (take n s) in
    let from : b ≤ j = omega arith in
    let below : j < n = omega arith in
    let within : j - b < length items = omega (arith, added-length s b n c.requires.within, from, below) in
    let one = ap (λ (sys : TileSystem). place_line sys c.place.result) c.loop-j.invariant.same in
    let there : get_or items (j - b) c.place.result ≡ c.place.result = added-at s b n c.requires.within j c.place.result from below ∙ get_or_from_slice_get s j c.place.result c.place.result c.place.ensures in
    rw p.1 (PassesOn-halted line items (j - b) c.place.result within c.loop-j.invariant.passes (PassesOn-text (one ∙ ap line (sym there)) c.in_err-put.ensures.passes))

pub loop-j-preserved : goal.loop-j-preserved
loop-j-preserved g c =
    let line = place_line c.args.pieces.now in
    let s = c.args.frames.now.places in
    let b = c.args.before in
    let n = c.args.count in
    let j = c.loop-j.j in
    let items = drop b (take n s) in
    let from : b ≤ j = omega arith in
    let below : j < n = omega arith in
    let within : j - b < length items = omega (arith, added-length s b n c.requires.within, from, below) in
    let one = ap (λ (sys : TileSystem). place_line sys c.place.result) c.loop-j.invariant.same in
    let there : get_or items (j - b) c.place.result ≡ c.place.result = added-at s b n c.requires.within j c.place.result from below ∙ get_or_from_slice_get s j c.place.result c.place.result c.place.ensures in
    let next : j - b + 1 ≡ j + 1 - b = omega (arith, from) in
    record {
      same = c.in_ok-put.ensures.same ∙ c.loop-j.invariant.same;
      passes = PassesOn-text (ap (λ k. flat_map line (take k items)) next)
          (PassesOn-next line items (j - b) c.place.result within c.loop-j.invariant.passes (PassesOn-text (one ∙ ap line (sym there)) c.in_ok-put.ensures.passes));
    }

pub returns-clause-passes : goal.returns-clause-passes
returns-clause-passes g c =
    let line = place_line c.args.pieces.now in
    let past : c.args.count ≤ c.loop-j.j = c.loop-j-test.false in
    PassesOn-text (ap (flat_map line) (added-all c.args.frames.now.places c.args.before c.args.count c.requires.within c.loop-j.j past)) c.loop-j.invariant.passes
