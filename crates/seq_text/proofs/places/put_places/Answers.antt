use Rattle.std.proofs.Common.{◌<◌, length, ap, sym, ◌∙◌, arith}
use Rattle.std.proofs.lemmas.Option.{get_or_from_slice_get}
use Rattle.std.proofs.lemmas.Result.{err_from_is_err_and}
use Rattle.tile_io.proofs.Printing.{PassesOn-next, PassesOn-halted, PassesOn-text}
use Rattle.atam.specs.TileSystem.{TileSystem}
use Rattle.seq_text.specs.GrowthLines.{place_line}
use Rattle.seq_text.proofs.places.put_places.Goals as goal

pub returns-in_err-put-clause-same : goal.returns-in_err-put-clause-same
returns-in_err-put-clause-same g c = c.in_err-put.ensures.same ∙ c.loop-index.invariant.same

pub returns-in_err-put-clause-passes : goal.returns-in_err-put-clause-passes
returns-in_err-put-clause-passes g c =
    let line = place_line c.args.pieces.now in
    let places = c.args.places.now in
    let p = err_from_is_err_and c.from_residual.result c.from_residual.ensures.1 in
    let within : c.loop-index.index < length places = omega (arith, c.loop-index-test.true, c.len-index-end.ensures) in
    let one = ap (λ (sys : TileSystem). place_line sys c.get.result) c.loop-index.invariant.same in
    let there = ap line (sym (get_or_from_slice_get places c.loop-index.index c.get.result c.get.result c.get.ensures)) in
    rw p.1 (PassesOn-halted line places c.loop-index.index c.get.result within c.loop-index.invariant.passes (PassesOn-text (one ∙ there) c.in_err-put.ensures.passes))

pub loop-index-preserved : goal.loop-index-preserved
loop-index-preserved g c =
    let line = place_line c.args.pieces.now in
    let places = c.args.places.now in
    let within : c.loop-index.index < length places = omega (arith, c.loop-index-test.true, c.len-index-end.ensures) in
    let one = ap (λ (sys : TileSystem). place_line sys c.get.result) c.loop-index.invariant.same in
    let there = ap line (sym (get_or_from_slice_get places c.loop-index.index c.get.result c.get.result c.get.ensures)) in
    record {
      same = c.in_ok-put.ensures.same ∙ c.loop-index.invariant.same;
      passes = PassesOn-next line places c.loop-index.index c.get.result within c.loop-index.invariant.passes (PassesOn-text (one ∙ there) c.in_ok-put.ensures.passes);
    }
