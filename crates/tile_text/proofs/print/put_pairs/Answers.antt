use Rattle.std.proofs.Common.{ap, flat_map}
use Rattle.std.proofs.lemmas.Result.{err_from_is_err_and}
use Rattle.tile_io.proofs.Printing.{PassesOn-next, PassesOn-halted, PassesOn-text}
use Rattle.tile_text.proofs.PrintLemmas.{no_pair, pair_line}
use Rattle.tile_text.proofs.print.put_pairs.Goals as goal

pub returns-in_err-put_pair : goal.returns-in_err-put_pair
returns-in_err-put_pair g c =
    let p = err_from_is_err_and c.from_residual.result c.from_residual.ensures.1 in
    let pairs = c.pairs-pair-items.result.now in
    let text = ap (flat_map (pair_line c.args.sys.now)) c.pairs-pair-items.ensures.pairs in
    rw p.1 (PassesOn-text text (PassesOn-halted (pair_line c.args.sys.now) pairs c.loop-pair.pair-index no_pair c.loop-pair-test.true c.loop-pair.invariant c.in_err-put_pair.ensures))

pub loop-pair-preserved : goal.loop-pair-preserved
loop-pair-preserved g c =
    PassesOn-next (pair_line c.args.sys.now) c.pairs-pair-items.result.now c.loop-pair.pair-index no_pair c.loop-pair-test.true c.loop-pair.invariant c.in_ok-put_pair.ensures
