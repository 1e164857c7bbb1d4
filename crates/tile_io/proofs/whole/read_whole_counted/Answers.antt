use Rattle.std.proofs.lemmas.Result.{err_from_is_err_and}
use Rattle.tile_io.proofs.ReadStops.{not_whole}
use Rattle.tile_io.proofs.whole.read_whole_counted.Goals as goal

pub returns-in_err-read_on_counted-clause-whole : goal.returns-in_err-read_on_counted-clause-whole
returns-in_err-read_on_counted-clause-whole g c =
    let p = err_from_is_err_and c.from_residual.result c.from_residual.ensures.1 in
    let read = c.in_err-read_on_counted.ensures in
    rw (p.1, p.2) (not_whole g.S.Source.left g.S.Source.faults (λ all. all.items) c.args.source.now c.read_on_counted.new.source read.later c.new-all.result.items c.new-all.ensures.items c.in_err-read_on_counted.field-0.0 read.read)
