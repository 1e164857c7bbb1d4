use Rattle.std.proofs.lemmas.Result.{err_from_is_err_and}
use Rattle.tile_io.proofs.Printing.{PassesOn-then, PassesOn-stopped}
use Rattle.tile_io.proofs.chunk.Chunk.put_word.Goals as goal

pub returns-in_err-put : goal.returns-in_err-put
returns-in_err-put g c =
    let p = err_from_is_err_and c.from_residual.result c.from_residual.ensures.1 in
    rw p.1 (PassesOn-stopped c.args.word.now c.in_err-put.ensures)

pub returns : goal.returns
returns g c = PassesOn-then c.put-2.result c.in_ok-put.ensures c.put-2.ensures
