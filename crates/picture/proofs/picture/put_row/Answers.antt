use Rattle.std.proofs.Common.{[], ◌∷◌}
use Rattle.std.proofs.lemmas.Result.{err_from_is_err_and}
use Rattle.tile_io.proofs.Printing.{PassesOn-then, PassesOn-stopped}
use Rattle.picture.proofs.picture.put_row.Goals as goal

pub returns-in_err-put_sites : goal.returns-in_err-put_sites
returns-in_err-put_sites g c =
    let p = err_from_is_err_and c.from_residual.result c.from_residual.ensures.1 in
    rw p.1 (PassesOn-stopped (10 ∷ []) c.in_err-put_sites.ensures)

pub returns : goal.returns
returns g c = PassesOn-then c.put.result c.in_ok-put_sites.ensures c.put.ensures
