use Rattle.std.proofs.Common.{◌∷◌, [], codes, decimal}
use Rattle.std.proofs.lemmas.Result.{err_from_is_err_and}
use Rattle.tile_io.proofs.Printing.{Prints-then, Prints-stopped}
use Rattle.tile_io.specs.Lines.{line_of}
use Rattle.tilebench.proofs.commands.load.print_sizes.Goals as goal

pub returns-in_err-print_counter : goal.returns-in_err-print_counter
returns-in_err-print_counter g c =
    let p = err_from_is_err_and c.from_residual.result c.from_residual.ensures.1 in
    rw p.1 (Prints-stopped (line_of (codes "tiles" ∷ decimal c.args.tiles ∷ [])) c.in_err-print_counter.ensures)

pub returns : goal.returns
returns g c = Prints-then c.print_tiles.result c.in_ok-print_counter.ensures c.print_tiles.ensures
