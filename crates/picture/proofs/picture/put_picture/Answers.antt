use Rattle.std.proofs.Common.{◌++◌, ap, ℕ, List, flat_map, reverse}
use Rattle.std.proofs.lemmas.Result.{err_from_is_err_and}
use Rattle.tile_io.proofs.Printing.{PassesOn-then, PassesOn-fails, PassesOn-stopped, PassesOn-text}
use Rattle.picture.specs.Pictures.{head_line, legend, row_line}
use Rattle.picture.proofs.picture.put_picture.Goals as goal
use Rattle.std.specs.List.{range_with_len}
use Rattle.atam.specs.Sites.{height_of}
use Rattle.assembly.specs.Grids.{TileGrid}

abbrev rows : TileGrid → List ℕ
rows grid = flat_map (row_line grid) (reverse (range_with_len 0 (height_of grid.area)))

pub returns-in_err-put_head : goal.returns-in_err-put_head
returns-in_err-put_head g c =
    let sys = c.args.sys.now in
    let grid = c.args.grid.now in
    let p = err_from_is_err_and c.from_residual.result c.from_residual.ensures.1 in
    rw p.1 (PassesOn-text (ap (λ area. head_line area ++ (legend sys grid.tiles ++ rows grid)) c.area.ensures.area) (PassesOn-stopped (legend sys grid.tiles ++ rows grid) c.in_err-put_head.ensures))

pub returns-in_err-put_legend : goal.returns-in_err-put_legend
returns-in_err-put_legend g c =
    let sys = c.args.sys.now in
    let grid = c.args.grid.now in
    let p = err_from_is_err_and c.from_residual-in_err-put_legend.result c.from_residual-in_err-put_legend.ensures.1 in
    rw p.1 (PassesOn-text (ap (λ area. head_line area ++ (legend sys grid.tiles ++ rows grid)) c.area.ensures.area) (PassesOn-fails c.in_ok-put_head.ensures (PassesOn-stopped (rows grid) c.in_err-put_legend.ensures)))

pub returns : goal.returns
returns g c =
    let sys = c.args.sys.now in
    let grid = c.args.grid.now in
    PassesOn-text (ap (λ area. head_line area ++ (legend sys grid.tiles ++ rows grid)) c.area.ensures.area) (PassesOn-then c.put_rows.result c.in_ok-put_head.ensures (PassesOn-then c.put_rows.result c.in_ok-put_legend.ensures c.put_rows.ensures))
