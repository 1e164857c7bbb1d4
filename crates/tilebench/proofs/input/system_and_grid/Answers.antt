use Rattle.std.proofs.Math.Nat.{le_trans}
use Rattle.std.proofs.Common.{ℕ, List, Option}
use Rattle.std.proofs.lemmas.Result.{err_from_is_err_and}
use Rattle.assembly.specs.Grids.{TileGrid}
use Rattle.atam.specs.TileSystem.{TileSystem}
use Rattle.seq_text.specs.GrowthText.{grid_format}
use Rattle.tilebench.specs.Inputs.{IsSystemThen, ReadsAssembly}
use Rattle.tilebench.specs.Inner.Gives.{HoldsWhole}
use Rattle.tilebench.proofs.Fronts.{blocks_stop, front_mark, front_stop, front_whole}
use Rattle.tilebench.proofs.input.system_and_grid.Goals as goal

-- what is read of the source
Holds : Option (List ℕ) → Option (List ℕ) → TileSystem × TileGrid → Type 0
Holds left left_after value = HoldsWhole (λ input (found : TileSystem × TileGrid). IsSystemThen ReadsAssembly input found.0 found.1.tiles) left left_after value

pub returns-in_err-sys-clause-read : goal.returns-in_err-sys-clause-read
returns-in_err-sys-clause-read g c =
    let p = err_from_is_err_and c.from_residual.result c.from_residual.ensures.1 in
    rw (p.1, p.2) (front_stop g.S.Source.left g.S.Source.faults Holds grid_format c.args.source.now c.front_of.new.source c.in_err-sys.field-0.0 c.in_err-sys.ensures.read)

pub read_grid_in_blocks-requires-clause-mark : goal.read_grid_in_blocks-requires-clause-mark
read_grid_in_blocks-requires-clause-mark g c = front_mark g.S.Source.left c.args.source.now c.front_of.new.source c.in_ok-sys.field-0 c.in_ok-sys.ensures.read.0

pub returns-in_err-grid-clause-read : goal.returns-in_err-grid-clause-read
returns-in_err-grid-clause-read g c =
    let p = err_from_is_err_and c.from_residual-in_err-grid.result c.from_residual-in_err-grid.ensures.1 in
    let read = c.in_ok-sys.ensures.read in
    rw (p.1, p.2) (blocks_stop g.S.Source.left g.S.Source.faults Holds grid_format c.args.source.now c.front_of.new.source c.read_grid_in_blocks.new.source c.in_ok-sys.field-0 c.in_err-grid.field-0.0 read.0 read.1 c.in_err-grid.ensures.read)

pub returns-clause-read : goal.returns-clause-read
returns-clause-read g c =
    let read = c.in_ok-sys.ensures.read in
    let front = c.in_ok-sys.field-0 in
    let found = c.in_ok-grid.ensures.read in
    let whole = found.0.0 in
    let all = front_whole g.S.Source.left c.args.source.now c.front_of.new.source front read.0 c.read_grid_in_blocks.new.source whole found.0.1 in
    let grid = found.0.2 in
    ((whole, all.0, record { end = front.end; reads = all.1; rest = record { places = grid.places; reads = grid.reads; same = grid.same; distinct = c.in_ok-grid.ensures.distinct } }), le_trans read.1 found.1)
