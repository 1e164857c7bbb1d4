use Rattle.std.proofs.Common.{Bool, true, ap, subst, ◌∙◌}
use Rattle.std.specs.Prelude.{is_some}
use Rattle.std.proofs.lemmas.Result.{err_from_is_err_and}
use Rattle.tile_io.specs.Blocks.{StopsInBlocks}
use Rattle.tile_io.specs.Formats.{Reads}
use Rattle.tile_io.proofs.Inputs.{none_read}
use Rattle.atam.specs.TileSystem.{TileSystem}
use Rattle.seq_text.specs.GrowthText.{grid_format}
use Rattle.seq_text.proofs.Growths.{growth_format, into_grid}
use Rattle.seq_text.proofs.Fitting.{grid_fits}
use Rattle.seq_text.proofs.reader.read_grid_in_blocks.Goals as goal

pub returns-in_err-reader-clause-read : goal.returns-in_err-reader-clause-read
returns-in_err-reader-clause-read g c =
    let p = err_from_is_err_and c.from_residual.result c.from_residual.ensures.1 in
    rw (p.1, p.2, c.in_err-reader.ensures.memory) (none_read g.S.Source.left g.S.Source.faults (grid_format c.args.sys.now) c.args.begun.text.items c.args.from c.args.source.now c.requires.short)

pub returns-in_err-read_text_in_blocks-clause-read : goal.returns-in_err-read_text_in_blocks-clause-read
returns-in_err-read_text_in_blocks-clause-read g c =
    let sys = c.args.sys.now in
    let reader = c.in_ok-reader.reader in
    let made = c.in_ok-reader.ensures in
    let stop = c.in_err-read_text_in_blocks.field-0.0 in
    let p = err_from_is_err_and c.from_residual-in_err-read_text_in_blocks.result c.from_residual-in_err-read_text_in_blocks.ensures.1 in
    let Stops : Bool → TileSystem → Type 0 = λ b s. StopsInBlocks g.S.Source.left g.S.Source.faults (growth_format b s) c.args.begun.text.items c.args.from c.args.source.now c.read_text_in_blocks.new.source stop in
    let stops : Stops (is_some reader.grid) reader.system.now = c.in_err-read_text_in_blocks.ensures.read in
    rw (p.1, p.2) (subst (Stops true) made.system (subst (λ b. Stops b reader.system.now) made.distinct stops))

pub returns-clause-read : goal.returns-clause-read
returns-clause-read g c =
    let sys = c.args.sys.now in
    let reader = c.read_text_in_blocks.new.reader in
    let found = c.in_ok-read_text_in_blocks.ensures.read in
    let whole = found.0.0 in
    let to = found.0.2.0 in
    let into = found.0.2.1 in
    let same = ap (λ (x : Bool × TileSystem). x.1) c.in_ok-read_text_in_blocks.ensures.context ∙ c.in_ok-reader.ensures.system in
    let Read : Bool → TileSystem → Type 0 = λ b s. Reads (growth_format b s) whole c.args.from into.items to in
    let reads = into_grid sys reader.system.now whole c.args.from to reader.sequence reader.grid c.unwrap-grid.result reader.last into.items same into.held c.unwrap-grid.ensures (subst (Read true) c.in_ok-reader.ensures.system (subst (λ b. Read b c.in_ok-reader.reader.system.now) c.in_ok-reader.ensures.distinct into.reads)) in
    ((whole, found.0.1, reads), found.1)

pub returns-clause-fits : goal.returns-clause-fits
returns-clause-fits g c =
    let sys = c.args.sys.now in
    let reader = c.read_text_in_blocks.new.reader in
    let found = c.in_ok-read_text_in_blocks.ensures.read in
    let whole = found.0.0 in
    let to = found.0.2.0 in
    let into = found.0.2.1 in
    let same = ap (λ (x : Bool × TileSystem). x.1) c.in_ok-read_text_in_blocks.ensures.context ∙ c.in_ok-reader.ensures.system in
    let Read : Bool → TileSystem → Type 0 = λ b s. Reads (growth_format b s) whole c.args.from into.items to in
    let reads = into_grid sys reader.system.now whole c.args.from to reader.sequence reader.grid c.unwrap-grid.result reader.last into.items same into.held c.unwrap-grid.ensures (subst (Read true) c.in_ok-reader.ensures.system (subst (λ b. Read b c.in_ok-reader.reader.system.now) c.in_ok-reader.ensures.distinct into.reads)) in
    grid_fits sys whole c.args.from c.unwrap-grid.result reads
