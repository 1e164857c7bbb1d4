use Rattle.std.proofs.Common.{Bool, true, ap, subst, ◌∙◌}
use Rattle.tile_io.specs.Formats.{Reads}
use Rattle.atam.specs.TileSystem.{TileSystem}
use Rattle.seq_text.proofs.Growths.{growth_format, into_grid}
use Rattle.seq_text.proofs.Fitting.{grid_fits}
use Rattle.seq_text.proofs.reader.read_grid.Goals as goal

pub returns-clause-read : goal.returns-clause-read
returns-clause-read c =
    let sys = c.args.sys.now in
    let reader = c.read_text.new.reader in
    let into = c.in_ok-read_text.ensures.read in
    let to = c.in_ok-read_text.field-0 in
    let same = ap (λ (x : Bool × TileSystem). x.1) c.in_ok-read_text.ensures.context ∙ c.in_ok-reader.ensures.system in
    let Read : Bool → TileSystem → Type 0 = λ b s. Reads (growth_format b s) c.args.text.now c.args.from into.items to in
    let reads = into_grid sys reader.system.now c.args.text.now c.args.from to reader.sequence reader.grid c.unwrap-grid.result reader.last into.items same into.held c.unwrap-grid.ensures (subst (Read true) c.in_ok-reader.ensures.system (subst (λ b. Read b c.in_ok-reader.reader.system.now) c.in_ok-reader.ensures.distinct into.reads)) in
    reads

pub returns-clause-fits : goal.returns-clause-fits
returns-clause-fits c =
    let sys = c.args.sys.now in
    let reader = c.read_text.new.reader in
    let into = c.in_ok-read_text.ensures.read in
    let to = c.in_ok-read_text.field-0 in
    let same = ap (λ (x : Bool × TileSystem). x.1) c.in_ok-read_text.ensures.context ∙ c.in_ok-reader.ensures.system in
    let Read : Bool → TileSystem → Type 0 = λ b s. Reads (growth_format b s) c.args.text.now c.args.from into.items to in
    let reads = into_grid sys reader.system.now c.args.text.now c.args.from to reader.sequence reader.grid c.unwrap-grid.result reader.last into.items same into.held c.unwrap-grid.ensures (subst (Read true) c.in_ok-reader.ensures.system (subst (λ b. Read b c.in_ok-reader.reader.system.now) c.in_ok-reader.ensures.distinct into.reads)) in
    grid_fits c.args.sys.now c.args.text.now c.args.from c.unwrap-grid.result reads
