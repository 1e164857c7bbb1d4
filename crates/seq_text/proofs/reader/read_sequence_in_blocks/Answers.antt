use Rattle.std.proofs.Common.{◌≤◌, Bool, false, length, ap, subst, ◌∙◌, arith}
use Rattle.std.specs.Prelude.{is_some}
use Rattle.std.proofs.lemmas.Result.{err_from_is_err_and}
use Rattle.tile_io.specs.Blocks.{StopsInBlocks}
use Rattle.tile_io.specs.Formats.{Reads}
use Rattle.atam.specs.TileSystem.{TileSystem}
use Rattle.seq_text.proofs.Scratch.{places_of}
use Rattle.seq_text.proofs.Growths.{growth_format, into_places, sequence_is}
use Rattle.seq_text.proofs.Fitting.{places_fit, places_few}
use Rattle.seq_text.proofs.reader.read_sequence_in_blocks.Goals as goal

pub returns-in_err-read_text_in_blocks-clause-read : goal.returns-in_err-read_text_in_blocks-clause-read
returns-in_err-read_text_in_blocks-clause-read g c =
    let sys = c.args.sys.now in
    let reader = c.of_sequence-reader in
    let stop = c.in_err-read_text_in_blocks.field-0.0 in
    let p = err_from_is_err_and c.from_residual.result c.from_residual.ensures.1 in
    let Stops : Bool → TileSystem → Type 0 = λ b s. StopsInBlocks g.S.Source.left g.S.Source.faults (growth_format b s) c.args.begun.text.items c.args.from c.args.source.now c.read_text_in_blocks.new.source stop in
    let stops : Stops (is_some reader.result.grid) reader.result.system.now = c.in_err-read_text_in_blocks.ensures.read in
    rw (p.1, p.2) (subst (Stops false) reader.ensures.system (subst (λ b. Stops b reader.result.system.now) reader.ensures.distinct stops))

pub returns-clause-read : goal.returns-clause-read
returns-clause-read g c =
    let sys = c.args.sys.now in
    let reader = c.read_text_in_blocks.new.reader in
    let places = reader.sequence in
    let found = c.in_ok-read_text_in_blocks.ensures.read in
    let whole = found.0.0 in
    let to = found.0.2.0 in
    let into = found.0.2.1 in
    let Read : Bool → TileSystem → Type 0 = λ b s. Reads (growth_format b s) whole c.args.from into.items to in
    let reads = into_places false sys whole c.args.from to places into.items (sequence_is reader.system.now reader.sequence reader.grid (places_of into.items) (ap (λ (x : Bool × TileSystem). x.0) c.in_ok-read_text_in_blocks.ensures.context ∙ c.of_sequence-reader.ensures.distinct) into.held.places) (subst (Read false) c.of_sequence-reader.ensures.system (subst (λ b. Read b c.of_sequence-reader.result.system.now) c.of_sequence-reader.ensures.distinct into.reads)) in
    ((whole, found.0.1, reads), found.1)

pub returns-clause-fits : goal.returns-clause-fits
returns-clause-fits g c =
    let sys = c.args.sys.now in
    let reader = c.read_text_in_blocks.new.reader in
    let places = reader.sequence in
    let found = c.in_ok-read_text_in_blocks.ensures.read in
    let whole = found.0.0 in
    let to = found.0.2.0 in
    let into = found.0.2.1 in
    let Read : Bool → TileSystem → Type 0 = λ b s. Reads (growth_format b s) whole c.args.from into.items to in
    let reads = into_places false sys whole c.args.from to places into.items (sequence_is reader.system.now reader.sequence reader.grid (places_of into.items) (ap (λ (x : Bool × TileSystem). x.0) c.in_ok-read_text_in_blocks.ensures.context ∙ c.of_sequence-reader.ensures.distinct) into.held.places) (subst (Read false) c.of_sequence-reader.ensures.system (subst (λ b. Read b c.of_sequence-reader.result.system.now) c.of_sequence-reader.ensures.distinct into.reads)) in
    (places_fit false sys whole c.args.from places reads).0

pub returns-clause-count : goal.returns-clause-count
returns-clause-count g c =
    let sys = c.args.sys.now in
    let reader = c.read_text_in_blocks.new.reader in
    let places = reader.sequence in
    let found = c.in_ok-read_text_in_blocks.ensures.read in
    let whole = found.0.0 in
    let to = found.0.2.0 in
    let into = found.0.2.1 in
    let Read : Bool → TileSystem → Type 0 = λ b s. Reads (growth_format b s) whole c.args.from into.items to in
    let reads = into_places false sys whole c.args.from to places into.items (sequence_is reader.system.now reader.sequence reader.grid (places_of into.items) (ap (λ (x : Bool × TileSystem). x.0) c.in_ok-read_text_in_blocks.ensures.context ∙ c.of_sequence-reader.ensures.distinct) into.held.places) (subst (Read false) c.of_sequence-reader.ensures.system (subst (λ b. Read b c.of_sequence-reader.result.system.now) c.of_sequence-reader.ensures.distinct into.reads)) in
    let few : length places ≤ length whole = places_few false sys whole c.args.from places reads in
    let short : length whole ≤ 67108864 = found.0.1.short in
    omega (arith, few, short)
