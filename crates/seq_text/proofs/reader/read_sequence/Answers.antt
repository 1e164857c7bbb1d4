use Rattle.std.proofs.Common.{◌≤◌, Bool, false, length, ap, subst, ◌∙◌, arith}
use Rattle.tile_io.specs.Formats.{Reads}
use Rattle.atam.specs.TileSystem.{TileSystem}
use Rattle.seq_text.proofs.Scratch.{places_of}
use Rattle.seq_text.proofs.Growths.{growth_format, into_places, sequence_is}
use Rattle.seq_text.proofs.Fitting.{places_fit, places_few}
use Rattle.seq_text.proofs.reader.read_sequence.Goals as goal

pub returns-clause-read : goal.returns-clause-read
returns-clause-read c =
    let sys = c.args.sys.now in
    let reader = c.read_text.new.reader in
    let places = reader.sequence in
    let into = c.in_ok-read_text.ensures.read in
    let to = c.in_ok-read_text.field-0 in
    let Read : Bool → TileSystem → Type 0 = λ b s. Reads (growth_format b s) c.args.text.now c.args.from into.items to in
    into_places false sys c.args.text.now c.args.from to places into.items (sequence_is reader.system.now reader.sequence reader.grid (places_of into.items) (ap (λ (x : Bool × TileSystem). x.0) c.in_ok-read_text.ensures.context ∙ c.of_sequence-reader.ensures.distinct) into.held.places) (subst (Read false) c.of_sequence-reader.ensures.system (subst (λ b. Read b c.of_sequence-reader.result.system.now) c.of_sequence-reader.ensures.distinct into.reads))

pub returns-clause-fits : goal.returns-clause-fits
returns-clause-fits c =
    let sys = c.args.sys.now in
    let reader = c.read_text.new.reader in
    let places = reader.sequence in
    let into = c.in_ok-read_text.ensures.read in
    let to = c.in_ok-read_text.field-0 in
    let Read : Bool → TileSystem → Type 0 = λ b s. Reads (growth_format b s) c.args.text.now c.args.from into.items to in
    let reads = into_places false sys c.args.text.now c.args.from to places into.items (sequence_is reader.system.now reader.sequence reader.grid (places_of into.items) (ap (λ (x : Bool × TileSystem). x.0) c.in_ok-read_text.ensures.context ∙ c.of_sequence-reader.ensures.distinct) into.held.places) (subst (Read false) c.of_sequence-reader.ensures.system (subst (λ b. Read b c.of_sequence-reader.result.system.now) c.of_sequence-reader.ensures.distinct into.reads)) in
    (places_fit false sys c.args.text.now c.args.from places reads).0

pub returns-clause-count : goal.returns-clause-count
returns-clause-count c =
    let sys = c.args.sys.now in
    let reader = c.read_text.new.reader in
    let places = reader.sequence in
    let into = c.in_ok-read_text.ensures.read in
    let to = c.in_ok-read_text.field-0 in
    let Read : Bool → TileSystem → Type 0 = λ b s. Reads (growth_format b s) c.args.text.now c.args.from into.items to in
    let reads = into_places false sys c.args.text.now c.args.from to places into.items (sequence_is reader.system.now reader.sequence reader.grid (places_of into.items) (ap (λ (x : Bool × TileSystem). x.0) c.in_ok-read_text.ensures.context ∙ c.of_sequence-reader.ensures.distinct) into.held.places) (subst (Read false) c.of_sequence-reader.ensures.system (subst (λ b. Read b c.of_sequence-reader.result.system.now) c.of_sequence-reader.ensures.distinct into.reads)) in
    let few : length places ≤ length c.args.text.now = places_few false sys c.args.text.now c.args.from places reads in
    omega (arith, few)
