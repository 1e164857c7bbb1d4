use Rattle.std.proofs.Common.{ap}
use Rattle.tile_io.proofs.Printing.{Prints-flushed, Prints-text}
use Rattle.seq_text.specs.GrowthLines.{place_lines}
use Rattle.seq_text.proofs.places.print_places.Goals as goal

pub returns : goal.returns
returns g c =
    let told = ap (λ sys. place_lines sys c.args.places.now) c.new-pieces.ensures in
    Prints-text told (Prints-flushed c.flush.result c.new-chunk.ensures c.in_ok-put_places.ensures.passes c.flush.ensures.bytes)
