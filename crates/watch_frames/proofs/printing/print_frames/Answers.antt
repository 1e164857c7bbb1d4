use Rattle.std.proofs.Common.{◌∙◌, append-nil, [], ap}
use Rattle.atam.specs.TileSystem.{TileSystem}
use Rattle.std.proofs.lemmas.Result.{err_from_is_err_and}
use Rattle.tile_io.proofs.Printing.{PassesOn-both, PassesOn-fails, Prints-flushed, Prints-lost, Prints-text}
use Rattle.watch_frames.specs.FrameText.{frames_text}
use Rattle.watch_frames.proofs.printing.print_frames.Goals as goal

pub returns-in_err-put_line : goal.returns-in_err-put_line
returns-in_err-put_line g c =
    let text = frames_text c.new-pieces.result c.args.frames.now.places c.args.frames.now.counts in
    let told = ap (λ (sys : TileSystem). frames_text sys c.args.frames.now.places c.args.frames.now.counts) c.new-pieces.ensures in
    let p = err_from_is_err_and c.from_residual-in_err-put_line.result c.from_residual-in_err-put_line.ensures.1 in
    rw p.1 (Prints-text (append-nil text ∙ told) (Prints-lost [] c.new-chunk.ensures (PassesOn-fails c.in_ok-put_frames.ensures c.in_err-put_line.ensures)))

pub returns : goal.returns
returns g c =
    let told = ap (λ (sys : TileSystem). frames_text sys c.args.frames.now.places c.args.frames.now.counts) c.new-pieces.ensures in
    Prints-text told (Prints-flushed c.flush.result c.new-chunk.ensures (PassesOn-both c.in_ok-put_frames.ensures c.in_ok-put_line.ensures) c.flush.ensures.bytes)
