use Rattle.std.proofs.Common.{[], ◌++◌, append_assoc, append-nil, ap, sym}
use Rattle.std.proofs.lemmas.Result.{err_from_is_err_and}
use Rattle.atam.specs.TileSystem.{TileSystem}
use Rattle.tile_io.proofs.Printing.{PassesOn-both, PassesOn-fails, PassesOn-text, Prints-flushed, Prints-lost, Prints-text}
use Rattle.seq_text.specs.GrowthLines.{place_lines, closed_line}
use Rattle.seq_text.specs.VerdictLines.{verdict_line}
use Rattle.job_board.specs.AnswerText.{growth_text}
use Rattle.tilebench.specs.Inner.Rooms.{outcome_of}
use Rattle.tilebench.proofs.growth.GrowthReply.print.Goals as goal

pub returns-in_err-put_places : goal.returns-in_err-put_places
returns-in_err-put_places g c =
    let growth = c.args.self.now in
    let sys = growth.sys in
    let closed = closed_line sys growth.outside in
    let verdict = verdict_line sys growth.verdict in
    let places = PassesOn-text (ap (λ (of : TileSystem). place_lines of growth.order) c.new-pieces.ensures) c.in_err-put_places.ensures.passes in
    let p = err_from_is_err_and c.from_residual.result c.from_residual.ensures.1 in
    rw p.1 (Prints-text (sym (append_assoc (place_lines sys growth.order) closed verdict)) (Prints-lost (closed ++ verdict) c.new-chunk.ensures places))

pub returns-in_err-put_closed : goal.returns-in_err-put_closed
returns-in_err-put_closed g c =
    let growth = c.args.self.now in
    let places = PassesOn-text (ap (λ (of : TileSystem). place_lines of growth.order) c.new-pieces.ensures) c.in_ok-put_places.ensures.passes in
    let p = err_from_is_err_and c.from_residual-in_err-put_closed.result c.from_residual-in_err-put_closed.ensures.1 in
    rw p.1 (Prints-lost (verdict_line growth.sys growth.verdict) c.new-chunk.ensures (PassesOn-fails places c.in_err-put_closed.ensures))

pub returns-in_err-put_verdict : goal.returns-in_err-put_verdict
returns-in_err-put_verdict g c =
    let growth = c.args.self.now in
    let places = PassesOn-text (ap (λ (of : TileSystem). place_lines of growth.order) c.new-pieces.ensures) c.in_ok-put_places.ensures.passes in
    let p = err_from_is_err_and c.from_residual-in_err-put_verdict.result c.from_residual-in_err-put_verdict.ensures.1 in
    rw p.1 (Prints-text (append-nil (growth_text growth.sys (outcome_of growth))) (Prints-lost [] c.new-chunk.ensures (PassesOn-fails (PassesOn-both places c.in_ok-put_closed.ensures) c.in_err-put_verdict.ensures)))

pub returns : goal.returns
returns g c =
    let growth = c.args.self.now in
    let places = PassesOn-text (ap (λ (of : TileSystem). place_lines of growth.order) c.new-pieces.ensures) c.in_ok-put_places.ensures.passes in
    Prints-flushed c.flush.result c.new-chunk.ensures (PassesOn-both (PassesOn-both places c.in_ok-put_closed.ensures) c.in_ok-put_verdict.ensures) c.flush.ensures.bytes
