use Rattle.std.proofs.Common.{◌++◌, List, Option, ap, sym, append_assoc, ◌∙◌}
use Rattle.std.proofs.lemmas.Result.{err_from_is_err_and}
use Rattle.atam.specs.declared.place.Place.{Place}
use Rattle.atam.specs.declared.place.TypeId.{TypeId}
use Rattle.atam.specs.declared.site.Site.{Site}
use Rattle.atam.specs.TileSystem.{TileSystem}
use Rattle.atam.specs.declared.verdict.Verdict.{Verdict}
use Rattle.tile_io.proofs.Printing.{PassesOn-then, PassesOn-both, PassesOn-fails, PassesOn-stopped, PassesOn-text}
use Rattle.seq_text.specs.GrowthLines.{place_lines, closed_line}
use Rattle.seq_text.specs.VerdictLines.{verdict_line}
use Rattle.job_board.proofs.printing.put_outcome.Goals as goal

pub returns-in_err-put_places : goal.returns-in_err-put_places
returns-in_err-put_places g c =
    let sys = c.args.sys.now in
    let outcome = c.args.outcome.now in
    let printed = ap (λ (s : List Place). place_lines c.args.pieces.now s) c.sequence.ensures ∙ ap (λ (of : TileSystem). place_lines of outcome.order) c.requires.pieces in
    let places = PassesOn-text printed c.in_err-put_places.ensures.passes in
    let closed = closed_line sys outcome.outside in
    let verdict = verdict_line sys outcome.verdict in
    let p = err_from_is_err_and c.from_residual.result c.from_residual.ensures.1 in
    rw p.1 (PassesOn-text (sym (append_assoc (place_lines sys outcome.order) closed verdict)) (PassesOn-stopped (closed ++ verdict) places))

pub returns-in_err-put_closed : goal.returns-in_err-put_closed
returns-in_err-put_closed g c =
    let sys = c.args.sys.now in
    let printed = ap (λ (s : List Place). place_lines c.args.pieces.now s) c.sequence.ensures ∙ ap (λ (of : TileSystem). place_lines of c.args.outcome.now.order) c.requires.pieces in
    let places = PassesOn-text printed c.in_ok-put_places.ensures.passes in
    let closed = PassesOn-text (ap (λ (found : Option (Site × TypeId)). closed_line sys found) c.outside.ensures) c.in_err-put_closed.ensures in
    let p = err_from_is_err_and c.from_residual-in_err-put_closed.result c.from_residual-in_err-put_closed.ensures.1 in
    rw p.1 (PassesOn-stopped (verdict_line sys c.args.outcome.now.verdict) (PassesOn-fails places closed))

pub returns : goal.returns
returns g c =
    let sys = c.args.sys.now in
    let printed = ap (λ (s : List Place). place_lines c.args.pieces.now s) c.sequence.ensures ∙ ap (λ (of : TileSystem). place_lines of c.args.outcome.now.order) c.requires.pieces in
    let places = PassesOn-text printed c.in_ok-put_places.ensures.passes in
    let closed = PassesOn-text (ap (λ (found : Option (Site × TypeId)). closed_line sys found) c.outside.ensures) c.in_ok-put_closed.ensures in
    let verdict = PassesOn-text (ap (λ (v : Verdict). verdict_line sys v) c.verdict.ensures) c.put_verdict.ensures in
    PassesOn-then c.put_verdict.result (PassesOn-both places closed) verdict
