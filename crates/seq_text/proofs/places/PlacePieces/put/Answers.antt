use Rattle.std.proofs.lemmas.Result.{err_from_is_err_and}
use Rattle.tile_io.proofs.Printing.{PassesOn-held, PassesOn-stopped}
use Rattle.seq_text.specs.GrowthLines.{place_line}
use Rattle.seq_text.proofs.places.PlacePieces.put.Goals as goal

pub returns-in_err-make_room-clause-passes : goal.returns-in_err-make_room-clause-passes
returns-in_err-make_room-clause-passes g c =
    let p = err_from_is_err_and c.from_residual.result c.from_residual.ensures.1 in
    rw p.1 (PassesOn-stopped (place_line c.args.self.now c.args.place) c.in_err-make_room.ensures.passed)

pub returns-clause-passes : goal.returns-clause-passes
returns-clause-passes g c = PassesOn-held c.in_ok-make_room.ensures.passed c.hold.ensures.line
