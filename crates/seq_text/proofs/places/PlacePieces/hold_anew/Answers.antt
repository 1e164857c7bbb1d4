use Rattle.std.proofs.Common.{◌≡◌, ◌++◌, [], ◌∷◌, codes, ◌∙◌, arith}
use Rattle.std.proofs.lemmas.Int.{ints, to_z-of_z}
use Rattle.std.specs.Fmt.{signed_decimal}
use Rattle.atam.specs.TileSystem.{type_name}
use Rattle.seq_text.proofs.HeldLines.{place_held}
use Rattle.seq_text.proofs.places.PlacePieces.hold_anew.Goals as goal

pub returns-clause-line : goal.returns-clause-line
returns-clause-line c =
    let held = c.args.chunk.now in
    let x = signed_decimal c.args.column in
    let y = signed_decimal c.args.row in
    let name = type_name c.args.self.now c.args.tile in
    let k : c.hold_end.new.chunk ≡ ((held ++ codes "place " ++ x ++ 32 ∷ []) ++ y ++ 32 ∷ []) ++ name ++ 10 ∷ [] =
    rw (c.hold_end.ensures, c.hold_row.ensures.bytes, c.hold_column.ensures.bytes) (grind (arith, ints, to_z-of_z))
    in
    k ∙ place_held held x y name
