use Rattle.std.proofs.Common.{rules, ◌≡◌, ◌∷◌, [], ℕ, List, codes}
use Rattle.std.specs.Fmt.{signed_decimal}
use Rattle.tile_io.specs.Lines.{line_of}
use Rattle.tile_io.proofs.Printing.{Prints-text}
use Rattle.cert_text.proofs.verdict.print_failed.Goals as goal

-- a line of the same words
same_line : (check x y what a b : List ℕ) → x ≡ a → y ≡ b →
    line_of (codes "verified" ∷ codes "no" ∷ check ∷ x ∷ y ∷ what ∷ []) ≡ line_of (codes "verified" ∷ codes "no" ∷ check ∷ a ∷ b ∷ what ∷ [])
same_line check x y what a b same_x same_y = cc

pub returns : goal.returns
returns g c =
    let x : c.as_bytes-x.result.now ≡ signed_decimal c.args.site.x = search rules in
    let y : c.as_bytes-y.result.now ≡ signed_decimal c.args.site.y = search rules in
    Prints-text (same_line _ _ _ _ _ _ x y) c.print_line.ensures
