use Rattle.std.proofs.Common.{◌≡◌, ◌∷◌, [], ℕ, List, codes, rules}
use Rattle.std.specs.Fmt.{signed_decimal}
use Rattle.tile_io.specs.Lines.{line_of}
use Rattle.tile_io.proofs.Printing.{PassesOn-text}
use Rattle.seq_text.proofs.closed.put_clipped.Goals as goal

-- a line of the same words
same_line : (x y name a b word : List ℕ) → x ≡ a → y ≡ b → name ≡ word →
    line_of (codes "closed" ∷ codes "clipped" ∷ x ∷ y ∷ name ∷ []) ≡ line_of (codes "closed" ∷ codes "clipped" ∷ a ∷ b ∷ word ∷ [])
same_line x y name a b word same_x same_y same_name = cc

pub returns : goal.returns
returns g c =
    let same_x : c.as_bytes-x.result.now ≡ signed_decimal c.args.site.x = search rules in
    let same_y : c.as_bytes-y.result.now ≡ signed_decimal c.args.site.y = search rules in
    PassesOn-text (same_line _ _ _ _ _ _ same_x same_y c.type_name.ensures) c.put_line.ensures
