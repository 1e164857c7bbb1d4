-- The pieces of a line, held one behind another.
use Rattle.std.proofs.Common.{◌≡◌, ℕ, List, [], ◌∷◌, ◌++◌, codes, append_assoc, refl}
use Rattle.tile_io.specs.Lines.{line_of}

-- a column behind its keyword and two words
pub place_held : (held x y name : List ℕ) →
    ((held ++ codes "place " ++ x ++ 32 ∷ []) ++ y ++ 32 ∷ []) ++ name ++ 10 ∷ [] ≡ held ++ line_of (codes "place" ∷ x ∷ y ∷ name ∷ [])
place_held held x y name = simp append_assoc refl
