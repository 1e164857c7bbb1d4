-- A line whose words are put one by one.
use Rattle.std.proofs.Common.{◌≡◌, ℕ, List, [], ◌∷◌, ◌++◌, map, flat_map, ap, ◌∙◌, sym, append_assoc, append-nil}
use Rattle.std.specs.List.{join_with_byte}
use Rattle.tile_io.specs.Lines.{line_of}

-- words with single spaces between them are the first word, and each other one behind a space
pub join_with_byte-cons : {R : Type 0} (now : R → List ℕ) (first : List ℕ) (rest : List R) →
    join_with_byte 32 (first ∷ map now rest) ≡ first ++ flat_map (λ word. 32 ∷ now word) rest
join_with_byte-cons now first [] = sym (append-nil first)
join_with_byte-cons now first (word ∷ words) = ap (λ l. first ++ (32 ∷ l)) (join_with_byte-cons now (now word) words)

pub line_of-cons : {R : Type 0} (now : R → List ℕ) (first : List ℕ) (rest : List R) →
    line_of (first ∷ map now rest) ≡ first ++ (flat_map (λ word. 32 ∷ now word) rest ++ 10 ∷ [])
line_of-cons now first rest =
    ap (λ l. l ++ 10 ∷ []) (join_with_byte-cons now first rest) ∙ append_assoc first (flat_map (λ word. 32 ∷ now word) rest) (10 ∷ [])
