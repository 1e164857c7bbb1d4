-- A `mark` line in its plain form.
use Rattle.std.specs.Prelude.{◌≡◌, ℕ, ◌+◌, List, length, ◌∷◌, ◌++◌, codes, Ok}
use Rattle.tile_io.specs.Checks.{coordinate, count_in}
use Rattle.atam.specs.declared.site.Site.{Site}

-- the keyword, the coordinates of a site and two words, each with a space behind it, and then the rest
pub record IsPlainMark (line : List ℕ) (m : Site) (name sides rank : List ℕ) : Type 0 where
  pub column : List ℕ
  pub row : List ℕ
  pub spelled : line ≡ codes "mark" ++ 32 ∷ (column ++ 32 ∷ (row ++ 32 ∷ (name ++ 32 ∷ (sides ++ 32 ∷ rank))))
  pub x : coordinate column ≡ Ok m.x
  pub y : coordinate row ≡ Ok m.y

-- a text begins with such a line, whose last word reads as this rank, and it has so many bytes with its newline
pub record BeginsPlain (text : List ℕ) (m : Site) (name sides : List ℕ) (rank count : ℕ) : Type 0 where
  pub line : List ℕ
  pub behind : List ℕ
  pub last : List ℕ
  pub plain : IsPlainMark line m name sides last
  pub whole : text ≡ line ++ 10 ∷ behind
  pub count_is : count ≡ length line + 1
  pub rank_read : count_in 0 4294967295 last ≡ Ok rank
