-- A `place` line in its plain form.
use Rattle.std.specs.Prelude.{◌≡◌, ℕ, ◌+◌, List, length, ◌∷◌, ◌++◌, codes, Ok}
use Rattle.tile_io.specs.Checks.{coordinate}
use Rattle.atam.specs.declared.site.Site.{Site}

-- the keyword and the coordinates of a site, each with a space behind it, and then the rest
pub record IsPlainPlace (line : List ℕ) (m : Site) (name : List ℕ) : Type 0 where
  pub column : List ℕ
  pub row : List ℕ
  pub spelled : line ≡ codes "place" ++ 32 ∷ (column ++ 32 ∷ (row ++ 32 ∷ name))
  pub x : coordinate column ≡ Ok m.x
  pub y : coordinate row ≡ Ok m.y

-- a text begins with such a line, and it has so many bytes with its newline
pub record BeginsPlain (text : List ℕ) (m : Site) (name : List ℕ) (count : ℕ) : Type 0 where
  pub line : List ℕ
  pub behind : List ℕ
  pub plain : IsPlainPlace line m name
  pub whole : text ≡ line ++ 10 ∷ behind
  pub count_is : count ≡ length line + 1
