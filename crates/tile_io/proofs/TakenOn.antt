-- Bytes that are taken from a source on and on.
use Rattle.std.proofs.Common.{ℕ, List, [], ◌++◌, Option, ap, sym, ◌∙◌, append_assoc, append-nil}
use Rattle.std.specs.Io.KnownBytes.{Consumes}
use Rattle.tile_io.specs.Blocks.{TakesOn}
use Rattle.tile_io.proofs.Bytes.{Consumes-none, Consumes-then}

-- more bytes stand behind those that were taken
pub takes_more : (a b c : Option (List ℕ)) (front whole more : List ℕ) → TakesOn a b front whole → Consumes b c more → TakesOn a c front (whole ++ more)
takes_more a b c front whole more taken read = (taken.0 ++ more, Consumes-then a b c taken.0 more taken.1 read, ap (λ l. l ++ more) taken.2 ∙ append_assoc front taken.0 more)

-- nothing was taken yet
pub takes_none : (left : Option (List ℕ)) (front : List ℕ) → TakesOn left left front front
takes_none left front = ([], Consumes-none left, sym (append-nil front))
