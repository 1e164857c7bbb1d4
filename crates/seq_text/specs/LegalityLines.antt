-- The line on the legality of a sequence.
use Rattle.std.specs.Prelude.{ℕ, List, [], ◌∷◌, codes, decimal}
use Rattle.tile_io.specs.Lines.{line_of}
use Rattle.atam.specs.declared.legality.Legality.{Legality}
use Rattle.atam.specs.declared.legality.Legality.TheVariants.{Legal, WrongSeed, SiteTaken, TooWeak}

-- yes, or which rule is broken first: by the seeds, by a place at a taken site, or by one whose pull is too weak
abbrev pub legality_line : Legality → List ℕ
legality_line Legal = line_of (codes "legal" ∷ codes "yes" ∷ [])
legality_line WrongSeed = line_of (codes "legal" ∷ codes "no" ∷ codes "1" ∷ [])
legality_line (SiteTaken index) = line_of (codes "legal" ∷ codes "no" ∷ codes "2" ∷ decimal index ∷ [])
legality_line (TooWeak index pull) = line_of (codes "legal" ∷ codes "no" ∷ codes "3" ∷ decimal index ∷ decimal pull ∷ [])
