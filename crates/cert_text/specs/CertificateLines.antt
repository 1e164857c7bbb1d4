-- The lines of a certificate, and of the verdict on it.
use Rattle.std.specs.Prelude.{ℕ, List, [], ◌∷◌, codes, decimal, flat_map}
use Rattle.std.specs.List.{slice_index_or}
use Rattle.std.specs.Fmt.{signed_decimal}
use Rattle.tile_io.specs.Lines.{line_of}
use Rattle.atam.specs.declared.site.Side.{Side}
use Rattle.atam.specs.declared.site.Site.{Site}
use Rattle.atam.specs.TileSystem.{TileSystem, IsType, type_name}
use Rattle.cert_check.specs.declared.entry.Entry.{Entry}
use Rattle.cert_check.specs.Certificates.{bit_of}
use Rattle.cert_check.specs.declared.verdict.CertVerdict.{CertVerdict}
use Rattle.cert_check.specs.declared.verdict.CertVerdict.TheVariants.{Yes, NoSeed, SeedSides, BadInput, NotExact, LooseBond, Rival, NotTerminal}

-- the words of the sixteen sets of sides, by the number that their bits make: the letters of the sides in the order north, east, south and west
abbrev pub side_words : List (List ℕ)
side_words =
    codes "-" ∷ codes "N" ∷ codes "E" ∷ codes "NE" ∷ codes "S" ∷ codes "NS" ∷ codes "ES" ∷ codes "NES"
    ∷ codes "W" ∷ codes "NW" ∷ codes "EW" ∷ codes "NEW" ∷ codes "SW" ∷ codes "NSW" ∷ codes "ESW" ∷ codes "NESW" ∷ []

-- the line of an entry: a column, a row, the name of a type, a word of sides and a rank
abbrev pub mark_line : TileSystem → Entry → List ℕ
mark_line sys e = line_of (codes "mark" ∷ signed_decimal e.place.site.x ∷ signed_decimal e.place.site.y
    ∷ type_name sys e.place.tile ∷ slice_index_or side_words e.sides [] ∷ decimal e.rank ∷ [])

-- the lines of the entries, in their order
abbrev pub mark_lines : TileSystem → List Entry → List ℕ
mark_lines sys c = flat_map (mark_line sys) c

-- the letter of a side
abbrev pub side_letter : Side → List ℕ
side_letter d = slice_index_or side_words (bit_of d) []

-- the number of the check that fails, the site where it fails, and what fails there, if that is told
abbrev pub failed_check : List ℕ → Site → List (List ℕ) → List ℕ
failed_check check m what =
    line_of (codes "verified" ∷ codes "no" ∷ check ∷ signed_decimal m.x ∷ signed_decimal m.y ∷ what)

-- yes, or the first check that fails: with the sum of the stated bonds, the side of an unanswered bond, the type of a rival, or a type that attaches
abbrev pub verified_line : TileSystem → CertVerdict → List ℕ
verified_line sys Yes = line_of (codes "verified" ∷ codes "yes" ∷ [])
verified_line sys (NoSeed m) = failed_check (codes "1") m []
verified_line sys (SeedSides m) = failed_check (codes "2") m []
verified_line sys (BadInput m) = failed_check (codes "3") m []
verified_line sys (NotExact m sum) = failed_check (codes "4") m (decimal sum ∷ [])
verified_line sys (LooseBond m d) = failed_check (codes "5") m (side_letter d ∷ [])
verified_line sys (Rival m t) = failed_check (codes "6") m (type_name sys t ∷ [])
verified_line sys (NotTerminal m t) = failed_check (codes "7") m (type_name sys t ∷ [])

-- a type that the verdict names is one of the system
abbrev pub NamesKnownType : TileSystem → CertVerdict → Type 0
NamesKnownType sys (Rival m t) = IsType sys t
NamesKnownType sys (NotTerminal m t) = IsType sys t
NamesKnownType sys _ = Unit {0}
