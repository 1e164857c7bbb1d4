-- The line on an assembly that can't be put in order.
use Rattle.std.specs.Prelude.{ℕ, List, [], ◌∷◌, codes}
use Rattle.std.specs.Fmt.{signed_decimal}
use Rattle.tile_io.specs.Lines.{line_of}
use Rattle.atam.specs.declared.site.Site.{Site}

-- how many tiles can't be reached from the seeds, and the least site of theirs; or `seed`, and the
-- site of a seed that isn't there
abbrev pub stuck_line : List ℕ → Site → List ℕ
stuck_line what m = line_of (codes "stuck" ∷ what ∷ signed_decimal m.x ∷ signed_decimal m.y ∷ [])
