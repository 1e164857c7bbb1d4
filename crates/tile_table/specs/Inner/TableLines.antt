-- The words of the lines that a table's text has of its labels, its kinds and its seed.
use Rattle.std.specs.Prelude.{ℕ, List, [], ◌∷◌, Option, Some, None, codes, decimal}
use Rattle.atam.specs.declared.site.Side.TheVariants.{North, East, South, West}
use Rattle.design.specs.TileSets.{TileSet}

module _ {K G : Type 0} (set : TileSet K G) where
  abbrev pub label_words : G → List (List ℕ)
  label_words g = codes "glue" ∷ (set.label_row g).2 ∷ decimal (set.label_row g).1 ∷ []

  -- the name of a side's label, or `-`
  abbrev pub label_word : Option G → List ℕ
  label_word None = codes "-"
  label_word (Some g) = (set.label_row g).2

  abbrev pub kind_words : K → List (List ℕ)
  kind_words k =
      codes "tile"
      ∷ (set.kind_row k).1
      ∷ label_word (set.side k North)
      ∷ label_word (set.side k East)
      ∷ label_word (set.side k South)
      ∷ label_word (set.side k West)
      ∷ []

  -- the seed has this kind, and is at (0, 0)
  abbrev pub seed_words : K → List (List ℕ)
  seed_words k = codes "seed" ∷ codes "0" ∷ codes "0" ∷ (set.kind_row k).1 ∷ []
