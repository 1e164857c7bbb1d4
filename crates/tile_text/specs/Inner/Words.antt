-- The words of the lines of a printed system, by what each line tells.
use Rattle.std.specs.Prelude.{ℕ, pos, List, [], ◌∷◌}
use Rattle.atam.specs.declared.place.GluePair.{GluePair}
use Rattle.atam.specs.declared.place.Place.{Place}
use Rattle.atam.specs.declared.area.BoxArea.{BoxArea}
use Rattle.atam.specs.TileSystem.{TileSystem, Glue, TileType}
use Rattle.tile_text.specs.declared.version.Version.{Version}
use Rattle.tile_text.specs.declared.version.Version.TheVariants.{One}
use Rattle.tile_text.specs.SystemText.SystemItem.{Header, TauLine, GlueLine, PairLine, TileLine, BoxLine, SeedLine}
use Rattle.tile_text.specs.Spelling.{item_words}

-- a system of nothing, for the lines whose words are the same in every system
abbrev nothing : TileSystem
nothing = record {
  glues = [];
  pairs = [];
  types = [];
  tau = 0;
  seeds = [];
  area = record { x0 = pos 0; y0 = pos 0; x1 = pos 0; y1 = pos 0 };
}

abbrev pub head_words : Version → ℕ → List (List (List ℕ))
head_words version tau =
    item_words version nothing Header ∷ item_words version nothing (TauLine tau) ∷ []

abbrev pub glue_words : Glue → List (List ℕ)
glue_words g = item_words One nothing (GlueLine g)

abbrev pub pair_words : TileSystem → GluePair → List (List ℕ)
pair_words sys p = item_words One sys (PairLine p)

abbrev pub tile_words : TileSystem → TileType → List (List ℕ)
tile_words sys t = item_words One sys (TileLine t)

abbrev pub box_words : BoxArea → List (List ℕ)
box_words area = item_words One nothing (BoxLine area)

abbrev pub seed_words : TileSystem → Place → List (List ℕ)
seed_words sys p = item_words One sys (SeedLine p)
