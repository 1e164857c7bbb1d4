-- `replay`: an assembly in canonical order.
use Rattle.std.specs.Prelude.{◌≡◌, ◌⊎◌, ℕ, Bool, true, false, List, ◌++◌, codes, decimal, Some}
use Rattle.atam.specs.declared.place.Place.{Place}
use Rattle.atam.specs.declared.site.Site.{Site}
use Rattle.atam.specs.TileSystem.{TileSystem}
use Rattle.atam.specs.Placements.{tile_at}
use Rattle.replay_order.specs.ReplayAnswers.{IsWholeOrder, IsStuckAt}
use Rattle.local_check.specs.Firsts.{IsFirstNot}
use Rattle.tile_text.specs.Spelling.{spelling}
use Rattle.seq_text.specs.GrowthLines.{place_lines}
use Rattle.seq_text.specs.StuckLines.{stuck_line}
use Rattle.tilebench.specs.Inputs.{IsSystemThen}
use Rattle.seq_text.specs.GrowthText.{ReadsPlaces}

-- the first seed that isn't there, in the system's order, is of this site
abbrev pub LacksSeedAt : TileSystem → List Place → Site → Type 0
LacksSeedAt sys tiles site =
    IsFirstNot sys.seeds 0 (λ i p. tile_at tiles p.site ≡ Some p.tile) (λ i p. site ≡ p.site)

-- there is no order, and this is told of it: the site of the first seed that isn't there; or the seeds are there, and how many
-- tiles can't be reached from them, with the least site of those
abbrev pub TellsNoOrder : TileSystem → List Place → List ℕ → Type 0
TellsNoOrder sys tiles text =
    ((site : Site) × LacksSeedAt sys tiles site × (text ≡ stuck_line (codes "seed") site))
    ⊎ ((left : ℕ) × (least : Site) × IsStuckAt sys tiles left least
    × (text ≡ stuck_line (decimal left) least))

-- the canonical order of the tiles, a legal sequence with exactly their placements, and its text, which reads back behind the
-- spelling of the system
pub record TellsOrder (sys : TileSystem) (tiles : List Place) (text : List ℕ) : Type 0 where
  pub order : List Place
  pub ordered : IsWholeOrder sys tiles order
  pub printed : text ≡ place_lines sys order
  pub reads_back : IsSystemThen (ReadsPlaces true) (spelling sys ++ text) sys order

-- the canonical order, which is a yes; or what keeps the tiles from having one
abbrev pub IsReplayAnswer : TileSystem → List Place → Bool → List ℕ → Type 0
IsReplayAnswer sys tiles true text = TellsOrder sys tiles text
IsReplayAnswer sys tiles false text = TellsNoOrder sys tiles text
