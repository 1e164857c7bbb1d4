-- Parts of the canonical order: what it lists of a span of the box's sites, where all sites before the span have been listed.
use Rattle.std.specs.Prelude.{◌≡◌, ◌≢◌, ℕ, zero, suc, ◌<◌, ◌≤◌, ◌++◌, List, [], ◌∷◌, Option, Some, None, take, slice_get, Contains}
use Rattle.atam.specs.declared.site.Site.{Site}
use Rattle.atam.specs.declared.place.TypeId.{TypeId}
use Rattle.atam.specs.declared.place.Place.{Place}
use Rattle.atam.specs.declared.area.BoxArea.{BoxArea}
use Rattle.atam.specs.Sites.{IsBefore}
use Rattle.atam.specs.Placements.{HasDistinctSites, IsPartOf, tile_at}
use Rattle.atam.specs.TileSystem.{TileSystem, IsValid}
use Rattle.atam.specs.Assembly.{Fits}
use Rattle.atam.specs.Canonical.{IsReady}
use Rattle.assembly.specs.Cells.{site_at}
use Rattle.assembly.specs.Grids.{TileGrid}
use Rattle.replay_order.specs.ReplayAnswers.{HoldsSeeds}
use Rattle.replay_order.specs.Inner.Replays.{Waiting, AreLacks, AreReadySites}

-- the tile at a site, unless some place of the beginning is there
abbrev pub place_unless : Option TypeId → Option TypeId → Site → List Place
place_unless (Some begun) tile m = []
place_unless None None m = []
place_unless None (Some t) m = record { site = m; tile = t } ∷ []

-- the beginning, and then the other tiles at the sites with numbers below this
abbrev pub listed_below : BoxArea → List Place → List Place → ℕ → List Place
listed_below area tiles begun zero = begun
listed_below area tiles begun (suc n) = listed_below area tiles begun n ++ place_unless (tile_at begun (site_at area n)) (tile_at tiles (site_at area n)) (site_at area n)

-- the seeds, and the other tiles below
abbrev pub standing : TileSystem → List Place → ℕ → List Place
standing sys tiles n = listed_below sys.area tiles sys.seeds n

-- those of these seeds that are at sites with numbers from the first one on
pub record AreSeedsFrom (area : BoxArea) (first : ℕ) (seeds begun : List Place) : Type 0 where
  pub part : IsPartOf begun seeds
  pub from : (p : Place) → Contains begun p → (number : ℕ) × (first ≤ number) × (site_at area number ≡ p.site)
  pub whole : (p : Place) (number : ℕ) → Contains seeds p → site_at area number ≡ p.site → first ≤ number → Contains begun p

-- these seeds stand, and the tiles at sites with numbers below n, and each tile that waits lacks what they leave
pub record HaveStood (sys : TileSystem) (tiles : List Place) (first : ℕ) (seeds : List Place) (n : ℕ) (waiting : Waiting) : Type 0 where
  pub begun : List Place
  pub seeds_from : AreSeedsFrom sys.area first seeds begun
  pub lacks : AreLacks sys tiles (listed_below sys.area tiles begun n) waiting
  pub ready : AreReadySites sys tiles (listed_below sys.area tiles begun n) waiting

-- the site is one of those with numbers from the first to before the end
pub record IsSiteBetween (area : BoxArea) (first end : ℕ) (m : Site) : Type 0 where
  pub number : ℕ
  pub from : first ≤ number
  pub before : number < end
  pub site : site_at area number ≡ m

-- behind these, the places follow that are the least ready ones one after the other
pub record GoesOn (sys : TileSystem) (tiles before part : List Place) : Type 0 where
  pub ready : (i : ℕ) (p : Place) → slice_get part i ≡ Some p → IsReady sys tiles (before ++ take i part) p
  pub least : (i : ℕ) (p q : Place) → slice_get part i ≡ Some p → IsReady sys tiles (before ++ take i part) q → ¬ IsBefore q.site p.site

-- what follows within the span, until no place of it is ready
pub record IsPartOfOrder (sys : TileSystem) (tiles : List Place) (first end : ℕ) (part : List Place) : Type 0 where
  pub goes_on : GoesOn sys tiles (standing sys tiles first) part
  pub between : (p : Place) → Contains part p → IsSiteBetween sys.area first end p.site
  pub whole : (q : Place) → IsSiteBetween sys.area first end q.site → ¬ IsReady sys tiles (standing sys tiles first ++ part) q

-- such a part was listed behind what had been, and each tile of the span lacks what it leaves
pub record IsSpanListed (sys : TileSystem) (tiles : List Place) (first end : ℕ) (old new : List Place) (waiting : Waiting) : Type 0 where
  pub part : List Place
  pub listed : new ≡ old ++ part
  pub is_part : IsPartOfOrder sys tiles first end part
  pub lacks : AreLacks sys tiles (standing sys tiles first ++ part) waiting
  pub same_first : waiting.first ≡ first
  pub same_end : waiting.end ≡ end

-- each tile of the span is listed
abbrev pub IsSpanFull : TileSystem → List Place → ℕ → ℕ → List Place → Type 0
IsSpanFull sys tiles first end listed = (m : Site) → IsSiteBetween sys.area first end m → tile_at tiles m ≢ None → tile_at listed m ≢ None

-- Tiles of the span, each at most once; where they are all of them they are what follows.
pub record FollowsIfFull (sys : TileSystem) (tiles : List Place) (first end : ℕ) (part : List Place) : Type 0 where
  pub placed : IsPartOf part tiles
  pub between : (p : Place) → Contains part p → IsSiteBetween sys.area first end p.site
  pub distinct : HasDistinctSites (standing sys tiles first ++ part)
  pub goes_on : IsSpanFull sys tiles first end (standing sys tiles first ++ part) → GoesOn sys tiles (standing sys tiles first) part

-- such places were listed behind what had been
pub record IsListedBehind (sys : TileSystem) (tiles : List Place) (first end : ℕ) (old new : List Place) : Type 0 where
  pub part : List Place
  pub listed : new ≡ old ++ part
  pub follows : FollowsIfFull sys tiles first end part

-- the grid holds the seeds of a valid system, in its box
pub record CanList (sys : TileSystem) (grid : TileGrid) : Type 0 where
  pub valid : IsValid sys
  pub area : grid.area ≡ sys.area
  pub fits : Fits sys grid.tiles
  pub distinct : HasDistinctSites grid.tiles
  pub seeded : HoldsSeeds sys grid.tiles
