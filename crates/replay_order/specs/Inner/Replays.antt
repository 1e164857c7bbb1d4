-- The sites where a tile is ready to follow, what the other tiles lack for that, and the sites that are left.
use Rattle.std.specs.Prelude.{◌≡◌, ◌≢◌, ◌⊎◌, ◌↔◌, ◌<◌, ◌≤◌, ◌+◌, ◌-◌, ℕ, List, Option, Some, None, length, slice_index, if◌then◌else◌}
use Rattle.std.specs.Option.{option_map_or}
use Rattle.atam.specs.declared.site.Side.{Side}
use Rattle.atam.specs.declared.site.Side.TheVariants.{North, East, South, West}
use Rattle.atam.specs.declared.site.Site.{Site}
use Rattle.atam.specs.declared.place.TypeId.{TypeId}
use Rattle.atam.specs.declared.place.Place.{Place}
use Rattle.atam.specs.declared.area.BoxArea.{BoxArea}
use Rattle.atam.specs.Sites.{IsBefore, InBox, IsBox, neighbor, same_site}
use Rattle.atam.specs.Placements.{tile_at}
use Rattle.atam.specs.TileSystem.{TileSystem}
use Rattle.atam.specs.Assembly.{bond, pull}
use Rattle.assembly.specs.Cells.{cell_count, site_at}
use Rattle.replay_order.specs.Inner.ReadyNumbers.{ReadyNumbers, IsAmong, Loses}

-- a tile stands at the site that is no seed and isn't listed, and whose type is held by the listed places
pub record IsReadySite (sys : TileSystem) (tiles listed : List Place) (m : Site) : Type 0 where
  pub tile : TypeId
  pub placed : tile_at tiles m ≡ Some tile
  pub no_seed : tile_at sys.seeds m ≡ None
  pub empty : tile_at listed m ≡ None
  pub held : sys.tau ≤ pull sys listed m tile

-- by the numbers of a box's sites: those from the first one to before the end wait, how much pull the tile at each lacks to be held, and which of them are ready
pub record Waiting : Type 0 where
  pub area : BoxArea
  pub first : ℕ
  pub end : ℕ
  pub lacks : List ℕ
  pub ready : ReadyNumbers

-- there is room for each site of the box, and those that wait are some of them
pub record HasEachSite (waiting : Waiting) : Type 0 where
  pub box_limits : IsBox waiting.area
  pub span : waiting.end ≤ cell_count waiting.area
  pub lacks_len : length waiting.lacks ≡ cell_count waiting.area
  pub ready_bound : waiting.ready.others.bound ≡ cell_count waiting.area

-- the site with this number is one of those that wait
pub record IsInSpan (waiting : Waiting) (i : ℕ) : Type 0 where
  pub from : waiting.first ≤ i
  pub before : i < waiting.end

-- how much pull the tile at a site needs: none where there is a seed, and else the temperature
abbrev pub due_at : List Place → ℕ → Site → ℕ
due_at seeds tau m = option_map_or (λ _. 0) (tile_at seeds m) tau

-- each tile that waits lacks what the pull of the listed places leaves of that, and a listed tile lacks nothing, nor does one that doesn't wait
pub record AreLacks (sys : TileSystem) (tiles listed : List Place) (waiting : Waiting) : Type 0 where
  pub area : waiting.area ≡ sys.area
  pub each : (i : ℕ) (t : TypeId) → i < cell_count sys.area → IsInSpan waiting i → tile_at tiles (site_at sys.area i) ≡ Some t →
      slice_index waiting.lacks i ≡ due_at sys.seeds sys.tau (site_at sys.area i) - pull sys listed (site_at sys.area i) t
  pub settled : (i : ℕ) (t : TypeId) → i < cell_count sys.area → IsInSpan waiting i → tile_at listed (site_at sys.area i) ≡ Some t → slice_index waiting.lacks i ≡ 0
  pub others : (i : ℕ) → i < cell_count sys.area → ¬ IsInSpan waiting i → slice_index waiting.lacks i ≡ 0

-- the numbers of the sites that wait and are ready
abbrev pub AreReadySites : TileSystem → List Place → List Place → Waiting → Type 0
AreReadySites sys tiles listed waiting = (i : ℕ) → i < cell_count sys.area → IsAmong waiting.ready i ↔ (IsInSpan waiting i × IsReadySite sys tiles listed (site_at sys.area i))

-- the same but for one site
abbrev pub AreReadySitesBut : TileSystem → List Place → List Place → Waiting → Site → Type 0
AreReadySitesBut sys tiles listed waiting but = (i : ℕ) → i < cell_count sys.area → IsAmong waiting.ready i ↔ (IsInSpan waiting i × IsReadySite sys tiles listed (site_at sys.area i) × (site_at sys.area i ≢ but))

-- each site lacks less by what it is given, and those are added that lack nothing from then on
pub record Lowers (area : BoxArea) (given : Site → ℕ) (old new : Waiting) : Type 0 where
  pub old_area : old.area ≡ area
  pub new_area : new.area ≡ area
  pub same_first : new.first ≡ old.first
  pub same_end : new.end ≡ old.end
  pub lacks : (i : ℕ) → i < cell_count area → slice_index new.lacks i ≡ slice_index old.lacks i - given (site_at area i)
  pub ready : (i : ℕ) → i < cell_count area → IsAmong new.ready i ↔ (IsAmong old.ready i ⊎ ((0 < slice_index old.lacks i) × (slice_index new.lacks i ≡ 0)))

-- the site on one side of a place is given the strength that the tiles at both have
abbrev pub given_to : TileSystem → List Place → Place → Side → Site → ℕ
given_to sys tiles p d m = if same_site (neighbor p.site d) m then bond sys tiles p.site p.tile d else 0

-- and so each site beside it
abbrev pub given_beside : TileSystem → List Place → Place → Site → ℕ
given_beside sys tiles p m = given_to sys tiles p North m + given_to sys tiles p East m + given_to sys tiles p South m + given_to sys tiles p West m

-- the least ready number is taken out
pub record TakesLeast (old new : Waiting) (number : ℕ) : Type 0 where
  pub within : number < cell_count old.area
  pub member : IsAmong old.ready number
  pub least : (i : ℕ) → IsAmong old.ready i → number ≤ i
  pub removed : Loses old.ready new.ready number

-- the tile at the site with this number lacks something
pub record IsLackingAt (tiles : List Place) (waiting : Waiting) (i : ℕ) : Type 0 where
  pub tile : TypeId
  pub placed : tile_at tiles (site_at waiting.area i) ≡ Some tile
  pub lacks : 0 < slice_index waiting.lacks i

-- none of the sites with lesser numbers does
abbrev pub NoneLacksBelow : List Place → Waiting → ℕ → Type 0
NoneLacksBelow tiles waiting n = (i : ℕ) → i < n → ¬ IsLackingAt tiles waiting i

-- the least site whose tile lacks something
pub record IsLeastLacking (tiles : List Place) (waiting : Waiting) (m : Site) : Type 0 where
  pub number : ℕ
  pub within : number < cell_count waiting.area
  pub site : site_at waiting.area number ≡ m
  pub here : IsLackingAt tiles waiting number
  pub least : NoneLacksBelow tiles waiting number

-- a tile stands at the site that isn't listed
pub record IsLeftAt (tiles s : List Place) (m : Site) : Type 0 where
  pub tile : TypeId
  pub placed : tile_at tiles m ≡ Some tile
  pub unlisted : tile_at s m ≡ None

-- the least site of the box with a tile that isn't listed; none exactly where there is no such site
pub record IsLeastLeftSite (area : BoxArea) (tiles s : List Place) (m : Site) : Type 0 where
  pub left : IsLeftAt tiles s m
  pub least : (n : Site) → InBox area n → IsLeftAt tiles s n → ¬ IsBefore n m

abbrev pub IsLeastLeft : BoxArea → List Place → List Place → Option Site → Type 0
IsLeastLeft area tiles s None = (m : Site) → InBox area m → ¬ IsLeftAt tiles s m
IsLeastLeft area tiles s (Some m) = IsLeastLeftSite area tiles s m
