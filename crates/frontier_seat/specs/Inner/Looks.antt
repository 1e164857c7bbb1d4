-- One look at a site, and the claim there.
use Rattle.std.specs.Prelude.{◌≡◌, ℕ, ◌+◌, ◌-◌, ◌*◌, ◌^◌, ◌≤◌, ◌<◌, ◌⊎◌, List, [], ◌∷◌, ◌++◌, length, Bool, true, None, MatchBool, Option, MatchOption}
use Rattle.atam.specs.declared.site.Site.{Site}
use Rattle.atam.specs.declared.place.TypeId.{TypeId}
use Rattle.atam.specs.declared.place.Place.{Place}
use Rattle.atam.specs.TileSystem.{TileSystem}
use Rattle.atam.specs.Placements.{SamePlacements, HasDistinctSites, tile_at}
use Rattle.atam.specs.Growth.{IsCandidate}
use Rattle.assembly.specs.Cells.{cell_count, site_at}
use Rattle.grow_core.specs.Steps.{place}
use Rattle.site_table.specs.Seats.{IsSeatOf}
use Rattle.number_set.specs.Numbers.{Numbers, IsIn, count_below}
use Rattle.type_cache.specs.Clean.{OpensExact}
use Rattle.frontier_seat.specs.declared.growing.Growing.{Growing}
use Rattle.frontier_seat.specs.declared.grower.Grower.{Grower}
use Rattle.frontier_seat.specs.declared.grower.Looked.{Looked}
use Rattle.frontier_seat.specs.declared.grower.Setting.{Setting}
use Rattle.frontier_seat.specs.declared.work_list.Spot.{Spot}
use Rattle.frontier_seat.specs.Growths.{ClaimsNothing, GrowsOn, IsGrowing}
use Rattle.frontier_seat.specs.Orders.{LoggedClaims}
use Rattle.frontier_seat.specs.Inner.Listings.{AreEmptySites, IsSpot}
use Rattle.frontier_seat.specs.Inner.Pickers.{IsPickerOf}

-- a tile more in the grid
pub record Puts (p : Place) (old new : Growing) : Type 0 where
  pub seat : new.seat ≡ old.seat
  pub won : new.won ≡ old.won
  pub area : new.grid.area ≡ old.grid.area
  pub tiles : (m : Site) → tile_at new.grid.tiles m ≡ tile_at (old.grid.tiles ++ p ∷ []) m
  pub placements : SamePlacements (old.grid.tiles ++ p ∷ []) new.grid.tiles
  pub distinct : HasDistinctSites new.grid.tiles
  pub count : length new.grid.tiles ≡ length old.grid.tiles + 1

-- a claim at an empty site of the grid, whoever won
pub record ClaimsAt (sys : TileSystem) (site : Site) (old new : Growing) : Type 0 where
  pub growing : IsGrowing sys new
  pub goes : GrowsOn old new
  pub tile : TypeId
  pub tiles : (m : Site) → tile_at new.grid.tiles m ≡ tile_at (old.grid.tiles ++ place site tile ∷ []) m
  pub placements : SamePlacements (old.grid.tiles ++ place site tile ∷ []) new.grid.tiles
  pub count : length new.grid.tiles ≡ length old.grid.tiles + 1

-- a claim for a type that attaches there, and whether that type stands there then, as it does for who owns all numbers
pub record ClaimsPick (sys : TileSystem) (site : Site) (old new : Growing) (picked : Bool) : Type 0 where
  pub claim : ClaimsAt sys site old new
  pub attaches : picked ≡ true → IsCandidate sys old.grid.tiles site claim.tile
  pub sole : old.seat.scout.owned ≡ 2 ^ 64 - 1 → picked ≡ true

-- If it is said that each tile came clean, it was said so before, and whatever attached at the site among these tiles comes clean.
abbrev pub KeepsClean : TileSystem → List Place → Site → Bool → Bool → Type 0
KeepsClean sys tiles site old new = new ≡ true → (old ≡ true) × OpensExact sys tiles site

-- a claim whose site's number is logged, and whether what stands there attached
pub record LogsClaim (sys : TileSystem) (spot : Spot) (before after : Growing) (old new : LoggedClaims) : Type 0 where
  pub claim : ClaimsAt sys spot.site before after
  pub numbers : new.numbers ≡ old.numbers ++ spot.number ∷ []
  pub in_order : new.in_order ≡ true → (old.in_order ≡ true) × IsCandidate sys before.grid.tiles spot.site claim.tile
  pub sole : before.seat.scout.owned ≡ 2 ^ 64 - 1 → old.in_order ≡ true → new.in_order ≡ true
  pub clean : KeepsClean sys before.grid.tiles spot.site old.clean new.clean

-- or nothing
abbrev pub MayLogClaim : TileSystem → Spot → Growing → Growing → LoggedClaims → LoggedClaims → Type 0
MayLogClaim sys spot before after old new = LogsClaim sys spot before after old new ⊎ ((after ≡ before) × (new ≡ old))

-- no type attaches at a site of the box but those with these numbers
abbrev pub IsClosedBut : TileSystem → List Place → (ℕ → Type 0) → Type 0
IsClosedBut sys tiles Listed = (n : ℕ) (t : TypeId) → n < cell_count sys.area → IsCandidate sys tiles (site_at sys.area n) t → Listed n

-- the box and the table are the system's, the seat is of the table and has seen what the grid has, and what it picks by and the sites that it is to look at are the system's
pub record CanLook (lent : Setting) (grower : Grower) : Type 0 where
  pub box : lent.area ≡ lent.sys.now.area
  pub system : lent.table.now.sys ≡ lent.sys.now
  pub seat : IsSeatOf lent.table.now grower.growing.seat
  pub growing : IsGrowing lent.sys.now grower.growing
  pub picker : IsPickerOf lent.sys.now grower.picker
  pub area : grower.work.area ≡ lent.sys.now.area

-- an empty site of the box, listed no longer; the listed ones are empty, at no other a type attaches
pub record IsTaken (sys : TileSystem) (tiles : List Place) (numbers : Numbers) (taken : Spot) :
    Type 0 where
  pub spot : IsSpot sys.area taken
  pub gone : ¬ IsIn numbers taken.number
  pub empty : tile_at tiles taken.site ≡ None
  pub listed : AreEmptySites sys.area tiles numbers
  pub closed : IsClosedBut sys tiles (λ n. IsIn numbers n ⊎ (n ≡ taken.number))

-- the same of the sites that are to be looked at
abbrev pub HasTaken : TileSystem → Grower → Spot → Type 0
HasTaken sys grower taken = IsTaken sys grower.growing.grid.tiles grower.work.numbers taken

-- the listed sites are empty, and each site of the box at which a type attaches is listed
pub record ListsOpen (sys : TileSystem) (tiles : List Place) (numbers : Numbers) : Type 0 where
  pub empty : AreEmptySites sys.area tiles numbers
  pub all : IsClosedBut sys tiles (IsIn numbers)

-- they are the sites that are to be looked at
abbrev pub HasListed : TileSystem → Grower → Type 0
HasListed sys grower = ListsOpen sys grower.growing.grid.tiles grower.work.numbers

-- the same where the frontier was listed, and else no site is listed
abbrev pub MayList : TileSystem → List Place → Bool → Numbers → Type 0
MayList sys tiles listed numbers = MatchBool listed (ListsOpen sys tiles numbers) ((n : ℕ) → ¬ IsIn numbers n)

-- what others placed is seen, and the listed sites follow
pub record CatchesUp (sys : TileSystem) (old new : Grower) : Type 0 where
  pub goes : GrowsOn old.growing new.growing
  pub more : length old.growing.grid.tiles ≤ length new.growing.grid.tiles
  pub idle : ClaimsNothing old.growing new.growing
  pub lists : HasListed sys new

-- a type that attaches at the site; none exactly where none does
abbrev pub IsOpenType : TileSystem → List Place → Site → Option TypeId → Type 0
IsOpenType sys tiles m found = MatchOption found ((t : TypeId) → ¬ IsCandidate sys tiles m t) (IsCandidate sys tiles m)

-- a type attaches at the site
pub record HasCandidate (sys : TileSystem) (tiles : List Place) (m : Site) : Type 0 where
  pub tile : TypeId
  pub attaches : IsCandidate sys tiles m tile

-- one look at a site that was listed: what may open is listed, and each new tile lists at most four sites
pub record ListsOn (sys : TileSystem) (before after : List Place) (old new : Numbers) : Type 0 where
  pub lists : ListsOpen sys after new
  pub work : (k : ℕ) → count_below new k + 4 * length before ≤ count_below old k + 4 * length after

-- and what was seen stays seen
pub record LooksAt (sys : TileSystem) (before after : Grower) : Type 0 where
  pub goes : GrowsOn before.growing after.growing
  pub on : ListsOn sys before.growing.grid.tiles after.growing.grid.tiles before.work.numbers after.work.numbers

-- A look tells whether a type attached at the site, which was then claimed, and whether it is clear
-- that whichever attached comes clean.
pub record TellsLook (sys : TileSystem) (site : Site) (before after : Grower) (told : Looked) : Type 0 where
  pub claims : MatchBool told.claims (ClaimsPick sys site before.growing after.growing told.picked) (after.growing ≡ before.growing)
  pub clean : told.clean ≡ true → OpensExact sys before.growing.grid.tiles site

-- each tile that came took one step
abbrev pub TakesSteps : Grower → Grower → ℕ → ℕ → Type 0
TakesSteps before after start end = end + length before.growing.grid.tiles ≡ start + length after.growing.grid.tiles
