-- One tile more at a site that was listed, and the lists of sites.
use Rattle.std.proofs.Common.{◌≡◌, ◌≢◌, ◌<◌, ◌≤◌, ◌+◌, ◌++◌, ℕ, List, [], ◌∷◌, length, take, get_or, None, Contains, pos, ◌+ℤ◌, ◌-ℤ◌, sym, ◌∙◌, ap, subst, inl, inr, arith}
use Rattle.std.proofs.lemmas.Int.{ints}
use Rattle.std.proofs.lemmas.List.{take_all, take_more}
use Rattle.std.proofs.lemmas.List.Elements.{Contains-push_cases}
use Rattle.std.proofs.Math.Nat.{le_trans}
use Rattle.atam.specs.declared.site.Site.{Site}
use Rattle.atam.specs.declared.site.Side.{Side}
use Rattle.atam.specs.declared.site.Side.TheVariants.{North, East, South, West}
use Rattle.atam.specs.declared.place.TypeId.{TypeId}
use Rattle.atam.specs.declared.place.Place.{Place}
use Rattle.atam.specs.declared.area.BoxArea.{BoxArea}
use Rattle.atam.specs.Sites.{InBox, neighbor, opposite}
use Rattle.atam.specs.Placements.{SamePlacements, HasDistinctSites, tile_at}
use Rattle.atam.specs.TileSystem.{TileSystem, IsType}
use Rattle.atam.specs.Growth.{IsCandidate}
use Rattle.atam.proofs.Bonds.{beside_a_tile, neighbor-opposite}
use Rattle.atam.proofs.Opening.{IsCandidate-same, IsCandidate-push, Fits-part}
use Rattle.atam.proofs.Placements.{tile_at-Contains}
use Rattle.atam.proofs.Sequences.{Fits-push}
use Rattle.atam.proofs.Tiles.{tile_at-push_other}
use Rattle.tile_system.specs.declared.placed.Beside.{Beside}
use Rattle.tile_system.specs.Neighbors.{StandBeside}
use Rattle.assembly.specs.Cells.{site_at}
use Rattle.assembly.specs.Grids.{TileGrid}
use Rattle.assembly.proofs.Cells.{site_at-injective}
use Rattle.grow_core.specs.Steps.{place}
use Rattle.number_set.specs.Numbers.{Numbers, IsIn}
use Rattle.frontier_seat.specs.declared.work_list.Spot.{Spot}
use Rattle.frontier_seat.specs.Inner.Listings.{ListsAround}
use Rattle.frontier_seat.specs.Inner.Looks.{IsClosedBut, IsTaken, ListsOn}
use Rattle.frontier_seat.specs.Inner.Fillings.{IsFilling, ListsBeside}

-- a site is not beside itself
neighbor_differs : (m : Site) (d : Side) → m ≢ neighbor m d
neighbor_differs m North same = let up : m.y ≡ m.y +ℤ pos 1 = ap (λ (s : Site). s.y) same in let never : ⊥ = omega (arith, ints, up) in never
neighbor_differs m East same = let up : m.x ≡ m.x +ℤ pos 1 = ap (λ (s : Site). s.x) same in let never : ⊥ = omega (arith, ints, up) in never
neighbor_differs m South same = let down : m.y ≡ m.y -ℤ pos 1 = ap (λ (s : Site). s.y) same in let never : ⊥ = omega (arith, ints, down) in never
neighbor_differs m West same = let down : m.x ≡ m.x -ℤ pos 1 = ap (λ (s : Site). s.x) same in let never : ⊥ = omega (arith, ints, down) in never

-- so a tile more leaves what stands beside its site
pub beside_still : (before after : List Place) (m : Site) (t : TypeId) (beside : Beside) → ((n : Site) → tile_at after n ≡ tile_at (before ++ place m t ∷ []) n) → StandBeside before m beside → StandBeside after m beside
beside_still before after m t beside tiles stand =
    let same : (d : Side) → tile_at before (neighbor m d) ≡ tile_at after (neighbor m d) = λ d.
    sym (tiles (neighbor m d) ∙ tile_at-push_other before (place m t) (neighbor m d) (neighbor_differs m d))
    in
    record {
      north = stand.north ∙ same North;
      east = stand.east ∙ same East;
      south = stand.south ∙ same South;
      west = stand.west ∙ same West;
    }

-- where a type attaches and fills the site
pub lists_filled : (sys : TileSystem) (before after : List Place) (spot : Spot) (t : TypeId) (old new : Numbers) → IsTaken sys before old spot →
    ((n : Site) → tile_at after n ≡ tile_at (before ++ place spot.site t ∷ []) n) → length after ≡ length before + 1 → ListsAround sys.area after spot.site old new → ListsOn sys before after old new
lists_filled sys before after spot t old new taken tiles count around =
    let p : Place = place spot.site t in
    let is = taken.spot in
    let other : (n : ℕ) → site_at sys.area n ≡ spot.site → n ≡ spot.number = λ n here. site_at-injective sys.area n spot.number (here ∙ sym is.site) in
    record {
      lists = record {
        empty = λ n in_new. elim (around.only n in_new) [
          | inl in_old ↦
              let differs : spot.site ≢ site_at sys.area n = λ same. taken.gone (subst (IsIn old) (other n (sym same)) in_old) in
              tiles (site_at sys.area n) ∙ (tile_at-push_other before p (site_at sys.area n) differs ∙ taken.listed n in_old)
          | inr bare ↦ bare
        ];
        all = λ n u within grows.
            let m = site_at sys.area n in
            elim (IsCandidate-push sys before p m u taken.empty (IsCandidate-same sys after (before ++ p ∷ []) m u tiles grows)) [
              | inl beside ↦ around.added n beside.0 within (sym beside.1) (subst (λ (k : Site). tile_at after k ≡ None) (sym beside.1) grows.attaches.empty)
              | inr far ↦ elim (taken.closed n u within far.1) [
                | inl in_old ↦ around.kept n in_old
                | inr one ↦ absurd (far.0 (sym (ap (site_at sys.area) one ∙ is.site)))
              ]
            ];
      };
      work = λ k. let few = around.few k in omega (arith, count, few);
    }

-- where no type attaches
pub lists_unfilled : (sys : TileSystem) (tiles : List Place) (spot : Spot) (old : Numbers) → IsTaken sys tiles old spot →
    ((t : TypeId) → ¬ IsCandidate sys tiles spot.site t) → ListsOn sys tiles tiles old old
lists_unfilled sys tiles spot old taken none = record {
  lists = record {
    empty = taken.listed;
    all = λ n t within grows. elim (taken.closed n t within grows) [
      | inl in_old ↦ in_old
      | inr one ↦ absurd (none t (subst (λ (m : Site). IsCandidate sys tiles m t) (ap (site_at sys.area) one ∙ taken.spot.site) grows))
    ];
  };
  work = λ k. omega arith;
}

-- a tile more in the grid
pub filling_more : (sys : TileSystem) (old new : TileGrid) (p : Place) → IsFilling sys old → IsType sys p.tile → InBox sys.area p.site → new.area ≡ old.area → SamePlacements (old.tiles ++ p ∷ []) new.tiles → HasDistinctSites new.tiles →
    IsFilling sys new
filling_more sys old new p filling kind inside area placements distinct = record {
  area = area ∙ filling.area;
  distinct = distinct;
  fits = Fits-part sys new.tiles (old.tiles ++ p ∷ []) placements.whole (Fits-push sys old.tiles p filling.fits kind inside);
}

-- the sites beside one place more are listed
pub beside_more : (area : BoxArea) (tiles : List Place) (old new : Numbers) (places : List Place) (i : ℕ) (e : Place) → i < length places → ListsBeside area tiles old (take i places) → ListsAround area tiles (get_or places i e).site old new →
    ListsBeside area tiles new (take (i + 1) places)
beside_more area tiles old new places i e within before around q n d listed below beside empty =
    let p = get_or places i e in
    elim (Contains-push_cases (take i places) p q (subst (λ (l : List Place). Contains l q) (take_more places i e within) listed)) [
      | inl earlier ↦ around.kept n (before q n d earlier below beside empty)
      | inr same ↦
          let at : site_at area n ≡ neighbor p.site d = beside ∙ ap (λ (r : Place). neighbor r.site d) (sym same) in
          around.added n d below at (ap (tile_at tiles) (sym at) ∙ empty)
    ]

-- beside all of them in the end
pub beside_all : (area : BoxArea) (tiles places : List Place) (numbers : Numbers) (i : ℕ) → length places ≤ i → ListsBeside area tiles numbers (take i places) → ListsBeside area tiles numbers places
beside_all area tiles places numbers i all lists = subst (ListsBeside area tiles numbers) (take_all i places all) lists

-- each open site of the box is beside a tile, and so it is listed
pub open_beside : (sys : TileSystem) (tiles places : List Place) (numbers : Numbers) → 1 ≤ sys.tau → SamePlacements places tiles → ListsBeside sys.area tiles numbers places → IsClosedBut sys tiles (IsIn numbers)
open_beside sys tiles places numbers some_tau same lists n t within grows =
    let m = site_at sys.area n in
    let tile = beside_a_tile sys tiles m t (le_trans some_tau grows.attaches.held) in
    let d = tile.0 in
    let p : Place = place (neighbor m d) tile.1 in
    lists p n (opposite d) (same.whole p (tile_at-Contains tiles (neighbor m d) tile.1 tile.2)) within (sym (neighbor-opposite m d)) grows.attaches.empty
