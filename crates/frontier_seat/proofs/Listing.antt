-- Sites that are listed by their numbers.
use Rattle.std.proofs.Common.{◌⊎◌, Bool, true, true≢false, not, is_some, ◌≡◌, refl, ◌<◌, ◌≤◌, ◌+◌, ◌*◌, ℕ, List, Option, Some, None, sym, ◌∙◌, ap, subst, inl, inr, arith}
use Rattle.std.proofs.lemmas.Bool.{cases_eq, cases_lt}
use Rattle.std.proofs.lemmas.Option.{none-some}
use Rattle.std.proofs.Math.Nat.{le_trans}
use Rattle.atam.specs.declared.site.Side.{Side}
use Rattle.atam.specs.declared.site.Side.TheVariants.{North, East, South, West}
use Rattle.atam.specs.declared.site.Site.{Site}
use Rattle.atam.specs.declared.place.TypeId.{TypeId}
use Rattle.atam.specs.declared.place.Place.{Place}
use Rattle.atam.specs.declared.area.BoxArea.{BoxArea}
use Rattle.atam.specs.Sites.{neighbor, opposite, InBox, IsBox, width_of, site_in}
use Rattle.atam.specs.Placements.{tile_at}
use Rattle.atam.specs.TileSystem.{TileSystem}
use Rattle.atam.specs.Assembly.{Fits}
use Rattle.atam.specs.Growth.{IsCandidate, IsClosedInBox}
use Rattle.atam.proofs.Bonds.{beside_a_tile, neighbor-opposite}
use Rattle.atam.proofs.Lists.{All-slice_get}
use Rattle.atam.proofs.Placements.{tile_at-place}
use Rattle.tile_system.specs.declared.placed.Beside.{Beside}
use Rattle.tile_system.specs.Neighbors.{StandBeside}
use Rattle.assembly.specs.Cells.{IsSiteNumber, cell_count, site_at}
use Rattle.assembly.proofs.Cells.{at_cell, index_of, site_at-injective, site_at-inside}
use Rattle.number_set.specs.Numbers.{Numbers, IsIn, Adds, Removes}
use Rattle.number_set.proofs.Counting.{count_below-adds}
use Rattle.frontier_seat.specs.declared.work_list.Spot.{Spot}
use Rattle.frontier_seat.specs.Inner.Listings.{AreEmptySites, ListsAround, ListsFrontier, ListsFrontierTo, ListsSide, IsSpot}
use Rattle.frontier_seat.specs.Inner.Looks.{IsClosedBut, IsTaken, ListsOpen}

-- a site that is looked up by the number that was listed
pub spot_here : (listed box area : BoxArea) (m : Site) (n : ℕ) → listed ≡ area → box ≡ area → n < cell_count listed → m ≡ site_at box n → InBox box m → IsSpot area (record { site = m; number = n })
spot_here listed box area m n same is within here inside =
    subst (λ (a : BoxArea). IsSpot a (record { site = m; number = n })) is
    (record { within = subst (λ (a : BoxArea). n < cell_count a) (same ∙ sym is) within; site = sym here; inside = inside })

-- by row and column
pub spot_in_row : (area : BoxArea) (m : Site) (row column width number : ℕ) → InBox area m → m ≡ site_in area column row → width ≡ width_of area → number ≡ row * width + column → IsSpot area (record { site = m; number = number })
spot_in_row area m row column width number inside is same_width same =
    let at = at_cell area m row column width inside same_width (ap (λ (s : Site). s.y) is) (ap (λ (s : Site). s.x) is) in
    record {
      within = subst (λ (k : ℕ). k < cell_count area) (sym same) at.1;
      site = ap (site_at area) same ∙ at.0;
      inside = inside;
    }

-- a row more
pub row_more : (row next width : ℕ) → next ≡ row + 1 → next * width ≡ row * width + width
row_more row next width more = ap (λ (k : ℕ). k * width) more ∙ grind arith

-- one side, where nothing is listed
pub lists_no_side : (area : BoxArea) (m : Site) (there : Option TypeId) (old : Numbers) → (there ≡ None → ¬ InBox area m) → IsBox area → ListsSide area m there old old
lists_no_side area m there old outside limits = record {
  kept = λ n c. c;
  added = λ n within here none. absurd (outside none (subst (InBox area) here (site_at-inside area n limits within)));
  only = λ n c. inl c;
  few = λ k. omega arith;
}

-- where its number is
pub lists_side : (area : BoxArea) (m : Site) (n : ℕ) (there : Option TypeId) (old new : Numbers) → IsSiteNumber area m n → there ≡ None → Adds old new n → ListsSide area m there old new
lists_side area m n there old new is none adds = record {
  kept = λ k c. (adds k).1 (inl c);
  added = λ k within here _. (adds k).1 (inr (site_at-injective area k n (here ∙ sym is.site)));
  only = λ k c. elim ((adds k).0 c) [ inl was ↦ inl was | inr here ↦ inr (ap (site_at area) here ∙ is.site, none) ];
  few = λ k. count_below-adds old new n k adds;
}

-- the four sides
pub lists_around : (area : BoxArea) (tiles : List Place) (m : Site) (beside : Beside) (a b c d e : Numbers) → StandBeside tiles m beside →
    ListsSide area (neighbor m North) beside.north a b → ListsSide area (neighbor m East) beside.east b c →
    ListsSide area (neighbor m South) beside.south c d → ListsSide area (neighbor m West) beside.west d e → ListsAround area tiles m a e
lists_around area tiles m beside a b c d e stand north east south west =
    let bare : (n : ℕ) (side : Side) (there : Option TypeId) → there ≡ tile_at tiles (neighbor m side) → (site_at area n ≡ neighbor m side) × (there ≡ None) → tile_at tiles (site_at area n) ≡ None =
    λ n side there is both. ap (tile_at tiles) both.0 ∙ (sym is ∙ both.1) in
    record {
      kept = λ n c. west.kept n (south.kept n (east.kept n (north.kept n c)));
      added = λ n side within here none. elim side as (λ s. site_at area n ≡ neighbor m s → tile_at tiles (neighbor m s) ≡ None → IsIn e n) [
        | North ↦ λ at empty. west.kept n (south.kept n (east.kept n (north.added n within at (stand.north ∙ empty))))
        | East ↦ λ at empty. west.kept n (south.kept n (east.added n within at (stand.east ∙ empty)))
        | South ↦ λ at empty. west.kept n (south.added n within at (stand.south ∙ empty))
        | West ↦ λ at empty. west.added n within at (stand.west ∙ empty)
      ] here none;
      only = λ n in_e. elim (west.only n in_e) [
        | inr w ↦ inr (bare n West beside.west stand.west w)
        | inl in_d ↦ elim (south.only n in_d) [
          | inr s ↦ inr (bare n South beside.south stand.south s)
          | inl in_c ↦ elim (east.only n in_c) [
            | inr e ↦ inr (bare n East beside.east stand.east e)
            | inl in_b ↦ elim (north.only n in_b) [
              | inr t ↦ inr (bare n North beside.north stand.north t)
              | inl in_a ↦ inl in_a
            ]
          ]
        ]
      ];
      few = λ k. omega (arith, north.few k, east.few k, south.few k, west.few k);
    }

-- sites that are listed around stay empty ones
pub empty_around : (area : BoxArea) (tiles : List Place) (m : Site) (old new : Numbers) → AreEmptySites area tiles old → ListsAround area tiles m old new → AreEmptySites area tiles new
empty_around area tiles m old new empty around n c = elim (around.only n c) [ inl was ↦ empty n was | inr bare ↦ bare ]

-- one site more of which the neighbours are listed
pub frontier_more : (area : BoxArea) (tiles : List Place) (m : Site) (i : ℕ) (old new : Numbers) → site_at area i ≡ m → ListsFrontierTo area tiles old i → ListsAround area tiles m old new → ListsFrontierTo area tiles new (i + 1)
frontier_more area tiles m i old new here before around k n d t below tile within beside bare = elim (cases_lt k i) [
  | inl earlier ↦ around.kept n (before k n d t earlier tile within beside bare)
  | inr last ↦
      let same : k ≡ i = omega (arith, below, last) in
      let at : site_at area n ≡ neighbor m d = beside ∙ ap (λ (s : Site). neighbor s d) (ap (site_at area) same ∙ here) in
      around.added n d within at (ap (tile_at tiles) (sym at) ∙ bare)
]

-- and one where no tile is
pub frontier_passed : (area : BoxArea) (tiles : List Place) (m : Site) (i : ℕ) (old : Numbers) → site_at area i ≡ m → ListsFrontierTo area tiles old i → tile_at tiles m ≡ None → ListsFrontierTo area tiles old (i + 1)
frontier_passed area tiles m i old here before none k n d t below tile within beside bare = elim (cases_lt k i) [
  | inl earlier ↦ before k n d t earlier tile within beside bare
  | inr last ↦
      let same : k ≡ i = omega (arith, below, last) in
      absurd (none-some t (sym none ∙ (ap (tile_at tiles) (sym (ap (site_at area) same ∙ here)) ∙ tile)))
]

-- a test that found no tile
pub none_from : (found tile : Option TypeId) (b : Bool) → found ≡ tile → is_some found ≡ not b → b ≡ true → tile ≡ None
none_from None tile b at test is_true = sym at
none_from (Some t) tile b at test is_true = absurd (true≢false (test ∙ ap not is_true))

pub frontier_none : (area : BoxArea) (tiles : List Place) (old : Numbers) (i : ℕ) → i ≡ 0 → ListsFrontierTo area tiles old i
frontier_none area tiles old i none k n d t below tile within beside bare = absurd (omega (arith, below, none))

-- at another number
pub frontier_to : (area : BoxArea) (tiles : List Place) (numbers : Numbers) (i j : ℕ) → i ≡ j → ListsFrontierTo area tiles numbers i → ListsFrontierTo area tiles numbers j
frontier_to area tiles numbers i j same lists k n d t below = lists k n d t (omega (arith, below, same))

-- each open site of the box is beside a tile, and so it is listed
pub closed_but_frontier : (sys : TileSystem) (tiles : List Place) (numbers : Numbers) → 1 ≤ sys.tau → Fits sys tiles → ListsFrontier sys.area tiles numbers → IsClosedBut sys tiles (IsIn numbers)
closed_but_frontier sys tiles numbers some_tau fits lists n t within grows =
    let m = site_at sys.area n in
    let tile = beside_a_tile sys tiles m t (le_trans some_tau grows.attaches.held) in
    let d = tile.0 in
    let there = neighbor m d in
    let q = tile_at-place tiles there tile.1 tile.2 in
    let inside : InBox sys.area there = subst (InBox sys.area) q.3 (All-slice_get (λ p. InBox sys.area p.site) tiles q.0 q.1 fits.sites q.2) in
    let at = index_of sys.area there inside in
    lists at.0 n (opposite d) tile.1 at.1 (ap (tile_at tiles) at.2 ∙ tile.2) within (sym (ap (λ (s : Site). neighbor s (opposite d)) at.2 ∙ neighbor-opposite m d)) grows.attaches.empty

-- where no site is listed, the box is closed
pub closed_none : (sys : TileSystem) (tiles : List Place) (numbers : Numbers) → ((n : ℕ) → ¬ IsIn numbers n) → IsClosedBut sys tiles (IsIn numbers) → IsClosedInBox sys tiles
closed_none sys tiles numbers none closed m t inside grows =
    let at = index_of sys.area m inside in
    none at.0 (closed at.0 t at.1 (subst (λ (s : Site). IsCandidate sys tiles s t) (sym at.2) grows))

-- a site that was taken out is the only one that may be open and isn't listed
pub closed_taken : (sys : TileSystem) (tiles : List Place) (old new : Numbers) (k : ℕ) → Removes old new k → IsClosedBut sys tiles (IsIn old) → IsClosedBut sys tiles (λ n. IsIn new n ⊎ (n ≡ k))
closed_taken sys tiles old new k removes closed n t within grows = elim (cases_eq n k) [
  | inl same ↦ inr same
  | inr other ↦ inl ((removes n).1 (closed n t within grows, other))
]

-- so a listed site is taken
pub taken_out : (sys : TileSystem) (tiles : List Place) (old new : Numbers) (spot : Spot) →
    IsSpot sys.area spot → tile_at tiles spot.site ≡ None → Removes old new spot.number →
    ListsOpen sys tiles old → IsTaken sys tiles new spot
taken_out sys tiles old new spot is empty removes lists = record {
  spot = is;
  gone = λ still. ((removes spot.number).0 still).1 refl;
  empty = empty;
  listed = λ n still. lists.empty n ((removes n).0 still).0;
  closed = closed_taken sys tiles old new spot.number removes lists.all;
}

pub taken_spot : (sys : TileSystem) (tiles : List Place) (old new : Numbers) (spot : Spot) →
    IsSpot sys.area spot → IsIn old spot.number → Removes old new spot.number → ListsOpen sys tiles old → IsTaken sys tiles new spot
taken_spot sys tiles old new spot is listed removed lists =
    let empty = ap (tile_at tiles) (sym is.site) ∙ lists.empty spot.number listed in
    taken_out sys tiles old new spot is empty removed lists

-- and listed again, it leaves what was
pub lists_again : (sys : TileSystem) (tiles : List Place) (old mid new : Numbers) (k : ℕ) → IsIn old k → Removes old mid k → Adds mid new k → ListsOpen sys tiles old → ListsOpen sys tiles new
lists_again sys tiles old mid new k was removes adds lists =
    let before : (n : ℕ) → IsIn new n → IsIn old n = λ n still. elim ((adds n).0 still) [ inl rest ↦ ((removes n).0 rest).0 | inr here ↦ subst (IsIn old) (sym here) was ] in
    record {
      empty = λ n still. lists.empty n (before n still);
      all = λ n t within grows. elim (closed_taken sys tiles old mid k removes lists.all n t within grows) [ inl rest ↦ (adds n).1 (inl rest) | inr here ↦ (adds n).1 (inr here) ];
    }
