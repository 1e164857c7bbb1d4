-- Which types stand, and the entries of a legend.
use Rattle.std.proofs.Common.{◌≡◌, ◌<◌, ◌+◌, ◌*◌, ◌==◌, ◌||◌, ℕ, zero, suc, Bool, true, false, List, [], ◌∷◌, ◌++◌, length, filter, flat_map, take, get_or, Option, Some, None, slice_get, Contains, All, refl, sym, ◌∙◌, ap, subst, inl, inr, arith}
use Rattle.std.specs.List.{list_any, range_with_len}
use Rattle.std.proofs.lemmas.Bool.{cases_Bool}
use Rattle.std.proofs.lemmas.Bool.Decides.{eqb_tells}
use Rattle.std.proofs.lemmas.Option.{same_Some, slice_get-get_or, slice_get_within}
use Rattle.std.proofs.lemmas.List.Folds.{list_any_at}
use Rattle.std.proofs.lemmas.List.FromFn.{get_or-range_with_len, length-range_with_len}
use Rattle.atam.specs.declared.place.Place.{Place}
use Rattle.atam.specs.declared.place.TypeId.{TypeId}
use Rattle.atam.specs.declared.site.Site.{Site}
use Rattle.atam.specs.declared.area.BoxArea.{BoxArea}
use Rattle.atam.specs.Sites.{InBox, width_of, height_of}
use Rattle.atam.specs.Placements.{HasDistinctSites, tile_at}
use Rattle.atam.specs.TileSystem.{TileSystem, IsType}
use Rattle.atam.proofs.Lists.{slice_get-Contains, Contains-slice_get}
use Rattle.atam.proofs.Placements.{tile_at-Contains, Contains-tile_at}
use Rattle.assembly.specs.Cells.{cell_count, site_at}
use Rattle.assembly.specs.Grids.{TileGrid}
use Rattle.assembly.proofs.Cells.{index_of}
use Rattle.picture.specs.Pictures.{is_standing, legend, legend_line}
use Rattle.picture.specs.Inner.Entries.{entry, is_of, is_seen}

-- the entries of those that pass a test are its lines
pub entries : (sys : TileSystem) (stands : ℕ → Bool) (xs : List ℕ) →
    flat_map (λ t. entry sys (stands t) (record { 0 = t })) xs ≡ flat_map (λ t. legend_line sys (record { 0 = t })) (filter stands xs)
entries sys stands [] = refl
entries sys stands (t ∷ xs) = elim (cases_Bool (stands t)) [
  | inl passes ↦ rw passes (ap (λ l. legend_line sys (record { 0 = t }) ++ l) (entries sys stands xs))
  | inr fails ↦ rw fails (entries sys stands xs)
]

or-false : (b : Bool) → (b || false) ≡ b
or-false true = refl
or-false false = refl

or-more : (a b c : Bool) → (a || (b || c)) ≡ ((a || b) || c)
or-more true b c = refl
or-more false b c = refl

-- one number more is tried
any-push : (f : ℕ → Bool) (a n : ℕ) → list_any f (range_with_len a (suc n)) ≡ (list_any f (range_with_len a n) || f (a + n))
any-push f a zero = let same : a + 0 ≡ a = omega arith in or-false (f a) ∙ ap f (sym same)
any-push f a (suc n) =
    let next : a + suc n ≡ a + 1 + n = omega arith in
    ap (λ b. f a || b) (any-push f (a + 1) n) ∙ or-more (f a) (list_any f (range_with_len (a + 1) n)) (f (a + 1 + n))
    ∙ ap (λ m. list_any f (range_with_len a (suc n)) || f m) (sym next)

pub seen_more : (grid : TileGrid) (n t : ℕ) → is_seen grid (n + 1) t ≡ (is_seen grid n t || is_of (tile_at grid.tiles (site_at grid.area n)) t)
seen_more grid n t =
    let f : ℕ → Bool = λ i. is_of (tile_at grid.tiles (site_at grid.area i)) t in
    let next : n + 1 ≡ suc n = omega arith in
    let same : 0 + n ≡ n = omega arith in
    ap (λ m. list_any f (range_with_len 0 m)) next ∙ any-push f 0 n ∙ ap (λ m. list_any f (range_with_len 0 n) || f m) same

-- one that passes, and the other way round
any_passes : {X : Type 0} (f : X → Bool) (xs : List X) → list_any f xs ≡ true → (x : X) × Contains xs x × (f x ≡ true)
any_passes f xs some = let at = by f xs some in (at.1, slice_get-Contains xs at.0 at.1 at.2, at.3)
  where
    by : {X : Type 0} (f : X → Bool) (xs : List X) → list_any f xs ≡ true → (i : ℕ) × (x : X) × (slice_get xs i ≡ Some x) × (f x ≡ true)
    by f [] some = absurd (cc some)
    by f (x ∷ xs) some = elim (cases_Bool (f x)) [
      | inl passes ↦ (0, x, refl, passes)
      | inr fails ↦ let rest = by f xs (ap (λ b. b || list_any f xs) (sym fails) ∙ some) in (suc rest.0, rest.1, rest.2, rest.3)
    ]

passes_any : {X : Type 0} (f : X → Bool) (xs : List X) (x : X) → Contains xs x → f x ≡ true → list_any f xs ≡ true
passes_any f xs x contains passes =
    let at = Contains-slice_get xs x contains in
    let within = slice_get_within xs at.0 x at.2 in
    list_any_at f xs at.0 x within (ap f (same_Some (get_or xs at.0 x) x (sym (slice_get-get_or xs at.0 x within) ∙ at.2)) ∙ passes)

range_any : (f : ℕ → Bool) (n i : ℕ) → i < n → f i ≡ true → list_any f (range_with_len 0 n) ≡ true
range_any f n i less passes =
    let long = length-range_with_len 0 n in
    let here : get_or (range_with_len 0 n) i 0 ≡ i = get_or-range_with_len 0 n i 0 less ∙ omega arith in
    list_any_at f (range_with_len 0 n) i 0 (omega (arith, long, less)) (ap f here ∙ passes)

-- what holds of all holds of each
contained : {X : Type 0} (P : X → Type 0) (xs : List X) (x : X) → All P xs → Contains xs x → P x
contained P xs x all contains =
    let at = Contains-slice_get xs x contains in
    let within = slice_get_within xs at.0 x at.2 in
    subst P (same_Some (get_or xs at.0 x) x (sym (slice_get-get_or xs at.0 x within) ∙ at.2)) (all at.0 x within)

-- a tile of the type
of_type : (tile : Option TypeId) (t : ℕ) → is_of tile t ≡ true → (u : TypeId) × (tile ≡ Some u) × ((u.0 == t) ≡ true)
of_type None t some = absurd (cc some)
of_type (Some u) t some = (u, refl, some)

same_by : (a b : Bool) → (a ≡ true → b ≡ true) → (b ≡ true → a ≡ true) → a ≡ b
same_by true b there back = sym (there refl)
same_by false true there back = back refl
same_by false false there back = refl

-- over all sites of the box, the types that stand are seen
pub seen_all : (grid : TileGrid) (t : ℕ) → HasDistinctSites grid.tiles → All (λ p. InBox grid.area p.site) grid.tiles → is_seen grid (cell_count grid.area) t ≡ is_standing grid.tiles t
seen_all grid t distinct inside = same_by (is_seen grid (cell_count grid.area) t) (is_standing grid.tiles t) stands sees
  where
    stands : is_seen grid (cell_count grid.area) t ≡ true → is_standing grid.tiles t ≡ true
    stands seen =
        let at = any_passes (λ i. is_of (tile_at grid.tiles (site_at grid.area i)) t) (range_with_len 0 (cell_count grid.area)) seen in
        let tile = of_type (tile_at grid.tiles (site_at grid.area at.0)) t at.2 in
        passes_any (λ p. p.tile.0 == t) grid.tiles (record { site = site_at grid.area at.0; tile = tile.0 }) (tile_at-Contains grid.tiles (site_at grid.area at.0) tile.0 tile.1) tile.2

    sees : is_standing grid.tiles t ≡ true → is_seen grid (cell_count grid.area) t ≡ true
    sees standing =
        let p = any_passes (λ p. p.tile.0 == t) grid.tiles standing in
        let i = index_of grid.area p.0.site (contained (λ q. InBox grid.area q.site) grid.tiles p.0 inside p.1) in
        range_any (λ n. is_of (tile_at grid.tiles (site_at grid.area n)) t) (cell_count grid.area) i.0 i.1
        (ap (λ o. is_of o t) (ap (tile_at grid.tiles) i.2 ∙ Contains-tile_at grid.tiles p.0 distinct p.1) ∙ p.2)

-- nothing is marked at first
abbrev unmarked : ℕ → List Bool
unmarked zero = []
unmarked (suc n) = false ∷ unmarked n

pub none_marked : (n t : ℕ) → get_or (unmarked n) t false ≡ false
none_marked zero t = refl
none_marked (suc n) zero = refl
none_marked (suc n) (suc t) = none_marked n t

-- one site more
pub marked_more : (grid : TileGrid) (n t : ℕ) (area : BoxArea) (site : Site) (tile : Option TypeId) (old new : Bool) → old ≡ is_seen grid n t → new ≡ (old || is_of tile t) →
    area ≡ grid.area → site ≡ site_at area n → tile ≡ tile_at grid.tiles site → new ≡ is_seen grid (n + 1) t
marked_more grid n t area site tile old new so_far marked same at there =
    let here : tile ≡ tile_at grid.tiles (site_at grid.area n) = there ∙ ap (tile_at grid.tiles) (at ∙ ap (λ a. site_at a n) same) in
    marked ∙ ap (λ b. b || is_of tile t) so_far ∙ ap (λ o. is_seen grid n t || is_of o t) here ∙ sym (seen_more grid n t)

-- all sites of the box
pub marked_all : (grid : TileGrid) (n w h t : ℕ) (area : BoxArea) (mark : Bool) → mark ≡ is_seen grid n t → area ≡ grid.area → n ≡ w * h → w ≡ width_of area → h ≡ height_of area →
    HasDistinctSites grid.tiles → All (λ p. InBox area p.site) grid.tiles → mark ≡ is_standing grid.tiles t
marked_all grid n w h t area mark marked same all wide high distinct inside =
    let sites : n ≡ cell_count area = all ∙ ap (λ m. m * h) wide ∙ ap (λ m. width_of area * m) high in
    marked ∙ ap (λ m. is_seen grid m t) (sites ∙ ap cell_count same) ∙ seen_all grid t distinct (subst (λ a. All (λ p. InBox a p.site) grid.tiles) same inside)

-- a type that stands is one of the system
pub standing_type : (sys : TileSystem) (tiles : List Place) (t : ℕ) → All (λ p. IsType sys p.tile) tiles → is_standing tiles t ≡ true → t < length sys.types
standing_type sys tiles t types standing =
    let p = any_passes (λ p. p.tile.0 == t) tiles standing in
    let type = contained (λ q. IsType sys q.tile) tiles p.0 types p.1 in
    elim (eqb_tells p.0.tile.0 t) [
      | inl same ↦ let e = same.1 in omega (arith, type, e)
      | inr other ↦ absurd (cc (sym p.2 ∙ other.0))
    ]

-- the entry of one type
pub entry_is : (sys : TileSystem) (tiles : List Place) (k : ℕ) (mark : Bool) → k < 62 → mark ≡ is_standing tiles k →
    entry sys mark (record { 0 = k }) ≡ entry sys (is_standing tiles (get_or (range_with_len 0 62) k 0)) (record { 0 = get_or (range_with_len 0 62) k 0 })
entry_is sys tiles k mark less marked =
    let here : get_or (range_with_len 0 62) k 0 ≡ k = get_or-range_with_len 0 62 k 0 less ∙ omega arith in
    ap (λ m. entry sys m (record { 0 = k })) marked ∙ ap (λ n. entry sys (is_standing tiles n) (record { 0 = n })) (sym here)

pub entries_all : (sys : TileSystem) (tiles : List Place) (k : ℕ) → k ≡ 62 →
    flat_map (λ t. entry sys (is_standing tiles t) (record { 0 = t })) (take k (range_with_len 0 62)) ≡ legend sys tiles
entries_all sys tiles k all =
    ap (λ n. flat_map (λ t. entry sys (is_standing tiles t) (record { 0 = t })) (take n (range_with_len 0 62))) all ∙ entries sys (is_standing tiles) (range_with_len 0 62)
