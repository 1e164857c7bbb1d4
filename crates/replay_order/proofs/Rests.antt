-- What a canonical sequence leaves, by what the tiles lack.
use Rattle.std.proofs.Common.{◌≡◌, ◌<◌, ◌+◌, ℕ, List, Option, Some, None, IfSome, IfNone, true, false, true≢false, is_some, get_or, sym, ◌∙◌, subst, inl, inr, arith, ap}
use Rattle.std.proofs.lemmas.Bool.{cases_lt}
use Rattle.std.proofs.lemmas.Int.{ints}
use Rattle.std.proofs.lemmas.Option.{none-some}
use Rattle.atam.specs.declared.site.Site.{Site}
use Rattle.atam.specs.declared.place.TypeId.{TypeId}
use Rattle.atam.specs.declared.place.Place.{Place}
use Rattle.atam.specs.declared.area.BoxArea.{BoxArea}
use Rattle.atam.specs.Sites.{IsBefore, IsBox, width_of}
use Rattle.atam.specs.Placements.{tile_at}
use Rattle.atam.specs.TileSystem.{TileSystem}
use Rattle.atam.specs.Canonical.{IsCanonical}
use Rattle.atam.proofs.Lists.{some_or_none}
use Rattle.atam.proofs.Placements.{tile_at-Contains}
use Rattle.assembly.specs.Cells.{cell_count, site_at}
use Rattle.assembly.proofs.Cells.{index_of, not_before}
use Rattle.replay_order.specs.Inner.Replays.{Waiting, IsInSpan, AreLacks, IsLackingAt, NoneLacksBelow, IsLeastLacking, IsLeftAt, IsLeastLeft}
use Rattle.replay_order.proofs.Dues.{due_at-other}
use Rattle.replay_order.proofs.Begun.{listed_site, no_seed_at}

-- one number more whose tile lacks nothing
pub none_lacks_more : (tiles : List Place) (waiting : Waiting) (n : ℕ) → NoneLacksBelow tiles waiting n → ¬ IsLackingAt tiles waiting n → NoneLacksBelow tiles waiting (n + 1)
none_lacks_more tiles waiting n before none k below lacking = elim (cases_lt k n) [
  | inl earlier ↦ before k earlier lacking
  | inr last ↦
      let same : k ≡ n = omega (arith, below, last) in
      none (subst (IsLackingAt tiles waiting) same lacking)
]

-- what a look at a site tells of a tile that lacks something
module _ (tiles : List Place) (waiting : Waiting) (area : BoxArea) (n : ℕ) (m : Site) (same : area ≡ waiting.area) (there : m ≡ site_at area n) where
  here : m ≡ site_at waiting.area n
  here = there ∙ ap (λ a. site_at a n) same

  pub lacking_from : (found : Option TypeId) → found ≡ tile_at tiles m → is_some found ≡ true → 0 < get_or waiting.lacks n 0 → IsLackingAt tiles waiting n
  lacking_from None at some lacks = absurd (true≢false (sym some))
  lacking_from (Some t) at some lacks = record { tile = t; placed = ap (tile_at tiles) (sym here) ∙ sym at; lacks = lacks }

  pub least_from : (found : Option TypeId) → found ≡ tile_at tiles m → is_some found ≡ true → 0 < get_or waiting.lacks n 0 → n < cell_count area → NoneLacksBelow tiles waiting n → IsLeastLacking tiles waiting m
  least_from found at some lacks below least = record {
    number = n;
    within = omega (arith, below, ap cell_count same);
    site = sym here;
    here = lacking_from found at some lacks;
    least = least;
  }

  pub empty_lacks : (found : Option TypeId) → found ≡ tile_at tiles m → is_some found ≡ false → ¬ IsLackingAt tiles waiting n
  empty_lacks (Some t) at none lacking = true≢false none
  empty_lacks None at none lacking = none-some lacking.tile (at ∙ ap (tile_at tiles) here ∙ lacking.placed)

-- once no place is ready, where all sites have waited
module _ (sys : TileSystem) (tiles s : List Place) (waiting : Waiting) (canonical : IsCanonical sys tiles s) (lacks : AreLacks sys tiles s waiting) (from_first : waiting.first ≡ 0) (to_last : waiting.end ≡ cell_count sys.area) where
  all_wait : (i : ℕ) → i < cell_count sys.area → IsInSpan waiting i
  all_wait i below = record { from = omega (arith, from_first); before = omega (arith, below, to_last) }

  -- a tile that isn't listed lacks something
  left_lacks : (i : ℕ) → i < cell_count sys.area → IsLeftAt tiles s (site_at sys.area i) → IsLackingAt tiles waiting i
  left_lacks i below left =
      let m = site_at sys.area i in
      let p : Place = record { site = m; tile = left.tile } in
      let At : BoxArea → Type 0 = λ area. tile_at tiles (site_at area i) ≡ Some left.tile in
      let due = due_at-other sys.seeds sys.tau m (no_seed_at sys tiles s canonical.begins m left.unlisted) in
      elim (cases_lt 0 (get_or waiting.lacks i 0)) [
        | inl some ↦ record { tile = left.tile; placed = subst At (sym lacks.area) left.placed; lacks = some }
        | inr none ↦
            absurd (canonical.whole p (record {
              placed = tile_at-Contains tiles m left.tile left.placed;
              unlisted = λ listed. listed_site s p listed left.unlisted;
              held = omega (arith, none, due, lacks.each i left.tile below (all_wait i below) left.placed);
            }))
      ]

  -- and one that lacks something isn't listed
  lacks_left : (i : ℕ) → i < cell_count sys.area → IsLackingAt tiles waiting i → IsLeftAt tiles s (site_at sys.area i)
  lacks_left i below lacking =
      let m = site_at sys.area i in
      let At : BoxArea → Type 0 = λ area. tile_at tiles (site_at area i) ≡ Some lacking.tile in
      record {
        tile = lacking.tile;
        placed = subst At lacks.area lacking.placed;
        unlisted = elim (some_or_none (tile_at s m)) [
          | inl none ↦ none
          | inr listed ↦ let never : ⊥ = omega (arith, lacks.settled i listed.0 below (all_wait i below) listed.1, lacking.lacks) in absurd never
        ];
      }

  -- so the least tile that lacks something is the least that is left
  least_left-none : NoneLacksBelow tiles waiting (cell_count waiting.area) → IsLeastLeft sys.area tiles s None
  least_left-none none m inside left =
      let i = index_of sys.area m inside in
      let within : i.0 < cell_count waiting.area = omega (arith, i.1, ap cell_count lacks.area) in
      none i.0 within (left_lacks i.0 i.1 (subst (IsLeftAt tiles s) (sym i.2) left))

  least_left-some : IsBox sys.area → (m : Site) → IsLeastLacking tiles waiting m → IsLeastLeft sys.area tiles s (Some m)
  least_left-some limits m found =
      let wide : 0 < width_of sys.area = omega (arith, ints, limits.corners.columns) in
      let within : found.number < cell_count sys.area = omega (arith, found.within, ap cell_count lacks.area) in
      let there : site_at sys.area found.number ≡ m = ap (λ area. site_at area found.number) (sym lacks.area) ∙ found.site in
      record {
        left = subst (IsLeftAt tiles s) there (lacks_left found.number within found.here);
        least = λ n inside is_left.
            let i = index_of sys.area n inside in
            elim (cases_lt i.0 found.number) [
              | inl earlier ↦ absurd (found.least i.0 earlier (left_lacks i.0 i.1 (subst (IsLeftAt tiles s) (sym i.2) is_left)))
              | inr later ↦
                  let First : Site → Type 0 = λ q. ¬ IsBefore q m in
                  let Last : Site → Type 0 = λ q. ¬ IsBefore (site_at sys.area i.0) q in
                  subst First i.2 (subst Last there (not_before sys.area found.number i.0 later wide))
            ];
      }

  -- so a look for the one is a look for the other
  pub least_left-found : IsBox sys.area → (o : Option Site) → IfSome o (IsLeastLacking tiles waiting) → IfNone o (NoneLacksBelow tiles waiting (cell_count waiting.area)) → IsLeastLeft sys.area tiles s o
  least_left-found limits None least none = least_left-none none
  least_left-found limits (Some m) least none = least_left-some limits m least
