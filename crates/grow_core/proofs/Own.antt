-- A scout's own tiles are those of its numbers.
use Rattle.std.proofs.Common.{◌≡◌, ◌==◌, ℕ, zero, suc, List, [], ◌∷◌, Some, slice_get, Contains, eq-eqb, refl, sym, ◌∙◌, ap, subst, arith}
use Rattle.std.proofs.lemmas.Option.{same_Some, none-some, slice_get_within, get_or_from_slice_get}
use mathlib.Core.Logic.{dite}
use native.Mathlib.Decide.{dec_lt}
use Rattle.atam.specs.declared.place.Place.{Place}
use Rattle.atam.specs.TileSystem.{TileSystem}
use Rattle.atam.specs.Placements.{HasDistinctSites}
use Rattle.atam.proofs.Lists.{Contains-slice_get}
use Rattle.grow_core.specs.declared.placed_tile.PlacedTile.{PlacedTile}
use Rattle.grow_core.specs.Core.{ScoutState, Owns, places, ScoutInvariant}
use Rattle.grow_core.proofs.Lists.{filter-from, filter-has}

place_at : (log : List PlacedTile) (i : ℕ) (t : PlacedTile) → slice_get log i ≡ Some t → slice_get (places log) i ≡ Some t.place
place_at [] i t e = absurd (none-some t e)
place_at (x ∷ log) zero t e = ap (λ (y : PlacedTile). Some y.place) (same_Some x t e)
place_at (x ∷ log) (suc i) t e = place_at log i t e

-- two of the tiles at one site are one
pub same_tile : (log : List PlacedTile) (t u : PlacedTile) → HasDistinctSites (places log) → Contains log t → Contains log u → t.place.site ≡ u.place.site → t ≡ u
same_tile log t u distinct in_t in_u one =
    let a = Contains-slice_get log t in_t in
    let b = Contains-slice_get log u in_u in
    let p = place_at log a.0 t a.2 in
    let q = place_at log b.0 u b.2 in
    let site_t = ap (λ (x : Place). x.site) (get_or_from_slice_get (places log) a.0 t.place t.place p) in
    let site_u = ap (λ (x : Place). x.site) (get_or_from_slice_get (places log) b.0 u.place t.place q) in
    dite (dec_lt a.0 b.0)
    (λ l. absurd (distinct a.0 b.0 t.place l (slice_get_within (places log) b.0 u.place q) (site_t ∙ (one ∙ sym site_u))))
    (λ f. dite (dec_lt b.0 a.0)
    (λ l. absurd (distinct b.0 a.0 t.place l (slice_get_within (places log) a.0 t.place p) (site_u ∙ (sym one ∙ sym site_t))))
    (λ h. let e : a.0 ≡ b.0 = omega (arith, f, h) in same_Some t u (sym a.2 ∙ (ap (slice_get log) e ∙ b.2))))

module _ (sys : TileSystem) (log : List PlacedTile) (v : ScoutState) (knows : ScoutInvariant sys log v) where
  -- a tile of one of its numbers is its own
  pub own_tile : (t : PlacedTile) → Contains log t → Owns v.owned t.placer → Contains v.mine t
  own_tile t c own = filter-from (λ (x : PlacedTile). x.placer == t.placer) v.mine t
      (subst (λ l. Contains l t) (knows.in_order t.placer own) (filter-has (λ (x : PlacedTile). x.placer == t.placer) log t c (eq-eqb t.placer t.placer refl)))

  -- what is its own is one of the tiles
  pub mine_tile : (t : PlacedTile) → Contains v.mine t → Contains log t
  mine_tile t c = let own = knows.mine_owned t c in
      filter-from (λ (x : PlacedTile). x.placer == t.placer) log t
      (subst (λ l. Contains l t) (sym (knows.in_order t.placer own)) (filter-has (λ (x : PlacedTile). x.placer == t.placer) v.mine t c (eq-eqb t.placer t.placer refl)))
