-- The pull on a tile, as one place more is listed.
use Rattle.std.proofs.Common.{◌≡◌, ◌≢◌, ◌+◌, List, [], ◌∷◌, ◌++◌, Some, None, refl, sym, ◌∙◌, ap, subst, inl, inr, arith}
use Rattle.atam.specs.declared.site.Side.{Side}
use Rattle.atam.specs.declared.site.Side.TheVariants.{North, East, South, West}
use Rattle.atam.specs.declared.site.Site.{Site}
use Rattle.atam.specs.declared.place.TypeId.{TypeId}
use Rattle.atam.specs.declared.place.Place.{Place}
use Rattle.atam.specs.Sites.{neighbor, opposite}
use Rattle.atam.specs.Placements.{tile_at}
use Rattle.atam.specs.TileSystem.{TileSystem, side_glue}
use Rattle.atam.specs.Assembly.{interaction, bond, pull}
use Rattle.atam.proofs.Boxes.{same_site_tells}
use Rattle.atam.proofs.Bonds.{neighbor-opposite, opposite-opposite, interaction-comm, bond_is, bond-none}
use Rattle.atam.proofs.Placements.{tile_at-append_past, tile_at-here, tile_at-past}
use Rattle.atam.proofs.Opening.{bond-beside}
use Rattle.atam.proofs.Tiles.{tile_at-push_other}
use Rattle.replay_order.specs.Inner.Replays.{given_to, given_beside}

-- a place more at an empty site adds its bond
pub bond-push : (sys : TileSystem) (s : List Place) (p : Place) (m : Site) (t : TypeId) (d : Side) → tile_at s p.site ≡ None →
    bond sys (s ++ p ∷ []) m t d ≡ bond sys s m t d + bond sys (p ∷ []) m t d
bond-push sys s p m t d empty = elim (same_site_tells p.site (neighbor m d)) [
  | inl here ↦
      let Empty : Site → Type 0 = λ n. tile_at s n ≡ None in
      let at : tile_at s (neighbor m d) ≡ None = subst Empty here.1 empty in
      let alone = bond-beside sys (s ++ p ∷ []) (p ∷ []) m t d (tile_at-append_past s (p ∷ []) (neighbor m d) at) in
      let none = bond-none sys s m t d at in
      omega (arith, alone, none)
  | inr apart ↦
      let same = bond-beside sys (s ++ p ∷ []) s m t d (tile_at-push_other s p (neighbor m d) apart.1) in
      let none = bond-none sys (p ∷ []) m t d (tile_at-past p [] (neighbor m d) apart.1) in
      omega (arith, same, none)
]

-- and so the pull of it alone
pub pull-push : (sys : TileSystem) (s : List Place) (p : Place) (m : Site) (t : TypeId) → tile_at s p.site ≡ None →
    pull sys (s ++ p ∷ []) m t ≡ pull sys s m t + pull sys (p ∷ []) m t
unfolding pull
pull-push sys s p m t empty =
    omega (arith, bond-push sys s p m t North empty, bond-push sys s p m t East empty, bond-push sys s p m t South empty, bond-push sys s p m t West empty)

-- a tile of a whole, and what stands beside it
module _ (sys : TileSystem) (tiles : List Place) (p : Place) where
  pub given_to-here : (d : Side) (m : Site) → neighbor p.site d ≡ m → given_to sys tiles p d m ≡ bond sys tiles p.site p.tile d
  given_to-here d m is = elim (same_site_tells (neighbor p.site d) m) [ inl same ↦ rw same.0 refl | inr differ ↦ absurd (differ.1 is) ]

  pub given_to-other : (d : Side) (m : Site) → neighbor p.site d ≢ m → given_to sys tiles p d m ≡ 0
  given_to-other d m other = elim (same_site_tells (neighbor p.site d) m) [ inl same ↦ absurd (other same.1) | inr differ ↦ rw differ.0 refl ]

  -- the tile beside it gets of it alone what it has with that
  given_side : (m : Site) (t : TypeId) (d : Side) → tile_at tiles m ≡ Some t → given_to sys tiles p d m ≡ bond sys (p ∷ []) m t (opposite d)
  given_side m t d placed = elim (same_site_tells (neighbor p.site d) m) [
    | inl same ↦
        let There : Site → Type 0 = λ n. tile_at tiles n ≡ Some t in
        let beside : tile_at tiles (neighbor p.site d) ≡ Some t = subst There (sym same.1) placed in
        let back : p.site ≡ neighbor m (opposite d) = sym (neighbor-opposite p.site d) ∙ ap (λ n. neighbor n (opposite d)) same.1 in
        let own = bond_is sys tiles p.site p.tile d t beside in
        let other = bond_is sys (p ∷ []) m t (opposite d) p.tile (tile_at-here p [] (neighbor m (opposite d)) back) in
        given_to-here d m same.1 ∙ own
        ∙ interaction-comm sys (side_glue sys p.tile d) (side_glue sys t (opposite d))
        ∙ ap (λ e. interaction sys (side_glue sys t (opposite d)) (side_glue sys p.tile e)) (sym (opposite-opposite d)) ∙ sym other
    | inr apart ↦
        let forth : neighbor (neighbor m (opposite d)) d ≡ m = ap (λ e. neighbor (neighbor m (opposite d)) e) (sym (opposite-opposite d)) ∙ neighbor-opposite m (opposite d) in
        let away : p.site ≢ neighbor m (opposite d) = λ one. apart.1 (ap (λ n. neighbor n d) one ∙ forth) in
        given_to-other d m apart.1 ∙ sym (bond-none sys (p ∷ []) m t (opposite d) (tile_at-past p [] (neighbor m (opposite d)) away))
  ]

  -- and where there is none, nothing is given
  given_nothing : (m : Site) (d : Side) → tile_at tiles m ≡ None → given_to sys tiles p d m ≡ 0
  given_nothing m d none = elim (same_site_tells (neighbor p.site d) m) [
    | inl same ↦
        let There : Site → Type 0 = λ n. tile_at tiles n ≡ None in
        given_to-here d m same.1 ∙ bond-none sys tiles p.site p.tile d (subst There (sym same.1) none)
    | inr apart ↦ given_to-other d m apart.1
  ]

  -- a tile gets of a place what this alone pulls on it
  pub given_pull : (m : Site) (t : TypeId) → tile_at tiles m ≡ Some t → given_beside sys tiles p m ≡ pull sys (p ∷ []) m t
  unfolding pull
  given_pull m t placed =
      omega (arith, given_side m t North placed, given_side m t East placed, given_side m t South placed, given_side m t West placed)

  pub given_none : (m : Site) → tile_at tiles m ≡ None → given_beside sys tiles p m ≡ 0
  given_none m none =
      omega (arith, given_nothing m North none, given_nothing m East none, given_nothing m South none, given_nothing m West none)
