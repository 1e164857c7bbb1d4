-- What interacts with the part of an assembly that stood before, by what stands beside a site in both.
use Rattle.std.proofs.Common.{◌≡◌, ◌∙◌, ◌+◌, ℕ, Bool, true, false, not, ◌&&◌, nat_lt, List, Option, Some, None, is_some, refl, sym, ap}
use Rattle.atam.specs.declared.site.Side.{Side}
use Rattle.atam.specs.declared.site.Side.TheVariants.{North, East, South, West}
use Rattle.atam.specs.declared.site.Site.{Site}
use Rattle.atam.specs.declared.place.TypeId.{TypeId}
use Rattle.atam.specs.declared.place.Place.{Place}
use Rattle.atam.specs.Sites.{neighbor}
use Rattle.atam.specs.Placements.{tile_at}
use Rattle.atam.specs.TileSystem.{TileSystem}
use Rattle.atam.specs.Assembly.{bond, pull}
use Rattle.atam.proofs.Bonds.{bond_is, bond-none}
use Rattle.atam.proofs.Placements.{Extends}
use Rattle.type_cache.specs.SideSets.{sides_beside, intersection, difference, bond_if}
use Rattle.local_check.specs.Inner.Sides.{bound_sides, pull_on}

in_both : (on : Bool) (w : ℕ) → (nat_lt 0 w && on) ≡ nat_lt 0 (bond_if on w)
in_both true w = elim (nat_lt 0 w) as (λ b. (b && true) ≡ b) [ true ↦ refl | false ↦ refl ]
in_both false w = elim (nat_lt 0 w) as (λ b. (b && false) ≡ false) [ true ↦ refl | false ↦ refl ]

in_whole_alone : (on : Bool) (w : ℕ) → (nat_lt 0 w && not on) ≡ (nat_lt 0 w && not (nat_lt 0 (bond_if on w)))
in_whole_alone true w = elim (nat_lt 0 w) as (λ b. (b && false) ≡ (b && not b)) [ true ↦ refl | false ↦ refl ]
in_whole_alone false w = refl

module _ (sys : TileSystem) (part whole : List Place) (extends : Extends part whole) (m : Site) (t : TypeId) where
  bond_found : (d : Side) (found : Option TypeId) → tile_at part (neighbor m d) ≡ found → bond sys part m t d ≡ bond_if (is_some found) (bond sys whole m t d)
  bond_found d None is = bond-none sys part m t d is
  bond_found d (Some u) is = bond_is sys part m t d u is ∙ sym (bond_is sys whole m t d u (extends (neighbor m d) u is))

  bond_standing : (d : Side) → bond sys part m t d ≡ bond_if (is_some (tile_at part (neighbor m d))) (bond sys whole m t d)
  bond_standing d = bond_found d (tile_at part (neighbor m d)) refl

  pub earlier_standing : intersection (bound_sides sys whole m t) (sides_beside part m) ≡ bound_sides sys part m t
  earlier_standing =
      let side : (d : Side) → (nat_lt 0 (bond sys whole m t d) && is_some (tile_at part (neighbor m d))) ≡ nat_lt 0 (bond sys part m t d) =
      λ d. in_both (is_some (tile_at part (neighbor m d))) (bond sys whole m t d) ∙ ap (nat_lt 0) (sym (bond_standing d))
      in
      let n = side North in
      let e = side East in
      let s = side South in
      let w = side West in
      λ k. record { north = n k; east = e k; south = s k; west = w k }

  pub outputs_standing : difference (bound_sides sys whole m t) (sides_beside part m) ≡ difference (bound_sides sys whole m t) (bound_sides sys part m t)
  outputs_standing =
      let side : (d : Side) → (nat_lt 0 (bond sys whole m t d) && not (is_some (tile_at part (neighbor m d)))) ≡ (nat_lt 0 (bond sys whole m t d) && not (nat_lt 0 (bond sys part m t d))) =
      λ d. in_whole_alone (is_some (tile_at part (neighbor m d))) (bond sys whole m t d) ∙ ap (λ v. nat_lt 0 (bond sys whole m t d) && not (nat_lt 0 v)) (sym (bond_standing d))
      in
      let n = side North in
      let e = side East in
      let s = side South in
      let w = side West in
      λ k. record { north = n k; east = e k; south = s k; west = w k }

  pub pull_standing : pull_on sys whole m t (sides_beside part m) ≡ pull sys part m t
  unfolding pull
  pull_standing = λ k. sym (bond_standing North) k + sym (bond_standing East) k + sym (bond_standing South) k + sym (bond_standing West) k
