-- The least open site of the plane is that of the box or that outside it.
use Rattle.std.proofs.Common.{List, Option, Some, None, subst, inl, inr}
use Rattle.atam.specs.declared.site.Site.{Site}
use Rattle.atam.specs.declared.place.TypeId.{TypeId}
use Rattle.atam.specs.declared.place.Place.{Place}
use Rattle.atam.specs.Sites.{IsBefore, InBox}
use Rattle.atam.specs.TileSystem.{TileSystem}
use Rattle.atam.specs.Growth.{IsLeastOpen, IsLeastOpenAmong, IsLeastOpenOutside}
use Rattle.atam.proofs.Canon.{same_or_before}
use Rattle.atam.proofs.Existence.{before_or_not, before_trans}
use Rattle.attach_rule.specs.Inner.OpenSites.{Precedes}

module _ (sys : TileSystem) (tiles : List Place) where
  pub least_outside : (f g : Option (Site × TypeId)) → IsLeastOpenAmong sys tiles (InBox sys.area) f → IsLeastOpenOutside sys tiles g → Precedes g f → IsLeastOpen sys tiles g
  least_outside f None inside outside first = absurd first
  least_outside None (Some g) none outside first = record {
    among = tt;
    grows = outside.grows;
    least_type = outside.least_type;
    least_site = λ n u _ grows before. outside.least_site n u (λ within. none n u within grows) grows before;
  }
  least_outside (Some f) (Some g) inside outside first = record {
    among = tt;
    grows = outside.grows;
    least_type = outside.least_type;
    least_site = λ n u _ grows before. outside.least_site n u (λ within. inside.least_site n u within grows (before_trans n g.0 f.0 before first)) grows before;
  }

  pub least_inside : (f g : Option (Site × TypeId)) → IsLeastOpenAmong sys tiles (InBox sys.area) f → IsLeastOpenOutside sys tiles g → ¬ Precedes g f → IsLeastOpen sys tiles f
  least_inside None None inside outside not_first = λ m t _ grows. outside m t (λ within. inside m t within grows) grows
  least_inside None (Some g) inside outside not_first = absurd (not_first tt)
  least_inside (Some f) None inside none not_first = record {
    among = tt;
    grows = inside.grows;
    least_type = inside.least_type;
    least_site = λ n u _ grows before. none n u (λ within. inside.least_site n u within grows before) grows;
  }
  least_inside (Some f) (Some g) inside outside not_first = record {
    among = tt;
    grows = inside.grows;
    least_type = inside.least_type;
    least_site = λ n u _ grows before.
        let not_before : ¬ IsBefore n g.0 = outside.least_site n u (λ within. inside.least_site n u within grows before) grows in
        elim (before_or_not g.0 n) [
          | inl less ↦ not_first (before_trans g.0 n f.0 less before)
          | inr no_less ↦
              let Before : Site → Type 0 = λ r. IsBefore r f.0 in
              not_first (subst Before (same_or_before n g.0 not_before no_less) before)
        ];
  }
