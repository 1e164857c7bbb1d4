-- What is seen of tiles as they come.
use Rattle.std.proofs.Common.{◌≡◌, ◌<◌, ◌∙◌, ℕ, true, false, List, length, set, replicate, slice_get, Option, Some, None, is_some, sym, ap, subst, inl, inr, arith}
use Rattle.std.proofs.lemmas.Bool.{cases_eq}
use Rattle.std.proofs.lemmas.List.{get_or-replicate, length-replicate}
use Rattle.std.proofs.lemmas.Option.{same_Some, slice_get_within, get_or_from_slice_get}
use Rattle.atam.specs.declared.site.Side.{Side}
use Rattle.atam.specs.declared.site.Side.TheVariants.{North, East, South, West}
use Rattle.atam.specs.declared.site.Site.{Site}
use Rattle.atam.specs.declared.place.GlueId.{GlueId}
use Rattle.atam.specs.declared.place.TypeId.{TypeId}
use Rattle.atam.specs.declared.place.Place.{Place}
use Rattle.atam.specs.TileSystem.{TileSystem, side_glue}
use Rattle.atam.specs.Assembly.{interaction}
use Rattle.atam.proofs.Bonds.{interaction-none}
use Rattle.attach_rule.specs.declared.bonding.Strengths.{Strengths}
use Rattle.attach_rule.specs.declared.facing.FacingGlues.{FacingGlues}
use Rattle.attach_rule.specs.Bonds.{AreBonds}
use Rattle.attach_rule.specs.Facing.{AreNone, FacesSite}
use Rattle.attach_rule.proofs.Held.{facing_pull-pull}
use Rattle.type_index.specs.HeldTypes.{IsHeld}
use Rattle.type_cache.specs.SideSets.{SideSet, has, sides_beside}
use Rattle.type_cache.specs.Clean.{ComesClean, AreSettled}
use Rattle.type_cache.proofs.Settling.{has_beside, held_by, strength_is}
use Rattle.local_check.specs.declared.glances.Glance.{Glance}
use Rattle.local_check.specs.declared.glances.LastGlance.{LastGlance}
use Rattle.local_check.specs.Inner.Glances.{IsGlance, IsGlanceFor, glance_of}
use Rattle.local_check.proofs.Sites.{slice_get-set, slice_get-apart}

-- a tile comes clean by its strengths with the tiles beside it, and by the types that the glues hold
module _ (sys : TileSystem) (tiles : List Place) (m : Site) (t : TypeId) (glues : FacingGlues) (faces : FacesSite sys tiles m glues) (bonds : Strengths) (are : AreBonds sys tiles m t bonds) where
  pub comes_clean : (beside : SideSet) → beside ≡ sides_beside tiles m → AreSettled sys t bonds beside → ((u : TypeId) → IsHeld sys glues u → u ≡ t) → ComesClean sys tiles m t
  comes_clean beside is settled sole = record {
    sole = λ u grows. sole u (held_by sys tiles m glues u faces grows);
    settled = λ d v at. elim (settled d (ap (λ sides. has sides d) is ∙ has_beside tiles m d ∙ ap is_some at)) [
      | inl bound ↦ inl (subst (λ (n : ℕ). 0 < n) (strength_is sys tiles m t bonds are d) bound)
      | inr dead ↦ inr dead
    ];
  }

-- what is seen where no glue faces the site
pub nothing_seen : (sys : TileSystem) (tiles : List Place) (m : Site) (t : TypeId) (glues : FacingGlues) → FacesSite sys tiles m glues → AreNone glues → (glance : Glance) →
    glance.sum ≡ 0 → glance.clean ≡ false → IsGlance sys tiles m t glance
nothing_seen sys tiles m t glues faces none glance sum unclean = record {
  sum =
      let side : (d : Side) (g : Option GlueId) → g ≡ None → interaction sys (side_glue sys t d) g ≡ 0 = λ d g is.
      ap (λ o. interaction sys (side_glue sys t d) o) is ∙ interaction-none sys (side_glue sys t d)
      in
      let n = side North glues.north none.north in
      let e = side East glues.east none.east in
      let s = side South glues.south none.south in
      let w = side West glues.west none.west in
      let same = facing_pull-pull sys tiles m glues t faces in
      omega (arith, n, e, s, w, same, sum);
  clean = λ said. let never : false ≡ true = sym unclean ∙ said in cc never;
}

-- one more that was seen
pub seen_set : (sys : TileSystem) (last : List LastGlance) (t : TypeId) (f : LastGlance) → t.0 < length last →
    ((u : TypeId) (g : LastGlance) → slice_get last u.0 ≡ Some g → IsGlanceFor sys u g.key g.beside (glance_of g)) → IsGlanceFor sys t f.key f.beside (glance_of f) →
    (u : TypeId) (g : LastGlance) → slice_get (set last t.0 f) u.0 ≡ Some g → IsGlanceFor sys u g.key g.beside (glance_of g)
seen_set sys last t f within each here u g at = elim (cases_eq u.0 t.0) [
  | inl same ↦
      let type_is : t ≡ u = λ k. record { 0 = sym same k } in
      let At : ℕ → Type 0 = λ j. slice_get (set last t.0 f) j ≡ Some g in
      let value : f ≡ g = same_Some f g (sym (slice_get-set last t.0 f within) ∙ subst At same at) in
      subst (λ (h : LastGlance). IsGlanceFor sys u h.key h.beside (glance_of h)) value (subst (λ (v : TypeId). IsGlanceFor sys v f.key f.beside (glance_of f)) type_is here)
  | inr other ↦ each u g (slice_get-apart last t.0 u.0 f g other at)
]

-- each was seen so in a list of them
pub all_seen : (sys : TileSystem) (last : List LastGlance) (n : ℕ) (f : LastGlance) → last ≡ replicate n f → ((t : TypeId) → IsGlanceFor sys t f.key f.beside (glance_of f)) →
    (t : TypeId) (g : LastGlance) → slice_get last t.0 ≡ Some g → IsGlanceFor sys t g.key g.beside (glance_of g)
all_seen sys last n f are each t g at =
    let At : List LastGlance → Type 0 = λ l. slice_get l t.0 ≡ Some g in
    let there = subst At are at in
    let within : t.0 < n = omega (arith, slice_get_within (replicate n f) t.0 g there, length-replicate n f) in
    let value : f ≡ g = sym (get_or-replicate n t.0 f f within) ∙ get_or_from_slice_get (replicate n f) t.0 g f there in
    subst (λ (h : LastGlance). IsGlanceFor sys t h.key h.beside (glance_of h)) value (each t)
