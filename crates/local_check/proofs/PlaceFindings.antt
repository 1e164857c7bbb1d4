-- What was found at places, with what is found at one place more.
use Rattle.std.proofs.Common.{◌≡◌, ◌<◌, ◌≤◌, ◌+◌, ◌∙◌, ℕ, nat_lt, Bool, true, false, if◌then◌else◌, List, length, set, replicate, slice_get, Option, Some, None, refl, sym, ap, subst, inl, inr, arith}
use Rattle.std.proofs.lemmas.Bool.{cases_eq}
use Rattle.std.proofs.lemmas.List.{get_or-replicate, length-replicate}
use Rattle.std.proofs.lemmas.Option.{same_Some, slice_get_within, get_or_from_slice_get}
use Rattle.atam.specs.declared.place.GlueId.{GlueId}
use Rattle.attach_rule.specs.declared.facing.FacingGlues.{FacingGlues}
use Rattle.atam.specs.declared.place.TypeId.{TypeId}
use Rattle.atam.specs.declared.site.Side.{Side}
use Rattle.atam.specs.declared.site.Side.TheVariants.{North, East, South, West}
use Rattle.atam.specs.declared.site.Site.{Site}
use Rattle.atam.specs.declared.place.Place.{Place}
use Rattle.atam.specs.Sites.{neighbor, opposite}
use Rattle.atam.specs.TileSystem.{TileSystem, side_glue}
use Rattle.atam.specs.Assembly.{interaction, glue_at, bond}
use Rattle.atam.proofs.Bonds.{interaction-none}
use Rattle.attach_rule.specs.Facing.{AreNone, FacesSite, facing_pull}
use Rattle.type_index.specs.HeldTypes.{FirstHeldBut}
use Rattle.type_cache.specs.SideSets.{SideSet, intersection, difference, complement, glues_on}
use Rattle.local_check.specs.Inner.Sides.{bound_sides, pull_on}
use Rattle.local_check.proofs.Sites.{slice_get-set, slice_get-apart}
use Rattle.local_check.specs.declared.findings.PlaceFinding.{PlaceFinding}
use Rattle.local_check.specs.declared.findings.LastFinding.{LastFinding}
use Rattle.local_check.specs.Inner.PlaceFindings.{IsFinding, IsKnown, FindingTable, ArePlaceFindings}

abbrev pub none_set : SideSet
none_set = record { north = false; east = false; south = false; west = false }

on_none : (on : Bool) (glue : Option GlueId) → glue ≡ None → (if on then glue else None) ≡ None
on_none true glue none = none
on_none false glue none = refl

-- the glues that face a site are one choice
pub same_facing : (sys : TileSystem) (tiles : List Place) (m : Site) (f g : FacingGlues) → FacesSite sys tiles m f → FacesSite sys tiles m g → f ≡ g
same_facing sys tiles m f g faces_f faces_g = λ k. record {
  north = (faces_f.north ∙ sym faces_g.north) k;
  east = (faces_f.east ∙ sym faces_g.east) k;
  south = (faces_f.south ∙ sym faces_g.south) k;
  west = (faces_f.west ∙ sym faces_g.west) k;
}

-- one more that is known
pub known_set : (sys : TileSystem) (seeks : Bool) (last : List LastFinding) (t : TypeId) (f : LastFinding) → t.0 < length last →
    ((u : TypeId) (g : LastFinding) → slice_get last u.0 ≡ Some g → IsKnown sys seeks u g) → IsKnown sys seeks t f →
    (u : TypeId) (g : LastFinding) → slice_get (set last t.0 f) u.0 ≡ Some g → IsKnown sys seeks u g
known_set sys seeks last t f within each here u g at = elim (cases_eq u.0 t.0) [
  | inl same ↦
      let type_is : t ≡ u = λ k. record { 0 = sym same k } in
      let At : ℕ → Type 0 = λ j. slice_get (set last t.0 f) j ≡ Some g in
      let value : f ≡ g = same_Some f g (sym (slice_get-set last t.0 f within) ∙ subst At same at) in
      subst (λ (h : LastFinding). IsKnown sys seeks u h) value (subst (λ (v : TypeId). IsKnown sys seeks v f) type_is here)
  | inr other ↦ each u g (slice_get-apart last t.0 u.0 f g other at)
]

-- what is found where no glue faces the site
module _ (sys : TileSystem) (tiles : List Place) (m : Site) (t : TypeId) (glues : FacingGlues) (faces : FacesSite sys tiles m glues) (unfaced : AreNone glues) where
  bond_unfaced : (d : Side) → glue_at sys tiles (neighbor m d) (opposite d) ≡ None → bond sys tiles m t d ≡ 0
  unfolding bond
  bond_unfaced d none = ap (λ g. interaction sys (side_glue sys t d) g) none ∙ interaction-none sys (side_glue sys t d)

  none_bound : none_set ≡ bound_sides sys tiles m t
  none_bound =
      let n = bond_unfaced North (sym faces.north ∙ unfaced.north) in
      let e = bond_unfaced East (sym faces.east ∙ unfaced.east) in
      let s = bond_unfaced South (sym faces.south ∙ unfaced.south) in
      let w = bond_unfaced West (sym faces.west ∙ unfaced.west) in
      λ k. record { north = nat_lt 0 (sym n k); east = nat_lt 0 (sym e k); south = nat_lt 0 (sym s k); west = nat_lt 0 (sym w k) }

  pull_unfaced : (u : TypeId) (g : FacingGlues) → AreNone g → facing_pull sys g u ≡ 0
  pull_unfaced u g none =
      let n = ap (λ o. interaction sys (side_glue sys u North) o) none.north ∙ interaction-none sys (side_glue sys u North) in
      let e = ap (λ o. interaction sys (side_glue sys u East) o) none.east ∙ interaction-none sys (side_glue sys u East) in
      let s = ap (λ o. interaction sys (side_glue sys u South) o) none.south ∙ interaction-none sys (side_glue sys u South) in
      let w = ap (λ o. interaction sys (side_glue sys u West) o) none.west ∙ interaction-none sys (side_glue sys u West) in
      λ k. n k + e k + s k + w k

  kept_none : (sides : SideSet) (g : FacingGlues) → FacesSite sys tiles m g → AreNone (glues_on sides g)
  kept_none sides g faces_g = record {
    north = on_none sides.north g.north (faces_g.north ∙ sym faces.north ∙ unfaced.north);
    east = on_none sides.east g.east (faces_g.east ∙ sym faces.east ∙ unfaced.east);
    south = on_none sides.south g.south (faces_g.south ∙ sym faces.south ∙ unfaced.south);
    west = on_none sides.west g.west (faces_g.west ∙ sym faces.west ∙ unfaced.west);
  }

  pub nothing_found : (before : SideSet) (seeks : Bool) (f : PlaceFinding) → 1 ≤ sys.tau → before ≡ none_set → f.earlier ≡ none_set → f.outputs ≡ none_set → f.sum ≡ 0 → f.rival ≡ None →
      IsFinding sys tiles m t before seeks f
  nothing_found before seeks f some_tau stood earlier outputs sum rival = record {
    earlier = earlier ∙ (λ k. intersection (none_bound k) (sym stood k));
    outputs = outputs ∙ (λ k. difference (none_bound k) (sym stood k));
    sum = sum ∙ ap (λ sides. pull_on sys tiles m t sides) (sym stood);
    rival = λ _ g faces_g.
        let kept : FacingGlues = glues_on (complement f.outputs) g in
        let none = kept_none (complement f.outputs) g faces_g in
        let Rival : Option TypeId → Type 0 = λ found. FirstHeldBut sys kept t found in
        subst Rival (sym rival) (λ u held. let never : ⊥ = omega (arith, held.held, pull_unfaced u kept none, some_tau) in absurd never);
  }

-- each is known so in a list of them
pub all_known : (sys : TileSystem) (seeks : Bool) (last : List LastFinding) (n : ℕ) (f : LastFinding) → last ≡ replicate n f → ((t : TypeId) → IsKnown sys seeks t f) →
    (t : TypeId) (g : LastFinding) → slice_get last t.0 ≡ Some g → IsKnown sys seeks t g
all_known sys seeks last n f are each t g at =
    let At : List LastFinding → Type 0 = λ l. slice_get l t.0 ≡ Some g in
    let there = subst At are at in
    let within : t.0 < n = omega (arith, slice_get_within (replicate n f) t.0 g there, length-replicate n f) in
    let value : f ≡ g = sym (get_or-replicate n t.0 f f within) ∙ get_or_from_slice_get (replicate n f) t.0 g f there in
    subst (λ (h : LastFinding). IsKnown sys seeks t h) value (each t)

-- where no more rivals are sought, what was found is still known
pub known_unsought : (sys : TileSystem) (seeks : Bool) (t : TypeId) (f : LastFinding) → IsKnown sys seeks t f → IsKnown sys false t f
known_unsought sys seeks t f known tiles m glues faces of_glues =
    let is = known tiles m glues faces of_glues in
    record { earlier = is.earlier; outputs = is.outputs; sum = is.sum; rival = λ sought. cc sought }

pub all_unsought : (sys : TileSystem) (table : FindingTable) → ArePlaceFindings sys table → ArePlaceFindings sys (record { last = table.last; cache = table.cache; seeks = false })
all_unsought sys table are = record {
  count = are.count;
  each = λ t f at. known_unsought sys table.seeks t f (are.each t f at);
  cache = are.cache;
}
