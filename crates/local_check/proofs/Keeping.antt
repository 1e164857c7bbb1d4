-- What pulls at a site where the tile there and those beside some of its sides are taken away.
use Rattle.std.proofs.Common.{◌≡◌, ◌≢◌, ◌+◌, Bool, true, false, not, ◌&&◌, ◌||◌, if◌then◌else◌, List, Option, None, refl, sym, ◌∙◌, ap, inl, inr, arith}
use Rattle.std.specs.Prelude.{filter}
use Rattle.std.specs.List.{list_any}
use Rattle.std.proofs.lemmas.Int.{ints}
use Rattle.std.proofs.lemmas.Bool.{cases_Bool}
use Rattle.atam.specs.declared.site.Side.{Side}
use Rattle.atam.specs.declared.site.Side.TheVariants.{North, East, South, West}
use Rattle.atam.specs.declared.site.Site.{Site}
use Rattle.atam.specs.declared.place.GlueId.{GlueId}
use Rattle.atam.specs.declared.place.TypeId.{TypeId}
use Rattle.atam.specs.declared.place.Place.{Place}
use Rattle.atam.specs.Sites.{neighbor, opposite, directions, same_site}
use Rattle.atam.specs.Placements.{tile_at}
use Rattle.atam.specs.TileSystem.{TileSystem, side_glue}
use Rattle.atam.specs.Assembly.{interaction, glue_at, bond, pull}
use Rattle.atam.proofs.Boxes.{same_site_tells, same_site-refl}
use Rattle.atam.proofs.Bonds.{bond-none, interaction-none}
use Rattle.atam.proofs.Placements.{tile_at-filter, tile_at-filtered}
use Rattle.atam.proofs.Opening.{bond-beside}
use Rattle.atam.proofs.Tiles.{SameTiles}
use Rattle.attach_rule.specs.declared.facing.FacingGlues.{FacingGlues}
use Rattle.attach_rule.specs.Facing.{FacesSite, facing_pull}
use Rattle.type_cache.specs.SideSets.{SideSet, has, bond_if, glues_on}
use Rattle.local_check.proofs.Sides.{apart}

-- the test of two neighbours of a site
other_site : (a b : Site) → a ≢ b → same_site a b ≡ false
other_site a b other = elim (same_site_tells a b) [ inl same ↦ absurd (other same.1) | inr differ ↦ differ.0 ]

differ : (m : Site) → (a b : Side) → neighbor m a ≡ neighbor m b → a ≡ b
differ m North North same = refl
differ m North East same = let e = ap (λ n. n.y) same in let never : ⊥ = omega (arith, ints, e) in absurd never
differ m North South same = let e = ap (λ n. n.y) same in let never : ⊥ = omega (arith, ints, e) in absurd never
differ m North West same = let e = ap (λ n. n.y) same in let never : ⊥ = omega (arith, ints, e) in absurd never
differ m East North same = let e = ap (λ n. n.x) same in let never : ⊥ = omega (arith, ints, e) in absurd never
differ m East East same = refl
differ m East South same = let e = ap (λ n. n.x) same in let never : ⊥ = omega (arith, ints, e) in absurd never
differ m East West same = let e = ap (λ n. n.x) same in let never : ⊥ = omega (arith, ints, e) in absurd never
differ m South North same = let e = ap (λ n. n.y) same in let never : ⊥ = omega (arith, ints, e) in absurd never
differ m South East same = let e = ap (λ n. n.y) same in let never : ⊥ = omega (arith, ints, e) in absurd never
differ m South South same = refl
differ m South West same = let e = ap (λ n. n.y) same in let never : ⊥ = omega (arith, ints, e) in absurd never
differ m West North same = let e = ap (λ n. n.x) same in let never : ⊥ = omega (arith, ints, e) in absurd never
differ m West East same = let e = ap (λ n. n.x) same in let never : ⊥ = omega (arith, ints, e) in absurd never
differ m West South same = let e = ap (λ n. n.x) same in let never : ⊥ = omega (arith, ints, e) in absurd never
differ m West West same = refl

no_other : (m : Site) (a b : Side) → a ≢ b → same_site (neighbor m a) (neighbor m b) ≡ false
no_other m a b other = other_site (neighbor m a) (neighbor m b) (λ same. other (differ m a b same))

and_false : (b : Bool) → (b && false) ≡ false
and_false true = refl
and_false false = refl

and_true : (b : Bool) → (b && true) ≡ b
and_true true = refl
and_true false = refl

or_false : (b : Bool) → (b || false) ≡ b
or_false true = refl
or_false false = refl

-- a side that isn't kept meets no glue
facing_on : (sys : TileSystem) (own : Option GlueId) (glue : Option GlueId) (on : Bool) → interaction sys own (if on then glue else None) ≡ bond_if on (interaction sys own glue)
facing_on sys own glue true = refl
facing_on sys own glue false = interaction-none sys own

-- of the places s, whose tiles are these, those that are kept: not at the site, nor beside a side that is on
module _ (sys : TileSystem) (s tiles : List Place) (same : SameTiles s tiles) (m : Site) (on : Side → Bool) where
  keeps : Site → Bool
  keeps n = not (same_site n m) && not (list_any (λ e. on e && same_site n (neighbor m e)) directions)

  abbrev kept_places : List Place
  kept_places = filter (λ q. not (same_site q.site m) && not (list_any (λ e. on e && same_site q.site (neighbor m e)) directions)) s

  pub gone_here : tile_at kept_places m ≡ None
  unfolding keeps
  gone_here =
      let gone : keeps m ≡ false = rw (same_site-refl m) refl in
      tile_at-filtered keeps s m gone

  keeps_beside : (d : Side) → keeps (neighbor m d) ≡ not (on d)
  unfolding keeps
  keeps_beside North =
      rw (
        other_site (neighbor m North) m (λ same. apart m North (sym same)),
        same_site-refl (neighbor m North),
        no_other m North East (λ e. cc e),
        no_other m North South (λ e. cc e),
        no_other m North West (λ e. cc e),
        and_true (on North),
        and_false (on East),
        and_false (on South),
        and_false (on West),
      ) (ap not (or_false (on North)))
  keeps_beside East =
      rw (
        other_site (neighbor m East) m (λ same. apart m East (sym same)),
        same_site-refl (neighbor m East),
        no_other m East North (λ e. cc e),
        no_other m East South (λ e. cc e),
        no_other m East West (λ e. cc e),
        and_true (on East),
        and_false (on North),
        and_false (on South),
        and_false (on West),
      ) (ap not (or_false (on East)))
  keeps_beside South =
      rw (
        other_site (neighbor m South) m (λ same. apart m South (sym same)),
        same_site-refl (neighbor m South),
        no_other m South North (λ e. cc e),
        no_other m South East (λ e. cc e),
        no_other m South West (λ e. cc e),
        and_true (on South),
        and_false (on North),
        and_false (on East),
        and_false (on West),
      ) (ap not (or_false (on South)))
  keeps_beside West =
      rw (
        other_site (neighbor m West) m (λ same. apart m West (sym same)),
        same_site-refl (neighbor m West),
        no_other m West North (λ e. cc e),
        no_other m West East (λ e. cc e),
        no_other m West South (λ e. cc e),
        and_true (on West),
        and_false (on North),
        and_false (on East),
        and_false (on South),
      ) (ap not (or_false (on West)))

  pub bond_kept : (t : TypeId) (d : Side) → bond sys kept_places m t d ≡ bond_if (not (on d)) (bond sys tiles m t d)
  unfolding keeps
  bond_kept t d = elim (cases_Bool (on d)) [
    | inl out ↦
        let gone : keeps (neighbor m d) ≡ false = keeps_beside d ∙ ap not out in
        rw out (bond-none sys kept_places m t d (tile_at-filtered keeps s (neighbor m d) gone))
    | inr stays ↦
        let kept : keeps (neighbor m d) ≡ true = keeps_beside d ∙ ap not stays in
        rw stays (bond-beside sys kept_places tiles m t d (tile_at-filter keeps s (neighbor m d) kept ∙ same (neighbor m d)))
  ]

  -- the glues on the other sides pull as much as they do
  module _ (sides : SideSet) (are : (d : Side) → has sides d ≡ not (on d)) (glues : FacingGlues) (faces : FacesSite sys tiles m glues) where
    bond_facing : (t : TypeId) (d : Side) (glue : Option GlueId) → glue ≡ glue_at sys tiles (neighbor m d) (opposite d) →
        bond sys kept_places m t d ≡ interaction sys (side_glue sys t d) (if has sides d then glue else None)
    unfolding bond
    bond_facing t d glue is =
        bond_kept t d
        ∙ (λ k. bond_if (sym (are d) k) (interaction sys (side_glue sys t d) (sym is k)))
        ∙ sym (facing_on sys (side_glue sys t d) glue (has sides d))

    pub pull_facing : (t : TypeId) → pull sys kept_places m t ≡ facing_pull sys (glues_on sides glues) t
    unfolding pull
    pull_facing t =
        let north = bond_facing t North glues.north faces.north in
        let east = bond_facing t East glues.east faces.east in
        let south = bond_facing t South glues.south faces.south in
        let west = bond_facing t West glues.west faces.west in
        λ k. north k + east k + south k + west k
