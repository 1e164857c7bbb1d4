-- The glues on the sides of types, as a table has them.
use Rattle.std.proofs.Common.{◌≡◌, ◌<◌, ◌+◌, ℕ, List, [], ◌∷◌, ◌++◌, length, length-append, Option, Some, None, slice_get, get_or, refl, sym, ◌∙◌, ap, subst, inl, inr, arith, option_and_then}
use Rattle.std.proofs.lemmas.Bool.Decides.{eqb_tells}
use Rattle.std.proofs.lemmas.List.{length-take}
use Rattle.std.proofs.lemmas.Option.{slice_get_read, slice_get_within}
use Rattle.atam.specs.declared.site.Side.{Side}
use Rattle.atam.specs.declared.site.Site.{Site}
use Rattle.atam.specs.declared.place.GlueId.{GlueId}
use Rattle.atam.specs.declared.place.TypeId.{TypeId}
use Rattle.atam.specs.declared.place.Place.{Place}
use Rattle.atam.specs.Placements.{tile_at}
use Rattle.atam.specs.Sites.{neighbor, opposite}
use Rattle.atam.specs.TileSystem.{TileSystem, IsType, side_glue, strength_of, strength_between}
use Rattle.atam.specs.Assembly.{bond, interaction}
use Rattle.atam.proofs.Lists.{push_cases}
use Rattle.replay_order.specs.declared.bonds.SideGlue.{SideGlue}
use Rattle.replay_order.specs.declared.bonds.SideGlues.{SideGlues}
use Rattle.replay_order.specs.Inner.SideGlues.{AreGluesOf, AreGluesOfAll, AreGluesOfFirst, IsGlueOn}

-- a glue has its own strength with itself
strength_alike : (sys : TileSystem) (g h : GlueId) → g.0 ≡ h.0 → strength_between sys g h ≡ strength_of sys g
unfolding strength_between
strength_alike sys g h same = elim (eqb_tells g.0 h.0) [ inl alike ↦ rw alike.0 refl | inr differ ↦ absurd (differ.1 same) ]

-- two sides with one code have the strength that is noted
interaction_alike : (sys : TileSystem) (own other : Option GlueId) (a b : SideGlue) → IsGlueOn sys own a → IsGlueOn sys other b → a.code ≡ b.code → a.strength ≡ interaction sys own other
interaction_alike sys None other a b is_a is_b same = is_a.1
interaction_alike sys (Some g) None a b is_a is_b same = let never : ⊥ = omega (arith, is_a.0, is_b.0, same) in absurd never
interaction_alike sys (Some g) (Some h) a b is_a is_b same = is_a.1 ∙ sym (strength_alike sys g h (omega (arith, is_a.0, is_b.0, same)))

-- and so have the tiles at two sites
pub bond_alike : (sys : TileSystem) (tiles : List Place) (m : Site) (t : TypeId) (d : Side) (u : TypeId) → Some u ≡ tile_at tiles (neighbor m d) → (a b : SideGlue) →
    IsGlueOn sys (side_glue sys t d) a → IsGlueOn sys (side_glue sys u (opposite d)) b → a.code ≡ b.code → a.strength ≡ bond sys tiles m t d
unfolding bond
bond_alike sys tiles m t d u there a b is_a is_b same =
    interaction_alike sys (side_glue sys t d) (side_glue sys u (opposite d)) a b is_a is_b same
    ∙ ap (λ o. interaction sys (side_glue sys t d) (option_and_then (λ v. side_glue sys v (opposite d)) o)) there

-- the glues that are read at a type
pub glues_read : (sys : TileSystem) (rows : List SideGlues) (t : TypeId) (glues : SideGlues) → AreGluesOfAll sys rows → IsType sys t → glues ≡ get_or rows t.0 glues → AreGluesOf sys t glues
glues_read sys rows t glues all kind read = all.each t glues (slice_get_read rows (length rows) t.0 glues refl (omega (arith, kind, all.count)) read)

-- those of one type more
pub glues_push : (sys : TileSystem) (n : ℕ) (rows : List SideGlues) (glues : SideGlues) → AreGluesOfFirst sys n rows → AreGluesOf sys (record { 0 = n }) glues → AreGluesOfFirst sys (n + 1) (rows ++ glues ∷ [])
glues_push sys n rows glues first next = record {
  count = omega (arith, first.count, length-append rows (glues ∷ []));
  each = λ t found there. elim (push_cases rows glues t.0 found there) [
    | inl old ↦ first.each t found old.0
    | inr new ↦
        let at : t.0 ≡ n = omega (arith, first.count, length-append rows (glues ∷ []), length-take t.0 (rows ++ glues ∷ []), ap length new.1, within t.0 found there) in
        let Are : ℕ → SideGlues → Type 0 = λ k row. AreGluesOf sys (record { 0 = k }) row in
        subst (λ k. Are k found) (sym at) (subst (Are n) new.0 next)
  ];
}
  where
    within : (k : ℕ) (found : SideGlues) → slice_get (rows ++ glues ∷ []) k ≡ Some found → k < length (rows ++ glues ∷ [])
    within k found there = slice_get_within (rows ++ glues ∷ []) k found there
