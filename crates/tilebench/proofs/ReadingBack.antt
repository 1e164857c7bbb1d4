-- What is printed of a growth reads back, behind the spelling of its system.
use Rattle.tile_io.specs.Lines.{first_mark}
use Rattle.std.proofs.Common.{take, ◌≡◌, ◌≤◌, ◌<◌, ◌==◌, ◌^◌, ◌++◌, ℕ, true, false, List, Option, Some, None, All, if◌then◌else◌, refl, sym, subst, arith}
use Rattle.std.specs.Prelude.{slice_get}
use Rattle.std.specs.Option.{option_map_or}
use Rattle.std.proofs.lemmas.List.Elements.{All-contains}
use Rattle.atam.specs.declared.limits.TheConstants.{MOST_STRENGTH}
use Rattle.atam.specs.declared.site.Side.{Side}
use Rattle.atam.specs.declared.site.Side.TheVariants.{North, East, South, West}
use Rattle.atam.specs.declared.site.Site.{Site}
use Rattle.atam.specs.declared.place.GlueId.{GlueId}
use Rattle.atam.specs.declared.place.TypeId.{TypeId}
use Rattle.atam.specs.declared.place.Place.{Place}
use Rattle.atam.specs.Sites.{InBox, IsNearSite, neighbor, opposite}
use Rattle.atam.specs.Placements.{HasDistinctSites}
use Rattle.atam.specs.TileSystem.{TileSystem, IsValid, Glue, strength_between, strength_of, pair_strength, side_glue}
use Rattle.atam.specs.Assembly.{Fits, bond, glue_at, interaction, pull}
use Rattle.atam.specs.Growth.{IsCandidate, IsLeastOpenOutside}
use Rattle.atam.proofs.Bonds.{beside_a_tile, neighbor-opposite}
use Rattle.atam.proofs.Boxes.{near_inside, near_beside}
use Rattle.atam.proofs.Lists.{All-slice_get}
use Rattle.atam.proofs.Placements.{tile_at-Contains}
use Rattle.atam.proofs.Systems.{pair_strength-bound}
use Rattle.atam.specs.declared.verdict.Verdict.{Verdict}
use Rattle.atam.specs.declared.verdict.Verdict.TheVariants.{Yes, NotExact, Rival, NotTerminal}
use Rattle.local_check.specs.Judgement.{IsVerdict}
use Rattle.tile_text.specs.Spelling.{spelling, end_of_print, version_of}
use Rattle.tile_text.proofs.PrintLemmas.{has_version}
use Rattle.tile_text.proofs.SystemSpelled.{printed_any}
use Rattle.seq_text.specs.PrintedGrowths.{MayBeOpen, MayBePrinted, MayBeTold, growth_lines}
use Rattle.seq_text.proofs.Printed.{printed_reads, behind_system}
use Rattle.tilebench.specs.Inputs.{IsSystemThen}
use Rattle.seq_text.specs.GrowthText.{ReadsPlaces}

module _ (sys : TileSystem) (valid : IsValid sys) where
  -- ---- a pull is a number of the machine

  strength_of-bound : (g : GlueId) → strength_of sys g ≤ MOST_STRENGTH
  strength_of-bound g = go (slice_get sys.glues g.0) refl
    where
      go : (found : Option Glue) → slice_get sys.glues g.0 ≡ found → option_map_or (λ h. h.strength) found 0 ≤ MOST_STRENGTH
      go None is = omega arith
      go (Some h) is = All-slice_get (λ h. h.strength ≤ MOST_STRENGTH) sys.glues g.0 h valid.strengths is

  weak_pairs : All (λ p. p.strength ≤ MOST_STRENGTH) sys.pairs
  weak_pairs = λ k d within. (valid.pairs k d within).strength

  strength_between-bound : (g h : GlueId) → strength_between sys g h ≤ MOST_STRENGTH
  unfolding strength_between
  strength_between-bound g h = elim (g.0 == h.0) as (λ same. (if same then strength_of sys g else pair_strength sys.pairs g h) ≤ MOST_STRENGTH) [
    | true ↦ strength_of-bound g
    | false ↦ pair_strength-bound sys.pairs g h weak_pairs
  ]

  interaction-bound : (a b : Option GlueId) → interaction sys a b ≤ MOST_STRENGTH
  interaction-bound None b = omega arith
  interaction-bound (Some g) None = omega arith
  interaction-bound (Some g) (Some h) = strength_between-bound g h

  bond-bound : (tiles : List Place) (m : Site) (t : TypeId) (d : Side) → bond sys tiles m t d ≤ MOST_STRENGTH
  unfolding bond
  bond-bound tiles m t d = interaction-bound (side_glue sys t d) (glue_at sys tiles (neighbor m d) (opposite d))

  pull-bound : (tiles : List Place) (m : Site) (t : TypeId) → pull sys tiles m t < 2 ^ 32
  unfolding pull
  pull-bound tiles m t = omega (arith, bond-bound tiles m t North, bond-bound tiles m t East, bond-bound tiles m t South, bond-bound tiles m t West)

  -- ---- the sites that are named are near the box

  place_near : (s : List Place) (i : ℕ) (p : Place) → Fits sys s → slice_get s i ≡ Some p → IsNearSite p.site
  place_near s i p fits there = near_inside sys.area p.site valid.box (All-slice_get (λ (q : Place). InBox sys.area q.site) s i p fits.sites there)

  candidate_near : (tiles : List Place) (m : Site) (t : TypeId) → All (λ (q : Place). InBox sys.area q.site) tiles → IsCandidate sys tiles m t → IsNearSite m
  candidate_near tiles m t inside grows =
      let pulled : 0 < pull sys tiles m t = omega (arith, valid.some_tau, grows.attaches.held) in
      let beside = beside_a_tile sys tiles m t pulled in
      let d = beside.0 in
      let there = tile_at-Contains tiles (neighbor m d) beside.1 beside.2 in
      let in_box : InBox sys.area (neighbor m d) = All-contains (λ (q : Place). InBox sys.area q.site) tiles (record { site = neighbor m d; tile = beside.1 }) inside there in
      subst IsNearSite (neighbor-opposite m d) (near_beside sys.area (neighbor m d) (opposite d) valid.box in_box)

  open_near : (tiles : List Place) (outside : Option (Site × TypeId)) → All (λ (q : Place). InBox sys.area q.site) tiles → IsLeastOpenOutside sys tiles outside → MayBeOpen sys outside
  open_near tiles None inside least = tt
  open_near tiles (Some found) inside least = (least.grows.kind, candidate_near tiles found.0 found.1 inside least.grows)

  verdict_near : (s : List Place) (verdict : Verdict) → Fits sys s → IsVerdict sys s verdict → MayBeTold sys verdict
  verdict_near s Yes fits judged = tt
  verdict_near s (NotExact m sum) fits judged =
      let held = pull-bound (take judged.index s) judged.item.site judged.item.tile in
      (subst IsNearSite judged.told.0 (place_near s judged.index judged.item fits judged.there), omega (arith, held, judged.told.1))
  verdict_near s (Rival m t) fits judged =
      (subst IsNearSite judged.1.told.0 (place_near s judged.1.index judged.1.item fits judged.1.there), judged.1.told.1.holds.grows.kind)
  verdict_near s (NotTerminal m t) fits judged = (candidate_near s m t fits.sites judged.2.grows, judged.2.grows.kind)

  -- ---- and so it reads back

  pub sequence_back : (places : List Place) (closed : Option (Option (Site × TypeId))) (verdict : Option Verdict) (text : List ℕ) → MayBePrinted sys places closed verdict →
      text ≡ growth_lines sys places closed verdict → IsSystemThen (ReadsPlaces false) (spelling sys ++ text) sys places
  sequence_back places closed verdict text may is =
      let Back : List ℕ → Type 0 = λ lines. IsSystemThen (ReadsPlaces false) (spelling sys ++ lines) sys places in
      let lines = growth_lines sys places closed verdict in
      subst Back (sym is) (record {
        end = end_of_print (version_of sys) sys first_mark;
        reads = printed_any (version_of sys) sys (spelling sys ++ lines) lines first_mark valid (has_version sys) refl;
        rest = printed_reads sys valid false places closed verdict (spelling sys ++ lines) (end_of_print (version_of sys) sys first_mark) may (λ no. absurd (cc no)) (behind_system sys lines);
      })

  pub placements_back : (places : List Place) (closed : Option (Option (Site × TypeId))) (verdict : Option Verdict) (text : List ℕ) → MayBePrinted sys places closed verdict →
      HasDistinctSites places → text ≡ growth_lines sys places closed verdict → IsSystemThen (ReadsPlaces true) (spelling sys ++ text) sys places
  placements_back places closed verdict text may distinct is =
      let Back : List ℕ → Type 0 = λ lines. IsSystemThen (ReadsPlaces true) (spelling sys ++ lines) sys places in
      let lines = growth_lines sys places closed verdict in
      subst Back (sym is) (record {
        end = end_of_print (version_of sys) sys first_mark;
        reads = printed_any (version_of sys) sys (spelling sys ++ lines) lines first_mark valid (has_version sys) refl;
        rest = printed_reads sys valid true places closed verdict (spelling sys ++ lines) (end_of_print (version_of sys) sys first_mark) may (λ _. distinct) (behind_system sys lines);
      })

  pub growth_may : (tiles order : List Place) (outside : Option (Site × TypeId)) (verdict : Verdict) → All (λ (q : Place). InBox sys.area q.site) tiles → Fits sys order →
      IsLeastOpenOutside sys tiles outside → IsVerdict sys order verdict → MayBePrinted sys order (Some outside) (Some verdict)
  growth_may tiles order outside verdict inside fits least judged = record {
    fits = fits;
    open_site = open_near tiles outside inside least;
    told = verdict_near order verdict fits judged;
  }
