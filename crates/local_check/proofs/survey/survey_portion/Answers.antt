use Rattle.std.proofs.Common.{◌≡◌, ◌<◌, ◌≤◌, ◌+◌, ◌++◌, ◌∷◌, [], ◌∙◌, ℕ, List, length, take, max, not, slice_get, Option, Some, IfNone, arith, refl, sym, ap, subst}
use Rattle.std.proofs.lemmas.List.{length-map, map-append}
use Rattle.atam.specs.declared.place.TypeId.{TypeId}
use Rattle.atam.specs.declared.place.Place.{Place}
use Rattle.atam.specs.declared.area.BoxArea.{BoxArea}
use Rattle.atam.specs.declared.site.Site.{Site}
use Rattle.atam.specs.declared.site.Side.{Side}
use Rattle.atam.specs.declared.site.Side.TheVariants.{North, East, South, West}
use Rattle.atam.specs.Sites.{InBox, neighbor}
use Rattle.atam.specs.TileSystem.{TileSystem, IsType}
use Rattle.atam.specs.Assembly.{Fits, glue_at, pull}
use Rattle.atam.specs.Determinism.{is_output}
use Rattle.atam.proofs.Lists.{All-slice_get, seeds_within}
use Rattle.atam.proofs.Opening.{Fits-part}
use Rattle.attach_rule.specs.declared.facing.FacingGlues.{FacingGlues}
use Rattle.attach_rule.specs.Facing.{FacesSite}
use Rattle.type_cache.specs.SideSets.{SideSet, has, intersection, difference, complement, sides_beside}
use Rattle.local_check.specs.Inner.PlaceFindings.{FindingTable, ArePlaceFindings}
use Rattle.local_check.specs.Inner.PlaceSides.{PlaceSides, earlier_sets, output_sets}
use Rattle.local_check.specs.Inner.Ranges.{FindsInexactIn, FindsRivalIn}
use Rattle.local_check.specs.Inner.Sides.{AreEarlierFrom, AreOutputsFrom, bound_sides, pull_on}
use Rattle.local_check.proofs.Sides.{bound_sides-same, earlier_more, outputs_more, output_here, length-push, has-complement}
use Rattle.assembly.proofs.Putting.{take_more}
use Rattle.local_check.specs.Inner.StoodSites.{StoodTable, TellsSites}
use Rattle.local_check.proofs.Standing.{earlier_standing, outputs_standing, pull_standing}
use Rattle.local_check.proofs.Judging.{one_map, part_of_tiles, seed_inexact, seed_rival, rival_more, none_so_far}
use Rattle.local_check.proofs.survey.survey_portion.Goals as goal
use Rattle.local_check.proofs.survey.survey_portion.Goals.{then-index-seed_count, else-index-seed_count}

-- a place of the sequence is in the system's box
placed_inside : (sys : TileSystem) (s : List Place) (area : BoxArea) (i : ℕ) (p : Place) → area ≡ sys.area → Fits sys s → slice_get s i ≡ Some p → InBox area p.site
placed_inside sys s area i p same fits there = subst (λ (a : BoxArea). InBox a p.site) (sym same) (All-slice_get (λ q. InBox sys.area q.site) s i p fits.sites there)

pub at-finding-requires-clause-fits : goal.at-finding-requires-clause-fits
at-finding-requires-clause-fits c = Fits-part c.args.laid.now.sys.now c.args.laid.now.grid.now.tiles c.args.laid.now.seq.now c.requires.can.placements.whole c.requires.can.fits

pub at-finding-requires-clause-inside : goal.at-finding-requires-clause-inside
at-finding-requires-clause-inside c =
    placed_inside c.args.laid.now.sys.now c.args.laid.now.seq.now c.args.laid.now.grid.now.area c.loop-index.index c.get-place.result c.requires.can.area c.requires.can.fits c.get-place.ensures

pub at-finding-requires-clause-kind : goal.at-finding-requires-clause-kind
at-finding-requires-clause-kind c =
    All-slice_get (λ p. IsType c.args.laid.now.sys.now p.tile) c.args.laid.now.seq.now c.loop-index.index c.get-place.result c.requires.can.fits.types c.get-place.ensures

pub site_index-number-requires-clause-inside : goal.site_index-number-requires-clause-inside
site_index-number-requires-clause-inside c =
    placed_inside c.args.laid.now.sys.now c.args.laid.now.seq.now c.area-area.result c.loop-index.index c.get-place.result c.area-area.ensures.area c.requires.can.fits c.get-place.ensures

pub beside-before-requires-clause-inside : goal.beside-before-requires-clause-inside
beside-before-requires-clause-inside c =
    placed_inside c.args.laid.now.sys.now c.args.laid.now.seq.now c.loop-index.stood.area c.loop-index.index c.get-place.result c.loop-index.invariant.area c.requires.can.fits c.get-place.ensures

pub insert-requires-clause-inside : goal.insert-requires-clause-inside
insert-requires-clause-inside c =
    placed_inside c.args.laid.now.sys.now c.args.laid.now.seq.now c.loop-index.stood.area c.loop-index.index c.get-place.result c.loop-index.invariant.area c.requires.can.fits c.get-place.ensures

pub loop-index-preserved : goal.loop-index-preserved
loop-index-preserved c =
    let sys = c.args.laid.now.sys.now in
    let s = c.args.laid.now.seq.now in
    let n = length sys.seeds in
    let i = c.loop-index.index in
    let k = max n i in
    let part = take k s in
    let p = c.get-place.result in
    let whole = c.args.laid.now.grid.now.tiles in
    let legal = c.requires.can.legal in
    let distinct = c.requires.can.valid.distinct_seeds in
    let found = c.at-finding.result in
    let sides = c.loop-index.sides.items in
    let within : i < length s = omega (arith, c.loop-index-test.true, c.requires.range.1) in
    let seeded : n ≤ length s = seeds_within sys.seeds s legal.seeds in
    let extends = part_of_tiles sys s whole distinct legal c.requires.can.placements k part (omega (arith, within, seeded)) (λ m. refl) in
    let before : c.beside-before.result ≡ sides_beside part p.site = c.beside-before.ensures part c.loop-index.invariant.stood in
    let finding = c.at-finding.ensures.finding in
    let earlier_is : found.earlier ≡ bound_sides sys part p.site p.tile =
    finding.earlier ∙ ap (λ sides. intersection (bound_sides sys whole p.site p.tile) sides) before ∙ earlier_standing sys part whole extends p.site p.tile
    in
    let outputs_are : found.outputs ≡ difference (bound_sides sys whole p.site p.tile) (bound_sides sys part p.site p.tile) =
    finding.outputs ∙ ap (λ sides. difference (bound_sides sys whole p.site p.tile) sides) before ∙ outputs_standing sys part whole extends p.site p.tile
    in
    let sum_is : found.sum ≡ pull sys part p.site p.tile =
    finding.sum ∙ ap (λ sides. pull_on sys whole p.site p.tile sides) before ∙ pull_standing sys part whole extends p.site p.tile
    in
    let glues : FacingGlues = record {
      north = glue_at sys whole (neighbor p.site North) South;
      east = glue_at sys whole (neighbor p.site East) West;
      south = glue_at sys whole (neighbor p.site South) North;
      west = glue_at sys whole (neighbor p.site West) East;
    } in
    let faces : FacesSite sys whole p.site glues = record { north = refl; east = refl; south = refl; west = refl } in
    let here : (d : Side) → has found.outputs d ≡ is_output sys s i d =
    output_here sys s distinct legal i p c.get-place.ensures (bound_sides sys part p.site p.tile) (bound_sides sys whole p.site p.tile) found.outputs
    refl
    (sym (bound_sides-same sys s whole p.site p.tile (one_map sys s whole distinct legal c.requires.can.placements)))
    outputs_are
    in
    let start = c.args.places.start in
    let earlier_count : start + length (earlier_sets sides) ≡ i = ap (λ j. start + j) (length-map sides (λ (a : PlaceSides). a.earlier)) ∙ c.loop-index.invariant.count in
    let output_count : start + length (output_sets sides) ≡ i = ap (λ j. start + j) (length-map sides (λ (a : PlaceSides). a.outputs)) ∙ c.loop-index.invariant.count in
    let earlier_put : earlier_sets c.push_reserved.new.self.items ≡ earlier_sets sides ++ found.earlier ∷ [] =
    ap earlier_sets c.push_reserved.ensures.items
    ∙ map-append (λ (a : PlaceSides). a.earlier) sides (c.of.result ∷ [])
    ∙ ap (λ (a : PlaceSides). earlier_sets sides ++ a.earlier ∷ []) c.of.ensures
    in
    let outputs_put : output_sets c.push_reserved.new.self.items ≡ output_sets sides ++ found.outputs ∷ [] =
    ap output_sets c.push_reserved.ensures.items
    ∙ map-append (λ (a : PlaceSides). a.outputs) sides (c.of.result ∷ [])
    ∙ ap (λ (a : PlaceSides). output_sets sides ++ a.outputs ∷ []) c.of.ensures
    in
    let Earlier : List SideSet → Type 0 = λ l. AreEarlierFrom sys s start l in
    let Outputs : List SideSet → Type 0 = λ l. AreOutputsFrom sys s start l in
    let At : ℕ → Type 0 = λ j. slice_get s j ≡ Some p in
    let Told : StoodTable → ℕ → Type 0 = λ sites j. TellsSites sites (take j s) in
    let Known : FindingTable → Type 0 = λ f. ArePlaceFindings sys f in
    let Inexact : Option (Site × ℕ) → Type 0 = λ first. FindsInexactIn sys s start (i + 1) first in
    let Rival : Option (Site × TypeId) → Type 0 = λ first. FindsRivalIn sys s start (i + 1) first in
    record {
      from = omega (arith, c.loop-index.invariant.from);
      within = omega (arith, c.loop-index-test.true);
      area = elim c.if-index-seed_count.branch [
        | then-index-seed_count w ↦ ap (λ (z : StoodTable). z.area) w.stood-is ∙ w.insert.ensures.area ∙ c.loop-index.invariant.area
        | else-index-seed_count w ↦ ap (λ (z : StoodTable). z.area) w.stood-is ∙ c.loop-index.invariant.area
      ];
      stood = elim c.if-index-seed_count.branch [
        | then-index-seed_count w ↦
            let later : n ≤ i = omega (arith, w.if-index-seed_count.true, ap length c.seeds-seed_count.ensures.seeds) in
            let now : max n i ≡ i = omega (arith, later) in
            let next : max n (i + 1) ≡ i + 1 = omega (arith, later) in
            let Among : List Place → Type 0 = λ l. TellsSites w.insert.new.self l in
            let told : Among (take i s ++ p ∷ []) = w.insert.ensures.tells (take i s) (subst (Told c.loop-index.stood) now c.loop-index.invariant.stood) in
            subst (λ (z : StoodTable). Told z (max n (i + 1))) (sym w.stood-is) (subst (Told w.insert.new.self) (sym next) (subst Among (sym (take_more s i p c.get-place.ensures)) told))
        | else-index-seed_count w ↦
            let seed : i < n = omega (arith, w.if-index-seed_count.false, ap length c.seeds-seed_count.ensures.seeds) in
            let still : max n i ≡ max n (i + 1) = omega (arith, seed) in
            subst (λ (z : StoodTable). Told z (max n (i + 1))) (sym w.stood-is) (subst (Told c.loop-index.stood) still c.loop-index.invariant.stood)
      ];
      count = omega (arith, ap length c.push_reserved.ensures.items, length-push sides c.of.result, c.loop-index.invariant.count);
      room = omega (arith, c.push_reserved.ensures.capacity, c.loop-index.invariant.room);
      earlier =
          subst Earlier (sym earlier_put)
          (earlier_more sys s start (earlier_sets sides) found.earlier p (subst At (sym earlier_count) c.get-place.ensures) c.loop-index.invariant.earlier
          (earlier_is ∙ ap (λ j. bound_sides sys (take (max n j) s) p.site p.tile) (sym earlier_count)));
      outputs =
          subst Outputs (sym outputs_put)
          (outputs_more sys s start (output_sets sides) found.outputs c.loop-index.invariant.outputs (λ d. here d ∙ ap (λ j. is_output sys s j d) (sym output_count)));
      known = elim c.if-index-seed_count.branch [
        | then-index-seed_count w ↦ subst Known (sym w.findings-is) (w.stop_after.ensures.known sys c.at-finding.ensures.known)
        | else-index-seed_count w ↦ subst Known (sym w.findings-is) c.at-finding.ensures.known
      ];
      seeks = elim c.if-index-seed_count.branch [
        | then-index-seed_count w ↦ λ none.
            let none_here = none_so_far p.site c.loop-index.breaches.rival found.rival (sym (ap (λ b. b.rival) w.breaches-is ∙ w.see.ensures.rival p c.get-place.ensures) ∙ none) in
            let Stays : Option TypeId → Type 0 = λ rival. IfNone rival (w.stop_after.new.self.seeks ≡ c.at-finding.new.self.seeks) in
            ap (λ f. f.seeks) w.findings-is ∙ subst Stays none_here.1 w.stop_after.ensures.seeks ∙ c.at-finding.ensures.seeks ∙ c.loop-index.invariant.seeks none_here.0
        | else-index-seed_count w ↦ λ none.
            ap (λ f. f.seeks) w.findings-is ∙ c.at-finding.ensures.seeks ∙ c.loop-index.invariant.seeks (ap (λ b. b.rival) (sym w.breaches-is) ∙ none)
      ];
      inexact = elim c.if-index-seed_count.branch [
        | then-index-seed_count w ↦
            let later : n ≤ i = omega (arith, w.if-index-seed_count.true, ap length c.seeds-seed_count.ensures.seeds) in
            let now : max n i ≡ i = omega (arith, later) in
            let held : pull sys (take i s) p.site p.tile ≡ found.sum =
            ap (λ j. pull sys (take j s) p.site p.tile) (sym now) ∙ sym sum_is
            in
            subst Inexact (ap (λ b. b.inexact) (sym w.breaches-is)) (w.see.ensures.inexact start p c.loop-index.invariant.from c.loop-index.invariant.inexact later c.get-place.ensures held)
        | else-index-seed_count w ↦
            let seed : i < n = omega (arith, w.if-index-seed_count.false, ap length c.seeds-seed_count.ensures.seeds) in
            subst Inexact (ap (λ b. b.inexact) (sym w.breaches-is)) (seed_inexact sys s start i c.loop-index.breaches.inexact seed c.loop-index.invariant.inexact)
      ];
      rival = elim c.if-index-seed_count.branch [
        | then-index-seed_count w ↦
            let later : n ≤ i = omega (arith, w.if-index-seed_count.true, ap length c.seeds-seed_count.ensures.seeds) in
            subst Rival (sym (ap (λ b. b.rival) w.breaches-is ∙ w.see.ensures.rival p c.get-place.ensures)) (
            rival_more sys s whole distinct legal c.requires.can.placements i p c.get-place.ensures (complement found.outputs)
            (λ d. has-complement found.outputs d ∙ ap not (here d)) glues faces
            start c.loop-index.breaches.rival found.rival c.loop-index.invariant.from later c.loop-index.invariant.rival (λ none. finding.rival (c.loop-index.invariant.seeks none) glues faces)
            )
        | else-index-seed_count w ↦
            let seed : i < n = omega (arith, w.if-index-seed_count.false, ap length c.seeds-seed_count.ensures.seeds) in
            subst Rival (ap (λ b. b.rival) (sym w.breaches-is)) (seed_rival sys s start i c.loop-index.breaches.rival seed c.loop-index.invariant.rival)
      ];
    }

pub returns : goal.returns
returns c =
    let all : c.loop-index.index ≡ c.args.places.end = omega (arith, c.loop-index-test.false, c.loop-index.invariant.within) in
    record {
      count = c.loop-index.invariant.count ∙ all;
      earlier = c.loop-index.invariant.earlier;
      outputs = c.loop-index.invariant.outputs;
      inexact = subst (λ n. FindsInexactIn c.args.laid.now.sys.now c.args.laid.now.seq.now c.args.places.start n c.loop-index.breaches.inexact) all c.loop-index.invariant.inexact;
      rival = subst (λ n. FindsRivalIn c.args.laid.now.sys.now c.args.laid.now.seq.now c.args.places.start n c.loop-index.breaches.rival) all c.loop-index.invariant.rival;
    }
