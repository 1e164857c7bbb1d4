use Rattle.std.proofs.Common.{◌≡◌, ◌≤◌, ◌++◌, ◌∙◌, ℕ, List, Option, length, length-append, arith, ap, sym, subst}
use Rattle.std.proofs.lemmas.List.{length-map, map-append}
use Rattle.atam.specs.declared.site.Site.{Site}
use Rattle.atam.specs.declared.place.TypeId.{TypeId}
use Rattle.type_cache.specs.SideSets.{SideSet}
use Rattle.local_check.specs.Inner.PlaceSides.{PlaceSides, earlier_sets, output_sets}
use Rattle.local_check.specs.Inner.Ranges.{FindsInexactIn, FindsRivalIn}
use Rattle.local_check.specs.Inner.Sides.{AreEarlierFrom, AreOutputsFrom}
use Rattle.local_check.proofs.Judging.{inexact_joined, rival_joined}
use Rattle.local_check.proofs.Sides.{earlier_joined, outputs_joined}
use Rattle.local_check.proofs.survey.Survey.append.Goals as goal

pub returns : goal.returns
returns c sys s start middle end one other =
    let left = c.args.self.now.sides.items in
    let right = c.args.behind.sides.items in
    let all : c.extend_from_slice.new.self.items ≡ left ++ right = c.in_ok-extend_from_slice.ensures.items ∙ ap (λ l. left ++ l) c.as_slice.ensures.value in
    let meet : start ≤ middle = omega (arith, one.count) in
    let Earlier : List SideSet → Type 0 = λ l. AreEarlierFrom sys s start l in
    let Outputs : List SideSet → Type 0 = λ l. AreOutputsFrom sys s start l in
    record {
      count = omega (arith, ap length all, length-append left right, one.count, other.count);
      earlier =
          subst Earlier (sym (ap earlier_sets all ∙ map-append (λ (a : PlaceSides). a.earlier) left right))
          (earlier_joined sys s start middle (earlier_sets left) (earlier_sets right) (omega (arith, length-map left (λ (a : PlaceSides). a.earlier), one.count)) one.earlier other.earlier);
      outputs =
          subst Outputs (sym (ap output_sets all ∙ map-append (λ (a : PlaceSides). a.outputs) left right))
          (outputs_joined sys s start middle (output_sets left) (output_sets right) (omega (arith, length-map left (λ (a : PlaceSides). a.outputs), one.count)) one.outputs other.outputs);
      inexact =
          subst (λ (f : Option (Site × ℕ)). FindsInexactIn sys s start end f) (sym c.or-self.ensures.inexact)
          (inexact_joined sys s start middle end meet c.args.self.now.breaches.inexact c.args.behind.breaches.inexact one.inexact other.inexact);
      rival =
          subst (λ (f : Option (Site × TypeId)). FindsRivalIn sys s start end f) (sym c.or-self.ensures.rival)
          (rival_joined sys s start middle end meet c.args.self.now.breaches.rival c.args.behind.breaches.rival one.rival other.rival);
    }
