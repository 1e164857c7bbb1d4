use Rattle.std.proofs.Common.{◌≡◌, ◌<◌, ◌∙◌, ℕ, List, Some, inl, inr, true, arith, get_or, length, length-set, set, slice_get, subst, sym}
use Rattle.std.proofs.lemmas.Bool.{cases_eq}
use Rattle.std.proofs.lemmas.Option.{same_Some, slice_get-get_or, slice_get_within}
use Rattle.atam.specs.declared.place.GluePair.{GluePair}
use Rattle.type_index.specs.PairLinks.{HasGlue}
use Rattle.type_index.proofs.Mosts.{mark_kept, marked_both}
use Rattle.type_index.proofs.glue_table.paired_of.Goals as goal

pub loop-pair-preserved : goal.loop-pair-preserved
loop-pair-preserved c =
    let at = c.loop-pair.invariant in
    let pairs = c.pairs-pair-items.result.now in
    let marks = c.loop-pair.paired.items in
    let n = c.loop-pair.pair-index in
    let none : GluePair = record { first = record { 0 = 0 }; second = record { 0 = 0 }; strength = 0 } in
    let p : GluePair = get_or pairs n none in
    let is_there : slice_get pairs n ≡ Some p = slice_get-get_or pairs n none c.loop-pair-test.true in
    let is = c.pairs-pair-items.ensures.each n none c.loop-pair-test.true in
    let first_in : p.first.0 < length marks = omega (arith, at.count, is.first) in
    let second_in : p.second.0 < length marks = omega (arith, at.count, is.second) in
    record {
      count = length-set (set marks p.first.0 true) p.second.0 true ∙ length-set marks p.first.0 true ∙ at.count;
      each = λ g k q below there has. elim (cases_eq k n) [
        | inl same ↦
            let There : ℕ → Type 0 = λ m. slice_get pairs m ≡ Some q in
            let Has : GluePair → Type 0 = λ r. HasGlue g r in
            marked_both marks p g first_in second_in (subst Has (sym (same_Some p q (sym is_there ∙ subst There same there))) has)
        | inr apart ↦ mark_kept (set marks p.first.0 true) p.second.0 g.0 (mark_kept marks p.first.0 g.0 (at.each g k q (omega (arith, below, apart)) there has))
      ];
    }

pub returns : goal.returns
returns c =
    let at = c.loop-pair.invariant in
    let sys = c.args.sys.now in
    let pairs = c.pairs-pair-items.result.now in
    record {
      count = at.count;
      each = λ g k p there has.
          let There : List GluePair → Type 0 = λ ps. slice_get ps k ≡ Some p in
          let read = subst There (sym c.pairs-pair-items.ensures.pairs) there in
          at.each g k p (omega (arith, slice_get_within pairs k p read, c.loop-pair-test.false)) read has;
    }
