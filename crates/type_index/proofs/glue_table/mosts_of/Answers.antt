use Rattle.std.proofs.Common.{◌≡◌, ◌<◌, ◌∙◌, ℕ, List, Some, inl, inr, ap, arith, get_or, length, length-set, max, slice_get, subst, sym}
use Rattle.std.specs.Prelude.{slice_index}
use Rattle.std.proofs.lemmas.Bool.{cases_eq}
use Rattle.std.proofs.lemmas.Option.{same_Some, slice_get-get_or, slice_get_within}
use Rattle.atam.specs.declared.place.GluePair.{GluePair}
use Rattle.type_index.specs.PairLinks.{HasGlue}
use Rattle.type_index.proofs.Cursors.{between_most}
use Rattle.type_index.proofs.Mosts.{raised, raised_bound, raised_here, raised_keeps}
use Rattle.type_index.proofs.glue_table.mosts_of.Goals as goal

pub loop-pair-preserved : goal.loop-pair-preserved
loop-pair-preserved c =
    let at = c.loop-pair.invariant in
    let sys = c.args.sys.now in
    let pairs = c.pairs-pair-items.result.now in
    let mosts = c.loop-pair.mosts.items in
    let n = c.loop-pair.pair-index in
    let p : GluePair = get_or pairs n (record { first = record { 0 = 0 }; second = record { 0 = 0 }; strength = 0 }) in
    let is_there = slice_get-get_or pairs n (record { first = record { 0 = 0 }; second = record { 0 = 0 }; strength = 0 }) c.loop-pair-test.true in
    let is = c.pairs-pair-items.ensures.each n (record { first = record { 0 = 0 }; second = record { 0 = 0 }; strength = 0 }) c.loop-pair-test.true in
    let once = raised mosts p.first.0 p.strength in
    let first_in : p.first.0 < length mosts = omega (arith, at.count, is.first) in
    let second_in : p.second.0 < length once = omega (arith, at.count, is.second, length-set mosts p.first.0 (max (get_or mosts p.first.0 0) p.strength)) in
    let both : c.raise-in-loop-pair.new.mosts.items ≡ raised once p.second.0 p.strength = c.raise-in-loop-pair.ensures ∙ ap (λ ms. raised ms p.second.0 p.strength) c.raise.ensures in
    record {
      count = ap length both ∙ length-set once p.second.0 _ ∙ length-set mosts p.first.0 _ ∙ at.count;
      bound = λ g known.
          omega (
            arith,
            ap (λ ms. get_or ms g.0 0) both,
            raised_bound once p.second.0 p.strength second_in g.0 250 (raised_bound mosts p.first.0 p.strength first_in g.0 250 (at.bound g known) is.strength) is.strength,
          );
      own = λ g known.
          omega (arith, ap (λ ms. get_or ms g.0 0) both, raised_keeps mosts p.first.0 p.strength first_in g.0, raised_keeps once p.second.0 p.strength second_in g.0, at.own g known);
      pairs = λ g known k q below there has. elim (cases_eq k n) [
        | inl same ↦
            let There : ℕ → Type 0 = λ m. slice_get pairs m ≡ Some q in
            let p_is_q = same_Some p q (sym is_there ∙ subst There same there) in
            let Has : GluePair → Type 0 = λ r. HasGlue g r in
            elim (subst Has (sym p_is_q) has) [
              | inl first ↦
                  omega (
                    arith,
                    ap (λ ms. get_or ms g.0 0) both,
                    raised_here mosts p.first.0 p.strength first_in g.0 first,
                    raised_keeps once p.second.0 p.strength second_in g.0,
                    ap (λ r. r.strength) p_is_q,
                  )
              | inr second ↦ omega (arith, ap (λ ms. get_or ms g.0 0) both, raised_here once p.second.0 p.strength second_in g.0 second, ap (λ r. r.strength) p_is_q)
            ]
        | inr apart ↦
            omega (
              arith,
              ap (λ ms. get_or ms g.0 0) both,
              raised_keeps mosts p.first.0 p.strength first_in g.0,
              raised_keeps once p.second.0 p.strength second_in g.0,
              at.pairs g known k q (omega (arith, below, apart)) there has,
            )
      ];
    }

pub returns : goal.returns
returns c =
    let at = c.loop-pair.invariant in
    let sys = c.args.sys.now in
    let pairs = c.pairs-pair-items.result.now in
    record {
      count = at.count;
      bound = at.bound;
      each = λ g h known.
          between_most sys h g (slice_index c.loop-pair.mosts.items g.0) (at.own g known)
          (λ k p there has.
          let There : List GluePair → Type 0 = λ ps. slice_get ps k ≡ Some p in
          let read = subst There (sym c.pairs-pair-items.ensures.pairs) there in
          at.pairs g known k p (omega (arith, slice_get_within pairs k p read, c.loop-pair-test.false)) read has);
    }
