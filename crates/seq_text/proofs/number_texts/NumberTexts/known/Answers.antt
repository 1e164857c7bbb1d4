use Rattle.std.proofs.Common.{◌≡◌, ◌≢◌, ◌<◌, pos, get_or, Some, inl, inr, subst, arith}
use Rattle.std.specs.Prelude.{slice_get}
use Rattle.std.proofs.lemmas.Bool.{cases_eq}
use Rattle.std.proofs.lemmas.Int.{ints, to_z-of_z}
use Rattle.std.proofs.lemmas.Option.{slice_get-get_or}
use Rattle.seq_text.proofs.number_texts.NumberTexts.known.Goals as goal

pub returns-then-kept-site : goal.returns-then-kept-site
returns-then-kept-site c =
    let kept = c.self.inside.kept in
    let place = c.place_of.result in
    let text = get_or kept place c.index-self-place_of.result in
    let column : text.number ≡ c.args.site.x = grind (arith, ints, to_z-of_z, c.if-kept-site.true) in
    let row : c.args.self.now ≡ c.args.site.y = grind (arith, ints, to_z-of_z, c.if-self-site.true, c.self.view_is) in
    let at : slice_get kept place ≡ Some text = slice_get-get_or kept place c.index-self-place_of.result (omega arith) in
    let first : place ≡ 0 → 0 < text.len = λ e. c.self.invariant text (subst (λ p. slice_get kept p ≡ Some text) e at) in
    let made : 0 < text.len = elim (cases_eq text.len 0) [
      | inl none ↦
          let other : text.number ≢ pos 0 = λ e.
          let zero : place ≡ 0 = c.place_of.ensures.zero (grind (arith, ints, to_z-of_z, e, column)) in
          let some : 0 < text.len = first zero in
          omega (arith, none, some) in
          text.made other
      | inr some ↦ omega (arith, some)
    ] in
    (column, made, row)
