use Rattle.std.proofs.Common.{sym, ap, refl, ◌∙◌, ◌∷◌, []}
use Rattle.std.specs.Prelude.{bytes_eq}
use Rattle.quadrant_compile.proofs.take.check_version.Goals as goal

pub returns : goal.returns
returns c = λ q.
    let one = ap (λ q. bytes_eq q (49 ∷ [])) (sym c.word.ensures) ∙ sym c.is_word.ensures ∙ c.if-not-is_word.false in
    rw one refl
