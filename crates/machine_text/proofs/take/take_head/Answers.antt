use Rattle.std.proofs.Common.{ap, refl, sym, ◌∙◌}
use Rattle.tile_io.specs.Checks.{count_in, field}
use Rattle.machine_text.proofs.take.take_head.Goals as goal

pub returns : goal.returns
returns c =
    let last = c.saturating_sub-last in
    let at = ap (λ n. count_in 0 n (field c.args.words.now 1)) (sym last.ensures) in
    let read = at ∙ ap (count_in 0 last.result) (sym c.word.ensures) ∙ sym c.in_ok-parts.ensures.value in
    rw read refl
