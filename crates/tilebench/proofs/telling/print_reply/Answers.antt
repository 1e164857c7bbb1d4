use Rattle.std.proofs.Common.{◌∙◌, ap, inl, inr, refl}
use Rattle.tilebench.specs.Statuses.{answer_status}
use Rattle.tilebench.proofs.telling.print_reply.Goals as goal

pub returns-in-Ok : goal.returns-in-Ok
returns-in-Ok g c =
    inl (record { is = c.answer_status-status.ensures ∙ ap answer_status c.is_yes.ensures; whole = c.in-Ok.ensures.whole; later = c.in-Ok.ensures.cause.later }, refl)

pub returns-in-Err : goal.returns-in-Err
returns-in-Err g c =
    inr (record { is = refl; front = c.in-Err.ensures.front; fault = c.in-Err.ensures.cause.failed; later = c.in-Err.ensures.cause.later }, refl)
