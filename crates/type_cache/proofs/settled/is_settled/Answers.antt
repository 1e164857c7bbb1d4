use Rattle.std.proofs.Common.{inl, inr}
use Rattle.type_cache.proofs.settled.is_settled.Goals as goal

pub returns-then-strength-gt0 : goal.returns-then-strength-gt0
returns-then-strength-gt0 c said = inl c.if-strength-gt0.true

pub returns : goal.returns
returns c said = inr (c.is_dead.ensures said)
