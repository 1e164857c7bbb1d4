use Rattle.std.proofs.Common.{◌≡◌, ◌<◌, ℕ, Option, Some, None, IfSome, IfNone, subst, arith}
use Rattle.assembly.specs.Cells.{cell_count}
use Rattle.replay_order.specs.Inner.ReadyNumbers.{IsAmong, IsLeastAmong, Loses}
use Rattle.replay_order.specs.Inner.Replays.{Waiting, TakesLeast}
use Rattle.replay_order.proofs.waiting.WaitingSites.take_least.Goals as goal

-- what is found is taken out
taken : (old new : Waiting) (found : Option ℕ) → old.ready.others.bound ≡ cell_count old.area → IfSome found (λ n. n < old.ready.others.bound) → IfSome found (IsLeastAmong old.ready) → IfSome found (Loses old.ready new.ready) →
    IfSome found (TakesLeast old new)
taken old new None bound below least loses = tt
taken old new (Some n) bound below least loses = record { within = omega (arith, below, bound); member = least.member; least = least.least; removed = loses }

pub returns-clause-least : goal.returns-clause-least
returns-clause-least c =
    let old : Waiting = record { area = c.self.inside.area; first = c.self.inside.first; end = c.self.inside.end; lacks = c.self.inside.lacks.items; ready = c.self.inside.ready } in
    let new : Waiting = record { area = old.area; first = old.first; end = old.end; lacks = old.lacks; ready = c.take_least.new.self } in
    subst (λ w. IfSome c.take_least.result (TakesLeast w new)) c.self.view_is (taken old new c.take_least.result c.self.invariant.ready_bound c.take_least.ensures.below c.take_least.ensures.least c.take_least.ensures.loses)

pub returns-clause-none : goal.returns-clause-none
returns-clause-none c =
    let None_in : Waiting → Type 0 = λ w. IfNone c.take_least.result ((i : ℕ) → ¬ IsAmong w.ready i) in
    subst None_in c.self.view_is c.take_least.ensures.none
