use Rattle.grow_core.proofs.Kept.{left_out, seen-invariant, won-invariant}
use Rattle.grow_core.proofs.Parted.{divided-invariant, joined-invariant}
use Rattle.grow_core.proofs.Listed.{one_scout, divided-last}
use Rattle.grow_core.proofs.NamedState.{named_state}
use Rattle.grow_core.proofs.Start.{grounded, first-knows}
use Rattle.grow_core.proofs.Stepped.{supported_type, quiet, no_win}
use Rattle.grow_core.proofs.laws.law_listed.Goals as goal

pub returns-clause-first : goal.returns-clause-first
returns-clause-first c sys v valid is = one_scout sys _ v (grounded sys valid) (first-knows sys valid v is)

pub returns-clause-sees : goal.returns-clause-sees
returns-clause-sees c sys tiles scouts a v w p holds here stands is = seen-invariant sys tiles scouts a v w p holds here stands is

pub returns-clause-wins : goal.returns-clause-wins
returns-clause-wins c sys tiles scouts a v w p valid holds here inside supported empty is =
    won-invariant sys tiles scouts a v w p holds here (supported_type sys v.seen p.site p.tile valid.some_tau supported) inside supported empty is

pub returns-clause-split : goal.returns-clause-split
returns-clause-split c sys tiles scouts a k v w x holds here two rest new = divided-invariant sys tiles scouts a v w x holds here two k rest new

pub returns-clause-split_at_end : goal.returns-clause-split_at_end
returns-clause-split_at_end c sys tiles scouts a v w x holds here two rest new = divided-last sys tiles scouts a v w x holds here two rest new

pub returns-clause-join : goal.returns-clause-join
returns-clause-join c sys tiles scouts a b k v w x holds at_a at_b differ is = joined-invariant sys tiles scouts a b v w x holds at_a at_b differ k is

pub returns-clause-leave : goal.returns-clause-leave
returns-clause-leave c = left_out

pub returns-clause-closed : goal.returns-clause-closed
returns-clause-closed c sys tiles scouts a v holds here closed = quiet sys tiles v holds.history (holds.each a v here) closed

pub returns-clause-last : goal.returns-clause-last
returns-clause-last c sys tiles scouts a b v w m t valid holds at_a closed at_b inside supported =
    no_win sys tiles v holds.history (holds.each a v at_a) closed w m t (holds.each b w at_b) inside (supported_type sys w.seen m t valid.some_tau supported) supported

pub returns-clause-state : goal.returns-clause-state
returns-clause-state c sys tiles scouts holds = (named_state sys tiles scouts holds).holds

pub returns-clause-scouts : goal.returns-clause-scouts
returns-clause-scouts c sys tiles scouts v holds =
    let named = named_state sys tiles scouts holds in
    ((λ here. named.from _ v here), (λ found. named.there found.0 v found.1))
