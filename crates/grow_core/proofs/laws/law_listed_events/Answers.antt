use Rattle.atam.proofs.Placements.{tile_at-Contains}
use Rattle.grow_core.specs.Core.{places}
use Rattle.grow_core.specs.Steps.{place}
use Rattle.grow_core.proofs.Kept.{seen-invariant, won-invariant}
use Rattle.grow_core.proofs.Stepped.{supported_type}
use Rattle.grow_core.proofs.ListedEvents.{empty_look_event, look_event, lost_event, won_event, split_event, join_event}
use Rattle.grow_core.proofs.laws.law_listed_events.Goals as goal

pub returns-clause-empty_look : goal.returns-clause-empty_look
returns-clause-empty_look c sys tiles scouts a v m holds here inside empty = empty_look_event sys tiles scouts holds a v m here inside empty

pub returns-clause-look : goal.returns-clause-look
returns-clause-look c sys tiles scouts a v w m t holds here inside found is =
    look_event sys tiles scouts holds a v w m t here inside found is (seen-invariant sys tiles scouts a v w (place m t) holds here (tile_at-Contains (places tiles) m t found) is)

pub returns-clause-won_claim : goal.returns-clause-won_claim
returns-clause-won_claim c sys tiles scouts a v w m t valid holds here inside supported empty is =
    won_event sys tiles scouts holds a v w m t here inside supported empty is
    (won-invariant sys tiles scouts a v w (place m t) holds here (supported_type sys v.seen m t valid.some_tau supported) inside supported empty is)

pub returns-clause-lost_claim : goal.returns-clause-lost_claim
returns-clause-lost_claim c sys tiles scouts a v w m t u holds here inside supported found is =
    lost_event sys tiles scouts holds a v w m t u here inside supported found is (seen-invariant sys tiles scouts a v w (place m u) holds here (tile_at-Contains (places tiles) m u found) is)

pub returns-clause-split : goal.returns-clause-split
returns-clause-split c sys tiles scouts a v w x holds here two rest new = split_event sys tiles scouts a v w x holds here two rest new

pub returns-clause-join : goal.returns-clause-join
returns-clause-join c sys tiles scouts a b v w x holds at_a at_b differ is = join_event sys tiles scouts a b v w x holds at_a at_b differ is
