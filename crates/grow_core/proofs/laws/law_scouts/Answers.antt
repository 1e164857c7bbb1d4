use Rattle.std.proofs.Common.{sym, ◌∙◌}
use Rattle.std.proofs.lemmas.Option.{same_Some}
use Rattle.grow_core.proofs.Own.{own_tile, mine_tile}
use Rattle.grow_core.proofs.Kept.{extends}
use Rattle.grow_core.proofs.laws.law_scouts.Goals as goal

pub returns-clause-own : goal.returns-clause-own
returns-clause-own c sys s name v t holds here =
    let knows = holds.growth.each name v here in
    ((λ in_mine. (mine_tile sys s.tiles v knows t in_mine, knows.mine_owned t in_mine)), (λ both. own_tile sys s.tiles v knows t both.0 both.1))

pub returns-clause-agree : goal.returns-clause-agree
returns-clause-agree c sys s a b v w m t u holds at_a at_b seen_v seen_w =
    same_Some t u
    (sym (extends sys s.tiles v holds.growth.history (holds.growth.each a v at_a) m t seen_v) ∙ extends sys s.tiles w holds.growth.history (holds.growth.each b w at_b) m u seen_w)
