use Rattle.std.proofs.Common.{refl}
use Rattle.site_table.proofs.Moves.{opens, look_of, claim_at, split_of, join_of, same_state}
use Rattle.site_table.proofs.laws.law_steps.Goals as goal

pub returns-clause-start : goal.returns-clause-start
returns-clause-start c sys words valid spells = opens sys words valid spells

pub returns-clause-claim : goal.returns-clause-claim
returns-clause-claim c sys s holds id i v t seat near supported =
    let out = claim_at sys s holds id i _ v t seat near supported refl in
    let is = out.1 in
    (out.0, record { seat = record { held = refl; sys = is.sys_is; possible = is.is_possible }; unseen = is.unseen; won = is.won; lost = is.lost }, is.comes)

pub returns-clause-look : goal.returns-clause-look
returns-clause-look c sys s holds id i v seat near =
    let out = look_of sys s holds id i v seat near in
    let is = out.1 in
    (out.0, record { seat = record { held = refl; sys = is.sys_is; possible = is.is_possible }; same = is.same; unseen = is.unseen; some_tile = is.some_tile }, is.comes)

pub returns-clause-split : goal.returns-clause-split
returns-clause-split c sys s holds id v seat two = split_of sys s holds id v seat two

pub returns-clause-join : goal.returns-clause-join
returns-clause-join c sys s holds id other v w seat_v seat_w differ = join_of sys s holds id other v w seat_v seat_w differ

pub returns-clause-second_load : goal.returns-clause-second_load
returns-clause-second_load c s id i v seat = same_state s id i v seat.here
