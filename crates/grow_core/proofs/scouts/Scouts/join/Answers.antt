use Rattle.std.proofs.Common.{sym, ◌∙◌, ap, inl, inr, arith, None}
use Rattle.atam.specs.declared.event.Event.TheVariants.{Join}
use Rattle.grow_core.specs.Core.{scout_at}
use Rattle.grow_core.proofs.Named.{length_set, named_other}
use Rattle.grow_core.proofs.Entries.{name_within, where_none, where_some}
use Rattle.grow_core.proofs.Dividing.{nobody_there, refused_join, joined_step}
use Rattle.grow_core.proofs.scouts.Scouts.join.Goals.{then-into-from-via-then-into-from, then-into-from-via-else-into-from+then-is_none}
use Rattle.grow_core.proofs.scouts.Scouts.join.Goals as goal

pub returns-then-into-from-clause-step : goal.returns-then-into-from-clause-step
returns-then-into-from-clause-step c sys tiles = refused_join sys tiles c.args.self.now.scouts c.args.self.now.scouts c.args.into c.args.from (elim c.then-into-from.branch [
  | then-into-from-via-then-into-from w ↦ inl w.if-into-from.true
  | then-into-from-via-else-into-from+then-is_none w ↦ inr (where_none _ w.get.result w.is_none.result w.is_none.ensures w.if-is_none.true w.get.ensures.none)
])

pub returns-in_default-clause-step : goal.returns-in_default-clause-step
returns-in_default-clause-step c sys tiles = nobody_there sys tiles c.args.self.now.scouts c.take.new.self.scouts (Join c.args.into c.args.from) c.in_default.ensures.none c.take.ensures.scouts

pub unite-requires-clause-name : goal.unite-requires-clause-name
unite-requires-clause-name c =
    let within = name_within c.args.self.now.scouts c.args.into c.in-Some.first.scout c.in-Some.ensures.some in
    rw (c.take.ensures.scouts, length_set, c.min-name.ensures) (omega (arith, within))

pub unite-requires-clause-agree : goal.unite-requires-clause-agree
unite-requires-clause-agree c w m t u at_from seen_first seen_other =
    let differ = c.if-into-from.false in
    let from_old = sym (ap (λ l. scout_at l c.args.from) c.take.ensures.scouts ∙ named_other c.args.self.now.scouts c.args.into c.args.from None (λ e. differ (sym e))) ∙ at_from in
    c.requires.agree c.in-Some.first.scout w m t u c.in-Some.ensures.some from_old seen_first seen_other

pub unite-requires-clause-room : goal.unite-requires-clause-room
unite-requires-clause-room c w at_from =
    let differ = c.if-into-from.false in
    let from_old = sym (ap (λ l. scout_at l c.args.from) c.take.ensures.scouts ∙ named_other c.args.self.now.scouts c.args.into c.args.from None (λ e. differ (sym e))) ∙ at_from in
    rw c.take.ensures.area (c.requires.room c.in-Some.first.scout w c.in-Some.ensures.some from_old differ)

pub returns-clause-step : goal.returns-clause-step
returns-clause-step c sys tiles =
    let differ = c.if-into-from.false in
    let other = where_some _ c.get.result c.is_none.result c.is_none.ensures c.if-is_none.false c.get.ensures.some in
    let at_from = ap (λ l. scout_at l c.args.from) c.take.ensures.scouts ∙ (named_other c.args.self.now.scouts c.args.into c.args.from None (λ e. differ (sym e)) ∙ other.1) in
    joined_step sys tiles c.args.self.now.scouts c.take.new.self.scouts c.unite.new.self.scouts c.args.into c.args.from c.min-name.result c.in-Some.first.scout other.0.now.scout
    c.in-Some.ensures.some other.1 differ c.take.ensures.scouts c.min-name.ensures (c.unite.ensures.joins other.0.now.scout at_from)
