use Rattle.std.proofs.Common.{◌∙◌, ap}
use Rattle.atam.specs.declared.event.Event.TheVariants.{Split}
use Rattle.grow_core.specs.Core.{least}
use Rattle.grow_core.specs.Inner.Entries.{BoxedScout}
use Rattle.grow_core.proofs.Named.{length_set}
use Rattle.grow_core.proofs.Numbers.{least-of_greatest}
use Rattle.grow_core.proofs.Entries.{name_within, err_is}
use Rattle.grow_core.proofs.Dividing.{nobody_there, undivided, divided_step}
use Rattle.grow_core.proofs.scouts.Scouts.split.Goals as goal

pub returns-in_default-clause-step : goal.returns-in_default-clause-step
returns-in_default-clause-step c sys tiles = nobody_there sys tiles c.args.self.now.scouts c.take.new.self.scouts (Split c.args.name) c.in_default.ensures.none c.take.ensures.scouts

pub put-requires-clause-name : goal.put-requires-clause-name
put-requires-clause-name c =
    let within = name_within c.args.self.now.scouts c.args.name c.in-Some.scout.scout c.in-Some.ensures.some in
    rw (c.take.ensures.scouts, length_set) within

pub returns-in_err-given-clause-step : goal.returns-in_err-given-clause-step
returns-in_err-given-clause-step c sys tiles =
    rw (err_is c.from_residual.result c.in_err-given.field-0.0 c.from_residual.ensures.1)
    (undivided sys tiles c.args.self.now.scouts c.take.new.self.scouts c.put.new.self.scouts c.args.name c.in-Some.scout.scout c.split-answer.new.self.scout
    c.in_err-given.field-0.0 c.in-Some.ensures.some c.take.ensures.scouts c.put.ensures.scouts (ap (λ (b : BoxedScout). b.scout) c.in_err-given.ensures.unchanged) c.in_err-given.ensures.stop)

pub returns-clause-step : goal.returns-clause-step
returns-clause-step c sys tiles =
    let v = c.in-Some.scout.scout in
    let given = c.in_ok-given.ensures.given in
    let number = c.name-given_name.ensures ∙ (ap least given.owned ∙ least-of_greatest v.owned (c.requires.some_number v c.in-Some.ensures.some) (c.requires.numbers v c.in-Some.ensures.some)) in
    divided_step sys tiles c.args.self.now.scouts c.take.new.self.scouts c.put.new.self.scouts c.put-2.new.self.scouts c.args.name c.name-given_name.result v
    c.split-answer.new.self.scout c.in_ok-given.given.scout c.in-Some.ensures.some c.take.ensures.scouts c.put.ensures.scouts c.put-2.ensures.scouts number
    c.in_ok-given.ensures.two c.in_ok-given.ensures.kept given
