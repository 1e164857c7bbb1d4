use Rattle.std.proofs.Common.{◌≡◌, set, Some, ◌∙◌, ap}
use Rattle.std.specs.Prelude.{option_map}
use Rattle.std.proofs.lemmas.List.{map-set}
use Rattle.grow_core.specs.Inner.Entries.{BoxedScouts}
use Rattle.grow_core.proofs.Entries.{scouts_of}
use Rattle.grow_core.proofs.scouts.Scouts.put.Goals as goal

pub returns-clause-scouts : goal.returns-clause-scouts
returns-clause-scouts c =
    let view : scouts_of c.self.inside.entries.items ≡ c.args.self.now.scouts = ap (λ (s : BoxedScouts). s.scouts) c.self.view_is in
    map-set (option_map (λ b. b.scout)) c.self.inside.entries.items c.args.name (Some c.args.scout) ∙ ap (λ l. set l c.args.name (Some c.args.scout.scout)) view
