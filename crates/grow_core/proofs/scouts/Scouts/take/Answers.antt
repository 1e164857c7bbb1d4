use Rattle.std.proofs.Common.{◌≡◌, ◌<◌, length, set, None, ◌∙◌, ap, arith}
use Rattle.std.specs.Prelude.{option_map}
use Rattle.std.proofs.lemmas.List.{map-set}
use Rattle.grow_core.specs.Inner.Entries.{BoxedScouts}
use Rattle.grow_core.proofs.Entries.{scouts_of, entry, none_from, some_from}
use Rattle.grow_core.proofs.scouts.Scouts.take.Goals as goal

pub returns-clause-scouts : goal.returns-clause-scouts
returns-clause-scouts c =
    let view : scouts_of c.self.inside.entries.items ≡ c.args.self.now.scouts = ap (λ (s : BoxedScouts). s.scouts) c.self.view_is in
    rw c.take.ensures.after (map-set (option_map (λ b. b.scout)) c.self.inside.entries.items c.args.name None ∙ ap (λ l. set l c.args.name None) view)

pub returns-clause-none : goal.returns-clause-none
returns-clause-none c =
    let view : scouts_of c.self.inside.entries.items ≡ c.args.self.now.scouts = ap (λ (s : BoxedScouts). s.scouts) c.self.view_is in
    let within : c.args.name < length c.self.inside.entries.items = omega arith in
    none_from _ c.take.result (entry c.self.inside.entries.items c.args.self.now.scouts c.args.name c.take.result c.index_mut.result.now view within (c.take.ensures.value ∙ c.index_mut.ensures.value))

pub returns-clause-some : goal.returns-clause-some
returns-clause-some c =
    let view : scouts_of c.self.inside.entries.items ≡ c.args.self.now.scouts = ap (λ (s : BoxedScouts). s.scouts) c.self.view_is in
    let within : c.args.name < length c.self.inside.entries.items = omega arith in
    some_from _ c.take.result (entry c.self.inside.entries.items c.args.self.now.scouts c.args.name c.take.result c.index_mut.result.now view within (c.take.ensures.value ∙ c.index_mut.ensures.value))
