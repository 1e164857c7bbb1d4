use Rattle.std.proofs.Common.{take, ap, ◌∙◌}
use Rattle.std.proofs.lemmas.List.{take-take}
use Rattle.tile_system.proofs.short_name.ShortName.front.Goals as goal

pub returns-in-Some-clause-front : goal.returns-in-Some-clause-front
returns-in-Some-clause-front c =
    let length = c.from-length.result in
    let bytes = c.self.inside.bytes in
    ap (take length) c.in-Some.ensures.cases.same ∙ take-take length 16 bytes c.if-length-le16.true ∙ ap (λ n. take n bytes) c.from-length.ensures ∙ c.self.view_is
