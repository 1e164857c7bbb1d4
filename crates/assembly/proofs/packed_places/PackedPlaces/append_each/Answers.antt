use Rattle.std.proofs.Common.{◌∙◌, ◌++◌, [], ◌∷◌, List, ap, sym, take}
use Rattle.std.proofs.lemmas.List.{append_assoc}
use Rattle.atam.specs.declared.place.Place.{Place}
use Rattle.assembly.proofs.Putting.{take_more}
use Rattle.assembly.proofs.packed_places.PackedPlaces.append_each.Goals as goal

pub loop-index-preserved : goal.loop-index-preserved
loop-index-preserved c =
    let own = c.args.self.now.places in
    let others = c.args.others.now.places in
    let k = c.loop-index.index in
    let p = c.get.result in
    c.in_ok-push.ensures.ok ∙ ap (λ (s : List Place). s ++ p ∷ []) c.loop-index.invariant ∙ append_assoc own (take k others) (p ∷ [])
    ∙ ap (λ (s : List Place). own ++ s) (sym (take_more others k p c.get.ensures))
