use Rattle.std.proofs.Common.{◌∙◌, ◌+◌, List, length, ap}
use Rattle.atam.specs.declared.place.Place.{Place}
use Rattle.assembly.specs.declared.packed_place.TheConstants.{FAR}
use Rattle.assembly.proofs.Packing.{places_in-push_far}
use Rattle.assembly.proofs.packed_places.PackedPlaces.push_far.Goals as goal

pub returns-clause-ok : goal.returns-clause-ok
returns-clause-ok c =
    rw (c.push_reserved.ensures.items, c.in_ok-push.ensures.items, c.in_ok-reserve.ensures.items, ← c.self.view_is)
    (places_in-push_far c.self.inside.far.items c.args.place c.self.inside.packed.items c.far.result c.self.invariant (c.far.ensures ∙ ap (λ (far : List Place). FAR + length far) c.as_slice-index.ensures.value))
