use Rattle.std.proofs.Common.{◌≤◌, length, arith, ap}
use Rattle.assembly.proofs.Packing.{places_in-append}
use Rattle.assembly.proofs.packed_places.PackedPlaces.append.Goals as goal

pub returns-clause-ok : goal.returns-clause-ok
returns-clause-ok c =
    let others = c.others.inside in
    let none : length others.far.items ≤ 0 = omega (arith, c.if-as_slice-gt0.false, ap length c.as_slice.ensures.value) in
    rw (c.in_ok-extend_from_slice.ensures.items, c.as_slice-2.ensures.value, ← c.self.view_is, ← c.others.view_is)
    (places_in-append c.self.inside.far.items others.far.items c.self.inside.packed.items others.packed.items none c.others.invariant)
