-- An event has one reply, but that memory may be wanting.
use Rattle.std.proofs.Common.{◌≡◌, ◌≢◌, ◌<◌, Some, Result, Ok, Err, refl, sym, ◌∙◌, ap, subst, arith}
use Rattle.std.proofs.lemmas.Option.{none-some, same_Some}
use Rattle.atam.specs.TileSystem.{TileSystem}
use Rattle.atam.specs.declared.event.Event.{Event}
use Rattle.atam.specs.declared.event.Seen.{Seen}
use Rattle.atam.specs.declared.event.Seen.TheVariants.{Saw, Held, Divided}
use Rattle.atam.specs.declared.event.CoreStop.{CoreStop}
use Rattle.atam.specs.declared.event.CoreStop.TheVariants.{NotSupported, NoMemory}
use Rattle.atam.specs.declared.site.Site.{Site}
use Rattle.atam.specs.declared.place.TypeId.{TypeId}
use Rattle.atam.specs.Assembly.{pull}
use Rattle.grow_core.specs.Core.{ScoutState, CoreState, greatest, OwnsTwoOrMore}
use Rattle.grow_core.specs.Steps.{CoreStep, Supports, no_such_scout, no_other_scout, same_scout, looks_outside, claims_outside, unsupported, one_number, no_memory, saw_none, saw_tile, won, held, divided, joined}

too_weak : (sys : TileSystem) (v w : ScoutState) (site : Site) (tile : TypeId) → v ≡ w → pull sys v.seen site tile < sys.tau → Supports sys w site tile → ⊥
too_weak sys v w site tile same weak enough =
    let p : pull sys v.seen site tile ≡ pull sys w.seen site tile = ap (λ (z : ScoutState). pull sys z.seen site tile) same in
    omega (arith, p, weak, enough)

pub one_reply : (sys : TileSystem) (s t u : CoreState) (event : Event) (one two : Result Seen CoreStop) → CoreStep sys s event one t → CoreStep sys s event two u
    → one ≢ Err NoMemory → two ≢ Err NoMemory → one ≡ two
one_reply sys s t u event one two (no_such_scout e1 nobody1) (no_such_scout e2 nobody2) memory1 memory2 =
    refl
one_reply sys s t u event one two (no_such_scout e1 nobody1) (looks_outside who2 site2 v2 here2 outside2) memory1 memory2 =
    absurd (none-some v2 (sym nobody1 ∙ here2))
one_reply sys s t u event one two (no_such_scout e1 nobody1) (saw_none who2 site2 v2 here2 inside2 empty2) memory1 memory2 =
    absurd (none-some v2 (sym nobody1 ∙ here2))
one_reply sys s t u event one two (no_such_scout e1 nobody1) (saw_tile who2 site2 there2 v2 w2 here2 inside2 found2 is2) memory1 memory2 =
    absurd (none-some v2 (sym nobody1 ∙ here2))
one_reply sys s t u event one two (looks_outside who1 site1 v1 here1 outside1) (no_such_scout e2 nobody2) memory1 memory2 =
    absurd (none-some v1 (sym nobody2 ∙ here1))
one_reply sys s t u event one two (looks_outside who1 site1 v1 here1 outside1) (looks_outside who2 site2 v2 here2 outside2) memory1 memory2 =
    refl
one_reply sys s t u event one two (looks_outside who1 site1 v1 here1 outside1) (saw_none who2 site2 v2 here2 inside2 empty2) memory1 memory2 =
    absurd (outside1 inside2)
one_reply sys s t u event one two (looks_outside who1 site1 v1 here1 outside1) (saw_tile who2 site2 there2 v2 w2 here2 inside2 found2 is2) memory1 memory2 =
    absurd (outside1 inside2)
one_reply sys s t u event one two (saw_none who1 site1 v1 here1 inside1 empty1) (no_such_scout e2 nobody2) memory1 memory2 =
    absurd (none-some v1 (sym nobody2 ∙ here1))
one_reply sys s t u event one two (saw_none who1 site1 v1 here1 inside1 empty1) (looks_outside who2 site2 v2 here2 outside2) memory1 memory2 =
    absurd (outside2 inside1)
one_reply sys s t u event one two (saw_none who1 site1 v1 here1 inside1 empty1) (saw_none who2 site2 v2 here2 inside2 empty2) memory1 memory2 =
    refl
one_reply sys s t u event one two (saw_none who1 site1 v1 here1 inside1 empty1) (saw_tile who2 site2 there2 v2 w2 here2 inside2 found2 is2) memory1 memory2 =
    absurd (none-some there2 (sym empty1 ∙ found2))
one_reply sys s t u event one two (saw_tile who1 site1 there1 v1 w1 here1 inside1 found1 is1) (no_such_scout e2 nobody2) memory1 memory2 =
    absurd (none-some v1 (sym nobody2 ∙ here1))
one_reply sys s t u event one two (saw_tile who1 site1 there1 v1 w1 here1 inside1 found1 is1) (looks_outside who2 site2 v2 here2 outside2) memory1 memory2 =
    absurd (outside2 inside1)
one_reply sys s t u event one two (saw_tile who1 site1 there1 v1 w1 here1 inside1 found1 is1) (saw_none who2 site2 v2 here2 inside2 empty2) memory1 memory2 =
    absurd (none-some there1 (sym empty2 ∙ found1))
one_reply sys s t u event one two (saw_tile who1 site1 there1 v1 w1 here1 inside1 found1 is1) (saw_tile who2 site2 there2 v2 w2 here2 inside2 found2 is2) memory1 memory2 =
    ap (λ t. Ok (Saw (Some t))) (same_Some there1 there2 (sym found1 ∙ found2))
one_reply sys s t u event one two (no_such_scout e1 nobody1) (claims_outside who2 site2 tile2 v2 here2 outside2) memory1 memory2 =
    absurd (none-some v2 (sym nobody1 ∙ here2))
one_reply sys s t u event one two (no_such_scout e1 nobody1) (unsupported who2 site2 tile2 v2 here2 inside2 weak2) memory1 memory2 =
    absurd (none-some v2 (sym nobody1 ∙ here2))
one_reply sys s t u event one two (no_such_scout e1 nobody1) (won who2 site2 tile2 v2 w2 here2 inside2 supported2 empty2 is2) memory1 memory2 =
    absurd (none-some v2 (sym nobody1 ∙ here2))
one_reply sys s t u event one two (no_such_scout e1 nobody1) (held who2 site2 tile2 there2 v2 w2 here2 inside2 supported2 found2 is2) memory1 memory2 =
    absurd (none-some v2 (sym nobody1 ∙ here2))
one_reply sys s t u event one two (claims_outside who1 site1 tile1 v1 here1 outside1) (no_such_scout e2 nobody2) memory1 memory2 =
    absurd (none-some v1 (sym nobody2 ∙ here1))
one_reply sys s t u event one two (claims_outside who1 site1 tile1 v1 here1 outside1) (claims_outside who2 site2 tile2 v2 here2 outside2) memory1 memory2 =
    refl
one_reply sys s t u event one two (claims_outside who1 site1 tile1 v1 here1 outside1) (unsupported who2 site2 tile2 v2 here2 inside2 weak2) memory1 memory2 =
    absurd (outside1 inside2)
one_reply sys s t u event one two (claims_outside who1 site1 tile1 v1 here1 outside1) (won who2 site2 tile2 v2 w2 here2 inside2 supported2 empty2 is2) memory1 memory2 =
    absurd (outside1 inside2)
one_reply sys s t u event one two (claims_outside who1 site1 tile1 v1 here1 outside1) (held who2 site2 tile2 there2 v2 w2 here2 inside2 supported2 found2 is2) memory1 memory2 =
    absurd (outside1 inside2)
one_reply sys s t u event one two (unsupported who1 site1 tile1 v1 here1 inside1 weak1) (no_such_scout e2 nobody2) memory1 memory2 =
    absurd (none-some v1 (sym nobody2 ∙ here1))
one_reply sys s t u event one two (unsupported who1 site1 tile1 v1 here1 inside1 weak1) (claims_outside who2 site2 tile2 v2 here2 outside2) memory1 memory2 =
    absurd (outside2 inside1)
one_reply sys s t u event one two (unsupported who1 site1 tile1 v1 here1 inside1 weak1) (unsupported who2 site2 tile2 v2 here2 inside2 weak2) memory1 memory2 =
    ap (λ (z : ScoutState). Err (NotSupported (pull sys z.seen site1 tile1))) (same_Some v1 v2 (sym here1 ∙ here2))
one_reply sys s t u event one two (unsupported who1 site1 tile1 v1 here1 inside1 weak1) (won who2 site2 tile2 v2 w2 here2 inside2 supported2 empty2 is2) memory1 memory2 =
    absurd (too_weak sys v1 v2 site1 tile1 (same_Some v1 v2 (sym here1 ∙ here2)) weak1 supported2)
one_reply sys s t u event one two (unsupported who1 site1 tile1 v1 here1 inside1 weak1) (held who2 site2 tile2 there2 v2 w2 here2 inside2 supported2 found2 is2) memory1 memory2 =
    absurd (too_weak sys v1 v2 site1 tile1 (same_Some v1 v2 (sym here1 ∙ here2)) weak1 supported2)
one_reply sys s t u event one two (won who1 site1 tile1 v1 w1 here1 inside1 supported1 empty1 is1) (no_such_scout e2 nobody2) memory1 memory2 =
    absurd (none-some v1 (sym nobody2 ∙ here1))
one_reply sys s t u event one two (won who1 site1 tile1 v1 w1 here1 inside1 supported1 empty1 is1) (claims_outside who2 site2 tile2 v2 here2 outside2) memory1 memory2 =
    absurd (outside2 inside1)
one_reply sys s t u event one two (won who1 site1 tile1 v1 w1 here1 inside1 supported1 empty1 is1) (unsupported who2 site2 tile2 v2 here2 inside2 weak2) memory1 memory2 =
    absurd (too_weak sys v2 v1 site1 tile1 (sym (same_Some v1 v2 (sym here1 ∙ here2))) weak2 supported1)
one_reply sys s t u event one two (won who1 site1 tile1 v1 w1 here1 inside1 supported1 empty1 is1) (won who2 site2 tile2 v2 w2 here2 inside2 supported2 empty2 is2) memory1 memory2 =
    refl
one_reply sys s t u event one two (won who1 site1 tile1 v1 w1 here1 inside1 supported1 empty1 is1) (held who2 site2 tile2 there2 v2 w2 here2 inside2 supported2 found2 is2) memory1 memory2 =
    absurd (none-some there2 (sym empty1 ∙ found2))
one_reply sys s t u event one two (held who1 site1 tile1 there1 v1 w1 here1 inside1 supported1 found1 is1) (no_such_scout e2 nobody2) memory1 memory2 =
    absurd (none-some v1 (sym nobody2 ∙ here1))
one_reply sys s t u event one two (held who1 site1 tile1 there1 v1 w1 here1 inside1 supported1 found1 is1) (claims_outside who2 site2 tile2 v2 here2 outside2) memory1 memory2 =
    absurd (outside2 inside1)
one_reply sys s t u event one two (held who1 site1 tile1 there1 v1 w1 here1 inside1 supported1 found1 is1) (unsupported who2 site2 tile2 v2 here2 inside2 weak2) memory1 memory2 =
    absurd (too_weak sys v2 v1 site1 tile1 (sym (same_Some v1 v2 (sym here1 ∙ here2))) weak2 supported1)
one_reply sys s t u event one two (held who1 site1 tile1 there1 v1 w1 here1 inside1 supported1 found1 is1) (won who2 site2 tile2 v2 w2 here2 inside2 supported2 empty2 is2) memory1 memory2 =
    absurd (none-some there1 (sym empty2 ∙ found1))
one_reply sys s t u event one two (held who1 site1 tile1 there1 v1 w1 here1 inside1 supported1 found1 is1) (held who2 site2 tile2 there2 v2 w2 here2 inside2 supported2 found2 is2) memory1 memory2 =
    ap (λ t. Ok (Held t)) (same_Some there1 there2 (sym found1 ∙ found2))
one_reply sys s t u event one two (no_such_scout e1 nobody1) (one_number who2 v2 here2 one2) memory1 memory2 =
    absurd (none-some v2 (sym nobody1 ∙ here2))
one_reply sys s t u event one two (no_such_scout e1 nobody1) (no_memory who2 v2 here2 two2) memory1 memory2 =
    absurd (memory2 refl)
one_reply sys s t u event one two (no_such_scout e1 nobody1) (divided who2 v2 w2 x2 here2 two2 rest2 new2) memory1 memory2 =
    absurd (none-some v2 (sym nobody1 ∙ here2))
one_reply sys s t u event one two (one_number who1 v1 here1 one1) (no_such_scout e2 nobody2) memory1 memory2 =
    absurd (none-some v1 (sym nobody2 ∙ here1))
one_reply sys s t u event one two (one_number who1 v1 here1 one1) (one_number who2 v2 here2 one2) memory1 memory2 =
    refl
one_reply sys s t u event one two (one_number who1 v1 here1 one1) (no_memory who2 v2 here2 two2) memory1 memory2 =
    absurd (memory2 refl)
one_reply sys s t u event one two (one_number who1 v1 here1 one1) (divided who2 v2 w2 x2 here2 two2 rest2 new2) memory1 memory2 =
    absurd (one1 (subst (λ (z : ScoutState). OwnsTwoOrMore z.owned) (sym (same_Some v1 v2 (sym here1 ∙ here2))) two2))
one_reply sys s t u event one two (no_memory who1 v1 here1 two1) (no_such_scout e2 nobody2) memory1 memory2 =
    absurd (memory1 refl)
one_reply sys s t u event one two (no_memory who1 v1 here1 two1) (one_number who2 v2 here2 one2) memory1 memory2 =
    absurd (memory1 refl)
one_reply sys s t u event one two (no_memory who1 v1 here1 two1) (no_memory who2 v2 here2 two2) memory1 memory2 =
    absurd (memory1 refl)
one_reply sys s t u event one two (no_memory who1 v1 here1 two1) (divided who2 v2 w2 x2 here2 two2 rest2 new2) memory1 memory2 =
    absurd (memory1 refl)
one_reply sys s t u event one two (divided who1 v1 w1 x1 here1 two1 rest1 new1) (no_such_scout e2 nobody2) memory1 memory2 =
    absurd (none-some v1 (sym nobody2 ∙ here1))
one_reply sys s t u event one two (divided who1 v1 w1 x1 here1 two1 rest1 new1) (one_number who2 v2 here2 one2) memory1 memory2 =
    absurd (one2 (subst (λ (z : ScoutState). OwnsTwoOrMore z.owned) (same_Some v1 v2 (sym here1 ∙ here2)) two1))
one_reply sys s t u event one two (divided who1 v1 w1 x1 here1 two1 rest1 new1) (no_memory who2 v2 here2 two2) memory1 memory2 =
    absurd (memory2 refl)
one_reply sys s t u event one two (divided who1 v1 w1 x1 here1 two1 rest1 new1) (divided who2 v2 w2 x2 here2 two2 rest2 new2) memory1 memory2 =
    ap (λ (z : ScoutState). Ok (Divided (greatest z.owned))) (same_Some v1 v2 (sym here1 ∙ here2))
one_reply sys s t u event one two (no_such_scout e1 nobody1) (no_other_scout into2 from2 nobody2) memory1 memory2 =
    refl
one_reply sys s t u event one two (no_such_scout e1 nobody1) (same_scout into2 from2 same2) memory1 memory2 =
    refl
one_reply sys s t u event one two (no_such_scout e1 nobody1) (joined into2 from2 v2 w2 x2 at_into2 at_from2 differ2 is2) memory1 memory2 =
    absurd (none-some v2 (sym nobody1 ∙ at_into2))
one_reply sys s t u event one two (no_other_scout into1 from1 nobody1) (no_such_scout e2 nobody2) memory1 memory2 =
    refl
one_reply sys s t u event one two (no_other_scout into1 from1 nobody1) (no_other_scout into2 from2 nobody2) memory1 memory2 =
    refl
one_reply sys s t u event one two (no_other_scout into1 from1 nobody1) (same_scout into2 from2 same2) memory1 memory2 =
    refl
one_reply sys s t u event one two (no_other_scout into1 from1 nobody1) (joined into2 from2 v2 w2 x2 at_into2 at_from2 differ2 is2) memory1 memory2 =
    absurd (none-some w2 (sym nobody1 ∙ at_from2))
one_reply sys s t u event one two (same_scout into1 from1 same1) (no_such_scout e2 nobody2) memory1 memory2 =
    refl
one_reply sys s t u event one two (same_scout into1 from1 same1) (no_other_scout into2 from2 nobody2) memory1 memory2 =
    refl
one_reply sys s t u event one two (same_scout into1 from1 same1) (same_scout into2 from2 same2) memory1 memory2 =
    refl
one_reply sys s t u event one two (same_scout into1 from1 same1) (joined into2 from2 v2 w2 x2 at_into2 at_from2 differ2 is2) memory1 memory2 =
    absurd (differ2 same1)
one_reply sys s t u event one two (joined into1 from1 v1 w1 x1 at_into1 at_from1 differ1 is1) (no_such_scout e2 nobody2) memory1 memory2 =
    absurd (none-some v1 (sym nobody2 ∙ at_into1))
one_reply sys s t u event one two (joined into1 from1 v1 w1 x1 at_into1 at_from1 differ1 is1) (no_other_scout into2 from2 nobody2) memory1 memory2 =
    absurd (none-some w1 (sym nobody2 ∙ at_from1))
one_reply sys s t u event one two (joined into1 from1 v1 w1 x1 at_into1 at_from1 differ1 is1) (same_scout into2 from2 same2) memory1 memory2 =
    absurd (differ1 same2)
one_reply sys s t u event one two (joined into1 from1 v1 w1 x1 at_into1 at_from1 differ1 is1) (joined into2 from2 v2 w2 x2 at_into2 at_from2 differ2 is2) memory1 memory2 =
    refl
