use Rattle.std.proofs.Common.{◌≡◌, ℕ, ◌<◌, ◌^◌, List, Option, Some, None, w32, ℤ, pos, ◌-ℤ◌, neg_ℤ, to_z, of_z, sym, subst, arith}
use Rattle.std.specs.Prelude.{IfNone}
use Rattle.std.proofs.lemmas.Int.{ints}
use Rattle.seq_text.specs.PlainCoordinates.{StartsWithCoordinate}
use Rattle.seq_text.proofs.PlainLines.{plain_number, minus_number, no_minus, no_number}
use Rattle.seq_text.proofs.plain.plain_coordinate.Goals as goal

pub returns-in_ok-size-in-Some-clause-starts : goal.returns-in_ok-size-in-Some-clause-starts
returns-in_ok-size-in-Some-clause-starts c =
    let h = c.in_ok-size-in-Some.ensures.starts in
    let small : c.in_ok-size-in-Some.size < 10 ^ 6 = c.in_ok-size-in-Some.ensures.small in
    let value : to_z w32 (of_z w32 (pos 0 -ℤ to_z w32 c.in_ok-size-in-Some.size)) ≡ neg_ℤ (pos c.in_ok-size-in-Some.size) = omega (arith, ints) in
    let Starts : List ℕ → ℤ → Type 0 = λ bytes z. StartsWithCoordinate bytes z c.in_ok-size-in-Some.rest.now in
    let opposite = minus_number c.in-Some.digits.now c.in_ok-size-in-Some.rest.now c.in_ok-size-in-Some.size h small in
    subst (Starts c.args.bytes.now) (sym value) (subst (λ bytes. Starts bytes (neg_ℤ (pos c.in_ok-size-in-Some.size))) (sym c.in-Some.ensures.rest) opposite)

pub returns-in_ok-size-in-None-clause-starts : goal.returns-in_ok-size-in-None-clause-starts
returns-in_ok-size-in-None-clause-starts c =
    let size = c.in_ok-size-in-None.size in
    let h = c.in_ok-size-in-None.ensures.starts in
    let small : c.in_ok-size-in-None.size < 10 ^ 6 = c.in_ok-size-in-None.ensures.small in
    let value : to_z w32 c.in_ok-size-in-None.size ≡ pos c.in_ok-size-in-None.size = omega (arith, ints) in
    let Starts : ℤ → Type 0 = λ z. StartsWithCoordinate c.args.bytes.now z c.in_ok-size-in-None.rest.now in
    subst Starts (sym value) (plain_number c.args.bytes.now c.in_ok-size-in-None.rest.now size h small)

-- a fact holds where there is no value
where_none : {T : Type 0} (o : Option T) (P : Type 0) → P → IfNone o P
where_none None P p = p
where_none (Some x) P p = tt

pub returns-in_err-size-in-Some-clause-none : goal.returns-in_err-size-in-Some-clause-none
returns-in_err-size-in-Some-clause-none c =
    let Starts : ℤ → List ℕ → List ℕ → Type 0 = λ z rest bytes. StartsWithCoordinate bytes z rest in
    let none = no_minus c.in-Some.digits.now c.in_err-size-in-Some.ensures.none in
    where_none c.from_residual.result _ (λ z rest h. none z rest (subst (Starts z rest) c.in-Some.ensures.rest h))

pub returns-in_err-size-in-None-clause-none : goal.returns-in_err-size-in-None-clause-none
returns-in_err-size-in-None-clause-none c = where_none c.from_residual-in_err-size-in-None.result _ (no_number c.args.bytes.now c.in_err-size-in-None.ensures.none c.in-None.ensures.none)
