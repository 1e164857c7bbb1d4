use Rattle.std.proofs.Common.{◌≡◌, ◌∙◌, suc, [], ℕ, List, Result, sym, subst, zero-le}
use Rattle.std.proofs.lemmas.Result.{IfOk-at_ok}
use Rattle.std.proofs.lemmas.List.{nil_from_length}
use Rattle.tile_system.specs.declared.memory.NoMemory.{NoMemory}
use Rattle.fan_out.specs.Portions.{InARow}
use Rattle.cert_check.specs.declared.verdict.CertVerdict.{CertVerdict}
use Rattle.cert_check.specs.Inner.Checks.{ChecksPortion, IsChecked}
use Rattle.cert_check.proofs.Chunks.{chunks_join, nothing_checked}
use Rattle.cert_check.proofs.verifying.first_fault.Goals as goal

pub loop-verdict-init : goal.loop-verdict-init
loop-verdict-init c sys s end row =
    let Rest : List (Result CertVerdict NoMemory) → Type 0 = λ l. InARow (ChecksPortion sys s) 0 0 end l in
    (0, 0, record { verdict = nothing_checked sys s 0 }, subst Rest (sym c.into_iter-verdict-iterator.ensures.into_iter_gives.0) row)

pub loop-verdict-preserved : goal.loop-verdict-preserved
loop-verdict-preserved c sys s end row =
    let before = c.loop-verdict.invariant sys s end row in
    let Row : List (Result CertVerdict NoMemory) → Type 0 = λ l. InARow (ChecksPortion sys s) before.0 before.1 end l in
    let parted = subst Row c.in-Some.ensures.steps.0 before.3 in
    let behind = IfOk-at_ok (IsChecked sys s before.1 parted.0) c.in_ok-verdict.was parted.2 in
    let Both : CertVerdict → Type 0 = λ v. IsChecked sys s 0 parted.0 v in
    (suc before.0, parted.0, subst Both (sym c.or-first.ensures) (record { verdict = chunks_join sys s 0 before.1 parted.0 c.loop-verdict.first _ zero-le parted.1 before.2.verdict behind.verdict }), parted.3)

pub returns : goal.returns
returns c sys s end row =
    let before = c.loop-verdict.invariant sys s end row in
    let rest = c.loop-verdict.verdict-iterator.rest in
    let none : rest.items ≡ [] = nil_from_length rest.items (sym rest.ok.0 ∙ c.in-None.ensures.steps.0) in
    let Row : List (Result CertVerdict NoMemory) → Type 0 = λ l. InARow (ChecksPortion sys s) before.0 before.1 end l in
    subst (λ (n : ℕ). IsChecked sys s 0 n c.loop-verdict.first) (subst Row none before.3) before.2
