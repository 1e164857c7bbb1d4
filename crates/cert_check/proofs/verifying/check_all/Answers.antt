use Rattle.std.proofs.Common.{rules, length, ℕ, subst}
use Rattle.std.proofs.lemmas.Result.{IfOk-weaker}
use Rattle.fan_out.specs.Portions.{InARow}
use Rattle.fan_out.proofs.InARow.{row_map}
use Rattle.cert_check.specs.Inner.Checks.{ChecksPortion}
use Rattle.cert_check.proofs.verifying.check_all.Goals as goal

pub returns : goal.returns
returns g c =
    let sys = c.args.checker.now.sys.now in
    let entries = c.args.checker.now.listing.now.entries in
    let verdicts = c.in_ok-verdicts.verdicts.items in
    let row : InARow (ChecksPortion sys entries) 0 0 c.len.result verdicts =
    row_map _ (ChecksPortion sys entries) (λ worker start end found below said. search rules) 0 0 c.len.result verdicts c.in_ok-verdicts.ensures.each
    in
    IfOk-weaker c.first_fault.result _ _ (λ verdict all. all sys entries (length entries) (subst (λ (end : ℕ). InARow (ChecksPortion sys entries) 0 0 end verdicts) c.len.ensures row)) c.first_fault.ensures
