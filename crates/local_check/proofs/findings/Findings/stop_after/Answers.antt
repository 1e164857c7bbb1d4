use Rattle.std.proofs.Common.{subst, sym}
use Rattle.local_check.specs.Inner.PlaceFindings.{FindingTable, ArePlaceFindings}
use Rattle.local_check.proofs.PlaceFindings.{all_unsought}
use Rattle.local_check.proofs.findings.Findings.stop_after.Goals as goal

pub returns-then-is_some-clause-known : goal.returns-then-is_some-clause-known
returns-then-is_some-clause-known c sys known =
    let Known : FindingTable → Type 0 = λ table. ArePlaceFindings sys table in
    all_unsought sys _ (subst Known (sym c.self.view_is) known)
