use Rattle.std.proofs.Common.{◌≤◌}
use Rattle.cert_check.specs.Inner.Looks.{AreLooks}
use Rattle.cert_check.specs.Judgement.{AreSoundWithin}
use Rattle.cert_check.proofs.verifying.check_portion.Given as goal

-- the entries of the portion so far are sound
abbrev pub invariant-loop-index : goal.invariant-loop-index
invariant-loop-index l = record {
  within : l.index ≤ l.fn.entries.end;
  sound : AreSoundWithin l.checker.sys.now l.checker.listing.now.entries l.fn.entries.start l.index;
  known : AreLooks l.checker.sys.now l.looks;
}
