use Rattle.std.proofs.Common.{ℕ, List}
use Rattle.atam.specs.TileSystem.{TileSystem}
use Rattle.fan_out.specs.Portions.{InARow}
use Rattle.cert_check.specs.declared.entry.Entry.{Entry}
use Rattle.cert_check.specs.Inner.Checks.{ChecksPortion, IsChecked}
use Rattle.cert_check.proofs.verifying.first_fault.Given as goal

-- the portions before some entry are united, and the others follow
abbrev pub invariant-loop-verdict : goal.invariant-loop-verdict
invariant-loop-verdict l =
    (sys : TileSystem) (c : List Entry) (end : ℕ) → InARow (ChecksPortion sys c) 0 0 end l.fn.verdicts.items →
    (worker middle : ℕ) × IsChecked sys c 0 middle l.first × InARow (ChecksPortion sys c) worker middle end l.verdict-iterator.rest.items
