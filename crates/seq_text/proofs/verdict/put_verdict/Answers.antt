use Rattle.std.proofs.Common.{◌≡◌, ℕ, List, ap, codes, decimal, rules}
use Rattle.atam.specs.declared.site.Site.{Site}
use Rattle.tile_io.proofs.Printing.{PassesOn-text}
use Rattle.seq_text.specs.VerdictLines.{failed_line}
use Rattle.seq_text.proofs.verdict.put_verdict.Goals as goal

-- the line with the same last word
same_last : (condition : List ℕ) (m : Site) (a b : List ℕ) → a ≡ b → failed_line condition m a ≡ failed_line condition m b
same_last condition m a b same = ap (failed_line condition m) same

pub returns-in-NotExact : goal.returns-in-NotExact
returns-in-NotExact g c =
    let sum : c.as_bytes.result.now ≡ decimal c.in-NotExact.sum = search rules in
    rw c.in-NotExact.is (PassesOn-text (same_last (codes "1") _ _ _ sum) c.put_failed.ensures)

pub returns-in-Rival : goal.returns-in-Rival
returns-in-Rival g c =
    rw c.in-Rival.is (PassesOn-text (same_last (codes "2") _ _ _ c.type_name.ensures) c.put_failed-in-Rival.ensures)

pub returns-in-NotTerminal : goal.returns-in-NotTerminal
returns-in-NotTerminal g c =
    rw c.in-NotTerminal.is (PassesOn-text (same_last (codes "3") _ _ _ c.type_name-in-NotTerminal.ensures) c.put_failed-in-NotTerminal.ensures)
