use Rattle.std.proofs.Common.{Ok, ap, sym, ◌∙◌, subst}
use Rattle.std.proofs.lemmas.Result.{err_from_is_err_and}
use Rattle.tile_io.specs.declared.stretch.Stretch.{Stretch}
use Rattle.tile_io.specs.Checks.{table_format}
use Rattle.tile_io.specs.Inner.Stretches.{IsStretch, moved}
use Rattle.tile_io.proofs.Stretching.{last_ends, last_fails, ends_complete, ends_missing}
use Rattle.tile_io.proofs.stretch.read_last_lines.Goals as goal

pub returns-in_err-end-clause-read : goal.returns-in_err-end-clause-read
returns-in_err-end-clause-read g c = λ whole bytes lines start items is within progress held missing.
    let p = err_from_is_err_and c.from_residual.result c.from_residual.ensures.1 in
    let format = table_format (g.R.LineReader.table (g.R.LineReader.context c.args.reader.now)) in
    let Holds = g.R.LineReader.holds c.read_lines.new.reader in
    rw (p.1, p.2) (last_fails format whole start bytes lines Holds c.in_err-end.field-0.0 (c.in_err-end.ensures.read whole bytes lines start items is within progress held missing))

pub returns-then-is_complete-clause-read : goal.returns-then-is_complete-clause-read
returns-then-is_complete-clause-read g c = λ whole bytes lines start items is within progress held missing.
    let table = g.R.LineReader.table in
    let format = table_format (table (g.R.LineReader.context c.args.reader.now)) in
    let Holds = g.R.LineReader.holds c.read_lines.new.reader in
    let Reads : Stretch → Type 0 = λ s. IsStretch format whole start bytes lines Holds (Ok s) in
    let left = subst Reads c.in-Left.is (c.in_ok-end.ensures.read whole bytes lines start items is within progress held missing) in
    let so_far = left.0 in
    let told = ap (λ x. (table x).is_complete so_far.items) (sym c.read_lines.ensures.context) ∙ sym (c.is_complete.ensures so_far.items so_far.held) ∙ c.if-is_complete.true in
    ends_complete format whole start (moved bytes lines c.in-Left.end) Holds c.in-Left.missing so_far left.1 told

pub returns-in-Ended-clause-read : goal.returns-in-Ended-clause-read
returns-in-Ended-clause-read g c = λ whole bytes lines start items is within progress held missing.
    let format = table_format (g.R.LineReader.table (g.R.LineReader.context c.args.reader.now)) in
    let Holds = g.R.LineReader.holds c.read_lines.new.reader in
    let Reads : Stretch → Type 0 = λ s. IsStretch format whole start bytes lines Holds (Ok s) in
    last_ends format whole start Holds (moved bytes lines c.in-Ended.end) (subst Reads c.in-Ended.is (c.in_ok-end.ensures.read whole bytes lines start items is within progress held missing))

pub returns-else-is_complete-clause-read : goal.returns-else-is_complete-clause-read
returns-else-is_complete-clause-read g c = λ whole bytes lines start items is within progress held missing.
    let table = g.R.LineReader.table in
    let format = table_format (table (g.R.LineReader.context c.args.reader.now)) in
    let Holds = g.R.LineReader.holds c.read_lines.new.reader in
    let Reads : Stretch → Type 0 = λ s. IsStretch format whole start bytes lines Holds (Ok s) in
    let left = subst Reads c.in-Left.is (c.in_ok-end.ensures.read whole bytes lines start items is within progress held missing) in
    let so_far = left.0 in
    let told = ap (λ x. (table x).is_complete so_far.items) (sym c.read_lines.ensures.context) ∙ sym (c.is_complete.ensures so_far.items so_far.held) ∙ c.if-is_complete.false in
    ends_missing format whole start (moved bytes lines c.in-Left.end) Holds c.in-Left.missing so_far left.1 told
