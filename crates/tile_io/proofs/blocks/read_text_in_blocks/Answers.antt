use Rattle.std.proofs.Common.{ℕ, List, [], Err, sym, subst, ◌∙◌, append-nil}
use Rattle.std.proofs.Math.Nat.{le_refl}
use Rattle.std.proofs.lemmas.Result.{err_from_is_err_and}
use Rattle.tile_io.specs.declared.mark.Mark.{Mark}
use Rattle.tile_io.specs.Checks.{table_format}
use Rattle.tile_io.specs.Formats.{ReadsOrStops}
use Rattle.tile_io.specs.LineReader.{ReadsInto}
use Rattle.tile_io.specs.NextLine.{IsMark}
use Rattle.tile_io.proofs.Inputs.{stopped, all_there}
use Rattle.tile_io.proofs.blocks.read_text_in_blocks.Goals as goal

pub read_text-requires-clause-mark : goal.read_text-requires-clause-mark
read_text-requires-clause-mark g c =
    let Here : List ℕ → Type 0 = λ text. IsMark text c.args.from in
    subst Here (append-nil c.args.begun.text.items ∙ sym c.deref.ensures.value) (c.requires.mark [])

pub returns-in_err-read_text-clause-read : goal.returns-in_err-read_text-clause-read
returns-in_err-read_text-clause-read g c =
    let p = err_from_is_err_and c.from_residual.result c.from_residual.ensures.1 in
    let format = table_format (g.R.LineReader.table (g.R.LineReader.context c.args.reader.now)) in
    let text = c.args.begun.text.items in
    let As : List ℕ → Mark → Type 0 = λ text to. ReadsInto format text c.args.from (g.R.LineReader.holds c.read_text.new.reader) to in
    let Stops : List ℕ → Type 0 = λ text. ReadsOrStops format text c.args.from (As text) (Err c.in_err-read_text.field-0.0) in
    let whole = all_there (g.S.Source.left c.args.source.now) text c.requires.short (c.requires.whole c.if-begun.true) in
    rw (p.1, p.2) (stopped g.S.Source.left g.S.Source.faults format text c.args.from As c.args.source.now c.args.source.now text c.in_err-read_text.field-0.0 whole (le_refl (g.S.Source.faults c.args.source.now)) (subst Stops c.deref.ensures.value c.in_err-read_text.ensures.read))

pub returns-then-begun-clause-read : goal.returns-then-begun-clause-read
returns-then-begun-clause-read g c =
    let format = table_format (g.R.LineReader.table (g.R.LineReader.context c.args.reader.now)) in
    let text = c.args.begun.text.items in
    let Into : List ℕ → Type 0 = λ text. ReadsInto format text c.args.from (g.R.LineReader.holds c.read_text.new.reader) c.in_ok-read_text.field-0 in
    let whole = all_there (g.S.Source.left c.args.source.now) text c.requires.short (c.requires.whole c.if-begun.true) in
    ((text, whole, (c.in_ok-read_text.field-0, subst Into c.deref.ensures.value c.in_ok-read_text.ensures.read)), le_refl (g.S.Source.faults c.args.source.now))
