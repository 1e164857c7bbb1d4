-- One step of a reader of lines.
use Rattle.std.proofs.Common.{◌≡◌, ℕ, ◌+◌, Bool, true, false, List, [], ◌∷◌, ◌++◌, Ok, Err, Result, refl, subst}
use Rattle.tile_io.specs.declared.fault.Cause.{Cause}
use Rattle.tile_io.specs.declared.fault.Cause.TheVariants.{NoEnd}
use Rattle.tile_io.specs.declared.mark.Mark.{Mark}
use Rattle.tile_io.specs.declared.reading.Line.{Line}
use Rattle.tile_io.specs.declared.line_reader.LineStop.{LineStop}
use Rattle.tile_io.specs.declared.line_reader.LineStop.TheVariants as stops
use Rattle.tile_io.specs.Lines.{lines_from, words_of}
use Rattle.tile_io.specs.NextLine.{IsNextLine, line_bytes}
use Rattle.tile_io.specs.Formats.{FailsAtLine, missing_cause}
use Rattle.tile_io.specs.Checks.{Table, table_format, check_line}
use Rattle.tile_io.specs.LineReader.{TakesItem}
use Rattle.tile_io.specs.Inner.Headers.{first_cause, stop_at}
use Rattle.tile_io.specs.Inner.Stretches.{Progress, EndsInto, IsStretch}
use Rattle.tile_io.proofs.Progress.{progress_item, progress_end, progress_fault}
use Rattle.tile_io.proofs.Rows.{header_passes, header_fails}

module _ {Item : Type 0} where
  -- what a reader makes of some words
  abbrev pub Takes : Table Item → (List Item → Type 0) → List Item → List (List ℕ) → Result Bool LineStop → Type 0
  Takes table Holds items words result = TakesItem table.is_end Holds items (check_line table.keywords items words) result

  -- in the same context, at the line's own words
  pub takes_here : {Context : Type 0} (table : Context → Table Item) {now start : Context} → now ≡ start → (Holds : List Item → Type 0) (items : List Item) {cut words : List (List ℕ)} → cut ≡ words →
      (result : Result Bool LineStop) → Takes (table now) Holds items cut result → Takes (table start) Holds items words result
  takes_here table {now} {start} same Holds items {cut} {words} cut_is result h =
      let In : _ → Type 0 = λ x. Takes (table x) Holds items cut result in
      let Of : List (List ℕ) → Type 0 = λ w. Takes (table start) Holds items w result in
      subst Of cut_is (subst In same h)

  module _ (table : Table Item) (text : List ℕ) (from at : Mark) (items : List Item) (line : Line) (h : Progress (table_format table) text from items at) (next : IsNextLine text at line) (Holds : List Item → Type 0) where
    pub item_step : (took : Takes table Holds items (words_of (line_bytes text line)) (Ok false)) → Progress (table_format table) text from (items ++ took.0 ∷ []) line.next
    item_step took = progress_item (table_format table) text from at items took.0 line h next (header_passes table.has_header items _ took.0 took.1) took.2

    pub end_step : Takes table Holds items (words_of (line_bytes text line)) (Ok true) → EndsInto (table_format table) text from Holds line.next
    end_step took =
        record { items = items ++ took.0 ∷ []; held = took.3; reads = progress_end (table_format table) text from at items took.0 line h next (header_passes table.has_header items _ took.0 took.1) took.2 }

    fault_step : (missing cause : Cause) → missing ≡ missing_cause items → Takes table Holds items (words_of (line_bytes text line)) (Err (stops.Fault cause)) →
        FailsAtLine (table_format table) (lines_from text from) from line.number (first_cause table.has_header missing cause)
    fault_step missing cause m took = progress_fault (table_format table) text from at items (first_cause table.has_header missing cause) line h next (header_fails table.has_header items _ missing cause m took.0)

    pub stop_step : (missing : Cause) (number bytes lines : ℕ) (stop : LineStop) → missing ≡ missing_cause items → line.number ≡ lines + number → Takes table Holds items (words_of (line_bytes text line)) (Err stop) →
        IsStretch (table_format table) text from bytes lines Holds (Err (stop_at number table.has_header missing stop))
    stop_step missing number bytes lines (stops.Fault cause) m place took =
        let Fails : ℕ → Type 0 = λ n. FailsAtLine (table_format table) (lines_from text from) from n (first_cause table.has_header missing cause) in
        subst Fails place (fault_step missing cause m took)
    stop_step missing number bytes lines stops.NoMemory m place took = tt

  pub missing-push : (items : List Item) (item : Item) → NoEnd ≡ missing_cause (items ++ item ∷ [])
  missing-push [] item = refl
  missing-push (first ∷ items) item = refl
