-- A text that is read in stretches.
use Rattle.std.proofs.Common.{◌≡◌, ℕ, ◌+◌, ◌≤◌, ◌<◌, true, false, List, [], length, Result, Ok, Err, inl, inr, refl, sym, ap, subst, ◌∙◌, arith}
use Rattle.std.proofs.lemmas.Option.{slice_get_within}
use Rattle.std.proofs.lemmas.List.{drop_all}
use Rattle.tile_io.specs.declared.fault.Cause.{Cause}
use Rattle.tile_io.specs.declared.fault.Cause.TheVariants.{NoHeader}
use Rattle.tile_io.specs.declared.fault.TextStop.{TextStop}
use Rattle.tile_io.specs.declared.fault.TextStop.TheVariants as stops
use Rattle.tile_io.specs.declared.mark.Mark.{Mark}
use Rattle.tile_io.specs.Lines.{lines_of, lines_from, mark_after, text_of, AreSkipped}
use Rattle.tile_io.specs.NextLine.{IsMark}
use Rattle.tile_io.specs.Formats.{Format, Reads, Fault, ReadsOrStops, missing_cause}
use Rattle.tile_io.specs.Checks.{Table, table_format}
use Rattle.tile_io.specs.Inner.Stretches.{Progress, ReadsSoFar, EndsInto, IsStretch, ReadsRest, moved}
use Rattle.tile_io.specs.LineReader.{ReadsInto}
use Rattle.tile_io.proofs.Progress.{progress_none, progress_rest, progress_missing, progress_complete, same_marks, mark_moved}
use Rattle.tile_io.proofs.Cuts.{lines-nil}
use Rattle.tile_io.proofs.Marks.{text_length-nil}
use Rattle.tile_io.proofs.TextEnds.{end_place}
use Rattle.tile_io.proofs.Walks.{mark_within, skipped_none}

-- no bytes and lines are left out
pub moved_none : (mark : Mark) → moved 0 0 mark ≡ mark
moved_none mark = same_marks (moved 0 0 mark) mark (omega arith) (omega arith)

module _ {Item : Type 0} (format : Format Item) where
  -- at the start there are none
  pub nothing_so_far : (text : List ℕ) (from : Mark) (Holds : List Item → Type 0) → Holds [] → ReadsSoFar format text from Holds (moved 0 0 from) NoHeader
  nothing_so_far text from Holds empty =
      let At : Mark → Type 0 = λ at. Progress format text from [] at in
      record { items = []; held = empty; progress = subst At (sym (moved_none from)) (progress_none format text from); missing_is = refl }

  -- a stretch more, where only skipped lines are left
  pub rest_step : (text : List ℕ) (from at to : Mark) (Before After : List Item → Type 0) (missing : Cause) → ReadsSoFar format text from Before at missing → ((items : List Item) → Before items → After items) →
      at.at ≤ length text → AreSkipped (lines_from text at) → to ≡ mark_after (lines_from text at) at (length (lines_from text at)) → ReadsSoFar format text from After to missing × (to.at ≡ length text)
  rest_step text from at to Before After missing before left within skipped place =
      let At : Mark → Type 0 = λ m. Progress format text from before.items m in (
        record { items = before.items; held = left before.items before.held; progress = subst At (sym place) (progress_rest format text from at before.items before.progress skipped); missing_is = before.missing_is },
        ap (λ m. m.at) place ∙ sym (end_place text at within),
      )

  module _ (text : List ℕ) (from to : Mark) (Holds : List Item → Type 0) (missing : Cause) (so_far : ReadsSoFar format text from Holds to missing) (end : to.at ≡ length text) where
    none_left : lines_from text to ≡ []
    none_left = ap lines_of (drop_all to.at text (omega (arith, end))) ∙ lines-nil

    skipped_left : AreSkipped (lines_from text to)
    skipped_left = subst AreSkipped (sym none_left) skipped_none

    end_is : mark_after (lines_from text to) to (length (lines_from text to)) ≡ to
    end_is =
        let no_bytes : length (text_of []) ≡ 0 = text_length-nil in
        ap (λ l. mark_after l to (length l)) none_left ∙ same_marks (mark_after [] to 0) to (omega (arith, no_bytes)) (omega arith)

    -- where no line is left, the input may end there, or something is missing
    pub ends_complete : format.is_complete so_far.items ≡ true → ReadsInto format text from Holds to
    ends_complete complete =
        let Here : Mark → Type 0 = λ m. Reads format text from so_far.items m in
        record { items = so_far.items; held = so_far.held; reads = subst Here end_is (progress_complete format text from to so_far.items so_far.progress skipped_left complete) }

    pub ends_missing : format.is_complete so_far.items ≡ false → Fault format text from to.line missing
    ends_missing incomplete = progress_missing format text from to so_far.items to.line missing so_far.progress skipped_left incomplete (sym (ap (λ m. m.line) end_is)) so_far.missing_is

  -- a stretch that ends or fails may be the last
  pub last_ends : (text : List ℕ) (from : Mark) (Holds : List Item → Type 0) (to : Mark) → EndsInto format text from Holds to → ReadsInto format text from Holds to
  last_ends text from Holds to ends = record { items = ends.items; held = ends.held; reads = inl ends.reads }

  pub last_fails : (text : List ℕ) (from : Mark) (bytes lines : ℕ) (Holds : List Item → Type 0) (stop : TextStop) → IsStretch format text from bytes lines Holds (Err stop) → ReadsRest format text from bytes lines Holds (Err stop)
  last_fails text from bytes lines Holds (stops.Fault fault) fails = inl fails
  last_fails text from bytes lines Holds stops.NoMemory fails = tt

  -- where no bytes and lines are left out, it is the text
  pub whole_rest : (text : List ℕ) (from : Mark) (Holds : List Item → Type 0) (result : Result Mark TextStop) → ReadsRest format text from 0 0 Holds result → ReadsOrStops format text from (ReadsInto format text from Holds) result
  whole_rest text from Holds (Ok to) reads =
      let Into : Mark → Type 0 = λ m. ReadsInto format text from Holds m in
      subst Into (moved_none to) reads
  whole_rest text from Holds (Err (stops.Fault fault)) fails =
      let Fails : ℕ → Type 0 = λ number. Fault format text from number fault.cause in
      let same : 0 + fault.line ≡ fault.line = omega arith in
      subst Fails same fails
  whole_rest text from Holds (Err stops.NoMemory) none = none

  -- the number of a failing line is small
  pub fault_few : (text : List ℕ) (from : Mark) (number : ℕ) (cause : Cause) → IsMark text from → Fault format text from number cause → number ≤ length text + 1
  fault_few text from number cause mark (inl fails) =
      let lines = lines_from text from in
      let less : fails.count < length lines = slice_get_within lines fails.count fails.line fails.next in
      let to = mark_after lines from fails.count in
      let within = mark_within text to (mark_moved text from to fails.count mark (omega (arith, less)) refl) in
      omega (arith, within.0, within.1, fails.place)
  fault_few text from number cause mark (inr fails) =
      let lines = lines_from text from in
      let to = mark_after lines from (length lines) in
      let within = mark_within text to (mark_moved text from to (length lines) mark (omega arith) refl) in
      omega (arith, within.0, within.1, fails.place)

-- what a reader tells of the lines up to a mark, in the same context
pub told_here : {Item Context : Type 0} (table : Context → Table Item) {now start : Context} → now ≡ start → (Told : Context → Type 0) (text : List ℕ) (from at : Mark) (Holds : List Item → Type 0) (missing : Cause) →
    ReadsSoFar (table_format (table start)) text from Holds at missing → ((items : List Item) → Progress (table_format (table now)) text from items at → Holds items → missing ≡ missing_cause items → Told now) → Told start
told_here table {now} {start} same Told text from at Holds missing before told =
    let At : _ → Type 0 = λ x. Progress (table_format (table x)) text from before.items at in
    subst Told same (told before.items (subst At (sym same) before.progress) before.held before.missing_is)

pub some_line : (text : List ℕ) (mark : Mark) → IsMark text mark → 1 ≤ mark.line
some_line text mark is = let line : mark.line ≡ 1 + is.count = ap (λ m. m.line) is.place in omega (arith, line)
