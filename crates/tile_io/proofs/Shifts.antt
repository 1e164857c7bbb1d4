-- The rest of a text has the lines of the text.
use Rattle.std.proofs.Common.{◌≡◌, ℕ, ◌+◌, ◌-◌, ◌≤◌, ◌<◌, true, false, List, length, take, drop, slice_get, Some, ap, subst, ◌∙◌, arith, length-drop}
use Rattle.std.proofs.lemmas.List.{drop-drop}
use Rattle.tile_io.specs.declared.fault.TextFault.{TextFault}
use Rattle.tile_io.specs.declared.mark.Mark.{Mark}
use Rattle.tile_io.specs.declared.reading.Line.{Line}
use Rattle.tile_io.specs.Lines.{TextLine, lines_of, text_of, lines_from, mark_after, words_of, is_skipped, AreSkipped}
use Rattle.tile_io.specs.NextLine.{IsNextLine, IsBadLine, line_bytes}
use Rattle.tile_io.specs.Inner.Stretches.{moved}
use Rattle.tile_io.proofs.Progress.{same_marks}

module _ (whole : List ℕ) (bytes lines : ℕ) where
  -- the line of the text that a line of the rest is
  abbrev pub moved_line : Line → Line
  moved_line line = record { start = bytes + line.start; end = bytes + line.end; number = lines + line.number; next = moved bytes lines line.next }

  module _ (rest : List ℕ) (is : rest ≡ drop bytes whole) (within : bytes ≤ length whole) where
    pub same_lines : (from : Mark) → lines_from rest from ≡ lines_from whole (moved bytes lines from)
    same_lines from = ap (λ l. lines_of (drop from.at l)) is ∙ ap lines_of (drop-drop from.at bytes whole)

    pub same_bytes : (line : Line) → line_bytes rest line ≡ line_bytes whole (moved_line line)
    same_bytes line =
        let size : line.end - line.start ≡ (bytes + line.end) - (bytes + line.start) = omega arith in
        ap (λ l. take (line.end - line.start) (drop line.start l)) is ∙ ap (λ l. take (line.end - line.start) l) (drop-drop line.start bytes whole)
        ∙ ap (λ n. take n (drop (bytes + line.start) whole)) size

    -- a mark in the rest is one in the text
    pub moved_within : (from : Mark) → from.at ≤ length rest → (moved bytes lines from).at ≤ length whole
    moved_within from inside =
        let size : length rest ≡ length whole - bytes = ap length is ∙ length-drop bytes whole in
        omega (arith, inside, size, within)

    -- where a mark comes to after some lines
    pub moved_after : (from : Mark) (count : ℕ) → moved bytes lines (mark_after (lines_from rest from) from count) ≡ mark_after (lines_from whole (moved bytes lines from)) (moved bytes lines from) count
    moved_after from count =
        let size : length (text_of (take count (lines_from rest from))) ≡ length (text_of (take count (lines_from whole (moved bytes lines from)))) = ap (λ l. length (text_of (take count l))) (same_lines from) in
        same_marks (moved bytes lines (mark_after (lines_from rest from) from count)) (mark_after (lines_from whole (moved bytes lines from)) (moved bytes lines from) count) (omega (arith, size)) (omega arith)

    pub next_moved : (from : Mark) (line : Line) → IsNextLine rest from line → IsNextLine whole (moved bytes lines from) (moved_line line)
    next_moved from line next =
        let here = moved bytes lines from in
        let same = same_lines from in
        let text = same_bytes line in
        let Skipped : List TextLine → Type 0 = λ l. AreSkipped (take next.count l) in
        let Found : List TextLine → List ℕ → Type 0 = λ l b. slice_get l next.count ≡ Some (record { bytes = b; ended = true }) in
        let Short : List ℕ → Type 0 = λ b. length b ≤ 256 in
        let Kept : List ℕ → Type 0 = λ b. is_skipped (words_of b) ≡ false in
        let start_at : line.start ≡ (mark_after (lines_from rest from) from next.count).at = next.start in
        let moved_to : bytes + (mark_after (lines_from rest from) from next.count).at ≡ (mark_after (lines_from whole here) here next.count).at = ap (λ m. m.at) (moved_after from next.count) in
        let number : line.number ≡ from.line + next.count = next.number in
        let size : length rest ≡ length whole - bytes = ap length is ∙ length-drop bytes whole in
        let end : line.end < length rest = next.end in
        let next_at : line.next.at ≡ line.end + 1 = next.next_at in
        let order : line.start ≤ line.end = next.order in
        record {
          count = next.count;
          skipped = subst Skipped same next.skipped;
          found = subst (λ l. Found l (line_bytes whole (moved_line line))) same (subst (Found (lines_from rest from)) text next.found);
          plain = subst Short text next.plain;
          kept = subst Kept text next.kept;
          start = omega (arith, start_at, moved_to);
          order = omega (arith, order);
          end = omega (arith, end, size, within);
          number = omega (arith, number);
          next_at = omega (arith, next_at);
          next = ap (moved bytes lines) next.next ∙ moved_after from (next.count + 1);
        }

    pub bad_moved : (from : Mark) (fault : TextFault) → IsBadLine rest from fault → IsBadLine whole (moved bytes lines from) (record { line = lines + fault.line; cause = fault.cause })
    bad_moved from fault bad =
        let same = same_lines from in
        let Skipped : List TextLine → Type 0 = λ l. AreSkipped (take bad.count l) in
        let Found : List TextLine → Type 0 = λ l. slice_get l bad.count ≡ Some bad.line in
        let number : fault.line ≡ from.line + bad.count = bad.number in
        record { count = bad.count; skipped = subst Skipped same bad.skipped; line = bad.line; found = subst Found same bad.found; cause = bad.cause; number = omega (arith, number) }
