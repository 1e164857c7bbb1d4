use Rattle.std.proofs.Common.{◌≡◌, true, false, ◌≤◌, ◌<◌, ◌+◌, ◌-◌, ◌++◌, ◌∷◌, [], length, Ok, Err, refl, sym, ap, subst, ◌∙◌, arith}
use Rattle.tile_io.specs.declared.fault.TextStop.{TextStop}
use Rattle.tile_io.specs.Lines.{lines_from, mark_after, words_of, AreSkipped}
use Rattle.tile_io.specs.NextLine.{IsMark, line_bytes}
use Rattle.tile_io.specs.Checks.{table_format}
use Rattle.tile_io.specs.Inner.Headers.{stop_at}
use Rattle.tile_io.specs.Inner.Stretches.{IsStretch, moved}
use Rattle.tile_io.proofs.Progress.{progress_bad, mark_moved, next_is_mark, next_is_later}
use Rattle.tile_io.proofs.Walks.{mark_within}
use Rattle.tile_io.proofs.Fronts.{TookTurn, told_turn, took_bytes, took_none}
use Rattle.tile_io.proofs.LineTurns.{takes_here, item_step, end_step, stop_step, missing-push}
use Rattle.tile_io.proofs.Stretching.{rest_step}
use Rattle.tile_io.proofs.Shifts.{same_lines, same_bytes, moved_within, moved_after, moved_line, next_moved, bad_moved}
use Rattle.tile_io.proofs.stretch.read_lines.Goals.{in-Some, in-None+in-Ok-Some}
use Rattle.tile_io.proofs.stretch.read_lines.Goals as goal

pub lines-init : goal.lines-init
lines-init g c = record {
  context = refl;
  items = c.requires.held.0;
  held = c.requires.held.1;
  so_far = λ whole bytes lines start items is within progress held missing. record { items = items; held = held; progress = progress; missing_is = missing };
  mark = c.requires.mark;
}

pub returns-in-Err-clause-read : goal.returns-in-Err-clause-read
returns-in-Err-clause-read g c = λ whole bytes lines start items is within progress held missing.
    let text = c.args.text.now in
    let mark = c.lines.mark in
    let before = c.lines.invariant.so_far whole bytes lines start items is within progress held missing in
    let here = moved bytes lines mark in
    let format = table_format (g.R.LineReader.table (g.R.LineReader.context c.args.reader.now)) in
    progress_bad format whole start here before.items (record { line = lines + c.in-Err.fault.line; cause = c.in-Err.fault.cause }) before.progress (bad_moved whole bytes lines text is within mark c.in-Err.fault c.in-Err.ensures.taken)

pub returns-in-Ok-None-clause-read : goal.returns-in-Ok-None-clause-read
returns-in-Ok-None-clause-read g c = λ whole bytes lines start items is within progress held missing.
    let text = c.args.text.now in
    let mark = c.lines.mark in
    let before = c.lines.invariant.so_far whole bytes lines start items is within progress held missing in
    let here = moved bytes lines mark in
    let table = g.R.LineReader.table in
    let left = took_none table g.R.LineReader.context g.R.LineReader.holds text mark c.lines.reader c.take_from_front.new.reader c.take_by_bytes.new.reader c.in-None.ensures.left c.take_from_front.ensures.context c.take_by_bytes.ensures.context c.in-Ok-None.field-0-is c.in-Ok-None.ensures.taken in
    let none = left.none in
    let all = subst AreSkipped (same_lines whole bytes lines text is within mark) none.skipped in
    let end =
    ap (moved bytes lines) c.end_mark.ensures ∙ moved_after whole bytes lines text is within mark (length (lines_from text mark))
    ∙ ap (λ l. mark_after (lines_from whole here) here (length l)) (same_lines whole bytes lines text is within mark)
    in
    rest_step (table_format (table (g.R.LineReader.context c.args.reader.now))) whole start here (moved bytes lines c.end_mark.result) (g.R.LineReader.holds c.lines.reader) (g.R.LineReader.holds c.take_by_bytes.new.reader) c.lines.missing before none.left (moved_within whole bytes lines text is within mark (mark_within text mark c.lines.invariant.mark).0) all end

pub returns-in-Ok-None-clause-end : goal.returns-in-Ok-None-clause-end
returns-in-Ok-None-clause-end g c =
    let text = c.args.text.now in
    let mark = c.lines.mark in
    let end = mark_moved text mark c.end_mark.result (length (lines_from text mark)) c.lines.invariant.mark (omega arith) c.end_mark.ensures in
    λ to missing e. let same : c.end_mark.result ≡ to = cc e in subst (λ m. IsMark text m) same end

pub returns-in-Ok-true-clause-read : goal.returns-in-Ok-true-clause-read
returns-in-Ok-true-clause-read g c = λ whole bytes lines start items is within progress held missing.
    let text = c.args.text.now in
    let mark = c.lines.mark in
    let before = c.lines.invariant.so_far whole bytes lines start items is within progress held missing in
    let here = moved bytes lines mark in
    let table = g.R.LineReader.table in
    let turn = c.match-take_from_front.turn in
    let Took = TookTurn table g.R.LineReader.context g.R.LineReader.holds text mark c.lines.reader in
    let took_turn : Took c.match-take_from_front.reader turn =
    elim c.match-take_from_front.branch [
      | in-Some w ↦ subst (λ r. Took r turn) (sym w.reader-is) (subst (Took c.take_from_front.new.reader) (sym w.turn-is) (record { line = w.in-Some.ensures.taken; same = c.take_from_front.ensures.context }))
      | in-None+in-Ok-Some w ↦ subst (λ r. Took r turn) (sym w.reader-is) (subst (Took w.take_by_bytes.new.reader) (sym w.turn-is) (took_bytes table g.R.LineReader.context g.R.LineReader.holds text mark c.lines.reader c.take_from_front.new.reader w.take_by_bytes.new.reader w.in-None.ensures.left c.take_from_front.ensures.context w.take_by_bytes.ensures.context w.in-Ok-Some.turn w.in-Ok-Some.field-0-is w.in-Ok-Some.ensures.taken))
    ] in
    let line = turn.line in
    let Holds = g.R.LineReader.holds c.match-take_from_front.reader in
    let done : turn.done ≡ Ok true = c.in-Ok-true.is ∙ ap (λ b. Ok b) c.in-Ok-true.field-0-test in
    let found = told_turn (table (g.R.LineReader.context c.lines.reader)) (g.R.LineReader.holds c.lines.reader) (g.R.LineReader.holds c.match-take_from_front.reader) text mark turn done took_turn.line in
    let next = found.next in
    let there = next_moved whole bytes lines text is within mark line next in
    let words = ap words_of (same_bytes whole bytes lines text is within line) in
    let took = takes_here table c.lines.invariant.context Holds before.items words (Ok true) (found.taken before.items before.held) in
    end_step (table (g.R.LineReader.context c.args.reader.now)) whole start here before.items (moved_line whole bytes lines line) before.progress there Holds took

pub lines-smaller : goal.lines-smaller
lines-smaller g c =
    let table = g.R.LineReader.table in
    let text = c.args.text.now in
    let mark = c.lines.mark in
    let turn = c.match-take_from_front.turn in
    let Took = TookTurn table g.R.LineReader.context g.R.LineReader.holds text mark c.lines.reader in
    let took_turn : Took c.match-take_from_front.reader turn =
    elim c.match-take_from_front.branch [
      | in-Some w ↦ subst (λ r. Took r turn) (sym w.reader-is) (subst (Took c.take_from_front.new.reader) (sym w.turn-is) (record { line = w.in-Some.ensures.taken; same = c.take_from_front.ensures.context }))
      | in-None+in-Ok-Some w ↦ subst (λ r. Took r turn) (sym w.reader-is) (subst (Took w.take_by_bytes.new.reader) (sym w.turn-is) (took_bytes table g.R.LineReader.context g.R.LineReader.holds text mark c.lines.reader c.take_from_front.new.reader w.take_by_bytes.new.reader w.in-None.ensures.left c.take_from_front.ensures.context w.take_by_bytes.ensures.context w.in-Ok-Some.turn w.in-Ok-Some.field-0-is w.in-Ok-Some.ensures.taken))
    ] in
    let line = turn.line in
    let found = told_turn (table (g.R.LineReader.context c.lines.reader)) (g.R.LineReader.holds c.lines.reader) (g.R.LineReader.holds c.match-take_from_front.reader) text mark turn refl took_turn.line in
    let next = found.next in
    let later : mark.at < line.next.at = next_is_later text mark line next in
    let within : line.next.at ≤ length text = (mark_within text line.next (next_is_mark text mark line c.lines.invariant.mark next)).0 in
    let smaller : length text - line.next.at < length text - mark.at = omega (arith, later, within) in
    smaller

pub lines-preserved : goal.lines-preserved
lines-preserved g c =
    let table = g.R.LineReader.table in
    let text = c.args.text.now in
    let mark = c.lines.mark in
    let turn = c.match-take_from_front.turn in
    let Took = TookTurn table g.R.LineReader.context g.R.LineReader.holds text mark c.lines.reader in
    let took_turn : Took c.match-take_from_front.reader turn =
    elim c.match-take_from_front.branch [
      | in-Some w ↦ subst (λ r. Took r turn) (sym w.reader-is) (subst (Took c.take_from_front.new.reader) (sym w.turn-is) (record { line = w.in-Some.ensures.taken; same = c.take_from_front.ensures.context }))
      | in-None+in-Ok-Some w ↦ subst (λ r. Took r turn) (sym w.reader-is) (subst (Took w.take_by_bytes.new.reader) (sym w.turn-is) (took_bytes table g.R.LineReader.context g.R.LineReader.holds text mark c.lines.reader c.take_from_front.new.reader w.take_by_bytes.new.reader w.in-None.ensures.left c.take_from_front.ensures.context w.take_by_bytes.ensures.context w.in-Ok-Some.turn w.in-Ok-Some.field-0-is w.in-Ok-Some.ensures.taken))
    ] in
    let line = turn.line in
    let now = c.lines.invariant in
    let Holds = g.R.LineReader.holds c.match-take_from_front.reader in
    let done : turn.done ≡ Ok false = c.in-Ok-false.is ∙ ap (λ b. Ok b) c.in-Ok-false.field-0-test in
    let found = told_turn (table (g.R.LineReader.context c.lines.reader)) (g.R.LineReader.holds c.lines.reader) (g.R.LineReader.holds c.match-take_from_front.reader) text mark turn done took_turn.line in
    let next = found.next in
    let later : mark.at < line.next.at = next_is_later text mark line next in
    let taken = takes_here table now.context Holds now.items {cut = words_of (line_bytes text line)} refl (Ok false) (found.taken now.items now.held) in
    record {
      context = took_turn.same ∙ now.context;
      items = now.items ++ taken.0 ∷ [];
      held = taken.3;
      so_far = λ whole bytes lines start items is within progress held missing.
          let before = now.so_far whole bytes lines start items is within progress held missing in
          let here = moved bytes lines mark in
          let there = next_moved whole bytes lines text is within mark line next in
          let words = ap words_of (same_bytes whole bytes lines text is within line) in
          let took = takes_here table now.context Holds before.items words (Ok false) (found.taken before.items before.held) in
          record {
            items = before.items ++ took.0 ∷ [];
            held = took.3;
            progress = item_step (table (g.R.LineReader.context c.args.reader.now)) whole start here before.items (moved_line whole bytes lines line) before.progress there Holds took;
            missing_is = missing-push before.items took.0;
          };
      mark = next_is_mark text mark line now.mark next;
    }

pub returns-in-Err-done-clause-read : goal.returns-in-Err-done-clause-read
returns-in-Err-done-clause-read g c = λ whole bytes lines start items is within progress held missing.
    let text = c.args.text.now in
    let mark = c.lines.mark in
    let before = c.lines.invariant.so_far whole bytes lines start items is within progress held missing in
    let here = moved bytes lines mark in
    let table = g.R.LineReader.table in
    let turn = c.match-take_from_front.turn in
    let Took = TookTurn table g.R.LineReader.context g.R.LineReader.holds text mark c.lines.reader in
    let took_turn : Took c.match-take_from_front.reader turn =
    elim c.match-take_from_front.branch [
      | in-Some w ↦ subst (λ r. Took r turn) (sym w.reader-is) (subst (Took c.take_from_front.new.reader) (sym w.turn-is) (record { line = w.in-Some.ensures.taken; same = c.take_from_front.ensures.context }))
      | in-None+in-Ok-Some w ↦ subst (λ r. Took r turn) (sym w.reader-is) (subst (Took w.take_by_bytes.new.reader) (sym w.turn-is) (took_bytes table g.R.LineReader.context g.R.LineReader.holds text mark c.lines.reader c.take_from_front.new.reader w.take_by_bytes.new.reader w.in-None.ensures.left c.take_from_front.ensures.context w.take_by_bytes.ensures.context w.in-Ok-Some.turn w.in-Ok-Some.field-0-is w.in-Ok-Some.ensures.taken))
    ] in
    let line = turn.line in
    let Holds = g.R.LineReader.holds c.match-take_from_front.reader in
    let stop = c.in-Err-done.stop in
    let done : turn.done ≡ Err stop = c.in-Err-done.is in
    let found = told_turn (table (g.R.LineReader.context c.lines.reader)) (g.R.LineReader.holds c.lines.reader) (g.R.LineReader.holds c.match-take_from_front.reader) text mark turn done took_turn.line in
    let there = next_moved whole bytes lines text is within mark line found.next in
    let words = ap words_of (same_bytes whole bytes lines text is within line) in
    let took = takes_here table c.lines.invariant.context Holds before.items words (Err stop) (found.taken before.items before.held) in
    let header = c.has_header.ensures ∙ ap (λ x. (table x).has_header) (took_turn.same ∙ c.lines.invariant.context) in
    let told = c.stop_at.ensures ∙ ap (λ b. stop_at line.number b c.lines.missing stop) header in
    let now = table (g.R.LineReader.context c.args.reader.now) in
    let Stops : TextStop → Type 0 = λ s. IsStretch (table_format now) whole start bytes lines Holds (Err s) in
    subst Stops (sym told) (stop_step now whole start here before.items (moved_line whole bytes lines line) before.progress there Holds c.lines.missing line.number bytes lines stop before.missing_is refl took)
