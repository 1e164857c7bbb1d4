-- A text that comes in blocks, as far as it came and as far as its lines were taken.
use Rattle.std.proofs.Common.{◌≡◌, ◌≤◌, ◌+◌, ◌-◌, ℕ, true, List, [], ◌++◌, length, take, drop, Option, Ok, Err, refl, sym, ap, subst, ◌∙◌, arith, length-append, length-drop, length-take-le, append_assoc, append-nil, take-append-drop}
use Rattle.std.proofs.Math.Nat.{le_refl, le_trans}
use Rattle.std.proofs.lemmas.List.{drop_at}
use Rattle.std.proofs.lemmas.List.Elements.{All-append}
use Rattle.std.specs.Io.KnownBytes.{Consumes, IsAtEnd}
use Rattle.tile_io.specs.declared.fault.Cause.{Cause}
use Rattle.tile_io.specs.declared.fault.Cause.TheVariants.{NoHeader}
use Rattle.tile_io.specs.declared.fault.TextStop.{TextStop}
use Rattle.tile_io.specs.declared.fault.TextStop.TheVariants as stops
use Rattle.tile_io.specs.declared.mark.Mark.{Mark}
use Rattle.tile_io.specs.declared.stretch.Stretch.TheVariants.{Left}
use Rattle.tile_io.specs.declared.whole.ReadStop.{ReadStop}
use Rattle.tile_io.specs.declared.whole.ReadStop.TheVariants.{Failed, TooLong, NoMemory}
use Rattle.tile_io.specs.declared.blocks.InputStop.TheVariants.{Unread}
use Rattle.tile_io.specs.Blocks.{TakesOn, IsWholeText, ReadsInBlocks, stop_of_text}
use Rattle.tile_io.specs.Formats.{Format, ReadsOrStops, missing_cause}
use Rattle.tile_io.specs.Checks.{Table, table_format}
use Rattle.tile_io.specs.LineReader.{ReadsInto}
use Rattle.tile_io.specs.Lines.{lines_of, lines_from, text_of}
use Rattle.tile_io.specs.NextLine.{IsMark}
use Rattle.tile_io.specs.Inner.Blocks.{Comes, StopsComing, IsEnded}
use Rattle.tile_io.specs.Inner.Stops.{IsStopBelow, stop_after}
use Rattle.tile_io.specs.Inner.Stretches.{Progress, ReadsSoFar, EndsInto, IsStretch, ReadsRest, moved}
use Rattle.tile_io.proofs.TakenOn.{takes_more}
use Rattle.tile_io.proofs.Coming.{comes_none}
use Rattle.tile_io.proofs.Rising.{Rose-then}
use Rattle.tile_io.proofs.Prefixes.{AllEnded, progress_on, end_line_on, fault_on, all_ended, passed_ended}
use Rattle.tile_io.proofs.Progress.{progress_none, same_marks, rest_of, start}
use Rattle.tile_io.proofs.Stretching.{fault_few, told_here, last_ends, last_fails}
use Rattle.tile_io.proofs.Inputs.{stopped}
use Rattle.tile_io.proofs.Walks.{mark_within}

-- the mark behind a part of a text with so many lines
abbrev pub behind_part : List ℕ → ℕ → Mark
behind_part part passed = moved (length part) passed start

module _ {Item : Type 0} (format : Format Item) (from : Mark) where
  -- a mark that was come to is not before the start
  progress_later : (text : List ℕ) (items : List Item) (at : Mark) → Progress format text from items at → from.at ≤ at.at
  progress_later text items at progress = let place : at.at ≡ from.at + length (text_of (take progress.count (lines_from text from))) = ap (λ m. m.at) progress.place in omega (arith, place)

  part_within : (part : List ℕ) (passed : ℕ) (Holds : List Item → Type 0) (missing : Cause) → ReadsSoFar format part from Holds (behind_part part passed) missing → from.at ≤ length part
  part_within part passed Holds missing so_far = let later : from.at ≤ length part + 0 = progress_later part so_far.items (behind_part part passed) so_far.progress in omega (arith, later)

  -- the lines of a part are the first ones of each text that it begins
  pub so_far_on : (part more : List ℕ) (passed : ℕ) (Holds : List Item → Type 0) (missing : Cause) → ReadsSoFar format part from Holds (behind_part part passed) missing → ReadsSoFar format (part ++ more) from Holds (behind_part part passed) missing
  so_far_on part more passed Holds missing so_far =
      record { items = so_far.items; held = so_far.held; progress = progress_on format part more from (part_within part passed Holds missing so_far) so_far.items (behind_part part passed) so_far.progress; missing_is = so_far.missing_is }

  -- no line of a part and the whole lines behind it is without its newline
  lines_ended : (part cut : List ℕ) (passed : ℕ) (Holds : List Item → Type 0) (missing : Cause) → ReadsSoFar format part from Holds (behind_part part passed) missing → IsEnded cut → AllEnded (lines_from (part ++ cut) from)
  lines_ended part cut passed Holds missing so_far ended =
      let now = so_far_on part cut passed Holds missing so_far in
      let count = now.progress.count in
      let lines = lines_from (part ++ cut) from in
      let at = behind_part part passed in
      let here : drop (length part + 0) (part ++ cut) ≡ cut = drop_at part cut (length part + 0) (let same : length part + 0 ≡ length part = omega arith in sym same) in
      let left : lines_from (part ++ cut) at ≡ drop count lines = rest_of format (part ++ cut) from at now.items now.progress in
      let EndedHere : List ℕ → Type 0 = λ text. AllEnded (lines_of text) in
      let back : AllEnded (drop count lines) = subst AllEnded left (subst EndedHere (sym here) (all_ended cut ended)) in
      let front : AllEnded (take count lines) = passed_ended (take count lines) now.progress.passed.plain in
      subst AllEnded (take-append-drop count lines) (All-append (λ line. line.ended ≡ true) (take count lines) (drop count lines) front back)

  module _ (part cut behind : List ℕ) (passed : ℕ) (Before : List Item → Type 0) (missing : Cause) (so_far : ReadsSoFar format part from Before (behind_part part passed) missing) where
    cut_within : from.at ≤ length (part ++ cut)
    cut_within = let size : length (part ++ cut) ≡ length part + length cut = length-append part cut in let within = part_within part passed Before missing so_far in omega (arith, size, within)

    -- what whole lines tell of their text, they tell of each longer one:
    -- its own end line,
    pub ends_on : (Holds : List Item → Type 0) (to : Mark) → EndsInto format (part ++ cut) from Holds to → EndsInto format ((part ++ cut) ++ behind) from Holds to
    ends_on Holds to ends = record { items = ends.items; held = ends.held; reads = end_line_on format (part ++ cut) behind from cut_within ends.items to ends.reads }

    -- and its fault
    pub fails_on : IsEnded cut → (Holds : List Item → Type 0) (stop : TextStop) → IsStretch format (part ++ cut) from (length part) passed Holds (Err stop) → IsStretch format ((part ++ cut) ++ behind) from (length part) passed Holds (Err stop)
    fails_on ended Holds (stops.Fault fault) fails = fault_on format (part ++ cut) behind from cut_within (passed + fault.line) fault.cause (lines_ended part cut passed Before missing so_far ended) fails
    fails_on ended Holds stops.NoMemory fails = tt

module _ {Item : Type 0} (format : Format Item) (text : List ℕ) (from : Mark) (bytes passed : ℕ) (Holds : List Item → Type 0) where
  -- a stop of the rest of a text is one of the text,
  pub rest_stops : {Answer : Type 0} (IsReadAs : Answer → Type 0) (stop : TextStop) → ReadsRest format text from bytes passed Holds (Err stop) → ReadsOrStops format text from IsReadAs (Err (stop_after passed stop))
  rest_stops IsReadAs (stops.Fault fault) fails = fails
  rest_stops IsReadAs stops.NoMemory fails = fails

  -- and the number of its line is small
  pub stop_few : (stop : TextStop) → IsMark text from → length text ≤ 67108864 → ReadsRest format text from bytes passed Holds (Err stop) → IsStopBelow passed 4294967296 stop
  stop_few (stops.Fault fault) mark short fails = let few = fault_few format text from (passed + fault.line) fault.cause mark fails in omega (arith, few, short)
  stop_few stops.NoMemory mark short fails = tt

-- what a reader tells of the bytes behind a part, in the same context
pub told_behind : {Item Context : Type 0} (table : Context → Table Item) {now before : Context} → now ≡ before → (Told : Context → Type 0) (part cut text : List ℕ) (from mark : Mark) (passed : ℕ) (Holds : List Item → Type 0) (missing : Cause) →
    ReadsSoFar (table_format (table before)) part from Holds (behind_part part passed) missing → text ≡ cut → mark ≡ start →
    ((items : List Item) → text ≡ drop (length part) (part ++ cut) → length part ≤ length (part ++ cut) → Progress (table_format (table now)) (part ++ cut) from items (moved (length part) passed mark) → Holds items → missing ≡ missing_cause items → Told now) → Told before
told_behind table {now} {before} same Told part cut text from mark passed Holds missing so_far text_is mark_is told =
    let size : length (part ++ cut) ≡ length part + length cut = length-append part cut in
    let Here : Mark → Type 0 = λ m. ReadsSoFar (table_format (table before)) (part ++ cut) from Holds (moved (length part) passed m) missing in
    let rest : text ≡ drop (length part) (part ++ cut) = text_is ∙ sym (drop_at part cut (length part) refl) in
    told_here table same Told (part ++ cut) from (moved (length part) passed mark) Holds missing (subst Here (sym mark_is) (so_far_on (table_format (table before)) from part cut passed Holds missing so_far))
    (λ items progress held missing_is. told items rest (omega (arith, size)) progress held missing_is)

module _ {S : Type 0} (left : S → Option (List ℕ)) (faults : S → ℕ) {Item : Type 0} (format : Format Item) (front : List ℕ) (from : Mark) where
  -- The lines of a part of what came were taken, and the rest is kept.
  pub record CameSoFar (old now : S) (Holds : List Item → Type 0) (kept : List ℕ) (came passed : ℕ) (missing : Cause) : Type 0 where
    pub part : List ℕ
    pub taken : TakesOn (left old) (left now) front (part ++ kept)
    pub later : faults old ≤ faults now
    pub so_far : ReadsSoFar format part from Holds (behind_part part passed) missing
    pub count : came ≡ length part + length kept
    pub short : came ≤ 67108864
    pub few : passed ≤ length part

  -- at the start only the bytes before the mark are passed
  pub nothing_came : (source : S) (Holds : List Item → Type 0) → Holds [] → length front ≤ 67108864 → IsMark front from → 1 ≤ from.line → CameSoFar source source Holds (drop from.at front) (length front) (from.line - 1) NoHeader
  nothing_came source Holds empty short mark some =
      let part = take from.at front in
      let here = mark_within front from mark in
      let size : length part ≡ from.at = length-take-le from.at front here.0 in
      let rest : length (drop from.at front) ≡ length front - from.at = length-drop from.at front in
      let within : from.at ≤ length front = here.0 in
      let numbered : from.line ≤ from.at + 1 = here.1 in
      let same : from ≡ behind_part part (from.line - 1) = same_marks from (behind_part part (from.line - 1)) (omega (arith, size)) (omega (arith, some)) in
      let At : Mark → Type 0 = λ at. Progress format part from [] at in
      record {
        part = part;
        taken = ([], (comes_none left faults (length front) source short).taken, take-append-drop from.at front ∙ sym (append-nil front));
        later = le_refl (faults source);
        so_far = record { items = []; held = empty; progress = subst At same (progress_none format part from); missing_is = refl };
        count = omega (arith, size, rest, within);
        short = short;
        few = omega (arith, size, numbered);
      }

  module _ (old now : S) (Holds : List Item → Type 0) (kept : List ℕ) (came passed : ℕ) (missing : Cause) (before : CameSoFar old now Holds kept came passed missing) where
    -- a block more,
    pub block_came : (next : S) (came_after : ℕ) (more kept_after : List ℕ) → Comes left faults came came_after more now next → kept_after ≡ kept ++ more → CameSoFar old next Holds kept_after came_after passed missing
    block_came next came_after more kept_after comes is =
        let Taken : List ℕ → Type 0 = λ all. TakesOn (left old) (left next) front all in
        let onward : (before.part ++ kept) ++ more ≡ before.part ++ kept_after = append_assoc before.part kept more ∙ ap (λ l. before.part ++ l) (sym is) in
        let size : length kept_after ≡ length kept + length more = ap length is ∙ length-append kept more in
        let total : came_after ≡ came + length more = comes.count in
        let count : came ≡ length before.part + length kept = before.count in
        record {
          part = before.part;
          taken = subst Taken onward (takes_more (left old) (left now) (left next) front (before.part ++ kept) more before.taken comes.taken);
          later = le_trans before.later comes.later;
          so_far = before.so_far;
          count = omega (arith, size, total, count);
          short = comes.short;
          few = before.few;
        }

    -- whose lines are taken
    pub lines_taken : (count : ℕ) (After : List Item → Type 0) (end : Mark) (next : Cause) → count ≤ length kept → IsMark (take count kept) end → 1 ≤ end.line →
        IsStretch format (before.part ++ take count kept) from (length before.part) passed After (Ok (Left end next)) → CameSoFar old now After (drop count kept) came (passed + (end.line - 1)) next
    lines_taken count After end next within mark some left_over =
        let part = before.part in
        let cut = take count kept in
        let so_far = left_over.0 in
        let size : length (part ++ cut) ≡ length part + length cut = length-append part cut in
        let all : length part + end.at ≡ length (part ++ cut) = left_over.1 in
        let rest : length (drop count kept) ≡ length kept - count = length-drop count kept in
        let front_size : length cut ≡ count = length-take-le count kept within in
        let inside = mark_within cut end mark in
        let numbered : end.line ≤ end.at + 1 = inside.1 in
        let same : moved (length part) passed end ≡ behind_part (part ++ cut) (passed + (end.line - 1)) =
        same_marks (moved (length part) passed end) (behind_part (part ++ cut) (passed + (end.line - 1))) (omega (arith, all)) (omega (arith, some)) in
        let At : Mark → Type 0 = λ m. Progress format (part ++ cut) from so_far.items m in
        let Taken : List ℕ → Type 0 = λ l. TakesOn (left old) (left now) front l in
        let whole : part ++ kept ≡ (part ++ cut) ++ drop count kept = ap (λ l. part ++ l) (sym (take-append-drop count kept)) ∙ sym (append_assoc part cut (drop count kept)) in
        let total : came ≡ length part + length kept = before.count in
        let few : passed ≤ length part = before.few in
        record {
          part = part ++ cut;
          taken = subst Taken whole before.taken;
          later = before.later;
          so_far = record { items = so_far.items; held = so_far.held; progress = subst At same so_far.progress; missing_is = so_far.missing_is };
          count = omega (arith, size, rest, front_size, total, within);
          short = before.short;
          few = omega (arith, size, all, numbered, few);
        }

    -- where the source is at its end, it is the whole text;
    pub whole_came : IsAtEnd (left now) → IsWholeText (left old) (left now) front (before.part ++ kept)
    whole_came end =
        let size : length (before.part ++ kept) ≡ length before.part + length kept = length-append before.part kept in
        let count : came ≡ length before.part + length kept = before.count in
        let short : came ≤ 67108864 = before.short in
        record { taken = before.taken; at_end = end; short = omega (arith, size, count, short) }

    -- or the rest of it comes,
    pub rest_came : (next : S) (more : List ℕ) → Comes left faults came (came + length more) more now next → IsAtEnd (left next) → IsWholeText (left old) (left next) front ((before.part ++ kept) ++ more) × (faults old ≤ faults next)
    rest_came next more comes end =
        let size : length ((before.part ++ kept) ++ more) ≡ length (before.part ++ kept) + length more = length-append (before.part ++ kept) more in
        let here : length (before.part ++ kept) ≡ length before.part + length kept = length-append before.part kept in
        let count : came ≡ length before.part + length kept = before.count in
        let short : came + length more ≤ 67108864 = comes.short in (
          record { taken = takes_more (left old) (left now) (left next) front (before.part ++ kept) more before.taken comes.taken; at_end = end; short = omega (arith, size, here, count, short) },
          le_trans before.later comes.later,
        )

    more_taken : (next : S) (more : List ℕ) → Consumes (left now) (left next) more → TakesOn (left old) (left next) front ((before.part ++ kept) ++ more) × (length ((before.part ++ kept) ++ more) ≡ came + length more)
    more_taken next more taken =
        let size : length ((before.part ++ kept) ++ more) ≡ length (before.part ++ kept) + length more = length-append (before.part ++ kept) more in
        let here : length (before.part ++ kept) ≡ length before.part + length kept = length-append before.part kept in
        let count : came ≡ length before.part + length kept = before.count in
        (takes_more (left old) (left now) (left next) front (before.part ++ kept) more before.taken taken, omega (arith, size, here, count))

    -- or does not
    pub stops_coming : {Answer : Type 0} (IsReadAs : List ℕ → Answer → Type 0) (next : S) (stop : ReadStop) → StopsComing left faults came now next stop → ReadsInBlocks left faults format front from IsReadAs old next (Err (Unread stop))
    stops_coming IsReadAs next Failed h =
        let all = more_taken next h.0.0 h.0.1 in
        (((before.part ++ kept) ++ h.0.0, all.0, (let few = h.0.2 in omega (arith, all.1, few))), Rose-then before.later h.1)
    stops_coming IsReadAs next TooLong h = let all = more_taken next h.0.0 h.0.1 in (((before.part ++ kept) ++ h.0.0, all.0, all.1 ∙ h.0.2), le_trans before.later h.1)
    stops_coming IsReadAs next NoMemory h = let all = more_taken next h.0.0 h.0.1 in (((before.part ++ kept) ++ h.0.0, all.0, (let few = h.0.2 in omega (arith, all.1, few))), le_trans before.later h.1)

    module _ (count : ℕ) (more : List ℕ) (After : List Item → Type 0) where
      -- what comes behind whole lines
      behind_lines : (before.part ++ take count kept) ++ (drop count kept ++ more) ≡ (before.part ++ kept) ++ more
      behind_lines =
          sym (append_assoc (before.part ++ take count kept) (drop count kept) more)
          ∙ ap (λ l. l ++ more) (append_assoc before.part (take count kept) (drop count kept) ∙ ap (λ l. before.part ++ l) (take-append-drop count kept))

      -- does not change their own end line,
      pub whole_ends : (to : Mark) → EndsInto format (before.part ++ take count kept) from After to → ReadsInto format ((before.part ++ kept) ++ more) from After to
      whole_ends to ends =
          let Into : List ℕ → Type 0 = λ text. ReadsInto format text from After to in
          subst Into behind_lines (last_ends format ((before.part ++ take count kept) ++ (drop count kept ++ more)) from After to
          (ends_on format from before.part (take count kept) (drop count kept ++ more) passed Holds missing before.so_far After to ends))

      -- nor their fault
      pub whole_fails : IsEnded (take count kept) → (stop : TextStop) → IsStretch format (before.part ++ take count kept) from (length before.part) passed After (Err stop) → ReadsRest format ((before.part ++ kept) ++ more) from (length before.part) passed After (Err stop)
      whole_fails ended stop fails =
          let Stops : List ℕ → Type 0 = λ text. ReadsRest format text from (length before.part) passed After (Err stop) in
          subst Stops behind_lines (last_fails format ((before.part ++ take count kept) ++ (drop count kept ++ more)) from (length before.part) passed After stop
          (fails_on format from before.part (take count kept) (drop count kept ++ more) passed Holds missing before.so_far ended After stop fails))

  module _ (old new : S) (whole : List ℕ) (is : IsWholeText (left old) (left new) front whole) (bytes passed : ℕ) (Holds : List Item → Type 0) (stop : TextStop) (fails : ReadsRest format whole from bytes passed Holds (Err stop)) where
    -- a stop of the rest of the whole text has a line with a small number,
    pub whole_few : ((rest : List ℕ) → IsMark (front ++ rest) from) → IsStopBelow passed 4294967296 stop
    whole_few mark =
        let Here : List ℕ → Type 0 = λ text. IsMark text from in
        stop_few format whole from bytes passed Holds stop (subst Here (sym is.taken.2) (mark is.taken.0)) is.short fails

    -- and is one of the text
    pub whole_stops : {Answer : Type 0} (IsReadAs : List ℕ → Answer → Type 0) → faults old ≤ faults new → ReadsInBlocks left faults format front from IsReadAs old new (Err (stop_of_text (stop_after passed stop)))
    whole_stops IsReadAs same = stopped left faults format front from IsReadAs old new whole (stop_after passed stop) is same (rest_stops format whole from bytes passed Holds (IsReadAs whole) stop fails)
