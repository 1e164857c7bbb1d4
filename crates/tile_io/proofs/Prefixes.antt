-- What the lines of a text say of each longer text that it begins.
use Rattle.std.proofs.Common.{◌≡◌, ℕ, zero, suc, ◌+◌, ◌≤◌, ◌<◌, Bool, true, false, not, cond, List, [], ◌∷◌, ◌++◌, length, take, drop, get_or, slice_get, Option, Some, None, Result, Err, All, refl, sym, ap, subst, ◌∙◌, arith, inl, inr, length-append}
use Rattle.std.specs.Option.{option_map_or}
use Rattle.std.specs.List.{position_or_len, slice_split}
use Rattle.std.proofs.lemmas.Bool.{cases_lt, ne_eqb}
use Rattle.std.proofs.lemmas.List.{nil_from_length, drop_all, take-append-le, drop-append-le, get_or-take}
use Rattle.std.proofs.lemmas.List.Folds.{prefix_len-append}
use Rattle.std.proofs.lemmas.List.Splits.{slice_split-cons_yes, slice_split-cons_no}
use Rattle.std.proofs.lemmas.List.Elements.{All-nil, All-cons, All-head, All-tail, All-more}
use Rattle.std.proofs.lemmas.Option.{slice_get_within, slice_get-get_or, get_or_from_slice_get}
use Rattle.tile_io.specs.declared.fault.Cause.{Cause}
use Rattle.tile_io.specs.declared.fault.Cause.TheVariants.{LineTooLong, NoEnd, NoHeader}
use Rattle.tile_io.specs.declared.mark.Mark.{Mark}
use Rattle.tile_io.specs.Lines.{TextLine, lines_of, lines_of_parts, lines_from, plain_cause, text_of, kept_lines, is_skipped, words_of}
use Rattle.tile_io.specs.NextLine.{IsMark}
use Rattle.tile_io.specs.Formats.{Format, Passes, ReadsToEndLine, FailsAtLine, Fault, line_item, missing_cause}
use Rattle.tile_io.specs.Inner.Blocks.{IsEnded}
use Rattle.tile_io.specs.Inner.Stretches.{Progress}
use Rattle.tile_io.proofs.Cuts.{is_newline, lines-nil, lines-ended, lines-unended, parts_more}
use Rattle.tile_io.proofs.Passing.{line_item-kept, kept_lines-skipped, kept_lines-kept}
use Rattle.tile_io.proofs.Progress.{reads_is_mark}

-- each of the lines has its newline
abbrev pub AllEnded : List TextLine → Type 0
AllEnded lines = All (λ line. line.ended ≡ true) lines

-- the first newline of a text is that of each text that it begins
newline_on : (text behind : List ℕ) → position_or_len is_newline text < length text → position_or_len is_newline (text ++ behind) ≡ position_or_len is_newline text
newline_on text behind short =
    let n = position_or_len is_newline text in
    let before_end = ne_eqb n (length text) (λ e. omega (arith, short, e)) in
    prefix_len-append (λ b. not (is_newline b)) text behind ∙ rw before_end refl

-- so is its first line
first_on : (text behind : List ℕ) → position_or_len is_newline text < length text →
    lines_of (text ++ behind) ≡ record { bytes = take (position_or_len is_newline text) text; ended = true } ∷ lines_of (drop (position_or_len is_newline text + 1) text ++ behind)
first_on text behind short =
    let n = position_or_len is_newline text in
    let First : ℕ → Type 0 = λ m. lines_of (text ++ behind) ≡ record { bytes = take m (text ++ behind); ended = true } ∷ lines_of (drop (m + 1) (text ++ behind)) in
    let place = newline_on text behind short in
    let size : length (text ++ behind) ≡ length text + length behind = length-append text behind in
    let within : position_or_len is_newline (text ++ behind) < length (text ++ behind) = omega (arith, short, place, size) in
    let bytes : take n (text ++ behind) ≡ take n text = take-append-le n text behind (omega (arith, short)) in
    let rest : drop (n + 1) (text ++ behind) ≡ drop (n + 1) text ++ behind = drop-append-le (n + 1) text behind (omega (arith, short)) in
    let whole = subst First place (lines-ended (text ++ behind) within) in
    let Bytes : List ℕ → Type 0 = λ l. lines_of (text ++ behind) ≡ record { bytes = l; ended = true } ∷ lines_of (drop (n + 1) (text ++ behind)) in
    let Rest : List ℕ → Type 0 = λ l. lines_of (text ++ behind) ≡ record { bytes = take n text; ended = true } ∷ lines_of l in
    subst Rest rest (subst Bytes bytes whole)

-- lines that a newline ends are the first lines of each text that begins so
abbrev pub AreFirstOn : List TextLine → List TextLine → ℕ → Type 0
AreFirstOn short long count = (count ≤ length long) × (take count long ≡ take count short)

lines_ended_on : (text behind : List ℕ) (count : ℕ) → position_or_len is_newline text < length text → suc count ≤ length (lines_of text) → AllEnded (take (suc count) (lines_of text)) →
    (count ≤ length (lines_of (drop (position_or_len is_newline text + 1) text)) → AllEnded (take count (lines_of (drop (position_or_len is_newline text + 1) text))) →
    AreFirstOn (lines_of (drop (position_or_len is_newline text + 1) text)) (lines_of (drop (position_or_len is_newline text + 1) text ++ behind)) count) →
    AreFirstOn (lines_of text) (lines_of (text ++ behind)) (suc count)
lines_ended_on text behind count short most ended later =
    let n = position_or_len is_newline text in
    let line : TextLine = record { bytes = take n text; ended = true } in
    let lines = lines_of (drop (n + 1) text) in
    let cut : lines_of text ≡ line ∷ lines = lines-ended text short in
    let cut_on : lines_of (text ++ behind) ≡ line ∷ lines_of (drop (n + 1) text ++ behind) = first_on text behind short in
    let Within : List TextLine → Type 0 = λ l. suc count ≤ length l in
    let Ended : List TextLine → Type 0 = λ l. AllEnded (take (suc count) l) in
    let fewer : suc count ≤ suc (length lines) = subst Within cut most in
    let ended_here : AllEnded (line ∷ take count lines) = subst Ended cut ended in
    let rest = later (omega (arith, fewer)) (All-tail (λ l. l.ended ≡ true) line (take count lines) ended_here) in
    let within : count ≤ length (lines_of (drop (n + 1) text ++ behind)) = rest.0 in
    let Here : List TextLine → List TextLine → Type 0 = λ a b. AreFirstOn a b (suc count) in
    let made : Here (line ∷ lines) (line ∷ lines_of (drop (n + 1) text ++ behind)) = (omega (arith, within), ap (λ l. line ∷ l) rest.1) in
    subst (λ a. Here a (lines_of (text ++ behind))) (sym cut) (subst (Here (line ∷ lines)) (sym cut_on) made)

pub lines_on : (front behind : List ℕ) (count : ℕ) → count ≤ length (lines_of front) → AllEnded (take count (lines_of front)) → AreFirstOn (lines_of front) (lines_of (front ++ behind)) count
lines_on front behind zero most ended = (omega arith, refl)
lines_on [] behind (suc count) most ended = let wrong : suc count ≤ 0 = rw lines-nil at most in absurd (omega (arith, wrong))
lines_on (b ∷ bs) behind (suc count) most ended = elim (cases_lt (position_or_len is_newline (b ∷ bs)) (length (b ∷ bs))) [
  | inl short ↦ lines_ended_on (b ∷ bs) behind count short most ended (lines_on (drop (position_or_len is_newline (b ∷ bs) + 1) (b ∷ bs)) behind count)
  | inr past ↦
      let line : TextLine = record { bytes = b ∷ bs; ended = false } in
      let Ended : List TextLine → Type 0 = λ l. AllEnded (take (suc count) l) in
      let only : AllEnded (line ∷ take count []) = subst Ended (lines-unended (b ∷ bs) (omega arith) past) ended in
      let wrong : false ≡ true = All-head (λ l. l.ended ≡ true) line (take count []) only in
      absurd (cc wrong)
]

-- so they are from a mark on
rest_on : (front behind : List ℕ) (from : Mark) → from.at ≤ length front → lines_of (drop from.at front ++ behind) ≡ lines_from (front ++ behind) from
rest_on front behind from within = ap lines_of (sym (drop-append-le from.at front behind within))

pub lines_from_on : (front behind : List ℕ) (from : Mark) → from.at ≤ length front → (count : ℕ) → count ≤ length (lines_from front from) → AllEnded (take count (lines_from front from)) →
    AreFirstOn (lines_from front from) (lines_from (front ++ behind) from) count
lines_from_on front behind from within count most ended =
    let Here : List TextLine → Type 0 = λ l. AreFirstOn (lines_from front from) l count in
    subst Here (rest_on front behind from within) (lines_on (drop from.at front) behind count most ended)

-- some line among them
get_on : (short long : List TextLine) (i : ℕ) (line : TextLine) → slice_get short i ≡ Some line → AreFirstOn short long (i + 1) → slice_get long i ≡ Some line
get_on short long i line e first =
    let within : i + 1 ≤ length long = first.0 in
    let same : get_or long i line ≡ line =
    sym (get_or-take (i + 1) long i line (omega arith)) ∙ ap (λ l. get_or l i line) first.1 ∙ get_or-take (i + 1) short i line (omega arith) ∙ get_or_from_slice_get short i line line e in
    slice_get-get_or long i line (omega (arith, within)) ∙ ap (λ l. Some l) same

ended_more : (lines : List TextLine) (i : ℕ) (line : TextLine) → slice_get lines i ≡ Some line → AllEnded (take i lines) → line.ended ≡ true → AllEnded (take (i + 1) lines)
ended_more lines i line e before ended =
    let Ended : TextLine → Type 0 = λ l. l.ended ≡ true in
    All-more Ended lines i line (slice_get_within lines i line e) before (subst Ended (sym (get_or_from_slice_get lines i line line e)) ended)

pub line_from_on : (front behind : List ℕ) (from : Mark) → from.at ≤ length front → (i : ℕ) (line : TextLine) → slice_get (lines_from front from) i ≡ Some line → AllEnded (take i (lines_from front from)) → line.ended ≡ true →
    slice_get (lines_from (front ++ behind) from) i ≡ Some line
line_from_on front behind from within i line e before ended =
    let lines = lines_from front from in
    let less : i < length lines = slice_get_within lines i line e in
    get_on lines (lines_from (front ++ behind) from) i line e (lines_from_on front behind from within (i + 1) (omega (arith, less)) (ended_more lines i line e before ended))

plain_by : (long ended : Bool) → cond long (Some LineTooLong) (cond ended None (Some NoEnd)) ≡ None → ended ≡ true
plain_by true ended e = absurd (cc e)
plain_by false true e = refl
plain_by false false e = absurd (cc e)

-- lines that pass have their newlines
pub plain_ended : (line : TextLine) → plain_cause line ≡ None → line.ended ≡ true
unfolding plain_cause
plain_ended line e = plain_by _ line.ended e

pub passed_ended : (lines : List TextLine) → All (λ line. plain_cause line ≡ None) lines → AllEnded lines
passed_ended lines passed k d less = plain_ended (get_or lines k d) (passed k d less)

-- what the reader has come to in a text holds of each longer text
module _ {Item : Type 0} (format : Format Item) (front behind : List ℕ) (from : Mark) (within : from.at ≤ length front) where
  pub progress_on : (items : List Item) (at : Mark) → Progress format front from items at → Progress format (front ++ behind) from items at
  progress_on items at h =
      let lines = lines_from front from in
      let MarkThere : List TextLine → Type 0 = λ l. at ≡ (record { at = from.at + length (text_of l); line = from.line + h.count }) in
      let first = lines_from_on front behind from within h.count h.within (passed_ended (take h.count lines) h.passed.plain) in
      let Here : List TextLine → Type 0 = λ l. Passes format l items in
      record {
        count = h.count;
        within = first.0;
        passed = subst Here (sym first.1) h.passed;
        place = subst MarkThere (sym first.1) h.place;
      }

  -- so does its own end line,
  pub end_line_on : (items : List Item) (to : Mark) → ReadsToEndLine format (lines_from front from) from items to → ReadsToEndLine format (lines_from (front ++ behind) from) from items to
  end_line_on items to h =
      let lines = lines_from front from in
      let less : h.count < length lines = slice_get_within lines h.count h.line h.next in
      let before = passed_ended (take h.count lines) h.passed.plain in
      let ended = plain_ended h.line (line_item-kept format h.earlier h.line h.last h.item).0 in
      let first = lines_from_on front behind from within h.count (omega (arith, less)) before in
      let through = lines_from_on front behind from within (h.count + 1) (omega (arith, less)) (ended_more lines h.count h.line h.next before ended) in
      let Here : List TextLine → Type 0 = λ l. Passes format l h.earlier in
      let MarkThere : List TextLine → Type 0 = λ l. to ≡ (record { at = from.at + length (text_of l); line = from.line + (h.count + 1) }) in
      record {
        count = h.count;
        earlier = h.earlier;
        line = h.line;
        last = h.last;
        passed = subst Here (sym first.1) h.passed;
        next = get_on lines (lines_from (front ++ behind) from) h.count h.line h.next through;
        item = h.item;
        ends = h.ends;
        whole = h.whole;
        place = subst MarkThere (sym through.1) h.place;
      }

  -- and a fault at a line that has its newline
  pub fails_on : (number : ℕ) (cause : Cause) (fails : FailsAtLine format (lines_from front from) from number cause) → fails.line.ended ≡ true → FailsAtLine format (lines_from (front ++ behind) from) from number cause
  fails_on number cause h ended =
      let lines = lines_from front from in
      let less : h.count < length lines = slice_get_within lines h.count h.line h.next in
      let before = passed_ended (take h.count lines) h.passed.plain in
      let first = lines_from_on front behind from within h.count (omega (arith, less)) before in
      let Here : List TextLine → Type 0 = λ l. Passes format l h.earlier in
      record {
        count = h.count;
        earlier = h.earlier;
        line = h.line;
        passed = subst Here (sym first.1) h.passed;
        next = line_from_on front behind from within h.count h.line h.next before ended;
        fails = h.fails;
        place = h.place;
      }

  pub fault_on : (number : ℕ) (cause : Cause) → AllEnded (lines_from front from) → FailsAtLine format (lines_from front from) from number cause → FailsAtLine format (lines_from (front ++ behind) from) from number cause
  fault_on number cause ended h =
      let lines = lines_from front from in
      let Ended : TextLine → Type 0 = λ l. l.ended ≡ true in
      let here = ended h.count h.line (slice_get_within lines h.count h.line h.next) in
      fails_on number cause h (subst Ended (get_or_from_slice_get lines h.count h.line h.line h.next) here)

  -- the mark behind the own end line is a mark of the longer text,
  pub end_mark_on : (items : List Item) (to : Mark) → IsMark (front ++ behind) from → ReadsToEndLine format (lines_from front from) from items to → IsMark (front ++ behind) to
  end_mark_on items to mark h = reads_is_mark format (front ++ behind) from to items mark (inl (end_line_on items to h))

-- the last part of a text that ends with a newline is empty
split_end_by : (x : ℕ) (most : List ℕ) (b : Bool) → is_newline x ≡ b → (first : List ℕ) (more : List (List ℕ)) → slice_split is_newline (most ++ 10 ∷ []) ≡ first ∷ (more ++ [] ∷ []) →
    (head : List ℕ) × (tail : List (List ℕ)) × (slice_split is_newline (x ∷ (most ++ 10 ∷ [])) ≡ head ∷ (tail ++ [] ∷ []))
split_end_by x most true e first more h = ([], first ∷ more, slice_split-cons_yes is_newline x (most ++ 10 ∷ []) e ∙ ap (λ l. [] ∷ l) h)
split_end_by x most false e first more h = (x ∷ first, more, slice_split-cons_no is_newline x (most ++ 10 ∷ []) e ∙ rw h refl)

split_end : (most : List ℕ) → (first : List ℕ) × (more : List (List ℕ)) × (slice_split is_newline (most ++ 10 ∷ []) ≡ first ∷ (more ++ [] ∷ []))
split_end [] = ([], [], refl)
split_end (x ∷ most) = let rest = split_end most in split_end_by x most (is_newline x) refl rest.0 rest.1 rest.2

parts_ended : (first : List ℕ) (more : List (List ℕ)) → AllEnded (lines_of_parts (first ∷ (more ++ [] ∷ [])))
parts_ended first [] =
    let Ended : TextLine → Type 0 = λ l. l.ended ≡ true in
    subst AllEnded (sym (parts_more first [] [])) (All-cons Ended (record { bytes = first; ended = true }) [] refl (All-nil Ended))
parts_ended first (next ∷ more) =
    let Ended : TextLine → Type 0 = λ l. l.ended ≡ true in
    let rest = parts_ended next more in
    subst AllEnded (sym (parts_more first next (more ++ [] ∷ []))) (All-cons Ended (record { bytes = first; ended = true }) (lines_of_parts (next ∷ (more ++ [] ∷ []))) refl rest)

-- a text that is empty, or ends with a newline, has no other lines
pub all_ended : (text : List ℕ) → IsEnded text → AllEnded (lines_of text)
unfolding lines_of
all_ended text (inl none) = subst (λ l. AllEnded (lines_of l)) (sym none) (All-nil (λ line. line.ended ≡ true))
all_ended text (inr some) =
    let parts = split_end some.0 in
    let cut : lines_of text ≡ lines_of_parts (parts.0 ∷ (parts.1 ++ [] ∷ [])) = ap lines_of some.1 ∙ ap lines_of_parts parts.2 in
    subst AllEnded (sym cut) (parts_ended parts.0 parts.1)

rest_ended : (n : ℕ) (text : List ℕ) → IsEnded text → IsEnded (drop n text)
rest_ended n text (inl none) = inl (ap (λ l. drop n l) none ∙ drop_all n [] (omega arith))
rest_ended n text (inr some) = elim (cases_lt (length some.0) n) [
  | inl past ↦
      let size : length (some.0 ++ 10 ∷ []) ≡ length some.0 + 1 = length-append some.0 (10 ∷ []) in
      inl (ap (λ l. drop n l) some.1 ∙ drop_all n (some.0 ++ 10 ∷ []) (omega (arith, size, past)))
  | inr within ↦ inr (drop n some.0, ap (λ l. drop n l) some.1 ∙ drop-append-le n some.0 (10 ∷ []) within)
]

-- a line that fails for want of a header has its newline
headed_by : {Item : Type 0} (long ended : Bool) (found : Result (Option Item) Cause) → option_map_or Err (cond long (Some LineTooLong) (cond ended None (Some NoEnd))) found ≡ Err NoHeader → ended ≡ true
headed_by true ended found e = absurd (cc e)
headed_by false true found e = refl
headed_by false false found e = absurd (cc e)

headed : {Item : Type 0} (format : Format Item) (earlier : List Item) (line : TextLine) → line_item format earlier line ≡ Err NoHeader → line.ended ≡ true
unfolding line_item plain_cause
headed format earlier line e = headed_by _ line.ended _ e

-- lines of which one is not skipped
kept_none_by : (first : TextLine) (lines : List TextLine) (skipped : Bool) → is_skipped (words_of first.bytes) ≡ skipped → (kept_lines lines ≡ [] → ⊥) → kept_lines (first ∷ lines) ≡ [] → ⊥
kept_none_by first lines true is later none = later (sym (kept_lines-skipped first lines is) ∙ none)
kept_none_by first lines false is later none = absurd (cc (sym (kept_lines-kept first lines is) ∙ none))

kept_none : (lines : List TextLine) (i : ℕ) (line : TextLine) → slice_get lines i ≡ Some line → is_skipped (words_of line.bytes) ≡ false → kept_lines lines ≡ [] → ⊥
kept_none [] i line is kept none = absurd (cc is)
kept_none (first ∷ lines) zero line is kept none =
    let same : first ≡ line = cc is in
    absurd (cc (sym (kept_lines-kept first lines (ap (λ (l : TextLine). is_skipped (words_of l.bytes)) same ∙ kept)) ∙ none))
kept_none (first ∷ lines) (suc i) line is kept none = kept_none_by first lines (is_skipped (words_of first.bytes)) refl (kept_none lines i line is kept) none

-- A text that reads in one format up to its own end line, and has no header of another, has none of it in each longer text.
nothing_missed : {Item : Type 0} (items : List Item) → NoHeader ≡ missing_cause items → length items ≡ 0
nothing_missed [] e = refl
nothing_missed (item ∷ items) e = absurd (cc e)

pub header_on : {Item Other : Type 0} (format : Format Item) (other : Format Other) (front behind : List ℕ) (from to : Mark) (items : List Other) (number : ℕ) → from.at ≤ length front →
    ReadsToEndLine other (lines_from front from) from items to → Fault format front from number NoHeader → Fault format (front ++ behind) from number NoHeader
header_on format other front behind from to items number within reads (inl fails) = inl (fails_on format front behind from within number NoHeader fails (headed format fails.earlier fails.line fails.fails))
header_on format other front behind from to items number within reads (inr missing) =
    let none : length (kept_lines (lines_from front from)) ≡ 0 = sym missing.passed.count ∙ nothing_missed missing.earlier missing.missing in
    absurd (kept_none (lines_from front from) reads.count reads.line reads.next (line_item-kept other reads.earlier reads.line reads.last reads.item).1 (nil_from_length (kept_lines (lines_from front from)) none))
