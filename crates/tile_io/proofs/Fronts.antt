-- A line that is taken from the front of what is left of a text.
use Rattle.std.proofs.Common.{◌≡◌, ℕ, ◌+◌, ◌-◌, ◌≤◌, Bool, true, false, List, ◌∷◌, ◌++◌, length, take, drop, Option, Result, Some, None, refl, sym, ap, subst, ◌∙◌, arith, length-append, length-drop}
use Rattle.std.proofs.lemmas.List.{drop-drop, take_at, drop_at}
use Rattle.std.specs.Prelude.{MatchOption}
use Rattle.std.proofs.lemmas.Option.{MatchOption-at_some, MatchOption-at_none}
use Rattle.tile_io.specs.declared.line_reader.Front.{Front}
use Rattle.tile_io.specs.declared.line_reader.LineStop.{LineStop}
use Rattle.tile_io.specs.declared.mark.Mark.{Mark}
use Rattle.tile_io.specs.declared.stretch.Turn.{Turn}
use Rattle.tile_io.specs.Lines.{lines_of, lines_from, words_of, is_skipped, BeginsWithLine}
use Rattle.tile_io.specs.NextLine.{IsNextLine, line_bytes}
use Rattle.tile_io.specs.Checks.{Table, check_line}
use Rattle.tile_io.specs.LineReader.{TakesItem, TakesFront}
use Rattle.tile_io.specs.Inner.LineAt.{IsLineAt}
use Rattle.tile_io.specs.Inner.Turns.{TakesLine, FindsNone, turn_at}
use Rattle.tile_io.proofs.Spelled.{lines_then}
use Rattle.tile_io.proofs.Walks.{next_found, skips_none}

module _ (text : List ℕ) (from : Mark) (front : Front) (line : List ℕ) (begins : BeginsWithLine (drop from.at text) line) (count : front.length ≡ length line + 1) where
  -- it has a place in the text
  pub front_within : from.at + front.length ≤ length text
  front_within =
      let left : length (drop from.at text) ≡ length text - from.at = length-drop from.at text in
      let whole : length (drop from.at text) ≡ length line + length (10 ∷ begins.behind) = ap length begins.whole ∙ length-append line (10 ∷ begins.behind) in
      omega (arith, left, whole, count)

  pub front_bytes : line_bytes text (turn_at from front).line ≡ line
  front_bytes =
      let size : from.at + front.length - 1 - from.at ≡ length line = omega (arith, count) in
      ap (λ n. take n (drop from.at text)) size ∙ ap (λ l. take (length line) l) begins.whole ∙ take_at line (10 ∷ begins.behind) (length line) refl

  behind_is : drop (from.at + front.length) text ≡ begins.behind
  behind_is =
      let onward : from.at + front.length ≡ from.at + (length line + 1) = omega (arith, count) in
      ap (λ n. drop n text) onward ∙ sym (drop-drop (length line + 1) from.at text) ∙ ap (λ l. drop (length line + 1) l) begins.whole
      ∙ sym (drop-drop 1 (length line) (line ++ 10 ∷ begins.behind)) ∙ ap (λ l. drop 1 l) (drop_at line (10 ∷ begins.behind) (length line) refl)

  -- the text's next line is this one
  pub front_next : IsNextLine text from (turn_at from front).line
  front_next =
      let made = (turn_at from front).line in
      let within : from.at + front.length ≤ length text = front_within in
      let At : List ℕ → List ℕ → Type 0 = λ bytes rest. lines_from text from ≡ record { bytes = bytes; ended = true } ∷ lines_of rest in
      let here : At line begins.behind = ap lines_of begins.whole ∙ lines_then line begins.behind begins.no_newline in
      let Short : List ℕ → Type 0 = λ bytes. length bytes ≤ 256 in
      let Kept : List ℕ → Type 0 = λ bytes. is_skipped (words_of bytes) ≡ false in
      let at : IsLineAt text from made =
      record {
        first = subst (λ bytes. At bytes (drop (from.at + front.length) text)) (sym front_bytes) (subst (At line) (sym behind_is) here);
        plain = subst Short (sym front_bytes) begins.plain;
        start = refl;
        order = omega (arith, count);
        end = omega (arith, within, count);
        number = refl;
        next_at = omega (arith, count);
        next_line = refl;
      }
      in
      next_found text from from made (skips_none text from) at (subst Kept (sym front_bytes) begins.kept)

module _ {Item : Type 0} (table : Table Item) (Before After : List Item → Type 0) (text : List ℕ) (from : Mark) where
  -- so it is what the reader takes
  pub front_turn : (front : Front) → TakesFront table Before After (drop from.at text) front → TakesLine table Before After text from (turn_at from front)
  front_turn front took =
      let Taken : List ℕ → Type 0 = λ bytes. (items : List Item) → Before items → TakesItem table.is_end After items (check_line table.keywords items (words_of bytes)) front.done in
      record {
        next = front_next text from front took.line took.begins took.count;
        taken = subst Taken (sym (front_bytes text from front took.line took.begins took.count)) took.taken;
      }

  -- and what it is told
  pub told_turn : (turn : Turn) {done : Result Bool LineStop} → turn.done ≡ done → TakesLine table Before After text from turn → TakesLine table Before After text from (record { line = turn.line; done = done })
  told_turn turn {done} done_is taken = subst (λ d. TakesLine table Before After text from (record { line = turn.line; done = d })) done_is taken

  none_taken : {found : Option Turn} → found ≡ None → MatchOption found (FindsNone table Before After text from) (TakesLine table Before After text from) → FindsNone table Before After text from
  none_taken is taken = MatchOption-at_none (FindsNone table Before After text from) (TakesLine table Before After text from) is taken

module _ {Item Context Reader : Type 0} (table : Context → Table Item) (context : Reader → Context) (holds : Reader → List Item → Type 0) (text : List ℕ) (from : Mark) (start : Reader) where
  -- a reader took the next line
  pub record TookTurn (after : Reader) (turn : Turn) : Type 0 where
    pub line : TakesLine (table (context start)) (holds start) (holds after) text from turn
    pub same : context after ≡ context start

  -- no line is left for it
  pub record TookNone (after : Reader) : Type 0 where
    pub none : FindsNone (table (context start)) (holds start) (holds after) text from
    pub same : context after ≡ context start

  module _ (left after : Reader) (holds_on : (items : List Item) → holds start items → holds left items) (context_left : context left ≡ context start) (context_after : context after ≡ context left) where
    -- the same where it left the front and takes the line by its bytes
    pub took_bytes : (turn : Turn) {found : Option Turn} → found ≡ Some turn → MatchOption found (FindsNone (table (context left)) (holds left) (holds after) text from) (TakesLine (table (context left)) (holds left) (holds after) text from) → TookTurn after turn
    took_bytes turn is taken =
        let Took : Context → Type 0 = λ x. TakesLine (table x) (holds left) (holds after) text from turn in
        let line = subst Took context_left (MatchOption-at_some (FindsNone (table (context left)) (holds left) (holds after) text from) (TakesLine (table (context left)) (holds left) (holds after) text from) turn is taken) in
        record { line = record { next = line.next; taken = λ items held. line.taken items (holds_on items held) }; same = context_after ∙ context_left }

    pub took_none : {found : Option Turn} → found ≡ None → MatchOption found (FindsNone (table (context left)) (holds left) (holds after) text from) (TakesLine (table (context left)) (holds left) (holds after) text from) → TookNone after
    took_none is taken =
        let none = none_taken (table (context left)) (holds left) (holds after) text from is taken in
        record { none = record { skipped = none.skipped; left = λ items held. none.left items (holds_on items held) }; same = context_after ∙ context_left }
