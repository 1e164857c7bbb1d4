-- The lines of a text are all of it.
use Rattle.std.proofs.Common.{◌≡◌, ℕ, ◌+◌, ◌-◌, ◌≤◌, List, [], ◌∷◌, length, take, drop, length-drop, inl, inr, refl, sym, ap, ◌∙◌, arith}
use Rattle.std.proofs.lemmas.Bool.{cases_lt}
use Rattle.std.proofs.Math.Seq.{take-length}
use Rattle.std.proofs.lemmas.List.{drop_all}
use Rattle.std.specs.List.{position_or_len}
use Rattle.tile_io.specs.declared.mark.Mark.{Mark}
use Rattle.tile_io.specs.Lines.{lines_of, lines_from, text_of}
use Rattle.tile_io.proofs.Cuts.{is_newline, lines-ended, lines-unended}
use Rattle.tile_io.proofs.Marks.{after_lines}

no_lines : (text : List ℕ) → lines_of text ≡ [] → length text ≡ 0
no_lines [] e = refl
no_lines (b ∷ bs) e = elim (cases_lt (position_or_len is_newline (b ∷ bs)) (length (b ∷ bs))) [
  | inl short ↦ (let some = sym (lines-ended (b ∷ bs) short) ∙ e in absurd (cc some))
  | inr past ↦ (let some = sym (lines-unended (b ∷ bs) (omega arith) past) ∙ e in absurd (cc some))
]

-- the lines of a text are all of it
whole_length : (text : List ℕ) → length (text_of (lines_of text)) ≡ length text
whole_length text =
    let lines = lines_of text in
    let after = after_lines (length lines) text (omega arith) in
    let all : take (length lines) lines ≡ lines = take-length lines in
    let none : drop (length lines) lines ≡ [] = drop_all (length lines) lines (omega arith) in
    let size : length (text_of (take (length lines) lines)) ≡ length (text_of lines) = ap (λ l. length (text_of l)) all in
    let left : length (drop (length (text_of (take (length lines) lines))) text) ≡ 0 = no_lines (drop (length (text_of (take (length lines) lines))) text) (after.rest ∙ none) in
    let cut : length (drop (length (text_of (take (length lines) lines))) text) ≡ length text - length (text_of (take (length lines) lines)) = length-drop (length (text_of (take (length lines) lines))) text in
    let within : length (text_of (take (length lines) lines)) ≤ length text = after.within in
    omega (arith, size, left, cut, within)

-- the mark after all lines is at the end of the text
pub end_place : (text : List ℕ) (from : Mark) → from.at ≤ length text → length text ≡ from.at + length (text_of (take (length (lines_from text from)) (lines_from text from)))
end_place text from within =
    let lines = lines_from text from in
    let all : length (text_of (take (length lines) lines)) ≡ length (text_of lines) = ap (λ l. length (text_of l)) (take-length lines) in
    let whole : length (text_of lines) ≡ length (drop from.at text) = whole_length (drop from.at text) in
    let cut : length (drop from.at text) ≡ length text - from.at = length-drop from.at text in
    omega (arith, all, whole, cut, within)
