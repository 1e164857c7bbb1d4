-- What holds of the items of a text that reads, and how many there are.
use Rattle.std.proofs.Common.{◌≡◌, ℕ, ◌≤◌, ◌<◌, Bool, not, List, [], ◌∷◌, ◌++◌, length, map, take, drop, Ok, inl, inr, sym, ap, subst, ◌∙◌, append_assoc, length-append, length-drop, length-take-le, arith}
use Rattle.std.proofs.lemmas.List.Sums.{length-filter, count_by-le-length}
use Rattle.std.proofs.lemmas.Option.{slice_get_within}
use Rattle.std.proofs.lemmas.List.{append-nil, length-map}
use Rattle.tile_io.specs.declared.mark.Mark.{Mark}
use Rattle.tile_io.specs.Lines.{TextLine, lines_from, words_of, kept_lines, is_skipped}
use Rattle.tile_io.specs.Formats.{Format, Passes, Reads}
use Rattle.tile_io.proofs.Marks.{after_lines}
use Rattle.tile_io.proofs.Outcomes.{nothing_from_nothing}
use Rattle.tile_io.proofs.Passing.{PassesAfter, passes_after, first_of_lines, line_item-kept}

-- what holds of no items, and of one more where it passes its check after those before it
module _ {Item : Type 0} (format : Format Item) (Holds : List Item → Type 0) (none : Holds [])
    (more : (earlier : List Item) (words : List (List ℕ)) (item : Item) → Holds earlier → format.check earlier words ≡ Ok item → Holds (earlier ++ item ∷ [])) where
  hold_after : (lines : List TextLine) (before items : List Item) → Holds before → PassesAfter format before lines items → Holds (before ++ items)
  hold_after [] before items h passed =
      let all : before ≡ before ++ items = sym (ap (λ l. before ++ l) (nothing_from_nothing format before items passed) ∙ append-nil before) in
      subst Holds all h
  hold_after (line ∷ lines) before items h passed = elim (first_of_lines format before line lines items passed) [
    | inl skip ↦ hold_after lines before items h skip.1
    | inr keep ↦
        let kept = line_item-kept format before line keep.0 keep.3 in
        let here = more before (words_of line.bytes) keep.0 h kept.2 in
        let all : (before ++ keep.0 ∷ []) ++ keep.1 ≡ before ++ items = append_assoc before (keep.0 ∷ []) keep.1 ∙ ap (λ l. before ++ l) (sym keep.2) in
        subst Holds all (hold_after lines (before ++ keep.0 ∷ []) keep.1 here keep.5)
  ]

  passed_hold : (lines : List TextLine) (items : List Item) → Passes format lines items → Holds items
  passed_hold lines items passed = hold_after lines [] items none (passes_after format lines items passed)

  -- holds of all items of a text
  pub reads_hold : (text : List ℕ) (from to : Mark) (items : List Item) → Reads format text from items to → Holds items
  reads_hold text from to items (inl h) =
      let earlier = passed_hold (take h.count (lines_from text from)) h.earlier h.passed in
      let kept = line_item-kept format h.earlier h.line h.last h.item in
      subst Holds (sym h.whole) (more h.earlier (words_of h.line.bytes) h.last earlier kept.2)
  reads_hold text from to items (inr h) = passed_hold (lines_from text from) items h.passed

few_kept : (lines : List TextLine) → length (kept_lines lines) ≤ length lines
unfolding kept_lines
few_kept lines =
    let words = map (λ line. words_of line.bytes) lines in
    let kept : List (List ℕ) → Bool = λ w. not (is_skipped w) in
    omega (arith, length-filter kept words, count_by-le-length kept words, length-map lines (λ line. words_of line.bytes))

few_lines : (text : List ℕ) (from : Mark) → length (lines_from text from) ≤ length text
few_lines text from =
    let after = after_lines (length (lines_from text from)) (drop from.at text) (omega arith) in
    omega (arith, after.enough, after.within, length-drop from.at text)

module _ {Item : Type 0} (format : Format Item) where
  -- a text has at least as many bytes as items
  pub reads_few : (text : List ℕ) (from to : Mark) (items : List Item) → Reads format text from items to → length items ≤ length text
  reads_few text from to items (inl h) =
      let lines = lines_from text from in
      let here : h.count < length lines = slice_get_within lines h.count h.line h.next in
      let front : length (take h.count lines) ≡ h.count = length-take-le h.count lines (omega (arith, here)) in
      let all : length items ≡ length (h.earlier ++ h.last ∷ []) = ap length h.whole in
      omega (arith, here, front, all, length-append h.earlier (h.last ∷ []), h.passed.count, few_kept (take h.count lines), few_lines text from)
  reads_few text from to items (inr h) = omega (arith, h.passed.count, few_kept (lines_from text from), few_lines text from)
