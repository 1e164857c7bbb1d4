-- The words of a line are taken to hand one by one.
use Rattle.std.proofs.Common.{◌≡◌, ◌≢◌, ℕ, ◌+◌, ◌-◌, ◌<◌, ◌≤◌, List, [], ◌∷◌, length, take, drop, get_or, slice_range, sym, ap, subst, ◌∙◌, arith, length-drop, get_or-set_same, get_or-set_other, below_more}
use Rattle.std.proofs.Math.ListN.{set, length-set}
use Rattle.std.proofs.lemmas.List.{drop_more, drop_all, drop-drop, get_or-drop}
use Rattle.std.proofs.lemmas.List.Sums.{position_or_len_is}
use Rattle.std.proofs.lemmas.Bool.{ne_eqb}
use Rattle.std.specs.List.{position_or_len}
use Rattle.tile_io.specs.Lines.{words_of}
use Rattle.tile_io.specs.Checks.{field}
use Rattle.tile_io.specs.Inner.AtHand.{StandsAt, IsCutUpTo, IsRun, AreAtHand}
use Rattle.tile_io.proofs.Cuts.{is_space, words-first, words-space, words-nil}

-- where one word more is left, it is the one at the index
word_left : (words : List (List ℕ)) (i : ℕ) (word : List ℕ) (after : List (List ℕ)) → drop i words ≡ word ∷ after → (i < length words) × (field words i ≡ word) × (drop (i + 1) words ≡ after)
word_left words i word after left =
    let cut : length (drop i words) ≡ length words - i = length-drop i words in
    let some : length (drop i words) ≡ length (word ∷ after) = ap length left in
    let within : i < length words = omega (arith, cut, some) in
    let both : field words i ∷ drop (i + 1) words ≡ word ∷ after = sym (drop_more words i [] within) ∙ left in
    (within, cc both, cc both)

-- where none is left, the index is the number of words
pub none_left : (words : List (List ℕ)) (i : ℕ) → i ≤ length words → drop i words ≡ [] → i ≡ length words
none_left words i within left =
    let cut : length (drop i words) ≡ length words - i = length-drop i words in
    let none : length (drop i words) ≡ 0 = ap length left in
    omega (arith, cut, none, within)

-- a run of bytes is the first word of what is left
run_first : (line : List ℕ) (start end : ℕ) → start < end → IsRun line start end → words_of (drop start line) ≡ take (end - start) (drop start line) ∷ words_of (drop end line)
run_first line start end some run =
    let rest = drop start line in
    let n = end - start in
    let size : length rest ≡ length line - start = length-drop start line in
    let at : (k : ℕ) → get_or rest k 0 ≡ get_or line (start + k) 0 = λ k. get_or-drop start line k 0 in
    let place : position_or_len is_space rest ≡ n =
    position_or_len_is is_space rest n 0 (omega (arith, size, run.within))
    (λ k less. ap is_space (at k) ∙ ne_eqb (get_or line (start + k) 0) 32 (run.inside (start + k) (omega arith) (omega (arith, less))))
    (λ less. let here : start + n ≡ end = omega (arith, run.order) in ap is_space (at n ∙ ap (λ m. get_or line m 0) here ∙ run.behind (omega (arith, less, size))))
    in
    let first : words_of rest ≡ take n rest ∷ words_of (drop n rest) =
    subst (λ m. words_of rest ≡ take m rest ∷ words_of (drop m rest)) place (words-first rest (omega (arith, size, run.within, some)) (omega (arith, place, some)))
    in
    let same : drop n rest ≡ drop end line = drop-drop n start line ∙ ap (λ m. drop m line) (omega (arith, run.order)) in
    first ∙ ap (λ l. take n rest ∷ words_of l) same

-- at a space, the words that are left are those behind it
pub past_space : (line : List ℕ) (at count : ℕ) (starts ends : List ℕ) → at < length line → get_or line at 0 ≡ 32 → IsCutUpTo line at count starts ends → IsCutUpTo line (at + 1) count starts ends
past_space line at count starts ends within space before =
    let behind : words_of (drop at line) ≡ words_of (drop (at + 1) line) = ap words_of (drop_more line at 0 within) ∙ words-space (get_or line at 0) (drop (at + 1) line) (ap is_space space) in
    record { few = before.few; left = sym behind ∙ before.left; starts_size = before.starts_size; ends_size = before.ends_size; each = before.each }

-- all words were noted at the end
pub all_noted : (line : List ℕ) (count : ℕ) (starts ends : List ℕ) → IsCutUpTo line (length line) count starts ends → AreAtHand line count starts ends
all_noted line count starts ends cut =
    let none : drop count (words_of line) ≡ [] = sym cut.left ∙ ap words_of (drop_all (length line) line (omega arith)) ∙ words-nil in
    record { all = none_left (words_of line) count cut.few none; each = cut.each }

module _ (line : List ℕ) (start end count : ℕ) (starts ends : List ℕ) (some : start < end) (run : IsRun line start end) (before : IsCutUpTo line start count starts ends) where
  next_word : (count < length (words_of line)) × (field (words_of line) count ≡ slice_range line start end) × (drop (count + 1) (words_of line) ≡ words_of (drop end line))
  next_word = word_left (words_of line) count (take (end - start) (drop start line)) (words_of (drop end line)) (sym before.left ∙ run_first line start end some run)

  -- a word is noted, where it is among the first eight
  pub one_noted : count < 8 → IsCutUpTo line end (count + 1) (set starts count start) (set ends count end)
  one_noted near =
      let words = words_of line in
      let next = next_word in
      let less : count < length words = next.0 in
      let here : StandsAt line start end (field words count) = record { order = run.order; within = run.within; bytes = sym next.1 } in
      let starts_size : length starts ≡ 8 = before.starts_size in
      let ends_size : length ends ≡ 8 = before.ends_size in
      let Stands : ℕ → Type 0 = λ k. StandsAt line (get_or (set starts count start) k 0) (get_or (set ends count end) k 0) (field words k) in
      let at_last : Stands count =
      rw (get_or-set_same starts count start 0 (omega (arith, starts_size, near)), get_or-set_same ends count end 0 (omega (arith, ends_size, near))) here in
      let earlier : (k : ℕ) → k < count → Stands k = λ k below.
      let other : k ≢ count = omega (arith, below) in
      rw (get_or-set_other starts count k start 0 other, get_or-set_other ends count k end 0 other) (before.each k (omega (arith, below, near)) below)
      in
      record {
        few = omega (arith, less);
        left = sym next.2;
        starts_size = length-set starts count start ∙ starts_size;
        ends_size = length-set ends count end ∙ ends_size;
        each = λ k first below. below_more Stands count earlier at_last k below;
      }

  -- and counted, where it isn't
  pub one_counted : 8 ≤ count → IsCutUpTo line end (count + 1) starts ends
  one_counted far =
      let next = next_word in
      let less : count < length (words_of line) = next.0 in
      record {
        few = omega (arith, less);
        left = sym next.2;
        starts_size = before.starts_size;
        ends_size = before.ends_size;
        each = λ k first below. before.each k first (omega (arith, first, far));
      }
