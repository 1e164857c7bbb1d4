-- Names that are compared as two words, which may overlap.
use Rattle.std.proofs.Common.{◌≡◌, ℕ, ◌+◌, ◌-◌, ◌<◌, ◌≤◌, List, take, drop, length, get_or, refl, inl, inr, sym, ap, subst, ◌∙◌, arith}
use Rattle.std.specs.Int.{w16, w32, from_le_bytes, to_le_bytes}
use Rattle.std.proofs.lemmas.Bool.{cases_lt}
use Rattle.std.proofs.lemmas.List.{length-take-le, length-drop, ext_get_or, get_or-take, get_or-drop, get_or_past}
use Rattle.std.proofs.lemmas.Nat.{le_bytes_2, le_bytes_4}

-- bytes, with zeros behind them
abbrev AreBytes : List ℕ → Type 0
AreBytes l = (i : ℕ) → get_or l i 0 < 256

-- some of the bytes, as many as were asked for
cut_length : (n start : ℕ) (l : List ℕ) → start + n ≤ length l → length (take n (drop start l)) ≡ n
cut_length n start l within =
    let left : length (drop start l) ≡ length l - start = length-drop start l in
    length-take-le n (drop start l) (omega (arith, left, within))

-- are bytes
cut_bytes : (n start : ℕ) (l : List ℕ) → start + n ≤ length l → AreBytes l → AreBytes (take n (drop start l))
cut_bytes n start l within small i =
    let Small : ℕ → Type 0 = λ b. b < 256 in
    let cut : List ℕ = take n (drop start l) in
    let size : length cut ≡ n = cut_length n start l within in
    elim (cases_lt i n) [
      | inl less ↦ subst Small (sym (get_or-take n (drop start l) i 0 less ∙ get_or-drop start l i 0)) (small (start + i))
      | inr more ↦ subst Small (sym (get_or_past cut i 0 (omega (arith, size, more)))) (omega arith)
    ]

-- what is the same in its first bytes and in its last ones, which leave none out, is the same
same_ends : (n : ℕ) (one other : List ℕ) → length one ≡ length other → n ≤ length one → length one ≤ n + n →
    take n one ≡ take n other → take n (drop (length one - n) one) ≡ take n (drop (length one - n) other) → one ≡ other
same_ends n one other same long short first last =
    let start : ℕ = length one - n in
    ext_get_or 0 one other same (λ i within.
    elim (cases_lt i n) [
      | inl less ↦ sym (get_or-take n one i 0 less) ∙ ap (λ l. get_or l i 0) first ∙ get_or-take n other i 0 less
      | inr more ↦
          let j : ℕ = i - start in
          let less : j < n = omega (arith, within, more, long, short) in
          let at : start + j ≡ i = omega (arith, within, more, long, short) in
          let cell : (l : List ℕ) → get_or (take n (drop start l)) j 0 ≡ get_or l i 0 = λ l. get_or-take n (drop start l) j 0 less ∙ get_or-drop start l j 0 ∙ ap (λ k. get_or l k 0) at in
          sym (cell one) ∙ ap (λ l. get_or l j 0) last ∙ cell other
    ])

module _ (n : ℕ) (word : List ℕ → ℕ) (tells : (xs ys : List ℕ) → length xs ≡ n → length ys ≡ n → AreBytes xs → AreBytes ys → word xs ≡ word ys → xs ≡ ys) where
  -- the same by words of so many bytes
  same_words : (one other : List ℕ) → AreBytes one → AreBytes other → length one ≡ length other → n ≤ length one → length one ≤ n + n →
      word (take n one) ≡ word (take n other) → word (take n (drop (length one - n) one)) ≡ word (take n (drop (length one - n) other)) → one ≡ other
  same_words one other one_small other_small same long short first last =
      let start : ℕ = length one - n in
      let cut : (at : ℕ) → at + n ≤ length one → word (take n (drop at one)) ≡ word (take n (drop at other)) → take n (drop at one) ≡ take n (drop at other) = λ at within equal.
      let also : at + n ≤ length other = omega (arith, within, same) in
      tells (take n (drop at one)) (take n (drop at other)) (cut_length n at one within) (cut_length n at other also) (cut_bytes n at one within one_small) (cut_bytes n at other also other_small) equal in
      same_ends n one other same long short (cut 0 (omega (arith, long)) first) (cut start (omega (arith, long)) last)

-- the same by words of four bytes
pub same_by_fours : (one other : List ℕ) → AreBytes one → AreBytes other → length one ≡ length other → 4 ≤ length one → length one ≤ 8 →
    from_le_bytes w32 (take 4 one) ≡ from_le_bytes w32 (take 4 other) → from_le_bytes w32 (take 4 (drop (length one - 4) one)) ≡ from_le_bytes w32 (take 4 (drop (length one - 4) other)) → one ≡ other
same_by_fours = same_words 4 (from_le_bytes w32) (λ xs ys size also small least equal.
    sym (le_bytes_4 xs (from_le_bytes w32 xs) size small refl) ∙ ap (to_le_bytes w32) equal ∙ le_bytes_4 ys (from_le_bytes w32 ys) also least refl)

-- the same by words of two bytes
pub same_by_twos : (one other : List ℕ) → AreBytes one → AreBytes other → length one ≡ length other → 2 ≤ length one → length one ≤ 4 →
    from_le_bytes w16 (take 2 one) ≡ from_le_bytes w16 (take 2 other) → from_le_bytes w16 (take 2 (drop (length one - 2) one)) ≡ from_le_bytes w16 (take 2 (drop (length one - 2) other)) → one ≡ other
same_by_twos = same_words 2 (from_le_bytes w16) (λ xs ys size also small least equal.
    sym (le_bytes_2 xs (from_le_bytes w16 xs) size small refl) ∙ ap (to_le_bytes w16) equal ∙ le_bytes_2 ys (from_le_bytes w16 ys) also least refl)
