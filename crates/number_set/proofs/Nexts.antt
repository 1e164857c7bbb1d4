-- The next bit that is set after one, in its word and level by level.
use Rattle.std.proofs.Common.{Bool, false, IsTrue, ◌↔◌, Option, Some, None, IfSome, IfNone, ◌≡◌, ◌≢◌, ℕ, ◌+◌, ◌/◌, ◌%◌, ◌-◌, ◌^◌, ◌<◌, ◌≤◌, List, get_or, w64, sym, ap, ◌∙◌, inl, inr, arith}
use Rattle.std.specs.Int.{bit_at, trailing_zeros}
use Rattle.std.proofs.lemmas.Bool.{cases_eq, cases_lt}
use Rattle.std.proofs.lemmas.Nat.Bits.{bit_at-zero, bit_at-trailing_zeros, bit_at_above}
use Rattle.std.proofs.lemmas.Nat.{shr-shr}
use Rattle.std.proofs.Math.Nat.{div-le_self}
use Rattle.number_set.specs.Numbers.{bit_of, Numbers, IsLeastFrom}
use Rattle.number_set.specs.Inner.Bits.{IsLowestInWord, Summarizes, IsNextInWord, NoneInWordAfter, IsWordAfter, NoWordAfter, IsNextBit, NoBitAfter}
use Rattle.number_set.proofs.Words.{some_of_bit}

-- a bit of a word that was shifted
bit_of_shifted : (word k i : ℕ) → bit_at (word / 2 ^ k / 2) i ≡ bit_at word (k + 1 + i)
bit_of_shifted word k i = ap (λ x. x / 2 ^ i % 2) (shr-shr word k 1) ∙ ap (λ x. x % 2) (shr-shr word (k + 1) i)

less_shifted : (word k : ℕ) → word < 2 ^ 64 → word / 2 ^ k / 2 < 2 ^ 64
less_shifted word k fits = let once = div-le_self word (2 ^ k) in omega (arith, once)

-- where a word has a bit after one, the word shifted has it too
bit_in_shifted : (words : List ℕ) (n m : ℕ) → m / 64 ≡ n / 64 → n < m → bit_of words m ≡ 1 → bit_at (get_or words (n / 64) 0 / 2 ^ (n % 64) / 2) (m % 64 - n % 64 - 1) ≡ 1
bit_in_shifted words n m place after bit =
    let at : n % 64 + 1 + (m % 64 - n % 64 - 1) ≡ m % 64 = omega arith in
    bit_of_shifted (get_or words (n / 64) 0) (n % 64) (m % 64 - n % 64 - 1) ∙ rw (at, ← place) bit

-- the next bit by the word that was shifted
pub next_in_word : (words : List ℕ) (n : ℕ) → 0 < get_or words (n / 64) 0 / 2 ^ (n % 64) / 2 → get_or words (n / 64) 0 < 2 ^ 64 →
    IsNextInWord words n (n + 1 + trailing_zeros w64 (get_or words (n / 64) 0 / 2 ^ (n % 64) / 2))
next_in_word words n some fits =
    let word = get_or words (n / 64) 0 in
    let after = word / 2 ^ (n % 64) / 2 in
    let zeros = trailing_zeros w64 after in
    let low = bit_at-trailing_zeros w64 after some (less_shifted word (n % 64) fits) in
    let found : bit_at word (n % 64 + 1 + zeros) ≡ 1 = sym (bit_of_shifted word (n % 64) zeros) ∙ low.1 in
    let index : n % 64 + 1 + zeros < 64 = elim (cases_lt (n % 64 + 1 + zeros) 64) [
      | inl within ↦ within
      | inr past ↦ absurd (omega (arith, found, bit_at_above word 64 (n % 64 + 1 + zeros) fits past))
    ] in
    let place : (n + 1 + zeros) / 64 ≡ n / 64 = omega (arith, index) in
    let column : (n + 1 + zeros) % 64 ≡ n % 64 + 1 + zeros = omega (arith, index) in
    record {
      place = place;
      after = omega arith;
      set = rw (place, column) found;
      least = λ m same later bit.
          elim (cases_lt (m % 64 - n % 64 - 1) zeros) [
            | inl below ↦ absurd (omega (arith, low.2 (m % 64 - n % 64 - 1) below, bit_in_shifted words n m same later bit))
            | inr above ↦ omega arith
          ];
    }

pub none_in_word : (words : List ℕ) (n : ℕ) → get_or words (n / 64) 0 / 2 ^ (n % 64) / 2 ≡ 0 → NoneInWordAfter words n
none_in_word words n zero m place after bit =
    let found = bit_in_shifted words n m place after bit in
    let never : ⊥ = omega (arith, rw zero at found, bit_at-zero (m % 64 - n % 64 - 1)) in
    never

-- the next bit lies in the same word
pub IsNextBit-here : (words : List ℕ) (n next : ℕ) → IsNextInWord words n next → IsNextBit words n next
IsNextBit-here words n next here = record {
  after = here.after;
  set = here.set;
  least = λ m after bit. elim (cases_eq (m / 64) (n / 64)) [ inl same ↦ here.least m same after bit | inr apart ↦ let place = here.place in omega arith ];
}

-- or in the next word that isn't 0
pub IsNextBit-word : (words : List ℕ) (n word next : ℕ) → NoneInWordAfter words n → IsWordAfter words (n / 64) word → IsLowestInWord words word next → IsNextBit words n next
IsNextBit-word words n word next none here low = record {
  after = let place = low.place in let later = here.after in omega arith;
  set = low.set;
  least = λ m after bit.
      let at = low.place in
      elim (cases_eq (m / 64) (n / 64)) [
        | inl same ↦ absurd (none m same after bit)
        | inr apart ↦
            elim (cases_lt (m / 64) word) [
              | inl before ↦ absurd (omega (arith, here.first (m / 64) (omega arith) before, some_of_bit _ (m % 64) bit))
              | inr later ↦ elim (cases_eq (m / 64) word) [ inl there ↦ low.least m there bit | inr past ↦ omega arith ]
            ]
      ];
}

pub NoBitAfter-words : (words : List ℕ) (n : ℕ) → NoneInWordAfter words n → NoWordAfter words (n / 64) → NoBitAfter words n
NoBitAfter-words words n none zero m after bit =
    elim (cases_eq (m / 64) (n / 64)) [
      | inl same ↦ none m same after bit
      | inr apart ↦ let never : ⊥ = omega (arith, zero (m / 64) (omega arith), some_of_bit _ (m % 64) bit) in never
    ]

-- or in the next word that the level above marks
pub IsNextBit-marked : (marks words : List ℕ) (n word next : ℕ) → Summarizes marks words → NoneInWordAfter words n → IsNextBit marks (n / 64) word → IsLowestInWord words word next → IsNextBit words n next
IsNextBit-marked marks words n word next sum none here low = record {
  after = let place = low.place in let later = here.after in omega arith;
  set = low.set;
  least = λ m after bit.
      let at = low.place in
      elim (cases_eq (m / 64) (n / 64)) [
        | inl same ↦ absurd (none m same after bit)
        | inr apart ↦
            let above : word ≤ m / 64 = here.least (m / 64) (omega arith) (sum.all (m / 64) (some_of_bit _ (m % 64) bit)) in
            elim (cases_eq (m / 64) word) [ inl there ↦ low.least m there bit | inr past ↦ omega arith ]
      ];
}

pub NoBitAfter-marked : (marks words : List ℕ) (n : ℕ) → Summarizes marks words → NoneInWordAfter words n → NoBitAfter marks (n / 64) → NoBitAfter words n
NoBitAfter-marked marks words n sum none no_mark m after bit =
    elim (cases_eq (m / 64) (n / 64)) [
      | inl same ↦ none m same after bit
      | inr apart ↦ no_mark (m / 64) (omega arith) (sum.all (m / 64) (some_of_bit _ (m % 64) bit))
    ]

-- from a number that isn't in the set itself
pub IsLeastFrom-next : (s : Numbers) (low : List ℕ) (from n : ℕ) → low ≡ s.words → bit_of s.words from ≢ 1 → IsNextBit low from n → IsLeastFrom s from n
IsLeastFrom-next s low from n same absent next = record {
  member = rw (← same) next.set;
  after = let later = next.after in omega arith;
  least = λ m past bit. elim (cases_eq m from) [
    | inl here ↦ absurd (absent (rw here at bit))
    | inr apart ↦ next.least m (omega arith) (rw same bit)
  ];
}

pub none_from : (s : Numbers) (low : List ℕ) (from : ℕ) → low ≡ s.words → bit_of s.words from ≢ 1 → NoBitAfter low from → (n : ℕ) → from ≤ n → bit_of s.words n ≢ 1
none_from s low from same absent none n past bit = elim (cases_eq n from) [
  | inl here ↦ absent (rw here at bit)
  | inr apart ↦ none n (omega arith) (rw same bit)
]

-- whatever was found
pub least_found : (s : Numbers) (low : List ℕ) (from : ℕ) (found : Option ℕ) → low ≡ s.words → bit_of s.words from ≢ 1 → IfSome found (IsNextBit low from) → IfSome found (IsLeastFrom s from)
least_found s low from None same absent next = tt
least_found s low from (Some n) same absent next = IsLeastFrom-next s low from n same absent next

pub none_found : (s : Numbers) (low : List ℕ) (from : ℕ) (found : Option ℕ) → low ≡ s.words → bit_of s.words from ≢ 1 → IfNone found (NoBitAfter low from) → IfNone found ((n : ℕ) → from ≤ n → bit_of s.words n ≢ 1)
none_found s low from None same absent none = none_from s low from same absent none
none_found s low from (Some n) same absent none = tt

-- what a test for a number says
pub not_in : (b : Bool) (s : Numbers) (n : ℕ) → (IsTrue b ↔ (bit_of s.words n ≡ 1)) → b ≡ false → bit_of s.words n ≢ 1
not_in b s n test is_false bit = let is_true = test.1 bit in cc
