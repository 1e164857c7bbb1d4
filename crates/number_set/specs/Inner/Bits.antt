-- Words read as a row of bits, 64 to a word, and levels of them.
use Rattle.std.specs.Prelude.{◌≡◌, ◌≢◌, ℕ, ◌+◌, ◌<◌, ◌≤◌, ◌/◌, List, length, slice_index}
use Rattle.number_set.specs.Numbers.{bit_of}

-- the bit is set
abbrev pub Has : List ℕ → ℕ → Type 0
Has words n = bit_of words n ≡ 1

-- one bit is set, and no other one changes
pub record SetsBit (old new : List ℕ) (n : ℕ) : Type 0 where
  pub len : length new ≡ length old
  pub here : bit_of new n ≡ 1
  pub bits : (m : ℕ) → m ≢ n → bit_of new m ≡ bit_of old m
  pub some : 0 < slice_index new (n / 64)
  pub words : (w : ℕ) → w ≢ n / 64 → slice_index new w ≡ slice_index old w

-- one bit is cleared, and no other one changes
pub record ClearsBit (old new : List ℕ) (n : ℕ) : Type 0 where
  pub len : length new ≡ length old
  pub here : bit_of new n ≡ 0
  pub bits : (m : ℕ) → m ≢ n → bit_of new m ≡ bit_of old m
  pub less : slice_index new (n / 64) ≤ slice_index old (n / 64)
  pub words : (w : ℕ) → w ≢ n / 64 → slice_index new w ≡ slice_index old w

-- the least bit that is set in a word
pub record IsLowestInWord (words : List ℕ) (word n : ℕ) : Type 0 where
  pub place : n / 64 ≡ word
  pub set : bit_of words n ≡ 1
  pub least : (m : ℕ) → m / 64 ≡ word → bit_of words m ≡ 1 → n ≤ m

-- the least word that isn't 0
pub record IsFirstWord (words : List ℕ) (word : ℕ) : Type 0 where
  pub within : word < length words
  pub some : 0 < slice_index words word
  pub first : (w : ℕ) → w < word → slice_index words w ≡ 0

-- a word before which each is 0
pub record IsStart (words : List ℕ) (word : ℕ) : Type 0 where
  pub within : word < length words
  pub zero : (w : ℕ) → w < word → slice_index words w ≡ 0

-- each word is 0
abbrev pub AreZero : List ℕ → Type 0
AreZero words = (w : ℕ) → slice_index words w ≡ 0

-- a bit of the upper words for each of the lower words, set exactly where that isn't 0
pub record Summarizes (upper lower : List ℕ) : Type 0 where
  pub only : (w : ℕ) → bit_of upper w ≡ 1 → 0 < slice_index lower w
  pub all : (w : ℕ) → 0 < slice_index lower w → bit_of upper w ≡ 1

-- the least bit that is set
pub record IsLowest (words : List ℕ) (n : ℕ) : Type 0 where
  pub set : bit_of words n ≡ 1
  pub least : (m : ℕ) → bit_of words m ≡ 1 → n ≤ m

-- the least bit after this one that is set in its word
pub record IsNextInWord (words : List ℕ) (n next : ℕ) : Type 0 where
  pub place : next / 64 ≡ n / 64
  pub after : n < next
  pub set : bit_of words next ≡ 1
  pub least : (m : ℕ) → m / 64 ≡ n / 64 → n < m → bit_of words m ≡ 1 → next ≤ m

-- no bit after this one is set in its word
abbrev pub NoneInWordAfter : List ℕ → ℕ → Type 0
NoneInWordAfter words n = (m : ℕ) → m / 64 ≡ n / 64 → n < m → bit_of words m ≢ 1

-- the least word after this one that isn't 0
pub record IsWordAfter (words : List ℕ) (word next : ℕ) : Type 0 where
  pub within : next < length words
  pub after : word < next
  pub some : 0 < slice_index words next
  pub first : (w : ℕ) → word < w → w < next → slice_index words w ≡ 0

-- each word after this one is 0
abbrev pub NoWordAfter : List ℕ → ℕ → Type 0
NoWordAfter words word = (w : ℕ) → word < w → slice_index words w ≡ 0

-- the least bit after this one that is set
pub record IsNextBit (words : List ℕ) (n next : ℕ) : Type 0 where
  pub after : n < next
  pub set : bit_of words next ≡ 1
  pub least : (m : ℕ) → n < m → bit_of words m ≡ 1 → next ≤ m

-- no bit after this one is set
abbrev pub NoBitAfter : List ℕ → ℕ → Type 0
NoBitAfter words n = (m : ℕ) → n < m → bit_of words m ≢ 1

-- each level says which words of the one below it aren't 0
pub record IsSound (bound : ℕ) (low mid top : List ℕ) : Type 0 where
  pub limit : bound ≤ 4294967295
  pub low_len : length low ≡ bound / 64 + 1
  pub mid_len : length mid ≡ bound / 64 / 64 + 1
  pub top_len : length top ≡ bound / 64 / 64 / 64 + 1
  pub mid_marks : Summarizes mid low
  pub top_marks : Summarizes top mid
  pub below : (n : ℕ) → bit_of low n ≡ 1 → n < bound
