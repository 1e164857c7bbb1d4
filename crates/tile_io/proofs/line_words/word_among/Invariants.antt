use Rattle.std.proofs.Common.{◌≡◌, ℕ, ◌≤◌, ◌<◌, get_or}
use Rattle.tile_io.proofs.line_words.word_among.Given as goal

-- none of the bytes so far ends the word
abbrev pub invariant-loop-index : goal.invariant-loop-index
invariant-loop-index l = record { within : l.index ≤ l.to; before : (k : ℕ) → k < l.index → get_or l.bytes k 0 ≡ l.end → ⊥ }
