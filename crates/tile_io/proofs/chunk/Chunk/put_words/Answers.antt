use Rattle.std.proofs.Common.{ℕ, List, [], ◌∷◌, Bor}
use Rattle.std.proofs.lemmas.Result.{err_from_is_err_and}
use Rattle.tile_io.proofs.Printing.{PassesOn-next, PassesOn-halted}
use Rattle.tile_io.proofs.chunk.Chunk.put_words.Goals as goal

-- what stands past the end of a list of words
abbrev no_word : Bor (List ℕ)
no_word = record { ref_ptr = (0, 0); now = [] }

abbrev behind_space : Bor (List ℕ) → List ℕ
behind_space word = 32 ∷ word.now

pub returns-in_err-put_word : goal.returns-in_err-put_word
returns-in_err-put_word g c =
    let p = err_from_is_err_and c.from_residual.result c.from_residual.ensures.1 in
    rw p.1 (PassesOn-halted behind_space c.args.words.now c.loop-word.word-index no_word c.loop-word-test.true c.loop-word.invariant c.in_err-put_word.ensures)

pub loop-word-preserved : goal.loop-word-preserved
loop-word-preserved g c =
    PassesOn-next behind_space c.args.words.now c.loop-word.word-index no_word c.loop-word-test.true c.loop-word.invariant c.in_ok-put_word.ensures
