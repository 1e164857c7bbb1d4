use Rattle.std.proofs.Common.{ℕ, List, [], ◌∷◌, ◌++◌, flat_map, sym, Bor, ◌∙◌, append_assoc}
use Rattle.std.proofs.lemmas.Result.{err_from_is_err_and}
use Rattle.tile_io.proofs.JoinedWords.{line_of-cons}
use Rattle.tile_io.proofs.Printing.{PassesOn-then, PassesOn-fails, PassesOn-stopped, PassesOn-text}
use Rattle.tile_io.proofs.chunk.Chunk.put_line.Goals as goal

abbrev now_of : Bor (List ℕ) → List ℕ
now_of word = word.now

abbrev spaced : List (Bor (List ℕ)) → List ℕ
spaced words = flat_map (λ word. 32 ∷ now_of word) words

pub returns-in_err-put : goal.returns-in_err-put
returns-in_err-put g c =
    let p = err_from_is_err_and c.from_residual.result c.from_residual.ensures.1 in
    rw p.1 (PassesOn-text (sym (line_of-cons now_of c.args.first.now c.args.rest.now)) (PassesOn-stopped (spaced c.args.rest.now ++ 10 ∷ []) c.in_err-put.ensures))

pub returns-in_err-put_words : goal.returns-in_err-put_words
returns-in_err-put_words g c =
    let p = err_from_is_err_and c.from_residual-in_err-put_words.result c.from_residual-in_err-put_words.ensures.1 in
    let first = c.args.first.now in
    let rest = spaced c.args.rest.now in
    let text = append_assoc first rest (10 ∷ []) ∙ sym (line_of-cons now_of first c.args.rest.now) in
    rw p.1 (PassesOn-text text (PassesOn-stopped (10 ∷ []) (PassesOn-fails c.in_ok-put.ensures c.in_err-put_words.ensures)))

pub returns : goal.returns
returns g c =
    PassesOn-text (sym (line_of-cons now_of c.args.first.now c.args.rest.now))
    (PassesOn-then c.put-2.result c.in_ok-put.ensures (PassesOn-then c.put-2.result c.in_ok-put_words.ensures c.put-2.ensures))
