use Rattle.std.proofs.Common.{rules, ◌≡◌, ◌∷◌, ◌++◌, [], ℕ, List, codes, decimal, take, drop}
use Rattle.std.proofs.lemmas.Result.{err_from_is_err_and}
use Rattle.tile_io.specs.Lines.{line_of}
use Rattle.tile_io.proofs.Printing.{PassesOn-then, PassesOn-stopped, PassesOn-text}
use Rattle.seq_text.specs.GrowthLines.{place_lines}
use Rattle.watch_frames.proofs.printing.put_frame.Goals as goal

-- a line of the same words
same_line : (x y a b rest : List ℕ) → x ≡ a → y ≡ b → line_of (codes "frame" ∷ x ∷ y ∷ []) ++ rest ≡ line_of (codes "frame" ∷ a ∷ b ∷ []) ++ rest
same_line x y a b rest same_x same_y = cc

pub returns-in_err-put_line-clause-passes : goal.returns-in_err-put_line-clause-passes
returns-in_err-put_line-clause-passes g c =
    let same_number : c.as_bytes-number.result.now ≡ decimal c.args.span.number = search rules in
    let same_count : c.as_bytes-many.result.now ≡ decimal c.args.span.count = search rules in
    let p = err_from_is_err_and c.from_residual.result c.from_residual.ensures.1 in
    let rest = place_lines c.args.pieces.now (drop c.args.span.before (take c.args.span.count c.args.frames.now.places)) in
    rw p.1 (PassesOn-text (same_line _ _ _ _ rest same_number same_count) (PassesOn-stopped rest c.in_err-put_line.ensures))

pub returns-clause-passes : goal.returns-clause-passes
returns-clause-passes g c =
    let same_number : c.as_bytes-number.result.now ≡ decimal c.args.span.number = search rules in
    let same_count : c.as_bytes-many.result.now ≡ decimal c.args.span.count = search rules in
    let rest = place_lines c.args.pieces.now (drop c.args.span.before (take c.args.span.count c.args.frames.now.places)) in
    PassesOn-text (same_line _ _ _ _ rest same_number same_count) (PassesOn-then c.put_added.result c.in_ok-put_line.ensures c.put_added.ensures.passes)
