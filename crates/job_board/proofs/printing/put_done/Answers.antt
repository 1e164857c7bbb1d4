use Rattle.std.proofs.Common.{rules, ◌≡◌, ◌∷◌, [], codes, decimal, ap, ◌∙◌}
use Rattle.tile_io.specs.Lines.{line_of}
use Rattle.tile_io.proofs.Printing.{PassesOn-text}
use Rattle.job_board.proofs.printing.put_done.Goals as goal

pub returns : goal.returns
returns g c =
    let same_jobs : c.as_bytes-jobs.result.now ≡ decimal c.args.jobs = search rules in
    let same_yes : c.as_bytes-yes.result.now ≡ decimal c.args.yes = search rules in
    let told = ap (λ w. line_of (codes "done" ∷ w ∷ codes "yes" ∷ c.as_bytes-yes.result.now ∷ [])) same_jobs ∙ ap (λ w. line_of (codes "done" ∷ decimal c.args.jobs ∷ codes "yes" ∷ w ∷ [])) same_yes in
    PassesOn-text told c.put_line.ensures
