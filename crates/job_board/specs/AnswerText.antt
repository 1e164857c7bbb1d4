-- The text of the answers to a batch.
use Rattle.std.specs.Prelude.{ℕ, Bool, true, false, List, [], ◌∷◌, ◌++◌, length, filter, flat_map, zip, codes, decimal}
use Rattle.std.specs.List.{enumerate_from}
use Rattle.tile_io.specs.Lines.{line_of}
use Rattle.atam.specs.TileSystem.{TileSystem}
use Rattle.atam.specs.declared.verdict.Verdict.{Verdict}
use Rattle.atam.specs.declared.verdict.Verdict.TheVariants.{Yes}
use Rattle.seq_text.specs.GrowthLines.{place_lines, closed_line}
use Rattle.seq_text.specs.VerdictLines.{verdict_line}
use Rattle.unique_law.specs.Outcomes.{Outcome}
use Rattle.job_board.specs.declared.job.Job.{Job}

-- whether a verdict is a yes
abbrev pub is_unique : Verdict → Bool
is_unique Yes = true
is_unique _ = false

-- the places of an assembly in canonical order, then what is open outside the box, then the verdict on this order
abbrev pub growth_text : TileSystem → Outcome → List ℕ
growth_text sys outcome = place_lines sys outcome.order ++ closed_line sys outcome.outside ++ verdict_line sys outcome.verdict

-- the line of a job, and then what answers it
abbrev pub answer_text : ℕ × (Job × Outcome) → List ℕ
answer_text (number, (job, outcome)) =
    line_of (codes "job" ∷ decimal number ∷ []) ++ growth_text job.sys outcome

-- those of jobs that are numbered from 0 on, and then how many jobs there are, and how many of the
-- answers are a yes
abbrev pub batch_text : List Job → List Outcome → List ℕ
batch_text jobs outcomes = flat_map answer_text (enumerate_from 0 (zip jobs outcomes))
    ++ line_of (codes "done" ∷ decimal (length jobs)
    ∷ codes "yes" ∷ decimal (length (filter (λ outcome. is_unique outcome.verdict) outcomes)) ∷ [])
