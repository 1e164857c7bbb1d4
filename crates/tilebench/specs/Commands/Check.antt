-- `check`: whether a sequence is legal, and the verdict on it.
use Rattle.std.specs.Prelude.{◌≡◌, ℕ, Bool, false, List, ◌++◌}
use Rattle.atam.specs.declared.place.Place.{Place}
use Rattle.atam.specs.TileSystem.{TileSystem}
use Rattle.atam.specs.declared.legality.Legality.TheVariants as legality
use Rattle.local_check.specs.declared.once.Judged.{Judged}
use Rattle.local_check.specs.declared.once.Judged.TheVariants.{Legal, Breach}
use Rattle.local_check.specs.Judged.{IsJudged}
use Rattle.seq_text.specs.LegalityLines.{legality_line}
use Rattle.seq_text.specs.VerdictLines.{verdict_line}
use Rattle.job_board.specs.AnswerText.{is_unique}

-- the text of the judgement on a sequence
abbrev pub judgement_text : TileSystem → Judged → List ℕ
judgement_text sys (Legal verdict) = legality_line legality.Legal ++ verdict_line sys verdict
judgement_text sys (Breach breach) = legality_line breach

-- it is a yes where the sequence is legal and the verdict is a yes
abbrev pub is_judged_unique : Judged → Bool
is_judged_unique (Legal verdict) = is_unique verdict
is_judged_unique (Breach breach) = false

-- this is the text of the judgement on the sequence
abbrev pub IsCheckAnswer : TileSystem → List Place → Bool → List ℕ → Type 0
IsCheckAnswer sys sequence is_yes text = (judgement : Judged) × IsJudged sys sequence judgement
    × (text ≡ judgement_text sys judgement) × (is_yes ≡ is_judged_unique judgement)
