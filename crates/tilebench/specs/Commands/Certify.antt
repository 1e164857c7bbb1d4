-- `certify`: the certificate of an assembly's canonical order.
use Rattle.std.specs.Prelude.{◌≡◌, ◌⊎◌, ◌++◌, ℕ, Bool, true, false, List}
use Rattle.atam.specs.declared.place.Place.{Place}
use Rattle.atam.specs.TileSystem.{TileSystem}
use Rattle.atam.specs.Determinism.{IsLocallyDeterministic}
use Rattle.replay_order.specs.ReplayAnswers.{IsWholeOrder}
use Rattle.atam.specs.declared.verdict.Verdict.{Verdict}
use Rattle.local_check.specs.Judgement.{IsVerdict}
use Rattle.tile_text.specs.Spelling.{spelling}
use Rattle.seq_text.specs.VerdictLines.{verdict_line}
use Rattle.cert_check.specs.declared.entry.Entry.{Entry}
use Rattle.cert_check.specs.Certificates.{AreEntries, IsCertificateOf, IsGood}
use Rattle.cert_text.specs.CertificateLines.{mark_lines}
use Rattle.tilebench.specs.Commands.Replay.{TellsNoOrder}
use Rattle.job_board.specs.AnswerText.{is_unique}
use Rattle.tilebench.specs.Inputs.{IsSystemThen}
use Rattle.cert_text.specs.CertificateText.{ReadsCertificate}

-- The canonical order of the tiles is locally deterministic, and these entries are its certificate: at distinct sites, with no sides but the four. It is good, and behind the spelling of the system
-- its lines read as these entries.
pub record IsCertificateOfTiles (sys : TileSystem) (tiles : List Place) (entries : List Entry) : Type 0 where
  pub order : List Place
  pub ordered : IsWholeOrder sys tiles order
  pub deterministic : IsLocallyDeterministic sys order
  pub certificate : IsCertificateOf sys order entries
  pub known : AreEntries entries
  pub good : IsGood sys entries
  pub reads_back : IsSystemThen ReadsCertificate (spelling sys ++ mark_lines sys entries) sys entries

-- the verdict on it is this one, and a no
pub record IsRefutedBy (sys : TileSystem) (tiles : List Place) (verdict : Verdict) : Type 0 where
  pub order : List Place
  pub ordered : IsWholeOrder sys tiles order
  pub judged : IsVerdict sys order verdict
  pub no : is_unique verdict ≡ false

-- It is a yes, and the text is that of the certificate of the canonical order; or the verdict on it is a no, or there is no order,
-- and the text tells that.
abbrev pub IsCertifyAnswer : TileSystem → List Place → Bool → List ℕ → Type 0
IsCertifyAnswer sys tiles true text =
    (entries : List Entry) × IsCertificateOfTiles sys tiles entries
    × (text ≡ mark_lines sys entries)
IsCertifyAnswer sys tiles false text =
    ((verdict : Verdict) × IsRefutedBy sys tiles verdict × (text ≡ verdict_line sys verdict))
    ⊎ TellsNoOrder sys tiles text
