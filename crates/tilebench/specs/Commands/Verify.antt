-- `verify`: whether a certificate is good.
use Rattle.std.specs.Prelude.{◌≡◌, ◌↔◌, ℕ, Bool, true, false, List}
use Rattle.atam.specs.declared.place.Place.{Place}
use Rattle.atam.specs.TileSystem.{TileSystem}
use Rattle.cert_check.specs.declared.entry.Entry.{Entry}
use Rattle.cert_check.specs.declared.verdict.CertVerdict.{CertVerdict}
use Rattle.cert_check.specs.declared.verdict.CertVerdict.TheVariants.{Yes}
use Rattle.cert_check.specs.Judgement.{IsVerdict}
use Rattle.cert_check.specs.Laws.{IsCertified}
use Rattle.cert_text.specs.CertificateLines.{verified_line}

-- it is a yes where no check fails
abbrev pub is_verified : CertVerdict → Bool
is_verified Yes = true
is_verified _ = false

-- this is the line of the one verdict on the certificate, whatever the number of workers
pub record IsVerifyAnswer (sys : TileSystem) (entries : List Entry) (is_yes : Bool)
    (text : List ℕ) : Type 0 where
  pub verdict : CertVerdict
  pub judged : IsVerdict sys entries verdict
  pub printed : text ≡ verified_line sys verdict
  pub answer : is_yes ≡ is_verified verdict
  -- a yes exactly where some locally deterministic sequence has exactly the entries' places, their sides as its input sides, and ranks that rise
  pub certified : is_yes ≡ true ↔ ((s : List Place) × IsCertified sys entries s)
