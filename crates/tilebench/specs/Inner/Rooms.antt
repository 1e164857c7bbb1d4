-- What the rooms of the commands hand from one step to the next: outcomes that can be printed.
use Rattle.std.specs.Prelude.{◌≡◌, ℕ, List, [], ◌∷◌, string_bytes, All, IfSome, is_some, map}
use Rattle.atam.specs.declared.place.Place.{Place}
use Rattle.atam.specs.TileSystem.{TileSystem, IsType}
use Rattle.atam.specs.Growth.{IsLeastOpenOutside}
use Rattle.atam.specs.declared.event.Event.{Event}
use Rattle.seq_text.specs.SeenLines.{HasLine}
use Rattle.atam.specs.Verdicts.{NamesTypes}
use Rattle.unique_law.specs.Outcomes.{Outcome}
use Rattle.cert_check.specs.Certificates.{places_of}
use Rattle.tilebench.specs.declared.commands.certify.Certification.{Certification}
use Rattle.tilebench.specs.declared.commands.certify.Certification.TheVariants.{Given, Refuted, Unordered}
use Rattle.tilebench.specs.declared.growth.Growth.{Growth}
use Rattle.tilebench.specs.declared.judged.JudgedGrowth.{JudgedGrowth}
use Rattle.replay_order.specs.ReplayAnswers.{IsWholeOrder}
use Rattle.local_check.specs.declared.once.Judged.{Judged}
use Rattle.local_check.specs.declared.once.Judged.TheVariants.{Legal, Breach}
use Rattle.local_check.specs.Judgement.{IsVerdict}
use Rattle.tilebench.specs.declared.reordering.Reordering.{Reordering}
use Rattle.tilebench.specs.declared.reordering.Reordering.TheVariants.{Whole}
use Rattle.tilebench.specs.declared.commands.schedule.Scheduled.{Scheduled}
use Rattle.tile_io.specs.Lines.{line_of}
use Rattle.tilebench.specs.declared.wins.Win.{Win}
use Rattle.tilebench.specs.declared.commands.reports.Reported.{Reported}
use Rattle.job_board.specs.AnswerText.{is_unique}
use Rattle.tilebench.specs.Growths.{IsGrowth}
use Rattle.report.specs.Reports.{report_line}
use Rattle.tilebench.specs.Inner.Schedules.{AreReplies, ScheduleOutcome}

-- the types of an outcome are those of the system
pub record HasTypes (sys : TileSystem) (outcome : Outcome) : Type 0 where
  pub order : All (λ p. IsType sys p.tile) outcome.order
  pub outside : IfSome outcome.outside (λ found. IsType sys found.1)
  pub verdict : NamesTypes sys outcome.verdict

-- the whole order of these tiles, the verdict on it, and what is open outside the box
pub record IsJudgedGrowth (sys : TileSystem) (tiles : List Place) (judged : JudgedGrowth) : Type 0 where
  pub ordered : IsWholeOrder sys tiles judged.order
  pub verdict : IsVerdict sys judged.order judged.verdict
  pub outside : IsLeastOpenOutside sys tiles judged.outside

-- the outcome of a growth
abbrev pub outcome_of : Growth → Outcome
outcome_of growth = record { order = growth.order; outside = growth.outside; verdict = growth.verdict }

-- a growth of this system into these tiles
pub record GrowsTo (sys : TileSystem) (tiles : List Place) (growth : Growth) : Type 0 where
  pub same : growth.sys ≡ sys
  pub grown : IsGrowth growth.sys tiles (outcome_of growth)
  pub types : HasTypes growth.sys (outcome_of growth)

-- the report of a growth of so many tiles, and of what each worker won
pub record Reports (growth : Growth) (tiles : ℕ) (wins : List Win) (reported : Reported) : Type 0 where
  pub line : line_of (string_bytes reported.line ∷ []) ≡ line_of (report_line growth.sys tiles
      (map (λ win. win.count) wins) (is_some growth.outside) (is_unique growth.verdict) ∷ [])
  pub unique : reported.unique ≡ is_unique growth.verdict

-- the types of a judgement are those of the system
abbrev pub NamesItsTypes : TileSystem → Judged → Type 0
NamesItsTypes sys (Legal verdict) = NamesTypes sys verdict
NamesItsTypes sys (Breach breach) = Unit {0}

-- the types of the order are those of the system
abbrev pub OrdersTypes : TileSystem → Reordering → Type 0
OrdersTypes sys (Whole order) = All (λ p. IsType sys p.tile) order
OrdersTypes sys _ = Unit {0}

-- the types of a certificate, or of what stands in its place, are those of the system
abbrev pub CertifiesTypes : TileSystem → Certification → Type 0
CertifiesTypes sys (Given entries) = All (λ p. IsType sys p.tile) (places_of entries)
CertifiesTypes sys (Refuted verdict) = NamesTypes sys verdict
CertifiesTypes sys (Unordered reordering) = OrdersTypes sys reordering

-- each reply has a line, and the tiles are of types of the system
pub record HasLines (sys : TileSystem) (schedule : ScheduleOutcome) : Type 0 where
  pub replies : All (HasLine sys) schedule.replies
  pub order : All (λ p. IsType sys p.tile) schedule.order

-- the replies and the tiles of a schedule that was run
abbrev pub replies_of : Scheduled → ScheduleOutcome
replies_of scheduled = record { replies = scheduled.replies.items; order = scheduled.order }

-- a run of these events on this system
pub record Schedules (sys : TileSystem) (events : List Event) (scheduled : Scheduled) : Type 0 where
  pub same : scheduled.sys ≡ sys
  pub replied : AreReplies scheduled.sys events (replies_of scheduled)
  pub lines : HasLines scheduled.sys (replies_of scheduled)
