-- What `certify` and `verify` answer to a text.
use Rattle.std.proofs.Common.{◌≡◌, ◌≢◌, ◌↔◌, ◌≤◌, ◌++◌, true, false, List, All, get_or, length, inl, inr, refl, sym, ap, subst, arith}
use Rattle.std.proofs.Math.Nat.{le_trans}
use Rattle.std.proofs.lemmas.List.{length-map}
use Rattle.std.proofs.lemmas.Option.{slice_get-get_or}
use Rattle.atam.specs.declared.place.Place.{Place}
use Rattle.atam.specs.Assembly.{Fits}
use Rattle.atam.specs.Placements.{HasDistinctSites}
use Rattle.atam.specs.TileSystem.{TileSystem, IsType, IsValid}
use Rattle.atam.specs.Determinism.{IsLocallyDeterministic}
use Rattle.atam.proofs.Count.{count_in_box}
use Rattle.assembly.proofs.Cells.{cell_count-most}
use Rattle.tile_text.specs.Spelling.{spelling, end_of_print, version_of}
use Rattle.tile_text.proofs.PrintLemmas.{has_version}
use Rattle.tile_io.specs.Lines.{first_mark}
use Rattle.replay_order.specs.ReplayAnswers.{IsWholeOrder}
use Rattle.atam.specs.declared.verdict.Verdict.{Verdict}
use Rattle.atam.specs.declared.verdict.Verdict.TheVariants as verdicts
use Rattle.local_check.specs.Judgement as judging
use Rattle.cert_check.specs.declared.entry.Entry.{Entry}
use Rattle.cert_check.specs.declared.verdict.CertVerdict.{CertVerdict}
use Rattle.cert_check.specs.declared.verdict.CertVerdict.TheVariants.{Yes, NoSeed, SeedSides, BadInput, NotExact, LooseBond, Rival, NotTerminal}
use Rattle.cert_check.specs.Certificates.{AreEntries, IsCertificateOf, IsGood, places_of}
use Rattle.cert_check.specs.Judgement.{IsVerdict}
use Rattle.cert_check.specs.Laws.{IsCertified}
use Rattle.cert_check.proofs.Certified.{good_where_certified}
use Rattle.cert_check.proofs.Verdicts.{verdict_yes}
use Rattle.cert_text.specs.CertificateLines.{NamesKnownType, mark_lines, verified_line}
use Rattle.cert_text.specs.PrintedCertificates.{MayBePrinted}
use Rattle.cert_text.proofs.Printed.{reads_back}
use Rattle.tilebench.specs.declared.commands.certify.Certification.{Certification}
use Rattle.tilebench.specs.declared.reordering.Reordering.{Reordering}
use Rattle.tilebench.specs.declared.reordering.Reordering.TheVariants.{Whole, SeedMissing, Stuck}
use Rattle.tilebench.specs.Commands.Certify.{IsCertificateOfTiles, IsCertifyAnswer, IsRefutedBy}
use Rattle.tilebench.specs.declared.commands.certify.Certification.TheVariants.{Given, Refuted, Unordered}
use Rattle.tilebench.specs.Commands.Replay.{TellsNoOrder}
use Rattle.tilebench.specs.Inner.Certifications.{IsCertification, certification_text, is_given}
use Rattle.tilebench.specs.Inner.Reorderings.{IsReordering, is_whole, reordering_text}
use Rattle.tilebench.specs.Commands.Verify.{IsVerifyAnswer, is_verified}
use Rattle.job_board.specs.AnswerText.{is_unique}
use Rattle.tilebench.specs.Inputs.{IsSystemThen}
use Rattle.cert_text.specs.CertificateText.{ReadsCertificate}

-- what keeps tiles from having an order is told
no_order_told : (sys : TileSystem) (tiles : List Place) (reordering : Reordering) → IsReordering sys tiles reordering → is_whole reordering ≡ false → TellsNoOrder sys tiles (reordering_text sys reordering)
no_order_told sys tiles (Whole order) reordered not_whole = absurd (cc not_whole)
no_order_told sys tiles (SeedMissing site) reordered not_whole = inl (site, reordered, refl)
no_order_told sys tiles (Stuck left least) reordered not_whole = inr (left, least, reordered, refl)

-- the certificate, or what stands in its place, is the answer
pub certify_answer : (sys : TileSystem) (tiles : List Place) (certification : Certification) → IsCertification sys tiles certification →
    IsCertifyAnswer sys tiles (is_given certification) (certification_text sys certification)
certify_answer sys tiles (Given entries) certified = (entries, certified, refl)
certify_answer sys tiles (Refuted verdict) certified = inl (verdict, certified, refl)
certify_answer sys tiles (Unordered reordering) certified = inr (no_order_told sys tiles reordering certified.0 certified.1)

-- behind the spelling of the system the lines of a certificate read as its entries
certificate_back : (sys : TileSystem) (order : List Place) (entries : List Entry) → IsValid sys → Fits sys order → IsCertificateOf sys order entries → AreEntries entries →
    IsSystemThen ReadsCertificate (spelling sys ++ mark_lines sys entries) sys entries
certificate_back sys order entries valid fits certificate known =
    let own_fits : Fits sys (places_of entries) = subst (Fits sys) (sym certificate.places) fits in
    let few : length (places_of entries) ≤ 1048576 =
    le_trans (count_in_box sys.area (places_of entries) known.distinct own_fits.sites) (cell_count-most sys.area valid.box)
    in
    let many : length (places_of entries) ≡ length entries = length-map entries (λ (e : Entry). e.place) in
    let may : MayBePrinted sys entries = record {
      fits = own_fits;
      known = known;
      ranks = λ k d within. let is = certificate.ranks k (get_or entries k d) (slice_get-get_or entries k d within) in omega (arith, is, few, many, within);
    }
    in
    let back = reads_back sys valid (version_of sys) (has_version sys) entries may in
    record { end = end_of_print (version_of sys) sys first_mark; reads = back.system; rest = back.entries }

-- the certificate of an order that the verdict says yes to
pub certificate_given : (sys : TileSystem) (tiles order : List Place) (verdict : Verdict) (entries : List Entry) → IsValid sys → IsWholeOrder sys tiles order → judging.IsVerdict sys order verdict →
    verdict ≡ verdicts.Yes → IsCertificateOf sys order entries → AreEntries entries → (IsLocallyDeterministic sys order → IsGood sys entries) → IsCertificateOfTiles sys tiles entries
certificate_given sys tiles order verdict entries valid ordered judged yes_it_is certificate known good =
    let deterministic : IsLocallyDeterministic sys order = subst (judging.IsVerdict sys order) yes_it_is judged in
    record {
      order = order;
      ordered = ordered;
      deterministic = deterministic;
      certificate = certificate;
      known = known;
      good = good deterministic;
      reads_back = certificate_back sys order entries valid ordered.fits certificate known;
    }

-- its types are those of the system
pub certificate_types : (sys : TileSystem) (tiles order : List Place) (entries : List Entry) → IsWholeOrder sys tiles order → IsCertificateOf sys order entries → All (λ p. IsType sys p.tile) (places_of entries)
certificate_types sys tiles order entries ordered certificate =
    let Types : List Place → Type 0 = λ l. All (λ p. IsType sys p.tile) l in
    subst Types (sym certificate.places) ordered.fits.types

-- a verdict that isn't yes is a no
pub no_unless_yes : (verdict : Verdict) → verdict ≢ verdicts.Yes → is_unique verdict ≡ false
no_unless_yes verdicts.Yes other = absurd (other refl)
no_unless_yes (verdicts.NotExact m sum) other = refl
no_unless_yes (verdicts.Rival m t) other = refl
no_unless_yes (verdicts.NotTerminal m t) other = refl

-- the type that a verdict on a certificate names is one of the system
pub cert_verdict_types : (sys : TileSystem) (entries : List Entry) (verdict : CertVerdict) → IsVerdict sys entries verdict → NamesKnownType sys verdict
cert_verdict_types sys entries Yes judged = tt
cert_verdict_types sys entries (NoSeed m) judged = tt
cert_verdict_types sys entries (SeedSides m) judged = tt
cert_verdict_types sys entries (BadInput m) judged = tt
cert_verdict_types sys entries (NotExact m sum) judged = tt
cert_verdict_types sys entries (LooseBond m d) judged = tt
cert_verdict_types sys entries (Rival m t) judged = judged.1.told.5.holds.kind
cert_verdict_types sys entries (NotTerminal m t) judged = judged.1.told.2.grows.kind

-- it is yes exactly where some sequence is certified
pub yes_where_certified : (sys : TileSystem) (entries : List Entry) (verdict : CertVerdict) → IsValid sys → Fits sys (places_of entries) → HasDistinctSites (places_of entries) → IsVerdict sys entries verdict →
    verdict ≡ Yes ↔ ((s : List Place) × IsCertified sys entries s)
yes_where_certified sys entries verdict valid fits distinct judged =
    let good = verdict_yes sys entries verdict judged in
    let both = good_where_certified sys entries valid.distinct_seeds valid.some_tau distinct fits.types in
    (λ yes_it_is. both.0 (good.0 yes_it_is), λ some. good.1 (both.1 some))

verified_yes : (verdict : CertVerdict) → is_verified verdict ≡ true → verdict ≡ Yes
verified_yes Yes e = refl
verified_yes (NoSeed m) e = absurd (cc e)
verified_yes (SeedSides m) e = absurd (cc e)
verified_yes (BadInput m) e = absurd (cc e)
verified_yes (NotExact m sum) e = absurd (cc e)
verified_yes (LooseBond m d) e = absurd (cc e)
verified_yes (Rival m t) e = absurd (cc e)
verified_yes (NotTerminal m t) e = absurd (cc e)

-- the line of the verdict on what was read is the answer
pub verify_answer : (sys : TileSystem) (entries : List Entry) (verdict : CertVerdict) → IsVerdict sys entries verdict →
    verdict ≡ Yes ↔ ((s : List Place) × IsCertified sys entries s) → IsVerifyAnswer sys entries (is_verified verdict) (verified_line sys verdict)
verify_answer sys entries verdict judged certified = record {
  verdict = verdict;
  judged = judged;
  printed = refl;
  answer = refl;
  certified = (λ positive. certified.0 (verified_yes verdict positive), λ some. ap is_verified (certified.1 some));
}

-- what has no order stays so
pub unordered_given : (sys : TileSystem) (tiles : List Place) (reordering : Reordering) → IsReordering sys tiles reordering → ((order : List Place) → reordering ≢ Whole order) →
    IsReordering sys tiles reordering × (is_whole reordering ≡ false)
unordered_given sys tiles (Whole order) reordered other = absurd (other order refl)
unordered_given sys tiles (SeedMissing site) reordered other = (reordered, refl)
unordered_given sys tiles (Stuck left least) reordered other = (reordered, refl)

-- what is in order
pub whole_given : (sys : TileSystem) (tiles order : List Place) (reordering : Reordering) → IsReordering sys tiles reordering → reordering ≡ Whole order → IsWholeOrder sys tiles order
whole_given sys tiles order reordering reordered whole = subst (IsReordering sys tiles) whole reordered

-- a verdict that isn't yes refutes
pub refuted_given : (sys : TileSystem) (tiles order : List Place) (verdict : Verdict) → IsWholeOrder sys tiles order → judging.IsVerdict sys order verdict → verdict ≢ verdicts.Yes → IsRefutedBy sys tiles verdict
refuted_given sys tiles order verdict ordered judged other = record { order = order; ordered = ordered; judged = judged; no = no_unless_yes verdict other }
