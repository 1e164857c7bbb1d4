-- The verdicts on chunks of the entries make the verdict on the certificate.
use Rattle.std.proofs.Common.{◌≡◌, ◌≤◌, ◌+◌, ◌∙◌, ℕ, List, length, Some, slice_get, refl, sym, subst, inl, inr, arith, zero-le}
use Rattle.std.proofs.lemmas.Bool.{cases_lt}
use Rattle.std.proofs.lemmas.Option.{same_Some}
use Rattle.atam.specs.Placements.{IsPartOf}
use Rattle.atam.specs.TileSystem.{TileSystem}
use Rattle.atam.proofs.Lists.{Contains-slice_get}
use Rattle.cert_check.specs.declared.entry.Entry.{Entry}
use Rattle.cert_check.specs.declared.verdict.CertVerdict.{CertVerdict}
use Rattle.cert_check.specs.declared.verdict.CertVerdict.TheVariants.{Yes}
use Rattle.cert_check.specs.Certificates.{places_of, IsSound}
use Rattle.cert_check.specs.Judgement.{IsFault, IsVerdict, AreSoundWithin, IsChunkVerdict, first_fault}
use Rattle.cert_check.proofs.Verdicts.{not_sound, verdict_from_fault}

module _ (sys : TileSystem) (c : List Entry) where
  -- a fault of the first chunk is the first one
  first_stays : (e : Entry) (v w : CertVerdict) → IsFault sys c e v → first_fault v w ≡ v
  first_stays e Yes w fault = absurd fault
  first_stays e v w fault = refl

  sound_both : (from middle to : ℕ) → AreSoundWithin sys c from middle → AreSoundWithin sys c middle to → AreSoundWithin sys c from to
  sound_both from middle to first second k f above below there = elim (cases_lt k middle) [
    | inl less ↦ first k f above less there
    | inr more ↦ second k f more below there
  ]

  pub chunks_join : (from middle to : ℕ) (v w : CertVerdict) → from ≤ middle → middle ≤ to →
      IsChunkVerdict sys c from middle v → IsChunkVerdict sys c middle to w → IsChunkVerdict sys c from to (first_fault v w)
  chunks_join from middle to v w before after (inr fault) second =
      let Chunk : CertVerdict → Type 0 = IsChunkVerdict sys c from to in
      subst Chunk (sym (first_stays fault.entry v w fault.fault)) (inr (record {
        index = fault.index;
        entry = fault.entry;
        above = fault.above;
        below = omega (arith, fault.below, after);
        there = fault.there;
        fault = fault.fault;
        first = fault.first;
      }))
  chunks_join from middle to v w before after (inl sound) second =
      let Chunk : CertVerdict → Type 0 = λ u. IsChunkVerdict sys c from to (first_fault u w) in
      subst Chunk (sym sound.0) (by_second second)
    where
      by_second : IsChunkVerdict sys c middle to w → IsChunkVerdict sys c from to w
      by_second (inl all) = inl (all.0, sound_both from middle to sound.1 all.1)
      by_second (inr fault) = inr (record {
        index = fault.index;
        entry = fault.entry;
        above = omega (arith, fault.above, before);
        below = fault.below;
        there = fault.there;
        fault = fault.fault;
        first = sound_both from middle fault.index sound.1 fault.first;
      })

  pub whole_is_verdict : (v : CertVerdict) → IsPartOf sys.seeds (places_of c) → IsChunkVerdict sys c 0 (length c) v → IsVerdict sys c v
  whole_is_verdict v seeds (inl all) =
      subst (IsVerdict sys c) (sym all.0) (record {
        seeds = seeds;
        sound = λ e listed. let at = Contains-slice_get c e listed in all.1 at.0 e zero-le at.1 at.2;
      })
  whole_is_verdict v seeds (inr fault) = verdict_from_fault sys c v seeds (record {
    index = fault.index;
    item = fault.entry;
    later = zero-le;
    there = fault.there;
    fails = not_sound sys c fault.entry v fault.fault;
    told = fault.fault;
    before = fault.first;
  })

  -- no entry lies within an empty chunk
  pub nothing_checked : (from : ℕ) → IsChunkVerdict sys c from from Yes
  nothing_checked from = inl (refl, λ k f above below there. let never : ⊥ = omega (arith, above, below) in absurd never)

  -- one entry more
  pub sound_more : (from i : ℕ) (e : Entry) → slice_get c i ≡ Some e → AreSoundWithin sys c from i → IsSound sys c e → AreSoundWithin sys c from (i + 1)
  sound_more from i e there before sound k f above below at = elim (cases_lt k i) [
    | inl less ↦ before k f above less at
    | inr last ↦
        let one : k ≡ i = omega (arith, below, last) in
        let At : ℕ → Type 0 = λ j. slice_get c j ≡ Some f in
        subst (IsSound sys c) (same_Some e f (sym there ∙ subst At one at)) sound
  ]
