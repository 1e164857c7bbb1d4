-- The verdict on an entry, put together from its checks.
use Rattle.std.proofs.Common.{◌≡◌, ◌≢◌, List, Some, None, refl, subst, inl, inr}
use Rattle.atam.specs.declared.site.Site.{Site}
use Rattle.atam.specs.declared.place.TypeId.{TypeId}
use Rattle.atam.specs.Sites.{neighbor}
use Rattle.atam.specs.TileSystem.{TileSystem}
use Rattle.atam.specs.Growth.{IsLeastOpenAmong}
use Rattle.cert_check.specs.declared.entry.Entry.{Entry}
use Rattle.cert_check.specs.declared.verdict.CertVerdict.{CertVerdict}
use Rattle.cert_check.specs.declared.verdict.CertVerdict.TheVariants.{Yes, SeedSides, NotTerminal}
use Rattle.cert_check.specs.Certificates.{places_of, IsSeed, StatesNone, IsSound}
use Rattle.cert_check.specs.Judgement.{IsBeside, IsFault}
use Rattle.cert_check.specs.Inner.Checks.{PassesOwn, IsAttachedVerdict, IsOwnVerdict, IsEntryVerdict}

module _ (sys : TileSystem) (c : List Entry) (e : Entry) where
  -- of an entry that isn't a seed's
  pub own_attached : (v : CertVerdict) → ¬ IsSeed sys e → IsAttachedVerdict sys c e v → IsOwnVerdict sys c e v
  own_attached v no_seed (inl passes) = inl (passes.0, record { bare = λ seed. absurd (no_seed seed); attached = λ _. passes.1 })
  own_attached v no_seed (inr fault) = inr fault

  -- and of a seed's
  pub own_bare : IsSeed sys e → StatesNone e → IsOwnVerdict sys c e Yes
  own_bare seed bare = inl (refl, record { bare = λ _. bare; attached = λ no_seed. absurd (no_seed seed) })

  pub own_stated : IsSeed sys e → ¬ StatesNone e → IsOwnVerdict sys c e (SeedSides e.place.site)
  own_stated seed some = inr (refl, seed, some)

  pub passes_own : (v : CertVerdict) → v ≡ Yes → IsOwnVerdict sys c e v → PassesOwn sys c e
  passes_own v yes_it_is (inl passes) = passes.1
  passes_own v yes_it_is (inr fault) = absurd (subst (IsFault sys c e) yes_it_is fault)

  pub entry_fault : (v : CertVerdict) → v ≢ Yes → IsOwnVerdict sys c e v → IsEntryVerdict sys c e v
  entry_fault v some (inl passes) = absurd (some passes.0)
  entry_fault v some (inr fault) = inr fault

  pub entry_open : (m : Site) (t : TypeId) → PassesOwn sys c e → IsLeastOpenAmong sys (places_of c) (IsBeside e.place.site) (Some (m, t)) → IsEntryVerdict sys c e (NotTerminal m t)
  entry_open m t passes found = inr (passes.bare, passes.attached, found)

  pub entry_sound : PassesOwn sys c e → IsLeastOpenAmong sys (places_of c) (IsBeside e.place.site) None → IsEntryVerdict sys c e Yes
  entry_sound passes none = inl (
    refl,
    record {
      bare = passes.bare;
      attached = passes.attached;
      closed = λ d t. none (neighbor e.place.site d) t (d, refl);
    },
  )

  -- an entry whose verdict is yes is sound
  pub sound_by_yes : (v : CertVerdict) → v ≡ Yes → IsEntryVerdict sys c e v → IsSound sys c e
  sound_by_yes v yes_it_is (inl sound) = sound.1
  sound_by_yes v yes_it_is (inr fault) = absurd (subst (IsFault sys c e) yes_it_is fault)
