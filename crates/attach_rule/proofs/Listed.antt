-- Candidates with an index below a limit.
use Rattle.std.proofs.Common.{◌≡◌, ◌≤◌, ◌<◌, ◌+◌, ◌++◌, ℕ, refl, sym, List, [], ◌∷◌, length, All, Contains, subst, inl, inr, arith}
use Rattle.std.specs.List.{AllPairs}
use Rattle.std.proofs.lemmas.Bool.{cases_lt}
use Rattle.std.proofs.lemmas.List.{length-append}
use Rattle.std.proofs.lemmas.List.Elements.{All-nil, All-push, Contains-append_left, Contains-append_right}
use Rattle.std.proofs.lemmas.List.Quantifiers.{all_pairs_push}
use Rattle.atam.specs.declared.site.Site.{Site}
use Rattle.atam.specs.declared.place.TypeId.{TypeId}
use Rattle.atam.specs.declared.place.Place.{Place}
use Rattle.atam.specs.TileSystem.{TileSystem}
use Rattle.atam.specs.Growth.{IsCandidate}
use Rattle.attach_rule.specs.Candidates.{AreCandidates}

pub record AreCandidatesBelow (sys : TileSystem) (tiles : List Place) (m : Site) (n : ℕ) (types : List TypeId) : Type 0 where
  pub sorted : AllPairs (λ t u. t.0 < u.0) types
  pub below : All (λ t. t.0 < n) types
  pub each : All (IsCandidate sys tiles m) types
  pub complete : (t : TypeId) → t.0 < n → IsCandidate sys tiles m t → Contains types t
  pub few : length types ≤ n

module _ (sys : TileSystem) (tiles : List Place) (m : Site) where
  pub candidates_none : (types : List TypeId) → types ≡ [] → AreCandidatesBelow sys tiles m 0 types
  candidates_none types empty =
      let Candidates : List TypeId → Type 0 = AreCandidatesBelow sys tiles m 0 in
      subst Candidates (sym empty) (record {
        sorted = λ i j d less within. let never : ⊥ = omega (arith, within) in absurd never;
        below = All-nil (λ t. t.0 < 0);
        each = All-nil (IsCandidate sys tiles m);
        complete = λ t low grows. let never : ⊥ = omega (arith, low) in absurd never;
        few = omega arith;
      })

  -- the empty list has all types that attach where none does
  pub no_candidates : (types : List TypeId) → types ≡ [] → ((t : TypeId) → ¬ IsCandidate sys tiles m t) → AreCandidates sys tiles m types
  no_candidates types empty none =
      let Candidates : List TypeId → Type 0 = AreCandidates sys tiles m in
      subst Candidates (sym empty) (record {
        sorted = λ i j d less within. let never : ⊥ = omega (arith, within) in absurd never;
        each = All-nil (IsCandidate sys tiles m);
        complete = λ t grows. absurd (none t grows);
      })

  -- the next type is no candidate, or it is listed
  pub candidates_kept : (n : ℕ) (types : List TypeId) → AreCandidatesBelow sys tiles m n types → ¬ IsCandidate sys tiles m (record { 0 = n }) → AreCandidatesBelow sys tiles m (n + 1) types
  candidates_kept n types lists none = record {
    sorted = lists.sorted;
    below = λ k d within. let low = lists.below k d within in omega (arith, low);
    each = lists.each;
    complete = λ t low grows. elim (cases_lt t.0 n) [
      | inl earlier ↦ lists.complete t earlier grows
      | inr last ↦
          let equal : t.0 ≡ n = omega (arith, low, last) in
          let Grows : ℕ → Type 0 = λ k. IsCandidate sys tiles m (record { 0 = k }) in
          absurd (none (subst Grows equal grows))
    ];
    few = omega (arith, lists.few);
  }

  pub candidates_more : (n : ℕ) (types : List TypeId) → AreCandidatesBelow sys tiles m n types → IsCandidate sys tiles m (record { 0 = n }) →
      AreCandidatesBelow sys tiles m (n + 1) (types ++ record { 0 = n } ∷ [])
  candidates_more n types lists grows =
      let last : TypeId = record { 0 = n } in
      record {
        sorted = all_pairs_push (λ t u. t.0 < u.0) types last lists.sorted lists.below;
        below = All-push (λ t. t.0 < n + 1) types last (λ k d within. let low = lists.below k d within in omega (arith, low)) (omega arith);
        each = All-push (IsCandidate sys tiles m) types last lists.each grows;
        complete = λ t low can. elim (cases_lt t.0 n) [
          | inl earlier ↦ Contains-append_left types (last ∷ []) t (lists.complete t earlier can)
          | inr past ↦
              let equal : n ≡ t.0 = omega (arith, low, past) in
              let Listed : ℕ → Type 0 = λ k. Contains (types ++ last ∷ []) (record { 0 = k }) in
              subst Listed equal (Contains-append_right types (last ∷ []) last (0, omega arith, refl))
        ];
        few = omega (arith, lists.few, length-append types (last ∷ []));
      }

  -- below the number of types they are all
  pub candidates_all : (n : ℕ) (types : List TypeId) → n ≡ length sys.types → AreCandidatesBelow sys tiles m n types → AreCandidates sys tiles m types
  candidates_all n types all lists = record {
    sorted = lists.sorted;
    each = lists.each;
    complete = λ t grows. lists.complete t (omega (arith, all, grows.kind)) grows;
  }
