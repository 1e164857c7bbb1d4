-- The certificate of a sequence, with one place more.
use Rattle.std.proofs.Common.{◌≡◌, ◌≤◌, ◌+◌, ◌++◌, ◌∷◌, [], ℕ, Bool, List, length, take, Some, slice_get, add-one, sym, ◌∙◌, ap, inl, inr}
use Rattle.std.proofs.Math.Nat.{le_trans}
use Rattle.std.proofs.lemmas.List.{map-append}
use Rattle.atam.specs.declared.site.Side.{Side}
use Rattle.atam.specs.declared.site.Side.TheVariants.{North, East, South, West}
use Rattle.atam.specs.declared.place.Place.{Place}
use Rattle.atam.specs.TileSystem.{TileSystem, IsValid}
use Rattle.atam.specs.Assembly.{Fits}
use Rattle.atam.specs.Growth.{IsLegal}
use Rattle.atam.specs.Determinism.{is_input}
use Rattle.atam.proofs.Count.{count_in_box}
use Rattle.atam.proofs.Lists.{take_step, push_cases}
use Rattle.atam.proofs.Sequences.{IsLegal-distinct}
use Rattle.assembly.proofs.Cells.{cell_count-most}
use Rattle.cert_check.specs.declared.entry.Entry.{Entry}
use Rattle.cert_check.specs.Certificates.{states, places_of}
use Rattle.cert_check.specs.Inner.Bits.{bits}
use Rattle.cert_check.proofs.Listed.{last_index, states-bits}

-- no more places than a box has sites
pub few_places : (sys : TileSystem) (s : List Place) → IsValid sys → IsLegal sys s → Fits sys s → length s ≤ 1048576
few_places sys s valid legal fits =
    le_trans (count_in_box sys.area s (IsLegal-distinct sys s valid.distinct_seeds legal) fits.sites) (cell_count-most sys.area valid.box)

module _ (sys : TileSystem) (s : List Place) (c : List Entry) (i : ℕ) (p : Place) (sides : ℕ) where
  pub places_more : places_of c ≡ take i s → slice_get s i ≡ Some p → places_of (c ++ record { place = p; sides = sides; rank = i } ∷ []) ≡ take (i + 1) s
  places_more before there =
      map-append (λ (e : Entry). e.place) c (record { place = p; sides = sides; rank = i } ∷ [])
      ∙ ap (λ l. l ++ p ∷ []) before ∙ sym (ap (λ n. take n s) (add-one i) ∙ take_step s i p there)

  pub sides_more : length c ≡ i → (has : Side → Bool) → sides ≡ bits (has North) (has East) (has South) (has West) →
      ((d : Side) → has d ≡ is_input sys s i d) →
      ((k : ℕ) (e : Entry) (d : Side) → slice_get c k ≡ Some e → states e d ≡ is_input sys s k d) →
      (k : ℕ) (e : Entry) (d : Side) → slice_get (c ++ record { place = p; sides = sides; rank = i } ∷ []) k ≡ Some e → states e d ≡ is_input sys s k d
  sides_more count has is inputs before k e d there =
      let x : Entry = record { place = p; sides = sides; rank = i } in
      elim (push_cases c x k e there) [
        | inl old ↦ before k e d old.0
        | inr new ↦
            let index : k ≡ i = last_index c x k e there new.1 ∙ count in
            ap (λ f. states f d) (sym new.0) ∙ states-bits p sides i has is d ∙ inputs d ∙ ap (λ j. is_input sys s j d) (sym index)
      ]

  pub ranks_more : length c ≡ i → ((k : ℕ) (e : Entry) → slice_get c k ≡ Some e → e.rank ≡ k) →
      (k : ℕ) (e : Entry) → slice_get (c ++ record { place = p; sides = sides; rank = i } ∷ []) k ≡ Some e → e.rank ≡ k
  ranks_more count before k e there =
      let x : Entry = record { place = p; sides = sides; rank = i } in
      elim (push_cases c x k e there) [
        | inl old ↦ before k e old.0
        | inr new ↦
            let index : k ≡ i = last_index c x k e there new.1 ∙ count in
            ap (λ (f : Entry). f.rank) (sym new.0) ∙ sym index
      ]
