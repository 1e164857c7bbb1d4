-- A tile that is there already.
use Rattle.std.proofs.Common.{◌≡◌, Bool, false, not, List, [], ◌∷◌, ◌++◌, Option, Some, None, sym, ◌∙◌, ap, subst, inl, inr}
use Rattle.std.specs.Option.{is_some}
use Rattle.std.proofs.lemmas.Bool.{false≢true}
use Rattle.std.proofs.lemmas.List.Elements.{Contains-push_cases, Contains-append_left}
use Rattle.std.specs.Prelude.{Contains}
use Rattle.atam.specs.declared.place.TypeId.{TypeId}
use Rattle.atam.specs.declared.place.Place.{Place}
use Rattle.atam.specs.Placements.{tile_at, SamePlacements}
use Rattle.atam.proofs.Placements.{tile_at-Contains}
use Rattle.grow_core.specs.Steps.{place}

pub seen_again : (seen : List Place) (p : Place) (o : Option TypeId) → o ≡ tile_at seen p.site → (b : Bool) → is_some o ≡ not b → b ≡ false →
    ((t : TypeId) → tile_at seen p.site ≡ Some t → t ≡ p.tile) → SamePlacements (seen ++ p ∷ []) seen
seen_again seen p None is b e f agrees = absurd (false≢true (e ∙ ap not f))
seen_again seen p (Some t) is b e f agrees =
    let there : Contains seen p = subst (λ u. Contains seen (place p.site u)) (agrees t (sym is)) (tile_at-Contains seen p.site t (sym is)) in
    record {
      part = λ q c. elim (Contains-push_cases seen p q c) [ inl old ↦ old | inr new ↦ subst (Contains seen) new there ];
      whole = λ q c. Contains-append_left seen (p ∷ []) q c;
    }

pub same_seen : (seen : List Place) → SamePlacements seen seen
same_seen seen = record { part = λ q c. c; whole = λ q c. c }
