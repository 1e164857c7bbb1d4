-- The types that attach at a site: all lists of them are of one length, and which of them an item is.
use Rattle.std.proofs.Common.{◌≡◌, ◌≤◌, ◌<◌, ◌∙◌, ℕ, refl, suc, get_or, sym, subst, ap, Option, slice_get, List, [], ◌∷◌, length, Contains, arith}
use Rattle.std.specs.List.{AllPairs}
use Rattle.std.proofs.lemmas.List.Elements.{All-contains}
use Rattle.std.proofs.lemmas.Map.Made.{Contains-tail}
use Rattle.std.proofs.lemmas.Option.{slice_get-get_or}
use Rattle.atam.specs.declared.site.Site.{Site}
use Rattle.atam.specs.declared.place.TypeId.{TypeId}
use Rattle.atam.specs.declared.place.Place.{Place}
use Rattle.atam.specs.TileSystem.{TileSystem}
use Rattle.atam.specs.Growth.{IsCandidate}
use Rattle.attach_rule.specs.Candidates.{AreCandidates}
use Rattle.type_index.proofs.Seconds.{least_first}
use Rattle.frontier_seat.specs.Inner.Looks.{IsOpenType}
use Rattle.frontier_seat.specs.Inner.Pickers.{HasMoreThan}

abbrev Sorted : List TypeId → Type 0
Sorted types = AllPairs (λ t u. t.0 < u.0) types

rest_sorted : (t : TypeId) (ts : List TypeId) → Sorted (t ∷ ts) → Sorted ts
rest_sorted t ts sorted i j d less within = sorted (suc i) (suc j) d (omega arith) (omega arith)

later : (t : TypeId) (ts : List TypeId) → Sorted (t ∷ ts) → (u : TypeId) → Contains ts u → t.0 < u.0
later t ts sorted u (k, within, at) =
    let less : t.0 < (get_or ts k u).0 = sorted 0 (suc k) u (omega arith) (omega arith) in
    omega (arith, less, ap (λ v. v.0) at)

no_fewer : (ts us : List TypeId) → Sorted ts → Sorted us → ((t : TypeId) → Contains ts t → Contains us t) → length ts ≤ length us
no_fewer [] us sorted sorts has = omega arith
no_fewer (t ∷ ts) [] sorted sorts has = let found = has t (0, omega arith, refl) in absurd (omega (arith, found.1))
no_fewer (t ∷ ts) (u ∷ us) sorted sorts has =
    let least : u.0 ≤ t.0 = least_first u us sorts t (has t (0, omega arith, refl)) in
    let more = no_fewer ts us (rest_sorted t ts sorted) (rest_sorted u us sorts) (λ v in_ts.
    let past : t.0 < v.0 = later t ts sorted v in_ts in
    let there : Contains (t ∷ ts) v = (suc in_ts.0, omega (arith, in_ts.1), in_ts.2) in
    Contains-tail u us v (λ same. let never : ⊥ = omega (arith, least, past, ap (λ w. w.0) same) in never) (has v there)) in
    omega (arith, more)

-- so each of them has an item at such a place
pub has_place : (sys : TileSystem) (tiles : List Place) (m : Site) (types : List TypeId) (n : ℕ) → AreCandidates sys tiles m types → HasMoreThan sys tiles m n → n < length types
has_place sys tiles m types n are more =
    let few = no_fewer more.types types more.are.sorted are.sorted (λ t in_types. are.complete t (All-contains (IsCandidate sys tiles m) more.types t more.are.each in_types)) in
    omega (arith, few, more.more)

-- an item of such a list attaches
pub open_at : (sys : TileSystem) (tiles : List Place) (m : Site) (types : List TypeId) (n : ℕ) (found : Option TypeId) → AreCandidates sys tiles m types → n < length types → found ≡ slice_get types n → IsOpenType sys tiles m found
open_at sys tiles m types n found are within is =
    let any : TypeId = record { 0 = 0 } in
    subst (IsOpenType sys tiles m) (sym (is ∙ slice_get-get_or types n any within)) (are.each n any within)

-- and so does the first one, if any does
pub open_first : (sys : TileSystem) (tiles : List Place) (m : Site) (types : List TypeId) (found : Option TypeId) → AreCandidates sys tiles m types → found ≡ slice_get types 0 → IsOpenType sys tiles m found
open_first sys tiles m [] found are is =
    subst (IsOpenType sys tiles m) (sym is) (λ t attaches. let none = are.complete t attaches in absurd (omega (arith, none.1)))
open_first sys tiles m (t ∷ types) found are is = open_at sys tiles m (t ∷ types) 0 found are (omega arith) is
