-- A list of scouts by their names, as it is read and set.
use Rattle.std.proofs.Common.{◌≡◌, ◌<◌, ℕ, zero, suc, Bool, true, false, not, List, [], ◌∷◌, ◌++◌, set, get_or, length, map, Option, Some, None, Result, Ok, Err, refl, sym, ◌∙◌, ap, subst, arith}
use Rattle.std.specs.Prelude.{option_map, IfNone, IfSome}
use Rattle.std.specs.Option.{is_some}
use Rattle.std.specs.Result.{IsErrAnd}
use Rattle.std.proofs.lemmas.Bool.{false≢true}
use Rattle.std.proofs.lemmas.Option.{none-some, same_Some}
use Rattle.std.proofs.lemmas.List.{set-set}
use Rattle.atam.specs.declared.place.Place.{Place}
use Rattle.grow_core.specs.declared.placed_tile.PlacedTile.{PlacedTile}
use Rattle.grow_core.specs.Core.{ScoutState, scout_at}
use Rattle.grow_core.specs.Steps.{IsScoutOf}
use Rattle.grow_core.specs.Inner.Entries.{BoxedScout, Becomes}

abbrev pub scouts_of : List (Option BoxedScout) → List (Option ScoutState)
scouts_of entries = map (option_map (λ b. b.scout)) entries

-- the scout at an entry
entry_at : (entries : List (Option BoxedScout)) (a : ℕ) (d : Option BoxedScout) → a < length entries → scout_at (scouts_of entries) a ≡ option_map (λ b. b.scout) (get_or entries a d)
entry_at [] a d within = absurd (omega (arith, within))
entry_at (x ∷ entries) zero d within = refl
entry_at (x ∷ entries) (suc a) d within = entry_at entries a d (omega (arith, within))

pub entry : (entries : List (Option BoxedScout)) (scouts : List (Option ScoutState)) (a : ℕ) (o d : Option BoxedScout) → scouts_of entries ≡ scouts → a < length entries → o ≡ get_or entries a d → scout_at scouts a ≡ option_map (λ b. b.scout) o
entry entries scouts a o d are within is = sym (ap (λ l. scout_at l a) are) ∙ (entry_at entries a d within ∙ ap (option_map (λ b. b.scout)) (sym is))

pub none_from : (found : Option ScoutState) (o : Option BoxedScout) → found ≡ option_map (λ b. b.scout) o → IfNone o (found ≡ None)
none_from found None e = e
none_from found (Some b) e = tt

pub some_from : (found : Option ScoutState) (o : Option BoxedScout) → found ≡ option_map (λ b. b.scout) o → IfSome o (λ b. found ≡ Some b.scout)
some_from found None e = tt
some_from found (Some b) e = e

-- what is known where an option is none, or is not
pub where_none : {X : Type 0} (P : Type 0) (o : Option X) (b : Bool) → is_some o ≡ not b → b ≡ true → IfNone o P → P
where_none P None b e is known = known
where_none P (Some x) b e is known = absurd (false≢true (sym (e ∙ ap not is)))

pub where_some : {X : Type 0} (P : X → Type 0) (o : Option X) (b : Bool) → is_some o ≡ not b → b ≡ false → IfSome o P → (x : X) × P x
where_some P None b e is known = absurd (false≢true (e ∙ ap not is))
where_some P (Some x) b e is known = (x, known)

-- a name that has a scout is one of the list
pub name_within : (l : List (Option ScoutState)) (a : ℕ) (v : ScoutState) → scout_at l a ≡ Some v → a < length l
name_within [] a v e = absurd (none-some v e)
name_within (x ∷ l) zero v e = omega arith
name_within (x ∷ l) (suc a) v e = let h = name_within l a v e in omega (arith, h)

-- nothing changes where what stands at an entry is set again
pub unset_none : (l : List (Option ScoutState)) (a : ℕ) → scout_at l a ≡ None → set l a None ≡ l
unset_none [] a e = refl
unset_none (x ∷ l) zero e = ap (λ y. y ∷ l) (sym e)
unset_none (x ∷ l) (suc a) e = ap (λ k. x ∷ k) (unset_none l a e)

pub set_same : (l : List (Option ScoutState)) (a : ℕ) (v : ScoutState) → scout_at l a ≡ Some v → set l a (Some v) ≡ l
set_same [] a v e = refl
set_same (x ∷ l) zero v e = ap (λ y. y ∷ l) (sym e)
set_same (x ∷ l) (suc a) v e = ap (λ k. x ∷ k) (set_same l a v e)

-- a scout is taken out and put back
pub put_back : (old out new : List (Option ScoutState)) (a : ℕ) (v : ScoutState) → scout_at old a ≡ Some v → out ≡ set old a None → new ≡ set out a (Some v) → new ≡ old
put_back old out new a v here is_out is_new = is_new ∙ (ap (λ l. set l a (Some v)) is_out ∙ (set-set old a None (Some v) ∙ set_same old a v here))

-- and a changed one is put in its place
pub put_changed : (old out new : List (Option ScoutState)) (a : ℕ) (w : ScoutState) → out ≡ set old a None → new ≡ set out a (Some w) → new ≡ set old a (Some w)
put_changed old out new a w is_out is_new = is_new ∙ (ap (λ l. set l a (Some w)) is_out ∙ set-set old a None (Some w))

pub becomes : (old out new : List (Option ScoutState)) (a : ℕ) (u v w : ScoutState) (p : Place) (wins : ScoutState → List PlacedTile) → scout_at old a ≡ Some u → scout_at old a ≡ Some v →
    out ≡ set old a None → new ≡ set out a (Some w) → IsScoutOf u.owned (u.seen ++ p ∷ []) (wins u) w → Becomes old new a v.owned (v.seen ++ p ∷ []) (wins v)
becomes old out new a u v w p wins at_u at_v is_out is_new is =
    subst (λ (z : ScoutState). Becomes old new a z.owned (z.seen ++ p ∷ []) (wins z)) (same_Some u v (sym at_u ∙ at_v))
    (record { scout = w; is = is; others = put_changed old out new a w is_out is_new })

-- a result is the error that is known of it
pub err_is : {S E : Type 0} (r : Result S E) (x : E) → IsErrAnd r (λ y. y ≡ x) → r ≡ Err x
err_is (Ok s) x e = absurd e
err_is (Err y) x e = ap Err e
