-- The names of a line refer, one after another.
use Rattle.std.proofs.Common.{◌≡◌, ◌<◌, ◌+◌, ℕ, zero, suc, List, [], ◌∷◌, ◌++◌, length, drop, Option, Some, None, MatchOption, Result, Ok, Err, All, refl, sym, ◌∙◌, ap, subst, arith, append_assoc, append-nil, drop-cons}
use Rattle.std.proofs.Math.Seq.{drop-length}
use Rattle.tile_io.specs.declared.fault.Cause.{Cause}
use Rattle.tile_io.specs.Checks.{◌>>=◌, field, referred}
use Rattle.tile_io.proofs.Checking.{bind_ok}
use Rattle.tile_io.proofs.PassedFields.{referred_ok}
use Rattle.machine_text.specs.Machines.{is_short_name}
use Rattle.machine_text.specs.MachineText.{references}

-- numbers in front of those that are read
abbrev pub with_front : List ℕ → Result (List ℕ) Cause → Result (List ℕ) Cause
with_front front (Ok numbers) = Ok (front ++ numbers)
with_front front (Err cause) = Err cause

one_more : (front : List ℕ) (a : ℕ) (rest : Result (List ℕ) Cause) → with_front front (rest >>= (λ others. Ok (a ∷ others))) ≡ with_front (front ++ a ∷ []) rest
one_more front a (Ok numbers) = ap (λ l. Ok l) (sym (append_assoc front (a ∷ []) numbers))
one_more front a (Err cause) = refl

module _ (names words : List (List ℕ)) (front : List ℕ) where
  next_word : (i : ℕ) → i < length words → drop i words ≡ field words i ∷ drop (i + 1) words
  next_word i within =
      let place : suc i ≡ i + 1 = omega arith in
      drop-cons words i [] within ∙ ap (λ n. field words i ∷ drop n words) place

  pub references_more : (i a : ℕ) → i < length words → referred is_short_name names (field words i) ≡ Ok a → with_front front (references names (drop i words)) ≡ with_front (front ++ a ∷ []) (references names (drop (i + 1) words))
  unfolding references
  references_more i a within is = rw (next_word i within, is) (one_more front a (references names (drop (i + 1) words)))

  pub references_stop : (i : ℕ) (cause : Cause) → i < length words → referred is_short_name names (field words i) ≡ Err cause → with_front front (references names (drop i words)) ≡ Err cause
  unfolding references
  references_stop i cause within is = rw (next_word i within, is) refl

  pub references_end : with_front front (references names (drop (length words) words)) ≡ Ok front
  unfolding references
  references_end = rw (drop-length words) (ap (λ l. Ok l) (append-nil front))

-- the same over a first word and the others
module _ (names : List (List ℕ)) (word : List ℕ) (rest : List (List ℕ)) (front : List ℕ) where
  pub references_next : (a : ℕ) → referred is_short_name names word ≡ Ok a → with_front front (references names (word ∷ rest)) ≡ with_front (front ++ a ∷ []) (references names rest)
  unfolding references
  references_next a is = rw is (one_more front a (references names rest))

  pub references_fault : (cause : Cause) → referred is_short_name names word ≡ Err cause → with_front front (references names (word ∷ rest)) ≡ Err cause
  unfolding references
  references_fault cause is = rw is refl

pub no_more : (names : List (List ℕ)) (front : List ℕ) → with_front front (references names []) ≡ Ok front
unfolding references
no_more names front = ap (λ l. Ok l) (append-nil front)

-- what is left behind the first
pub behind_first : {A : Type 0} (view : A → List ℕ) (first : Option A) (old new : List (List ℕ)) → MatchOption first ((old ≡ []) × (new ≡ [])) (λ x. old ≡ view x ∷ new) → new ≡ drop 1 old
behind_first view None old new none = none.1 ∙ sym (ap (drop 1) none.0)
behind_first view (Some x) old new is = sym (ap (drop 1) is)

pub no_front : (read : Result (List ℕ) Cause) → with_front [] read ≡ read
no_front (Ok numbers) = refl
no_front (Err cause) = refl

-- as many numbers as names, each in range
pub references_ok : (names words : List (List ℕ)) (numbers : List ℕ) → references names words ≡ Ok numbers → All (λ a. a < length names) numbers × (length numbers ≡ length words)
unfolding references
references_ok names [] numbers is =
    let none : [] ≡ numbers = cc is in
    let Good : List ℕ → Type 0 = λ l. All (λ a. a < length names) l × (length l ≡ 0) in
    subst Good none (λ k d within. (let never : ⊥ = omega (arith, within) in absurd never), refl)
references_ok names (word ∷ words) numbers is =
    let one = bind_ok (referred is_short_name names word) (λ first. references names words >>= (λ others. Ok (first ∷ others))) numbers is in
    let two = bind_ok (references names words) (λ others. Ok (one.0 ∷ others)) numbers one.2 in
    let rest = references_ok names words two.0 two.1 in
    let below = referred_ok is_short_name names word one.0 one.1 in
    let same : one.0 ∷ two.0 ≡ numbers = cc (two.2) in
    let Good : List ℕ → Type 0 = λ l. All (λ a. a < length names) l × (length l ≡ suc (length words)) in
    subst Good same (all_cons one.0 two.0 below rest.0, ap suc rest.1)
  where
    all_cons : (a : ℕ) (l : List ℕ) → a < length names → All (λ b. b < length names) l → All (λ b. b < length names) (a ∷ l)
    all_cons a l below all zero d within = below
    all_cons a l below all (suc k) d within = all k d (omega (arith, within))
