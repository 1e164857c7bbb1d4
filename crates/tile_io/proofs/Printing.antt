-- Prints and pieces of a chunk, one after another.
use Rattle.std.proofs.Common.{◌≡◌, ◌<◌, ℕ, zero, suc, ◌+◌, List, [], ◌∷◌, ◌++◌, length, take, drop, flat_map, get_or, Option, Some, None, Result, Ok, Err, ◌∙◌, ap, sym, subst, append_assoc, append-nil, add-one, arith, refl}
use Rattle.std.proofs.Math.Nat.{le_trans}
use Rattle.std.specs.Io.KnownBytes.{Appends}
use Rattle.tile_io.specs.Faults.{HasCause}
use Rattle.tile_io.specs.Prints.{AppendsFront, Prints}
use Rattle.tile_io.specs.Chunks.{Carries, PassesOn}
use Rattle.tile_io.proofs.Bytes.{Appends-then, Front-after}
use Rattle.tile_io.proofs.Rising.{Rose-then}

-- doing nothing appends nothing
Appends-nothing : (a : Option (List ℕ)) → Appends a a []
Appends-nothing None = tt
Appends-nothing (Some xs) = sym (append-nil xs)

-- a front of a text is one of a longer text
Front-more : (a b : Option (List ℕ)) (front rest : List ℕ) → AppendsFront a b front → AppendsFront a b (front ++ rest)
Front-more a b front rest failed = Front-after a a b [] front rest (front ++ rest) (Appends-nothing a) failed refl

Carries-then : (a b c : Option (List ℕ)) (i j k p q : List ℕ) → Carries a b i j p → Carries b c j k q → Carries a c i k (p ++ q)
Carries-then a b c i j k p q first second =
    let o = first.0 in
    let r = second.0 in (
      o ++ r,
      Appends-then a b c o r first.1 second.1,
      sym (append_assoc i p q) ∙ ap (λ l. l ++ q) first.2 ∙ append_assoc o j q ∙ ap (λ l. o ++ l) second.2 ∙ sym (append_assoc o r k),
    )

-- what fails at a later piece leaves a front of the whole
Front-carried : (a b c : Option (List ℕ)) (i j p q : List ℕ) → Carries a b i j p → AppendsFront b c (j ++ q) → AppendsFront a c (i ++ (p ++ q))
Front-carried a b c i j p q first failed =
    let o = first.0 in
    let all : i ++ (p ++ q) ≡ o ++ ((j ++ q) ++ []) =
    sym (append_assoc i p q) ∙ ap (λ l. l ++ q) first.2 ∙ append_assoc o j q ∙ ap (λ l. o ++ l) (sym (append-nil (j ++ q)))
    in
    Front-after a b c o (j ++ q) [] (i ++ (p ++ q)) first.1 failed all

module _ {S : Type 0} {faults : S → ℕ} where
  -- a call that succeeds, and then another
  HasCause-then : {T U E F : Type 0} {a b c : S} {x : T} (r : Result U F) → HasCause {T = T} {E = E} faults a b (Ok x) → HasCause faults b c r → HasCause faults a c r
  HasCause-then (Ok y) first second = record { failed = tt; later = le_trans first.later second.later }
  HasCause-then (Err e) first second = record { failed = Rose-then first.later second.failed; later = le_trans first.later second.later }

  -- a call that failed, told as another error
  HasCause-failed : {T U E F : Type 0} {a b : S} {e : E} {d : F} → HasCause {T = T} faults a b (Err e) → HasCause {T = U} faults a b (Err d)
  HasCause-failed cause = record { failed = cause.failed; later = cause.later }

-- a sink, by what was written to it and the count of its faults
module _ {S : Type 0} {written : S → Option (List ℕ)} {faults : S → ℕ} where
  -- what was printed has this text
  pub Prints-text : {T E : Type 0} {a b : S} {r : Result T E} {p q : List ℕ} → p ≡ q → Prints written faults a b r p → Prints written faults a b r q
  Prints-text {T = T} {E = E} {a = a} {b = b} {r = r} same printed = let Printed : List ℕ → Type 0 = λ l. Prints {T = T} {E = E} written faults a b r l in subst Printed same printed

  -- a text and then another
  pub Prints-then : {T U E F : Type 0} {a b c : S} {x : T} {p q : List ℕ} (r : Result U F) →
      Prints {T = T} {E = E} written faults a b (Ok x) p → Prints written faults b c r q → Prints written faults a c r (p ++ q)
  Prints-then {a = a} {b = b} {c = c} {p = p} {q = q} (Ok y) first second =
      record { whole = Appends-then (written a) (written b) (written c) p q first.whole second.whole; front = tt; cause = HasCause-then (Ok y) first.cause second.cause }
  Prints-then {a = a} {b = b} {c = c} {p = p} {q = q} (Err e) first second =
      record {
        whole = tt;
        front = Front-after (written a) (written b) (written c) p q [] (p ++ q) first.whole second.front (ap (λ l. p ++ l) (sym (append-nil q)));
        cause = HasCause-then (Err e) first.cause second.cause;
      }

  -- a text and then another, neither failing
  pub Prints-both : {T U E F : Type 0} {a b c : S} {x : T} {y : U} {p q : List ℕ} →
      Prints {T = T} {E = E} written faults a b (Ok x) p → Prints {E = F} written faults b c (Ok y) q → Prints {E = F} written faults a c (Ok y) (p ++ q)
  Prints-both {y = y} first second = Prints-then (Ok y) first second

  -- a text and then another that fails
  pub Prints-fails : {T U E F : Type 0} {a b c : S} {x : T} {e : F} {p q : List ℕ} →
      Prints {T = T} {E = E} written faults a b (Ok x) p → Prints {T = U} written faults b c (Err e) q → Prints {T = U} written faults a c (Err e) (p ++ q)
  Prints-fails {e = e} first second = Prints-then (Err e) first second

  -- a text that failed, and what would have followed
  pub Prints-stopped : {T U E F : Type 0} {a b : S} {e : E} {d : F} {p : List ℕ} (rest : List ℕ) →
      Prints {T = T} written faults a b (Err e) p → Prints {T = U} written faults a b (Err d) (p ++ rest)
  Prints-stopped {a = a} {b = b} {p = p} rest printed =
      record { whole = tt; front = Front-more (written a) (written b) p rest printed.front; cause = HasCause-failed printed.cause }

  -- what passed on has this text
  pub PassesOn-text : {T E : Type 0} {a b : S} {i j : List ℕ} {r : Result T E} {p q : List ℕ} → p ≡ q → PassesOn written faults a b i j r p → PassesOn written faults a b i j r q
  PassesOn-text {T = T} {E = E} {a = a} {b = b} {i = i} {j = j} {r = r} same passed =
      let Passed : List ℕ → Type 0 = λ l. PassesOn {T = T} {E = E} written faults a b i j r l in subst Passed same passed

  -- a piece and then another
  pub PassesOn-then : {T U E F : Type 0} {a b c : S} {i j k : List ℕ} {x : T} {p q : List ℕ} (r : Result U F) →
      PassesOn {T = T} {E = E} written faults a b i j (Ok x) p → PassesOn written faults b c j k r q → PassesOn written faults a c i k r (p ++ q)
  PassesOn-then {a = a} {b = b} {c = c} {i = i} {j = j} {k = k} {p = p} {q = q} (Ok y) first second =
      record {
        taken = Carries-then (written a) (written b) (written c) i j k p q first.taken second.taken;
        front = tt;
        dropped = tt;
        cause = HasCause-then (Ok y) first.cause second.cause;
      }
  PassesOn-then {a = a} {b = b} {c = c} {i = i} {j = j} {k = k} {p = p} {q = q} (Err e) first second =
      record {
        taken = tt;
        front = Front-carried (written a) (written b) (written c) i j p q first.taken second.front;
        dropped = second.dropped;
        cause = HasCause-then (Err e) first.cause second.cause;
      }

  -- a piece and then another, neither failing
  pub PassesOn-both : {T U E F : Type 0} {a b c : S} {i j k : List ℕ} {x : T} {y : U} {p q : List ℕ} →
      PassesOn {T = T} {E = E} written faults a b i j (Ok x) p → PassesOn {E = F} written faults b c j k (Ok y) q → PassesOn {E = F} written faults a c i k (Ok y) (p ++ q)
  PassesOn-both {y = y} first second = PassesOn-then (Ok y) first second

  -- a piece and then another that fails
  pub PassesOn-fails : {T U E F : Type 0} {a b c : S} {i j k : List ℕ} {x : T} {e : F} {p q : List ℕ} →
      PassesOn {T = T} {E = E} written faults a b i j (Ok x) p → PassesOn {T = U} written faults b c j k (Err e) q → PassesOn {T = U} written faults a c i k (Err e) (p ++ q)
  PassesOn-fails {e = e} first second = PassesOn-then (Err e) first second

  -- a piece that failed, and what would have followed
  pub PassesOn-stopped : {T U E F : Type 0} {a b : S} {i j : List ℕ} {e : E} {d : F} {p : List ℕ} (rest : List ℕ) →
      PassesOn {T = T} written faults a b i j (Err e) p → PassesOn {T = U} written faults a b i j (Err d) (p ++ rest)
  PassesOn-stopped {a = a} {b = b} {i = i} {p = p} rest passed =
      let Appended : List ℕ → Type 0 = λ l. AppendsFront (written a) (written b) l in
      record {
        taken = tt;
        front = subst Appended (append_assoc i p rest) (Front-more (written a) (written b) (i ++ p) rest passed.front);
        dropped = passed.dropped;
        cause = HasCause-failed passed.cause;
      }

  -- a piece that found its room behind what is held
  pub PassesOn-held : {T U E F : Type 0} {a b : S} {i j k : List ℕ} {x : T} {y : U} {p : List ℕ} →
      PassesOn {T = T} {E = E} written faults a b i j (Ok x) [] → k ≡ j ++ p → PassesOn {T = U} {E = F} written faults a b i k (Ok y) p
  PassesOn-held {i = i} {j = j} {k = k} {y = y} {p = p} passed held =
      let out = passed.taken.0 in
      let all : i ++ p ≡ out ++ k =
      ap (λ l. l ++ p) (sym (append-nil i)) ∙ ap (λ l. l ++ p) passed.taken.2 ∙ append_assoc out j p ∙ ap (λ l. out ++ l) (sym held)
      in
      record { taken = (out, passed.taken.1, all); front = tt; dropped = tt; cause = HasCause-then (Ok y) passed.cause (record { failed = tt; later = omega arith }) }

  -- all that was held goes out, and then a piece that is written past the chunk
  pub PassesOn-past : {T U E F : Type 0} {a b c : S} {i j : List ℕ} {x : T} {p : List ℕ} (r : Result U F) → j ≡ [] →
      Prints {T = T} {E = E} written faults a b (Ok x) i → Prints written faults b c r p → PassesOn written faults a c i j r p
  PassesOn-past {a = a} {b = b} {c = c} {i = i} {j = j} {p = p} (Ok y) empty first second =
      record {
        taken = (i ++ p, Appends-then (written a) (written b) (written c) i p first.whole second.whole, sym (append-nil (i ++ p)) ∙ ap (λ l. (i ++ p) ++ l) (sym empty));
        front = tt;
        dropped = tt;
        cause = HasCause-then (Ok y) first.cause second.cause;
      }
  PassesOn-past (Err e) empty first second =
      let both = Prints-then (Err e) first second in record { taken = tt; front = both.front; dropped = empty; cause = both.cause }

  -- A chunk that was empty at first, and whose last bytes are written.
  pub Prints-flushed : {T U E F : Type 0} {a b c : S} {i j : List ℕ} {x : T} {p : List ℕ} (r : Result U F) → i ≡ [] →
      PassesOn {T = T} {E = E} written faults a b i j (Ok x) p → Prints written faults b c r j → Prints written faults a c r p
  Prints-flushed {T = T} {E = E} {a = a} {b = b} {j = j} {x = x} {p = p} r empty passed printed =
      let all : passed.taken.0 ++ j ≡ p = sym passed.taken.2 ∙ ap (λ l. l ++ p) empty in
      let out : Prints {T = T} {E = E} written faults a b (Ok x) passed.taken.0 = record { whole = passed.taken.1; front = tt; cause = passed.cause } in
      Prints-text all (Prints-then r out printed)

  -- A chunk that was empty at first, and failed before all of the text was taken.
  pub Prints-lost : {T U E F : Type 0} {a b : S} {i j : List ℕ} {e : E} {d : F} {p : List ℕ} (rest : List ℕ) → i ≡ [] →
      PassesOn {T = T} written faults a b i j (Err e) p → Prints {T = U} written faults a b (Err d) (p ++ rest)
  Prints-lost {a = a} {b = b} {p = p} rest empty passed =
      let Appended : List ℕ → Type 0 = λ l. AppendsFront (written a) (written b) l in
      let front : AppendsFront (written a) (written b) p = subst Appended (ap (λ l. l ++ p) empty) passed.front in
      record { whole = tt; front = Front-more (written a) (written b) p rest front; cause = HasCause-failed passed.cause }

module _ {R : Type 0} (text : R → List ℕ) where
  -- the items' texts round one of them
  pub flat_map-split : (xs : List R) (k : ℕ) (d : R) → k < length xs →
      flat_map text xs ≡ flat_map text (take k xs) ++ (text (get_or xs k d) ++ flat_map text (drop (suc k) xs))
  flat_map-split [] k d within = let never : ⊥ = omega (arith, within) in absurd never
  flat_map-split (x ∷ xs) zero d within = refl
  flat_map-split (x ∷ xs) (suc k) d within =
      ap (λ l. text x ++ l) (flat_map-split xs k d (omega (arith, within)))
      ∙ sym (append_assoc (text x) (flat_map text (take k xs)) (text (get_or xs k d) ++ flat_map text (drop (suc k) xs)))

  flat_map-suc : (xs : List R) (k : ℕ) (d : R) → k < length xs → flat_map text (take k xs) ++ text (get_or xs k d) ≡ flat_map text (take (suc k) xs)
  flat_map-suc [] k d within = let never : ⊥ = omega (arith, within) in absurd never
  flat_map-suc (x ∷ xs) zero d within = sym (append-nil (text x))
  flat_map-suc (x ∷ xs) (suc k) d within =
      append_assoc (text x) (flat_map text (take k xs)) (text (get_or xs k d)) ∙ ap (λ l. text x ++ l) (flat_map-suc xs k d (omega (arith, within)))

  -- one item's text more
  pub flat_map-next : (xs : List R) (k : ℕ) (d : R) → k < length xs → flat_map text (take k xs) ++ text (get_or xs k d) ≡ flat_map text (take (k + 1) xs)
  flat_map-next xs k d within = rw (add-one k) (flat_map-suc xs k d within)

-- a loop over items, each of which has a text
module _ {R : Type 0} (text : R → List ℕ) {S : Type 0} {written : S → Option (List ℕ)} {faults : S → ℕ} where
  -- a loop that puts each item's text into a chunk
  pub PassesOn-next : {T U E F : Type 0} {a b c : S} {i j l : List ℕ} {x : T} {y : U} (xs : List R) (k : ℕ) (d : R) → k < length xs →
      PassesOn {T = T} {E = E} written faults a b i j (Ok x) (flat_map text (take k xs)) → PassesOn {T = U} {E = F} written faults b c j l (Ok y) (text (get_or xs k d)) →
      PassesOn {T = U} {E = F} written faults a c i l (Ok y) (flat_map text (take (k + 1) xs))
  PassesOn-next xs k d within first second = PassesOn-text (flat_map-next text xs k d within) (PassesOn-both first second)

  -- and stops where one fails
  pub PassesOn-halted : {T U V E F G : Type 0} {a b c : S} {i j l : List ℕ} {x : T} {e : F} {z : G} (xs : List R) (k : ℕ) (d : R) → k < length xs →
      PassesOn {T = T} {E = E} written faults a b i j (Ok x) (flat_map text (take k xs)) → PassesOn {T = U} {E = F} written faults b c j l (Err e) (text (get_or xs k d)) →
      PassesOn {T = V} {E = G} written faults a c i l (Err z) (flat_map text xs)
  PassesOn-halted xs k d within first second =
      let all = sym (append_assoc (flat_map text (take k xs)) (text (get_or xs k d)) (flat_map text (drop (suc k) xs))) in
      PassesOn-text (sym (flat_map-split text xs k d within ∙ all)) (PassesOn-stopped (flat_map text (drop (suc k) xs)) (PassesOn-fails first second))
