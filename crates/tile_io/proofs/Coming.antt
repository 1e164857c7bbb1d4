-- Blocks of a text come one after another.
use Rattle.std.proofs.Common.{◌≡◌, ◌≤◌, ◌+◌, ℕ, List, [], ◌++◌, length, Option, subst, ◌∙◌, arith, length-append}
use Rattle.std.proofs.Math.Nat.{le_refl, le_trans}
use Rattle.std.specs.Io.KnownBytes.{Consumes}
use Rattle.tile_io.specs.declared.whole.ReadStop.{ReadStop}
use Rattle.tile_io.specs.declared.whole.ReadStop.TheVariants.{Failed, TooLong, NoMemory}
use Rattle.tile_io.specs.Inner.Blocks.{Comes, StopsComing}
use Rattle.tile_io.proofs.Bytes.{Consumes-none, Consumes-then}
use Rattle.tile_io.proofs.Rising.{Rose-then}

module _ {S : Type 0} (left : S → Option (List ℕ)) (faults : S → ℕ) where
  pub comes_none : (came : ℕ) (source : S) → came ≤ 67108864 → Comes left faults came came [] source source
  comes_none came source short = record { taken = Consumes-none (left source); count = omega arith; short = short; later = le_refl (faults source) }

  pub comes_all : (n m : ℕ) (more : List ℕ) (old new : S) → Comes left faults n m more old new → Comes left faults n (n + length more) more old new
  comes_all n m more old new comes = let Here : ℕ → Type 0 = λ k. Comes left faults n k more old new in subst Here comes.count comes

  module _ (a b c : S) (n m : ℕ) (first : List ℕ) (before : Comes left faults n m first a b) where
    pub comes_more : (k : ℕ) (second : List ℕ) → Comes left faults m k second b c → Comes left faults n k (first ++ second) a c
    comes_more k second after =
        let size : length (first ++ second) ≡ length first + length second = length-append first second in
        let count : m ≡ n + length first = before.count in
        let total : k ≡ m + length second = after.count in
        record { taken = Consumes-then (left a) (left b) (left c) first second before.taken after.taken; count = omega (arith, size, count, total); short = after.short; later = le_trans before.later after.later }

    more_then : (more : List ℕ) → Consumes (left b) (left c) more → Consumes (left a) (left c) (first ++ more) × (n + length (first ++ more) ≡ m + length more)
    more_then more taken =
        let size : length (first ++ more) ≡ length first + length more = length-append first more in
        let count : m ≡ n + length first = before.count in
        (Consumes-then (left a) (left b) (left c) first more before.taken taken, omega (arith, size, count))

    pub stops_later : (stop : ReadStop) → StopsComing left faults m b c stop → StopsComing left faults n a c stop
    stops_later Failed h =
        let all = more_then h.0.0 h.0.1 in
        ((first ++ h.0.0, all.0, (let few = h.0.2 in omega (arith, all.1, few))), Rose-then before.later h.1)
    stops_later TooLong h = let all = more_then h.0.0 h.0.1 in ((first ++ h.0.0, all.0, all.1 ∙ h.0.2), le_trans before.later h.1)
    stops_later NoMemory h = let all = more_then h.0.0 h.0.1 in ((first ++ h.0.0, all.0, (let few = h.0.2 in omega (arith, all.1, few))), le_trans before.later h.1)
