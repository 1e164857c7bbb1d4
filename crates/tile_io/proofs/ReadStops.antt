-- Why a source was not read whole.
use Rattle.std.proofs.Common.{◌≡◌, ◌≤◌, ◌+◌, ℕ, List, [], ◌++◌, length, length-append, Option, Err, ap, arith}
use Rattle.tile_io.specs.declared.whole.ReadStop.{ReadStop}
use Rattle.tile_io.specs.declared.whole.ReadStop.TheVariants.{Failed, TooLong, NoMemory}
use Rattle.tile_io.specs.Blocks.{StopsBefore}
use Rattle.tile_io.specs.Faults.{Rose}
use Rattle.tile_io.specs.Whole.{ReadsWhole}

module _ {S Bytes : Type 0} (left : S → Option (List ℕ)) (faults : S → ℕ) (bytes_of : Bytes → List ℕ) (old new : S) (later : faults old ≤ faults new) (front : List ℕ) (none : front ≡ []) where
  taken_size : (all taken : List ℕ) → all ≡ front ++ taken → length taken ≡ length all
  taken_size all taken is =
      let size : length (front ++ taken) ≡ length front + length taken = length-append front taken in
      let nothing : length front ≡ 0 = ap length none in
      let same : length all ≡ length (front ++ taken) = ap length is in
      omega (arith, size, nothing, same)

  -- it was not read on
  pub not_whole : (stop : ReadStop) → StopsBefore left faults front 67108865 old new stop → ReadsWhole left faults bytes_of old new (Err stop)
  not_whole Failed read =
      let size = taken_size read.0.0 read.0.1.0 read.0.1.2 in
      let raised : Rose (faults old) (faults new) = read.1 in
      record {
        bytes = tt;
        end = tt;
        short = tt;
        too_long = λ is. absurd (cc is);
        no_memory = λ is. absurd (cc is);
        failed = λ _. (read.0.1.0, read.0.1.1, (let few = read.0.2 in omega (arith, size, few)));
        rose = λ _. raised;
        later = later;
      }
  not_whole NoMemory read =
      let size = taken_size read.0.0 read.0.1.0 read.0.1.2 in
      record {
        bytes = tt;
        end = tt;
        short = tt;
        too_long = λ is. absurd (cc is);
        no_memory = λ _. (read.0.1.0, read.0.1.1, (let few = read.0.2 in omega (arith, size, few)));
        failed = λ is. absurd (cc is);
        rose = λ is. absurd (cc is);
        later = later;
      }
  not_whole TooLong read = absurd read
