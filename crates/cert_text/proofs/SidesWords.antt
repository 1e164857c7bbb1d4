-- The word of a set of sides reads as it.
use Rattle.std.proofs.Common.{◌≡◌, ℕ, zero, suc, ◌≤◌, ◌<◌, Bool, true, length, Ok, refl, arith}
use Rattle.std.specs.Prelude.{nat_le, ◌&&◌, List, [], Result, position, bytes_eq, ok_or}
use Rattle.std.specs.List.{list_all, slice_index_or}
use Rattle.tile_io.specs.declared.fault.Cause.{Cause}
use Rattle.tile_io.specs.declared.fault.Cause.TheVariants.{BadName}
use Rattle.tile_io.proofs.Spelled.{IsWord}
use Rattle.tile_io.proofs.WordsSpelled.{word_from}
use Rattle.cert_text.specs.CertificateLines.{side_words}

-- the word of a set of sides, and the set that a word states
abbrev pub sides_word : ℕ → List ℕ
sides_word sides = slice_index_or side_words sides []

abbrev pub sides_field : List ℕ → Result ℕ Cause
sides_field word = ok_or (position (bytes_eq word) side_words) BadName

-- a word of at most four letters, which reads as the set
pub record HasSidesWord (sides : ℕ) : Type 0 where
  pub word : IsWord (sides_word sides)
  pub short : length (sides_word sides) ≤ 4
  pub reads : sides_field (sides_word sides) ≡ Ok sides

-- `-` and the letters of the sides are among these bytes, and no space and no newline is
abbrev is_letter : ℕ → Bool
is_letter b = nat_le 45 b && nat_le b 87

told : (sides : ℕ) → list_all is_letter (sides_word sides) ≡ true → 0 < length (sides_word sides) → length (sides_word sides) ≤ 4 → sides_field (sides_word sides) ≡ Ok sides → HasSidesWord sides
told sides letters some short reads = record { word = word_from is_letter (sides_word sides) refl refl some letters; short = short; reads = reads }

-- each of the sixteen
pub sides_told : (sides : ℕ) → sides < 16 → HasSidesWord sides
sides_told zero below = told 0 refl (omega arith) (omega arith) refl
sides_told (suc zero) below = told 1 refl (omega arith) (omega arith) refl
sides_told (suc (suc zero)) below = told 2 refl (omega arith) (omega arith) refl
sides_told (suc (suc (suc zero))) below = told 3 refl (omega arith) (omega arith) refl
sides_told (suc (suc (suc (suc zero)))) below = told 4 refl (omega arith) (omega arith) refl
sides_told (suc (suc (suc (suc (suc zero))))) below = told 5 refl (omega arith) (omega arith) refl
sides_told (suc (suc (suc (suc (suc (suc zero)))))) below = told 6 refl (omega arith) (omega arith) refl
sides_told (suc (suc (suc (suc (suc (suc (suc zero))))))) below = told 7 refl (omega arith) (omega arith) refl
sides_told (suc (suc (suc (suc (suc (suc (suc (suc zero)))))))) below = told 8 refl (omega arith) (omega arith) refl
sides_told (suc (suc (suc (suc (suc (suc (suc (suc (suc zero))))))))) below = told 9 refl (omega arith) (omega arith) refl
sides_told (suc (suc (suc (suc (suc (suc (suc (suc (suc (suc zero)))))))))) below = told 10 refl (omega arith) (omega arith) refl
sides_told (suc (suc (suc (suc (suc (suc (suc (suc (suc (suc (suc zero))))))))))) below = told 11 refl (omega arith) (omega arith) refl
sides_told (suc (suc (suc (suc (suc (suc (suc (suc (suc (suc (suc (suc zero)))))))))))) below = told 12 refl (omega arith) (omega arith) refl
sides_told (suc (suc (suc (suc (suc (suc (suc (suc (suc (suc (suc (suc (suc zero))))))))))))) below = told 13 refl (omega arith) (omega arith) refl
sides_told (suc (suc (suc (suc (suc (suc (suc (suc (suc (suc (suc (suc (suc (suc zero)))))))))))))) below = told 14 refl (omega arith) (omega arith) refl
sides_told (suc (suc (suc (suc (suc (suc (suc (suc (suc (suc (suc (suc (suc (suc (suc zero))))))))))))))) below = told 15 refl (omega arith) (omega arith) refl
sides_told (suc (suc (suc (suc (suc (suc (suc (suc (suc (suc (suc (suc (suc (suc (suc (suc n)))))))))))))))) below = absurd (omega (arith, below))
