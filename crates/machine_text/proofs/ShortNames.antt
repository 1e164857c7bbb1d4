-- Names made of short names.
use Rattle.std.proofs.Common.{◌≡◌, ◌≢◌, ◌<◌, ◌≤◌, ◌==◌, ◌&&◌, ◌||◌, nat_le, ℕ, suc, Bool, true, false, IsTrue, List, [], ◌∷◌, ◌++◌, length, get_or, refl, sym, ◌∙◌, ap, inl, inr, arith, codes, length-append}
use Rattle.std.specs.List.{list_all}
use Rattle.std.specs.Cmp.Derive.{both_true}
use Rattle.std.proofs.lemmas.Bool.{cases_order, le-leb, leb-true}
use Rattle.std.proofs.lemmas.List.Folds.{list_all-append}
use Rattle.std.proofs.lemmas.List.Elements.{All-get_or}
use Rattle.atam.specs.TileSystem.{is_name, is_name_byte, IsName}
use Rattle.machine_text.specs.Machines.{is_short_name, is_short_name_byte, IsAlphabet}

-- a short name: no longer than eight bytes, each of which may stand in one
pub record IsShort (name : List ℕ) : Type 0 where
  pub short : length name ≤ 8
  pub bytes : list_all is_short_name_byte name ≡ true

first_true : (a b : Bool) → (a && b) ≡ true → (a ≡ true) × (b ≡ true)
first_true true b h = (refl, h)
first_true false b h = cc

is_short : (name : List ℕ) → IsTrue (is_short_name name) → IsShort name
unfolding is_short_name
is_short name named =
    let both = first_true (nat_le 1 (length name) && nat_le (length name) 8) (list_all is_short_name_byte name) named in
    let lengths = first_true (nat_le 1 (length name)) (nat_le (length name) 8) both.0 in
    record { short = leb-true (length name) 8 lengths.1; bytes = both.1 }

module _ (names : List (List ℕ)) (are : IsAlphabet names) where
  pub short_name : (i : ℕ) → i < length names → IsShort (get_or names i [])
  short_name i less = is_short (get_or names i []) (All-get_or (λ name. IsTrue (is_short_name name)) names i [] less are.short)

  -- a name tells its number
  pub one_name : (i j : ℕ) → i < length names → j < length names → get_or names i [] ≡ get_or names j [] → i ≡ j
  one_name i j i_less j_less same = elim (cases_order i j) [
    | inl equal ↦ equal
    | inr rest ↦ elim rest [
      | inl less ↦ absurd (are.distinct i j [] less j_less same)
      | inr more ↦ absurd (are.distinct j i [] more i_less (sym same))
    ]
  ]

-- the bytes of short names may stand in names
name_byte : (b : ℕ) → is_short_name_byte b ≡ true → is_name_byte b ≡ true
name_byte b h = ap (λ t. t || b == 58 || b == 46) h

all_name_bytes : (name : List ℕ) → list_all is_short_name_byte name ≡ true → list_all is_name_byte name ≡ true
all_name_bytes [] h = refl
all_name_bytes (b ∷ name) h =
    let both = first_true (is_short_name_byte b) (list_all is_short_name_byte name) h in
    both_true (name_byte b both.0) (all_name_bytes name both.1)

-- what stands in a name behind its first byte and a colon
pub record IsRest (rest : List ℕ) : Type 0 where
  pub short : length rest ≤ 17
  pub bytes : list_all is_name_byte rest ≡ true

pub rest-short : (name : List ℕ) → IsShort name → IsRest name
rest-short name h = record { short = let s = h.short in omega (arith, s); bytes = all_name_bytes name h.bytes }

pub rest-pair : (first second : List ℕ) → IsShort first → IsShort second → IsRest (first ++ codes ":" ++ second)
rest-pair first second f s =
    let colon = list_all-append is_name_byte first (58 ∷ []) in
    let whole = list_all-append is_name_byte (first ++ 58 ∷ []) second in
    let shorter = length-append first (58 ∷ []) in
    let long = length-append (first ++ 58 ∷ []) second in
    let a = f.short in
    let b = s.short in
    record {
      short = omega (arith, shorter, long, a, b);
      bytes = whole ∙ both_true (colon ∙ both_true (all_name_bytes first f.bytes) refl) (all_name_bytes second s.bytes);
    }

-- such a name
pub named : (code : ℕ) (rest : List ℕ) → is_name_byte code ≡ true → IsRest rest → IsName (code ∷ 58 ∷ rest)
unfolding is_name
named code rest byte h =
    let short = h.short in
    both_true (both_true (le-leb 1 (suc (suc (length rest))) (omega arith)) (le-leb (suc (suc (length rest))) 40 (omega (arith, short)))) (both_true byte h.bytes)

pub named_byte : (code : ℕ) → is_name_byte code ≡ true → IsName (code ∷ [])
unfolding is_name
named_byte code byte = both_true byte refl

-- short names on the two sides of a colon are told by both together
no_colon : (b : ℕ) → is_short_name_byte b ≡ true → b ≢ 58
no_colon b h same = let never : false ≡ true = ap is_short_name_byte (sym same) ∙ h in cc

pub one_pair : (first second third fourth : List ℕ) → list_all is_short_name_byte first ≡ true → list_all is_short_name_byte third ≡ true →
    first ++ codes ":" ++ second ≡ third ++ codes ":" ++ fourth → (first ≡ third) × (second ≡ fourth)
one_pair [] second [] fourth f t same = (refl, cc)
one_pair [] second (b ∷ third) fourth f t same =
    let never : 58 ≡ b = cc in
    absurd (no_colon b (first_true (is_short_name_byte b) (list_all is_short_name_byte third) t).0 (sym never))
one_pair (a ∷ first) second [] fourth f t same =
    let never : a ≡ 58 = cc in
    absurd (no_colon a (first_true (is_short_name_byte a) (list_all is_short_name_byte first) f).0 never)
one_pair (a ∷ first) second (b ∷ third) fourth f t same =
    let heads : a ≡ b = cc in
    let tails : first ++ codes ":" ++ second ≡ third ++ codes ":" ++ fourth = cc in
    let rest = one_pair first second third fourth (first_true (is_short_name_byte a) (list_all is_short_name_byte first) f).1 (first_true (is_short_name_byte b) (list_all is_short_name_byte third) t).1 tails in
    (λ z. heads z ∷ rest.0 z, rest.1)
