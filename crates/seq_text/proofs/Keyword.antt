-- A keyword that is compared as two words.
use Rattle.std.proofs.Common.{◌≡◌, ℕ, ◌+◌, ◌<◌, ◌≤◌, List, [], ◌∷◌, ◌++◌, take, drop, length, get_or, inl, inr, sym, ap, subst, ◌∙◌, arith}
use Rattle.std.specs.Int.{w16, w32, from_le_bytes}
use Rattle.std.proofs.lemmas.Bool.{cases_lt}
use Rattle.std.proofs.lemmas.List.{take-append-drop, length-take-le, get_or-take, get_or_past, get_or-drop}
use Rattle.std.proofs.lemmas.Nat.{le_bytes_2, le_bytes_4}

-- the first of some bytes are bytes
small_taken : (l : List ℕ) (n : ℕ) → n ≤ length l → ((i : ℕ) → get_or l i 0 < 256) → (i : ℕ) → get_or (take n l) i 0 < 256
small_taken l n within small i =
    let Small : ℕ → Type 0 = λ b. b < 256 in
    let size : length (take n l) ≡ n = length-take-le n l within in
    elim (cases_lt i n) [
      | inl less ↦ subst Small (sym (get_or-take n l i 0 less)) (small i)
      | inr more ↦ subst Small (sym (get_or_past (take n l) i 0 (omega (arith, size, more)))) (omega arith)
    ]

-- a text that begins with these six bytes, by its first four as one word and the two behind them as another
pub keyword_at : (text front rest back fields : List ℕ) → ((i : ℕ) → get_or text i 0 < 256) → front ≡ take 4 text → rest ≡ drop 4 text → length rest + 4 ≡ length text → back ≡ take 2 rest → fields ≡ drop 2 rest → length fields + 2 ≡ length rest →
    from_le_bytes w32 front ≡ 1667329136 → from_le_bytes w16 back ≡ 8293 → text ≡ 112 ∷ 108 ∷ 97 ∷ 99 ∷ 101 ∷ 32 ∷ fields
keyword_at text front rest back fields small front_is rest_is long back_is fields_is longer plac e =
    let Small : List ℕ → Type 0 = λ l. (i : ℕ) → get_or l i 0 < 256 in
    let four : 4 ≤ length text = omega (arith, long) in
    let two : 2 ≤ length rest = omega (arith, longer) in
    let front_size : length front ≡ 4 = ap length front_is ∙ length-take-le 4 text four in
    let back_size : length back ≡ 2 = ap length back_is ∙ length-take-le 2 rest two in
    let rest_small : Small rest = subst Small (sym rest_is) (λ i. subst (λ b. b < 256) (sym (get_or-drop 4 text i 0)) (small (4 + i))) in
    let front_small : Small front = subst Small (sym front_is) (small_taken text 4 four small) in
    let back_small : Small back = subst Small (sym back_is) (small_taken rest 2 two rest_small) in
    let front_bytes : front ≡ 112 ∷ 108 ∷ 97 ∷ 99 ∷ [] = sym (le_bytes_4 front 1667329136 front_size front_small (sym plac)) in
    let back_bytes : back ≡ 101 ∷ 32 ∷ [] = sym (le_bytes_2 back 8293 back_size back_small (sym e)) in
    let outer : text ≡ front ++ rest = sym (take-append-drop 4 text) ∙ ap (λ l. l ++ drop 4 text) (sym front_is) ∙ ap (λ l. front ++ l) (sym rest_is) in
    let inner : rest ≡ back ++ fields = sym (take-append-drop 2 rest) ∙ ap (λ l. l ++ drop 2 rest) (sym back_is) ∙ ap (λ l. back ++ l) (sym fields_is) in
    outer ∙ ap (λ l. front ++ l) inner ∙ ap (λ l. l ++ (back ++ fields)) front_bytes ∙ ap (λ l. 112 ∷ 108 ∷ 97 ∷ 99 ∷ (l ++ fields)) back_bytes
