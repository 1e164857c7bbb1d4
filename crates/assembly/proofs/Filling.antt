-- One cell more of those that fill gaps, and of those that are counted.
use Rattle.std.proofs.Common.{◌≡◌, ◌<◌, ◌≤◌, ◌+◌, ◌==◌, ℕ, Bool, cond, not, true, false, List, length, take, count_by, get_or, set, sym, ◌∙◌, ap, subst, inl, inr, refl, arith}
use mir.Val.{bool_byte}
use Rattle.std.proofs.lemmas.Bool.{cases_lt}
use Rattle.std.proofs.lemmas.List.{get_or-set_same, get_or-set_other}
use Rattle.std.proofs.lemmas.List.Sums.{sum_by_more}
use Rattle.assembly.specs.Inner.GridCells.{is_tile}
use Rattle.assembly.specs.Inner.Filling.{cell_over, filled_cell}

-- the gaps before an index are filled
pub record IsFilledTo (n : ℕ) (old other new : List ℕ) : Type 0 where
  pub before : (k : ℕ) → k < n → get_or new k 0 ≡ filled_cell old other k
  pub after : (k : ℕ) → n ≤ k → get_or new k 0 ≡ get_or old k 0

-- one cell more
pub filled_more : (n cell : ℕ) (old other new : List ℕ) → IsFilledTo n old other new → n < length new → cell ≡ cell_over (get_or new n 0) (get_or other n 0) → IsFilledTo (n + 1) old other (set new n cell)
filled_more n cell old other new to within is =
    let right : cell ≡ filled_cell old other n = is ∙ ap (λ own. cell_over own (get_or other n 0)) (to.after n (omega arith)) in
    record {
      before = λ k below. elim (cases_lt k n) [
        | inl earlier ↦ get_or-set_other new n k cell 0 (λ same. let never : ⊥ = omega (arith, earlier, same) in never) ∙ to.before k earlier
        | inr last ↦
            let equal : n ≡ k = omega (arith, below, last) in
            let Right : ℕ → Type 0 = λ j. get_or (set new n cell) j 0 ≡ filled_cell old other j in
            subst Right equal (get_or-set_same new n cell 0 within ∙ right)
      ];
      after = λ k past. get_or-set_other new n k cell 0 (λ same. let never : ⊥ = omega (arith, past, same) in never) ∙ to.after k (omega (arith, past));
    }

as_number : (b : Bool) → bool_byte b ≡ cond b 1 0
as_number true = refl
as_number false = refl

-- a cell is counted where it is of a tile
pub counted_more : (cells : List ℕ) (n : ℕ) → n < length cells → count_by is_tile (take (n + 1) cells) ≡ count_by is_tile (take n cells) + bool_byte (not (get_or cells n 0 == 0))
counted_more cells n within =
    let Count : ℕ → Type 0 = λ one. count_by is_tile (take (n + 1) cells) ≡ count_by is_tile (take n cells) + one in
    subst Count (sym (as_number (is_tile (get_or cells n 0)))) (sum_by_more (λ cell. cond (is_tile cell) 1 0) cells n 0 within)
