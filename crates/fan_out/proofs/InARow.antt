-- What workers have in a row.
use Rattle.std.proofs.Common.{◌≡◌, ◌<◌, ◌≤◌, ◌+◌, ◌++◌, ℕ, suc, zero, List, [], ◌∷◌, length, get_or, slice_index_or, remove, refl, sym, ◌∙◌, ap, subst, arith}
use denote.Param.Members.{Shared}
use Rattle.std.specs.Fn.{FnReturns}
use Rattle.std.specs.Fork.{AcceptsJobs, GivesJob}
use Rattle.fan_out.specs.declared.portions.Portion.{Portion}
use Rattle.fan_out.specs.Portions.{InARow, AcceptsPortions, GivesPortion}
use Rattle.fan_out.specs.Inner.Portions.{IsPortion}

-- the row ends no earlier than it begins
pub row_span : {D : Type 0} (R : ℕ → ℕ → ℕ → D → Type 0) (worker start end : ℕ) (ds : List D) → InARow R worker start end ds → start ≤ end
row_span R worker start end [] row = omega (arith, row)
row_span R worker start end (d ∷ ds) row = omega (arith, row.1, row_span R (suc worker) row.0 end ds row.3)

-- what follows from what there is for each
pub row_map : {D : Type 0} (R Q : ℕ → ℕ → ℕ → D → Type 0) → ((worker start end : ℕ) (d : D) → start ≤ end → R worker start end d → Q worker start end d) →
    (worker start end : ℕ) (ds : List D) → InARow R worker start end ds → InARow Q worker start end ds
row_map R Q each worker start end [] row = row
row_map R Q each worker start end (d ∷ ds) row = (row.0, row.1, each worker start row.0 d row.1 row.2, row_map R Q each (suc worker) row.0 end ds row.3)

-- one more at the end
pub row_push : {D : Type 0} (R : ℕ → ℕ → ℕ → D → Type 0) (worker start middle end : ℕ) (ds : List D) (d : D) → InARow R worker start middle ds → middle ≤ end →
    R (worker + length ds) middle end d → InARow R worker start end (ds ++ d ∷ [])
row_push R worker start middle end [] d row after last =
    let At : ℕ → ℕ → Type 0 = λ w m. R w m end d in
    (end, omega (arith, row, after), subst (λ w. At w start) {x = worker + 0} (omega arith) (subst (At (worker + 0)) (sym row) last), refl)
row_push R worker start middle end (e ∷ ds) d row after last =
    let Last : ℕ → Type 0 = λ w. R w middle end d in
    (row.0, row.1, row.2, row_push R (suc worker) row.0 middle end ds d row.3 after (subst Last {x = worker + suc (length ds)} (omega arith) last))

-- the last one
pub row_last : {D : Type 0} (R : ℕ → ℕ → ℕ → D → Type 0) (worker start end : ℕ) (ds : List D) (d : D) → InARow R worker start end (ds ++ d ∷ []) →
    (middle : ℕ) × InARow R worker start middle ds × (middle ≤ end) × R (worker + length ds) middle end d
row_last R worker start end [] d row =
    let At : ℕ → ℕ → Type 0 = λ w m. R w start m d in
    (start, refl, omega (arith, row.1, row.3), subst (λ w. At w end) {x = worker} (omega arith) (subst (At worker) row.3 row.2))
row_last R worker start end (e ∷ ds) d row =
    let rest = row_last R (suc worker) row.0 end ds d row.3 in
    let Last : ℕ → Type 0 = λ w. R w rest.0 end d in
    (rest.0, (row.0, row.1, row.2, rest.1), rest.2, subst Last {x = suc worker + length ds} (omega arith) rest.3)

module _ {F D : Type 0} (g : Shared F (Portion × Unit {0}) D) (f : F) where
  -- what may be called with each portion may be called with those in a row
  pub accepts_row : (worker start end most : ℕ) (ps : List Portion) → InARow IsPortion worker start end ps → end ≤ most → AcceptsPortions g f most → AcceptsJobs g f ps
  accepts_row worker start end most [] row below accepts i p within there = let never : ⊥ = omega (arith, within) in absurd never
  accepts_row worker start end most (q ∷ ps) row below accepts zero p within there =
      let is : p ≡ record { worker = worker; start = start; end = row.0 } = there ∙ row.2 in
      let after = row_span IsPortion (suc worker) row.0 end ps row.3 in
      accepts p (omega (arith, row.1, ap (λ (r : Portion). r.start) is, ap (λ (r : Portion). r.end) is)) (omega (arith, after, below, ap (λ (r : Portion). r.end) is))
  accepts_row worker start end most (q ∷ ps) row below accepts (suc i) p within there =
      accepts_row (suc worker) row.0 end most ps row.3 below accepts i p (omega (arith, within)) there

  -- what was done of each is in a row
  pub done_row : (worker start end : ℕ) (ps : List Portion) (ds : List D) → length ds ≡ length ps → InARow IsPortion worker start end ps →
      ((i : ℕ) (e : D) → i < length ps → GivesJob g f ps i (get_or ds i e)) → InARow (GivesPortion g f) worker start end ds
  done_row worker start end [] [] same row each = row
  done_row worker start end [] (d ∷ ds) same row each = let never : ⊥ = omega (arith, same) in absurd never
  done_row worker start end (p ∷ ps) [] same row each = let never : ⊥ = omega (arith, same) in absurd never
  done_row worker start end (p ∷ ps) (d ∷ ds) same row each =
      let first = each 0 d (omega arith) in
      let is : first.job ≡ record { worker = worker; start = start; end = row.0 } = sym (first.job_is p) ∙ row.2 in
      let Done : Portion → Type 0 = λ q. FnReturns g f (q, tt) d in (
        row.0,
        row.1,
        subst Done is first.call,
        done_row (suc worker) row.0 end ps ds (omega (arith, same)) row.3 (λ i e below.
            let job = each (suc i) e (omega (arith, below)) in
            record { job = job.job; job_read = job.job_read; job_is = job.job_is; call = job.call }),
      )

-- the first of some, and the others
pub first_rest : {A : Type 0} (all rest : List A) (first : A) → 0 < length all → first ≡ slice_index_or all 0 first → rest ≡ remove all 0 → all ≡ first ∷ rest
first_rest [] rest first some is left = let never : ⊥ = omega (arith, some) in absurd never
first_rest (x ∷ xs) rest first some is left = λ k. sym is k ∷ sym left k
