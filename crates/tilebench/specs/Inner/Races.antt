-- What workers won, as the program lists it.
use Rattle.std.specs.Prelude.{◌≡◌, ◌<◌, ◌+◌, ◌++◌, ℕ, zero, suc, List, [], ◌∷◌, codes, decimal, flat_map, length, slice_get, slice_index, Some}
use Rattle.tile_io.specs.Lines.{line_of}
use Rattle.grow_workers.specs.Workers.{worker_number}
use Rattle.tilebench.specs.declared.wins.Win.{Win}

-- what the first so many workers won
abbrev pub won_together : List ℕ → ℕ → ℕ
won_together counts zero = 0
won_together counts (suc n) = won_together counts n + slice_index counts (worker_number n)

-- each of so many workers in turn, with what it won, by the counts of the numbers
pub record AreWins (workers : ℕ) (counts : List ℕ) (wins : List Win) : Type 0 where
  pub count : length wins ≡ workers
  pub each : (w : ℕ) → w < workers → slice_get wins w ≡ Some (record { worker = w; count = slice_index counts (worker_number w) })

abbrev pub win_line : Win → List ℕ
win_line win = line_of (codes "won" ∷ decimal win.worker ∷ decimal win.count ∷ [])

-- a line for each worker, and one for all
abbrev pub race_text : List Win → ℕ → List ℕ
race_text wins total = flat_map win_line wins ++ line_of (codes "total" ∷ decimal total ∷ [])
