-- What workers win, one after another and together.
use Rattle.std.proofs.Common.{◌≡◌, ◌≢◌, Bool, true, ◌∙◌, ◌<◌, ◌≤◌, ◌+◌, ◌-◌, ◌++◌, ℕ, zero, suc, List, [], ◌∷◌, length, drop, codes, decimal, flat_map, Option, Some, unwrap_or, refl, sym, ap, subst, arith, inl, inr, add-one}
use Rattle.std.specs.Prelude.{slice_get, slice_index, sum, sum_by, map, is_some}
use Rattle.std.specs.List.{range_with_len}
use Rattle.std.proofs.lemmas.Bool.{cases_lt}
use Rattle.std.proofs.lemmas.List.Folds.{flat_map-map}
use Rattle.std.proofs.lemmas.List.Sums.{sum-map, sum_by-append, sum_by-cons}
use Rattle.std.proofs.lemmas.Simd.{map-map}
use Rattle.atam.specs.TileSystem.{TileSystem}
use Rattle.site_table.specs.Seats.{GrownValue}
use Rattle.grow_workers.specs.Workers.{IsGrownBy, worker_number}
use Rattle.tilebench.specs.declared.wins.Win.{Win}
use Rattle.tilebench.specs.Wins.{WonAll, won_by}
use Rattle.tilebench.specs.Commands.Race.{IsRaceText}
use Rattle.tilebench.specs.declared.growth.Growth.{Growth}
use Rattle.job_board.specs.AnswerText.{is_unique}
use Rattle.tilebench.specs.Growths.{IsGrowth}
use Rattle.tilebench.specs.Commands.Report.{IsReportText}
use Rattle.tilebench.specs.Inner.Races.{AreWins, race_text, win_line, won_together}
use Rattle.tilebench.specs.Inner.Rooms.{GrowsTo, outcome_of}
use Rattle.report.specs.Reports.{report_line}
use Rattle.tile_io.specs.Lines.{line_of}

-- an element before the last, and the last
push_before : (wins : List Win) (win : Win) (k : ℕ) → k < length wins → slice_get (wins ++ win ∷ []) k ≡ slice_get wins k
push_before [] win k within = absurd (omega (arith, within))
push_before (x ∷ wins) win zero within = refl
push_before (x ∷ wins) win (suc k) within = push_before wins win k (omega (arith, within))

push_last : (wins : List Win) (win : Win) → slice_get (wins ++ win ∷ []) (length wins) ≡ Some win
push_last [] win = refl
push_last (x ∷ wins) win = push_last wins win

-- one worker more
pub wins_more : (counts : List ℕ) (wins : List Win) (n : ℕ) (win : Win) → length wins ≡ n → win ≡ record { worker = n; count = slice_index counts (worker_number n) } →
    ((w : ℕ) → w < n → slice_get wins w ≡ Some (record { worker = w; count = slice_index counts (worker_number w) })) →
    (w : ℕ) → w < n + 1 → slice_get (wins ++ win ∷ []) w ≡ Some (record { worker = w; count = slice_index counts (worker_number w) })
wins_more counts wins n win many is each w below = elim (cases_lt w n) [
  | inl earlier ↦ push_before wins win w (omega (arith, many, earlier)) ∙ each w earlier
  | inr last ↦
      let at : w ≡ length wins = omega (arith, many, below, last) in
      let at_n : w ≡ n = omega (arith, below, last) in
      ap (slice_get (wins ++ win ∷ [])) at ∙ push_last wins win ∙ ap (λ (o : Win). Some o) is
      ∙ ap (λ (k : ℕ). Some (record { worker = k; count = slice_index counts (worker_number k) })) (sym at_n)
]

pub together_more : (counts : List ℕ) (wins : List Win) (n : ℕ) (win : Win) → win.count ≡ slice_index counts (worker_number n) → sum_by (λ (w : Win). w.count) wins ≡ won_together counts n →
    sum_by (λ (w : Win). w.count) (wins ++ win ∷ []) ≡ won_together counts (n + 1)
together_more counts wins n win is together =
    let sums = sum_by-append (λ (w : Win). w.count) wins (win ∷ []) in
    let next : won_together counts (n + 1) ≡ won_together counts n + slice_index counts (worker_number n) = ap (won_together counts) (add-one n) in
    omega (arith, sums, next, is, together)

-- a sum without its first elements
sum_next : (xs : List ℕ) (k : ℕ) → k < length xs → sum (drop k xs) ≡ slice_index xs k + sum (drop (suc k) xs)
sum_next [] k within = absurd (omega (arith, within))
sum_next (x ∷ xs) zero within = sum_by-cons (λ (y : ℕ). y) x xs
sum_next (x ∷ xs) (suc k) within = sum_next xs k (omega (arith, within))

sum_past : (xs : List ℕ) (m k : ℕ) → k + m ≤ length xs → ((n : ℕ) → k ≤ n → n < k + m → slice_index xs n ≡ 0) → sum (drop k xs) ≡ sum (drop (k + m) xs)
sum_past xs zero k within none = let same : k ≡ k + 0 = omega arith in ap (λ (n : ℕ). sum (drop n xs)) same
sum_past xs (suc m) k within none =
    let same : suc k + m ≡ k + suc m = omega arith in
    let at : sum (drop (suc k + m) xs) ≡ sum (drop (k + suc m) xs) = ap (λ (n : ℕ). sum (drop n xs)) same in
    let here : slice_index xs k ≡ 0 = none k (omega arith) (omega arith) in
    let next = sum_next xs k (omega (arith, within)) in
    let more = sum_past xs m (suc k) (omega (arith, within)) (λ n above below. none n (omega (arith, above)) (omega (arith, below))) in
    omega (arith, here, next, more, at)

sum_none : (xs : List ℕ) → sum (drop (length xs) xs) ≡ 0
sum_none [] = refl
sum_none (x ∷ xs) = sum_none xs

-- the wins of worker 0 and of those with the greatest numbers
together_is : (counts : List ℕ) (j : ℕ) → length counts ≡ 64 → j ≤ 63 → won_together counts (suc j) ≡ slice_index counts 0 + sum (drop (64 - j) counts)
together_is counts zero many few =
    let none : sum (drop 64 counts) ≡ 0 = ap (λ (k : ℕ). sum (drop k counts)) (sym many) ∙ sum_none counts in
    omega (arith, none)
together_is counts (suc j) many few =
    let before = together_is counts j many (omega (arith, few)) in
    let next = sum_next counts (63 - j) (omega (arith, many)) in
    let at : suc (63 - j) ≡ 64 - j = omega (arith, few) in
    let here : 64 - suc j ≡ 63 - j = omega arith in
    let last : sum (drop (suc (63 - j)) counts) ≡ sum (drop (64 - j) counts) = ap (λ (k : ℕ). sum (drop k counts)) at in
    let now : sum (drop (64 - suc j) counts) ≡ sum (drop (63 - j) counts) = ap (λ (k : ℕ). sum (drop k counts)) here in
    omega (arith, before, next, last, now)

-- where no other number has placed tiles, the workers won all
pub won_in_all : (counts : List ℕ) (workers : ℕ) → length counts ≡ 64 → 1 ≤ workers → workers ≤ 16 → ((n : ℕ) → 0 < n → n + workers ≤ 64 → slice_index counts n ≡ 0) →
    won_together counts workers ≡ sum counts
won_in_all counts zero many some few idle = absurd (omega (arith, some))
won_in_all counts (suc j) many some few idle =
    let wins = together_is counts j many (omega (arith, few)) in
    let whole = sum_next counts 0 (omega (arith, many)) in
    let past = sum_past counts (63 - j) 1 (omega (arith, many, few)) (λ n above below. idle n (omega (arith, above)) (omega (arith, below, few))) in
    let at : 1 + (63 - j) ≡ 64 - j = omega (arith, few) in
    let last : sum (drop (1 + (63 - j)) counts) ≡ sum (drop (64 - j) counts) = ap (λ (k : ℕ). sum (drop k counts)) at in
    omega (arith, wins, whole, past, last)

-- a number that no worker has
no_number : (n workers : ℕ) → 0 < n → n + workers ≤ 64 → (w : ℕ) → w < workers → n ≢ worker_number w
no_number n workers above below zero within e = omega (arith, e, above)
no_number n workers above below (suc w) within e = omega (arith, e, within, below)

-- what a worker won, as the program lists it
win_of : (ℕ → ℕ) → ℕ → Win
win_of won w = record { worker = w; count = won w }

-- the wins of workers in turn, from one of them on
wins_from : (won : ℕ → ℕ) (wins : List Win) (from : ℕ) → ((w k : ℕ) → k ≡ from + w → w < length wins → slice_get wins w ≡ Some (win_of won k)) →
    wins ≡ map (win_of won) (range_with_len from (length wins))
unfolding win_of
wins_from won [] from each = refl
wins_from won (x ∷ wins) from each =
    let first : x ≡ win_of won from = ap (λ (o : Option Win). unwrap_or o x) (each 0 from (omega arith) (omega arith)) in
    let more = wins_from won wins (from + 1) (λ w k at within. each (suc w) k (omega (arith, at)) (omega (arith, within))) in
    ap (λ (y : Win). y ∷ wins) first ∙ ap (λ (l : List Win). win_of won from ∷ l) more

module _ (workers : ℕ) (table : GrownValue) (wins : List Win) (won : AreWins workers table.won wins) where
  wins_are : wins ≡ map (win_of (won_by table)) (range_with_len 0 workers)
  unfolding win_of
  wins_are =
      wins_from (won_by table) wins 0 (λ w k at within. let below : w < workers = omega (arith, within, won.count) in let same : w ≡ k = omega (arith, at) in
      won.each w below ∙ ap (λ (n : ℕ). Some (win_of (won_by table) n)) same)
      ∙ ap (λ (n : ℕ). map (win_of (won_by table)) (range_with_len 0 n)) won.count

  -- their counts, their sum and their lines
  counts_are : map (λ (win : Win). win.count) wins ≡ map (won_by table) (range_with_len 0 workers)
  unfolding win_of
  counts_are = ap (map (λ (win : Win). win.count)) wins_are ∙ map-map (λ (win : Win). win.count) (win_of (won_by table)) (range_with_len 0 workers)

  sum_is : sum_by (λ (win : Win). win.count) wins ≡ sum_by (won_by table) (range_with_len 0 workers)
  sum_is = sym (sum-map (λ (win : Win). win.count) wins) ∙ ap sum counts_are ∙ sum-map (won_by table) (range_with_len 0 workers)

  lines_are : flat_map win_line wins ≡ flat_map (λ w. line_of (codes "won" ∷ decimal w ∷ decimal (won_by table w) ∷ [])) (range_with_len 0 workers)
  unfolding win_of
  lines_are = ap (flat_map win_line) wins_are ∙ flat_map-map win_line (win_of (won_by table)) (range_with_len 0 workers)

  -- together they are the tiles but for the seeds
  won_all : (sys : TileSystem) → 1 ≤ workers → workers ≤ 16 → IsGrownBy sys workers table → sum_by (λ (win : Win). win.count) wins ≡ won_together table.won workers → WonAll workers sys table
  won_all sys some few grew together =
      let sums = won_in_all table.won workers grew.placed.numbers some few (λ n above below. grew.placed.idle n (omega (arith, below, some)) (no_number n workers above below)) in
      let tiles = grew.placed.total in
      let same = sum_is in
      omega (arith, together, sums, tiles, same)

-- the wins of all workers are told by their text
pub race_told : (workers : ℕ) (sys : TileSystem) (table : GrownValue) (wins : List Win) (total : ℕ) → 1 ≤ workers → workers ≤ 16 → IsGrownBy sys workers table →
    AreWins workers table.won wins → sum_by (λ (win : Win). win.count) wins ≡ won_together table.won workers →
    total + length sys.seeds ≡ length table.grid.tiles → IsRaceText workers sys table true (race_text wins total)
race_told workers sys table wins total some few grew won together all =
    let won_them = won_all workers table wins won sys some few grew together in
    let total_is : total ≡ sum_by (won_by table) (range_with_len 0 workers) = omega (arith, won_them, all) in
    let last : ℕ → List ℕ = λ n. line_of (codes "total" ∷ decimal n ∷ []) in
    record {
      full = grew.full;
      all = won_them;
      printed = ap (λ (lines : List ℕ). lines ++ last total) (lines_are workers table wins won)
          ∙ ap (λ (n : ℕ). flat_map (λ w. line_of (codes "won" ∷ decimal w ∷ decimal (won_by table w) ∷ [])) (range_with_len 0 workers) ++ last n) total_is;
      answer = refl;
    }

-- the report of a growth tells what it grew into, and the wins of all workers
pub report_told : (workers : ℕ) (sys : TileSystem) (table : GrownValue) (growth : Growth) (wins : List Win) (tiles : ℕ) (text : List ℕ) (is_yes : Bool) → 1 ≤ workers → workers ≤ 16 →
    IsGrownBy sys workers table → GrowsTo sys table.grid.tiles growth → AreWins workers table.won wins → sum_by (λ (win : Win). win.count) wins ≡ won_together table.won workers →
    tiles ≡ length table.grid.tiles → text ≡ line_of (report_line growth.sys tiles (map (λ (win : Win). win.count) wins) (is_some growth.outside) (is_unique growth.verdict) ∷ []) → is_yes ≡ is_unique growth.verdict → IsReportText workers sys table is_yes text
report_told workers sys table growth wins tiles text is_yes some few grew grows won together count printed answer =
    let line : TileSystem → ℕ → List ℕ → List ℕ = λ s n counts. line_of (report_line s n counts (is_some growth.outside) (is_unique growth.verdict) ∷ []) in
    let counts = map (λ (win : Win). win.count) wins in
    record {
      outcome = outcome_of growth;
      grown = subst (λ (s : TileSystem). IsGrowth s table.grid.tiles (outcome_of growth)) grows.same grows.grown;
      all = won_all workers table wins won sys some few grew together;
      printed = printed ∙ ap (λ (s : TileSystem). line s tiles counts) grows.same ∙ ap (λ (n : ℕ). line sys n counts) count
          ∙ ap (line sys (length table.grid.tiles)) (counts_are workers table wins won);
      answer = answer;
    }
