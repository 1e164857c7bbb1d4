-- What is told of a watched growth, and how it stands to what is told of a growth.
use Rattle.tile_text.specs.SystemText.{ReadsAny}
use Rattle.std.proofs.Common.{◌≡◌, ◌≢◌, ◌∙◌, ◌++◌, ◌<◌, ◌≤◌, ℕ, zero, suc, Bool, All, List, [], ◌∷◌, length, Option, Some, unwrap_or, ap, refl, subst, sym, arith, inl, inr}
use Rattle.std.specs.Prelude.{slice_index, sum}
use Rattle.std.proofs.lemmas.List.Sums.{sum_by-cons}
use Rattle.atam.specs.declared.place.Place.{Place}
use Rattle.atam.specs.TileSystem.{TileSystem, IsType}
use Rattle.atam.specs.Growth.{IsFullGrowth}
use Rattle.atam.specs.Placements.{IsPartOf}
use Rattle.atam.proofs.Canon.{producible_types}
use Rattle.atam.proofs.Opening.{Fits-part}
use Rattle.site_table.specs.Seats.{GrownValue}
use Rattle.tile_text.proofs.Eithers.{any_one_system, any_valid}
use Rattle.grow_workers.specs.Workers.{IsGrownBy, worker_number}
use Rattle.watch_frames.specs.Frames.{FrameList}
use Rattle.watch_frames.specs.FrameText.{IsWatchAnswer, frames_text}
use Rattle.watch_frames.specs.Watched.{GrewBesideWatcher, IsWatched}
use Rattle.tilebench.specs.declared.growth.Growth.{Growth}
use Rattle.tilebench.specs.Commands.Grow.{IsGrowthText}
use Rattle.tilebench.specs.Commands.Watch.{TellsWatchedGrowth}
use Rattle.job_board.specs.AnswerText.{growth_text, is_unique}
use Rattle.tilebench.specs.Inputs.{IsAlone}
use Rattle.tilebench.specs.Inner.Rooms.{GrowsTo, outcome_of}
use Rattle.tilebench.specs.Laws.{HasFramesBefore, WatchAnswersAsGrow, WatchPrintsAsGrow}
use Rattle.tilebench.proofs.Growths.{growth_told}
use Rattle.unique_law.specs.Within.{IsYesWithin}
use Rattle.tilebench.proofs.Headlines.{one_text}

-- a watched growth is told by the text of its frames and that of what grew
pub watched_told : (sys : TileSystem) (frames : FrameList) (many : ℕ) (table : GrownValue) (growth : Growth) → IsWatched sys many frames.places frames.counts table.grid.tiles →
    GrowsTo sys table.grid.tiles growth →
    IsWatchAnswer (IsGrowthText sys table (is_unique growth.verdict)) sys many table.grid.tiles
    (frames_text growth.sys frames.places frames.counts ++ growth_text growth.sys (outcome_of growth))
watched_told sys frames many table growth watched grows = record {
  places = frames.places;
  counts = frames.counts;
  watched = watched;
  growth = growth_text growth.sys (outcome_of growth);
  grown = growth_told sys table growth grows;
  text = ap (λ (s : TileSystem). frames_text s frames.places frames.counts ++ growth_text growth.sys (outcome_of growth)) grows.same;
}

-- the tiles of the frames are of types of the system
pub frame_types : (sys own : TileSystem) (places tiles : List Place) → own ≡ sys → IsPartOf places tiles → IsFullGrowth sys tiles → All (λ p. IsType own p.tile) places
frame_types sys own places tiles same part full =
    let Types : TileSystem → Type 0 = λ s. All (λ p. IsType s p.tile) places in
    subst Types (sym same) (Fits-part sys places tiles part (record { types = producible_types sys tiles full.producible; sites = full.inside })).types

-- ---- how it stands to `grow`

-- a list of so many zeros
zeros : ℕ → List ℕ
zeros zero = []
zeros (suc n) = 0 ∷ zeros n

zeros_many : (n : ℕ) → length (zeros n) ≡ n
unfolding zeros
zeros_many zero = refl
zeros_many (suc n) = ap suc (zeros_many n)

zeros_none : (n k : ℕ) → slice_index (zeros n) k ≡ 0
unfolding zeros
zeros_none zero k = refl
zeros_none (suc n) zero = refl
zeros_none (suc n) (suc k) = zeros_none n k

zeros_sum : (n : ℕ) → sum (zeros n) ≡ 0
unfolding zeros
zeros_sum zero = refl
zeros_sum (suc n) = let rest = zeros_sum n in let first = sum_by-cons (λ (x : ℕ). x) 0 (zeros n) in omega (arith, rest, first)

-- the same tiles, of which the first worker has won all
as_one_worker : GrownValue → GrownValue
as_one_worker table = record { grid = table.grid; won = sum table.won ∷ zeros 63 }

grown_as_one_worker : (sys : TileSystem) (watching workers : ℕ) (table : GrownValue) → 1 ≤ workers → GrewBesideWatcher sys watching table → IsFullGrowth sys table.grid.tiles → IsGrownBy sys workers (as_one_worker table)
unfolding as_one_worker
grown_as_one_worker sys watching workers table some grew full = record {
  full = full;
  placed = record {
    area = grew.placed.area;
    numbers = ap suc (zeros_many 63);
    idle = idle;
    total = let all = grew.placed.total in let rest = zeros_sum 63 in let first = sum_by-cons (λ (x : ℕ). x) (sum table.won) (zeros 63) in omega (arith, all, rest, first);
  };
}
  where
    idle : (n : ℕ) → n < 64 → ((w : ℕ) → w < workers → n ≢ worker_number w) → slice_index (as_one_worker table).won n ≡ 0
    idle zero below none = absurd (none 0 (omega (arith, some)) refl)
    idle (suc n) below none = zeros_none 63 n

-- what stands before the text of the growth
frames_before : (watching frames : ℕ) (input growth text : List ℕ) (grown : Option GrownValue) (is_yes : Bool) (answer : TellsWatchedGrowth watching frames grown input is_yes text) → growth ≡ answer.told.growth →
    HasFramesBefore frames input growth text
frames_before watching frames input growth text grown is_yes answer same = record {
  sys = answer.sys;
  read = answer.read;
  places = answer.told.places;
  counts = answer.told.counts;
  are = answer.told.watched.frames;
  taken = answer.told.watched.taken;
  printed = answer.told.text ∙ ap (λ (behind : List ℕ). frames_text answer.sys answer.told.places answer.told.counts ++ behind) (sym same);
}

pub answers_as_grow : WatchAnswersAsGrow
unfolding as_one_worker
answers_as_grow watching frames workers table input is_yes text some answer =
    let own : answer.table ≡ table = ap (λ (o : Option GrownValue). unwrap_or o table) (sym answer.handed_out) in (
      answer.told.growth,
      frames_before watching frames input answer.told.growth text (Some table) is_yes answer refl,
      record {
        grown = as_one_worker answer.table;
        same = ap (λ (t : GrownValue). t.grid) own;
        answer = record {
          sys = answer.sys;
          read = answer.read;
          table = as_one_worker answer.table;
          handed_out = refl;
          grew = grown_as_one_worker answer.sys watching workers answer.table some answer.grew answer.told.watched.full;
          told = record { outcome = answer.told.grown.outcome; grown = answer.told.grown.grown; printed = answer.told.grown.printed; answer = answer.told.grown.answer };
        };
      },
    )

-- two texts of what one system grew into, of which one has a verdict that is a yes within the box
prints_once : (sys : TileSystem) (input : List ℕ) (table table_too : GrownValue) (is_yes is_yes_too : Bool) (text text_too : List ℕ) → IsAlone ReadsAny input sys →
    (told : IsGrowthText sys table is_yes text) → IsGrowthText sys table_too is_yes_too text_too → IsYesWithin told.outcome.verdict → text_too ≡ text
prints_once sys input table table_too is_yes is_yes_too text text_too read told other holds =
    let valid = any_valid input _ read.end sys read.reads in
    other.printed ∙ one_text sys table is_yes text valid.distinct_seeds told holds table_too.grid.tiles other.outcome other.grown.outcome_is

pub prints_as_grow : WatchPrintsAsGrow
prints_as_grow watching frames workers watched grown input is_yes is_yes_too text growth watch grow either =
    let GrowTold : TileSystem → Type 0 = λ s. IsGrowthText s grow.table is_yes_too growth in
    let WatchTold : TileSystem → Type 0 = λ s. IsGrowthText s watch.table is_yes watch.told.growth in
    let one = any_one_system input _ grow.read.end watch.read.end grow.sys watch.sys grow.read.reads watch.read.reads in
    let same : growth ≡ watch.told.growth = elim either [
      | inl holds ↦
          let grow_told : IsGrowthText watch.sys grow.table is_yes_too growth = subst GrowTold one.0 grow.told in
          prints_once watch.sys input watch.table grow.table is_yes is_yes_too watch.told.growth growth watch.read watch.told.grown grow_told holds
      | inr holds ↦
          let watch_told : IsGrowthText grow.sys watch.table is_yes watch.told.growth = subst WatchTold (sym one.0) watch.told.grown in
          sym (prints_once grow.sys input grow.table watch.table is_yes_too is_yes growth watch.told.growth grow.read grow.told watch_told holds)
    ] in
    frames_before watching frames input growth text watched is_yes watch same
