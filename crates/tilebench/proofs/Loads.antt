-- The counter of a load, and what it grows into.
use Rattle.std.proofs.Common.{◌≡◌, ◌≤◌, ◌<◌, ◌+◌, ◌-◌, ◌*◌, ◌/◌, ◌%◌, ◌^◌, ◌∙◌, ◌&&◌, ℕ, zero, suc, not, nat_le, nat_lt, cond, Bool, true, false, List, ◌∷◌, length, map, get_or, min, All, Option, Some, None, refl, sym, ap, subst, inl, inr, arith}
use Rattle.std.specs.Prelude.{Contains, nat_abs, option_map, option_and_then, unwrap_or, slice_get}
use Rattle.std.specs.List.{range_with_len}
use Rattle.std.proofs.lemmas.Bool.Decides.{leb_tells}
use Rattle.std.proofs.lemmas.Bool.{le-leb, le-ltb}
use Rattle.std.proofs.lemmas.Int.{ints}
use Rattle.std.proofs.lemmas.Nat.{mod_below, pow_pos}
use Rattle.std.proofs.lemmas.Option.{none-some}
use Rattle.std.proofs.lemmas.List.FromFn.{get_or-map-range_with_len, length-map-range_with_len}
use Rattle.atam.specs.declared.area.BoxArea.{BoxArea}
use Rattle.atam.specs.declared.place.Place.{Place}
use Rattle.atam.specs.declared.place.TypeId.{TypeId}
use Rattle.atam.specs.declared.site.Site.{Site}
use Rattle.atam.specs.Sites.{InBox, IsBox, height_of, width_of}
use Rattle.atam.specs.Placements.{HasDistinctSites, IsPartOf, SamePlacements, tile_at}
use Rattle.atam.specs.TileSystem.{TileSystem}
use Rattle.atam.specs.Growth.{IsClosedInBox, IsLeastOpenOutside, IsProducible, IsTerminal}
use Rattle.atam.proofs.Boxes.{same_coordinates}
use Rattle.atam.proofs.Count.{count_in_box, count_in_part}
use Rattle.atam.proofs.Placements.{tile_at-Contains}
use Rattle.assembly.specs.Cells.{cell_count, site_at}
use Rattle.assembly.proofs.Cells.{site_at-injective, site_at-inside}
use Rattle.design.specs.TileSets.{cell_site}
use Rattle.design.specs.Laws.{HasDeterministicGrowth}
use Rattle.counter_compile.specs.declared.stop.CounterStop.TheVariants.{BitsOutOfRange, StartTooLarge, TooTall}
use Rattle.counter_compile.specs.Tiles.{digit, kinds_of, shown_bit}
use Rattle.counter_compile.specs.Counters.{bit_in, counter_box, counter_refusal, counter_system, number_of, row_count}
use Rattle.counter_compile.specs.Inner.Accepted.{IsAccepted}
use Rattle.counter_compile.proofs.Limits.{accepted, is_counter_box, is_valid_counter}
use Rattle.counter_compile.proofs.Counting.{deterministic_count, row_counts}
use Rattle.site_table.specs.Seats.{GrownValue}
use Rattle.grow_workers.specs.Workers.{IsGrownBy}
use Rattle.atam.specs.declared.verdict.Verdict.{Verdict}
use Rattle.atam.specs.declared.verdict.Verdict.TheVariants.{Yes}
use Rattle.unique_law.specs.Outcomes.{Outcome}
use Rattle.unique_law.proofs.OneOutcome.{one_full_growth, yes_in_some_order}
use Rattle.tilebench.specs.declared.growth.Growth.{Growth}
use Rattle.job_board.specs.AnswerText.{is_unique}
use Rattle.tilebench.specs.Growths.{IsGrowth}
use Rattle.tilebench.specs.Commands.Load.{IsLoadAnswer, load_bits, load_start, load_system, load_tiles}
use Rattle.tilebench.specs.Inner.Loads.{load_text}
use Rattle.tilebench.specs.Inner.Rooms.{GrowsTo, outcome_of}
use Rattle.tilebench.proofs.Headlines.{growth_of_deterministic}

-- ---- the counter is not refused

accepted_when : (bits start : ℕ) → 2 ≤ bits → bits ≤ 32 → start < 2 ^ bits → row_count bits start ≤ 1024 → counter_refusal bits start ≡ None
unfolding counter_refusal
accepted_when bits start least most below rows =
    let fits : nat_le (2 ^ bits) start ≡ false = elim (leb_tells (2 ^ bits) start) [ inl large ↦ absurd (omega (arith, large.1, below)) | inr small ↦ small.0 ] in
    by (nat_le 2 bits) (nat_le bits 32) (nat_le (2 ^ bits) start) (nat_lt 1024 (row_count bits start)) (le-leb 2 bits least) (le-leb bits 32 most) fits (le-ltb 1024 (row_count bits start) rows)
  where
    by : (a b c d : Bool) → a ≡ true → b ≡ true → c ≡ false → d ≡ false →
        cond (not (a && b)) (Some BitsOutOfRange) (cond c (Some StartTooLarge) (cond d (Some TooTall) None)) ≡ None
    by a b c d e f g h = rw (e, f, g, h) refl

-- at most 512 numbers come after the start, which is at least 0
few_after : (power after : ℕ) → 1 ≤ power → after < min power 512 → (power - 1 - after < power) × (2 * (power - (power - 1 - after)) ≤ 1024)
few_after power after some less = (omega (arith, some, less), omega (arith, some, less))

pub load_accepted : (number : ℕ) → counter_refusal (load_bits number) (load_start number) ≡ None
load_accepted number =
    let bits = load_bits number in
    let some : 1 ≤ 2 ^ bits = let power = pow_pos bits in omega (arith, power) in
    let range : 0 < min (2 ^ bits) 512 = omega (arith, some) in
    let less = mod_below (number / 31) (min (2 ^ bits) 512) range in
    let both = few_after (2 ^ bits) (number / 31 % min (2 ^ bits) 512) some less in
    let few : number % 31 < 31 = mod_below number 31 (omega arith) in
    accepted_when bits (load_start number) (omega arith) (omega (arith, few)) both.0 both.1

-- ---- all of a box stands

module _ (area : BoxArea) (limits : IsBox area) (tiles : List Place) (distinct : HasDistinctSites tiles)
    (filled : (m : Site) → InBox area m → (t : TypeId) × (tile_at tiles m ≡ Some t)) where
  tile_in : Option TypeId → TypeId
  tile_in found = unwrap_or found (record { 0 = 0 })

  place_at : ℕ → Place
  place_at n = record { site = site_at area n; tile = tile_in (tile_at tiles (site_at area n)) }

  all_places : List Place
  all_places = map place_at (range_with_len 0 (cell_count area))

  count_all : length all_places ≡ cell_count area
  unfolding all_places
  count_all = length-map-range_with_len place_at 0 (cell_count area)

  place_of_number : (n : ℕ) (e : Place) → n < length all_places → get_or all_places n e ≡ place_at n
  unfolding all_places
  place_of_number n e within = get_or-map-range_with_len place_at 0 (cell_count area) n n e (let count = count_all in omega (arith, count, within)) (omega arith)

  stands : (n : ℕ) → n < cell_count area → Contains tiles (place_at n)
  unfolding place_at tile_in
  stands n within =
      let there = filled (site_at area n) (site_at-inside area n limits within) in
      let contained = tile_at-Contains tiles (site_at area n) there.0 there.1 in
      subst (λ (t : TypeId). Contains tiles (record { site = site_at area n; tile = t })) (sym (ap (λ (found : Option TypeId). unwrap_or found (record { 0 = 0 })) there.1)) contained

  one_each : HasDistinctSites all_places
  unfolding place_at
  one_each i j e below within same =
      let within_i : i < length all_places = omega (arith, below, within) in
      let sites : site_at area i ≡ site_at area j = sym (ap (λ (p : Place). p.site) (place_of_number i e within_i)) ∙ same ∙ ap (λ (p : Place). p.site) (place_of_number j e within) in
      let number : i ≡ j = site_at-injective area i j sites in
      omega (arith, below, number)

  each_stands : IsPartOf all_places tiles
  each_stands p (n, within, at) =
      let count = count_all in
      subst (Contains tiles) (sym (place_of_number n p within) ∙ at) (stands n (omega (arith, count, within)))

  pub filled_count : cell_count area ≤ length tiles
  filled_count =
      let count = count_all in
      let part = count_in_part all_places tiles one_each distinct each_stands in
      omega (arith, count, part)

-- ---- and so all of the counter's box

-- where a row shows a number, each of its bits is there
low_there : (b : Bool) (bits : List (Option Bool)) (n : ℕ) → number_of (Some b ∷ bits) ≡ Some n → (low : ℕ) × (number_of bits ≡ Some low)
low_there b bits n shown = go (number_of bits) refl
  where
    go : (low : Option ℕ) → number_of bits ≡ low → (l : ℕ) × (number_of bits ≡ Some l)
    go None is = absurd (none-some n (sym (ap (option_map (λ l. digit b * 2 ^ length bits + l)) is) ∙ shown))
    go (Some l) is = (l, is)

bit_there : (f : ℕ → Option Bool) (a len n : ℕ) → number_of (map f (range_with_len a len)) ≡ Some n → (i : ℕ) → a ≤ i → i < a + len → (b : Bool) × (f i ≡ Some b)
bit_there f a zero n shown i above below = absurd (omega (arith, above, below))
bit_there f a (suc len) n shown i above below = go (f a) refl (λ low rest. bit_there f (a + 1) len low rest i)
  where
    go : (bit : Option Bool) → f a ≡ bit → ((low : ℕ) → number_of (map f (range_with_len (a + 1) len)) ≡ Some low → a + 1 ≤ i → i < a + 1 + len → (b : Bool) × (f i ≡ Some b)) →
        (b : Bool) × (f i ≡ Some b)
    go None is later =
        let none : number_of (map f (range_with_len a (suc len))) ≡ None = ap (λ (o : Option Bool). number_of (o ∷ map f (range_with_len (a + 1) len))) is in
        absurd (none-some n (sym none ∙ shown))
    go (Some b) is later = elim (leb_tells (suc a) i) [
      | inl behind ↦
          let first : number_of (map f (range_with_len a (suc len))) ≡ number_of (Some b ∷ map f (range_with_len (a + 1) len)) =
          ap (λ (o : Option Bool). number_of (o ∷ map f (range_with_len (a + 1) len))) is in
          let low = low_there b (map f (range_with_len (a + 1) len)) n (sym first ∙ shown) in
          later low.0 low.1 (omega (arith, behind.1)) (omega (arith, below))
      | inr here ↦ let same : i ≡ a = omega (arith, above, here.1) in (b, ap f same ∙ is)
    ]

tile_there : (bits start : ℕ) (tiles : List Place) (y i : ℕ) (b : Bool) → bit_in bits start tiles y i ≡ Some b → (t : TypeId) × (tile_at tiles (cell_site i y) ≡ Some t)
tile_there bits start tiles y i b shown = go (tile_at tiles (cell_site i y)) refl
  where
    go : (found : Option TypeId) → tile_at tiles (cell_site i y) ≡ found → (t : TypeId) × (tile_at tiles (cell_site i y) ≡ Some t)
    go None is =
        let none : bit_in bits start tiles y i ≡ None = ap (option_and_then (λ (t : TypeId). option_map (shown_bit (bits - 1) start) (slice_get (kinds_of (bits - 1)) t.0))) is in
        absurd (none-some b (sym none ∙ shown))
    go (Some t) is = (t, is)

module _ (bits start : ℕ) (fits : IsAccepted bits start) (tiles : List Place) (producible : IsProducible (counter_system bits start) tiles) (distinct : HasDistinctSites tiles)
    (closed : IsClosedInBox (counter_system bits start) tiles) (inside : All (λ p. InBox (counter_box bits start) p.site) tiles) where
  box_filled : (m : Site) → InBox (counter_box bits start) m → (t : TypeId) × (tile_at tiles m ≡ Some t)
  box_filled m within =
      let i = nat_abs m.x in
      let y = nat_abs m.y in
      let column : i < bits = omega (arith, ints, within.left, within.right, fits.least) in
      let row : y < row_count bits start = omega (arith, ints, within.bottom, within.top, fits.start) in
      let there = bit_there (bit_in bits start tiles y) 0 bits _ (row_counts bits start fits.least fits.start tiles producible distinct closed y row) i (omega arith) (omega (arith, column)) in
      let at = tile_there bits start tiles y i there.0 there.1 in
      let same : cell_site i y ≡ m = same_coordinates (cell_site i y) m (omega (arith, ints, within.bottom)) (omega (arith, ints, within.left)) in
      subst (λ (n : Site). (t : TypeId) × (tile_at tiles n ≡ Some t)) same at

  box_size : cell_count (counter_box bits start) ≡ bits * row_count bits start
  box_size =
      let area = counter_box bits start in
      let width : width_of area ≡ bits = omega (arith, ints, fits.least) in
      let height : height_of area ≡ row_count bits start = omega (arith, ints, fits.start) in
      ap (λ (w : ℕ). w * height_of area) width ∙ ap (λ (h : ℕ). bits * h) height

  pub all_stand : length tiles ≡ bits * row_count bits start
  all_stand =
      let area = counter_box bits start in
      let most = count_in_box area tiles distinct inside in
      let least = filled_count area (is_counter_box bits start fits) tiles distinct box_filled in
      let size = box_size in
      omega (arith, most, least, size)

-- ---- and nothing else grows

none_open : (sys : TileSystem) (s : List Place) (outside : Option (Site × TypeId)) → IsTerminal sys s → IsLeastOpenOutside sys s outside → outside ≡ None
none_open sys s None terminal least = refl
none_open sys s (Some found) terminal least = absurd (terminal found.0 found.1 least.grows)

module _ (sys : TileSystem) (seeds : HasDistinctSites sys.seeds) (found : HasDeterministicGrowth sys) (tiles : List Place) (outcome : Outcome) (grown : IsGrowth sys tiles outcome) where
  nothing_open : outcome.outside ≡ None
  nothing_open =
      let s = found.sequence in
      none_open sys s outcome.outside found.deterministic.deterministic.terminal (growth_of_deterministic sys seeds tiles outcome grown s found.deterministic).outcome_is.least

  one_verdict : outcome.verdict ≡ Yes
  one_verdict =
      let s = found.sequence in
      let is = grown.outcome_is in
      let full = is.full in
      let same : SamePlacements tiles s = one_full_growth sys seeds s tiles found.deterministic.deterministic found.deterministic.inside full.distinct full.producible full.closed in
      (yes_in_some_order sys seeds tiles outcome.order outcome.verdict full.distinct full.producible is.canonical is.judged).1
      (record { sequence = s; deterministic = found.deterministic.deterministic; same = record { part = same.whole; whole = same.part } })

-- ---- what is told of it

pub load_told : (number bits start tiles : ℕ) (sys : TileSystem) (table : GrownValue) (growth : Growth) → bits ≡ load_bits number → start ≡ load_start number → sys ≡ counter_system bits start →
    IsGrownBy sys 4 table → GrowsTo sys table.grid.tiles growth → tiles ≡ length table.grid.tiles →
    IsLoadAnswer number (Some table) (is_unique growth.verdict) (load_text number bits start tiles growth.sys growth.outside growth.verdict)
load_told number bits start tiles sys table growth bits_are start_is is_system grew grows count =
    let Bits = load_bits number in
    let Start = load_start number in
    let Sys = load_system number in
    let here : sys ≡ Sys = is_system ∙ ap (λ (b : ℕ). counter_system b start) bits_are ∙ ap (λ (s : ℕ). counter_system Bits s) start_is in
    let there : growth.sys ≡ Sys = grows.same ∙ here in
    let fits = accepted Bits Start (load_accepted number) in
    let valid = is_valid_counter Bits Start fits in
    let deterministic = deterministic_count Bits Start fits.least fits.start valid in
    let outcome = outcome_of growth in
    let into : IsGrowth Sys table.grid.tiles outcome = subst (λ (s : TileSystem). IsGrowth s table.grid.tiles outcome) there grows.grown in
    let full = into.outcome_is.full in
    let all = all_stand Bits Start fits table.grid.tiles full.producible full.distinct full.closed full.inside in
    let shut : growth.outside ≡ None = nothing_open Sys valid.distinct_seeds deterministic table.grid.tiles outcome into in
    let verdict : growth.verdict ≡ Yes = one_verdict Sys valid.distinct_seeds deterministic table.grid.tiles outcome into in
    let many : tiles ≡ load_tiles number = count ∙ all in
    record {
      accepted = load_accepted number;
      table = table;
      handed_out = refl;
      grew = subst (λ (s : TileSystem). IsGrownBy s 4 table) here grew;
      outcome = outcome;
      into = into;
      all = all;
      closed = shut;
      unique = verdict;
      printed = ap (λ (b : ℕ). load_text number b start tiles growth.sys growth.outside growth.verdict) bits_are
          ∙ ap (λ (s : ℕ). load_text number Bits s tiles growth.sys growth.outside growth.verdict) start_is
          ∙ ap (λ (n : ℕ). load_text number Bits Start n growth.sys growth.outside growth.verdict) many
          ∙ ap (λ (s : TileSystem). load_text number Bits Start (load_tiles number) s growth.outside growth.verdict) there
          ∙ ap (λ (o : Option (Site × TypeId)). load_text number Bits Start (load_tiles number) Sys o growth.verdict) shut
          ∙ ap (λ (v : Verdict). load_text number Bits Start (load_tiles number) Sys None v) verdict;
      answer = ap is_unique verdict;
    }
