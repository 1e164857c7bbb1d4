-- What `replay` answers to a text.
use Rattle.tile_io.specs.Lines.{first_mark}
use Rattle.std.proofs.Common.{◌∙◌, ◌++◌, [], ℕ, List, None, Err, refl, sym, append-nil, inl, inr}
use Rattle.atam.specs.declared.place.Place.{Place}
use Rattle.atam.specs.Placements.{HasDistinctSites}
use Rattle.atam.specs.TileSystem.{TileSystem, IsValid}
use Rattle.atam.specs.Assembly.{Fits}
use Rattle.atam.specs.Growth.{IsProducible}
use Rattle.atam.specs.Canonical.{IsCanonical}
use Rattle.atam.proofs.Canon.{canonical_part, canonical_IsLegal, producible_exactly}
use Rattle.atam.proofs.Opening.{Fits-part}
use Rattle.atam.proofs.Sequences.{IsLegal-distinct}
use Rattle.replay_order.specs.ReplayAnswers.{IsWholeOrder}
use Rattle.seq_text.specs.GrowthLines.{place_lines}
use Rattle.tilebench.specs.declared.reordering.Reordering.{Reordering}
use Rattle.tilebench.specs.declared.reordering.Reordering.TheVariants.{Whole, SeedMissing, Stuck}
use Rattle.tilebench.specs.Commands.Replay.{IsReplayAnswer}
use Rattle.tilebench.specs.Inner.Reorderings.{IsReordering, is_whole, reordering_text}
use Rattle.tilebench.proofs.ReadingBack.{placements_back}
use Rattle.tile_io.specs.declared.mark.Mark.{Mark}
use Rattle.tile_io.specs.declared.fault.TextStop.{TextStop}
use Rattle.tile_io.specs.Formats.{Format, ReadsOrStops}
use Rattle.tile_text.specs.SystemText.{ReadsAny, FaultAny}
use Rattle.tile_text.proofs.Eithers.{any_valid}
use Rattle.tilebench.specs.Inputs.{FailsWithin, IsSystemThen, ReadsAssembly}
use Rattle.tilebench.specs.Inner.Gives.{Gives}
use Rattle.tilebench.specs.Inner.Stops.{stop_of_text}
use Rattle.tile_io.specs.declared.fault.TextStop.TheVariants as stops

-- the reordering of what was read is the answer
pub replay_answer : (input : List ℕ) (sys : TileSystem) (tiles : List Place) (reordering : Reordering) → IsSystemThen ReadsAssembly input sys tiles →
    IsReordering sys tiles reordering → IsReplayAnswer sys tiles (is_whole reordering) (reordering_text sys reordering)
replay_answer input sys tiles (SeedMissing site) read reordered = inl (site, reordered, refl)
replay_answer input sys tiles (Stuck left least) read reordered = inr (left, least, reordered, refl)
replay_answer input sys tiles (Whole order) read whole =
    let valid : IsValid sys = any_valid input _ read.end sys read.reads in
    let distinct : HasDistinctSites order = IsLegal-distinct sys order valid.distinct_seeds whole.legal in
    let lines = place_lines sys order in
    record {
      order = order;
      ordered = whole;
      printed = refl;
      reads_back = placements_back sys valid order None None lines (record { fits = whole.fits; open_site = tt; told = tt }) distinct (sym (append-nil (lines ++ []) ∙ append-nil lines));
    }

-- a canonical sequence of a producible assembly is all of it
pub canonical_whole : (sys : TileSystem) (tiles s : List Place) → HasDistinctSites sys.seeds → HasDistinctSites tiles → Fits sys tiles →
    IsProducible sys tiles → IsCanonical sys tiles s → IsWholeOrder sys tiles s
canonical_whole sys tiles s seeds_distinct distinct fits producible canonical =
    let part = canonical_part sys tiles s distinct fits.types seeds_distinct canonical in
    record {
      canonical = canonical;
      legal = canonical_IsLegal sys tiles s distinct fits.types seeds_distinct canonical;
      same = record { part = part; whole = (producible_exactly sys tiles s distinct fits.types seeds_distinct canonical).0 producible };
      fits = Fits-part sys s tiles part fits;
      producible = producible;
    }

-- what stops the reading of a text behind that of a system is the input's fault, or want of memory
pub stops_within : {Item Answer T : Type 0} (format : TileSystem → Format Item) (input : List ℕ) (sys : TileSystem) (end : Mark) → ReadsAny input first_mark sys end → (IsReadAs : Answer → Type 0) (stop : TextStop) →
    ReadsOrStops (format sys) input end IsReadAs (Err stop) → (Holds : T → Type 0) → Gives Holds (FailsWithin ReadsAny FaultAny format input) (Err (stop_of_text stop))
stops_within format input sys end reads IsReadAs (stops.Fault fault) h Holds = inr (sys, record { end = end; reads = reads; rest = h })
stops_within format input sys end reads IsReadAs stops.NoMemory h Holds = tt
