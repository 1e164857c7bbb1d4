use Rattle.std.proofs.Common.{◌≡◌, ℕ, List, [], ◌∷◌, ◌++◌, length, sym, ◌∙◌, ap, subst, arith}
use Rattle.atam.specs.declared.place.Place.{Place}
use Rattle.atam.specs.Placements.{IsPartOf, SamePlacements}
use Rattle.atam.proofs.Beginnings.{begun_seeds}
use Rattle.atam.proofs.Count.{count_in_box, count_in_part}
use Rattle.atam.proofs.Opening.{Fits-part}
use Rattle.atam.proofs.Sequences.{IsLegal-seeds_distinct}
use Rattle.assembly.specs.Grids.{TileGrid}
use Rattle.assembly.proofs.Cells.{cell_count-most}
use Rattle.watch_frames.specs.Frames.{AreFrames}
use Rattle.watch_frames.proofs.Extensions.{seeded, begins_part, begins_distinct}
use Rattle.watch_frames.proofs.FrameSteps.{frames_more}
use Rattle.watch_frames.proofs.listing.Listing.extend_over.Goals as goal

pub find_ready-requires-clause-listed_fits : goal.find_ready-requires-clause-listed_fits
find_ready-requires-clause-listed_fits c =
    let tiles = c.args.seen.now.tiles in
    let listed = c.args.self.now.listed.tiles in
    let in_tiles : IsPartOf listed tiles = λ p in_listed. c.requires.can.part p (c.requires.rest.same.whole p in_listed) in
    Fits-part c.args.sys.now listed tiles in_tiles c.requires.can.fits

pub list_ready-requires-clause-going : goal.list_ready-requires-clause-going
list_ready-requires-clause-going c =
    let sys = c.args.sys.now in
    let s = c.args.frames.now.places in
    let same = c.find_ready.ensures.listed in
    record {
      fit = record { area = ap (λ g. g.area) same ∙ c.requires.rest.fit.area; bound = c.find_ready.ensures.bound ∙ c.requires.rest.fit.bound };
      begins = begun_seeds (seeded sys s) c.args.seen.now.tiles c.requires.can.part;
      same = subst (λ (g : TileGrid). SamePlacements s g.tiles) (sym same) c.requires.rest.same;
      ready = c.find_ready.ensures.ready;
    }

pub end_frame-requires-clause-small : goal.end_frame-requires-clause-small
end_frame-requires-clause-small c =
    let sys = c.args.sys.now in
    let s = c.args.frames.now.places in
    let t = c.list_ready.new.frames.places in
    let tiles = c.args.seen.now.tiles in
    let begins = c.list_ready.ensures.goes_on.begins in
    let distinct = c.recall_sites.ensures.distinct in
    let few = count_in_part t tiles (begins_distinct sys s tiles t distinct begins c.requires.can.distinct) distinct (begins_part sys s tiles t distinct begins) in
    let all = count_in_box sys.area tiles distinct c.requires.can.fits.sites in
    let most = cell_count-most sys.area c.recall_valid.ensures.valid.box in
    omega (arith, few, all, most)

pub returns-clause-frames : goal.returns-clause-frames
returns-clause-frames c =
    let sys = c.args.sys.now in
    let s = c.args.frames.now.places in
    let t = c.list_ready.new.frames.places in
    let tiles = c.args.seen.now.tiles in
    let are = c.requires.frames in
    let seeds_distinct = IsLegal-seeds_distinct sys s are.legal c.requires.can.distinct in
    let more : AreFrames sys t (c.args.frames.now.counts ++ length t ∷ []) =
    frames_more sys tiles s t c.args.frames.now.counts c.recall_sites.ensures.distinct seeds_distinct c.requires.can.fits.types are c.list_ready.ensures.goes_on
    in
    let counts : c.end_frame.new.self.counts ≡ c.args.frames.now.counts ++ length t ∷ [] = c.end_frame.ensures.counts ∙ ap (λ l. l ++ length t ∷ []) c.list_ready.ensures.counts in
    subst (λ (l : List Place). AreFrames sys l c.end_frame.new.self.counts) (sym c.end_frame.ensures.places) (subst (λ (l : List ℕ). AreFrames sys t l) (sym counts) more)

pub returns-clause-part : goal.returns-clause-part
returns-clause-part c =
    let sys = c.args.sys.now in
    let s = c.args.frames.now.places in
    let t = c.list_ready.new.frames.places in
    let tiles = c.args.seen.now.tiles in
    let part : IsPartOf t tiles = begins_part sys s tiles t c.recall_sites.ensures.distinct c.list_ready.ensures.goes_on.begins in
    subst (λ (l : List Place). IsPartOf l tiles) (sym c.end_frame.ensures.places) part
