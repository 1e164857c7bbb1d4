use Rattle.std.proofs.Common.{◌≡◌, List, sym, subst}
use Rattle.atam.specs.declared.place.Place.{Place}
use Rattle.atam.specs.Placements.{HasDistinctSites, IsPartOf}
use Rattle.atam.specs.TileSystem.{TileSystem}
use Rattle.site_table.specs.Rule.{IsPossible}
use Rattle.site_table.proofs.Seen.{same_fits}
use Rattle.watch_frames.specs.Watchers.{WatcherValue, IsWatching}
use Rattle.watch_frames.specs.Inner.Listing.{AtRest}
use Rattle.watch_frames.proofs.watcher.Watcher.make.Goals as goal

pub invariant_of-result : goal.invariant_of-result
invariant_of-result c =
    let sys = c.args.sys.now in
    let v = c.args.seat.scout in
    let tiles = c.args.seen.tiles in
    let possible : IsPossible sys v = subst (λ (z : TileSystem). IsPossible z v) c.requires.system c.recall_possible.ensures.possible in
    let made = c.in-Ok-make.ensures in
    let places : c.in-Ok-make.empty.places ≡ sys.seeds = made.places in
    let in_seen : IsPartOf sys.seeds tiles = λ p seed. c.requires.seen.part p (possible.scout.seeds p seed) in
    let w : WatcherValue = record { seat = c.args.seat; seen = c.args.seen; frames = c.in-Ok-make.empty; many = c.args.frames } in
    let watching : IsWatching sys w c.in-Ok.listing = record {
      seen = record { system = c.requires.system; area = c.requires.area; same = c.requires.seen; fits = same_fits sys v tiles possible c.requires.seen };
      are = made.frames;
      part = subst (λ (l : List Place). IsPartOf l tiles) (sym places) in_seen;
      distinct = subst (λ (l : List Place). HasDistinctSites l) (sym places) possible.valid.distinct_seeds;
      rest = subst (λ (l : List Place). AtRest sys l c.in-Ok.listing) (sym places) c.in-Ok.ensures;
      room = made.room;
      most = made.most;
      few = c.requires.few;
    } in
    subst (λ (z : TileSystem). IsWatching z w c.in-Ok.listing) (sym c.requires.system) watching
