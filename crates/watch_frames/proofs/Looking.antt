-- What a seat that looks has seen.
use Rattle.std.proofs.Common.{◌≡◌, [], ◌∷◌, ◌++◌, refl, ◌∙◌}
use Rattle.std.proofs.lemmas.List.Elements.{Contains-append_left}
use Rattle.atam.specs.declared.site.Site.{Site}
use Rattle.atam.specs.declared.place.TypeId.{TypeId}
use Rattle.atam.specs.declared.place.Place.{Place}
use Rattle.atam.specs.Sites.{InBox}
use Rattle.atam.specs.Placements.{SamePlacements}
use Rattle.atam.specs.TileSystem.{TileSystem, IsType}
use Rattle.atam.proofs.Opening.{Fits-part}
use Rattle.atam.proofs.Sequences.{Fits-push}
use Rattle.atam.proofs.Tiles.{same_back, SamePlacements-push, SamePlacements-trans}
use Rattle.assembly.specs.Grids.{TileGrid}
use Rattle.grow_core.specs.Steps.{Sees, place}
use Rattle.site_table.specs.Seats.{SeatValue, GoesOn}
use Rattle.watch_frames.specs.Watchers.{HasSeen, LooksOn}

-- a tile is seen that wasn't seen before
pub looks_tile : (sys : TileSystem) (old new : SeatValue) (before after : TileGrid) (m : Site) (t : TypeId) → HasSeen sys old before → GoesOn old new → Sees old.scout (place m t) new.scout →
    IsType sys t → InBox sys.area m → after.area ≡ before.area → SamePlacements (before.tiles ++ place m t ∷ []) after.tiles → LooksOn sys old before new after
looks_tile sys old new before after m t seen goes sees kind inside area placements =
    let p : Place = place m t in
    record {
      goes = goes;
      mine = sees.mine;
      kept = λ q in_before. placements.part q (Contains-append_left before.tiles (p ∷ []) q in_before);
      seen = record {
        system = goes.sys ∙ seen.system;
        area = area ∙ seen.area;
        same = SamePlacements-trans new.scout.seen (old.scout.seen ++ p ∷ []) after.tiles (same_back (old.scout.seen ++ p ∷ []) new.scout.seen sees.seen)
            (SamePlacements-trans (old.scout.seen ++ p ∷ []) (before.tiles ++ p ∷ []) after.tiles (SamePlacements-push old.scout.seen before.tiles p seen.same) placements);
        fits = Fits-part sys after.tiles (before.tiles ++ p ∷ []) placements.whole (Fits-push sys before.tiles p seen.fits kind inside);
      };
    }

-- no look is made
pub looks_nowhere : (sys : TileSystem) (seat : SeatValue) (grid : TileGrid) → HasSeen sys seat grid → LooksOn sys seat grid seat grid
looks_nowhere sys seat grid seen = record { goes = record { table = refl; sys = refl; owned = refl }; mine = refl; kept = λ p in_grid. in_grid; seen = seen }

-- looks one after another
pub looks_twice : (sys : TileSystem) (a b c : SeatValue) (first second third : TileGrid) → LooksOn sys a first b second → LooksOn sys b second c third → LooksOn sys a first c third
looks_twice sys a b c first second third one two = record {
  goes = record { table = two.goes.table ∙ one.goes.table; sys = two.goes.sys ∙ one.goes.sys; owned = two.goes.owned ∙ one.goes.owned };
  mine = two.mine ∙ one.mine;
  kept = λ p in_first. two.kept p (one.kept p in_first);
  seen = two.seen;
}
