-- The scratch grid has the places that were read.
use Rattle.std.proofs.Common.{◌≡◌, ◌≢◌, true, Option, codes, List, [], ◌∷◌, ◌++◌, Some, None, refl, sym, ap, subst, ◌∙◌, inl, inr}
use Rattle.std.specs.Prelude.{Bool, ◌||◌, not, filter_map, is_none, is_some}
use Rattle.atam.proofs.Lists.{some_or_none}
use Rattle.atam.specs.declared.site.Site.{Site}
use Rattle.atam.specs.declared.place.TypeId.{TypeId}
use Rattle.atam.specs.declared.place.Place.{Place}
use Rattle.atam.specs.Placements.{tile_at, SamePlacements}
use Rattle.atam.specs.TileSystem.{TileSystem}
use Rattle.atam.proofs.Placements.{at_site, tile_at-here, tile_at-past, tile_at-append, tile_at-append_past}
use Rattle.assembly.specs.Grids.{TileGrid}
use Rattle.atam.proofs.Tiles.{SamePlacements-push, SamePlacements-trans}
use Rattle.seq_text.specs.GrowthText.{GrowthItem}
use Rattle.seq_text.specs.Inner.SoFar.{IsScratchOf, HoldsPlaces, is_free_in}

-- the lines of each keyword
abbrev pub placed_item : Place → GrowthItem
placed_item p = (codes "place", Some p)

abbrev pub closed_item : GrowthItem
closed_item = (codes "closed", None)

abbrev pub unique_item : GrowthItem
unique_item = (codes "unique", None)

-- the places of the lines, in their order
abbrev pub places_of : List GrowthItem → List Place
places_of items = filter_map (λ item. item.1) items

-- whether a tile may be placed at a site after others
abbrev pub may_stand : Bool → List Place → Site → Bool
may_stand distinct earlier m = not distinct || is_none (tile_at earlier m)

-- an empty grid has no places
pub scratch_none : (sys : TileSystem) (grid : TileGrid) → grid.area ≡ sys.area → grid.tiles ≡ [] → IsScratchOf sys [] grid
scratch_none sys grid area empty =
    let At : List Place → Type 0 = λ l. (m : Site) → tile_at l m ≡ tile_at [] m in
    let Same : List Place → Type 0 = λ l. SamePlacements [] l in
    record {
      area = area;
      tiles = subst At (sym empty) (λ m. refl);
      same = subst Same (sym empty) (record { part = λ p h. h; whole = λ p h. h });
    }

none_is : (o : Option TypeId) → is_none o ≡ true → o ≡ None
none_is None e = refl
none_is (Some t) e = absurd (cc e)

pub empty_is : (places : List Place) (m : Site) → may_stand true places m ≡ true → tile_at places m ≡ None
empty_is places m free = none_is (tile_at places m) free

-- a place more, at another site
push_other : (places : List Place) (p : Place) (m : Site) → p.site ≢ m → tile_at (places ++ p ∷ []) m ≡ tile_at places m
push_other places p m other = elim (some_or_none (tile_at places m)) [
  | inl none ↦ tile_at-append_past places (p ∷ []) m none ∙ tile_at-past p [] m other ∙ sym none
  | inr some ↦ tile_at-append places (p ∷ []) m some.0 some.1 ∙ sym some.1
]

-- the grid after a place was put
pub scratch_put : (sys : TileSystem) (places : List Place) (old new : TileGrid) (p : Place) → IsScratchOf sys places old → tile_at places p.site ≡ None →
    new.area ≡ old.area → tile_at new.tiles p.site ≡ Some p.tile → ((m : Site) → m ≢ p.site → tile_at new.tiles m ≡ tile_at old.tiles m) →
    SamePlacements (old.tiles ++ p ∷ []) new.tiles → IsScratchOf sys (places ++ p ∷ []) new
scratch_put sys places old new p h empty area here others same = record {
  area = area ∙ h.area;
  tiles = λ m. elim (at_site p m) [
    | inl at ↦
        let At : Site → Type 0 = λ n. tile_at new.tiles n ≡ tile_at (places ++ p ∷ []) n in
        subst At at (here ∙ sym (tile_at-append_past places (p ∷ []) p.site empty ∙ tile_at-here p [] p.site refl))
    | inr other ↦ others m (λ e. other (sym e)) ∙ h.tiles m ∙ sym (push_other places p m other)
  ];
  same = SamePlacements-trans (places ++ p ∷ []) (old.tiles ++ p ∷ []) new.tiles (SamePlacements-push places old.tiles p h.same) same;
}

-- a site that is free in a grid is empty there
pub free_is : (held : Option TileGrid) (grid : TileGrid) (m : Site) → held ≡ Some grid → is_free_in held m ≡ true → tile_at grid.tiles m ≡ None
free_is held grid m is free =
    let Free : Option TileGrid → Type 0 = λ g. is_free_in g m ≡ true in
    none_is (tile_at grid.tiles m) (subst Free is free)

-- a tile may be placed at a site after places exactly where it is free in what holds them
pub stands_is : (sys : TileSystem) (sequence : List Place) (held : Option TileGrid) (places : List Place) (m : Site) → HoldsPlaces sys sequence held places → may_stand (is_some held) places m ≡ is_free_in held m
stands_is sys sequence None places m h = refl
stands_is sys sequence (Some grid) places m h = ap is_none (sym (h.tiles m))
