-- What a growth text reads as: types of the system at sites of its box, and for a grid at distinct sites.
use Rattle.std.proofs.Common.{◌≡◌, ℕ, ◌≤◌, Bool, true, false, cond, List, [], ◌∷◌, ◌++◌, length, codes, Some, None, Ok, refl, sym, ap, subst, ◌∙◌, arith}
use Rattle.std.specs.Prelude.{IfSome, bytes_eq}
use Rattle.std.proofs.lemmas.List.Elements.{All-nil}
use Rattle.tile_io.specs.declared.fault.Cause.{Cause}
use Rattle.tile_io.specs.declared.mark.Mark.{Mark}
use Rattle.tile_io.specs.Formats.{Fault, Reads}
use Rattle.tile_io.proofs.Checking.{check_keyword, row_ok}
use Rattle.tile_io.proofs.Laws.{not_both, reads_once}
use Rattle.tile_io.proofs.ReadItems.{reads_hold, reads_few}
use Rattle.atam.specs.declared.place.Place.{Place}
use Rattle.atam.specs.Sites.{InBox}
use Rattle.atam.specs.Assembly.{Fits}
use Rattle.atam.specs.Placements.{HasDistinctSites}
use Rattle.atam.specs.TileSystem.{TileSystem, IsType}
use Rattle.atam.proofs.Placements.{HasDistinctSites-push}
use Rattle.atam.proofs.Sequences.{Fits-push}
use Rattle.assembly.specs.Grids.{TileGrid}
use Rattle.atam.proofs.Opening.{Fits-part}
use Rattle.tile_text.proofs.Boxes.{inside_is}
use Rattle.seq_text.specs.GrowthText.{GrowthItem, growth_table, ReadsPlaces}
use Rattle.seq_text.specs.Inner.Kinds.{row_of}
use Rattle.seq_text.specs.declared.kind.LineKind.TheVariants as kinds
use Rattle.seq_text.specs.GrowthText.{ReadsGrid}
use Rattle.seq_text.proofs.Fields.{MayStand, place_item}
use Rattle.seq_text.proofs.Growths.{growth_format, places-push, places-same}
use Rattle.seq_text.proofs.Scratch.{closed_item, unique_item, places_of, may_stand, empty_is}

-- the places so far fit the system, and where they have to differ their sites do
abbrev FitSoFar : Bool → TileSystem → List Place → Type 0
FitSoFar distinct sys places = Fits sys places × (distinct ≡ true → HasDistinctSites places)

fit_none : (distinct : Bool) (sys : TileSystem) → FitSoFar distinct sys []
fit_none distinct sys = (record { types = All-nil (λ p. IsType sys p.tile); sites = All-nil (λ p. InBox sys.area p.site) }, λ e i j d l m. absurd (omega (arith, m)))

distinct_more : (distinct : Bool) (places : List Place) (p : Place) → may_stand distinct places p.site ≡ true → distinct ≡ true → HasDistinctSites places → HasDistinctSites (places ++ p ∷ [])
distinct_more true places p free e h = HasDistinctSites-push places p h (empty_is places p.site free)
distinct_more false places p free e h = absurd (cc e)

fit_more : (distinct : Bool) (sys : TileSystem) (places : List Place) (p : Place) → FitSoFar distinct sys places → MayStand distinct sys places p → FitSoFar distinct sys (places ++ p ∷ [])
fit_more distinct sys places p h good =
    (Fits-push sys places p h.0 good.kind (inside_is sys.area p.site good.inside), λ e. distinct_more distinct places p good.free e (h.1 e))

-- a line that passes is a place that may stand there, or no place
abbrev IsPassed : Bool → TileSystem → List Place → GrowthItem → Type 0
IsPassed distinct sys places item = IfSome item.1 (MayStand distinct sys places)

module _ (distinct : Bool) (sys : TileSystem) where
  passed_by : (a b d : Bool) (earlier : List GrowthItem) (words : List (List ℕ)) (item : GrowthItem) →
      check_keyword (cond a (Some (row_of distinct sys kinds.Place)) (cond b (Some (row_of distinct sys kinds.Closed)) (cond d (Some (row_of distinct sys kinds.Unique)) None))) earlier words ≡ Ok item → IsPassed distinct sys (places_of earlier) item
  passed_by true b d earlier words item e =
      let found = place_item distinct sys earlier words item (row_ok (row_of distinct sys kinds.Place) earlier words item e).3 in
      subst (IsPassed distinct sys (places_of earlier)) found.1 found.2
  passed_by false true d earlier words item e =
      let same : closed_item ≡ item = cc ((row_ok (row_of distinct sys kinds.Closed) earlier words item e).3) in
      subst (IsPassed distinct sys (places_of earlier)) same tt
  passed_by false false true earlier words item e =
      let same : unique_item ≡ item = cc ((row_ok (row_of distinct sys kinds.Unique) earlier words item e).3) in
      subst (IsPassed distinct sys (places_of earlier)) same tt
  passed_by false false false earlier words item e = absurd (cc e)

  passed : (earlier : List GrowthItem) (words : List (List ℕ)) (item : GrowthItem) → (growth_format distinct sys).check earlier words ≡ Ok item → IsPassed distinct sys (places_of earlier) item
  unfolding growth_table
  passed earlier [] item e = absurd (cc e)
  passed earlier (word ∷ rest) item e = passed_by (bytes_eq word (codes "place")) (bytes_eq word (codes "closed")) (bytes_eq word (codes "unique")) earlier (word ∷ rest) item e

  push_places : (earlier : List GrowthItem) (item : GrowthItem) → FitSoFar distinct sys (places_of earlier) → IsPassed distinct sys (places_of earlier) item → FitSoFar distinct sys (places_of (earlier ++ item ∷ []))
  push_places earlier (word, Some p) h good = subst (FitSoFar distinct sys) (sym (places-push earlier word p)) (fit_more distinct sys (places_of earlier) p h good)
  push_places earlier (word, None) h good = subst (FitSoFar distinct sys) (sym (places-same earlier (word, None) refl)) h

  none_yet : FitSoFar distinct sys (places_of [])
  none_yet = fit_none distinct sys

  items_fit : (text : List ℕ) (from to : Mark) (items : List GrowthItem) → Reads (growth_format distinct sys) text from items to → FitSoFar distinct sys (places_of items)
  items_fit text from to items h =
      reads_hold (growth_format distinct sys) (λ l. FitSoFar distinct sys (places_of l)) none_yet (λ earlier words item so e. push_places earlier item so (passed earlier words item e)) text from to items h

  pub places_fit : (text : List ℕ) (from : Mark) (places : List Place) → ReadsPlaces distinct sys text from places → FitSoFar distinct sys places
  places_fit text from places h = subst (FitSoFar distinct sys) (sym h.places_are) (items_fit text from h.to h.items h.reads)

-- a grid that is read fits too
pub grid_fits : (sys : TileSystem) (text : List ℕ) (from : Mark) (grid : TileGrid) → ReadsGrid sys text from grid → Fits sys grid.tiles
grid_fits sys text from grid h = Fits-part sys grid.tiles h.places h.same.whole (places_fit true sys text from h.places h.reads).0

few_places : (items : List GrowthItem) → length (places_of items) ≤ length items
few_places [] = omega arith
few_places ((word, Some p) ∷ items) = omega (arith, few_places items)
few_places ((word, None) ∷ items) = omega (arith, few_places items)

module _ (distinct : Bool) (sys : TileSystem) (text : List ℕ) (from : Mark) where
  pub places_few : (places : List Place) → ReadsPlaces distinct sys text from places → length places ≤ length text
  places_few places h =
      let same : length places ≡ length (places_of h.items) = ap length h.places_are in
      omega (arith, same, few_places h.items, reads_few (growth_format distinct sys) text from h.to h.items h.reads)

  pub not_both_places : (places : List Place) (number : ℕ) (cause : Cause) → ReadsPlaces distinct sys text from places → Fault (growth_format distinct sys) text from number cause → ⊥
  not_both_places places number cause h fault = not_both (growth_format distinct sys) text from h.items h.to number cause h.reads fault

  pub one_list_of_places : (a b : List Place) → ReadsPlaces distinct sys text from a → ReadsPlaces distinct sys text from b → a ≡ b
  one_list_of_places a b g h = g.places_are ∙ ap places_of (reads_once (growth_format distinct sys) text from g.items h.items g.to h.to g.reads h.reads).0 ∙ sym h.places_are
