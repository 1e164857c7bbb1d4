-- What the reader of a certificate holds before the first line, and after an entry more.
use Rattle.std.proofs.Common.{◌≡◌, ◌≢◌, ◌<◌, ◌∙◌, List, [], ◌∷◌, ◌++◌, Some, None, sym, subst, arith}
use Rattle.std.proofs.lemmas.List.{map-append}
use Rattle.std.proofs.lemmas.List.Elements.{All-nil, All-push}
use Rattle.atam.specs.declared.site.Site.{Site}
use Rattle.atam.specs.declared.place.Place.{Place}
use Rattle.atam.specs.Sites.{InBox}
use Rattle.atam.specs.Assembly.{Fits}
use Rattle.atam.specs.Placements.{HasDistinctSites, SamePlacements, tile_at}
use Rattle.atam.specs.TileSystem.{TileSystem, IsType}
use Rattle.atam.proofs.Placements.{HasDistinctSites-push}
use Rattle.atam.proofs.Sequences.{Fits-push}
use Rattle.assembly.specs.Grids.{TileGrid}
use Rattle.seq_text.specs.Inner.SoFar.{IsScratchOf}
use Rattle.seq_text.proofs.Scratch.{scratch_none, scratch_put}
use Rattle.cert_check.specs.declared.entry.Entry.{Entry}
use Rattle.cert_check.specs.Certificates.{places_of}
use Rattle.cert_text.specs.Inner.SoFar.{AreKept}

-- no places have distinct sites
none_distinct : HasDistinctSites []
none_distinct = λ i j d l m. absurd (omega (arith, m))

pub kept_none : (sys : TileSystem) (grid : TileGrid) → grid.area ≡ sys.area → grid.tiles ≡ [] → AreKept sys [] grid
kept_none sys grid area empty = record {
  known = record { distinct = none_distinct; sides = All-nil (λ (e : Entry). e.sides < 16) };
  fits = record { types = All-nil (λ (p : Place). IsType sys p.tile); sites = All-nil (λ (p : Place). InBox sys.area p.site) };
  scratch = scratch_none sys grid area empty;
}

-- the places with one more
places-push : (c : List Entry) (e : Entry) → places_of (c ++ e ∷ []) ≡ places_of c ++ e.place ∷ []
places-push c e = map-append (λ (f : Entry). f.place) c (e ∷ [])

pub kept_more : (sys : TileSystem) (c : List Entry) (old new : TileGrid) (e : Entry) → AreKept sys c old → InBox sys.area e.place.site → IsType sys e.place.tile → e.sides < 16 →
    tile_at old.tiles e.place.site ≡ None → new.area ≡ old.area → tile_at new.tiles e.place.site ≡ Some e.place.tile → ((m : Site) → m ≢ e.place.site → tile_at new.tiles m ≡ tile_at old.tiles m) →
    SamePlacements (old.tiles ++ e.place ∷ []) new.tiles → AreKept sys (c ++ e ∷ []) new
kept_more sys c old new e kept inside kind small free area here others same =
    let places = places_of c in
    let p = e.place in
    let empty : tile_at places p.site ≡ None = sym (kept.scratch.tiles p.site) ∙ free in
    let back = sym (places-push c e) in
    let Distinct : List Place → Type 0 = λ l. HasDistinctSites l in
    let Fitting : List Place → Type 0 = λ l. Fits sys l in
    let Scratch : List Place → Type 0 = λ l. IsScratchOf sys l new in
    record {
      known = record {
        distinct = subst Distinct back (HasDistinctSites-push places p kept.known.distinct empty);
        sides = All-push (λ (f : Entry). f.sides < 16) c e kept.known.sides small;
      };
      fits = subst Fitting back (Fits-push sys places p kept.fits kind inside);
      scratch = subst Scratch back (scratch_put sys places old new p kept.scratch empty area here others same);
    }
