-- What stands beside an entry of a certificate that fits a system.
use Rattle.std.proofs.Common.{◌≡◌, ◌∙◌, true, true≢false, List, Option, Some, None, is_some, option_map, Contains, sym, ap}
use Rattle.std.proofs.lemmas.Option.{none-some}
use Rattle.atam.specs.declared.site.Side.TheVariants.{North, East, South, West}
use Rattle.atam.specs.declared.site.Site.{Site}
use Rattle.atam.specs.Sites.{InBox, IsNearSite, neighbor}
use Rattle.atam.specs.TileSystem.{TileSystem, IsType, IsValid}
use Rattle.atam.specs.Assembly.{Fits}
use Rattle.atam.proofs.Boxes.{near_inside}
use Rattle.atam.proofs.Lists.{All-slice_get, Contains-slice_get}
use Rattle.attach_rule.specs.Searches.{IsFirstType}
use Rattle.tile_system.specs.declared.placed.Beside.{Beside}
use Rattle.tile_system.specs.Neighbors.{StandBeside}
use Rattle.cert_check.specs.declared.entry.Entry.{Entry}
use Rattle.cert_check.specs.declared.listing.EntriesBeside.{EntriesBeside}
use Rattle.cert_check.specs.Certificates.{places_of, entry_at}
use Rattle.cert_check.specs.Inner.Listings.{AreBeside}
use Rattle.cert_check.proofs.Listings.{tile_at-entry, place_at, entry_inside}

module _ (sys : TileSystem) (c : List Entry) (e : Entry) (fits : Fits sys (places_of c)) (listed : Contains c e) where
  -- an entry's site is in the box, so that one can step from it, and its tile is of a type of the system
  pub entry_in_box : InBox sys.area e.place.site
  entry_in_box = entry_inside sys.area c e fits.sites listed

  pub entry_near : IsValid sys → IsNearSite e.place.site
  entry_near valid = near_inside sys.area e.place.site valid.box entry_in_box

  pub entry_kind : IsType sys e.place.tile
  entry_kind =
      let at = Contains-slice_get c e listed in
      All-slice_get (λ p. IsType sys p.tile) (places_of c) at.0 e.place fits.types (place_at c at.0 e at.2)

-- the tiles of the entries beside a site stand there
pub stand_beside : (c : List Entry) (m : Site) (beside : EntriesBeside) (tiles : Beside) → AreBeside c m beside →
    tiles.north ≡ option_map (λ (e : Entry). e.place.tile) beside.north → tiles.east ≡ option_map (λ (e : Entry). e.place.tile) beside.east →
    tiles.south ≡ option_map (λ (e : Entry). e.place.tile) beside.south → tiles.west ≡ option_map (λ (e : Entry). e.place.tile) beside.west →
    StandBeside (places_of c) m tiles
stand_beside c m beside tiles near n e s w = record {
  north = n ∙ ap (option_map (λ (f : Entry). f.place.tile)) near.north ∙ sym (tile_at-entry c (neighbor m North));
  east = e ∙ ap (option_map (λ (f : Entry). f.place.tile)) near.east ∙ sym (tile_at-entry c (neighbor m East));
  south = s ∙ ap (option_map (λ (f : Entry). f.place.tile)) near.south ∙ sym (tile_at-entry c (neighbor m South));
  west = w ∙ ap (option_map (λ (f : Entry). f.place.tile)) near.west ∙ sym (tile_at-entry c (neighbor m West));
}

-- nothing attaches at the site of an entry
pub shut_by : (sys : TileSystem) (c : List Entry) (m : Site) (there : Option Entry) → there ≡ entry_at c m → is_some there ≡ true → IsFirstType sys (places_of c) m None
shut_by sys c m None at some = absurd (true≢false (sym some))
shut_by sys c m (Some e) at some = λ t grows.
    let stands = tile_at-entry c m ∙ ap (option_map (λ (f : Entry). f.place.tile)) (sym at) in
    none-some e.place.tile (sym grows.attaches.empty ∙ stands)
