-- The lines of a growth text so far.
use Rattle.std.proofs.Common.{◌≡◌, ◌⊎◌, ℕ, Bool, true, false, cond, codes, List, [], ◌∷◌, ◌++◌, length, map, slice_get, Option, Some, None, Ok, inl, inr, refl, sym, ap, subst, ◌∙◌}
use Rattle.std.specs.Prelude.{option_map, find, bytes_eq, ◌-◌, ◌||◌, is_some}
use Rattle.std.proofs.lemmas.List.{append-nil}
use Rattle.std.proofs.lemmas.List.Elements.{filter_map-append}
use Rattle.std.proofs.lemmas.Option.{slice_get-map}
use Rattle.tile_io.specs.declared.mark.Mark.{Mark}
use Rattle.tile_io.specs.Formats.{Format, Reads}
use Rattle.tile_io.specs.Checks.{last_of, table_format}
use Rattle.tile_io.proofs.Checking.{last_push}
use Rattle.atam.specs.declared.place.Place.{Place}
use Rattle.atam.specs.TileSystem.{TileSystem}
use Rattle.assembly.specs.Grids.{TileGrid}
use Rattle.seq_text.specs.declared.kind.LineKind.{LineKind}
use Rattle.seq_text.specs.declared.kind.LineKind.TheVariants as kinds
use Rattle.seq_text.specs.GrowthText.{GrowthItem, growth_table, grid_format, ReadsPlaces, ReadsGrid}
use Rattle.seq_text.proofs.Scratch.{placed_item, closed_item, unique_item, places_of}
use Rattle.seq_text.specs.Inner.Kinds.{row_of, kind_word, kind_named, may_stand_after}
use Rattle.seq_text.specs.Inner.SoFar.{HoldsLines, HoldsPlaces, IsOverBox}

-- as a grid, whose sites differ, or as a sequence
abbrev pub growth_format : Bool → TileSystem → Format GrowthItem
growth_format distinct sys = table_format (growth_table distinct sys)

-- a place more, and a line without a place
pub places-push : (items : List GrowthItem) (word : List ℕ) (p : Place) → places_of (items ++ (word, Some p) ∷ []) ≡ places_of items ++ p ∷ []
places-push items word p = filter_map-append (λ (item : GrowthItem). item.1) items ((word, Some p) ∷ [])

pub places-same : (items : List GrowthItem) (item : GrowthItem) → item.1 ≡ None → places_of (items ++ item ∷ []) ≡ places_of items
places-same items item none = filter_map-append (λ (item : GrowthItem). item.1) items (item ∷ []) ∙ rw none (append-nil (places_of items))

module _ (sys : TileSystem) where
  pub holds_nothing : (grid : Option TileGrid) → IsOverBox sys grid → HoldsPlaces sys [] grid [] → HoldsLines sys [] grid None []
  holds_nothing grid box_area none = record { box_area = box_area; places = none; kind = refl }

  pub holds_place : (sequence : List Place) (old : Option TileGrid) (longer : List Place) (new : Option TileGrid) (last : Option LineKind) (items : List GrowthItem) (p : Place) → HoldsLines sys sequence old last items →
      IsOverBox sys new → HoldsPlaces sys longer new (places_of items ++ p ∷ []) → HoldsLines sys longer new (Some kinds.Place) (items ++ placed_item p ∷ [])
  holds_place sequence old longer new last items p h box_area held = record {
    box_area = box_area;
    places = subst (HoldsPlaces sys longer new) (sym (places-push items (codes "place") p)) held;
    kind = sym (ap (option_map (λ (item : GrowthItem). item.0)) (last_push items (placed_item p)));
  }

  pub holds_other : (sequence : List Place) (grid : Option TileGrid) (last : Option LineKind) (items : List GrowthItem) (kind : LineKind) (item : GrowthItem) → item.1 ≡ None → kind_word kind ≡ item.0 → HoldsLines sys sequence grid last items →
      HoldsLines sys sequence grid (Some kind) (items ++ item ∷ [])
  holds_other sequence grid last items kind item none named h = record {
    box_area = h.box_area;
    places = subst (HoldsPlaces sys sequence grid) (sym (places-same items item none)) h.places;
    kind = ap (λ w. Some w) named ∙ sym (ap (option_map (λ (item : GrowthItem). item.0)) (last_push items item));
  }

  -- where there is no grid the sequence has the places
  pub sequence_is : (sequence : List Place) (grid : Option TileGrid) (places : List Place) → is_some grid ≡ false → HoldsPlaces sys sequence grid places → sequence ≡ places
  sequence_is sequence None places none h = h
  sequence_is sequence (Some grid) places none h = absurd (cc none)

or_first : (a b : Bool) → (a || false) ≡ true → (a || (b || false)) ≡ true
or_first true b e = refl
or_first false b e = absurd (cc e)

module _ (distinct : Bool) (sys : TileSystem) where
  follows_word : (kind last : LineKind) (place : Option Place) → may_stand_after kind (Some last) ≡ (row_of distinct sys kind).may_follow (Some (kind_word last, place))
  follows_word kinds.Place kinds.Place place = refl
  follows_word kinds.Place kinds.Closed place = refl
  follows_word kinds.Place kinds.Unique place = refl
  follows_word kinds.Closed kinds.Place place = refl
  follows_word kinds.Closed kinds.Closed place = refl
  follows_word kinds.Closed kinds.Unique place = refl
  follows_word kinds.Unique kinds.Place place = refl
  follows_word kinds.Unique kinds.Closed place = refl
  follows_word kinds.Unique kinds.Unique place = refl

  follows_none : (kind : LineKind) → may_stand_after kind None ≡ (row_of distinct sys kind).may_follow None
  follows_none kinds.Place = refl
  follows_none kinds.Closed = refl
  follows_none kinds.Unique = refl

  -- a keyword may stand behind that of the last line
  pub follows_kind : (kind : LineKind) (last : Option LineKind) (before : Option GrowthItem) → option_map kind_word last ≡ option_map (λ item. item.0) before →
      may_stand_after kind last ≡ (row_of distinct sys kind).may_follow before
  follows_kind kind None None same = follows_none kind
  follows_kind kind None (Some item) same = absurd (cc same)
  follows_kind kind (Some last) None same = absurd (cc same)
  follows_kind kind (Some last) (Some (word, place)) same =
      let named : kind_word last ≡ word = cc same in
      subst (λ (w : List ℕ). may_stand_after kind (Some last) ≡ (row_of distinct sys kind).may_follow (Some (w, place))) named (follows_word kind last place)

  follows_some : (p : Option Place) → (row_of distinct sys kinds.Closed).may_follow (option_map placed_item p) ≡ true
  follows_some None = refl
  follows_some (Some p) = refl

  -- a place follows the start and each place
  pub follows_places : (places : List Place) → (row_of distinct sys kinds.Closed).may_follow (last_of (map placed_item places)) ≡ true
  follows_places places =
      let n = length (map placed_item places) - 1 in
      ap (row_of distinct sys kinds.Closed).may_follow (slice_get-map placed_item places n) ∙ follows_some (slice_get places n)

  follows_more : (last : Option GrowthItem) → (row_of distinct sys kinds.Closed).may_follow last ≡ true → (row_of distinct sys kinds.Unique).may_follow last ≡ true
  follows_more None e = refl
  follows_more (Some item) e = or_first (bytes_eq item.0 (codes "place")) (bytes_eq item.0 (codes "closed")) e

  -- so does the line on local determinism, which may also follow a `closed` line
  pub unique_follows : (places : List Place) → (row_of distinct sys kinds.Unique).may_follow (last_of (map placed_item places)) ≡ true
  unique_follows places = follows_more (last_of (map placed_item places)) (follows_places places)

  pub unique_follows_closed : (places : List Place) → (row_of distinct sys kinds.Unique).may_follow (last_of (map placed_item places ++ closed_item ∷ [])) ≡ true
  unique_follows_closed places = rw (last_push (map placed_item places) closed_item) refl

pub places_back : (places : List Place) → places_of (map placed_item places) ≡ places
places_back [] = refl
places_back (p ∷ places) = ap (λ l. p ∷ l) (places_back places)

-- a line that only closes the places
pub ending_line : (distinct : Bool) (sys : TileSystem) (kind : LineKind) → (kind ≡ kinds.Closed) ⊎ (kind ≡ kinds.Unique) → (items : List GrowthItem) (words : List (List ℕ)) →
    (item : GrowthItem) × (item.1 ≡ None) × (kind_word kind ≡ item.0) × ((row_of distinct sys kind).fields items words ≡ Ok item)
ending_line distinct sys kind is items words =
    let Fields : GrowthItem → LineKind → Type 0 = λ item k. (row_of distinct sys k).fields items words ≡ Ok item in
    elim is [ inl e ↦ (closed_item, refl, ap kind_word e, subst (Fields closed_item) (sym e) refl) | inr e ↦ (unique_item, refl, ap kind_word e, subst (Fields unique_item) (sym e) refl) ]

row_by : (distinct : Bool) (sys : TileSystem) (a b d : Bool) →
    option_map (row_of distinct sys) (cond a (Some kinds.Place) (cond b (Some kinds.Closed) (cond d (Some kinds.Unique) None))) ≡ cond a (Some (row_of distinct sys kinds.Place)) (cond b (Some (row_of distinct sys kinds.Closed)) (cond d (Some (row_of distinct sys kinds.Unique)) None))
row_by distinct sys true b d = refl
row_by distinct sys false true d = refl
row_by distinct sys false false true = refl
row_by distinct sys false false false = refl

-- the row that a word finds is that of its keyword
pub row_named : (distinct : Bool) (sys : TileSystem) (word : List ℕ) → option_map (row_of distinct sys) (kind_named word) ≡ find (λ row. bytes_eq word row.word) (growth_table distinct sys).keywords
unfolding growth_table
row_named distinct sys word = row_by distinct sys (bytes_eq word (codes "place")) (bytes_eq word (codes "closed")) (bytes_eq word (codes "unique"))

-- what was read into a reader, of this system
pub into_places : (distinct : Bool) (sys : TileSystem) (text : List ℕ) (from to : Mark) (places : List Place) (items : List GrowthItem) → places ≡ places_of items → Reads (growth_format distinct sys) text from items to →
    ReadsPlaces distinct sys text from places
into_places distinct sys text from to places items is reads = record { items = items; to = to; reads = reads; places_are = is }

pub into_grid : (sys held_by : TileSystem) (text : List ℕ) (from to : Mark) (sequence : List Place) (held : Option TileGrid) (grid : TileGrid) (last : Option LineKind) (items : List GrowthItem) → held_by ≡ sys →
    HoldsLines held_by sequence held last items → held ≡ Some grid → Reads (grid_format sys) text from items to → ReadsGrid sys text from grid
into_grid sys held_by text from to sequence held grid last items same lines is reads =
    let Places : Option TileGrid → Type 0 = λ g. HoldsPlaces held_by sequence g (places_of items) in
    let put = subst Places is lines.places in
    record { area = put.area ∙ ap (λ s. s.area) same; places = places_of items; reads = into_places true sys text from to (places_of items) items refl reads; same = put.same }
