-- The text of a table's system has the lines of the table.
use Rattle.std.proofs.Common.{◌≡◌, ◌≤◌, ℕ, List, [], ◌∷◌, ◌++◌, length, flat_map, codes, Option, Some, None, option_map, Contains, refl, sym, ◌∙◌, ap, append-nil}
use Rattle.std.specs.Option.{option_map_or}
use Rattle.std.specs.Fmt.{digits}
use Rattle.std.proofs.lemmas.Option.{slice_get-map}
use Rattle.std.proofs.lemmas.List.Folds.{flat_map-map}
use Rattle.atam.specs.declared.site.Side.{Side}
use Rattle.atam.specs.declared.site.Side.TheVariants.{North, East, South, West}
use Rattle.atam.specs.declared.area.BoxArea.{BoxArea}
use Rattle.atam.specs.TileSystem.{glue_name, type_name}
use Rattle.atam.proofs.Lists.{Contains-here, Contains-there}
use Rattle.tile_io.specs.Lines.{line_of}
use Rattle.tile_text.specs.declared.version.Version.TheVariants.{One}
use Rattle.tile_text.specs.Spelling.{spelling, side_word}
use Rattle.tile_text.specs.Inner.Words.{head_words, box_words}
use Rattle.tile_text.proofs.PlainWords.{name_short}
use Rattle.tile_text.proofs.PrintLemmas.{printed_as, glue_line, tile_line, seed_line, end_line}
use Rattle.design.specs.TileSets.{TileSet, IsTileSet, IsWithinLimits, type_id, glue_id, tile_type, glue_of, system_of}
use Rattle.design.proofs.Tables.{label_there, kind_there}
use Rattle.tile_table.specs.Inner.TableLines.{label_words, label_word, kind_words, seed_words}

-- the lines of a label and of a kind
abbrev pub label_text : {K G : Type 0} → TileSet K G → G → List ℕ
label_text set g = line_of (label_words set g)

abbrev pub kind_text : {K G : Type 0} → TileSet K G → K → List ℕ
kind_text set k = line_of (kind_words set k)

-- two texts that agree on the items of a list
same_texts : {X : Type 0} (f g : X → List ℕ) (xs : List X) → ((x : X) → Contains xs x → f x ≡ g x) → flat_map f xs ≡ flat_map g xs
same_texts f g [] same = refl
same_texts f g (x ∷ xs) same =
    ap (λ l. l ++ flat_map f xs) (same x (Contains-here x xs)) ∙ ap (λ l. g x ++ l) (same_texts f g xs (λ y there. same y (Contains-there x y xs there)))

-- names are short
module _ {K G : Type 0} (set : TileSet K G) (limits : IsWithinLimits set) where
  pub label_short : (g : G) → Contains set.labels g → length (set.label_row g).2 ≤ 40
  label_short g listed = name_short (set.label_row g).2 (limits.label_names g listed)

  pub kind_short : (k : K) → Contains set.kinds k → length (set.kind_row k).1 ≤ 40
  kind_short k listed = name_short (set.kind_row k).1 (limits.kind_names k listed)

module _ {K G : Type 0} (set : TileSet K G) (numbered : IsTileSet set) (seed : K) (area : BoxArea) where
  -- the glue of a listed label has its name
  label_named : (g : G) → Contains set.labels g → glue_name (system_of set seed area) (glue_id set g) ≡ (set.label_row g).2
  label_named g listed =
      ap (λ o. option_map_or (λ h. h.name) o []) (slice_get-map (glue_of set) set.labels (set.label_row g).0 ∙ ap (option_map (glue_of set)) (label_there set numbered seed area g listed))

  -- and the type of a listed kind its own
  kind_named : (k : K) → Contains set.kinds k → type_name (system_of set seed area) (type_id set k) ≡ (set.kind_row k).1
  kind_named k listed =
      ap (λ o. option_map_or (λ t. t.name) o []) (slice_get-map (tile_type set) set.kinds (set.kind_row k).0 ∙ ap (option_map (tile_type set)) (kind_there set numbered seed area k listed))

  word_of_side : (k : K) (d : Side) → Contains set.kinds k → side_word (system_of set seed area) (option_map (glue_id set) (set.side k d)) ≡ label_word set (set.side k d)
  unfolding side_word
  word_of_side k d listed = by (set.side k d) refl
    where
      by : (o : Option G) → set.side k d ≡ o → side_word (system_of set seed area) (option_map (glue_id set) o) ≡ label_word set o
      by None none = refl
      by (Some g) some = label_named g (numbered.sides k d g listed some)

  kind_line : (k : K) → Contains set.kinds k → kind_text set k ≡ tile_line (system_of set seed area) (tile_type set k)
  kind_line k listed =
      let made : List ℕ → List ℕ → List ℕ → List ℕ → List ℕ = λ n e s w. line_of (codes "tile" ∷ (set.kind_row k).1 ∷ n ∷ e ∷ s ∷ w ∷ []) in
      let north = word_of_side k North listed in
      let east = word_of_side k East listed in
      let south = word_of_side k South listed in
      let west = word_of_side k West listed in
      rw (north, east, south, west) refl

  seed_text : Contains set.kinds seed → line_of (seed_words set seed) ≡ flat_map (seed_line (system_of set seed area)) (system_of set seed area).seeds
  unfolding digits
  seed_text listed =
      ap (λ name. line_of (codes "seed" ∷ codes "0" ∷ codes "0" ∷ name ∷ [])) (sym (kind_named seed listed))
      ∙ sym (append-nil (line_of (codes "seed" ∷ codes "0" ∷ codes "0" ∷ type_name (system_of set seed area) (type_id set seed) ∷ [])))

  -- the lines of the table, one behind another
  pub spelled_table : (labels : List G) (kinds : List K) → labels ≡ set.labels → kinds ≡ set.kinds → Contains set.kinds seed →
      flat_map line_of (head_words One 2) ++ (flat_map (label_text set) labels ++ (flat_map (kind_text set) kinds ++ (line_of (box_words area) ++ (line_of (seed_words set seed) ++ end_line)))) ≡ spelling (system_of set seed area)
  spelled_table labels kinds all_labels all_kinds listed =
      let sys = system_of set seed area in
      let made : List ℕ → List ℕ → List ℕ → List ℕ = λ g t s. flat_map line_of (head_words One 2) ++ (g ++ (t ++ (line_of (box_words area) ++ (s ++ end_line)))) in
      let glues : flat_map (label_text set) set.labels ≡ flat_map glue_line sys.glues = sym (flat_map-map glue_line (glue_of set) set.labels) in
      let types : flat_map (kind_text set) set.kinds ≡ flat_map (tile_line sys) sys.types =
      same_texts (kind_text set) (λ k. tile_line sys (tile_type set k)) set.kinds kind_line ∙ sym (flat_map-map (tile_line sys) (tile_type set) set.kinds) in
      ap (λ l. made (flat_map (label_text set) l) (flat_map (kind_text set) kinds) (line_of (seed_words set seed))) all_labels
      ∙ ap (λ l. made (flat_map (label_text set) set.labels) (flat_map (kind_text set) l) (line_of (seed_words set seed))) all_kinds
      ∙ ap (λ g. made g (flat_map (kind_text set) set.kinds) (line_of (seed_words set seed))) glues
      ∙ ap (λ t. made (flat_map glue_line sys.glues) t (line_of (seed_words set seed))) types
      ∙ ap (λ s. made (flat_map glue_line sys.glues) (flat_map (tile_line sys) sys.types) s) (seed_text listed)
      ∙ printed_as One sys 2 area refl refl
