-- What is printed of a growth reads as its places.
use Rattle.std.proofs.Common.{◌≡◌, ◌^◌, ℕ, ◌≤◌, ◌<◌, Bool, true, false, List, [], ◌∷◌, ◌++◌, length, map, drop, slice_get, codes, decimal, pos, All, Option, Some, None, Ok, inr, refl, sym, ap, subst, ◌∙◌, append_assoc, length-append, arith}
use Rattle.std.specs.Prelude.{ℤ, negsuc, ◌+◌, nat_abs, int_le, flat_map, IfSome, is_none}
use Rattle.std.specs.Fmt.{signed_decimal}
use Rattle.std.proofs.lemmas.Bool.{leb-true}
use Rattle.std.proofs.lemmas.List.{append-nil, map_push, take_at, drop_at}
use Rattle.std.proofs.lemmas.List.Elements.{All-nil, All-cons, All-head, All-tail, All-from_recursion}
use Rattle.tile_io.specs.declared.mark.Mark.{Mark}
use Rattle.tile_io.specs.Lines.{lines_of, lines_from, line_of, mark_after}
use Rattle.tile_io.specs.Formats.{Passes}
use Rattle.tile_io.proofs.Cuts.{lines-nil}
use Rattle.tile_io.proofs.Passing.{passes}
use Rattle.tile_io.proofs.Spelled.{IsSpelled, ChecksAs, spelled_line, lines_of-spelling, passes_spelled}
use Rattle.tile_io.specs.Checks.{last_of}
use Rattle.tile_io.proofs.WordsSpelled.{IsWord-signed, IsWord-decimal, length-signed, length-decimal}
use Rattle.tile_io.proofs.Spelled.{IsWord}
use Rattle.atam.specs.declared.site.Site.{Site}
use Rattle.atam.specs.declared.place.TypeId.{TypeId}
use Rattle.atam.specs.declared.place.Place.{Place}
use Rattle.atam.specs.Sites.{InBox, IsNearSite}
use Rattle.atam.specs.Placements.{HasDistinctSites, tile_at}
use Rattle.atam.specs.TileSystem.{TileSystem, IsValid, IsType, type_name, is_name}
use Rattle.atam.proofs.Placements.{distinct-empty}
use Rattle.tile_text.specs.Fields.{site_field, place_field}
use Rattle.tile_text.proofs.Boxes.{le_z, inside_passes}
use Rattle.tile_text.proofs.Names.{named_seed, at_seam}
use Rattle.tile_text.proofs.PlainWords.{plain_seed, name_word, name_short, keyword_word}
use Rattle.atam.specs.declared.verdict.Verdict.{Verdict}
use Rattle.atam.specs.declared.verdict.Verdict.TheVariants.{Yes, NotExact, Rival, NotTerminal}
use Rattle.seq_text.specs.GrowthLines.{place_lines, closed_line}
use Rattle.seq_text.specs.VerdictLines.{verdict_line}
use Rattle.seq_text.specs.PrintedGrowths.{growth_lines, line_or_none, MayBeOpen, MayBeTold, MayBePrinted}
use Rattle.tile_text.specs.declared.version.Version.{Version}
use Rattle.tile_text.specs.Spelling.{spelling, spelling_by, version_of}
use Rattle.seq_text.proofs.Scratch.{placed_item, closed_item, unique_item, places_of, may_stand}
use Rattle.seq_text.specs.GrowthText.{GrowthItem, growth_table, place_in, ReadsPlaces}
use Rattle.seq_text.specs.Inner.Kinds.{row_of}
use Rattle.seq_text.specs.declared.kind.LineKind.TheVariants as kinds
use Rattle.seq_text.proofs.Growths.{growth_format, follows_places, unique_follows, unique_follows_closed, places_back, places-same}

abbrev place_words : TileSystem → Place → List (List ℕ)
place_words sys p = codes "place" ∷ signed_decimal p.site.x ∷ signed_decimal p.site.y ∷ type_name sys p.tile ∷ []

abbrev closed_words : TileSystem → Option (Site × TypeId) → List (List ℕ)
closed_words sys None = codes "closed" ∷ codes "terminal" ∷ []
closed_words sys (Some found) = codes "closed" ∷ codes "clipped" ∷ signed_decimal found.0.x ∷ signed_decimal found.0.y ∷ type_name sys found.1 ∷ []

-- the words of a line on local determinism that is a no
abbrev failed_words : List ℕ → Site → List ℕ → List (List ℕ)
failed_words condition m what = codes "unique" ∷ codes "no" ∷ condition ∷ signed_decimal m.x ∷ signed_decimal m.y ∷ what ∷ []

abbrev verdict_words : TileSystem → Verdict → List (List ℕ)
verdict_words sys Yes = codes "unique" ∷ codes "yes" ∷ []
verdict_words sys (NotExact m sum) = failed_words (codes "1") m (decimal sum)
verdict_words sys (Rival m t) = failed_words (codes "2") m (type_name sys t)
verdict_words sys (NotTerminal m t) = failed_words (codes "3") m (type_name sys t)

-- the words and the items of the lines behind the places
abbrev if_any : {X Y : Type 0} → (X → Y) → Option X → List Y
if_any f None = []
if_any f (Some x) = f x ∷ []

near_small : (z : ℤ) → int_le (negsuc 1000001) z ≡ true → int_le z (pos 1000002) ≡ true → nat_abs z < 10 ^ 10
near_small (pos n) low high = let most : n ≤ 1000002 = leb-true n 1000002 high in omega (arith, most)
near_small (negsuc n) low high = let most : n ≤ 1000001 = leb-true n 1000001 low in omega (arith, most)

get_seam : (done : List Place) (p : Place) (todo : List Place) → slice_get (done ++ p ∷ todo) (length done) ≡ Some p
get_seam [] p todo = refl
get_seam (q ∷ done) p todo = get_seam done p todo

module _ (sys : TileSystem) (valid : IsValid sys) where
  spelled_place : (p : Place) → IsType sys p.tile → InBox sys.area p.site → IsSpelled (place_words sys p)
  spelled_place p typed inside =
      let plain = plain_seed sys.area p valid.box inside in
      let named = named_seed sys p valid.type_names valid.distinct_types typed in
      let a : length (signed_decimal p.site.x) ≤ 11 = plain.x.short in
      let b : length (signed_decimal p.site.y) ≤ 11 = plain.y.short in
      let few : length (type_name sys p.tile) ≤ 40 = name_short (type_name sys p.tile) named.named in
      record {
        parts = All-from_recursion IsWord (place_words sys p) (keyword_word (codes "place") (omega arith) refl, (plain.x.word, (plain.y.word, (name_word (type_name sys p.tile) named.named, tt))));
        short = simp length-append (omega (arith, a, b, few));
        kept = refl;
      }

  -- the coordinates of a site near the box
  near_site : (m : Site) → IsNearSite m → (IsWord (signed_decimal m.x) × (length (signed_decimal m.x) ≤ 11)) × (IsWord (signed_decimal m.y) × (length (signed_decimal m.y) ≤ 11))
  near_site m near =
      let x = near_small m.x (le_z (negsuc 1000001) m.x near.left) (le_z m.x (pos 1000002) near.right) in
      let y = near_small m.y (le_z (negsuc 1000001) m.y near.bottom) (le_z m.y (pos 1000002) near.top) in
      ((IsWord-signed m.x x, length-signed m.x x), (IsWord-signed m.y y, length-signed m.y y))

  -- the name of a type
  pub typed_name : (t : TypeId) → IsType sys t → IsWord (type_name sys t) × (length (type_name sys t) ≤ 40)
  typed_name t typed =
      let p : Place = record { site = record { x = pos 0; y = pos 0 }; tile = t } in
      let named = named_seed sys p valid.type_names valid.distinct_types typed in
      (name_word (type_name sys t) named.named, name_short (type_name sys t) named.named)

  -- the name of a type is one
  pub named_type : (t : TypeId) → IsType sys t → (name : List ℕ) → type_name sys t ≡ name → is_name name ≡ true
  named_type t typed name same =
      let p : Place = record { site = record { x = pos 0; y = pos 0 }; tile = t } in
      ap is_name (sym same) ∙ (named_seed sys p valid.type_names valid.distinct_types typed).named

  spelled_closed : (found : Option (Site × TypeId)) → MayBeOpen sys found → IsSpelled (closed_words sys found)
  spelled_closed None h = record {
    parts = All-from_recursion IsWord (codes "closed" ∷ codes "terminal" ∷ []) (keyword_word (codes "closed") (omega arith) refl, (keyword_word (codes "terminal") (omega arith) refl, tt));
    short = omega arith;
    kept = refl;
  }
  spelled_closed (Some found) h =
      let near = near_site found.0 h.1 in
      let name = typed_name found.1 h.0 in
      let a : length (signed_decimal found.0.x) ≤ 11 = near.0.1 in
      let b : length (signed_decimal found.0.y) ≤ 11 = near.1.1 in
      let few : length (type_name sys found.1) ≤ 40 = name.1 in
      record {
        parts = All-from_recursion IsWord (closed_words sys (Some found)) (keyword_word (codes "closed") (omega arith) refl, (keyword_word (codes "clipped") (omega arith) refl, (near.0.0, (near.1.0, (name.0, tt)))));
        short = simp length-append (omega (arith, a, b, few));
        kept = refl;
      }

  spelled_failed : (condition : List ℕ) (m : Site) (what : List ℕ) → IsWord condition → length condition ≤ 1 → IsNearSite m → IsWord what → length what ≤ 40 → IsSpelled (failed_words condition m what)
  spelled_failed condition m what numbered one near word few =
      let at = near_site m near in
      let a : length (signed_decimal m.x) ≤ 11 = at.0.1 in
      let b : length (signed_decimal m.y) ≤ 11 = at.1.1 in
      record {
        parts = All-from_recursion IsWord (failed_words condition m what) (keyword_word (codes "unique") (omega arith) refl, (keyword_word (codes "no") (omega arith) refl, (numbered, (at.0.0, (at.1.0, (word, tt))))));
        short = simp length-append (omega (arith, a, b, one, few));
        kept = refl;
      }

  spelled_verdict : (verdict : Verdict) → MayBeTold sys verdict → IsSpelled (verdict_words sys verdict)
  spelled_verdict Yes h = record {
    parts = All-from_recursion IsWord (codes "unique" ∷ codes "yes" ∷ []) (keyword_word (codes "unique") (omega arith) refl, (keyword_word (codes "yes") (omega arith) refl, tt));
    short = omega arith;
    kept = refl;
  }
  spelled_verdict (NotExact m sum) h =
      let small : sum < 10 ^ 10 = (let low = h.1 in omega (arith, low)) in
      let digits : length (decimal sum) ≤ 10 = length-decimal sum small in
      spelled_failed (codes "1") m (decimal sum) (keyword_word (codes "1") (omega arith) refl) (omega arith) h.0 (IsWord-decimal sum small) (omega (arith, digits))
  spelled_verdict (Rival m t) h = let name = typed_name t h.1 in spelled_failed (codes "2") m (type_name sys t) (keyword_word (codes "2") (omega arith) refl) (omega arith) h.0 name.0 name.1
  spelled_verdict (NotTerminal m t) h = let name = typed_name t h.1 in spelled_failed (codes "3") m (type_name sys t) (keyword_word (codes "3") (omega arith) refl) (omega arith) h.0 name.0 name.1

  -- the words of all lines
  abbrev end_words : Option (Option (Site × TypeId)) → Option Verdict → List (List (List ℕ))
  end_words closed verdict = if_any (closed_words sys) closed ++ if_any (verdict_words sys) verdict

  abbrev words_for : List Place → Option (Option (Site × TypeId)) → Option Verdict → List (List (List ℕ))
  words_for places closed verdict = map (place_words sys) places ++ end_words closed verdict

  end_spelled : (closed : Option (Option (Site × TypeId))) (verdict : Option Verdict) → IfSome closed (MayBeOpen sys) → IfSome verdict (MayBeTold sys) → All IsSpelled (end_words closed verdict)
  end_spelled None None c v = All-nil IsSpelled
  end_spelled None (Some verdict) c v = All-from_recursion IsSpelled (verdict_words sys verdict ∷ []) (spelled_verdict verdict v, tt)
  end_spelled (Some found) None c v = All-from_recursion IsSpelled (closed_words sys found ∷ []) (spelled_closed found c, tt)
  end_spelled (Some found) (Some verdict) c v = All-from_recursion IsSpelled (closed_words sys found ∷ verdict_words sys verdict ∷ []) (spelled_closed found c, (spelled_verdict verdict v, tt))

  all_spelled : (places : List Place) (closed : Option (Option (Site × TypeId))) (verdict : Option Verdict) → All (λ p. IsType sys p.tile) places → All (λ p. InBox sys.area p.site) places → IfSome closed (MayBeOpen sys) → IfSome verdict (MayBeTold sys) →
      All IsSpelled (words_for places closed verdict)
  all_spelled [] closed verdict types sites c v = end_spelled closed verdict c v
  all_spelled (p ∷ places) closed verdict types sites c v =
      All-cons IsSpelled (place_words sys p) (words_for places closed verdict)
      (spelled_place p (All-head (λ p. IsType sys p.tile) p places types) (All-head (λ p. InBox sys.area p.site) p places sites))
      (all_spelled places closed verdict (All-tail (λ p. IsType sys p.tile) p places types) (All-tail (λ p. InBox sys.area p.site) p places sites) c v)

  closed_is : (found : Option (Site × TypeId)) → closed_line sys found ≡ line_of (closed_words sys found)
  closed_is None = refl
  closed_is (Some found) = refl

  verdict_is : (verdict : Verdict) → verdict_line sys verdict ≡ line_of (verdict_words sys verdict)
  verdict_is Yes = refl
  verdict_is (NotExact m sum) = refl
  verdict_is (Rival m t) = refl
  verdict_is (NotTerminal m t) = refl

  end_are : (closed : Option (Option (Site × TypeId))) (verdict : Option Verdict) → line_or_none (closed_line sys) closed ++ line_or_none (verdict_line sys) verdict ≡ flat_map line_of (end_words closed verdict)
  end_are None None = refl
  end_are None (Some verdict) = verdict_is verdict ∙ sym (append-nil (line_of (verdict_words sys verdict)))
  end_are (Some found) None = ap (λ l. l ++ []) (closed_is found)
  end_are (Some found) (Some verdict) = ap (λ l. l ++ verdict_line sys verdict) (closed_is found) ∙ ap (λ l. line_of (closed_words sys found) ++ l) (verdict_is verdict ∙ sym (append-nil (line_of (verdict_words sys verdict))))

  places_are : (places : List Place) (rest : List (List (List ℕ))) → place_lines sys places ++ flat_map line_of rest ≡ flat_map line_of (map (place_words sys) places ++ rest)
  places_are [] rest = refl
  places_are (p ∷ places) rest = append_assoc (line_of (place_words sys p)) (place_lines sys places) (flat_map line_of rest) ∙ ap (λ l. line_of (place_words sys p) ++ l) (places_are places rest)

  lines_are : (places : List Place) (closed : Option (Option (Site × TypeId))) (verdict : Option Verdict) → growth_lines sys places closed verdict ≡ flat_map line_of (words_for places closed verdict)
  lines_are places closed verdict =
      append_assoc (place_lines sys places) (line_or_none (closed_line sys) closed) (line_or_none (verdict_line sys) verdict) ∙ ap (λ l. place_lines sys places ++ l) (end_are closed verdict) ∙ places_are places (end_words closed verdict)

  free_before : (distinct : Bool) (done todo : List Place) (p : Place) → (distinct ≡ true → HasDistinctSites (done ++ p ∷ todo)) → may_stand distinct done p.site ≡ true
  free_before false done todo p h = refl
  free_before true done todo p h =
      let Empty : List Place → Type 0 = λ l. tile_at l p.site ≡ None in
      let there : slice_get (done ++ p ∷ todo) (length done) ≡ Some p = get_seam done p todo in
      let empty = subst Empty (take_at done (p ∷ todo) (length done) refl) (distinct-empty (done ++ p ∷ todo) (length done) p (h refl) there) in
      ap is_none empty

  place_checks : (distinct : Bool) (done : List Place) (p : Place) → IsType sys p.tile → InBox sys.area p.site → may_stand distinct (places_of (map placed_item done)) p.site ≡ true →
      (growth_format distinct sys).check (map placed_item done) (place_words sys p) ≡ Ok (placed_item p)
  unfolding growth_table place_in place_field site_field
  place_checks distinct done p typed inside free =
      let plain = plain_seed sys.area p valid.box inside in
      let named = named_seed sys p valid.type_names valid.distinct_types typed in
      rw (follows_places distinct sys done, plain.x.reads, plain.y.reads, named.named, named.placed, inside_passes sys.area p.site inside, free) refl

  closed_checks : (distinct : Bool) (done : List Place) (found : Option (Site × TypeId)) → (growth_format distinct sys).check (map placed_item done) (closed_words sys found) ≡ Ok closed_item
  unfolding growth_table
  closed_checks distinct done None = rw (follows_places distinct sys done) refl
  closed_checks distinct done (Some found) = rw (follows_places distinct sys done) refl

  verdict_checks : (distinct : Bool) (before : List GrowthItem) (verdict : Verdict) → (row_of distinct sys kinds.Unique).may_follow (last_of before) ≡ true → (growth_format distinct sys).check before (verdict_words sys verdict) ≡ Ok unique_item
  unfolding growth_table
  verdict_checks distinct before Yes follows = rw follows refl
  verdict_checks distinct before (NotExact m sum) follows = rw follows refl
  verdict_checks distinct before (Rival m t) follows = rw follows refl
  verdict_checks distinct before (NotTerminal m t) follows = rw follows refl

  abbrev end_items : Option (Option (Site × TypeId)) → Option Verdict → List GrowthItem
  end_items closed verdict = if_any (λ _. closed_item) closed ++ if_any (λ _. unique_item) verdict

  end_check : (distinct : Bool) (done : List Place) (closed : Option (Option (Site × TypeId))) (verdict : Option Verdict) → ChecksAs (growth_format distinct sys) (map placed_item done) (end_words closed verdict) (end_items closed verdict)
  unfolding growth_table
  end_check distinct done None None = tt
  end_check distinct done None (Some verdict) = (verdict_checks distinct (map placed_item done) verdict (unique_follows distinct sys done), refl, tt)
  end_check distinct done (Some found) None = (closed_checks distinct done found, refl, tt)
  end_check distinct done (Some found) (Some verdict) = (closed_checks distinct done found, refl, (verdict_checks distinct (map placed_item done ++ closed_item ∷ []) verdict (unique_follows_closed distinct sys done), refl, tt))

  all_check : (distinct : Bool) (todo done : List Place) (closed : Option (Option (Site × TypeId))) (verdict : Option Verdict) → All (λ p. IsType sys p.tile) (done ++ todo) → All (λ p. InBox sys.area p.site) (done ++ todo) → (distinct ≡ true → HasDistinctSites (done ++ todo)) →
      ChecksAs (growth_format distinct sys) (map placed_item done) (words_for todo closed verdict) (map placed_item todo ++ end_items closed verdict)
  unfolding growth_table
  all_check distinct [] done closed verdict types sites differ = end_check distinct done closed verdict
  all_check distinct (p ∷ todo) done closed verdict types sites differ =
      let whole : (done ++ p ∷ []) ++ todo ≡ done ++ p ∷ todo = append_assoc done (p ∷ []) todo in
      let typed = at_seam (λ p. IsType sys p.tile) done p todo types in
      let inside = at_seam (λ p. InBox sys.area p.site) done p todo sites in
      let Free : List Place → Type 0 = λ l. may_stand distinct l p.site ≡ true in
      let free = subst Free (sym (places_back done)) (free_before distinct done todo p differ) in
      let Next : List GrowthItem → Type 0 = λ l. ChecksAs (growth_format distinct sys) l (words_for todo closed verdict) (map placed_item todo ++ end_items closed verdict) in
      let Differ : List Place → Type 0 = λ l. distinct ≡ true → HasDistinctSites l in
      let next = all_check distinct todo (done ++ p ∷ []) closed verdict (subst (All (λ p. IsType sys p.tile)) (sym whole) types) (subst (All (λ p. InBox sys.area p.site)) (sym whole) sites) (subst Differ (sym whole) differ) in
      (place_checks distinct done p typed inside free, refl, subst Next (map_push placed_item done p) next)

  items_places : (places : List Place) (closed : Option (Option (Site × TypeId))) (verdict : Option Verdict) → places_of (map placed_item places ++ end_items closed verdict) ≡ places
  items_places places None None = ap places_of (append-nil (map placed_item places)) ∙ places_back places
  items_places places None (Some verdict) = places-same (map placed_item places) unique_item refl ∙ places_back places
  items_places places (Some found) None = places-same (map placed_item places) closed_item refl ∙ places_back places
  items_places places (Some found) (Some verdict) =
      ap places_of (sym (append_assoc (map placed_item places) (closed_item ∷ []) (unique_item ∷ []))) ∙ places-same (map placed_item places ++ closed_item ∷ []) unique_item refl ∙ places-same (map placed_item places) closed_item refl ∙ places_back places

  -- the printed lines read as the places, to the end of the text
  pub printed_reads : (distinct : Bool) (places : List Place) (closed : Option (Option (Site × TypeId))) (verdict : Option Verdict) (text : List ℕ) (from : Mark) → MayBePrinted sys places closed verdict → (distinct ≡ true → HasDistinctSites places) →
      drop from.at text ≡ growth_lines sys places closed verdict → ReadsPlaces distinct sys text from places
  unfolding growth_table
  printed_reads distinct places closed verdict text from may differ e =
      let format = growth_format distinct sys in
      let lines = words_for places closed verdict in
      let items = map placed_item places ++ end_items closed verdict in
      let spelled = all_spelled places closed verdict may.fits.types may.fits.sites may.open_site may.told in
      let whole : lines_from text from ≡ map spelled_line lines =
      ap lines_of (e ∙ lines_are places closed verdict ∙ sym (append-nil (flat_map line_of lines))) ∙ lines_of-spelling lines [] spelled ∙ ap (λ l. map spelled_line lines ++ l) lines-nil ∙ append-nil (map spelled_line lines) in
      let passed = passes format (map spelled_line lines) items (passes_spelled format [] lines items spelled (all_check distinct places [] closed verdict may.fits.types may.fits.sites differ)) in
      record {
        items = items;
        to = mark_after (lines_from text from) from (length (lines_from text from));
        reads = inr (record { passed = subst (λ l. Passes format l items) (sym whole) passed; complete = refl; place = refl });
        places_are = sym (items_places places closed verdict);
      }

-- behind its system's text
pub behind_text : (version : Version) (sys : TileSystem) (tail : List ℕ) → drop (0 + length (spelling_by version sys)) (spelling_by version sys ++ tail) ≡ tail
behind_text version sys tail = drop_at (spelling_by version sys) tail (0 + length (spelling_by version sys)) (omega arith)

pub behind_system : (sys : TileSystem) (tail : List ℕ) → drop (0 + length (spelling sys)) (spelling sys ++ tail) ≡ tail
behind_system sys tail = behind_text (version_of sys) sys tail
