-- What is printed of a certificate reads as its entries, behind its system's text too.
use Rattle.std.proofs.Common.{◌≡◌, ◌^◌, ℕ, ◌+◌, ◌≤◌, ◌<◌, List, [], ◌∷◌, ◌++◌, length, map, drop, get_or, slice_get, codes, decimal, All, Some, None, Ok, inr, refl, sym, ap, subst, ◌∙◌, append_assoc, length-append, arith}
use Rattle.std.specs.Prelude.{flat_map, pos}
use Rattle.std.specs.Fmt.{signed_decimal}
use Rattle.std.proofs.Math.Seq.{get_or-append_seam, take-append_seam}
use Rattle.std.proofs.lemmas.Option.{slice_get-get_or}
use Rattle.std.proofs.lemmas.List.{append-nil, map-append}
use Rattle.std.proofs.lemmas.List.Elements.{All-nil, All-cons, All-head, All-tail, All-map, All-from_recursion}
use Rattle.tile_io.specs.declared.mark.Mark.{Mark}
use Rattle.tile_io.specs.Checks.{number_in}
use Rattle.tile_io.specs.Lines.{first_mark, lines_of, lines_from, line_of, mark_after}
use Rattle.tile_io.specs.Formats.{Passes}
use Rattle.tile_io.proofs.Cuts.{lines-nil}
use Rattle.tile_io.proofs.NumberSpelled.{number_in-decimal}
use Rattle.tile_io.proofs.Passing.{passes}
use Rattle.tile_io.proofs.Spelled.{IsWord, IsSpelled, ChecksAs, spelled_line, lines_of-spelling, passes_spelled}
use Rattle.tile_io.proofs.WordsSpelled.{IsWord-decimal, length-decimal}
use Rattle.atam.specs.declared.place.Place.{Place}
use Rattle.atam.specs.Sites.{InBox}
use Rattle.atam.specs.Placements.{HasDistinctSites, tile_at}
use Rattle.atam.specs.TileSystem.{TileSystem, IsValid, IsType, type_name}
use Rattle.atam.proofs.Placements.{distinct-empty}
use Rattle.tile_text.specs.declared.version.Version.{Version}
use Rattle.tile_text.specs.Fields.{site_field, place_field}
use Rattle.tile_text.specs.Spelling.{end_of_print}
use Rattle.tile_text.specs.SystemText.{IsSystemOf}
use Rattle.tile_text.proofs.Boxes.{inside_passes}
use Rattle.tile_text.proofs.Names.{named_seed, at_seam}
use Rattle.tile_text.proofs.PlainWords.{plain_seed, name_word, name_short, keyword_word}
use Rattle.tile_text.proofs.SystemSpelled.{printed_any}
use Rattle.seq_text.proofs.Printed.{behind_text}
use Rattle.cert_check.specs.declared.entry.Entry.{Entry}
use Rattle.cert_check.specs.Certificates.{places_of}
use Rattle.cert_text.specs.CertificateLines.{mark_lines, mark_line}
use Rattle.cert_text.specs.CertificateText.{certificate_table, certificate_format, ReadsCertificate}
use Rattle.cert_text.specs.PrintedCertificates.{MayBePrinted, ReadsBack, printed_input}
use Rattle.cert_text.proofs.SidesWords.{sides_word, sides_told}

abbrev entry_words : TileSystem → Entry → List (List ℕ)
entry_words sys e = codes "mark" ∷ signed_decimal e.place.site.x ∷ signed_decimal e.place.site.y ∷ type_name sys e.place.tile ∷ sides_word e.sides ∷ decimal e.rank ∷ []

-- what may be printed of an entry
record MayBeMarked (sys : TileSystem) (e : Entry) : Type 0 where
  kind : IsType sys e.place.tile
  inside : InBox sys.area e.place.site
  sides : e.sides < 16
  rank : e.rank ≤ 4294967295

-- in a list with distinct sites, a place's site is empty before it
free_before : (done todo : List Place) (p : Place) → HasDistinctSites (done ++ p ∷ todo) → tile_at done p.site ≡ None
free_before done todo p distinct =
    let whole = done ++ p ∷ todo in
    let n = length done in
    let size : length whole ≡ n + length (p ∷ todo) = length-append done (p ∷ todo) in
    let there : slice_get whole n ≡ Some p = slice_get-get_or whole n p (omega (arith, size)) ∙ ap (λ q. Some q) (get_or-append_seam done p todo p) in
    ap (λ l. tile_at l p.site) (sym (take-append_seam done (p ∷ todo))) ∙ distinct-empty whole n p distinct there

module _ (sys : TileSystem) (valid : IsValid sys) where
  lines_are : (c : List Entry) → mark_lines sys c ≡ flat_map line_of (map (entry_words sys) c)
  lines_are [] = refl
  lines_are (e ∷ c) = ap (λ l. mark_line sys e ++ l) (lines_are c)

  each_marked : (c : List Entry) → All (λ p. IsType sys p.tile) (places_of c) → All (λ p. InBox sys.area p.site) (places_of c) → All (λ e. e.sides < 16) c → All (λ e. e.rank ≤ 4294967295) c → All (MayBeMarked sys) c
  each_marked [] types sites sides ranks = All-nil (MayBeMarked sys)
  each_marked (e ∷ c) types sites sides ranks =
      let others = places_of c in
      let Kind : Place → Type 0 = λ p. IsType sys p.tile in
      let Inside : Place → Type 0 = λ p. InBox sys.area p.site in
      let Sides : Entry → Type 0 = λ e. e.sides < 16 in
      let Rank : Entry → Type 0 = λ e. e.rank ≤ 4294967295 in
      All-cons (MayBeMarked sys) e c (record {
        kind = All-head Kind e.place others types;
        inside = All-head Inside e.place others sites;
        sides = All-head Sides e c sides;
        rank = All-head Rank e c ranks;
      }) (each_marked c (All-tail Kind e.place others types) (All-tail Inside e.place others sites) (All-tail Sides e c sides) (All-tail Rank e c ranks))

  spelled_mark : (e : Entry) → MayBeMarked sys e → IsSpelled (entry_words sys e)
  spelled_mark e may =
      let plain = plain_seed sys.area e.place valid.box may.inside in
      let named = named_seed sys e.place valid.type_names valid.distinct_types may.kind in
      let told = sides_told e.sides may.sides in
      let low : e.rank ≤ 4294967295 = may.rank in
      let small : e.rank < 10 ^ 10 = omega (arith, low) in
      let a : length (signed_decimal e.place.site.x) ≤ 11 = plain.x.short in
      let b : length (signed_decimal e.place.site.y) ≤ 11 = plain.y.short in
      let few : length (type_name sys e.place.tile) ≤ 40 = name_short (type_name sys e.place.tile) named.named in
      let letters : length (sides_word e.sides) ≤ 4 = told.short in
      let digits : length (decimal e.rank) ≤ 10 = length-decimal e.rank small in
      record {
        parts = All-from_recursion IsWord (entry_words sys e) (keyword_word (codes "mark") (omega arith) refl, (plain.x.word, (plain.y.word, (name_word (type_name sys e.place.tile) named.named, (told.word, (IsWord-decimal e.rank small, tt))))));
        short = simp length-append (omega (arith, a, b, few, letters, digits));
        kept = refl;
      }

  mark_checks : (done : List Entry) (e : Entry) → MayBeMarked sys e → tile_at (places_of done) e.place.site ≡ None → (certificate_format sys).check done (entry_words sys e) ≡ Ok e
  unfolding certificate_table place_field site_field
  mark_checks done e may free =
      let plain = plain_seed sys.area e.place valid.box may.inside in
      let named = named_seed sys e.place valid.type_names valid.distinct_types may.kind in
      let told = sides_told e.sides may.sides in
      let low : e.rank ≤ 4294967295 = may.rank in
      let rank : number_in (pos 0) (pos 4294967295) (decimal e.rank) ≡ Ok (pos e.rank) = number_in-decimal 0 4294967295 e.rank (omega arith) low (omega arith) in
      rw (plain.x.reads, plain.y.reads, named.named, named.placed, told.reads, rank, inside_passes sys.area e.place.site may.inside, free) refl

  all_check : (todo done : List Entry) → All (MayBeMarked sys) (done ++ todo) → HasDistinctSites (places_of (done ++ todo)) → ChecksAs (certificate_format sys) done (map (entry_words sys) todo) todo
  unfolding certificate_table
  all_check [] done may distinct = tt
  all_check (e ∷ todo) done may distinct =
      let whole : (done ++ e ∷ []) ++ todo ≡ done ++ e ∷ todo = append_assoc done (e ∷ []) todo in
      let Distinct : List Entry → Type 0 = λ l. HasDistinctSites (places_of l) in
      let parts : places_of (done ++ e ∷ todo) ≡ places_of done ++ e.place ∷ places_of todo = map-append (λ (f : Entry). f.place) done (e ∷ todo) in
      let free = free_before (places_of done) (places_of todo) e.place (subst HasDistinctSites parts distinct) in
      (mark_checks done e (at_seam (MayBeMarked sys) done e todo may) free, refl, all_check todo (done ++ e ∷ []) (subst (All (MayBeMarked sys)) (sym whole) may) (subst Distinct (sym whole) distinct))

  -- the printed lines read as the entries, to the end of the text
  pub printed_reads : (c : List Entry) (text : List ℕ) (from : Mark) → MayBePrinted sys c → drop from.at text ≡ mark_lines sys c → ReadsCertificate sys text from c
  unfolding certificate_table
  printed_reads c text from may e =
      let format = certificate_format sys in
      let lines = map (entry_words sys) c in
      let each = each_marked c may.fits.types may.fits.sites may.known.sides may.ranks in
      let spelled : All IsSpelled lines = All-map IsSpelled (entry_words sys) c (λ k d l. spelled_mark (get_or c k d) (each k d l)) in
      let whole : lines_from text from ≡ map spelled_line lines =
      ap lines_of (e ∙ lines_are c ∙ sym (append-nil (flat_map line_of lines))) ∙ lines_of-spelling lines [] spelled ∙ ap (λ l. map spelled_line lines ++ l) lines-nil ∙ append-nil (map spelled_line lines) in
      let passed = passes format (map spelled_line lines) c (passes_spelled format [] lines c spelled (all_check c [] each may.known.distinct)) in
      record {
        to = mark_after (lines_from text from) from (length (lines_from text from));
        reads = inr (record { passed = subst (λ l. Passes format l c) (sym whole) passed; complete = refl; place = refl });
      }

  -- and behind the text of a version that has the system
  pub reads_back : (version : Version) → IsSystemOf version sys → (c : List Entry) → MayBePrinted sys c → ReadsBack version sys c
  reads_back version has c may =
      let text = printed_input version sys c in
      let lines = mark_lines sys c in
      record {
        system = printed_any version sys text lines first_mark valid has refl;
        entries = printed_reads c text (end_of_print version sys first_mark) may (behind_text version sys lines);
      }
