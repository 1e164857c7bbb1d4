-- A `place` line in its plain form reads as its place.
use Rattle.std.proofs.Common.{◌≡◌, ℕ, zero, suc, ◌+◌, ◌-◌, ◌^◌, ◌≤◌, ◌<◌, ◌==◌, Bool, true, false, cond, List, [], ◌∷◌, ◌++◌, length, codes, pos, Option, Some, Ok, refl, sym, ap, subst, ◌∙◌, append_assoc, length-append, arith}
use Rattle.std.specs.Prelude.{ℤ, neg_ℤ, int_le, find, bytes_eq, option_map, slice_index}
use Rattle.std.proofs.lemmas.Bool.{eqb-true, le-leb}
use Rattle.std.proofs.lemmas.List.Elements.{All-cons, All-from_recursion}
use Rattle.tile_io.specs.declared.fault.Cause.TheVariants.{BadNumber}
use Rattle.tile_io.specs.Lines.{words_of, BeginsWithLine}
use Rattle.tile_io.specs.FrontDigits.{StartsWithDigits, HasNoDigits}
use Rattle.tile_io.specs.Checks.{◌>>=◌, require, is_digit, are_digits, without_minus, number_in, number_value, check_line, field, last_of}
use Rattle.tile_io.proofs.Checking.{bind_ok, require_ok}
use Rattle.tile_io.proofs.Cuts.{is_space, is_newline}
use Rattle.tile_io.proofs.Digits.{in_range, digits_parts, number_within, unsigned}
use Rattle.tile_io.proofs.Spelled.{IsWord, IsSpelled, words_of-join, begins_spelled}
use Rattle.tile_io.proofs.WordsSpelled.{word_from}
use Rattle.atam.specs.declared.site.Site.{Site}
use Rattle.atam.specs.TileSystem.{is_name}
use Rattle.atam.specs.declared.place.TypeId.{TypeId}
use Rattle.atam.specs.declared.place.Place.{Place}
use Rattle.atam.specs.TileSystem.{TileSystem}
use Rattle.tile_system.specs.Names.{type_named}
use Rattle.tile_io.proofs.Rows.{check_line_by}
use Rattle.tile_text.specs.Fields.{site_field, place_field}
use Rattle.tile_text.specs.SystemText.{is_in_box}
use Rattle.seq_text.specs.declared.kind.LineKind.{LineKind}
use Rattle.seq_text.specs.declared.kind.LineKind.TheVariants as kinds
use Rattle.seq_text.proofs.Scratch.{placed_item, places_of, may_stand}
use Rattle.seq_text.specs.GrowthText.{GrowthItem, growth_table, place_in, names_of}
use Rattle.seq_text.specs.Inner.Kinds.{kind_word, may_stand_after, row_of}
use Rattle.seq_text.proofs.Fields.{place_of_found}
use Rattle.seq_text.proofs.Growths.{row_named, follows_kind}
use Rattle.tile_text.proofs.PlainWords.{keyword_word, name_word, name_short}
use Rattle.seq_text.specs.PlainCoordinates.{StartsWithCoordinate}
use Rattle.seq_text.specs.Inner.Plain.{IsPlainPlace, BeginsPlain}

-- a number of few digits is a coordinate
pub plain_number : (bytes rest : List ℕ) (size : ℕ) → StartsWithDigits 32 6 bytes size rest → size < 10 ^ 6 → StartsWithCoordinate bytes (pos size) rest
plain_number bytes rest size h small =
    let no_minus = unsigned h.word h.digits in
    let digits : are_digits (without_minus h.word) ≡ true = rw no_minus h.digits in
    let value : number_value h.word ≡ pos size = rw no_minus (ap (λ n. pos n) h.value) in
    let few : length (without_minus h.word) ≤ 6 = rw no_minus h.few in
    record { word = h.word; cut = h.cut; few = few; reads = number_within _ _ h.word (pos size) digits value refl (le-leb size 1000000 (omega (arith, small))) }

minus_low : (size : ℕ) → size < 10 ^ 6 → int_le (neg_ℤ (pos 1000000)) (neg_ℤ (pos size)) ≡ true
minus_low zero small = refl
minus_low (suc n) small = le-leb n 999999 (omega (arith, small))

minus_high : (size : ℕ) → int_le (neg_ℤ (pos size)) (pos 1000000) ≡ true
minus_high zero = refl
minus_high (suc n) = refl

-- so is its opposite
pub minus_number : (digits rest : List ℕ) (size : ℕ) → StartsWithDigits 32 6 digits size rest → size < 10 ^ 6 → StartsWithCoordinate (45 ∷ digits) (neg_ℤ (pos size)) rest
minus_number digits rest size h small = record {
  word = 45 ∷ h.word;
  cut = ap (λ l. 45 ∷ l) h.cut;
  few = h.few;
  reads = number_within _ _ (45 ∷ h.word) (neg_ℤ (pos size)) h.digits (ap (λ n. neg_ℤ (pos n)) h.value) (minus_low size small) (minus_high size);
}

digits_word : (word : List ℕ) → are_digits word ≡ true → IsWord word
digits_word word e = let p = digits_parts word e in word_from is_digit word refl refl (let some : 1 ≤ length word = p.0 in omega (arith, some)) p.2

number_word_by : (b : ℕ) (bs : List ℕ) (minus : Bool) → (b == 45) ≡ minus → are_digits (cond minus bs (b ∷ bs)) ≡ true → IsWord (b ∷ bs)
number_word_by b bs true e digits =
    let h = digits_word bs digits in
    let Word : ℕ → Type 0 = λ a. IsWord (a ∷ bs) in
    subst Word (sym (eqb-true b 45 e)) (record {
      some = omega arith;
      no_space = All-cons (λ c. is_space c ≡ false) 45 bs refl h.no_space;
      no_newline = All-cons (λ c. is_newline c ≡ false) 45 bs refl h.no_newline;
    })
number_word_by b bs false e digits = digits_word (b ∷ bs) digits

number_digits : (least most : ℤ) (word : List ℕ) (z : ℤ) → number_in least most word ≡ Ok z → are_digits (without_minus word) ≡ true
unfolding number_in
number_digits least most word z e =
    let one = bind_ok (require (are_digits (without_minus word)) BadNumber) (λ _. in_range least most (number_value word)) z e in
    require_ok (are_digits (without_minus word)) BadNumber one.0 one.1

module _ (bytes : List ℕ) (none : HasNoDigits 32 6 bytes) where
  no_minus_by : (word rest : List ℕ) → 45 ∷ bytes ≡ word ++ 32 ∷ rest → are_digits (without_minus word) ≡ true → length (without_minus word) ≤ 6 → ⊥
  no_minus_by [] rest cut digits few = absurd (cc digits)
  no_minus_by (b ∷ bs) rest cut digits few =
      let whole : 45 ∷ bytes ≡ b ∷ (bs ++ 32 ∷ rest) = cut in
      let first : b ≡ 45 = cc whole in
      let behind : bytes ≡ bs ++ 32 ∷ rest = cc whole in
      let same : without_minus (45 ∷ bs) ≡ without_minus (b ∷ bs) = ap (λ c. without_minus (c ∷ bs)) (sym first) in
      let short : length (without_minus (b ∷ bs)) ≤ 6 = few in
      let size : length bs ≡ length (without_minus (b ∷ bs)) = ap length same in
      none bs rest behind (ap are_digits same ∙ digits) (omega (arith, size, short))

  no_number_by : (word rest : List ℕ) → (slice_index bytes 0 == 45) ≡ false → bytes ≡ word ++ 32 ∷ rest → are_digits (without_minus word) ≡ true → length (without_minus word) ≤ 6 → ⊥
  no_number_by [] rest plus cut digits few = absurd (cc digits)
  no_number_by (b ∷ bs) rest plus cut digits few =
      let other : (b == 45) ≡ false = ap (λ l. slice_index l 0 == 45) (sym cut) ∙ plus in
      let same : without_minus (b ∷ bs) ≡ b ∷ bs = rw other refl in
      let short : length (without_minus (b ∷ bs)) ≤ 6 = few in
      let size : length (b ∷ bs) ≡ length (without_minus (b ∷ bs)) = ap length (sym same) in
      none (b ∷ bs) rest cut (ap are_digits (sym same) ∙ digits) (omega (arith, size, short))

  -- no coordinate where no digits are, behind a minus or without one
  pub no_minus : (z : ℤ) (rest : List ℕ) → StartsWithCoordinate (45 ∷ bytes) z rest → ⊥
  no_minus z rest h = no_minus_by h.word rest h.cut (number_digits _ _ h.word z h.reads) h.few

  pub no_number : (slice_index bytes 0 == 45) ≡ false → (z : ℤ) (rest : List ℕ) → StartsWithCoordinate bytes z rest → ⊥
  no_number plus z rest h = no_number_by h.word rest plus h.cut (number_digits _ _ h.word z h.reads) h.few

-- a number field that reads is one word
pub number_word : (least most : ℤ) (word : List ℕ) (z : ℤ) → number_in least most word ≡ Ok z → IsWord word
number_word least most [] z e = let none = number_digits least most [] z e in absurd (cc none)
number_word least most (b ∷ bs) z e = number_word_by b bs (b == 45) refl (number_digits least most (b ∷ bs) z e)

number_short_by : (b : ℕ) (bs : List ℕ) (minus : Bool) → (b == 45) ≡ minus → are_digits (cond minus bs (b ∷ bs)) ≡ true → length (b ∷ bs) ≤ 11
number_short_by b bs true e digits = let few : length bs ≤ 10 = (digits_parts bs digits).1 in omega (arith, few)
number_short_by b bs false e digits = let few : length (b ∷ bs) ≤ 10 = (digits_parts (b ∷ bs) digits).1 in omega (arith, few)

-- and the word is short
pub number_short : (least most : ℤ) (word : List ℕ) (z : ℤ) → number_in least most word ≡ Ok z → length word ≤ 11
number_short least most [] z e = omega arith
number_short least most (b ∷ bs) z e = number_short_by b bs (b == 45) refl (number_digits least most (b ∷ bs) z e)

module _ (line : List ℕ) (m : Site) (name : List ℕ) (plain : IsPlainPlace line m name) where
  -- its words
  place_words : List (List ℕ)
  place_words = codes "place" ∷ plain.column ∷ plain.row ∷ name ∷ []

  plain_spelled : is_name name ≡ true → IsSpelled place_words
  unfolding place_words
  plain_spelled named =
      let x : length plain.column ≤ 11 = number_short _ _ plain.column m.x plain.x in
      let y : length plain.row ≤ 11 = number_short _ _ plain.row m.y plain.y in
      let few : length name ≤ 40 = name_short name named in
      record {
        parts = All-from_recursion IsWord place_words (keyword_word (codes "place") (omega arith) refl, (number_word _ _ plain.column m.x plain.x, (number_word _ _ plain.row m.y plain.y, (name_word name named, tt))));
        short = simp length-append (omega (arith, x, y, few));
        kept = refl;
      }

  pub plain_words : is_name name ≡ true → words_of line ≡ codes "place" ∷ plain.column ∷ plain.row ∷ name ∷ []
  unfolding place_words
  plain_words named = ap words_of plain.spelled ∙ words_of-join place_words (plain_spelled named).parts

  -- what stands in front of the newline behind it
  pub plain_begins : (text behind : List ℕ) → is_name name ≡ true → text ≡ line ++ 10 ∷ behind → BeginsWithLine text line
  unfolding place_words
  plain_begins text behind named whole =
      let Begins : List ℕ → Type 0 = λ l. BeginsWithLine text l in
      subst Begins (sym plain.spelled) (begins_spelled text behind place_words (whole ∙ ap (λ l. l ++ 10 ∷ behind) plain.spelled) (plain_spelled named))

  -- and its site
  pub plain_site : site_field plain.column plain.row ≡ Ok m
  unfolding site_field
  plain_site = rw (plain.x, plain.y) refl

-- the words of a `place` line that passes its checks, with this place
pub record IsPlaceLine (distinct : Bool) (sys : TileSystem) (earlier : List Place) (words : List (List ℕ)) (p : Place) : Type 0 where
  pub count : length words ≡ 4
  pub keyword : field words 0 ≡ codes "place"
  pub reads : place_in distinct sys earlier words ≡ Ok p

-- a text begins with a `place` line that passes its checks after each list of places where it may stand, and it has so many bytes with its newline
pub record BeginsWithPlace (distinct : Bool) (sys : TileSystem) (text : List ℕ) (p : Place) (count : ℕ) : Type 0 where
  pub line : List ℕ
  pub begins : BeginsWithLine text line
  pub count_is : count ≡ length line + 1
  pub place : (earlier : List Place) → may_stand distinct earlier p.site ≡ true → IsPlaceLine distinct sys earlier (words_of line) p

-- the checks of a `place` line in its plain form
pub plain_line : (distinct : Bool) (sys : TileSystem) (earlier : List Place) (line : List ℕ) (m : Site) (name : List ℕ) (t : TypeId) → IsPlainPlace line m name → is_name name ≡ true → type_named sys.types name ≡ Some t.0 →
    is_in_box sys.area m ≡ true → may_stand distinct earlier m ≡ true → IsPlaceLine distinct sys earlier (words_of line) (record { site = m; tile = t })
unfolding place_in
plain_line distinct sys earlier line m name t plain named found inside free =
    let p : Place = record { site = m; tile = t } in
    let Reads : List (List ℕ) → Type 0 = λ words. IsPlaceLine distinct sys earlier words p in
    let read : place_field (names_of sys) plain.column plain.row name ≡ Ok p =
    place_of_found sys plain.column plain.row name t named found ∙ ap (λ s. s >>= (λ n. Ok (record { site = n; tile = t }))) (plain_site line m name plain) in
    subst Reads (sym (plain_words line m name plain named)) (record { count = refl; keyword = refl; reads = rw (read, inside, free) refl })

-- and those of one at the front of a text
pub plain_front : (distinct : Bool) (sys : TileSystem) (text : List ℕ) (m : Site) (name : List ℕ) (count : ℕ) (t : TypeId) → BeginsPlain text m name count → is_name name ≡ true →
    type_named sys.types name ≡ Some t.0 → is_in_box sys.area m ≡ true → BeginsWithPlace distinct sys text (record { site = m; tile = t }) count
plain_front distinct sys text m name count t h named found inside = record {
  line = h.line;
  begins = plain_begins h.line m name h.plain text h.behind named h.whole;
  count_is = h.count_is;
  place = λ earlier free. plain_line distinct sys earlier h.line m name t h.plain named found inside free;
}

-- a name and a newline behind the coordinates
module _ (text : List ℕ) (m : Site) (fields name behind : List ℕ) (plain : IsPlainPlace text m fields) (cut : fields ≡ name ++ 10 ∷ behind) where
  front_line : List ℕ
  front_line = codes "place" ++ 32 ∷ (plain.column ++ 32 ∷ (plain.row ++ 32 ∷ name))

  front_whole : text ≡ front_line ++ 10 ∷ behind
  unfolding front_line
  front_whole = plain.spelled ∙ ap (λ l. codes "place" ++ 32 ∷ (plain.column ++ 32 ∷ (plain.row ++ 32 ∷ l))) cut ∙ simp append_assoc refl

  -- end the line
  front_size : length text ≡ length front_line + 1 + length behind
  front_size = let whole : length text ≡ length front_line + length (10 ∷ behind) = ap length front_whole ∙ length-append front_line (10 ∷ behind) in omega (arith, whole)

  pub front_begins : BeginsPlain text m name (length text - length behind)
  unfolding front_line
  front_begins =
      let size : length text ≡ length front_line + 1 + length behind = front_size in
      record {
        line = front_line;
        behind = behind;
        plain = record { column = plain.column; row = plain.row; spelled = refl; x = plain.x; y = plain.y };
        whole = front_whole;
        count_is = omega (arith, size);
      }

  pub front_within : length behind ≤ length text
  front_within = let size : length text ≡ length front_line + 1 + length behind = front_size in omega (arith, size)

module _ (distinct : Bool) (sys : TileSystem) (last : Option LineKind) (items : List GrowthItem) (kind : option_map kind_word last ≡ option_map (λ item. item.0) (last_of items)) where
  -- a `place` line that passes its checks is taken as its place
  pub place_taken : (words : List (List ℕ)) (p : Place) → IsPlaceLine distinct sys (places_of items) words p → may_stand_after kinds.Place last ≡ true → check_line (growth_table distinct sys).keywords items words ≡ Ok (placed_item p)
  unfolding growth_table
  place_taken words p line stands =
      let keywords = (growth_table distinct sys).keywords in
      let row = row_of distinct sys kinds.Place in
      let Found : List ℕ → Type 0 = λ word. Some row ≡ find (λ r. bytes_eq word r.word) keywords in
      let found : Some row ≡ find (λ r. bytes_eq (field words 0) r.word) keywords = subst Found (sym line.keyword) (row_named distinct sys (codes "place")) in
      let some : 0 < length words = omega (arith, line.count) in
      let count : (length words == 4) ≡ true = rw line.count refl in
      let read : place_in distinct sys (places_of items) words ≡ Ok p = line.reads in
      check_line_by keywords row items words some found count (sym (follows_kind distinct sys kinds.Place last (last_of items) kind) ∙ stands) refl ∙ rw read refl
