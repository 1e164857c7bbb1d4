-- A `mark` line in its plain form reads as its entry.
use Rattle.std.proofs.Common.{◌≡◌, ℕ, ◌+◌, ◌-◌, ◌^◌, ◌≤◌, ◌<◌, ◌==◌, true, List, [], ◌∷◌, ◌++◌, length, codes, pos, Option, Some, None, Ok, refl, sym, ap, subst, ◌∙◌, append_assoc, length-append, arith}
use Rattle.std.specs.Prelude.{nat_abs, int_le, is_none, find, bytes_eq, position, ok_or}
use Rattle.std.proofs.lemmas.Bool.{le-leb}
use Rattle.std.proofs.lemmas.List.Quantifiers.{position-Some}
use Rattle.std.proofs.lemmas.List.Elements.{All-from_recursion}
use Rattle.std.proofs.lemmas.Slice.Eq.{bytes_eq-Decides}
use Rattle.tile_io.specs.declared.fault.Cause.TheVariants.{BadName}
use Rattle.tile_io.specs.Lines.{words_of, BeginsWithLine}
use Rattle.tile_io.specs.Checks.{◌>>=◌, are_digits, number_in, number_value, without_minus, check_line, field, count_in}
use Rattle.tile_io.specs.FrontDigits.{StartsWithDigits}
use Rattle.tile_io.proofs.Checking.{bind_ok}
use Rattle.tile_io.proofs.Digits.{number_within, unsigned}
use Rattle.tile_io.proofs.Rows.{check_line_by}
use Rattle.tile_io.proofs.Spelled.{IsWord, IsSpelled, words_of-join, begins_spelled}
use Rattle.atam.specs.declared.site.Site.{Site}
use Rattle.atam.specs.declared.place.TypeId.{TypeId}
use Rattle.atam.specs.Placements.{tile_at}
use Rattle.atam.specs.TileSystem.{TileSystem, is_name}
use Rattle.tile_system.specs.Names.{type_named}
use Rattle.tile_text.specs.Fields.{site_field, place_field}
use Rattle.tile_text.specs.SystemText.{is_in_box}
use Rattle.tile_text.proofs.PlainWords.{keyword_word, name_word, name_short}
use Rattle.seq_text.specs.GrowthText.{names_of}
use Rattle.seq_text.proofs.Fields.{place_of_found}
use Rattle.seq_text.proofs.PlainLines.{number_word, number_short}
use Rattle.cert_check.specs.declared.entry.Entry.{Entry}
use Rattle.cert_check.specs.Certificates.{places_of}
use Rattle.cert_text.specs.CertificateLines.{side_words}
use Rattle.cert_text.specs.CertificateText.{mark_row, certificate_table}
use Rattle.cert_text.specs.Inner.Plain.{IsPlainMark, BeginsPlain}
use Rattle.cert_text.proofs.SidesWords.{sides_word, sides_field, sides_told}

found_by : (o : Option ℕ) (n : ℕ) → ok_or o BadName ≡ Ok n → o ≡ Some n
found_by None n e = absurd (cc e)
found_by (Some m) n e = let same : m ≡ n = cc e in ap (λ k. Some k) same

-- a field of sides that reads is one short word
sides_are_word : (word : List ℕ) (sides : ℕ) → sides_field word ≡ Ok sides → IsWord word × (length word ≤ 4)
sides_are_word word sides e =
    let found = position-Some (bytes_eq word) side_words sides [] (found_by (position (bytes_eq word) side_words) sides e) in
    let same : word ≡ sides_word sides = (bytes_eq-Decides word (sides_word sides)).0 found.1 in
    let below : sides < 16 = found.0 in
    let told = sides_told sides below in
    let Short : List ℕ → Type 0 = λ w. IsWord w × (length w ≤ 4) in
    subst Short (sym same) (told.word, told.short)

-- so is a rank
rank_is_word : (word : List ℕ) (rank : ℕ) → count_in 0 4294967295 word ≡ Ok rank → IsWord word × (length word ≤ 11)
rank_is_word word rank e =
    let one = bind_ok (number_in (pos 0) (pos 4294967295) word) (λ n. Ok (nat_abs n)) rank e in
    (number_word (pos 0) (pos 4294967295) word one.0 one.1, number_short (pos 0) (pos 4294967295) word one.0 one.1)

module _ (line : List ℕ) (m : Site) (name sides rank : List ℕ) (plain : IsPlainMark line m name sides rank) where
  -- its words
  line_words : List (List ℕ)
  line_words = codes "mark" ∷ plain.column ∷ plain.row ∷ name ∷ sides ∷ rank ∷ []

  -- where its fields read
  record AreFields : Type 0 where
    named : is_name name ≡ true
    sides_read : IsWord sides × (length sides ≤ 4)
    rank_read : IsWord rank × (length rank ≤ 11)

  plain_spelled : AreFields → IsSpelled line_words
  unfolding line_words
  plain_spelled h =
      let x : length plain.column ≤ 11 = number_short _ _ plain.column m.x plain.x in
      let y : length plain.row ≤ 11 = number_short _ _ plain.row m.y plain.y in
      let few : length name ≤ 40 = name_short name h.named in
      let sides_few : length sides ≤ 4 = h.sides_read.1 in
      let rank_few : length rank ≤ 11 = h.rank_read.1 in
      record {
        parts = All-from_recursion IsWord line_words (keyword_word (codes "mark") (omega arith) refl, (number_word _ _ plain.column m.x plain.x, (number_word _ _ plain.row m.y plain.y, (name_word name h.named, (h.sides_read.0, (h.rank_read.0, tt))))));
        short = simp length-append (omega (arith, x, y, few, sides_few, rank_few));
        kept = refl;
      }

  plain_words : AreFields → words_of line ≡ codes "mark" ∷ plain.column ∷ plain.row ∷ name ∷ sides ∷ rank ∷ []
  unfolding line_words
  plain_words h = ap words_of plain.spelled ∙ words_of-join line_words (plain_spelled h).parts

  -- what stands in front of the newline behind it
  plain_begins : (text behind : List ℕ) → AreFields → text ≡ line ++ 10 ∷ behind → BeginsWithLine text line
  unfolding line_words
  plain_begins text behind h whole =
      let Begins : List ℕ → Type 0 = λ l. BeginsWithLine text l in
      subst Begins (sym plain.spelled) (begins_spelled text behind line_words (whole ∙ ap (λ l. l ++ 10 ∷ behind) plain.spelled) (plain_spelled h))

  -- and its site
  plain_site : site_field plain.column plain.row ≡ Ok m
  unfolding site_field
  plain_site = rw (plain.x, plain.y) refl

-- the words of a `mark` line that passes its checks, with this entry
pub record IsMarkLine (sys : TileSystem) (earlier : List Entry) (words : List (List ℕ)) (e : Entry) : Type 0 where
  pub count : length words ≡ 6
  pub keyword : field words 0 ≡ codes "mark"
  pub reads : (mark_row sys).fields earlier words ≡ Ok e

-- a text begins with a `mark` line that passes its checks, and it has so many bytes with its newline
pub record BeginsWithMark (sys : TileSystem) (earlier : List Entry) (text : List ℕ) (e : Entry) (count : ℕ) : Type 0 where
  pub line : List ℕ
  pub begins : BeginsWithLine text line
  pub count_is : count ≡ length line + 1
  pub mark : IsMarkLine sys earlier (words_of line) e

-- the checks of a `mark` line in its plain form
module _ (sys : TileSystem) (earlier : List Entry) (m : Site) (name sides rank : List ℕ) (t : TypeId) (s r : ℕ) (named : is_name name ≡ true) (found : type_named sys.types name ≡ Some t.0) (of_sides : sides_field sides ≡ Ok s)
    (of_rank : count_in 0 4294967295 rank ≡ Ok r) (inside : is_in_box sys.area m ≡ true) (free : is_none (tile_at (places_of earlier) m) ≡ true) where
  entry : Entry
  entry = record { place = record { site = m; tile = t }; sides = s; rank = r }

  fields : (line : List ℕ) (plain : IsPlainMark line m name sides rank) → AreFields line m name sides rank plain
  fields line plain = record { named = named; sides_read = sides_are_word sides s of_sides; rank_read = rank_is_word rank r of_rank }

  plain_line : (line : List ℕ) → IsPlainMark line m name sides rank → IsMarkLine sys earlier (words_of line) entry
  unfolding entry
  plain_line line plain =
      let Reads : List (List ℕ) → Type 0 = λ words. IsMarkLine sys earlier words entry in
      let read : place_field (names_of sys) plain.column plain.row name ≡ Ok entry.place =
      place_of_found sys plain.column plain.row name t named found ∙ ap (λ o. o >>= (λ n. Ok (record { site = n; tile = t }))) (plain_site line m name sides rank plain) in
      subst Reads (sym (plain_words line m name sides rank plain (fields line plain))) (record { count = refl; keyword = refl; reads = rw (read, of_sides, of_rank, inside, free) refl })

-- and those of one at the front of a text
pub plain_front : (sys : TileSystem) (earlier : List Entry) (m : Site) (name sides : List ℕ) (t : TypeId) (s r : ℕ) → is_name name ≡ true → type_named sys.types name ≡ Some t.0 → sides_field sides ≡ Ok s →
    is_in_box sys.area m ≡ true → is_none (tile_at (places_of earlier) m) ≡ true → (text : List ℕ) (count : ℕ) → BeginsPlain text m name sides r count →
    BeginsWithMark sys earlier text (record { place = record { site = m; tile = t }; sides = s; rank = r }) count
unfolding entry
plain_front sys earlier m name sides t s r named found of_sides inside free text count h =
    let read = fields sys earlier m name sides h.last t s r named found of_sides h.rank_read inside free h.line h.plain in
    record {
      line = h.line;
      begins = plain_begins h.line m name sides h.last h.plain text h.behind read h.whole;
      count_is = h.count_is;
      mark = plain_line sys earlier m name sides h.last t s r named found of_sides h.rank_read inside free h.line h.plain;
    }

-- a rank and a newline behind the other fields
module _ (text : List ℕ) (m : Site) (name sides fields rank behind : List ℕ) (plain : IsPlainMark text m name sides fields) (cut : fields ≡ rank ++ 10 ∷ behind) where
  front_line : List ℕ
  front_line = codes "mark" ++ 32 ∷ (plain.column ++ 32 ∷ (plain.row ++ 32 ∷ (name ++ 32 ∷ (sides ++ 32 ∷ rank))))

  front_whole : text ≡ front_line ++ 10 ∷ behind
  unfolding front_line
  front_whole = plain.spelled ∙ ap (λ l. codes "mark" ++ 32 ∷ (plain.column ++ 32 ∷ (plain.row ++ 32 ∷ (name ++ 32 ∷ (sides ++ 32 ∷ l))))) cut ∙ simp append_assoc refl

  front_size : length text ≡ length front_line + 1 + length behind
  front_size = let whole : length text ≡ length front_line + length (10 ∷ behind) = ap length front_whole ∙ length-append front_line (10 ∷ behind) in omega (arith, whole)

  -- end the line
  pub front_begins : (r : ℕ) → count_in 0 4294967295 rank ≡ Ok r → BeginsPlain text m name sides r (length text - length behind)
  unfolding front_line
  front_begins r read =
      let size : length text ≡ length front_line + 1 + length behind = front_size in
      record {
        line = front_line;
        behind = behind;
        last = rank;
        plain = record { column = plain.column; row = plain.row; spelled = refl; x = plain.x; y = plain.y };
        whole = front_whole;
        count_is = omega (arith, size);
        rank_read = read;
      }

  pub front_within : length behind ≤ length text
  front_within = let size : length text ≡ length front_line + 1 + length behind = front_size in omega (arith, size)

-- so few digits read as a rank
pub rank_reads : (bytes rest : List ℕ) (rank : ℕ) (h : StartsWithDigits 10 8 bytes rank rest) → rank < 10 ^ 8 → count_in 0 4294967295 h.word ≡ Ok rank
rank_reads bytes rest rank h small =
    let no_minus = unsigned h.word h.digits in
    let digits : are_digits (without_minus h.word) ≡ true = rw no_minus h.digits in
    let value : number_value h.word ≡ pos rank = rw no_minus (ap (λ n. pos n) h.value) in
    let high : int_le (pos rank) (pos 4294967295) ≡ true = le-leb rank 4294967295 (omega (arith, small)) in
    let read : number_in (pos 0) (pos 4294967295) h.word ≡ Ok (pos rank) = number_within _ _ h.word (pos rank) digits value (le-leb 0 rank (omega arith)) high in
    ap (λ n. n >>= (λ z. Ok (nat_abs z))) read

-- a `mark` line that passes its checks is taken as its entry
pub mark_taken : (sys : TileSystem) (items : List Entry) (words : List (List ℕ)) (e : Entry) → IsMarkLine sys items words e → check_line (certificate_table sys).keywords items words ≡ Ok e
unfolding certificate_table
mark_taken sys items words e line =
    let keywords = (certificate_table sys).keywords in
    let row = mark_row sys in
    let Found : List ℕ → Type 0 = λ word. Some row ≡ find (λ r. bytes_eq word r.word) keywords in
    let found : Some row ≡ find (λ r. bytes_eq (field words 0) r.word) keywords = subst Found (sym line.keyword) refl in
    let some : 0 < length words = omega (arith, line.count) in
    let count : (length words == 6) ≡ true = rw line.count refl in
    check_line_by keywords row items words some found count refl refl ∙ line.reads
