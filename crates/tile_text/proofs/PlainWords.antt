-- A spelling's words are words, its numbers read back, and its lines are short.
use Rattle.std.proofs.Common.{◌≡◌, ℕ, ◌^◌, ◌≤◌, ◌<◌, true, List, [], ◌∷◌, length, codes, decimal, pos, Option, Some, None, Ok, refl, arith, length-append}
use Rattle.std.specs.Prelude.{ℤ, negsuc, nat_abs, int_le, IfSome, nat_le, ◌==◌, ◌&&◌, ◌≤ℤ◌}
use Rattle.std.specs.Fmt.{signed_decimal}
use Rattle.std.specs.List.{list_all}
use Rattle.std.proofs.lemmas.Bool.{leb-true}
use Rattle.std.proofs.lemmas.List.Elements.{All-from_recursion}
use Rattle.std.proofs.lemmas.Int.{ints}
use Rattle.tile_io.specs.Checks.{coordinate}
use Rattle.tile_io.proofs.Spelled.{IsWord, IsSpelled}
use Rattle.tile_io.proofs.WordsSpelled.{word_from, IsWord-decimal, IsWord-signed, length-decimal, length-signed}
use Rattle.atam.specs.declared.area.BoxArea.{BoxArea}
use Rattle.atam.specs.declared.place.GlueId.{GlueId}
use Rattle.atam.specs.declared.place.GluePair.{GluePair}
use Rattle.atam.specs.declared.place.Place.{Place}
use Rattle.atam.specs.declared.site.Side.{Side}
use Rattle.atam.specs.declared.site.Side.TheVariants.{North, East, South, West}
use Rattle.atam.specs.Sites.{InBox, IsBox}
use Rattle.atam.specs.TileSystem.{TileSystem, Glue, TileType, IsName, IsPair, IsValid, side_of, glue_name, type_name, is_name, is_name_byte}
use Rattle.tile_text.specs.declared.version.Version.{Version}
use Rattle.tile_text.specs.declared.version.Version.TheVariants.{One, Two}
use Rattle.tile_text.specs.SystemText.{version_word}
use Rattle.tile_text.specs.Spelling.{side_word}
use Rattle.tile_text.specs.Inner.Words.{glue_words, pair_words, tile_words, box_words, seed_words}
use Rattle.tile_text.proofs.Names.{named_glue}
use Rattle.tile_io.proofs.PassedFields.{and_both}
use Rattle.tile_text.proofs.Boxes.{le_z}
use Rattle.tile_text.proofs.LinesSpelled.{coordinate-spelled}

small_abs : (z : ℤ) → int_le (negsuc 999999) z ≡ true → int_le z (pos 1000000) ≡ true → nat_abs z < 10 ^ 10
small_abs (pos n) low high = let most : n ≤ 1000000 = leb-true n 1000000 high in omega (arith, most)
small_abs (negsuc n) low high = let most : n ≤ 999999 = leb-true n 999999 low in omega (arith, most)

-- a number that may stand in a text
pub record IsPlain (z : ℤ) : Type 0 where
  pub reads : coordinate (signed_decimal z) ≡ Ok z
  pub word : IsWord (signed_decimal z)
  pub short : length (signed_decimal z) ≤ 11

plain : (z : ℤ) → negsuc 999999 ≤ℤ z → z ≤ℤ pos 1000000 → IsPlain z
plain z low high =
    let least = le_z (negsuc 999999) z low in
    let most = le_z z (pos 1000000) high in
    let small = small_abs z least most in
    record { reads = coordinate-spelled z least most small; word = IsWord-signed z small; short = length-signed z small }

z_trans : (a b d : ℤ) → a ≤ℤ b → b ≤ℤ d → a ≤ℤ d
z_trans a b d low high = omega (arith, ints)

pub record PlainBox (area : BoxArea) : Type 0 where
  pub x0 : IsPlain area.x0
  pub y0 : IsPlain area.y0
  pub x1 : IsPlain area.x1
  pub y1 : IsPlain area.y1

pub plain_box : (area : BoxArea) → IsBox area → PlainBox area
plain_box area box =
    let c = box.corners in
    record {
      x0 = plain area.x0 c.left (z_trans area.x0 area.x1 (pos 1000000) c.columns c.right);
      y0 = plain area.y0 c.bottom (z_trans area.y0 area.y1 (pos 1000000) c.rows c.top);
      x1 = plain area.x1 (z_trans (negsuc 999999) area.x0 area.x1 c.left c.columns) c.right;
      y1 = plain area.y1 (z_trans (negsuc 999999) area.y0 area.y1 c.bottom c.rows) c.top;
    }

pub record PlainSeed (seed : Place) : Type 0 where
  pub x : IsPlain seed.site.x
  pub y : IsPlain seed.site.y

pub plain_seed : (area : BoxArea) (seed : Place) → IsBox area → InBox area seed.site → PlainSeed seed
plain_seed area seed box inside =
    let c = box.corners in
    record {
      x = plain seed.site.x (z_trans (negsuc 999999) area.x0 seed.site.x c.left inside.left) (z_trans seed.site.x area.x1 (pos 1000000) inside.right c.right);
      y = plain seed.site.y (z_trans (negsuc 999999) area.y0 seed.site.y c.bottom inside.bottom) (z_trans seed.site.y area.y1 (pos 1000000) inside.top c.top);
    }

pub name_word : (name : List ℕ) → is_name name ≡ true → IsWord name
unfolding is_name
name_word name good =
    let outer = and_both (nat_le 1 (length name) && nat_le (length name) 40) (list_all is_name_byte name) good in
    let inner = and_both (nat_le 1 (length name)) (nat_le (length name) 40) outer.0 in
    let some : 1 ≤ length name = leb-true 1 (length name) inner.0 in
    word_from is_name_byte name refl refl (omega (arith, some)) outer.1

pub name_short : (name : List ℕ) → is_name name ≡ true → length name ≤ 40
unfolding is_name
name_short name good =
    let outer = and_both (nat_le 1 (length name) && nat_le (length name) 40) (list_all is_name_byte name) good in
    let inner = and_both (nat_le 1 (length name)) (nat_le (length name) 40) outer.0 in
    leb-true (length name) 40 inner.1

dash_word : IsWord (codes "-")
dash_word = word_from (λ b. b == 45) (codes "-") refl refl (omega arith) refl

pub keyword_word : (word : List ℕ) → 0 < length word → list_all is_name_byte word ≡ true → IsWord word
keyword_word word some all = word_from is_name_byte word refl refl some all

-- the words of a spelling are short
record IsShortWord (word : List ℕ) : Type 0 where
  word_is : IsWord word
  short : length word ≤ 40

short_side : (sys : TileSystem) (g : Option GlueId) → IsValid sys → IfSome g (λ g. g.0 < length sys.glues) → IsShortWord (side_word sys g)
unfolding side_word
short_side sys None valid below = record { word_is = dash_word; short = omega arith }
short_side sys (Some g) valid below =
    let good = (named_glue sys g valid.glue_names valid.distinct_glues below).named in
    record { word_is = name_word (glue_name sys g) good; short = name_short (glue_name sys g) good }

pub spelled_glue : (g : Glue) → IsName g.name → g.strength ≤ 250 → IsSpelled (glue_words g)
spelled_glue g named weak =
    let small : g.strength < 10 ^ 10 = omega (arith, weak) in
    let few : length g.name ≤ 40 = name_short g.name named in
    let digits : length (decimal g.strength) ≤ 10 = length-decimal g.strength small in
    record {
      parts = All-from_recursion IsWord (glue_words g) (keyword_word (codes "glue") (omega arith) refl, (name_word g.name named, (IsWord-decimal g.strength small, tt)));
      short = simp length-append (omega (arith, few, digits));
      kept = refl;
    }

pub spelled_pair : (sys : TileSystem) (p : GluePair) → IsValid sys → IsPair sys.glues p → IsSpelled (pair_words sys p)
spelled_pair sys p valid is =
    let first = (named_glue sys p.first valid.glue_names valid.distinct_glues is.first).named in
    let second = (named_glue sys p.second valid.glue_names valid.distinct_glues is.second).named in
    let weak : p.strength ≤ 250 = is.strength in
    let small : p.strength < 10 ^ 10 = omega (arith, weak) in
    let first_short : length (glue_name sys p.first) ≤ 40 = name_short (glue_name sys p.first) first in
    let second_short : length (glue_name sys p.second) ≤ 40 = name_short (glue_name sys p.second) second in
    let digits : length (decimal p.strength) ≤ 10 = length-decimal p.strength small in
    record {
      parts = All-from_recursion IsWord (pair_words sys p) (keyword_word (codes "pair") (omega arith) refl, (name_word (glue_name sys p.first) first, (name_word (glue_name sys p.second) second, (IsWord-decimal p.strength small, tt))));
      short = simp length-append (omega (arith, first_short, second_short, digits));
      kept = refl;
    }

pub spelled_tile : (sys : TileSystem) (t : TileType) → IsValid sys → IsName t.name → ((d : Side) → IfSome (side_of t d) (λ g. g.0 < length sys.glues)) → IsSpelled (tile_words sys t)
spelled_tile sys t valid named sides =
    let n = short_side sys t.north valid (sides North) in
    let e = short_side sys t.east valid (sides East) in
    let s = short_side sys t.south valid (sides South) in
    let w = short_side sys t.west valid (sides West) in
    let few : length t.name ≤ 40 = name_short t.name named in
    let n_short : length (side_word sys t.north) ≤ 40 = n.short in
    let e_short : length (side_word sys t.east) ≤ 40 = e.short in
    let s_short : length (side_word sys t.south) ≤ 40 = s.short in
    let w_short : length (side_word sys t.west) ≤ 40 = w.short in
    record {
      parts = All-from_recursion IsWord (tile_words sys t) (keyword_word (codes "tile") (omega arith) refl, (name_word t.name named, (n.word_is, (e.word_is, (s.word_is, (w.word_is, tt))))));
      short = simp length-append (omega (arith, few, n_short, e_short, s_short, w_short));
      kept = refl;
    }

pub spelled_box : (area : BoxArea) → PlainBox area → IsSpelled (box_words area)
spelled_box area p =
    let a : length (signed_decimal area.x0) ≤ 11 = p.x0.short in
    let b : length (signed_decimal area.y0) ≤ 11 = p.y0.short in
    let d : length (signed_decimal area.x1) ≤ 11 = p.x1.short in
    let e : length (signed_decimal area.y1) ≤ 11 = p.y1.short in
    record {
      parts = All-from_recursion IsWord (box_words area) (keyword_word (codes "box") (omega arith) refl, (p.x0.word, (p.y0.word, (p.x1.word, (p.y1.word, tt)))));
      short = simp length-append (omega (arith, a, b, d, e));
      kept = refl;
    }

pub spelled_seed : (sys : TileSystem) (seed : Place) → PlainSeed seed → IsName (type_name sys seed.tile) → IsSpelled (seed_words sys seed)
spelled_seed sys seed p named =
    let a : length (signed_decimal seed.site.x) ≤ 11 = p.x.short in
    let b : length (signed_decimal seed.site.y) ≤ 11 = p.y.short in
    let few : length (type_name sys seed.tile) ≤ 40 = name_short (type_name sys seed.tile) named in
    record {
      parts = All-from_recursion IsWord (seed_words sys seed) (keyword_word (codes "seed") (omega arith) refl, (p.x.word, (p.y.word, (name_word (type_name sys seed.tile) named, tt))));
      short = simp length-append (omega (arith, a, b, few));
      kept = refl;
    }

pub spelled_tau : (tau : ℕ) → tau ≤ 1000 → IsSpelled (codes "tau" ∷ decimal tau ∷ [])
spelled_tau tau high =
    let small : tau < 10 ^ 10 = omega (arith, high) in
    let digits : length (decimal tau) ≤ 10 = length-decimal tau small in
    record {
      parts = All-from_recursion IsWord (codes "tau" ∷ decimal tau ∷ []) (keyword_word (codes "tau") (omega arith) refl, (IsWord-decimal tau small, tt));
      short = simp length-append (omega (arith, digits));
      kept = refl;
    }

pub spelled_header : (version : Version) → IsSpelled (codes "tiles" ∷ version_word version ∷ [])
spelled_header One = record {
  parts = All-from_recursion IsWord (codes "tiles" ∷ codes "1" ∷ []) (keyword_word (codes "tiles") (omega arith) refl, (keyword_word (codes "1") (omega arith) refl, tt));
  short = omega arith;
  kept = refl;
}
spelled_header Two = record {
  parts = All-from_recursion IsWord (codes "tiles" ∷ codes "2" ∷ []) (keyword_word (codes "tiles") (omega arith) refl, (keyword_word (codes "2") (omega arith) refl, tt));
  short = omega arith;
  kept = refl;
}

pub spelled_end : IsSpelled (codes "end" ∷ [])
spelled_end = record { parts = All-from_recursion IsWord (codes "end" ∷ []) (keyword_word (codes "end") (omega arith) refl, tt); short = omega arith; kept = refl }
