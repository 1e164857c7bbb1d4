-- Lines that are made piece by piece, and how long they get.
use Rattle.std.proofs.Common.{◌≡◌, ◌≤◌, ℕ, ◌+◌, List, [], ◌∷◌, ◌++◌, length, length-append, flat_map, codes, append_assoc, refl, ap, ◌∙◌, arith}
use Rattle.std.specs.Fmt.{digits}
use Rattle.tile_io.specs.Lines.{line_of}
use Rattle.tile_text.specs.declared.version.Version.TheVariants.{One}
use Rattle.tile_text.specs.Inner.Words.{head_words}

pub longer : (new old piece : List ℕ) → new ≡ old ++ piece → length new ≡ length old + length piece
longer new old piece added = ap length added ∙ length-append old piece

-- a text that begins with a keyword and a name
pub named_length : (a b c keyword name : List ℕ) (n : ℕ) → a ≡ [] → b ≡ a ++ keyword → c ≡ b ++ name → length name ≤ n → length c ≤ length keyword + n
named_length a b c keyword name n is_a is_b is_c short =
    let none : length a ≡ 0 = ap length is_a in
    let first = longer b a keyword is_b in
    let second = longer c b name is_c in
    omega (arith, none, first, second, short)

pub head_line : codes "tiles 1\ntau 2\n" ≡ flat_map line_of (head_words One 2)
unfolding digits
head_line = refl

pub label_made : (a b c d e f : List ℕ) (name strength : List ℕ) → a ≡ [] → b ≡ a ++ codes "glue " → c ≡ b ++ name → d ≡ c ++ 32 ∷ [] → e ≡ d ++ strength → f ≡ e ++ 10 ∷ [] →
    f ≡ line_of (codes "glue" ∷ name ∷ strength ∷ [])
label_made a b c d e f name strength is_a is_b is_c is_d is_e is_f = rw (is_f, is_e, is_d, is_c, is_b, is_a) (simp append_assoc)

pub kind_made : (a b c d e f g h : List ℕ) (name north east south west : List ℕ) → a ≡ [] → b ≡ a ++ codes "tile " → c ≡ b ++ name → d ≡ c ++ 32 ∷ north → e ≡ d ++ 32 ∷ east →
    f ≡ e ++ 32 ∷ south → g ≡ f ++ 32 ∷ west → h ≡ g ++ 10 ∷ [] → h ≡ line_of (codes "tile" ∷ name ∷ north ∷ east ∷ south ∷ west ∷ [])
kind_made a b c d e f g h name north east south west is_a is_b is_c is_d is_e is_f is_g is_h = rw (is_h, is_g, is_f, is_e, is_d, is_c, is_b, is_a) (simp append_assoc)

pub seed_made : (a b c d : List ℕ) (name : List ℕ) → a ≡ [] → b ≡ a ++ codes "seed 0 0 " → c ≡ b ++ name → d ≡ c ++ 10 ∷ [] → d ≡ line_of (codes "seed" ∷ codes "0" ∷ codes "0" ∷ name ∷ [])
seed_made a b c d name is_a is_b is_c is_d = rw (is_d, is_c, is_b, is_a) (simp append_assoc)
