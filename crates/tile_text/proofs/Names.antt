-- The elements of a list differ: their names, the glues of pairs and the sites of seeds.
use Rattle.std.proofs.Common.{◌≡◌, ◌≢◌, ℕ, pos, ◌+◌, ◌≤◌, ◌<◌, Bool, true, false, List, [], ◌∷◌, ◌++◌, length, map, get_or, slice_get, Some, None, All, inl, inr, refl, sym, ap, subst, ◌∙◌, arith, length-append}
use Rattle.std.specs.Prelude.{bytes_eq, position, find, option_map, is_some, AllPairs, cond, ◌==◌, ◌&&◌, ◌||◌}
use Rattle.std.specs.List.{list_any, position_or_len}
use Rattle.std.specs.Option.{option_map_or}
use Rattle.std.proofs.Math.Seq.{get_or-append_seam}
use Rattle.std.proofs.lemmas.Bool.{lt-ltb}
use Rattle.std.proofs.lemmas.Bool.Decides.{nat_tests}
use Rattle.std.proofs.lemmas.Option.{none-some, slice_get-get_or}
use Rattle.std.proofs.lemmas.List.{get_or_append_left}
use Rattle.std.proofs.lemmas.List.Elements.{All-head, All-tail}
use Rattle.std.proofs.lemmas.List.Quantifiers.{position-Some}
use Rattle.std.proofs.lemmas.List.Folds.{list_any_none}
use Rattle.std.proofs.lemmas.List.Sums.{position_or_len_is}
use Rattle.std.proofs.lemmas.Slice.Eq.{bytes_eq-Decides}
use Rattle.atam.specs.declared.place.GlueId.{GlueId}
use Rattle.atam.specs.declared.place.GluePair.{GluePair}
use Rattle.atam.specs.declared.place.Place.{Place}
use Rattle.atam.specs.declared.place.TypeId.{TypeId}
use Rattle.atam.specs.declared.site.Site.{Site}
use Rattle.atam.specs.Sites.{same_site}
use Rattle.atam.specs.TileSystem.{TileSystem, Glue, TileType, IsName, IsType, glue_name, type_name, is_name, is_pair_of}
use Rattle.atam.proofs.Boxes.{same_site_tells}
use Rattle.tile_system.specs.Names.{glue_named, type_named}
use Rattle.tile_system.specs.Pairs.{paired_strength}
use Rattle.tile_system.specs.Seeds.{is_seeded}
use Rattle.tile_system.proofs.NamedLemmas.{bytes_tell}
use Rattle.tile_text.proofs.Built.{position_map}

-- names that differ
pub unlike : (xs ys : List ℕ) → xs ≢ ys → bytes_eq xs ys ≡ false
unlike xs ys other = elim (bytes_tell xs ys) [ inl same ↦ absurd (other same.1) | inr apart ↦ apart.0 ]

-- a name that a glue has is one
pub name_of_glue : (glues : List Glue) (wanted : List ℕ) (i : ℕ) → glue_named glues wanted ≡ Some i → All (λ g. IsName g.name) glues → is_name wanted ≡ true
name_of_glue [] wanted i is each = absurd (none-some i is)
name_of_glue (g ∷ glues) wanted i is each =
    let at = position-Some (λ y. bytes_eq wanted y.name) (g ∷ glues) i g is in
    let same : wanted ≡ (get_or (g ∷ glues) i g).name = (bytes_eq-Decides wanted (get_or (g ∷ glues) i g).name).0 at.1 in
    let Named : List ℕ → Type 0 = λ n. is_name n ≡ true in
    subst Named (sym same) (each i g at.0)

module _ {X : Type 0} where
  -- An element of a list, and those before it: what holds of all holds of it,
  pub at_seam : (P : X → Type 0) (done : List X) (x : X) (todo : List X) → All P (done ++ x ∷ todo) → P x
  at_seam P done x todo h =
      let size : length (done ++ x ∷ todo) ≡ length done + length (x ∷ todo) = length-append done (x ∷ todo) in
      subst P (get_or-append_seam done x todo x) (h (length done) x (omega (arith, size)))

  -- what holds of each two holds of each before it and of it,
  pub before_seam : (R : X → X → Type 0) (done : List X) (x : X) (todo : List X) → AllPairs R (done ++ x ∷ todo) → All (λ y. R y x) done
  before_seam R done x todo each k d l =
      let size : length (done ++ x ∷ todo) ≡ length done + length (x ∷ todo) = length-append done (x ∷ todo) in
      let low : length done < length (done ++ x ∷ todo) = omega (arith, size) in
      let whole = done ++ x ∷ todo in
      let First : X → Type 0 = λ y. R y (get_or whole (length done) d) in
      let Second : X → Type 0 = λ y. R (get_or done k d) y in
      subst Second (get_or-append_seam done x todo d) (subst First (get_or_append_left done (x ∷ todo) d k l) (each k (length done) d l low))

  -- and there are fewer of those before it
  pub before_count : (done : List X) (x : X) (todo : List X) (most : ℕ) → length (done ++ x ∷ todo) ≤ most → length done < most
  before_count done x todo most few = let size : length (done ++ x ∷ todo) ≡ length done + length (x ∷ todo) = length-append done (x ∷ todo) in omega (arith, size, few)

module _ {X : Type 0} (name : X → List ℕ) where
  any_name : (test : List ℕ → Bool) (xs : List X) → list_any test (map name xs) ≡ list_any (λ x. test (name x)) xs
  any_name test [] = refl
  any_name test (x ∷ xs) = ap (λ b. test (name x) || b) (any_name test xs)

  -- an element's name is none of those before it
  pub fresh_name : (done : List X) (x : X) (todo : List X) → AllPairs (λ a b. name a ≢ name b) (done ++ x ∷ todo) → list_any (bytes_eq (name x)) (map name done) ≡ false
  fresh_name done x todo distinct =
      any_name (bytes_eq (name x)) done
      ∙ list_any_none (λ y. bytes_eq (name x) (name y)) done
      (λ k d l. unlike (name x) (name (get_or done k d)) (λ same. before_seam (λ a b. name a ≢ name b) done x todo distinct k d l (sym same)))

  -- an element is the first with its name
  pub place_of : (xs : List X) (i : ℕ) (d : X) → AllPairs (λ a b. name a ≢ name b) xs → i < length xs → position (bytes_eq (name (get_or xs i d))) (map name xs) ≡ Some i
  place_of xs i d distinct l =
      let wanted = name (get_or xs i d) in
      let first : position_or_len (λ x. bytes_eq wanted (name x)) xs ≡ i =
      position_or_len_is (λ x. bytes_eq wanted (name x)) xs i d (omega (arith, l)) (λ k before. unlike wanted (name (get_or xs k d)) (λ same. distinct k i d before l (sym same)))
      (λ within. (bytes_eq-Decides wanted wanted).1 refl) in
      position_map name (bytes_eq wanted) xs ∙ rw (first, lt-ltb i (length xs) l) refl

either_way : (a b c d : ℕ) → ((a == c && b == d) || (a == d && b == c)) ≡ ((c == a && d == b) || (c == b && d == a))
either_way a b c d = grind (arith, nat_tests)

-- a pair is of the glues of none before it
same_pair : (p q : GluePair) → is_pair_of p q.first q.second ≡ false → is_pair_of q p.first p.second ≡ false
same_pair p q apart = either_way q.first.0 q.second.0 p.first.0 p.second.0 ∙ apart

unpaired : (pairs : List GluePair) (g h : GlueId) → All (λ q. is_pair_of q g h ≡ false) pairs → is_some (paired_strength pairs g h) ≡ false
unpaired [] g h none = refl
unpaired (q ∷ pairs) g h none =
    ap (λ b. is_some (option_map (λ p. p.strength) (cond b (Some q) (find (λ p. is_pair_of p g h) pairs)))) (All-head (λ q. is_pair_of q g h ≡ false) q pairs none)
    ∙ unpaired pairs g h (All-tail (λ q. is_pair_of q g h ≡ false) q pairs none)

pub fresh_pair : (done : List GluePair) (p : GluePair) (todo : List GluePair) → AllPairs (λ p q. is_pair_of q p.first p.second ≡ false) (done ++ p ∷ todo) → is_some (paired_strength done p.first p.second) ≡ false
fresh_pair done p todo distinct =
    unpaired done p.first p.second (λ k d l. same_pair p (get_or done k d) (before_seam (λ p q. is_pair_of q p.first p.second ≡ false) done p todo distinct k d l))

-- a seed has the site of none before it
other_site : (m n : Site) → m ≢ n → same_site m n ≡ false
other_site m n other = elim (same_site_tells m n) [ inl here ↦ absurd (other here.1) | inr apart ↦ apart.0 ]

pub fresh_seed : (done : List Place) (p : Place) (todo : List Place) → AllPairs (λ p q. p.site ≢ q.site) (done ++ p ∷ todo) → is_seeded done p.site ≡ false
fresh_seed done p todo distinct =
    list_any_none (λ q. same_site q.site p.site) done (λ k d l. other_site (get_or done k d).site p.site (before_seam (λ p q. p.site ≢ q.site) done p todo distinct k d l))

-- the name of a glue, and its place
pub record NamedGlue (sys : TileSystem) (g : GlueId) : Type 0 where
  pub named : IsName (glue_name sys g)
  pub placed : position (bytes_eq (glue_name sys g)) (map (λ g. g.name) sys.glues) ≡ Some g.0

pub named_glue : (sys : TileSystem) (g : GlueId) → All (λ g. IsName g.name) sys.glues → AllPairs (λ g h. g.name ≢ h.name) sys.glues → g.0 < length sys.glues → NamedGlue sys g
named_glue sys g named distinct below =
    let d : Glue = record { name = []; strength = 0 } in
    let found : slice_get sys.glues g.0 ≡ Some (get_or sys.glues g.0 d) = slice_get-get_or sys.glues g.0 d below in
    let called : (get_or sys.glues g.0 d).name ≡ glue_name sys g = sym (ap (λ o. option_map_or (λ h. h.name) o []) found) in
    let Named : List ℕ → Type 0 = λ n. is_name n ≡ true in
    let Placed : List ℕ → Type 0 = λ n. position (bytes_eq n) (map (λ g. g.name) sys.glues) ≡ Some g.0 in
    record { named = subst Named called (named g.0 d below); placed = subst Placed called (place_of (λ g. g.name) sys.glues g.0 d distinct below) }

-- the name of the seed's type, and its place
pub record NamedSeed (sys : TileSystem) (seed : Place) : Type 0 where
  pub named : IsName (type_name sys seed.tile)
  pub placed : position (bytes_eq (type_name sys seed.tile)) (map (λ t. t.name) sys.types) ≡ Some seed.tile.0

pub named_seed : (sys : TileSystem) (seed : Place) → All (λ t. IsName t.name) sys.types → AllPairs (λ t u. t.name ≢ u.name) sys.types → IsType sys seed.tile → NamedSeed sys seed
named_seed sys seed named distinct below =
    let d : TileType = record { name = []; north = None; east = None; south = None; west = None } in
    let found : slice_get sys.types seed.tile.0 ≡ Some (get_or sys.types seed.tile.0 d) = slice_get-get_or sys.types seed.tile.0 d below in
    let called : (get_or sys.types seed.tile.0 d).name ≡ type_name sys seed.tile = sym (ap (λ o. option_map_or (λ t. t.name) o []) found) in
    let Named : List ℕ → Type 0 = λ n. is_name n ≡ true in
    let Placed : List ℕ → Type 0 = λ n. position (bytes_eq n) (map (λ t. t.name) sys.types) ≡ Some seed.tile.0 in
    record { named = subst Named called (named seed.tile.0 d below); placed = subst Placed called (place_of (λ t. t.name) sys.types seed.tile.0 d distinct below) }

-- a type is the one that is found by its name
pub type_of_name : (sys : TileSystem) (t : TypeId) (name : List ℕ) → All (λ t. IsName t.name) sys.types → AllPairs (λ t u. t.name ≢ u.name) sys.types → IsType sys t → type_name sys t ≡ name → type_named sys.types name ≡ Some t.0
type_of_name sys t name named distinct known same =
    let p : Place = record { site = record { x = pos 0; y = pos 0 }; tile = t } in
    let Named : List ℕ → Type 0 = λ n. type_named sys.types n ≡ Some t.0 in
    let placed = (named_seed sys p named distinct known).placed in
    subst Named same (sym (position_map (λ t. t.name) (bytes_eq (type_name sys t)) sys.types) ∙ placed)
