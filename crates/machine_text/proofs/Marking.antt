-- The first name of each mark, as names come.
use Rattle.std.proofs.Common.{◌≡◌, ◌≢◌, ◌<◌, ◌+◌, ℕ, suc, Bool, true, false, cond, List, [], ◌∷◌, ◌++◌, length, get_or, slice_get, replicate, map, Vec, Global, Option, Some, None, refl, sym, ◌∙◌, ap, subst, inl, inr, arith, length-append}
use Rattle.std.specs.Prelude.{position, slice_set, bytes_eq, is_some}
use Rattle.std.specs.List.{position_from, list_any}
use Rattle.std.specs.Option.{option_or}
use Rattle.std.proofs.lemmas.Bool.{cases_Bool, eqb-true, eq-eqb}
use Rattle.std.proofs.lemmas.List.{length-set, length-map, length-replicate, get_or-replicate, map_push}
use Rattle.std.proofs.lemmas.List.Quantifiers.{position-Some}
use Rattle.std.proofs.lemmas.Slice.Eq.{bytes_eq-Decides}
use Rattle.std.proofs.lemmas.Iterator.Adapters.{position_from-zero}
use Rattle.std.proofs.lemmas.Option.{get_or_from_slice_get, slice_get-get_or}
use Rattle.tile_io.proofs.PassedFields.{is_some-position}
use Rattle.machine_text.specs.Inner.Marks.{mark_of, has_mark, AreFirsts}
use Rattle.machine_text.proofs.Finding.{NoneBefore, each_fails}
use Rattle.machine_text.proofs.RuleTables.{slice_get-set_same, slice_get-set_other}

module _ {X : Type 0} (test : X → Bool) where
  from_push : (j : ℕ) (xs : List X) (x : X) → position_from test j (xs ++ x ∷ []) ≡ option_or (position_from test j xs) (cond (test x) (Some (j + length xs)) None)
  from_push j [] x =
      let place : j ≡ j + 0 = omega arith in
      ap (λ n. cond (test x) (Some n) None) place
  from_push j (y ∷ ys) x = elim (cases_Bool (test y)) [
    | inl passes ↦ rw passes refl
    | inr fails ↦
        let place : j + 1 + length ys ≡ j + suc (length ys) = omega arith in
        rw fails (from_push (j + 1) ys x ∙ ap (λ n. option_or (position_from test (j + 1) ys) (cond (test x) (Some n) None)) place)
  ]

  -- the first that passes, where there is one more
  position_push : (xs : List X) (x : X) → position test (xs ++ x ∷ []) ≡ option_or (position test xs) (cond (test x) (Some (0 + length xs)) None)
  position_push xs x =
      position_from-zero test (xs ++ x ∷ []) ∙ from_push 0 xs x
      ∙ ap (λ o. option_or o (cond (test x) (Some (0 + length xs)) None)) (sym (position_from-zero test xs))

or_none : {X : Type 0} (o : Option X) → option_or o None ≡ o
or_none None = refl
or_none (Some x) = refl

-- a name with another mark is another name
other_name : (name x : List ℕ) → has_mark (mark_of name) x ≡ false → bytes_eq name x ≡ false
other_name name x other = elim (cases_Bool (bytes_eq name x)) [
  | inl equal ↦
      let same : name ≡ x = (bytes_eq-Decides name x).0 equal in
      let clash : true ≡ false = sym (eq-eqb (mark_of x) (mark_of name) (ap mark_of (sym same))) ∙ other in
      cc clash
  | inr differ ↦ differ
]

-- no name before the first with its mark is this one
pub none_before_first : (name : List ℕ) (names : List (List ℕ)) (n : ℕ) → position (has_mark (mark_of name)) names ≡ Some n → NoneBefore (bytes_eq name) names n
none_before_first name names n is = λ k x below at.
    let first = position-Some (has_mark (mark_of name)) names n x is in
    let here : get_or names k x ≡ x = get_or_from_slice_get names k x x at in
    other_name name x (subst (λ y. has_mark (mark_of name) y ≡ false) here (first.2 k below))

-- nor is any, where none has its mark
pub none_marked : (name : List ℕ) (names : List (List ℕ)) → position (has_mark (mark_of name)) names ≡ None → NoneBefore (bytes_eq name) names (length names)
none_marked name names is = λ k x below at.
    let none : list_any (has_mark (mark_of name)) names ≡ false = sym (is_some-position (has_mark (mark_of name)) names) ∙ ap is_some is in
    let here : get_or names k x ≡ x = get_or_from_slice_get names k x x at in
    other_name name x (subst (λ y. has_mark (mark_of name) y ≡ false) here (each_fails (has_mark (mark_of name)) names none k x below))

-- before the first name
no_firsts : (n mark : ℕ) (o : Option ℕ) → mark < n → slice_get (replicate n o) mark ≡ Some o
no_firsts n mark o below =
    let size : length (replicate n o) ≡ n = length-replicate n o in
    slice_get-get_or (replicate n o) mark o (omega (arith, size, below)) ∙ ap (λ x. Some x) (get_or-replicate n mark o o below)

pub AreFirsts-none : AreFirsts [] (replicate 256 None)
AreFirsts-none = record { size = length-replicate {A = Option ℕ} 256 None; each = λ mark below. no_firsts 256 mark None below }

-- a name more: the first with its mark, where none had it
pub AreFirsts-push : (names : List (List ℕ)) (firsts : List (Option ℕ)) (name : List ℕ) → AreFirsts names firsts → mark_of name < 256 →
    AreFirsts (names ++ name ∷ []) (slice_set firsts (mark_of name) (option_or (position (has_mark (mark_of name)) names) (Some (length names))))
AreFirsts-push names firsts name are small =
    let first = option_or (position (has_mark (mark_of name)) names) (Some (length names)) in
    let place : mark_of name < length firsts = (let size = are.size in omega (arith, size, small)) in
    let zero_more : 0 + length names ≡ length names = omega arith in
    record {
      size = length-set firsts (mark_of name) first ∙ are.size;
      each = λ mark below. elim (cases_Bool (has_mark mark name)) [
        | inl has ↦
            let mine : mark_of name ≡ mark = eqb-true (mark_of name) mark has in
            let pushed : position (has_mark mark) (names ++ name ∷ []) ≡ option_or (position (has_mark mark) names) (Some (length names)) =
            position_push (has_mark mark) names name ∙ rw has (ap (λ n. option_or (position (has_mark mark) names) (Some n)) zero_more)
            in
            ap (slice_get (slice_set firsts (mark_of name) first)) (sym mine)
            ∙ slice_get-set_same firsts (mark_of name) first place
            ∙ ap (λ m. Some (option_or (position (has_mark m) names) (Some (length names)))) mine
            ∙ ap (λ o. Some o) (sym pushed)
        | inr not ↦
            let inside : mark < length firsts = (let size = are.size in omega (arith, size, below)) in
            let other : mark ≢ mark_of name = λ same. (let clash : true ≡ false = sym (eq-eqb (mark_of name) mark (sym same)) ∙ not in cc clash) in
            slice_get-set_other firsts (mark_of name) first place mark inside other
            ∙ are.each mark below
            ∙ ap (λ o. Some o) (sym (position_push (has_mark mark) names name ∙ rw not (or_none (position (has_mark mark) names))))
      ];
    }

-- the same of what a list of names holds
abbrev items : List (Vec ℕ Global) → List (List ℕ)
items names = map (λ name. name.items) names

pub held_push : (names pushed : List (Vec ℕ Global)) (firsts : List (Option ℕ)) (all : List (List ℕ)) (name : Vec ℕ Global) (given : List ℕ) (mark place count : ℕ) (first : Option ℕ) →
    AreFirsts (items names) firsts → items names ≡ all → pushed ≡ names ++ name ∷ [] → name.items ≡ given → mark ≡ mark_of given → place ≡ mark → mark < 256 →
    first ≡ option_or (position (has_mark mark) all) (Some count) → count ≡ length all → length all + 1 < 4294967296 →
    (length pushed < 4294967296) × AreFirsts (items pushed) (slice_set firsts place first)
held_push names pushed firsts all name given mark place count first are all_is pushed_is given_is mark_is place_is small first_is count_is few =
    let grown : items pushed ≡ all ++ given ∷ [] = ap items pushed_is ∙ map_push (λ (n : Vec ℕ Global). n.items) names name ∙ (λ z. all_is z ++ given_is z ∷ []) in
    let size : length pushed ≡ length all + 1 = sym (length-map pushed (λ (n : Vec ℕ Global). n.items)) ∙ ap length grown ∙ length-append all (given ∷ []) in
    let few_marks : mark_of given < 256 = omega (arith, small, mark_is) in
    let next = AreFirsts-push all firsts given (subst (λ l. AreFirsts l firsts) all_is are) few_marks in
    let written : first ≡ option_or (position (has_mark (mark_of given)) all) (Some (length all)) = first_is ∙ (λ z. option_or (position (has_mark (mark_is z)) all) (Some (count_is z))) in
    let placed : place ≡ mark_of given = place_is ∙ mark_is in (
      omega (arith, size, few),
      subst (λ l. AreFirsts l (slice_set firsts place first)) (sym grown)
          (subst (λ p. AreFirsts (all ++ given ∷ []) (slice_set firsts p first)) (sym placed)
          (subst (λ f. AreFirsts (all ++ given ∷ []) (slice_set firsts (mark_of given) f)) (sym written) next)),
    )
