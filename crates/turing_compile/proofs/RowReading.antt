-- The configuration that a row shows.
use Rattle.std.proofs.Common.{◌≡◌, ◌<◌, ◌≤◌, ◌+◌, nat_le, cond, ℕ, zero, suc, true, List, [], ◌∷◌, ◌++◌, length, map, take, get_or, slice_index, Option, Some, None, slice_get, option_map, option_and_then, refl, sym, ◌∙◌, ap, inl, inr, arith, append_assoc, append-nil, length-append}
use Rattle.std.specs.List.{range_with_len}
use Rattle.std.proofs.lemmas.Option.{same_Some, none-some}
use Rattle.std.proofs.lemmas.Bool.{cases_order}
use Rattle.std.proofs.lemmas.List.{length-take-le, take_more}
use Rattle.std.proofs.lemmas.List.FromFn.{map-range_with_len_more, length-map-range_with_len}
use Rattle.std.proofs.lemmas.Bool.Decides.{eqb_tells}
use Rattle.atam.specs.declared.place.Place.{Place}
use Rattle.atam.proofs.Lists.{some_or_none}
use Rattle.machine_text.specs.declared.config.Head.{Head}
use Rattle.machine_text.specs.Machines.{TuringMachine, Configuration, IsMachine, IsConfigOf}
use Rattle.turing_compile.specs.declared.kind.Shown.{Shown}
use Rattle.turing_compile.specs.Shown.{state_in, cell_of}
use Rattle.turing_compile.specs.Rows.{type_shown, tile_shown, all_of, head_shown, heads_from, shown_config, row_config}
use Rattle.turing_compile.specs.Laws.{IsRowOf}
use Rattle.turing_compile.proofs.MachineFacts.{head_in_cells}
use Rattle.turing_compile.proofs.Sides.{eqb_other}

-- where each cell is there, all are
all_there : {X : Type 0} (f : ℕ → Option X) (g : ℕ → X) (a n : ℕ) → ((i : ℕ) → a ≤ i → i < a + n → f i ≡ Some (g i)) → all_of (map f (range_with_len a n)) ≡ Some (map g (range_with_len a n))
all_there f g a zero h = refl
all_there f g a (suc n) h =
    let rest = all_there f g (a + 1) n (λ i above below. h i (omega (arith, above)) (omega (arith, below))) in
    ap (option_and_then (λ y. option_map (λ ys. y ∷ ys) (all_of (map f (range_with_len (a + 1) n))))) (h a (omega arith) (omega arith))
    ∙ ap (option_map (λ ys. g a ∷ ys)) rest

-- all elements of a list, by their places
at_seam : (xs ys : List ℕ) (y : ℕ) → get_or (xs ++ y ∷ ys) (length xs) 0 ≡ y
at_seam [] ys y = refl
at_seam (x ∷ xs) ys y = at_seam xs ys y

listed : (xs ys : List ℕ) (n : ℕ) → length xs ≡ n → map (λ i. slice_index (xs ++ ys) i) (range_with_len n (length ys)) ≡ ys
listed xs [] n long = refl
listed xs (y ∷ ys) n long =
    let here : slice_index (xs ++ y ∷ ys) n ≡ y = ap (slice_index (xs ++ y ∷ ys)) (sym long) ∙ at_seam xs ys y in
    let more = length-append xs (y ∷ []) in
    let rest = listed (xs ++ y ∷ []) ys (n + 1) (omega (arith, more, long)) in
    let same : map (λ i. slice_index (xs ++ y ∷ ys) i) (range_with_len (n + 1) (length ys)) ≡ ys =
    ap (λ zs. map (λ i. slice_index zs i) (range_with_len (n + 1) (length ys))) (sym (append_assoc xs (y ∷ []) ys)) ∙ rest
    in
    ap (λ z. z ∷ map (λ i. slice_index (xs ++ y ∷ ys) i) (range_with_len (n + 1) (length ys))) here ∙ ap (λ zs. y ∷ zs) same

symbols_of : (f : ℕ → Shown) (is : List ℕ) → map (λ (cell : Shown). cell.symbol) (map f is) ≡ map (λ i. (f i).symbol) is
symbols_of f [] = refl
symbols_of f (i ∷ is) = ap (λ xs. (f i).symbol ∷ xs) (symbols_of f is)

-- nothing holds all where one is missing
all_of-none : {X : Type 0} (f : ℕ → Option X) (a n i : ℕ) → a ≤ i → i < a + n → f i ≡ None → all_of (map f (range_with_len a n)) ≡ None
all_of-none f a zero i above below none = let never : ⊥ = omega (arith, above, below) in absurd never
all_of-none f a (suc n) i above below none = elim (cases_order a i) [
  | inl same ↦ ap (option_and_then (λ y. option_map (λ ys. y ∷ ys) (all_of (map f (range_with_len (a + 1) n))))) (ap f same ∙ none)
  | inr rest ↦ elim rest [
    | inr more ↦ let never : ⊥ = omega (arith, above, more) in absurd never
    | inl less ↦
        let later = all_of-none f (a + 1) n i (omega (arith, less)) (omega (arith, below)) none in
        ap (λ o. option_and_then (λ y. option_map (λ ys. y ∷ ys) o) (f a)) later ∙ without (f a)
  ]
]
  where
    without : {X : Type 0} (o : Option X) → option_and_then (λ (y : X). option_map (λ (ys : List X). y ∷ ys) None) o ≡ None
    without None = refl
    without (Some y) = refl

pub row_shown-none : (f : ℕ → Option Shown) (n i : ℕ) → i < n → f i ≡ None → all_of (map f (range_with_len 0 n)) ≡ None
row_shown-none f n i less none = all_of-none f 0 n i (omega arith) (omega (arith, less)) none

-- what all of one more hold
pub record IsFront {X : Type 0} (x : X) (xs : List (Option X)) (ys : List X) : Type 0 where
  pub rest : List X
  pub there : all_of xs ≡ Some rest
  pub whole : x ∷ rest ≡ ys

pub front_of : {X : Type 0} (x : X) (xs : List (Option X)) (ys : List X) → all_of (Some x ∷ xs) ≡ Some ys → IsFront x xs ys
front_of x xs ys all = elim (some_or_none (all_of xs)) [
  | inl none ↦ absurd (none-some ys (sym (ap (option_map (λ zs. x ∷ zs)) none) ∙ all))
  | inr zs ↦ record { rest = zs.0; there = zs.1; whole = same_Some (x ∷ zs.0) ys (sym (ap (option_map (λ zs. x ∷ zs)) zs.1) ∙ all) }
]

all_of-push : {X : Type 0} (xs : List (Option X)) (ys : List X) (x : X) → all_of xs ≡ Some ys → all_of (xs ++ Some x ∷ []) ≡ Some (ys ++ x ∷ [])
all_of-push [] ys x all = ap (λ zs. Some (zs ++ x ∷ [])) (same_Some [] ys all)
all_of-push (None ∷ xs) ys x all = absurd (none-some ys all)
all_of-push (Some y ∷ xs) ys x all =
    let f = front_of y xs ys all in
    ap (option_map (λ zs. y ∷ zs)) (all_of-push xs f.rest x f.there) ∙ ap (λ zs. Some (zs ++ x ∷ [])) f.whole

pub row_shown-more : (f : ℕ → Option Shown) (n : ℕ) (cells : List Shown) (cell : Shown) → all_of (map f (range_with_len 0 n)) ≡ Some cells → f n ≡ Some cell →
    all_of (map f (range_with_len 0 (n + 1))) ≡ Some (cells ++ cell ∷ [])
row_shown-more f n cells cell all there =
    ap all_of (map-range_with_len_more f 0 n n (omega arith) ∙ ap (λ o. map f (range_with_len 0 n) ++ o ∷ []) there)
    ∙ all_of-push (map f (range_with_len 0 n)) cells cell all

length-all_of : {X : Type 0} (xs : List (Option X)) (ys : List X) → all_of xs ≡ Some ys → length ys ≡ length xs
length-all_of [] ys all = ap length (sym (same_Some [] ys all))
length-all_of (None ∷ xs) ys all = absurd (none-some ys all)
length-all_of (Some x ∷ xs) ys all =
    let f = front_of x xs ys all in
    ap length (sym f.whole) ∙ ap suc (length-all_of xs f.rest f.there)

pub length-row_shown : (f : ℕ → Option Shown) (n : ℕ) (cells : List Shown) → all_of (map f (range_with_len 0 n)) ≡ Some cells → length cells ≡ n
length-row_shown f n cells all = length-all_of (map f (range_with_len 0 n)) cells all ∙ length-map-range_with_len f 0 n

-- the heads of one more cell
heads_from-push : (cells : List Shown) (cell : Shown) (a n : ℕ) → a + length cells ≡ n → heads_from a (cells ++ cell ∷ []) ≡ heads_from a cells ++ head_shown n cell
heads_from-push [] cell a n at = let same : a ≡ n = omega (arith, at) in ap (λ m. head_shown m cell ++ []) same ∙ append-nil (head_shown n cell)
heads_from-push (first ∷ cells) cell a n at =
    ap (λ hs. head_shown a first ++ hs) (heads_from-push cells cell (a + 1) n (omega (arith, at)))
    ∙ sym (append_assoc (head_shown a first) (heads_from (a + 1) cells) (head_shown n cell))

heads_from-more : (cells : List Shown) (i : ℕ) (d : Shown) → i < length cells → heads_from 0 (take (i + 1) cells) ≡ heads_from 0 (take i cells) ++ head_shown i (get_or cells i d)
heads_from-more cells i d less =
    let front : length (take i cells) ≡ i = length-take-le i cells (omega (arith, less)) in
    ap (heads_from 0) (take_more cells i d less) ∙ heads_from-push (take i cells) (get_or cells i d) 0 i (omega (arith, front))

-- the heads after one more cell, with its head or without one
pub head_comes : (cells : List Shown) (i : ℕ) (d : Shown) (q : ℕ) (hs : List Head) → i < length cells → hs ≡ heads_from 0 (take i cells) → (get_or cells i d).state ≡ Some q →
    hs ++ record { cell = i; state = q } ∷ [] ≡ heads_from 0 (take (i + 1) cells)
head_comes cells i d q hs less so_far there =
    ap (λ gs. gs ++ record { cell = i; state = q } ∷ []) so_far
    ∙ ap (λ o. heads_from 0 (take i cells) ++ head_shown i (record { symbol = (get_or cells i d).symbol; state = o })) (sym there)
    ∙ sym (heads_from-more cells i d less)

pub no_head_comes : (cells : List Shown) (i : ℕ) (d : Shown) (hs : List Head) → i < length cells → hs ≡ heads_from 0 (take i cells) → (get_or cells i d).state ≡ None →
    hs ≡ heads_from 0 (take (i + 1) cells)
no_head_comes cells i d hs less so_far none =
    so_far
    ∙ sym (append-nil (heads_from 0 (take i cells)))
    ∙ ap (λ o. heads_from 0 (take i cells) ++ head_shown i (record { symbol = (get_or cells i d).symbol; state = o })) (sym none)
    ∙ sym (heads_from-more cells i d less)

module _ (c : Configuration) where
  -- the heads that cells of a configuration show
  no_heads : (a n : ℕ) → ((i : ℕ) → a ≤ i → i < a + n → state_in c.head i ≡ None) → heads_from a (map (cell_of c) (range_with_len a n)) ≡ []
  no_heads a zero h = refl
  no_heads a (suc n) h =
      ap (λ o. head_shown a (record { symbol = slice_index c.symbols a; state = o }) ++ heads_from (a + 1) (map (cell_of c) (range_with_len (a + 1) n))) (h a (omega arith) (omega arith))
      ∙ no_heads (a + 1) n (λ i above below. h i (omega (arith, above)) (omega (arith, below)))

  one_head : (head : Head) → c.head ≡ Some head → (a n : ℕ) → a ≤ head.cell → head.cell < a + n → heads_from a (map (cell_of c) (range_with_len a n)) ≡ head ∷ []
  one_head head there a zero above below = let never : ⊥ = omega (arith, above, below) in absurd never
  one_head head there a (suc n) above below = elim (eqb_tells a head.cell) [
    | inl same ↦
        let state : state_in c.head a ≡ Some head.state = ap (λ g. state_in g a) there ∙ ap (λ t. cond t (Some head.state) None) same.0 in
        let is_head : record { cell = a; state = head.state } ≡ head = λ z. record { cell = same.1 z; state = head.state } in
        ap (λ o. head_shown a (record { symbol = slice_index c.symbols a; state = o }) ++ heads_from (a + 1) (map (cell_of c) (range_with_len (a + 1) n))) state
        ∙ ap (λ hs. record { cell = a; state = head.state } ∷ hs) (no_heads (a + 1) n (λ i past within.
        let cell = same.1 in
        ap (λ g. state_in g i) there ∙ ap (λ t. cond t (Some head.state) None) (eqb_other i head.cell (λ e. let never : ⊥ = omega (arith, e, past, cell) in never))))
        ∙ ap (λ g. g ∷ []) is_head
    | inr other ↦
        let state : state_in c.head a ≡ None = ap (λ g. state_in g a) there ∙ ap (λ t. cond t (Some head.state) None) other.0 in
        let differ = other.1 in
        ap (λ o. head_shown a (record { symbol = slice_index c.symbols a; state = o }) ++ heads_from (a + 1) (map (cell_of c) (range_with_len (a + 1) n))) state
        ∙ one_head head there (a + 1) n (omega (arith, above, differ)) (omega (arith, below))
  ]

  -- shown cells with its symbols and its head show a configuration
  by_heads : (cells : List Shown) (heads : List Head) → map (λ (cell : Shown). cell.symbol) cells ≡ c.symbols → heads_from 0 cells ≡ heads →
      nat_le (length heads) 1 ≡ true → slice_get heads 0 ≡ c.head → shown_config cells ≡ Some c
  by_heads cells heads symbols shows few head =
      ap (λ hs. cond (nat_le (length hs) 1) (Some (record { symbols = map (λ (cell : Shown). cell.symbol) cells; head = slice_get hs 0 })) None) shows
      ∙ ap (λ b. cond b (Some (record { symbols = map (λ (cell : Shown). cell.symbol) cells; head = slice_get heads 0 })) None) few
      ∙ (λ z. Some (record { symbols = symbols z; head = head z }))

  -- its own cells do
  cells_show : (n : ℕ) → length c.symbols ≡ n → ((head : Head) → c.head ≡ Some head → head.cell < n) → shown_config (map (cell_of c) (range_with_len 0 n)) ≡ Some c
  cells_show n long within =
      let symbols = symbols_of (cell_of c) (range_with_len 0 n) ∙ ap (λ m. map (λ i. slice_index c.symbols i) (range_with_len 0 m)) (sym long) ∙ listed [] c.symbols 0 refl in
      elim (some_or_none c.head) [
        | inl none ↦ by_heads (map (cell_of c) (range_with_len 0 n)) [] symbols (no_heads 0 n (λ i above below. ap (λ g. state_in g i) none)) refl (sym none)
        | inr head ↦
            let cell = within head.0 head.1 in
            by_heads (map (cell_of c) (range_with_len 0 n)) (head.0 ∷ []) symbols (one_head head.0 head.1 0 n (omega arith) (omega (arith, cell))) refl (sym head.1)
      ]

pub row_config-shown : (M : TuringMachine) (tiles : List Place) (y : ℕ) (c : Configuration) → IsConfigOf M c → IsRowOf M tiles y (Some c) → row_config M tiles y ≡ Some c
row_config-shown M tiles y c config row =
    ap (option_and_then shown_config) (all_there (tile_shown M tiles y) (cell_of c) 0 M.cells (λ i above below. row i (omega (arith, below))))
    ∙ cells_show c M.cells config.cells (λ head there. let inside = head_in_cells M c config head there in let long = config.cells in omega (arith, inside, long))

pub row_config-empty : (M : TuringMachine) → IsMachine M → (tiles : List Place) (y : ℕ) → IsRowOf M tiles y None → row_config M tiles y ≡ None
row_config-empty M is_machine tiles y row =
    let some = is_machine.cells.0 in
    ap (option_and_then shown_config) (row_shown-none (tile_shown M tiles y) M.cells 0 (omega (arith, some)) (ap (option_and_then (type_shown M)) (row 0 (omega (arith, some)))))
