-- The table of a machine's tiles, in its order.
use Rattle.std.proofs.Common.{◌-◌, ◌≡◌, ◌<◌, ◌≤◌, ◌+◌, ◌*◌, is_some, ℕ, zero, suc, Bool, true, List, [], ◌∷◌, ◌++◌, length, map, filter, Option, Some, None, IfSome, option_and_then, get_or, Contains, refl, sym, ◌∙◌, ap, subst, inl, inr, arith, length-append}
use Rattle.std.specs.Prelude.{slice_index}
use Rattle.std.specs.List.{range_with_len}
use Rattle.std.proofs.Math.Nat.{mul-le-mul}
use Rattle.std.proofs.lemmas.List.{length-map}
use Rattle.std.proofs.lemmas.List.FromFn.{length-range_with_len}
use Rattle.std.proofs.lemmas.List.Elements.{Contains-append_left, Contains-append_right, Contains-get_or}
use Rattle.std.proofs.lemmas.Bool.{cases_Bool, cases_lt}
use Rattle.atam.specs.declared.site.Side.{Side}
use Rattle.atam.specs.declared.site.Side.TheVariants.{North, East, South, West}
use Rattle.atam.proofs.Lists.{Contains-here, Contains-there}
use Rattle.design.specs.TileSets.{IsTileSet}
use Rattle.design.proofs.Listings.{IsNumbered, numbered_at, numbered-then, numbered-range, numbered-map, numbered-pairs, numbered-kept, range-has, pairs-has, Contains-map, Contains-filter, Each, each-append, each-has, each-map, each-range, each-pairs, length-pairs_from, length-filter_at_most}
use Rattle.design.proofs.Rows.{is_less, not_less}
use Rattle.machine_text.specs.declared.rule.Turn.{Turn}
use Rattle.machine_text.specs.declared.rule.Turn.TheVariants.{Left, Right, Stay}
use Rattle.machine_text.specs.declared.rule.Rule.{Rule}
use Rattle.machine_text.specs.Machines.{TuringMachine, Configuration, rule_among, first, IsMachine, IsConfigOf}
use Rattle.turing_compile.specs.declared.kind.Kind.{Kind}
use Rattle.turing_compile.specs.declared.kind.Kind.TheVariants.{First, Action, FromLeft, FromRight, RightOf, LeftOf}
use Rattle.turing_compile.specs.declared.kind.Label.{Label}
use Rattle.turing_compile.specs.declared.kind.Label.TheVariants.{Symbol, Acting, Rightward, Leftward, HeadRightward, HeadLeftward, Joint}
use Rattle.turing_compile.specs.Tiles.{top, action_side, side}
use Rattle.turing_compile.specs.Shown.{state_in, cell_of}
use Rattle.turing_compile.specs.Compiled.{pairs, pair_number, rules_before, tiles_of}
use Rattle.turing_compile.specs.Inner.Listed.{has_rule, ruled_pairs, kinds, labels}
use Rattle.turing_compile.specs.Inner.Rows.{kind_number, label_number}
use Rattle.turing_compile.specs.Inner.Members.{IsKind, IsLabel}
use Rattle.turing_compile.specs.Inner.Upward.{upward}
use Rattle.machine_text.proofs.Finding.{some_is}
use Rattle.turing_compile.proofs.MachineFacts.{rule_bounds, symbol_below, first_config}
use Rattle.turing_compile.proofs.Sides.{first_north}

-- what a filter keeps passes
kept_pass : {X : Type 0} (test : X → Bool) (xs : List X) → Each (λ x. test x ≡ true) (filter test xs)
kept_pass test [] = tt
kept_pass test (x ∷ xs) = elim (cases_Bool (test x)) [
  | inl stays ↦ rw stays (stays, kept_pass test xs)
  | inr goes ↦ rw goes (kept_pass test xs)
]

module _ (M : TuringMachine) (is_machine : IsMachine M) where
  range_length : {X : Type 0} (f : ℕ → X) (a n : ℕ) → length (map f (range_with_len a n)) ≡ n
  range_length f a n = length-map (range_with_len a n) f ∙ length-range_with_len a n

  pairs_placed : IsNumbered (pair_number M) 0 (pairs M)
  pairs_placed =
      let start : 0 + 0 * (length M.symbols) ≡ 0 = omega arith in
      subst (λ n. IsNumbered (pair_number M) n (pairs M)) start (numbered-pairs (pair_number M) 0 (length M.symbols) 0 (length M.states) (λ p a less. omega arith))

  -- kinds or labels for the pairs, or for those with a rule
  for_pairs : {X : Type 0} (number : X → ℕ) (f : ℕ × ℕ → X) (n : ℕ) → ((p a : ℕ) → number (f (p, a)) ≡ n + (p * (length M.symbols) + a)) → IsNumbered number n (map f (pairs M))
  for_pairs number f n at =
      let start : n + 0 * (length M.symbols) ≡ n = omega arith in
      numbered-map number f n (pairs M)
      (subst (λ m. IsNumbered (λ x. number (f x)) m (pairs M)) start
      (numbered-pairs (λ x. number (f x)) n (length M.symbols) 0 (length M.states) (λ p a less. let h = at p a in omega (arith, h))))

  for_rules : {X : Type 0} (number : X → ℕ) (f : ℕ × ℕ → X) (n : ℕ) → ((x : ℕ × ℕ) → number (f x) ≡ n + rules_before M x) → IsNumbered number n (map f (ruled_pairs M))
  for_rules number f n at = numbered-map number f n (ruled_pairs M) (numbered-kept (pair_number M) (λ x. number (f x)) (has_rule M) n (pairs M) pairs_placed at)

  kinds_numbered : IsNumbered (kind_number M) 0 (kinds M)
  kinds_numbered =
      let number = kind_number M in
      let W = M.cells in
      let kept = ruled_pairs M in
      let rules_long = length-map kept (λ p. Action p.0 p.1) in
      let pairs_long : (f : ℕ × ℕ → Kind) → length (map f (pairs M)) ≡ length (pairs M) = λ f. length-map (pairs M) f in
      numbered-then number 0 W (map First (range_with_len 0 W)) _ (numbered-range number First 0 0 W (λ i less. refl)) (let h = range_length First 0 W in omega (arith, h))
      (numbered-then number W (W + length (ruled_pairs M)) (map (λ p. Action p.0 p.1) kept) _ (for_rules number (λ p. Action p.0 p.1) W (λ x. refl)) (ap (λ n. W + n) rules_long)
      (numbered-then number (W + length (ruled_pairs M)) (W + length (ruled_pairs M) + length (pairs M)) (map (λ p. FromLeft p.0 p.1) (pairs M)) _ (for_pairs number (λ p. FromLeft p.0 p.1) (W + length (ruled_pairs M)) (λ p a. refl)) (ap (λ n. W + length (ruled_pairs M) + n) (pairs_long (λ p. FromLeft p.0 p.1)))
      (numbered-then number (W + length (ruled_pairs M) + length (pairs M)) (W + length (ruled_pairs M) + length (pairs M) + length (pairs M)) (map (λ p. FromRight p.0 p.1) (pairs M)) _ (for_pairs number (λ p. FromRight p.0 p.1) (W + length (ruled_pairs M) + length (pairs M)) (λ p a. refl)) (ap (λ n. W + length (ruled_pairs M) + length (pairs M) + n) (pairs_long (λ p. FromRight p.0 p.1)))
      (numbered-then number (W + length (ruled_pairs M) + length (pairs M) + length (pairs M)) (W + length (ruled_pairs M) + length (pairs M) + length (pairs M) + (length M.symbols)) (map RightOf (range_with_len 0 (length M.symbols))) _
      (numbered-range number RightOf (W + length (ruled_pairs M) + length (pairs M) + length (pairs M)) 0 (length M.symbols) (λ i less. omega arith))
      (ap (λ n. W + length (ruled_pairs M) + length (pairs M) + length (pairs M) + n) (range_length RightOf 0 (length M.symbols)))
      (numbered-range number LeftOf (W + length (ruled_pairs M) + length (pairs M) + length (pairs M) + (length M.symbols)) 0 (length M.symbols) (λ i less. omega arith))))))

  labels_numbered : IsNumbered (label_number M) 0 (labels M)
  labels_numbered =
      let number = label_number M in
      let n = (length M.symbols) in
      let r = length (ruled_pairs M) in
      let s = (length M.states) in
      let kept = ruled_pairs M in
      numbered-then number 0 n (map Symbol (range_with_len 0 n)) _ (numbered-range number Symbol 0 0 n (λ i less. refl)) (let h = range_length Symbol 0 n in omega (arith, h))
      (numbered-then number n (n + r) (map (λ p. Acting p.0 p.1) kept) _ (for_rules number (λ p. Acting p.0 p.1) n (λ x. refl)) (ap (λ m. n + m) (length-map kept (λ p. Acting p.0 p.1)))
      (refl, (omega arith, labels_after number n r s)))
    where
      labels_after : (number : Label → ℕ) (n r s : ℕ) → IsNumbered (label_number M) (suc (suc ((length M.symbols) + length (ruled_pairs M)))) (map HeadRightward (range_with_len 0 (length M.states)) ++ (map HeadLeftward (range_with_len 0 (length M.states)) ++ map Joint (range_with_len 1 (M.cells - 1))))
      labels_after number n r s =
          let at = suc (suc ((length M.symbols) + length (ruled_pairs M))) in
          let first = range_length HeadRightward 0 (length M.states) in
          let second = range_length HeadLeftward 0 (length M.states) in
          numbered-then (label_number M) at (at + (length M.states)) (map HeadRightward (range_with_len 0 (length M.states))) _ (numbered-range (label_number M) HeadRightward at 0 (length M.states) (λ i less. omega arith)) (ap (λ m. at + m) first)
          (numbered-then (label_number M) (at + (length M.states)) (at + (length M.states) + (length M.states)) (map HeadLeftward (range_with_len 0 (length M.states))) _ (numbered-range (label_number M) HeadLeftward (at + (length M.states)) 0 (length M.states) (λ i less. omega arith)) (ap (λ m. at + (length M.states) + m) second)
          (numbered-range (label_number M) Joint (at + (length M.states) + (length M.states)) 1 (M.cells - 1) (λ i less. omega arith)))

  pair_listed : (q a : ℕ) → q < (length M.states) → a < (length M.symbols) → Contains (pairs M) (q, a)
  pair_listed q a q_less a_less = let same : 0 + q ≡ q = omega arith in subst (λ n. Contains (pairs M) (n, a)) same (pairs-has (length M.symbols) 0 (length M.states) q a q_less a_less)

  in_range : {X : Type 0} (f : ℕ → X) (n i : ℕ) → i < n → Contains (map f (range_with_len 0 n)) (f i)
  in_range f n i less = let same : 0 + i ≡ i = omega arith in subst (λ m. Contains (map f (range_with_len 0 n)) (f m)) same (range-has f 0 n i less)

  rule_listed : (q a : ℕ) → is_some (rule_among M.rules q a) ≡ true → Contains (ruled_pairs M) (q, a)
  rule_listed q a rule =
      let act = some_is (rule_among M.rules q a) rule in
      let bounds = rule_bounds M is_machine q a act.0 act.1 in
      Contains-filter (has_rule M) (pairs M) (q, a) (pair_listed q a bounds.state bounds.symbol) rule

  pub pair_below : (all : List (ℕ × ℕ)) (i : ℕ) → all ≡ pairs M → i < length all → ((get_or all i (0, 0)).0 < length M.states) × ((get_or all i (0, 0)).1 < length M.symbols)
  pair_below all i same less =
      each-has (λ x. (x.0 < length M.states) × (x.1 < length M.symbols)) (pairs M) (get_or all i (0, 0))
      (each-pairs (λ x. (x.0 < length M.states) × (x.1 < length M.symbols)) (length M.symbols) 0 (length M.states) (λ p b p_less b_less. (omega (arith, p_less), b_less)))
      (subst (λ xs. Contains xs (get_or all i (0, 0))) same (Contains-get_or all i (0, 0) less))

  -- the parts of the list of kinds
  abbrev firsts : List Kind
  firsts = map First (range_with_len 0 M.cells)

  abbrev actions : List Kind
  actions = map (λ p. Action p.0 p.1) (ruled_pairs M)

  abbrev from_lefts : List Kind
  from_lefts = map (λ p. FromLeft p.0 p.1) (pairs M)

  abbrev from_rights : List Kind
  from_rights = map (λ p. FromRight p.0 p.1) (pairs M)

  abbrev right_ofs : List Kind
  right_ofs = map RightOf (range_with_len 0 (length M.symbols))

  abbrev left_ofs : List Kind
  left_ofs = map LeftOf (range_with_len 0 (length M.symbols))

  pub kind_listed : (k : Kind) → IsKind M k → Contains (kinds M) k
  kind_listed (First i) within = Contains-append_left firsts (actions ++ (from_lefts ++ (from_rights ++ (right_ofs ++ left_ofs)))) (First i) (in_range First M.cells i (omega (arith, within)))
  kind_listed (Action q a) rule =
      Contains-append_right firsts (actions ++ (from_lefts ++ (from_rights ++ (right_ofs ++ left_ofs)))) (Action q a)
      (Contains-append_left actions (from_lefts ++ (from_rights ++ (right_ofs ++ left_ofs))) (Action q a)
      (Contains-map (λ p. Action p.0 p.1) (ruled_pairs M) (q, a) (rule_listed q a rule)))
  kind_listed (FromLeft q a) below =
      Contains-append_right firsts (actions ++ (from_lefts ++ (from_rights ++ (right_ofs ++ left_ofs)))) (FromLeft q a)
      (Contains-append_right actions (from_lefts ++ (from_rights ++ (right_ofs ++ left_ofs))) (FromLeft q a)
      (Contains-append_left from_lefts (from_rights ++ (right_ofs ++ left_ofs)) (FromLeft q a) (Contains-map (λ p. FromLeft p.0 p.1) (pairs M) (q, a) (pair_listed q a below.0 below.1))))
  kind_listed (FromRight q a) below =
      Contains-append_right firsts (actions ++ (from_lefts ++ (from_rights ++ (right_ofs ++ left_ofs)))) (FromRight q a)
      (Contains-append_right actions (from_lefts ++ (from_rights ++ (right_ofs ++ left_ofs))) (FromRight q a)
      (Contains-append_right from_lefts (from_rights ++ (right_ofs ++ left_ofs)) (FromRight q a)
      (Contains-append_left from_rights (right_ofs ++ left_ofs) (FromRight q a) (Contains-map (λ p. FromRight p.0 p.1) (pairs M) (q, a) (pair_listed q a below.0 below.1)))))
  kind_listed (RightOf a) below =
      Contains-append_right firsts (actions ++ (from_lefts ++ (from_rights ++ (right_ofs ++ left_ofs)))) (RightOf a)
      (Contains-append_right actions (from_lefts ++ (from_rights ++ (right_ofs ++ left_ofs))) (RightOf a)
      (Contains-append_right from_lefts (from_rights ++ (right_ofs ++ left_ofs)) (RightOf a)
      (Contains-append_right from_rights (right_ofs ++ left_ofs) (RightOf a) (Contains-append_left right_ofs left_ofs (RightOf a) (in_range RightOf (length M.symbols) a below)))))
  kind_listed (LeftOf a) below =
      Contains-append_right firsts (actions ++ (from_lefts ++ (from_rights ++ (right_ofs ++ left_ofs)))) (LeftOf a)
      (Contains-append_right actions (from_lefts ++ (from_rights ++ (right_ofs ++ left_ofs))) (LeftOf a)
      (Contains-append_right from_lefts (from_rights ++ (right_ofs ++ left_ofs)) (LeftOf a)
      (Contains-append_right from_rights (right_ofs ++ left_ofs) (LeftOf a) (Contains-append_right right_ofs left_ofs (LeftOf a) (in_range LeftOf (length M.symbols) a below)))))

  -- each listed kind is one of the machine
  all_are_kinds : Each (IsKind M) (kinds M)
  all_are_kinds =
      let Is = IsKind M in
      let pair_kinds : (f : ℕ × ℕ → Kind) → ((p a : ℕ) → p < (length M.states) → a < (length M.symbols) → IsKind M (f (p, a))) → Each (IsKind M) (map f (pairs M)) =
      λ f fine. each-map (IsKind M) f (pairs M) (each-pairs (λ x. IsKind M (f x)) (length M.symbols) 0 (length M.states) (λ p a p_less a_less. fine p a (omega (arith, p_less)) a_less))
      in
      each-append Is firsts (actions ++ (from_lefts ++ (from_rights ++ (right_ofs ++ left_ofs))))
      (each-map Is First (range_with_len 0 M.cells) (each-range (λ i. i < M.cells) 0 M.cells (λ i above below. omega (arith, below))))
      (each-append Is actions (from_lefts ++ (from_rights ++ (right_ofs ++ left_ofs)))
      (each-map Is (λ p. Action p.0 p.1) (ruled_pairs M) (kept_pass (has_rule M) (pairs M)))
      (each-append Is from_lefts (from_rights ++ (right_ofs ++ left_ofs)) (pair_kinds (λ p. FromLeft p.0 p.1) (λ p a p_less a_less. (p_less, a_less)))
      (each-append Is from_rights (right_ofs ++ left_ofs) (pair_kinds (λ p. FromRight p.0 p.1) (λ p a p_less a_less. (p_less, a_less)))
      (each-append Is right_ofs left_ofs
      (each-map Is RightOf (range_with_len 0 (length M.symbols)) (each-range (λ i. i < (length M.symbols)) 0 (length M.symbols) (λ i above below. omega (arith, below))))
      (each-map Is LeftOf (range_with_len 0 (length M.symbols)) (each-range (λ i. i < (length M.symbols)) 0 (length M.symbols) (λ i above below. omega (arith, below))))))))

  pub listed_kind : (k : Kind) → Contains (kinds M) k → IsKind M k
  listed_kind k contains = each-has (IsKind M) (kinds M) k all_are_kinds contains

  abbrev symbols_part : List Label
  symbols_part = map Symbol (range_with_len 0 (length M.symbols))

  abbrev heads_part : List Label
  heads_part = map (λ p. Acting p.0 p.1) (ruled_pairs M)

  abbrev rights_part : List Label
  rights_part = map HeadRightward (range_with_len 0 (length M.states))

  abbrev lefts_part : List Label
  lefts_part = map HeadLeftward (range_with_len 0 (length M.states))

  abbrev joints_part : List Label
  joints_part = map Joint (range_with_len 1 (M.cells - 1))

  abbrev last_parts : List Label
  last_parts = rights_part ++ (lefts_part ++ joints_part)

  past_heads : (g : Label) → Contains (Rightward ∷ Leftward ∷ last_parts) g → Contains (labels M) g
  past_heads g contains = Contains-append_right symbols_part (heads_part ++ (Rightward ∷ Leftward ∷ last_parts)) g (Contains-append_right heads_part (Rightward ∷ Leftward ∷ last_parts) g contains)

  past_sides : (g : Label) → Contains last_parts g → Contains (labels M) g
  past_sides g contains = past_heads g (Contains-there Rightward g (Leftward ∷ last_parts) (Contains-there Leftward g last_parts contains))

  label_listed : (g : Label) → IsLabel M g → Contains (labels M) g
  label_listed (Symbol a) below = Contains-append_left symbols_part (heads_part ++ (Rightward ∷ Leftward ∷ last_parts)) (Symbol a) (in_range Symbol (length M.symbols) a below)
  label_listed (Acting q a) rule =
      Contains-append_right symbols_part (heads_part ++ (Rightward ∷ Leftward ∷ last_parts)) (Acting q a)
      (Contains-append_left heads_part (Rightward ∷ Leftward ∷ last_parts) (Acting q a) (Contains-map (λ p. Acting p.0 p.1) (ruled_pairs M) (q, a) (rule_listed q a rule)))
  label_listed Rightward is_label = past_heads Rightward (Contains-here Rightward (Leftward ∷ last_parts))
  label_listed Leftward is_label = past_heads Leftward (Contains-there Rightward Leftward (Leftward ∷ last_parts) (Contains-here Leftward last_parts))
  label_listed (HeadRightward q) below = past_sides (HeadRightward q) (Contains-append_left rights_part (lefts_part ++ joints_part) (HeadRightward q) (in_range HeadRightward (length M.states) q below))
  label_listed (HeadLeftward q) below =
      past_sides (HeadLeftward q) (Contains-append_right rights_part (lefts_part ++ joints_part) (HeadLeftward q) (Contains-append_left lefts_part joints_part (HeadLeftward q) (in_range HeadLeftward (length M.states) q below)))
  label_listed (Joint zero) is_label = let first = is_label.0 in let never : ⊥ = omega (arith, first) in absurd never
  label_listed (Joint (suc i)) is_label =
      let within = is_label.1 in
      let one_and : 1 + i ≡ suc i = omega arith in
      past_sides (Joint (suc i)) (Contains-append_right rights_part (lefts_part ++ joints_part) (Joint (suc i)) (Contains-append_right lefts_part joints_part (Joint (suc i))
      (subst (λ n. Contains joints_part (Joint n)) one_and (range-has Joint 1 (M.cells - 1) i (omega (arith, within))))))

  -- each listed label is one of the machine
  all_are_labels : Each (IsLabel M) (labels M)
  all_are_labels =
      let Is = IsLabel M in
      let n = length M.symbols in
      let s = length M.states in
      each-append Is symbols_part (heads_part ++ (Rightward ∷ Leftward ∷ last_parts))
      (each-map Is Symbol (range_with_len 0 n) (each-range (λ i. i < n) 0 n (λ i above below. omega (arith, below))))
      (each-append Is heads_part (Rightward ∷ Leftward ∷ last_parts)
      (each-map Is (λ p. Acting p.0 p.1) (ruled_pairs M) (kept_pass (has_rule M) (pairs M))) (
        tt,
        (
          tt,
          each-append Is rights_part (lefts_part ++ joints_part)
              (each-map Is HeadRightward (range_with_len 0 s) (each-range (λ i. i < s) 0 s (λ i above below. omega (arith, below))))
              (each-append Is lefts_part joints_part
              (each-map Is HeadLeftward (range_with_len 0 s) (each-range (λ i. i < s) 0 s (λ i above below. omega (arith, below))))
              (each-map Is Joint (range_with_len 1 (M.cells - 1)) (each-range (λ i. (1 ≤ i) × (i ≤ M.cells - 1)) 1 (M.cells - 1) (λ i above below. (above, omega (arith, below)))))),
        ),
      ))

  pub listed_label : (g : Label) → Contains (labels M) g → IsLabel M g
  listed_label g contains = each-has (IsLabel M) (labels M) g all_are_labels contains

  -- each label on a side of a kind is one of the machine
  top_label : (q a : ℕ) → IfSome (top M q a) (IsLabel M)
  top_label q a = elim (cases_Bool (is_some (rule_among M.rules q a))) [
    | inl rule ↦ rw rule rule
    | inr none ↦ rw none tt
  ]

  action_label : (q a p b : ℕ) (move : Turn) (d : Side) → is_some (rule_among M.rules q a) ≡ true → p < (length M.states) → b < (length M.symbols) → IfSome (action_side M q a p b move d) (IsLabel M)
  action_label q a p b Left North rule p_less b_less = b_less
  action_label q a p b Left East rule p_less b_less = tt
  action_label q a p b Left South rule p_less b_less = rule
  action_label q a p b Left West rule p_less b_less = p_less
  action_label q a p b Right North rule p_less b_less = b_less
  action_label q a p b Right East rule p_less b_less = p_less
  action_label q a p b Right South rule p_less b_less = rule
  action_label q a p b Right West rule p_less b_less = tt
  action_label q a p b Stay North rule p_less b_less = top_label p b
  action_label q a p b Stay East rule p_less b_less = tt
  action_label q a p b Stay South rule p_less b_less = rule
  action_label q a p b Stay West rule p_less b_less = tt

  -- a shown cell turns up a label of the machine
  up_label : (c : Configuration) (i : ℕ) → IsConfigOf M c → IfSome (upward M (cell_of c i)) (IsLabel M)
  up_label c i config = by (state_in c.head i)
    where
      by : (o : Option ℕ) → IfSome (upward M (record { symbol = slice_index c.symbols i; state = o })) (IsLabel M)
      by None = symbol_below M is_machine c config i
      by (Some q) = top_label q (slice_index c.symbols i)

  side_label : (k : Kind) (d : Side) → IsKind M k → IfSome (side M k d) (IsLabel M)
  side_label (First i) North within = rw (first_north M i) (up_label (first M) i (first_config M is_machine))
  side_label (First i) East within = elim (cases_lt i (M.cells - 1)) [
    | inl less ↦ rw (is_less i (M.cells - 1) less) (omega arith, omega (arith, less))
    | inr more ↦ rw (not_less i (M.cells - 1) more) tt
  ]
  side_label (First i) South within = tt
  side_label (First zero) West within = tt
  side_label (First (suc i)) West within = (omega arith, omega (arith, within))
  side_label (Action q a) d rule =
      let act = some_is (rule_among M.rules q a) rule in
      let IsOf : Option Rule → Type 0 = λ o. IfSome (option_and_then (λ (x : Rule). action_side M q a x.state x.symbol x.turn d) o) (IsLabel M) in
      let bounds = rule_bounds M is_machine q a act.0 act.1 in
      subst IsOf (sym act.1) (action_label q a act.0.state act.0.symbol act.0.turn d rule bounds.next_state bounds.next_symbol)
  side_label (FromLeft q a) North below = top_label q a
  side_label (FromLeft q a) East below = tt
  side_label (FromLeft q a) South below = below.1
  side_label (FromLeft q a) West below = below.0
  side_label (FromRight q a) North below = top_label q a
  side_label (FromRight q a) East below = below.0
  side_label (FromRight q a) South below = below.1
  side_label (FromRight q a) West below = tt
  side_label (RightOf a) North below = below
  side_label (RightOf a) East below = tt
  side_label (RightOf a) South below = below
  side_label (RightOf a) West below = tt
  side_label (LeftOf a) North below = below
  side_label (LeftOf a) East below = tt
  side_label (LeftOf a) South below = below
  side_label (LeftOf a) West below = tt

  -- how many there are
  pub pair_count : length (pairs M) ≤ 4096
  pair_count =
      let states = is_machine.states.count.1 in
      let symbols = is_machine.symbols.count.1 in
      rw (length-pairs_from (length M.symbols) 0 (length M.states)) (mul-le-mul states symbols)

  pub rule_count : length (ruled_pairs M) ≤ length (pairs M)
  rule_count = length-filter_at_most (has_rule M) (pairs M)

  pub label_count : length (labels M) ≤ 4801
  label_count =
      let a = length-append symbols_part (heads_part ++ (Rightward ∷ Leftward ∷ last_parts)) in
      let b = length-append heads_part (Rightward ∷ Leftward ∷ last_parts) in
      let d = length-append rights_part (lefts_part ++ joints_part) in
      let e = length-append lefts_part joints_part in
      let f = range_length Symbol 0 (length M.symbols) in
      let g = length-map (ruled_pairs M) (λ p. Acting p.0 p.1) in
      let h = range_length HeadRightward 0 (length M.states) in
      let i = range_length HeadLeftward 0 (length M.states) in
      let j = range_length Joint 1 (M.cells - 1) in
      let p = pair_count in
      let r = rule_count in
      let states = is_machine.states.count.1 in
      let symbols = is_machine.symbols.count.1 in
      let cells = is_machine.cells.1 in
      omega (arith, a, b, d, e, f, g, h, i, j, p, r, states, symbols, cells)

  pub kind_count : length (kinds M) ≤ 12928
  kind_count =
      let a = length-append firsts (actions ++ (from_lefts ++ (from_rights ++ (right_ofs ++ left_ofs)))) in
      let b = length-append actions (from_lefts ++ (from_rights ++ (right_ofs ++ left_ofs))) in
      let d = length-append from_lefts (from_rights ++ (right_ofs ++ left_ofs)) in
      let e = length-append from_rights (right_ofs ++ left_ofs) in
      let f = length-append right_ofs left_ofs in
      let g = range_length First 0 M.cells in
      let h = length-map (ruled_pairs M) (λ p. Action p.0 p.1) in
      let i = length-map (pairs M) (λ p. FromLeft p.0 p.1) in
      let j = length-map (pairs M) (λ p. FromRight p.0 p.1) in
      let k = range_length RightOf 0 (length M.symbols) in
      let l = range_length LeftOf 0 (length M.symbols) in
      let p = pair_count in
      let r = rule_count in
      let symbols = is_machine.symbols.count.1 in
      let cells = is_machine.cells.1 in
      omega (arith, a, b, d, e, f, g, h, i, j, k, l, p, r, symbols, cells)

  pub is_tile_set : IsTileSet (tiles_of M)
  is_tile_set = record {
    kinds = λ i k there. let at = numbered_at (kind_number M) 0 (kinds M) i k kinds_numbered there in omega (arith, at);
    labels = λ i g there. let at = numbered_at (label_number M) 0 (labels M) i g labels_numbered there in omega (arith, at);
    sides = λ k d g listed has.
        let IsOf : Option Label → Type 0 = λ o. IfSome o (IsLabel M) in
        label_listed g (subst IsOf has (side_label k d (listed_kind k listed)));
  }
