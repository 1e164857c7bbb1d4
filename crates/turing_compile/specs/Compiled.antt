-- The system of a machine: its tiles in their order, with their names.
use Rattle.std.specs.Prelude.{ℕ, ◌+◌, ◌-◌, ◌*◌, pos, is_some, List, [], ◌∷◌, ◌++◌, length, map, filter, take, codes, decimal}
use Rattle.std.specs.List.{range_with_len, flat_map, slice_index_or}
use Rattle.atam.specs.TileSystem.{TileSystem}
use Rattle.design.specs.TileSets.{TileSet, system_of}
use Rattle.machine_text.specs.Machines.{TuringMachine, rule_among}
use Rattle.turing_compile.specs.declared.kind.Kind.{Kind}
use Rattle.turing_compile.specs.declared.kind.Kind.TheVariants.{First, Action, FromLeft, FromRight, RightOf, LeftOf}
use Rattle.turing_compile.specs.declared.kind.Label.{Label}
use Rattle.turing_compile.specs.declared.kind.Label.TheVariants.{Symbol, Acting, Rightward, Leftward, HeadRightward, HeadLeftward, Joint}
use Rattle.turing_compile.specs.Tiles.{side}

module _ (M : TuringMachine) where
  -- the pairs of a state and a symbol, by state and then by symbol
  abbrev pub pairs : List (ℕ × ℕ)
  pairs = flat_map (λ q. map (λ a. (q, a)) (range_with_len 0 (length M.symbols))) (range_with_len 0 (length M.states))

  -- those of pairs that have a rule
  abbrev pub ruled : List (ℕ × ℕ) → List (ℕ × ℕ)
  ruled some = filter (λ pair. is_some (rule_among M.rules pair.0 pair.1)) some

  -- the place of a pair among all pairs, and among those that have a rule
  abbrev pub pair_number : ℕ × ℕ → ℕ
  pair_number pair = pair.0 * length M.symbols + pair.1

  abbrev pub rules_before : ℕ × ℕ → ℕ
  rules_before pair = length (ruled (take (pair_number pair) pairs))

  -- how many kinds are of cells and of rules, and how many labels of symbols and of rules
  abbrev pub past_actions : ℕ
  past_actions = M.cells + length (ruled pairs)

  abbrev pub past_acting : ℕ
  past_acting = length M.symbols + length (ruled pairs)

  -- the names of a state, of a symbol, and of both
  abbrev pub state_name : ℕ → List ℕ
  state_name q = slice_index_or M.states q []

  abbrev pub symbol_name : ℕ → List ℕ
  symbol_name a = slice_index_or M.symbols a []

  abbrev pub pair_name : ℕ → ℕ → List ℕ
  pair_name q a = state_name q ++ codes ":" ++ symbol_name a

  -- the table of kinds: the place of each in the list of kinds, and its name
  abbrev pub kind_row : Kind → ℕ × List ℕ
  kind_row (First i) = (i, codes "t:" ++ decimal i)
  kind_row (Action q a) = (M.cells + rules_before (q, a), codes "a:" ++ pair_name q a)
  kind_row (FromLeft q a) = (past_actions + pair_number (q, a), codes "R:" ++ pair_name q a)
  kind_row (FromRight q a) =
      (past_actions + length pairs + pair_number (q, a), codes "L:" ++ pair_name q a)
  kind_row (RightOf a) = (past_actions + 2 * length pairs + a, codes "r:" ++ symbol_name a)
  kind_row (LeftOf a) =
      (past_actions + 2 * length pairs + length M.symbols + a, codes "l:" ++ symbol_name a)

  -- The table of labels: the place of each in the list of labels, its strength and its name. Those
  -- that hold a tile alone have strength 2.
  abbrev pub label_row : Label → ℕ × ℕ × List ℕ
  label_row (Symbol a) = (a, 1, codes "s:" ++ symbol_name a)
  label_row (Acting q a) = (length M.symbols + rules_before (q, a), 2, codes "h:" ++ pair_name q a)
  label_row Rightward = (past_acting, 1, codes "r")
  label_row Leftward = (past_acting + 1, 1, codes "l")
  label_row (HeadRightward q) = (past_acting + 2 + q, 1, codes "R:" ++ state_name q)
  label_row (HeadLeftward q) =
      (past_acting + 2 + length M.states + q, 1, codes "L:" ++ state_name q)
  label_row (Joint i) = (past_acting + 1 + 2 * length M.states + i, 2, codes "c:" ++ decimal i)

  abbrev pub tiles_of : TileSet Kind Label
  tiles_of = record {
    -- in the order of the types and of the glues
    kinds = map First (range_with_len 0 M.cells)
        ++ (map (λ p. Action p.0 p.1) (ruled pairs)
        ++ (map (λ p. FromLeft p.0 p.1) pairs
        ++ (map (λ p. FromRight p.0 p.1) pairs
        ++ (map RightOf (range_with_len 0 (length M.symbols))
        ++ map LeftOf (range_with_len 0 (length M.symbols))))));
    labels = map Symbol (range_with_len 0 (length M.symbols))
        ++ (map (λ p. Acting p.0 p.1) (ruled pairs)
        ++ (Rightward ∷ Leftward
        ∷ (map HeadRightward (range_with_len 0 (length M.states))
        ++ (map HeadLeftward (range_with_len 0 (length M.states))
        ++ map Joint (range_with_len 1 (M.cells - 1))))));
    side = side M;
    kind_row = kind_row;
    label_row = label_row;
  }

  -- the system of the machine in the box of its cells and rows, the first cell of row 0 as its seed
  abbrev pub compiled : TileSystem
  compiled = system_of tiles_of (First 0)
      (record { x0 = pos 0; y0 = pos 0; x1 = pos (M.cells - 1); y1 = pos (M.rows - 1) })
