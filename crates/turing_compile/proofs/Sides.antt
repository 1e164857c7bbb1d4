-- Which kind has which labels.
use Rattle.std.proofs.Common.{◌≡◌, ◌≢◌, ◌≤◌, ◌==◌, ℕ, zero, suc, Bool, true, false, cond, slice_index, Option, Some, None, option_and_then, refl, sym, ◌∙◌, ap, inl, inr, zero-le}
use Rattle.std.proofs.Math.Nat.{le_refl}
use Rattle.std.proofs.lemmas.Bool.Decides.{eqb_tells}
use Rattle.atam.specs.declared.site.Side.TheVariants.{North, East, South, West}
use Rattle.design.specs.RowDesigns.{label_strength}
use Rattle.machine_text.specs.declared.rule.Turn.{Turn}
use Rattle.machine_text.specs.declared.rule.Turn.TheVariants.{Left, Right, Stay}
use Rattle.machine_text.specs.declared.rule.Rule.{Rule}
use Rattle.machine_text.specs.Machines.{TuringMachine, rule_among, first}
use Rattle.turing_compile.specs.declared.kind.Kind.{Kind}
use Rattle.turing_compile.specs.declared.kind.Kind.TheVariants.{First, Action, FromLeft, FromRight, RightOf, LeftOf}
use Rattle.turing_compile.specs.declared.kind.Label.{Label}
use Rattle.turing_compile.specs.declared.kind.Label.TheVariants.{Symbol, Acting, Rightward, Leftward, HeadRightward, HeadLeftward, Joint}
use Rattle.turing_compile.specs.Tiles.{top, action_side, side}
use Rattle.turing_compile.specs.Shown.{cell_of}
use Rattle.turing_compile.specs.Inner.Upward.{upward}
use Rattle.turing_compile.specs.Compiled.{tiles_of}
use Rattle.turing_compile.proofs.MachineFacts.{first_symbol}

pub eqb_same : (n : ℕ) → (n == n) ≡ true
eqb_same n = elim (eqb_tells n n) [ inl same ↦ same.0 | inr other ↦ absurd (other.1 refl) ]

pub eqb_other : (m n : ℕ) → m ≢ n → (m == n) ≡ false
eqb_other m n differ = elim (eqb_tells m n) [ inl same ↦ absurd (differ same.1) | inr other ↦ other.0 ]

module _ (M : TuringMachine) where
  -- a tile of the first row turns up its cell
  pub first_north : (i : ℕ) → side M (First i) North ≡ upward M (cell_of (first M) i)
  first_north i = ap (λ a. cond (i == M.head) (top M 0 a) (Some (Symbol a))) (sym (first_symbol M i)) ∙ by (slice_index (first M).symbols i) (i == M.head)
    where
      by : (a : ℕ) (here : Bool) → cond here (top M 0 a) (Some (Symbol a)) ≡ upward M (record { symbol = a; state = cond here (Some 0) None })
      by a true = refl
      by a false = refl

  pub action_south : (q a p b : ℕ) (turn : Turn) → action_side M q a p b turn South ≡ Some (Acting q a)
  action_south q a p b Left = refl
  action_south q a p b Right = refl
  action_south q a p b Stay = refl

  pub is_First : (k : Kind) (i : ℕ) → side M k West ≡ Some (Joint (suc i)) → k ≡ First (suc i)
  is_First (First zero) i west = cc
  is_First (First (suc j)) i west = cc
  is_First (Action q a) i west = by (rule_among M.rules q a) west
    where
      by : (rule : Option Rule) → option_and_then (λ act. action_side M q a act.state act.symbol act.turn West) rule ≡ Some (Joint (suc i)) → Action q a ≡ First (suc i)
      by None west = cc
      by (Some act) west = turns act.state act.symbol act.turn west
        where
          turns : (p b : ℕ) (m : Turn) → action_side M q a p b m West ≡ Some (Joint (suc i)) → Action q a ≡ First (suc i)
          turns p b Left west = cc
          turns p b Right west = cc
          turns p b Stay west = cc
  is_First (FromLeft q a) i west = cc
  is_First (FromRight q a) i west = cc
  is_First (RightOf a) i west = cc
  is_First (LeftOf a) i west = cc

  action_label : (q a : ℕ) (g : Label) → side M (Action q a) South ≡ Some g → g ≡ Acting q a
  action_label q a g south = by (rule_among M.rules q a) south
    where
      by : (rule : Option Rule) → option_and_then (λ act. action_side M q a act.state act.symbol act.turn South) rule ≡ Some g → g ≡ Acting q a
      by None south = cc
      by (Some act) south = let h = action_south q a act.state act.symbol act.turn in cc

  pub is_Action : (k : Kind) (q a : ℕ) → side M k South ≡ Some (Acting q a) → k ≡ Action q a
  is_Action (First i) q a south = cc
  is_Action (Action p b) q a south = let h = action_label p b (Acting q a) south in cc
  is_Action (FromLeft p b) q a south = cc
  is_Action (FromRight p b) q a south = cc
  is_Action (RightOf b) q a south = cc
  is_Action (LeftOf b) q a south = cc

  pub is_LeftOf : (k : Kind) (a : ℕ) → side M k South ≡ Some (Symbol a) → side M k East ≡ Some Leftward → k ≡ LeftOf a
  is_LeftOf (First i) a south east = cc
  is_LeftOf (Action p b) a south east = let h = action_label p b (Symbol a) south in cc
  is_LeftOf (FromLeft p b) a south east = cc
  is_LeftOf (FromRight p b) a south east = cc
  is_LeftOf (RightOf b) a south east = cc
  is_LeftOf (LeftOf b) a south east = cc

  pub is_FromRight : (k : Kind) (q a : ℕ) → side M k South ≡ Some (Symbol a) → side M k East ≡ Some (HeadLeftward q) → k ≡ FromRight q a
  is_FromRight (First i) q a south east = cc
  is_FromRight (Action p b) q a south east = let h = action_label p b (Symbol a) south in cc
  is_FromRight (FromLeft p b) q a south east = cc
  is_FromRight (FromRight p b) q a south east = cc
  is_FromRight (RightOf b) q a south east = cc
  is_FromRight (LeftOf b) q a south east = cc

  pub is_RightOf : (k : Kind) (a : ℕ) → side M k South ≡ Some (Symbol a) → side M k West ≡ Some Rightward → k ≡ RightOf a
  is_RightOf (First i) a south west = cc
  is_RightOf (Action p b) a south west = let h = action_label p b (Symbol a) south in cc
  is_RightOf (FromLeft p b) a south west = cc
  is_RightOf (FromRight p b) a south west = cc
  is_RightOf (RightOf b) a south west = cc
  is_RightOf (LeftOf b) a south west = cc

  pub is_FromLeft : (k : Kind) (q a : ℕ) → side M k South ≡ Some (Symbol a) → side M k West ≡ Some (HeadRightward q) → k ≡ FromLeft q a
  is_FromLeft (First i) q a south west = cc
  is_FromLeft (Action p b) q a south west = let h = action_label p b (Symbol a) south in cc
  is_FromLeft (FromLeft p b) q a south west = cc
  is_FromLeft (FromRight p b) q a south west = cc
  is_FromLeft (RightOf b) q a south west = cc
  is_FromLeft (LeftOf b) q a south west = cc

  -- the tiles past the first row are weak to the sides
  abbrev weight : Option Label → ℕ
  weight o = label_strength (tiles_of M) o

  action_weak : (q a p b : ℕ) (turn : Turn) → (weight (action_side M q a p b turn East) ≤ 1) × (weight (action_side M q a p b turn West) ≤ 1)
  action_weak q a p b Left = (le_refl 1, le_refl 1)
  action_weak q a p b Right = (le_refl 1, le_refl 1)
  action_weak q a p b Stay = (le_refl 1, le_refl 1)

  pub weak_sides : (k : Kind) → ((i : ℕ) → k ≢ First i) → (weight (side M k East) ≤ 1) × (weight (side M k West) ≤ 1)
  weak_sides (First i) other = absurd (other i refl)
  weak_sides (Action q a) other = by (rule_among M.rules q a)
    where
      by : (rule : Option Rule) → (weight (option_and_then (λ act. action_side M q a act.state act.symbol act.turn East) rule) ≤ 1)
          × (weight (option_and_then (λ act. action_side M q a act.state act.symbol act.turn West) rule) ≤ 1)
      by None = (zero-le, zero-le)
      by (Some act) = action_weak q a act.state act.symbol act.turn
  weak_sides (FromLeft q a) other = (le_refl 1, le_refl 1)
  weak_sides (FromRight q a) other = (le_refl 1, le_refl 1)
  weak_sides (RightOf a) other = (le_refl 1, le_refl 1)
  weak_sides (LeftOf a) other = (le_refl 1, le_refl 1)
