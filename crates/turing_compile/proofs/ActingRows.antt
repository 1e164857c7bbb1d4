-- The row over a head that acts is held, cell by cell.
use Rattle.std.proofs.Common.{◌-◌, ◌≡◌, ◌≢◌, ◌<◌, ◌≤◌, ◌==◌, nat_le, cond, is_some, ℕ, zero, suc, true, false, Option, Some, None, refl, sym, ◌∙◌, ap, inl, inr, arith}
use Rattle.std.specs.Prelude.{slice_index}
use Rattle.std.proofs.Math.Nat.{le_refl}
use Rattle.std.proofs.lemmas.Option.{same_Some, none-some}
use Rattle.std.proofs.lemmas.Bool.{cases_lt}
use Rattle.atam.specs.declared.site.Side.{Side}
use Rattle.atam.specs.declared.site.Side.TheVariants.{North, East, South, West}
use Rattle.design.specs.TileSets.{TileSet}
use Rattle.design.specs.RowDesigns.{IsHeldByOneOrFree, IsHeldByTwoOrFree, label_shown, label_offered, label_strength}
use Rattle.design.proofs.RowSteps.{nat_le-true, nat_le-false, weak_none, shows-some, shows-none, from_east, from_west, east_none, free_east, IsHeld}
use Rattle.machine_text.specs.declared.rule.Turn.{Turn}
use Rattle.machine_text.specs.declared.rule.Turn.TheVariants.{Left, Right, Stay}
use Rattle.machine_text.specs.declared.rule.Rule.{Rule}
use Rattle.machine_text.specs.declared.config.Head.{Head}
use Rattle.machine_text.specs.Machines.{TuringMachine, Configuration, action, IsMachine, IsConfigOf}
use Rattle.turing_compile.specs.declared.kind.Kind.{Kind}
use Rattle.turing_compile.specs.declared.kind.Kind.TheVariants.{FromLeft, FromRight, RightOf, LeftOf}
use Rattle.turing_compile.specs.declared.kind.Label.{Label}
use Rattle.turing_compile.specs.declared.kind.Label.TheVariants.{Symbol, Acting, Rightward, Leftward, HeadRightward, HeadLeftward}
use Rattle.turing_compile.specs.Tiles.{action_side, side}
use Rattle.turing_compile.specs.Shown.{state_in, cell_of}
use Rattle.turing_compile.specs.Inner.Rows.{strength}
use Rattle.turing_compile.specs.Inner.Upward.{upward}
use Rattle.turing_compile.specs.Compiled.{tiles_of}
use Rattle.turing_compile.proofs.MachineFacts.{head_within}
use Rattle.turing_compile.proofs.Sides.{eqb_same, eqb_other, action_south, is_Action, is_LeftOf, is_FromRight, is_RightOf, is_FromLeft}
use Rattle.turing_compile.proofs.Configs.{left_of, right_of, kind_over, over_left, over_right, over_here, side_here}

module _ (M : TuringMachine) where
  abbrev tiles : TileSet Kind Label
  tiles = tiles_of M

  -- a row shows a configuration upwards, and ends with its cells
  abbrev pub IsUnder : (ℕ → Option Kind) → Configuration → Type 0
  IsUnder under c = (i : ℕ) → i ≤ M.cells - 1 → label_shown tiles under i North ≡ upward M (cell_of c i)

  abbrev pub EndsAt : (ℕ → Option Kind) → Type 0
  EndsAt under = (i : ℕ) → M.cells - 1 < i → under i ≡ None

  module _ (is_machine : IsMachine M) (under : ℕ → Option Kind) (c : Configuration) (head : Head) (act : Rule) (config : IsConfigOf M c) (is_under : IsUnder under c)
      (ends : EndsAt under) (there : c.head ≡ Some head) (acts : action M c head ≡ Some act) where
    pub full : ℕ → Option Kind
    full i = cond (nat_le i (M.cells - 1)) (Some (kind_over c head act i)) None

    full_there : (i : ℕ) → i ≤ M.cells - 1 → full i ≡ Some (kind_over c head act i)
    unfolding full
    full_there i within = rw (nat_le-true i (M.cells - 1) within) refl

    full_past : (i : ℕ) → M.cells - 1 < i → full i ≡ None
    unfolding full
    full_past i past = rw (nat_le-false i (M.cells - 1) past) refl

    full_from : (i : ℕ) (k : Kind) → full i ≡ Some k → kind_over c head act i ≡ k
    full_from i k wanted = elim (cases_lt (M.cells - 1) i) [
      | inl past ↦ absurd (none-some k (sym (full_past i past) ∙ wanted))
      | inr within ↦ same_Some (kind_over c head act i) k (sym (full_there i within) ∙ wanted)
    ]

    full_shows : (i : ℕ) (d : Side) → i ≤ M.cells - 1 → label_shown tiles full i d ≡ side M (kind_over c head act i) d
    full_shows i d within = shows-some tiles full i d (kind_over c head act i) (full_there i within)

    abbrev h : ℕ
    h = head.cell

    abbrev q : ℕ
    q = head.state

    -- the symbol of a cell
    abbrev at : ℕ → ℕ
    at i = slice_index c.symbols i

    h_within : h ≤ M.cells - 1
    h_within = (head_within M is_machine c config head there).0

    -- what is under the head, and under the other cells
    up_head : upward M (cell_of c h) ≡ Some (Acting q (at h))
    up_head =
        ap (λ o. upward M (record { symbol = at h; state = o })) (ap (λ hd. state_in hd h) there ∙ ap (λ t. cond t (Some q) None) (eqb_same h))
        ∙ ap (λ o. cond (is_some o) (Some (Acting q (at h))) None) acts

    up_other : (i : ℕ) → i ≢ h → upward M (cell_of c i) ≡ Some (Symbol (at i))
    up_other i other = ap (λ o. upward M (record { symbol = at i; state = o })) (ap (λ hd. state_in hd i) there ∙ ap (λ t. cond t (Some q) None) (eqb_other i h other))

    full_start : IsHeldByOneOrFree tiles (full h) (label_offered tiles under full h h) South
    full_start = inl (record {
      label = Acting q (at h);
      offered = is_under h h_within ∙ up_head;
      strong = refl;
      fits = λ k wanted. ap (λ l. side M l South) (sym (full_from h k wanted) ∙ over_here M c head act) ∙ side_here M c head act South acts ∙ action_south M q (at h) act.state act.symbol act.turn;
      only = λ k listed south. full_there h h_within ∙ ap (λ l. Some l) (over_here M c head act ∙ sym (is_Action M k q (at h) south));
    })

    -- the labels that go out from the head
    west_label : Turn → ℕ → Label
    west_label Left i = cond (suc i == h) (HeadLeftward act.state) Leftward
    west_label Right i = Leftward
    west_label Stay i = Leftward

    east_label : Turn → ℕ → Label
    east_label Right i = cond (i == suc h) (HeadRightward act.state) Rightward
    east_label Left i = Rightward
    east_label Stay i = Rightward

    -- a kind with labels on two sides is the only one that has them
    record IsOne (k : Kind) (lower beside : Label) (d : Side) : Type 0 where
      fits_below : side M k South ≡ Some lower
      fits_beside : side M k d ≡ Some beside
      weak : strength M beside ≡ 1
      only : (l : Kind) → side M l South ≡ Some lower → side M l d ≡ Some beside → l ≡ k

    -- a tile to the left of the head is the one with its labels
    left_one : (turn : Turn) (i : ℕ) → IsOne (left_of c head turn act.state i) (Symbol (at i)) (west_label turn i) East
    unfolding west_label
    left_one Right i = record { fits_below = refl; fits_beside = refl; weak = refl; only = λ k south east. is_LeftOf M k (at i) south east }
    left_one Stay i = record { fits_below = refl; fits_beside = refl; weak = refl; only = λ k south east. is_LeftOf M k (at i) south east }
    left_one Left i = elim (suc i == h) as (λ t. IsOne (cond t (FromRight act.state (at i)) (LeftOf (at i))) (Symbol (at i)) (cond t (HeadLeftward act.state) Leftward) East) [
      | true ↦ record { fits_below = refl; fits_beside = refl; weak = refl; only = λ k south east. is_FromRight M k act.state (at i) south east }
      | false ↦ record { fits_below = refl; fits_beside = refl; weak = refl; only = λ k south east. is_LeftOf M k (at i) south east }
    ]

    right_one : (turn : Turn) (i : ℕ) → IsOne (right_of c head turn act.state i) (Symbol (at i)) (east_label turn i) West
    unfolding east_label
    right_one Left i = record { fits_below = refl; fits_beside = refl; weak = refl; only = λ k south west. is_RightOf M k (at i) south west }
    right_one Stay i = record { fits_below = refl; fits_beside = refl; weak = refl; only = λ k south west. is_RightOf M k (at i) south west }
    right_one Right i = elim (i == suc h) as (λ t. IsOne (cond t (FromLeft act.state (at i)) (RightOf (at i))) (Symbol (at i)) (cond t (HeadRightward act.state) Rightward) West) [
      | true ↦ record { fits_below = refl; fits_beside = refl; weak = refl; only = λ k south west. is_FromLeft M k act.state (at i) south west }
      | false ↦ record { fits_below = refl; fits_beside = refl; weak = refl; only = λ k south west. is_RightOf M k (at i) south west }
    ]

    -- what the next tile towards the head shows
    to_west : (i : ℕ) → i < h → side M (kind_over c head act (suc i)) West ≡ Some (west_label act.turn i)
    unfolding west_label
    to_west i less = elim (cases_lt (suc i) h) [
      | inl more ↦ ap (λ k. side M k West) (over_left M c head act (suc i) more) ∙ further act.turn more
      | inr end ↦
          let same : suc i ≡ h = omega (arith, less, end) in
          ap (λ n. side M (kind_over c head act n) West) same ∙ ap (λ k. side M k West) (over_here M c head act) ∙ side_here M c head act West acts ∙ nearest act.turn same
    ]
      where
        further : (turn : Turn) → suc i < h → side M (left_of c head turn act.state (suc i)) West ≡ Some (west_label turn i)
        further Left more =
            (elim (suc (suc i) == h) as (λ t. side M (cond t (FromRight act.state (at (suc i))) (LeftOf (at (suc i)))) West ≡ Some Leftward) [ true ↦ refl | false ↦ refl ])
            ∙ sym (ap (λ t. Some (cond t (HeadLeftward act.state) Leftward)) (eqb_other (suc i) h (λ e. let never : ⊥ = omega (arith, e, more) in never)))
        further Right more = refl
        further Stay more = refl

        nearest : (turn : Turn) → suc i ≡ h → action_side M q (at h) act.state act.symbol turn West ≡ Some (west_label turn i)
        nearest Left same = sym (ap (λ t. Some (cond t (HeadLeftward act.state) Leftward)) (ap (λ n. n == h) same ∙ eqb_same h))
        nearest Right same = refl
        nearest Stay same = refl

    to_east : (i : ℕ) → h < suc i → side M (kind_over c head act i) East ≡ Some (east_label act.turn (suc i))
    unfolding east_label
    to_east i more = elim (cases_lt h i) [
      | inl past ↦ ap (λ k. side M k East) (over_right M c head act i past) ∙ further act.turn past
      | inr end ↦
          let same : i ≡ h = omega (arith, more, end) in
          ap (λ n. side M (kind_over c head act n) East) same ∙ ap (λ k. side M k East) (over_here M c head act) ∙ side_here M c head act East acts ∙ nearest act.turn same
    ]
      where
        further : (turn : Turn) → h < i → side M (right_of c head turn act.state i) East ≡ Some (east_label turn (suc i))
        further Right past =
            (elim (i == suc h) as (λ t. side M (cond t (FromLeft act.state (at i)) (RightOf (at i))) East ≡ Some Rightward) [ true ↦ refl | false ↦ refl ])
            ∙ sym (ap (λ t. Some (cond t (HeadRightward act.state) Rightward)) (eqb_other (suc i) (suc h) (λ e. let never : ⊥ = omega (arith, e, past) in never)))
        further Left past = refl
        further Stay past = refl

        nearest : (turn : Turn) → i ≡ h → action_side M q (at h) act.state act.symbol turn East ≡ Some (east_label turn (suc i))
        nearest Right same = sym (ap (λ t. Some (cond t (HeadRightward act.state) Rightward)) (ap (λ n. suc n == suc h) same ∙ eqb_same (suc h)))
        nearest Left same = refl
        nearest Stay same = refl

    full_west : (i : ℕ) → i < h → IsHeldByTwoOrFree tiles (full i) (label_offered tiles under full h i) East
    full_west i less =
        let inside = h_within in
        let within : i ≤ M.cells - 1 = omega (arith, less, inside) in
        let l = left_one act.turn i in
        let kind = over_left M c head act i less in
        inl (record {
          lower = Symbol (at i);
          side = west_label act.turn i;
          offered_below = is_under i within ∙ up_other i (λ e. let never : ⊥ = omega (arith, e, less) in never);
          offered_beside = from_east tiles under full h i less ∙ full_shows (suc i) West (omega (arith, less, inside)) ∙ to_west i less;
          lower_strength = refl;
          side_strength = l.weak;
          fits_below = λ k wanted. ap (λ m. side M m South) (sym (full_from i k wanted) ∙ kind) ∙ l.fits_below;
          fits_beside = λ k wanted. ap (λ m. side M m East) (sym (full_from i k wanted) ∙ kind) ∙ l.fits_beside;
          only = λ k listed south east. full_there i within ∙ ap (λ m. Some m) (kind ∙ sym (l.only k south east));
        })

    full_east : (i : ℕ) → h < i → IsHeldByTwoOrFree tiles (full i) (label_offered tiles under full h i) West
    full_east zero more = let never : ⊥ = omega (arith, more) in absurd never
    full_east (suc i) more = elim (cases_lt (M.cells - 1) (suc i)) [
      | inl past ↦
          let south = shows-none tiles under (suc i) North (ends (suc i) past) in
          inr (free_east tiles under full h (suc i) (full_past (suc i) past) (east_none tiles under full h (suc i) (omega (arith, more))) south
          (rw (from_west tiles under full h (suc i) more) beside_weak))
      | inr within ↦
          let r = right_one act.turn (suc i) in
          let kind = over_right M c head act (suc i) more in
          inl (record {
            lower = Symbol (at (suc i));
            side = east_label act.turn (suc i);
            offered_below = is_under (suc i) within ∙ up_other (suc i) (λ e. let never : ⊥ = omega (arith, e, more) in never);
            offered_beside = from_west tiles under full h (suc i) more ∙ full_shows i East (omega (arith, within)) ∙ to_east i more;
            lower_strength = refl;
            side_strength = r.weak;
            fits_below = λ k wanted. ap (λ m. side M m South) (sym (full_from (suc i) k wanted) ∙ kind) ∙ r.fits_below;
            fits_beside = λ k wanted. ap (λ m. side M m West) (sym (full_from (suc i) k wanted) ∙ kind) ∙ r.fits_beside;
            only = λ k listed south west. full_there (suc i) within ∙ ap (λ m. Some m) (kind ∙ sym (r.only k south west));
          })
    ]
      where
        beside_weak : label_strength tiles (label_shown tiles full i East) ≤ 1
        beside_weak = elim (cases_lt (M.cells - 1) i) [
          | inl past ↦ weak_none tiles (label_shown tiles full i East) (shows-none tiles full i East (full_past i past))
          | inr within ↦ rw (full_shows i East within, to_east i more, (right_one act.turn (suc i)).weak) (le_refl 1)
        ]

    pub full_held : IsHeld tiles under full h
    full_held = record { at_start = full_start; west_of_start = full_west; east_of_start = full_east }

    -- it is the row that the table is to grow there
    pub full_is : (r : ℕ → Option Kind) → ((i : ℕ) → r i ≡ cond (nat_le i (M.cells - 1)) (Some (kind_over c head act i)) None) → (i : ℕ) → r i ≡ full i
    unfolding full
    full_is r same i = same i
