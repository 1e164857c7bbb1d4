-- What workers win, together.
use Rattle.std.proofs.Common.{◌≡◌, ◌≢◌, ◌<◌, ◌≤◌, ◌+◌, ◌-◌, ◌^◌, ◌==◌, ℕ, zero, suc, not, List, [], ◌∷◌, ◌++◌, length, Contains, All, append-nil, append_assoc, eq-eqb, ne_eqb, bit_or, pow_pos, get_or, sum, length-append, lit≤, true, false, refl, sym, ◌∙◌, ap, subst, inl, inr, arith}
use Rattle.std.specs.Int.{bit_at}
use Rattle.std.proofs.lemmas.List.{get_or-map, length-map}
use Rattle.std.proofs.lemmas.List.Sums.{sum_by-cons}
use Rattle.std.proofs.Math.Nat.{pow-suc, pow-le-pow_right}
use Rattle.std.proofs.lemmas.Bool.{false≢true}
use Rattle.std.proofs.lemmas.Nat.Bits.{bit_at-lt, same_from_bits, bit_at_ones, bit_at_ones_above, bit_at_above}
use Rattle.std.proofs.lemmas.List.Elements.{filter-append, All-head, All-tail, All-contains, All-contains_itself, All-weaker, Contains-append_left, Contains-append_right, Contains-append_cases, Contains-push_cases, All-map}
use mathlib.Core.Logic.{dite}
use native.Mathlib.Decide.{ℕ_discrete, dec_lt}
use Rattle.atam.specs.TileSystem.{TileSystem, IsValid}
use Rattle.atam.specs.declared.place.Place.{Place}
use Rattle.atam.specs.Sites.{InBox}
use Rattle.atam.specs.Placements.{SamePlacements, HasDistinctSites}
use Rattle.atam.specs.Growth.{IsClosedInBox}
use Rattle.assembly.specs.Grids.{TileGrid}
use Rattle.grow_core.specs.declared.placed_tile.PlacedTile.{PlacedTile}
use Rattle.grow_core.specs.Core.{ScoutState, Owns, least, greatest, OwnsTwoOrMore, places, placed_by, HasDistinctTiles, IsNumbered}
use Rattle.grow_core.specs.Steps.{IsScoutOf, kept_tiles, tile_of}
use Rattle.grow_core.proofs.Lists.{filter-passed, filter-from, Contains-nil, map-part, all_pairs_append}
use Rattle.grow_core.proofs.Numbers.{IsTop, top, greatest-owned, left-owned, left-other, left-owns, alone, owns_itself, both-owned, either-owns, least-of_greatest, least-of_rest, by_itself, by_other, by_none, some_rest, some_owned, least-is}
use Rattle.site_table.specs.Seats.{SeatValue, GoesOn, GrownValue, Closes}
use Rattle.site_table.specs.Rule.{IsPossible}
use Rattle.frontier_seat.specs.declared.growing.Growing.{Growing}
use Rattle.frontier_seat.specs.Growths.{GrowsOn}
use Rattle.frontier_seat.proofs.Looked.{closed_same, goes_nowhere}
use Rattle.atam.proofs.Tiles.{same_back, SamePlacements-trans}
use Rattle.atam.proofs.Count.{count_in_box, count_in_part}
use Rattle.assembly.specs.Cells.{cell_count}
use Rattle.atam.proofs.Placements.{same_place}
use Rattle.grow_core.proofs.Own.{mine_tile}
use Rattle.grow_core.proofs.Listed.{owned-below, unplaced}
use Rattle.grow_core.proofs.Stepped.{quiet}
use Rattle.grow_workers.specs.declared.leavings.Part.{Part}
use Rattle.grow_workers.specs.Inner.Wins.{HasNumbers, IsParted, OthersWin, PartedGrowth}
use Rattle.grow_workers.specs.Workers.{GrewOn, IsGrownBy, WinsUnder, greatest_but, owned_number, worker_number}
use Rattle.atam.proofs.Lists.{Contains-here}

-- tiles of one number
by_all : (n : ℕ) (xs : List PlacedTile) → All (λ t. t.placer ≡ n) xs → placed_by n xs ≡ xs
by_all n [] all = refl
by_all n (x ∷ xs) all = rw (eq-eqb x.placer n (All-head (λ t. t.placer ≡ n) x xs all)) (ap (λ l. x ∷ l) (by_all n xs (All-tail (λ t. t.placer ≡ n) x xs all)))

by-append : (n : ℕ) (xs ys : List PlacedTile) → placed_by n (xs ++ ys) ≡ placed_by n xs ++ placed_by n ys
by-append n xs ys = filter-append (λ t. t.placer == n) xs ys

-- one worker alone
pub alone_grew : (sys : TileSystem) (old : SeatValue) (start : TileGrid) (before after : Growing) → before.seat ≡ old → before.grid ≡ start → before.won ≡ 0 → start.area ≡ sys.area → GrowsOn before after →
    SamePlacements after.seat.scout.seen after.grid.tiles → PartedGrowth sys old start after.seat after.grid after.won []
alone_grew sys old start before after seat grid none area goes seen =
    let won = goes.won in
    let mine : after.seat.scout.mine ≡ old.scout.mine ++ goes.wins = goes.mine ∙ ap (λ (s : SeatValue). s.scout.mine ++ goes.wins) seat in
    let placer : All (λ (t : PlacedTile). t.placer ≡ least old.scout.owned) goes.wins = subst (λ (s : SeatValue). All (λ (t : PlacedTile). t.placer ≡ least s.scout.owned) goes.wins) seat goes.placer in
    record {
      seat = subst (λ (s : SeatValue). GoesOn s after.seat) seat goes.seat;
      area = goes.area ∙ (ap (λ g. g.area) grid ∙ area);
      seen = seen;
      kept = λ p c. goes.kept p (subst (λ g. Contains g.tiles p) (sym grid) c);
      first_wins = record {
        wins = goes.wins;
        order = ap (placed_by (least old.scout.owned)) mine ∙ (by-append (least old.scout.owned) old.scout.mine goes.wins ∙ ap (λ l. placed_by (least old.scout.owned) old.scout.mine ++ l) (by_all (least old.scout.owned) goes.wins placer));
        many = omega (arith, won, none);
      };
      others_win = λ n own other. ap (placed_by n) mine ∙ (by-append n old.scout.mine goes.wins
          ∙ (ap (λ l. placed_by n old.scout.mine ++ l) (by_none n goes.wins (λ t c e. other (sym e ∙ All-contains (λ (u : PlacedTile). u.placer ≡ least old.scout.owned) goes.wins t placer c)))
          ∙ append-nil (placed_by n old.scout.mine)));
    }

-- what its scout leaves
pub scout_grew : (sys : TileSystem) (old : SeatValue) (start : TileGrid) (before after : Growing) (part : Part) → before ≡ record { seat = old; grid = start; won = 0 } → after ≡ record { seat = part.seat; grid = part.grid; won = part.won } →
    start.area ≡ sys.area → GrowsOn before after → SamePlacements part.seat.scout.seen part.grid.tiles → PartedGrowth sys old start part.seat part.grid part.won []
scout_grew sys old start before after part begun left area goes seen =
    let left_over : Growing = record { seat = part.seat; grid = part.grid; won = part.won } in
    alone_grew sys old start before left_over (ap (λ (g : Growing). g.seat) begun) (ap (λ (g : Growing). g.grid) begun) (ap (λ (g : Growing). g.won) begun) area (subst (GrowsOn before) left goes) seen

-- where nothing was done
pub nothing_grew : (sys : TileSystem) (seat : SeatValue) (grid : TileGrid) → grid.area ≡ sys.area → SamePlacements seat.scout.seen grid.tiles → PartedGrowth sys seat grid seat grid 0 []
nothing_grew sys seat grid area seen =
    let g : Growing = record { seat = seat; grid = grid; won = 0 } in
    alone_grew sys seat grid g g refl refl refl area (goes_nowhere g) seen

-- what is won under a number depends on the tiles of this number alone
gains-same : (a b c d : List PlacedTile) (n k : ℕ) → placed_by n c ≡ placed_by n a → placed_by n d ≡ placed_by n b → WinsUnder a b n k → WinsUnder c d n k
gains-same a b c d n k one two gains = record { wins = gains.wins; order = two ∙ (gains.order ∙ ap (λ l. l ++ gains.wins) (sym one)); many = gains.many }

others-same : (a b c d : List PlacedTile) (owned : ℕ) (wins : List ℕ) → 0 < owned → owned < 2 ^ 64 → ((n : ℕ) → Owns owned n → placed_by n c ≡ placed_by n a) → ((n : ℕ) → Owns owned n → placed_by n d ≡ placed_by n b) →
    OthersWin a b owned wins → OthersWin c d owned wins
others-same a b c d owned [] some small one two others = λ n own other. two n own ∙ (others n own other ∙ sym (one n own))
others-same a b c d owned (k ∷ wins) some small one two others =
    let is_top : IsTop owned = top owned some small in
    let g = greatest owned in
    let low = is_top.low in (
      others.0,
      gains-same a b c d g k (one g (greatest-owned owned is_top)) (two g (greatest-owned owned is_top)) others.1,
      others-same a b c d (owned - 2 ^ g) wins (some_rest owned some small others.0) (omega (arith, small)) (λ n own. one n (left-owned owned is_top n own)) (λ n own. two n (left-owned owned is_top n own)) others.2,
    )

-- what was parted and joined again owns the same numbers
pub rejoined-owned : (owned : ℕ) → 0 < owned → owned < 2 ^ 64 → bit_or (owned - 2 ^ greatest owned) (2 ^ greatest owned) ≡ owned
rejoined-owned owned live small =
    let t = top owned live small in
    same_from_bits (bit_or (owned - 2 ^ greatest owned) (2 ^ greatest owned)) owned (λ n.
    let a = bit_at-lt (bit_or (owned - 2 ^ greatest owned) (2 ^ greatest owned)) n in
    let b = bit_at-lt owned n in
    dite (ℕ_discrete (bit_at owned n) 1)
    (λ own. dite (ℕ_discrete n (greatest owned))
    (λ e. either-owns (owned - 2 ^ greatest owned) (2 ^ greatest owned) n (inr (subst (Owns (2 ^ greatest owned)) (sym e) (owns_itself owned t))) ∙ sym own)
    (λ f. either-owns (owned - 2 ^ greatest owned) (2 ^ greatest owned) n (inl (left-owns owned t n own f)) ∙ sym own))
    (λ not_own. dite (ℕ_discrete (bit_at (bit_or (owned - 2 ^ greatest owned) (2 ^ greatest owned)) n) 1)
    (λ own. elim (both-owned (owned - 2 ^ greatest owned) (2 ^ greatest owned) n own) [
      | inl one ↦ absurd (not_own (left-owned owned t n one))
      | inr two ↦ absurd (not_own (subst (Owns owned) (sym (alone owned t n two)) (greatest-owned owned t)))
    ])
    (λ other. omega (arith, a, b, not_own, other))))

-- the numbers of a split
pub two_numbers : (left owned : ℕ) → 1 < left → HasNumbers left owned → OwnsTwoOrMore owned × HasNumbers (left - 1) (owned - 2 ^ greatest owned)
two_numbers zero owned many has = let never : ⊥ = omega (arith, many) in absurd never
two_numbers (suc zero) owned many has = let never : ⊥ = omega (arith, many) in absurd never
two_numbers (suc (suc k)) owned many has = let e : suc (suc k) - 1 ≡ suc k = omega arith in (has.0, subst (λ n. HasNumbers n (owned - 2 ^ greatest owned)) (sym e) has.1)

-- two assemblies in a row
pub SamePlacements-append : (a b c d : List Place) → SamePlacements a c → SamePlacements b d → SamePlacements (a ++ b) (c ++ d)
SamePlacements-append a b c d first second = record {
  part = λ p in_both. elim (Contains-append_cases a b p in_both) [ inl one ↦ Contains-append_left c d p (first.part p one) | inr other ↦ Contains-append_right c d p (second.part p other) ];
  whole = λ p in_both. elim (Contains-append_cases c d p in_both) [ inl one ↦ Contains-append_left a b p (first.whole p one) | inr other ↦ Contains-append_right a b p (second.whole p other) ];
}

-- what a seat that joined another has seen is what both grids have
pub united_seen : (one other all tiles more both : List Place) → SamePlacements one tiles → SamePlacements other more → SamePlacements (one ++ other) all → SamePlacements (tiles ++ more) both → SamePlacements all both
united_seen one other all tiles more both first second joined merged =
    SamePlacements-trans all (one ++ other) both (same_back (one ++ other) all joined)
    (SamePlacements-trans (one ++ other) (tiles ++ more) both (SamePlacements-append one other tiles more first second) merged)

-- Workers on the kept part of a seat and one on the given part are workers on the whole.
module _ (sys : TileSystem) (old kept0 kept1 given0 given1 new : SeatValue) (start grid other both : TileGrid) (first won : ℕ) (others : List ℕ) (parted : IsParted old kept0 given0)
    (rest : PartedGrowth sys kept0 start kept1 grid first others) (part : PartedGrowth sys given0 start given1 other won []) (real_kept : IsPossible sys kept1.scout) (real_given : IsPossible sys given1.scout)
    (table : new.table ≡ old.table) (system : new.sys ≡ old.sys)
    (joined : IsScoutOf (bit_or kept1.scout.owned given1.scout.owned) (kept1.scout.seen ++ given1.scout.seen) (kept1.scout.mine ++ given1.scout.mine) new.scout)
    (area : both.area ≡ grid.area) (merged : SamePlacements (grid.tiles ++ other.tiles) both.tiles) where
  abbrev owned : ℕ
  owned = old.scout.owned

  abbrev g : ℕ
  g = greatest owned

  some : 0 < owned
  some = parted.real.scout.some_number

  small : owned < 2 ^ 64
  small = parted.real.scout.numbers

  is_top : IsTop owned
  is_top = top owned some small

  kept_owned : kept1.scout.owned ≡ owned - 2 ^ g
  kept_owned = rest.seat.owned ∙ parted.is_kept.owned

  given_owned : given1.scout.owned ≡ 2 ^ g
  given_owned = part.seat.owned ∙ parted.is_given.owned

  same_owned : new.scout.owned ≡ owned
  same_owned = joined.owned ∙ ((λ i. bit_or (kept_owned i) (given_owned i)) ∙ rejoined-owned owned some small)

  -- the given number
  name : least given0.scout.owned ≡ g
  name = ap least parted.is_given.owned ∙ least-of_greatest owned some small

  -- the given part has won under its number alone
  given_rests : (n : ℕ) → n ≢ g → placed_by n given1.scout.mine ≡ []
  given_rests n other = dite (ℕ_discrete (bit_at given1.scout.owned n) 1)
      (λ own. absurd (other (alone owned is_top n (subst (λ m. Owns m n) given_owned own))))
      (λ none. by_none n given1.scout.mine (λ t c e. none (subst (Owns given1.scout.owned) e (real_given.scout.mine_owned t c))))

  kept_rests : placed_by g kept1.scout.mine ≡ []
  kept_rests = by_none g kept1.scout.mine (λ t c e. left-other owned is_top t.placer (subst (λ m. Owns m t.placer) kept_owned (real_kept.scout.mine_owned t c)) e)

  mine_by : (n : ℕ) → placed_by n new.scout.mine ≡ placed_by n kept1.scout.mine ++ placed_by n given1.scout.mine
  mine_by n = ap (placed_by n) joined.mine ∙ by-append n kept1.scout.mine given1.scout.mine

  kept_wins : (n : ℕ) → n ≢ g → placed_by n new.scout.mine ≡ placed_by n kept1.scout.mine
  kept_wins n other = mine_by n ∙ (ap (λ l. placed_by n kept1.scout.mine ++ l) (given_rests n other) ∙ append-nil (placed_by n kept1.scout.mine))

  kept_before : (n : ℕ) → n ≢ g → placed_by n old.scout.mine ≡ placed_by n kept0.scout.mine
  kept_before n other = sym (ap (placed_by n) parted.is_kept.mine ∙ by_other n g old.scout.mine other)

  given_gains : WinsUnder old.scout.mine new.scout.mine g won
  given_gains =
      gains-same given0.scout.mine given1.scout.mine old.scout.mine new.scout.mine g won
      (sym (ap (placed_by g) parted.is_given.mine ∙ by_itself g old.scout.mine))
      (mine_by g ∙ ap (λ l. l ++ placed_by g given1.scout.mine) kept_rests)
      (subst (λ n. WinsUnder given0.scout.mine given1.scout.mine n won) name part.first_wins)

  rest_some : 0 < owned - 2 ^ g
  rest_some = some_rest owned some small parted.two

  rest_small : owned - 2 ^ g < 2 ^ 64
  rest_small = omega (arith, small)

  rest_least : least kept0.scout.owned ≡ least owned
  rest_least = ap least parted.is_kept.owned ∙ least-of_rest owned some small parted.two

  least_other : least owned ≢ g
  least_other e = parted.two e

  first_gains : WinsUnder old.scout.mine new.scout.mine (least owned) first
  first_gains = gains-same kept0.scout.mine kept1.scout.mine old.scout.mine new.scout.mine (least owned) first (kept_before (least owned) least_other) (kept_wins (least owned) least_other)
      (subst (λ n. WinsUnder kept0.scout.mine kept1.scout.mine n first) rest_least rest.first_wins)

  others_gain : OthersWin old.scout.mine new.scout.mine (owned - 2 ^ g) others
  others_gain = others-same kept0.scout.mine kept1.scout.mine old.scout.mine new.scout.mine (owned - 2 ^ g) others rest_some rest_small
      (λ n own. kept_before n (left-other owned is_top n own)) (λ n own. kept_wins n (left-other owned is_top n own))
      (subst (λ m. OthersWin kept0.scout.mine kept1.scout.mine m others) parted.is_kept.owned rest.others_win)

  seen_both : SamePlacements new.scout.seen both.tiles
  seen_both = united_seen kept1.scout.seen given1.scout.seen new.scout.seen grid.tiles other.tiles both.tiles rest.seen part.seen joined.seen merged

  pub united_grew : PartedGrowth sys old start new both first (won ∷ others)
  united_grew = record {
    seat = record { table = table; sys = system; owned = same_owned };
    area = area ∙ rest.area;
    seen = seen_both;
    kept = λ p c. merged.part p (Contains-append_left grid.tiles other.tiles p (rest.kept p c));
    first_wins = first_gains;
    others_win = (parted.two, given_gains, others_gain);
  }

-- what worker 0 wins alone after the others adds to what it has won
gains_more : (old mid new wins : List PlacedTile) (n first : ℕ) → new ≡ mid ++ wins → All (λ (t : PlacedTile). t.placer ≡ n) wins → WinsUnder old mid n first → WinsUnder old new n (first + length wins)
gains_more old mid new wins n first mine placer gains = record {
  wins = gains.wins ++ wins;
  order = ap (placed_by n) mine ∙ (by-append n mid wins ∙ ((λ i. gains.order i ++ by_all n wins placer i) ∙ append_assoc (placed_by n old) gains.wins wins));
  many = let both = length-append gains.wins wins in let many = gains.many in omega (arith, both, many);
}

-- and nothing to what they have won
others_rest : (old mid new : List PlacedTile) (owned : ℕ) (wins : List ℕ) → 0 < owned → owned < 2 ^ 64 → ((n : ℕ) → n ≢ least owned → placed_by n new ≡ placed_by n mid) → OthersWin old mid owned wins → OthersWin old new owned wins
others_rest old mid new owned [] some small same others = λ n own other. same n other ∙ others n own other
others_rest old mid new owned (k ∷ wins) some small same others =
    let g = greatest owned in
    let low = (top owned some small).low in (
      others.0,
      gains-same old mid old new g k refl (same g (λ e. others.0 (sym e))) others.1,
      others_rest old mid new (owned - 2 ^ g) wins (some_rest owned some small others.0) (omega (arith, small)) (λ n other. same n (λ e. other (e ∙ sym (least-of_rest owned some small others.0)))) others.2,
    )

-- worker 0 goes on alone
pub went_on : (sys : TileSystem) (old : SeatValue) (start grid : TileGrid) (mid : SeatValue) (first : ℕ) (others : List ℕ) (after : Growing) → IsPossible sys mid.scout → PartedGrowth sys old start mid grid first others →
    GrowsOn (record { seat = mid; grid = grid; won = 0 }) after → SamePlacements after.seat.scout.seen after.grid.tiles → PartedGrowth sys old start after.seat after.grid (first + after.won) others
went_on sys old start grid mid first others after real before goes seen =
    let owned = old.scout.owned in
    let same : mid.scout.owned ≡ owned = before.seat.owned in
    let some : 0 < owned = subst (λ (n : ℕ). 0 < n) same real.scout.some_number in
    let small : owned < 2 ^ 64 = subst (λ (n : ℕ). n < 2 ^ 64) same real.scout.numbers in
    let placer : All (λ (t : PlacedTile). t.placer ≡ least owned) goes.wins = subst (λ (n : ℕ). All (λ (t : PlacedTile). t.placer ≡ least n) goes.wins) same goes.placer in
    let won = goes.won in
    let count : length goes.wins ≡ after.won = omega (arith, won) in
    record {
      seat = record { table = goes.seat.table ∙ before.seat.table; sys = goes.seat.sys ∙ before.seat.sys; owned = goes.seat.owned ∙ same };
      area = goes.area ∙ before.area;
      seen = seen;
      kept = λ p c. goes.kept p (before.kept p c);
      first_wins = subst (λ (n : ℕ). WinsUnder old.scout.mine after.seat.scout.mine (least owned) (first + n)) count
          (gains_more old.scout.mine mid.scout.mine after.seat.scout.mine goes.wins (least owned) first goes.mine placer before.first_wins);
      others_win = others_rest old.scout.mine mid.scout.mine after.seat.scout.mine owned others some small
          (λ n other. ap (placed_by n) goes.mine ∙ (by-append n mid.scout.mine goes.wins
          ∙ (ap (λ l. placed_by n mid.scout.mine ++ l) (by_none n goes.wins (λ t c e. other (sym e ∙ All-contains (λ (u : PlacedTile). u.placer ≡ least owned) goes.wins t placer c)))
          ∙ append-nil (placed_by n mid.scout.mine))))
          before.others_win;
    }

-- The numbers below a number.
ones-some : (k : ℕ) → 0 < 2 ^ suc k - 1
ones-some k = some_owned (2 ^ suc k - 1) 0 (bit_at_ones (suc k) 0 (omega arith))

ones-small : (k : ℕ) → suc k ≤ 64 → 2 ^ suc k - 1 < 2 ^ 64
ones-small k within =
    let most : 2 ^ suc k ≤ 2 ^ 64 = pow-le-pow_right {n = 2} (omega arith) within in
    let some = pow_pos (suc k) in
    omega (arith, most, some)

ones-greatest : (k : ℕ) → suc k ≤ 64 → greatest (2 ^ suc k - 1) ≡ k
ones-greatest k within =
    let owned : ℕ = 2 ^ suc k - 1 in
    let is_top : IsTop owned = top owned (ones-some k) (ones-small k within) in
    let g = greatest owned in
    let own = greatest-owned owned is_top in
    let high = is_top.high in
    dite (dec_lt g k)
    (λ l. let above : owned < 2 ^ suc g = subst (λ x. owned < x) (sym (pow-suc 2 g)) (omega (arith, high)) in
    let none = bit_at_above owned (suc g) k above (omega (arith, l)) in
    let one = bit_at_ones (suc k) k (omega arith) in absurd (omega (arith, none, one)))
    (λ f. dite (dec_lt k g)
    (λ l. let none = bit_at_ones_above (suc k) g (omega (arith, l)) in absurd (omega (arith, own, none)))
    (λ h. omega (arith, f, h)))

pub ones-least : (k : ℕ) → suc k ≤ 64 → least (2 ^ suc k - 1) ≡ 0
ones-least k within = least-is (2 ^ suc k - 1) 0 (ones-small k within) (bit_at_ones (suc k) 0 (omega arith)) (λ j below. let never : ⊥ = omega (arith, below) in absurd never)

ones-rest : (k : ℕ) → suc k ≤ 64 → 2 ^ suc k - 1 - 2 ^ greatest (2 ^ suc k - 1) ≡ 2 ^ k - 1
ones-rest k within =
    let e = pow-suc 2 k in
    let some = pow_pos k in
    ap (λ g. 2 ^ suc k - 1 - 2 ^ g) (ones-greatest k within) ∙ omega (arith, e, some)

pub ones-numbers : (n k : ℕ) → n ≤ suc k → suc k ≤ 64 → HasNumbers n (2 ^ suc k - 1)
ones-numbers zero k few within = tt
ones-numbers (suc zero) k few within = tt
ones-numbers (suc (suc n)) zero few within = let never : ⊥ = omega (arith, few) in absurd never
ones-numbers (suc (suc n)) (suc k) few within = (
  (λ e. let same : 0 ≡ suc k = sym (ones-least (suc k) within) ∙ (e ∙ ones-greatest (suc k) within) in let never : ⊥ = omega (arith, same) in never),
  subst (HasNumbers (suc n)) (sym (ones-rest (suc k) within)) (ones-numbers (suc n) k (omega (arith, few)) (omega (arith, within))),
)

-- the numbers of workers on a whole seat
pub ones-worker : (w k : ℕ) → w < suc k → suc k ≤ 64 → greatest_but w (2 ^ suc k - 1) + w ≡ k
ones-worker zero k below within = omega (arith, ones-greatest k within)
ones-worker (suc w) zero below within = let never : ⊥ = omega (arith, below) in absurd never
ones-worker (suc w) (suc k) below within =
    let rest = ones-worker w k (omega (arith, below)) (omega (arith, within)) in
    let same : greatest_but w (2 ^ suc (suc k) - 1 - 2 ^ greatest (2 ^ suc (suc k) - 1)) ≡ greatest_but w (2 ^ suc k - 1) = ap (greatest_but w) (ones-rest (suc k) within) in
    omega (arith, rest, same)

-- which number that is
number_of : (w : ℕ) → w < 16 → owned_number w (2 ^ 64 - 1) ≡ worker_number w
number_of zero few = ones-least 63 (lit≤ tt)
number_of (suc w) few = let is = ones-worker w 63 (omega (arith, few)) (lit≤ tt) in omega (arith, is)

-- the tiles of a number, and the rest
parted_length : (k : ℕ) (xs : List PlacedTile) → length xs ≡ length (placed_by k xs) + length (kept_tiles k xs)
parted_length k [] = refl
parted_length k (x ∷ xs) =
    let rest = parted_length k xs in
    dite (ℕ_discrete x.placer k)
    (λ e. rw (eq-eqb x.placer k e) (omega (arith, rest)))
    (λ f. rw (ne_eqb x.placer k f) (omega (arith, rest)))

not_same : (a b : ℕ) → not (a == b) ≡ true → a ≢ b
not_same a b e same = let is : not (a == b) ≡ false = ap not (eq-eqb a b same) in false≢true (sym is ∙ e)

-- the counts of all numbers add up
counts_add : (xs : List ℕ) (k : ℕ) (tiles : List PlacedTile) → ((i : ℕ) → i < length xs → get_or xs i 0 ≡ length (placed_by (k + i) tiles)) → ((t : PlacedTile) → Contains tiles t → (k ≤ t.placer) × (t.placer < k + length xs)) →
    sum xs ≡ length tiles
counts_add [] k [] each within = refl
counts_add [] k (t ∷ tiles) each within = let l = within t (Contains-here t tiles) in let a = l.0 in let b = l.1 in let never : ⊥ = omega (arith, a, b) in absurd never
counts_add (x ∷ xs) k tiles each within =
    let none : k + 0 ≡ k = omega arith in
    let first : x ≡ length (placed_by k tiles) = each 0 (omega arith) ∙ ap (λ n. length (placed_by n tiles)) none in
    let rest : sum xs ≡ length (kept_tiles k tiles) = counts_add xs (suc k) (kept_tiles k tiles)
    (λ i l. let e : k + suc i ≡ suc k + i = omega arith in
    each (suc i) (omega (arith, l)) ∙ (ap (λ n. length (placed_by n tiles)) e ∙ sym (ap length (by_other (suc k + i) k tiles (λ f. let never : ⊥ = omega (arith, f) in never)))))
    (λ t c. let w = within t (filter-from (λ (u : PlacedTile). not (u.placer == k)) tiles t c) in
    let other = not_same t.placer k (filter-passed (λ (u : PlacedTile). not (u.placer == k)) tiles t c) in
    let a = w.0 in let b = w.1 in (omega (arith, a, other), omega (arith, b))) in
    let whole = parted_length k tiles in
    let cons : sum (x ∷ xs) ≡ x + sum xs = sum_by-cons (λ (y : ℕ). y) x xs in
    cons ∙ omega (arith, first, rest, whole)

-- The whole growth of a table.
places-distinct : (tiles : List PlacedTile) → HasDistinctTiles tiles → HasDistinctSites (places tiles)
places-distinct tiles distinct = λ i j e before within.
    let d : PlacedTile = tile_of e 0 in
    let l : j < length tiles = subst (λ n. j < n) (length-map tiles (λ (t : PlacedTile). t.place)) within in
    let at_i : get_or (places tiles) i e ≡ (get_or tiles i d).place = get_or-map (λ (t : PlacedTile). t.place) tiles i d e (omega (arith, before, l)) in
    let at_j : get_or (places tiles) j e ≡ (get_or tiles j d).place = get_or-map (λ (t : PlacedTile). t.place) tiles j d e l in
    λ same. distinct i j d before l (ap (λ (p : Place). p.site) (sym at_i) ∙ (same ∙ ap (λ (p : Place). p.site) at_j))

module _ (sys : TileSystem) (v : ScoutState) (grown : GrownValue) (valid : IsValid sys) (all : v.owned ≡ 2 ^ 64 - 1) (closes : Closes sys v grown) where
  owns_all : (n : ℕ) → n < 64 → Owns v.owned n
  owns_all n l = subst (λ m. Owns m n) (sym all) (bit_at_ones 64 n l)

  placer_below : (t : PlacedTile) → Contains v.mine t → t.placer < 64
  placer_below t c = owned-below v.owned t.placer closes.scout.numbers (closes.scout.mine_owned t c)

  -- what was won is no seed
  no_seed : (p : Place) (t : PlacedTile) → Contains sys.seeds p → Contains v.mine t → p.site ≢ t.place.site
  no_seed p t seed mine same =
      let in_tiles = mine_tile sys closes.tiles v closes.scout t mine in
      let one : p ≡ t.place = same_place (places closes.tiles) p t.place closes.history.distinct (closes.scout.part p (closes.scout.seeds p seed)) (map-part (λ (u : PlacedTile). u.place) (t ∷ []) closes.tiles (λ u d. elim (Contains-push_cases [] t u d) [ inl never ↦ absurd (Contains-nil u never) | inr is ↦ subst (Contains closes.tiles) is in_tiles ]) t.place (Contains-here t.place [])) same in
      let is_seed = (All-contains (IsNumbered sys) closes.tiles t closes.history.numbered in_tiles).seed (subst (Contains sys.seeds) one seed) in
      let below = placer_below t mine in
      omega (arith, is_seed, below)

  both_distinct : HasDistinctSites (sys.seeds ++ places v.mine)
  both_distinct = all_pairs_append (λ (p q : Place). p.site ≢ q.site) sys.seeds (places v.mine) valid.distinct_seeds (places-distinct v.mine closes.scout.mine_distinct)
      (λ p q seed c. let t = unplaced v.mine q c in λ same. no_seed p t.0 seed t.1 (same ∙ ap (λ (r : Place). r.site) (sym t.2)))

  won_all : sum grown.won ≡ length v.mine
  won_all = counts_add grown.won 0 v.mine
      (λ i l. let below : i < 64 = subst (λ n. i < n) closes.numbers l in let e : i ≡ 0 + i = omega arith in closes.own_counts i (owns_all i below) ∙ ap (λ n. length (placed_by n v.mine)) e)
      (λ t c. let below = placer_below t c in let n = closes.numbers in (omega arith, omega (arith, below, n)))

  pub all_won : sum grown.won + length sys.seeds ≡ length grown.grid.tiles
  all_won =
      let whole = closes.whole all in
      let less = count_in_part (sys.seeds ++ places v.mine) grown.grid.tiles both_distinct closes.distinct whole.part in
      let more = count_in_part grown.grid.tiles (sys.seeds ++ places v.mine) closes.distinct both_distinct whole.whole in
      let both = length-append sys.seeds (places v.mine) in
      let mine = length-map v.mine (λ (t : PlacedTile). t.place) in
      let won = won_all in
      omega (arith, less, more, both, mine, won)

-- a closed table leaves what was seen
pub out_seen : (sys : TileSystem) (new : SeatValue) (grid : TileGrid) (grown : GrownValue) → HasDistinctSites grid.tiles → SamePlacements new.scout.seen grid.tiles → IsClosedInBox sys grid.tiles → Closes sys new.scout grown → SamePlacements grown.grid.tiles new.scout.seen
out_seen sys new grid grown distinct seen closed closes =
    let seen_closed : IsClosedInBox sys new.scout.seen = closed_same sys new.scout.seen grid.tiles closes.scout.distinct distinct seen closed in
    let quiet_is = quiet sys closes.tiles new.scout closes.history closes.scout seen_closed in
    SamePlacements-trans grown.grid.tiles (places closes.tiles) new.scout.seen (same_back (places closes.tiles) grown.grid.tiles closes.same) (same_back new.scout.seen (places closes.tiles) quiet_is)

pub grid_left : (sys : TileSystem) (new : SeatValue) (grid : TileGrid) (grown : GrownValue) → HasDistinctSites grid.tiles → SamePlacements new.scout.seen grid.tiles → IsClosedInBox sys grid.tiles → Closes sys new.scout grown → SamePlacements grid.tiles grown.grid.tiles
grid_left sys new grid grown distinct seen closed closes =
    SamePlacements-trans grid.tiles new.scout.seen grown.grid.tiles (same_back new.scout.seen grid.tiles seen) (same_back grown.grid.tiles new.scout.seen (out_seen sys new grid grown distinct seen closed closes))

pub whole_growth : (sys : TileSystem) (workers : ℕ) (start : TileGrid) (old new : SeatValue) (grid : TileGrid) (wins : List ℕ) (grown : GrownValue) → IsValid sys → old.scout.owned ≡ 2 ^ 64 - 1 →
    old.scout.mine ≡ [] → GrewOn sys old start new grid wins → length wins ≡ workers → workers ≤ 16 → HasDistinctSites grid.tiles → Closes sys new.scout grown → IsGrownBy sys workers grown
whole_growth sys workers start old new grid wins grown valid all none grew count few distinct closes =
    let all_new : new.scout.owned ≡ 2 ^ 64 - 1 = grew.seat.owned ∙ all in
    let seen_closed : IsClosedInBox sys new.scout.seen = closed_same sys new.scout.seen grid.tiles closes.scout.distinct distinct grew.seen grew.closed in
    let same : SamePlacements grown.grid.tiles new.scout.seen = out_seen sys new grid grown distinct grew.seen grew.closed closes in
    record {
      full = record {
        distinct = closes.distinct;
        inside = closes.inside;
        producible = closes.producible;
        closed = closed_same sys grown.grid.tiles new.scout.seen closes.distinct closes.scout.distinct same seen_closed;
      };
      placed = record {
        area = closes.area;
        numbers = closes.numbers;
        idle = λ n within none_has.
            let rests = grew.workers_win.others n (subst (λ m. Owns m n) (sym all) (bit_at_ones 64 n within))
            (λ w l. let worker = subst (λ m. w < m) count l in λ e. none_has w worker (e ∙ ap (owned_number w) all ∙ number_of w (omega (arith, worker, few)))) in
            closes.own_counts n (owns_all sys new.scout grown valid all_new closes n within) ∙ ap length (rests ∙ ap (placed_by n) none);
        total = all_won sys new.scout grown valid all_new closes;
      };
    }

-- a number's wins are among what a seat has won
pub placed_few : (n : ℕ) (tiles : List PlacedTile) → length (placed_by n tiles) ≤ length tiles
placed_few n tiles = let whole = parted_length n tiles in omega (arith, whole)

pub first_few : (sys : TileSystem) (old new : SeatValue) (start grid : TileGrid) (first : ℕ) (others : List ℕ) → PartedGrowth sys old start new grid first others → first ≤ length new.scout.mine
first_few sys old new start grid first others grew =
    let gains = grew.first_wins in
    let n = least old.scout.owned in
    let order = ap length gains.order in
    let both = length-append (placed_by n old.scout.mine) gains.wins in
    let many = gains.many in
    let few = placed_few n new.scout.mine in
    omega (arith, order, both, many, few)

-- a seat has won no more tiles than the box has sites
pub mine_few : (sys : TileSystem) (v : ScoutState) → IsPossible sys v → length v.mine ≤ cell_count sys.area
mine_few sys v real =
    let at : List Place = places v.mine in
    let inside : All (λ (p : Place). InBox sys.area p.site) at =
    All-map (λ (p : Place). InBox sys.area p.site) (λ (t : PlacedTile). t.place) v.mine
    (All-weaker (Contains v.mine) (λ (t : PlacedTile). InBox sys.area t.place.site)
    (λ t c. All-contains (λ (u : PlacedTile). InBox sys.area u.place.site) real.tiles t real.history.inside (mine_tile sys real.tiles v real.scout t c)) v.mine (All-contains_itself v.mine)) in
    let many = length-map v.mine (λ (t : PlacedTile). t.place) in
    let few = count_in_box sys.area at (places-distinct v.mine real.scout.mine_distinct) inside in
    omega (arith, many, few)

-- what worker 0 has won before it goes on alone and after
pub wins_few : (sys : TileSystem) (mid : SeatValue) (grid : TileGrid) (first : ℕ) (after : Growing) → IsPossible sys after.seat.scout → first ≤ length mid.scout.mine → GrowsOn (record { seat = mid; grid = grid; won = 0 }) after →
    first + after.won ≤ cell_count sys.area
wins_few sys mid grid first after real few goes =
    let won = goes.won in
    let mine = ap length goes.mine in
    let both = length-append mid.scout.mine goes.wins in
    let most = mine_few sys after.seat.scout real in
    omega (arith, few, won, mine, both, most)
