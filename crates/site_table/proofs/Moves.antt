-- Each step keeps the rule, and is one event of the core.
use Rattle.std.proofs.Common.{◌≡◌, ◌≢◌, ◌<◌, ◌-◌, ◌%◌, ◌^◌, ℕ, zero, suc, eqb, Bool, true, false, cond, List, [], ◌∷◌, ◌++◌, length, map, take, ◌+◌, min, get_or, set, replicate, Some, None, Contains, All, option_map, eq-eqb, ne_eqb, refl, sym, ◌∙◌, ap, subst, arith, lit≤}
use Rattle.std.proofs.lemmas.List.Elements.{All-contains, All-map, All-set, All-push, All-cons, All-nil}
use mathlib.Core.Option.{none, some, some-ne-none, some-injective}
use mathlib.Core.Logic.{dite}
use native.Mathlib.Decide.{ℕ_discrete}
use lib.ListN.{get_elem?}
use lib.Seq.{set-get_or}
use prog.Atomic.{either}
use Rattle.atomic_table.specs.Table.{keeps, step, opening, Allows, Splits, Joins}
use Rattle.atomic_table.proofs.Lists.{set_again, set_else}
use Rattle.atam.specs.declared.site.Site.{Site}
use Rattle.atam.specs.declared.place.TypeId.{TypeId}
use Rattle.atam.specs.declared.place.Place.{Place}
use Rattle.atam.specs.Sites.{InBox}
use Rattle.atam.specs.TileSystem.{TileSystem, IsValid, IsType}
use Rattle.atam.specs.Placements.{tile_at, HasDistinctSites}
use Rattle.atam.proofs.Placements.{tile_at-Contains, HasDistinctSites-push, empty_in_part}
use Rattle.assembly.specs.Cells.{cell_count, site_at}
use Rattle.assembly.proofs.Cells.{site_at-inside}
use Rattle.grow_core.specs.declared.placed_tile.PlacedTile.{PlacedTile}
use Rattle.atam.specs.declared.event.Event.{Event}
use Rattle.atam.specs.declared.event.Event.TheVariants.{Look, Claim, Split, Join}
use Rattle.atam.specs.declared.event.Seen.{Seen}
use Rattle.atam.specs.declared.event.Seen.TheVariants.{Saw, Won, Held, Divided, Joined}
use Rattle.grow_core.specs.Core.{ScoutState, scout_at, least, greatest, OwnsTwoOrMore, state_of, places, ScoutInvariant, GrowthInvariant}
use Rattle.grow_core.specs.Steps.{place, tile_of, IsScoutOf, IsStart, IsUnion, Sees, Wins, Supports}
use Rattle.grow_core.specs.Listed.{by_name}
use Rattle.grow_core.specs.ListedEvents.{IsEventOfListed}
use Rattle.grow_core.proofs.Numbers.{top, some_rest, some_owned, owns_itself}
use Rattle.grow_core.proofs.Kept.{extends, seen-invariant, won-invariant}
use Rattle.grow_core.proofs.Listed.{divided-last, joined-first, one_scout, scout_within}
use Rattle.grow_core.proofs.NamedState.{here as here_set}
use Rattle.grow_core.proofs.ListedEvents.{empty_look_event, look_event, lost_event, won_event, split_event, join_event}
use Rattle.grow_core.proofs.Assembled.{same_seen}
use Rattle.grow_core.proofs.Stepped.{supported_type}
use Rattle.grow_core.proofs.Start.{grounded, first-knows, start-invariant}
use Rattle.site_table.specs.declared.view.SeatView.{SeatView}
use Rattle.site_table.specs.Words.{code, word_of, type_in, word_at, Spells}
use Rattle.site_table.specs.Views.{scout_of, IsLive, scouts_of, first_view, kept_view, given_view, united_view, spent_view}
use Rattle.site_table.specs.Rule.{TableState, TableInvariant, core_of, IsPossible}
use Rattle.site_table.specs.Plays.{SeatSelf, site_of, place_in, SeesWord, ClaimStep, LookStep, CheckStep}
use Rattle.site_table.specs.Seats.{IsPartOfGrowth}
use Rattle.site_table.specs.Laws.{HasSeat, with_words, ComesBy, word_after, claim_answer, look_answer}
use Rattle.site_table.proofs.Spelled.{either-some, tile_at-places, none_from_word, some_from_word, type_in-code, Spells-push, Spells-seed}
use Rattle.site_table.proofs.Listed.{live-is, scouts-at, scouts-set, scouts-last, scouts-spent, noted, seen_together-same, seen_together-distinct}

-- a type of the system fits a word
pub type-small : (sys : TileSystem) (t : TypeId) → IsValid sys → IsType sys t → t.0 < 16384
type-small sys t valid kind = omega (arith, valid.type_count, kind)

elem_within : (views : List SeatView) (j : ℕ) (v : SeatView) → get_elem? views j ≡ some v → j < length views
elem_within [] j v e = absurd (some-ne-none v (sym e))
elem_within (x ∷ views) zero v e = omega arith
elem_within (x ∷ views) (suc j) v e = let l = elem_within views j v e in omega (arith, l)

-- what holds of all views holds of one
view_has : (P : SeatView → Type 0) (views : List SeatView) (j : ℕ) (v : SeatView) → All P views → get_elem? views j ≡ some v → P v
view_has P views j v all e = subst P (view_is views j v e) (all j v (elem_within views j v e))
  where
    view_is : (views : List SeatView) (j : ℕ) (v : SeatView) → get_elem? views j ≡ some v → get_or views j v ≡ v
    view_is [] j v e = refl
    view_is (x ∷ views) zero v e = some-injective x v e
    view_is (x ∷ views) (suc j) v e = view_is views j v e

either_is : (b : Bool) (x y : ℕ) → either b x y ≡ cond b x y
either_is true x y = refl
either_is false x y = refl

-- a word that is written as it was, and a view that stays
pub same_state : (s : TableState) (id i : ℕ) (v : SeatView) → get_elem? s.views id ≡ some v → with_words s (set s.words i (get_or s.words i 0)) id v ≡ s
same_state s id i v here = let words = set-get_or s.words i 0 in let views = set_again s.views id v here in λ k. record { words = words k; homes = s.homes; views = views k }

module _ (sys : TileSystem) where
  abbrev AreOneSystem : SeatView → Type 0
  AreOneSystem v = IsLive v → v.sys ≡ sys

  -- nothing stands where the word is 0
  empty_there : (log : List PlacedTile) (m : Site) → word_at log m ≡ 0 → tile_at (places log) m ≡ None
  empty_there log m e = tile_at-places log m ∙ ap (option_map (λ (t : PlacedTile). t.place.tile)) (none_from_word log m e)

  module _ (s : TableState) (r : TableInvariant sys s) where
    pub seat_sys : (id : ℕ) (v : SeatView) → HasSeat s id v → v.sys ≡ sys
    seat_sys id v seat = view_has AreOneSystem s.views id v r.one_system seat.here seat.live

    known : (id : ℕ) (v : SeatView) → HasSeat s id v → ScoutInvariant sys r.tiles (scout_of v)
    known id v seat = r.growth.each id (scout_of v) (scouts-at s.views id v seat.here seat.live)

    pub possible : (id : ℕ) (v : SeatView) → HasSeat s id v → IsPossible sys (scout_of v)
    possible id v seat = record { valid = r.valid; tiles = r.tiles; history = r.growth.history; scout = known id v seat }

    -- the state with another view, and tiles, after an event
    after : (id : ℕ) (v w : SeatView) (words : List ℕ) (log : List PlacedTile) (event : Event) (answer : Seen) → HasSeat s id v → IsLive w → w.sys ≡ sys → Spells sys.area words log →
        GrowthInvariant sys log (set (scouts_of s.views) id (Some (scout_of w))) →
        IsEventOfListed sys r.tiles (scouts_of s.views) event answer log (set (scouts_of s.views) id (Some (scout_of w))) →
        ComesBy sys s r event answer (with_words s words id w) × IsPossible sys (scout_of w)
    after id v w words log event answer seat live same spells holds happens =
        let scouts : scouts_of (set s.views id w) ≡ set (scouts_of s.views) id (Some (scout_of w)) = scouts-set s.views id w live in
        let kept : TableInvariant sys (with_words s words id w) = record {
          valid = r.valid;
          tiles = log;
          spells = spells;
          one_system = All-set AreOneSystem s.views id w (λ _. same) r.one_system;
          growth = subst (GrowthInvariant sys log) (sym scouts) holds;
        } in (
          record {
            kept = kept;
            event_is = subst (λ l. IsEventOfListed sys r.tiles (scouts_of s.views) event answer log l) (sym scouts) happens;
          },
          record { valid = r.valid; tiles = log; history = holds.history; scout = holds.each id (scout_of w) (set_scout id v w seat) },
        )
      where
        set_scout : (id : ℕ) (v w : SeatView) → HasSeat s id v → scout_at (set (scouts_of s.views) id (Some (scout_of w))) id ≡ Some (scout_of w)
        set_scout id v w seat = here_set (scouts_of s.views) id (Some (scout_of w)) (scout_within (scouts_of s.views) id (scout_of v) (scouts-at s.views id v seat.here seat.live))

    -- a step that finds a tile, and leaves the words
    record Finds (id i : ℕ) (v : SeatView) (event : Event) (answer : TypeId → Seen) : Type 0 where
      view : SeatView
      comes : ComesBy sys s r event (answer (type_in (get_or s.words i 0))) (with_words s s.words id view)
      sees : SeesWord v i (get_or s.words i 0) view
      same : view.sys ≡ v.sys
      is_possible : IsPossible v.sys (scout_of view)

    finds : (id i : ℕ) (v : SeatView) (event : Event) (answer : TypeId → Seen) → HasSeat s id v → i < length s.words → get_or s.words i 0 ≢ 0 →
        ((w : ScoutState) (t : TypeId) → tile_at (places r.tiles) (site_at sys.area i) ≡ Some t → Sees (scout_of v) (place (site_at sys.area i) t) w →
        GrowthInvariant sys r.tiles (set (scouts_of s.views) id (Some w)) →
        IsEventOfListed sys r.tiles (scouts_of s.views) event (answer t) r.tiles (set (scouts_of s.views) id (Some w))) → Finds id i v event answer
    finds id i v event answer seat inside some_word happens =
        let same = seat_sys id v seat in
        let x : ℕ = get_or s.words i 0 in
        let m : Site = site_at sys.area i in
        let one : site_of v i ≡ m = ap (λ (z : TileSystem). site_at z.area i) same in
        let read : x ≡ word_at r.tiles m = r.spells.each i inside in
        let t = some_from_word r.tiles m (λ e. some_word (read ∙ e)) in
        let stands : tile_at (places r.tiles) m ≡ Some t.0.place.tile = tile_at-places r.tiles m ∙ ap (option_map (λ (y : PlacedTile). y.place.tile)) t.1 in
        let listed : Contains (places r.tiles) (place m t.0.place.tile) = tile_at-Contains (places r.tiles) m t.0.place.tile stands in
        let kind : IsType sys t.0.place.tile = All-contains (λ (p : Place). IsType sys p.tile) (places r.tiles) (place m t.0.place.tile) r.growth.history.legal.types listed in
        let low = type-small sys t.0.place.tile r.valid kind in
        let c = type_in-code t.0.place.tile t.0.placer (omega (arith, low)) in
        let word : x ≡ word_of t.0 = read ∙ t.2 in
        let type : type_in x ≡ t.0.place.tile = ap type_in word ∙ c.0 in
        let p : Place = place m (type_in x) in
        let there : Contains (places r.tiles) p = subst (λ u. Contains (places r.tiles) (place m u)) (sym type) listed in
        let knows = known id v seat in
        let n = noted (places r.tiles) v.seen p r.growth.history.distinct knows.distinct knows.part there in
        let w : SeatView = record { sys = v.sys; owned = v.owned; seen = n.list; mine = v.mine } in
        let is : Sees (scout_of v) p (scout_of w) = record { owned = refl; seen = n.same; distinct = n.distinct; mine = refl } in
        let holds = seen-invariant sys r.tiles (scouts_of s.views) id (scout_of v) (scout_of w) p r.growth (scouts-at s.views id v seat.here seat.live) there is in
        let event_is = happens (scout_of w) (type_in x) (stands ∙ ap (λ u. Some u) (sym type)) is holds in
        let next = after id v w s.words r.tiles event (answer (type_in x)) seat seat.live same r.spells holds event_is in
        record {
          view = w;
          comes = next.0;
          sees = record {
            scout = subst (λ k. Sees (scout_of v) (place k (type_in x)) (scout_of w)) (sym one) is;
            kind = subst (λ (z : TypeId). IsType v.sys z) (sym type) (subst (λ (z : TileSystem). IsType z t.0.place.tile) (sym same) kind);
            some_type = subst (λ k. 0 < k % 4294967296) (sym word) (let e = c.1 in omega (arith, e));
          };
          same = refl;
          is_possible = subst (λ z. IsPossible z (scout_of w)) (sym same) next.1;
        }

    inside_box : (i : ℕ) → i < cell_count sys.area → InBox sys.area (site_at sys.area i)
    inside_box i near = site_at-inside sys.area i r.valid.box near

    -- a look: what it makes of the view, and of the state
    pub record IsLookOf (id i : ℕ) (v : SeatView) (w : SeatView) : Type 0 where
      pub comes : ComesBy sys s r (Look (least v.owned) (site_at sys.area i)) (look_answer (get_or s.words i 0)) (with_words s s.words id w)
      pub sys_is : w.sys ≡ v.sys
      pub is_possible : IsPossible v.sys (scout_of w)
      pub same : get_or s.words i 0 ≡ 0 → w ≡ v
      pub unseen : get_or s.words i 0 ≡ 0 → tile_at v.seen (site_of v i) ≡ None
      pub some_tile : get_or s.words i 0 ≢ 0 → SeesWord v i (get_or s.words i 0) w

    pub look_of : (id i : ℕ) (v : SeatView) → HasSeat s id v → i < cell_count sys.area → (w : SeatView) × IsLookOf id i v w
    look_of id i v seat near =
        let x : ℕ = get_or s.words i 0 in
        let same = seat_sys id v seat in
        let inside : i < length s.words = subst (λ n. i < n) (sym r.spells.count) near in
        let m : Site = site_at sys.area i in
        let one : site_of v i ≡ m = ap (λ (z : TileSystem). site_at z.area i) same in
        let at_v = scouts-at s.views id v seat.here seat.live in
        dite (ℕ_discrete x 0)
        (λ empty.
        let bare : tile_at (places r.tiles) m ≡ None = empty_there r.tiles m (sym (r.spells.each i inside) ∙ empty) in
        let knows = known id v seat in
        let unseen : tile_at v.seen m ≡ None = empty_in_part v.seen (places r.tiles) m (extends sys r.tiles (scout_of v) r.growth.history knows) bare in
        let again : set s.views id v ≡ s.views = set_again s.views id v seat.here in
        let none_answer : look_answer x ≡ Saw None = ap (λ b. Saw (cond b None (Some (type_in x)))) (eq-eqb x 0 empty) in
        let kept : TableInvariant sys (with_words s s.words id v) = record {
          valid = r.valid;
          tiles = r.tiles;
          spells = r.spells;
          one_system = subst (All AreOneSystem) (sym again) r.one_system;
          growth = subst (λ vs. GrowthInvariant sys r.tiles (scouts_of vs)) (sym again) r.growth;
        } in (
          v,
          record {
            comes = record {
              kept = kept;
              event_is = subst (λ vs. IsEventOfListed sys r.tiles (scouts_of s.views) (Look (least v.owned) m) (look_answer x) r.tiles (scouts_of vs)) (sym again)
                  (subst (λ a. IsEventOfListed sys r.tiles (scouts_of s.views) (Look (least v.owned) m) a r.tiles (scouts_of s.views)) (sym none_answer)
                  (empty_look_event sys r.tiles (scouts_of s.views) r.growth id (scout_of v) m at_v (inside_box i near) bare));
            };
            sys_is = refl;
            is_possible = subst (λ z. IsPossible z (scout_of v)) (sym same) (possible id v seat);
            same = λ _. refl;
            unseen = λ _. subst (λ k. tile_at v.seen k ≡ None) (sym one) unseen;
            some_tile = λ not. absurd (not empty);
          },
        ))
        (λ full.
        let found = finds id i v (Look (least v.owned) m) (λ t. Saw (Some t)) seat inside full
        (λ w t stands is holds. look_event sys r.tiles (scouts_of s.views) r.growth id (scout_of v) w m t at_v (inside_box i near) stands is holds) in
        let some_answer : look_answer x ≡ Saw (Some (type_in x)) = ap (λ b. Saw (cond b None (Some (type_in x)))) (ne_eqb x 0 full) in (
          found.view,
          record {
            comes = subst (λ a. ComesBy sys s r (Look (least v.owned) m) a (with_words s s.words id found.view)) (sym some_answer) found.comes;
            sys_is = found.same;
            is_possible = found.is_possible;
            same = λ e. absurd (full e);
            unseen = λ e. absurd (full e);
            some_tile = λ _. found.sees;
          },
        ))

    -- a claim: what it makes of the view, and of the state
    pub record IsClaimAt (id i word : ℕ) (v : SeatView) (type : TypeId) (w : SeatView) : Type 0 where
      pub comes : ComesBy sys s r (Claim (least v.owned) (site_at sys.area i) type) (claim_answer (get_or s.words i 0)) (with_words s (set s.words i (word_after (get_or s.words i 0) word)) id w)
      pub sys_is : w.sys ≡ v.sys
      pub is_possible : IsPossible v.sys (scout_of w)
      pub unseen : get_or s.words i 0 ≡ 0 → tile_at v.seen (site_of v i) ≡ None
      pub won : get_or s.words i 0 ≡ 0 → Wins (scout_of v) (place_in v i word) (scout_of w)
      pub lost : get_or s.words i 0 ≢ 0 → SeesWord v i (get_or s.words i 0) w

    pub claim_at : (id i word : ℕ) (v : SeatView) (type : TypeId) → HasSeat s id v → i < cell_count sys.area → Supports sys (scout_of v) (site_at sys.area i) type →
        word ≡ code type (least v.owned) → (w : SeatView) × IsClaimAt id i word v type w
    claim_at id i word v type seat near held coded =
        let x : ℕ = get_or s.words i 0 in
        let same = seat_sys id v seat in
        let inside : i < length s.words = subst (λ n. i < n) (sym r.spells.count) near in
        let m : Site = site_at sys.area i in
        let one : site_of v i ≡ m = ap (λ (z : TileSystem). site_at z.area i) same in
        let at_v = scouts-at s.views id v seat.here seat.live in
        let kind : IsType sys type = supported_type sys v.seen m type r.valid.some_tau held in
        let low = type-small sys type r.valid kind in
        let is_type : type_in word ≡ type = ap type_in coded ∙ (type_in-code type (least v.owned) (omega (arith, low))).0 in
        let in_place : place m type ≡ place_in v i word = let e = sym one in let f = sym is_type in λ k. record { site = e k; tile = f k } in
        let scouts = scouts_of s.views in
        dite (ℕ_discrete x 0)
        (λ empty.
        let bare_on = none_from_word r.tiles m (sym (r.spells.each i inside) ∙ empty) in
        let bare : tile_at (places r.tiles) m ≡ None = empty_there r.tiles m (sym (r.spells.each i inside) ∙ empty) in
        let knows = known id v seat in
        let unseen : tile_at v.seen m ≡ None = empty_in_part v.seen (places r.tiles) m (extends sys r.tiles (scout_of v) r.growth.history knows) bare in
        let p : Place = place m type in
        let t : PlacedTile = tile_of p (least v.owned) in
        let w : SeatView = record { sys = v.sys; owned = v.owned; seen = v.seen ++ p ∷ []; mine = v.mine ++ t ∷ [] } in
        let is : Wins (scout_of v) p (scout_of w) = record { owned = refl; seen = same_seen (v.seen ++ p ∷ []); distinct = HasDistinctSites-push v.seen p knows.distinct unseen; mine = refl } in
        let spells : Spells sys.area (set s.words i word) (r.tiles ++ t ∷ []) = subst (λ n. Spells sys.area (set s.words i n) (r.tiles ++ t ∷ [])) (sym coded)
        (Spells-push sys.area s.words r.tiles i t r.spells (omega (arith, low)) inside refl bare_on) in
        let holds = won-invariant sys r.tiles scouts id (scout_of v) (scout_of w) p r.growth at_v kind (inside_box i near) held bare is in
        let happens = won_event sys r.tiles scouts r.growth id (scout_of v) (scout_of w) m type at_v (inside_box i near) held bare is holds in
        let next = after id v w (set s.words i word) (r.tiles ++ t ∷ []) (Claim (least v.owned) m type) Won seat seat.live same spells holds happens in
        let answer : Won ≡ claim_answer x = sym (ap (λ b. cond b Won (Held (type_in x))) (eq-eqb x 0 empty)) in
        let written : word ≡ word_after x word = sym (ap (λ b. cond b word x) (eq-eqb x 0 empty)) in (
          w,
          record {
            comes = subst (λ (q : Seen × ℕ). ComesBy sys s r (Claim (least v.owned) m type) q.0 (with_words s (set s.words i q.1) id w)) (λ k. (answer k, written k)) next.0;
            sys_is = refl;
            is_possible = subst (λ z. IsPossible z (scout_of w)) (sym same) next.1;
            unseen = λ _. subst (λ k. tile_at v.seen k ≡ None) (sym one) unseen;
            won = λ _. subst (λ (q : Place). Wins (scout_of v) q (scout_of w)) in_place is;
            lost = λ not. absurd (not empty);
          },
        ))
        (λ full.
        let found = finds id i v (Claim (least v.owned) m type) Held seat inside full
        (λ w t stands is holds. lost_event sys r.tiles scouts r.growth id (scout_of v) w m type t at_v (inside_box i near) held stands is holds) in
        let answer : Held (type_in x) ≡ claim_answer x = sym (ap (λ b. cond b Won (Held (type_in x))) (ne_eqb x 0 full)) in
        let kept_words : s.words ≡ set s.words i (word_after x word) = sym (ap (λ b. set s.words i (cond b word x)) (ne_eqb x 0 full) ∙ set-get_or s.words i 0) in (
          found.view,
          record {
            comes = subst (λ (q : Seen × List ℕ). ComesBy sys s r (Claim (least v.owned) m type) q.0 (with_words s q.1 id found.view)) (λ k. (answer k, kept_words k)) found.comes;
            sys_is = found.same;
            is_possible = found.is_possible;
            unseen = λ e. absurd (full e);
            won = λ e. absurd (full e);
            lost = λ _. found.sees;
          },
        ))

    -- the scouts after a split
    kept_is : (v : SeatView) → HasDistinctSites v.seen → IsScoutOf (kept_view v).owned v.seen (kept_view v).mine (scout_of (kept_view v))
    kept_is v distinct = record { owned = refl; seen = same_seen v.seen; distinct = distinct; mine = refl }

    given_is : (v : SeatView) → HasDistinctSites v.seen → IsScoutOf (given_view v).owned v.seen (given_view v).mine (scout_of (given_view v))
    given_is v distinct = record { owned = refl; seen = same_seen v.seen; distinct = distinct; mine = refl }

    pub split_of : (id : ℕ) (v : SeatView) → HasSeat s id v → OwnsTwoOrMore v.owned →
        ComesBy sys s r (Split (least v.owned)) (Divided (greatest v.owned)) (record { words = s.words; homes = s.homes; views = set s.views id (kept_view v) ++ given_view v ∷ [] })
    split_of id v seat two =
        let knows = known id v seat in
        let same = seat_sys id v seat in
        let at_v = scouts-at s.views id v seat.here seat.live in
        let rest : IsLive (kept_view v) = some_rest v.owned seat.live knows.numbers two in
        let new : IsLive (given_view v) = some_owned (2 ^ greatest v.owned) (greatest v.owned) (owns_itself v.owned (top v.owned seat.live knows.numbers)) in
        let scouts : scouts_of (set s.views id (kept_view v) ++ given_view v ∷ []) ≡ set (scouts_of s.views) id (Some (scout_of (kept_view v))) ++ Some (scout_of (given_view v)) ∷ [] =
        scouts-last (set s.views id (kept_view v)) (given_view v) new ∙ ap (λ l. l ++ Some (scout_of (given_view v)) ∷ []) (scouts-set s.views id (kept_view v) rest) in
        record {
          kept = record {
            valid = r.valid;
            tiles = r.tiles;
            spells = r.spells;
            one_system = All-push AreOneSystem (set s.views id (kept_view v)) (given_view v) (All-set AreOneSystem s.views id (kept_view v) (λ _. same) r.one_system) (λ _. same);
            growth = subst (GrowthInvariant sys r.tiles) (sym scouts)
                (divided-last sys r.tiles (scouts_of s.views) id (scout_of v) (scout_of (kept_view v)) (scout_of (given_view v)) r.growth at_v two (kept_is v knows.distinct) (given_is v knows.distinct));
          };
          event_is = subst (λ l. IsEventOfListed sys r.tiles (scouts_of s.views) (Split (least v.owned)) (Divided (greatest v.owned)) r.tiles l) (sym scouts)
              (split_event sys r.tiles (scouts_of s.views) id (scout_of v) (scout_of (kept_view v)) (scout_of (given_view v)) r.growth at_v two (kept_is v knows.distinct) (given_is v knows.distinct));
        }

    pub join_of : (id other : ℕ) (v w : SeatView) → HasSeat s id v → HasSeat s other w → id ≢ other →
        ComesBy sys s r (Join (least v.owned) (least w.owned)) (Joined (min (least v.owned) (least w.owned)))
        (record { words = s.words; homes = s.homes; views = set (set s.views id (united_view v w)) other spent_view })
    join_of id other v w seat_v seat_w differ =
        let knows_v = known id v seat_v in
        let knows_w = known other w seat_w in
        let same = seat_sys id v seat_v in
        let at_v = scouts-at s.views id v seat_v.here seat_v.live in
        let at_w = scouts-at s.views other w seat_w.here seat_w.live in
        let live : IsLive (united_view v w) = either-some v.owned w.owned seat_v.live knows_v.numbers in
        let is : IsUnion (scout_of v) (scout_of w) (scout_of (united_view v w)) = record {
          owned = refl;
          seen = seen_together-same v.seen w.seen;
          distinct = seen_together-distinct (places r.tiles) v.seen w.seen r.growth.history.distinct knows_v.distinct knows_w.distinct knows_v.part knows_w.part;
          mine = refl;
        } in
        let scouts = scouts-spent s.views id other (united_view v w) live in
        record {
          kept = record {
            valid = r.valid;
            tiles = r.tiles;
            spells = r.spells;
            one_system = All-set AreOneSystem (set s.views id (united_view v w)) other spent_view (λ never. let l : 0 < 0 = never in absurd (omega (arith, l)))
                (All-set AreOneSystem s.views id (united_view v w) (λ _. same) r.one_system);
            growth = subst (GrowthInvariant sys r.tiles) (sym scouts)
                (joined-first sys r.tiles (scouts_of s.views) id other (scout_of v) (scout_of w) (scout_of (united_view v w)) r.growth at_v at_w differ is);
          };
          event_is = subst (λ l. IsEventOfListed sys r.tiles (scouts_of s.views) (Join (least v.owned) (least w.owned)) (Joined (min (least v.owned) (least w.owned))) r.tiles l) (sym scouts)
              (join_event sys r.tiles (scouts_of s.views) id other (scout_of v) (scout_of w) (scout_of (united_view v w)) r.growth at_v at_w differ is);
        }

  -- what the steps of the table ask
  pub looks : (slots id i : ℕ) (me : SeatSelf) → IsLive me.0 → i < cell_count sys.area → Allows (TableInvariant sys) slots id me i (λ n. n) (LookStep (step slots i 0 0 none) me)
  looks slots id i me live near s r wide here small =
      let out = look_of s r id i me.0 (record { here = here; live = live }) near in
      let is = out.1 in (
        out.0,
        keeps,
        tt,
        subst (λ ws. TableInvariant sys (with_words s ws id out.0)) (sym (set-get_or s.words i 0)) is.comes.kept,
        record { seat = record { held = refl; sys = is.sys_is; possible = is.is_possible }; same = is.same; unseen = is.unseen; some_tile = is.some_tile },
      )

  pub claims : (slots id i word : ℕ) (me : SeatSelf) (site : Site) (type : TypeId) → IsLive me.0 → i < cell_count sys.area → site_at sys.area i ≡ site →
      Supports sys (scout_of me.0) site type → word ≡ code type (least me.0.owned) →
      Allows (TableInvariant sys) slots id me i (λ n. either (eqb n 0) word n) (ClaimStep (step slots i 0 word none) me)
  claims slots id i word me site type live near here_is held coded s r wide here small =
      let x : ℕ = get_or s.words i 0 in
      let out = claim_at s r id i word me.0 type (record { here = here; live = live }) near (subst (λ m. Supports sys (scout_of me.0) m type) (sym here_is) held) coded in
      let is = out.1 in (
        out.0,
        keeps,
        tt,
        subst (λ n. TableInvariant sys (with_words s (set s.words i n) id out.0)) (sym (either_is (eqb x 0) word x)) is.comes.kept,
        record { seat = record { held = refl; sys = is.sys_is; possible = is.is_possible }; unseen = is.unseen; won = is.won; lost = is.lost },
      )

  pub checks : (slots id i : ℕ) (me : SeatSelf) → IsLive me.0 → Allows (TableInvariant sys) slots id me i (λ n. n) (CheckStep (step slots i 0 0 none) me)
  checks slots id i me live s r wide here small =
      let seat : HasSeat s id me.0 = record { here = here; live = live } in (
        me.0,
        keeps,
        tt,
        subst (TableInvariant sys) (sym (same_state s id i me.0 here)) r,
        record { same = refl; possible = subst (λ z. IsPossible z (scout_of me.0)) (sym (seat_sys s r id me.0 seat)) (possible s r id me.0 seat) },
      )

  pub splits : (id : ℕ) (v : SeatView) → IsLive v → OwnsTwoOrMore v.owned → Splits (TableInvariant sys) id v (kept_view v) (given_view v)
  splits id v live two s r here = (split_of s r id v (record { here = here; live = live }) two).kept

  pub joins : (id other : ℕ) (v w : SeatView) → IsLive v → IsLive w → Joins (TableInvariant sys) id v other w (united_view v w) spent_view
  joins id other v w live_v live_w s r here differ there =
      let old : get_elem? s.views other ≡ some w = sym (set_else s.views id other (united_view v w) differ) ∙ there in
      (join_of s r id other v w (record { here = here; live = live_v }) (record { here = old; live = live_w }) (λ e. differ (sym e))).kept

  -- the first scout alone
  first_live : IsLive (first_view sys)
  first_live = lit≤ tt

  first_is : IsValid sys → IsScoutOf (2 ^ 64 - 1) sys.seeds [] (scout_of (first_view sys))
  first_is valid = record { owned = refl; seen = same_seen sys.seeds; distinct = valid.distinct_seeds; mine = refl }

  first_growth : IsValid sys → GrowthInvariant sys (map (λ p. tile_of p 65535) sys.seeds) (Some (scout_of (first_view sys)) ∷ [])
  first_growth valid = one_scout sys (map (λ p. tile_of p 65535) sys.seeds) (scout_of (first_view sys)) (grounded sys valid) (first-knows sys valid (scout_of (first_view sys)) (first_is valid))

  -- the table at the start
  pub opens : (words : List ℕ) → IsValid sys → Spells sys.area words (map (λ p. tile_of p 65535) sys.seeds) →
      (holds : TableInvariant sys (opening words [] (first_view sys))) × IsStart sys (core_of sys (opening words [] (first_view sys)) holds)
  opens words valid spells =
      let first : ScoutState = scout_of (first_view sys) in
      let only : scouts_of (first_view sys ∷ []) ≡ Some first ∷ [] = ap (λ o. o ∷ []) (live-is (first_view sys) first_live) in
      let start : IsStart sys (state_of (map (λ p. tile_of p 65535) sys.seeds) (Some first ∷ replicate 63 None)) = record { tiles = refl; first = first; seeds = first_is valid; scouts = refl } in
      let name : least first.owned ≡ 0 = (start-invariant sys valid (state_of (map (λ p. tile_of p 65535) sys.seeds) (Some first ∷ replicate 63 None)) start).named.own_name 0 first refl in
      let names : by_name (scouts_of (first_view sys ∷ [])) ≡ Some first ∷ replicate 63 None = ap by_name only ∙ ap (λ n. set (replicate 64 None) n (Some first)) name in (
        record {
          valid = valid;
          tiles = map (λ p. tile_of p 65535) sys.seeds;
          spells = spells;
          one_system = All-cons AreOneSystem (first_view sys) [] (λ _. refl) (All-nil AreOneSystem);
          growth = subst (GrowthInvariant sys (map (λ p. tile_of p 65535) sys.seeds)) (sym only) (first_growth valid);
        },
        record { tiles = refl; first = first; seeds = first_is valid; scouts = names },
      )

  pub first_possible : IsValid sys → IsPossible sys (scout_of (first_view sys))
  first_possible valid = let holds = first_growth valid in
      record { valid = valid; tiles = map (λ p. tile_of p 65535) sys.seeds; history = holds.history; scout = holds.each 0 (scout_of (first_view sys)) refl }

-- what the two of a split know without the others
pub split_possible : (sys : TileSystem) (v : SeatView) → IsPossible sys (scout_of v) → OwnsTwoOrMore v.owned → IsPossible sys (scout_of (kept_view v)) × IsPossible sys (scout_of (given_view v))
split_possible sys v r two =
    let one = one_scout sys r.tiles (scout_of v) r.history r.scout in
    let both = divided-last sys r.tiles (Some (scout_of v) ∷ []) 0 (scout_of v) (scout_of (kept_view v)) (scout_of (given_view v)) one refl two
    (record { owned = refl; seen = same_seen v.seen; distinct = r.scout.distinct; mine = refl }) (record { owned = refl; seen = same_seen v.seen; distinct = r.scout.distinct; mine = refl }) in (
      record { valid = r.valid; tiles = r.tiles; history = r.history; scout = both.each 0 (scout_of (kept_view v)) refl },
      record { valid = r.valid; tiles = r.tiles; history = r.history; scout = both.each 1 (scout_of (given_view v)) refl },
    )

-- what a scout has seen is a part of a producible assembly
pub part_of_growth : (sys : TileSystem) (v : ScoutState) → IsPossible sys v → IsPartOfGrowth sys v.seen
part_of_growth sys v possible = record {
  tiles = places possible.tiles;
  producible = record { sequence = places possible.tiles; legal = possible.history.legal; same = same_seen (places possible.tiles) };
  inside = All-map (λ (p : Place). InBox sys.area p.site) (λ (t : PlacedTile). t.place) possible.tiles possible.history.inside;
  part = possible.scout.part;
}

-- a claim whose pull is enough is of a type of the system
pub claim_kind : (sys : TileSystem) (v : ScoutState) (m : Site) (type : TypeId) → IsValid sys → Supports sys v m type → IsType sys type
claim_kind sys v m type valid held = supported_type sys v.seen m type valid.some_tau held

-- the place that a claim's word names
pub claim_place : (sys : TileSystem) (v : SeatView) (i word n : ℕ) (m : Site) (type : TypeId) → IsValid sys → IsType sys type → v.sys ≡ sys → site_at sys.area i ≡ m → word ≡ code type n →
    place_in v i word ≡ place m type
claim_place sys v i word n m type valid kind same here coded =
    let low = type-small sys type valid kind in
    let site : site_of v i ≡ m = ap (λ (z : TileSystem). site_at z.area i) same ∙ here in
    let tile : type_in word ≡ type = ap type_in coded ∙ (type_in-code type n (omega (arith, low))).0 in
    λ k. record { site = site k; tile = tile k }

-- the words after one seed more
pub seed_step : (sys : TileSystem) (words : List ℕ) (seeds : List Place) (i j word : ℕ) (e : Place) → IsValid sys → HasDistinctSites seeds → All (λ p. IsType sys p.tile) seeds → i < length seeds →
    Spells sys.area words (map (λ p. tile_of p 65535) (take i seeds)) → j < cell_count sys.area → site_at sys.area j ≡ (get_or seeds i e).site →
    word ≡ code (get_or seeds i e).tile 65535 → Spells sys.area (set words j word) (map (λ p. tile_of p 65535) (take (i + 1) seeds))
seed_step sys words seeds i j word e valid distinct types within spells near here coded =
    let small = type-small sys (get_or seeds i e).tile valid (types i e within) in
    Spells-seed sys.area words seeds i j word e distinct within spells (omega (arith, small)) near here coded
