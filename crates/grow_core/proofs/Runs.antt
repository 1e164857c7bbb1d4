-- Runs of the same events from the start come to the same replies and tiles.
use Rattle.std.proofs.Common.{◌≡◌, ◌≢◌, ◌-◌, ◌^◌, ℕ, zero, suc, min, List, [], ◌∷◌, ◌++◌, set, map, replicate, Option, Some, None, Result, Ok, Err, refl, sym, ◌∙◌, ap, subst, inl, inr, arith, bit_or}
use Rattle.std.proofs.lemmas.Option.{none-some, same_Some}
use Rattle.std.proofs.lemmas.List.Elements.{Contains-append_left, Contains-append_cases, Contains-append_right}
use Rattle.atam.specs.declared.site.Site.{Site}
use Rattle.atam.specs.declared.place.TypeId.{TypeId}
use Rattle.atam.specs.declared.place.Place.{Place}
use Rattle.atam.specs.TileSystem.{TileSystem}
use Rattle.atam.specs.Placements.{SamePlacements, HasDistinctSites, tile_at}
use Rattle.atam.specs.Assembly.{pull}
use Rattle.atam.proofs.Bonds.{pull-mono}
use Rattle.atam.proofs.Placements.{same_tiles}
use Rattle.atam.proofs.Tiles.{SamePlacements-trans}
use Rattle.grow_core.specs.declared.placed_tile.PlacedTile.{PlacedTile}
use Rattle.atam.specs.declared.event.Event.{Event}
use Rattle.atam.specs.declared.event.Event.TheVariants.{Look, Claim, Split, Join}
use Rattle.atam.specs.declared.event.Seen.{Seen}
use Rattle.atam.specs.declared.event.Seen.TheVariants.{Saw, Won, Held, Divided, Joined}
use Rattle.atam.specs.declared.event.CoreStop.{CoreStop}
use Rattle.atam.specs.declared.event.CoreStop.TheVariants.{NoMemory, NotSupported}
use Rattle.grow_core.specs.Core.{ScoutState, CoreState, scout_at, least, greatest, OwnsTwoOrMore, places, placed_by}
use Rattle.grow_core.specs.Steps.{place, IsScoutOf, Sees, Wins, IsKeptPart, IsGivenPart, IsUnion, IsStart, HasScout, Supports, won_tile, kept_tiles, with_scout, with_tile, without_scout, actor, CoreStep, CoreRun, no_such_scout, no_other_scout, same_scout, looks_outside, claims_outside, unsupported, one_number, no_memory, saw_none, saw_tile, won, held, divided, joined, stopped, stepped}
use Rattle.grow_core.specs.RunLaws.{HasMemory}
use Rattle.grow_core.proofs.Assembled.{same_seen}
use Rattle.grow_core.proofs.Stepped.{refused-same}
use Rattle.grow_core.proofs.Unique.{one_reply}

same_back : (a b : List Place) → SamePlacements a b → SamePlacements b a
same_back a b same = record { part = same.whole; whole = same.part }

same_append : (a b c d : List Place) → SamePlacements a b → SamePlacements c d → SamePlacements (a ++ c) (b ++ d)
same_append a b c d one two = record {
  part = λ p h. elim (Contains-append_cases a c p h) [
    | inl left ↦ Contains-append_left b d p (one.part p left)
    | inr right ↦ Contains-append_right b d p (two.part p right)
  ];
  whole = λ p h. elim (Contains-append_cases b d p h) [
    | inl left ↦ Contains-append_left a c p (one.whole p left)
    | inr right ↦ Contains-append_right a c p (two.whole p right)
  ];
}

-- two scouts that differ at most in the order of what they have seen
pub record IsLike (v w : ScoutState) : Type 0 where
  pub owned : v.owned ≡ w.owned
  pub mine : v.mine ≡ w.mine
  pub seen : SamePlacements v.seen w.seen
  pub one_distinct : HasDistinctSites v.seen
  pub two_distinct : HasDistinctSites w.seen

abbrev pub EntryIsLike : Option ScoutState → Option ScoutState → Type 0
EntryIsLike None None = Unit {0}
EntryIsLike None (Some w) = ⊥
EntryIsLike (Some v) None = ⊥
EntryIsLike (Some v) (Some w) = IsLike v w

abbrev pub AreLike : List (Option ScoutState) → List (Option ScoutState) → Type 0
AreLike [] [] = Unit {0}
AreLike [] (y ∷ m) = ⊥
AreLike (x ∷ l) [] = ⊥
AreLike (x ∷ l) (y ∷ m) = EntryIsLike x y × AreLike l m

pub record IsLikeState (s t : CoreState) : Type 0 where
  pub tiles : s.tiles ≡ t.tiles
  pub scouts : AreLike s.scouts t.scouts

like_none : (l m : List (Option ScoutState)) (a : ℕ) → AreLike l m → scout_at l a ≡ None → scout_at m a ≡ None
like_none [] [] a like e = e
like_none [] (y ∷ m) a like e = absurd like
like_none (x ∷ l) [] a like e = absurd like
like_none (None ∷ l) (None ∷ m) zero like e = refl
like_none (None ∷ l) (Some w ∷ m) zero like e = absurd like.0
like_none (Some v ∷ l) (y ∷ m) zero like e = absurd (none-some v (sym e))
like_none (x ∷ l) (y ∷ m) (suc a) like e = like_none l m a like.1 e

-- the scout of a name in the other list
record HasLike (m : List (Option ScoutState)) (a : ℕ) (v : ScoutState) : Type 0 where
  scout : ScoutState
  here : scout_at m a ≡ Some scout
  like : IsLike v scout

like_some : (l m : List (Option ScoutState)) (a : ℕ) (v : ScoutState) → AreLike l m → scout_at l a ≡ Some v → HasLike m a v
like_some [] m a v like e = absurd (none-some v e)
like_some (x ∷ l) [] a v like e = absurd like
like_some (None ∷ l) (y ∷ m) zero v like e = absurd (none-some v e)
like_some (Some u ∷ l) (None ∷ m) zero v like e = absurd like.0
like_some (Some u ∷ l) (Some w ∷ m) zero v like e = record { scout = w; here = refl; like = subst (λ (z : ScoutState). IsLike z w) (same_Some u v e) like.0 }
like_some (x ∷ l) (y ∷ m) (suc a) v like e =
    let rest = like_some l m a v like.1 e in
    record { scout = rest.scout; here = rest.here; like = rest.like }

like_set : (l m : List (Option ScoutState)) (a : ℕ) (x y : Option ScoutState) → AreLike l m → EntryIsLike x y → AreLike (set l a x) (set m a y)
like_set [] [] a x y like entry = tt
like_set [] (z ∷ m) a x y like entry = absurd like
like_set (z ∷ l) [] a x y like entry = absurd like
like_set (z ∷ l) (w ∷ m) zero x y like entry = (entry, like.1)
like_set (z ∷ l) (w ∷ m) (suc a) x y like entry = (like.0, like_set l m a x y like.1 entry)

like_nones : (k : ℕ) → AreLike (replicate k None) (replicate k None)
like_nones zero = tt
like_nones (suc k) = (tt, like_nones k)

-- a scout described by the one is described by the other
described : (n k : ℕ) (ps qs : List Place) (ts us : List PlacedTile) (w : ScoutState) → n ≡ k → SamePlacements ps qs → ts ≡ us → IsScoutOf n ps ts w → IsScoutOf k qs us w
described n k ps qs ts us w same_numbers same same_mine is = record {
  owned = is.owned ∙ same_numbers;
  seen = SamePlacements-trans qs ps w.seen (same_back ps qs same) is.seen;
  distinct = is.distinct;
  mine = is.mine ∙ same_mine;
}

two_like : (n k : ℕ) (ps qs : List Place) (ts us : List PlacedTile) (v w : ScoutState) → n ≡ k → SamePlacements ps qs → ts ≡ us → IsScoutOf n ps ts v → IsScoutOf k qs us w → IsLike v w
two_like n k ps qs ts us v w same_numbers same same_mine one two = record {
  owned = one.owned ∙ (same_numbers ∙ sym two.owned);
  mine = one.mine ∙ (same_mine ∙ sym two.mine);
  seen = SamePlacements-trans v.seen ps w.seen (same_back ps v.seen one.seen) (SamePlacements-trans ps qs w.seen same two.seen);
  one_distinct = one.distinct;
  two_distinct = two.distinct;
}

abbrev head_of : List Event → Event → Event
head_of [] d = d
head_of (e ∷ l) d = e

abbrev tail_of : List Event → List Event
tail_of [] = []
tail_of (e ∷ l) = l

module _ (sys : TileSystem) where
  like_pull : (v w : ScoutState) (m : Site) (t : TypeId) → IsLike v w → pull sys w.seen m t ≡ pull sys v.seen m t
  like_pull v w m t like =
      let both = same_tiles v.seen w.seen like.one_distinct like.two_distinct like.seen in
      let up = pull-mono sys v.seen w.seen m t both.0 in
      let down = pull-mono sys w.seen v.seen m t both.1 in
      omega (arith, up, down)

  -- the parts of two like scouts
  module _ (v w : ScoutState) (like : IsLike v w) where
    more_seen : (p : Place) → SamePlacements (v.seen ++ p ∷ []) (w.seen ++ p ∷ [])
    more_seen p = same_append v.seen w.seen (p ∷ []) (p ∷ []) like.seen (same_seen (p ∷ []))

    more_mine : (p : Place) → v.mine ++ won_tile v p.site p.tile ∷ [] ≡ w.mine ++ won_tile w p.site p.tile ∷ []
    more_mine p = ap (λ l. l ++ won_tile v p.site p.tile ∷ []) like.mine ∙ ap (λ n. w.mine ++ record { place = p; placer = least n } ∷ []) like.owned

    sees : (p : Place) (x : ScoutState) → Sees v p x → Sees w p x
    sees p x is = described v.owned w.owned (v.seen ++ p ∷ []) (w.seen ++ p ∷ []) v.mine w.mine x like.owned (more_seen p) like.mine is

    wins : (p : Place) (x : ScoutState) → Wins v p x → Wins w p x
    wins p x is = described v.owned w.owned (v.seen ++ p ∷ []) (w.seen ++ p ∷ []) (v.mine ++ won_tile v p.site p.tile ∷ []) (w.mine ++ won_tile w p.site p.tile ∷ []) x
        like.owned (more_seen p) (more_mine p) is

    left_numbers : v.owned - 2 ^ greatest v.owned ≡ w.owned - 2 ^ greatest w.owned
    left_numbers = ap (λ n. n - 2 ^ greatest n) like.owned

    left_mine : kept_tiles (greatest v.owned) v.mine ≡ kept_tiles (greatest w.owned) w.mine
    left_mine = ap (λ n. kept_tiles (greatest n) v.mine) like.owned ∙ ap (kept_tiles (greatest w.owned)) like.mine

    given_mine : placed_by (greatest v.owned) v.mine ≡ placed_by (greatest w.owned) w.mine
    given_mine = ap (λ n. placed_by (greatest n) v.mine) like.owned ∙ ap (placed_by (greatest w.owned)) like.mine

    given_number : 2 ^ greatest v.owned ≡ 2 ^ greatest w.owned
    given_number = ap (λ n. 2 ^ greatest n) like.owned

    kept_part : (x : ScoutState) → IsKeptPart v x → IsKeptPart w x
    kept_part x is = described _ _ v.seen w.seen _ _ x left_numbers like.seen left_mine is

    given_part : (x : ScoutState) → IsGivenPart v x → IsGivenPart w x
    given_part x is = described _ _ v.seen w.seen _ _ x given_number like.seen given_mine is

  module _ (v w a b : ScoutState) (like_v : IsLike v a) (like_w : IsLike w b) where
    both_numbers : bit_or v.owned w.owned ≡ bit_or a.owned b.owned
    both_numbers = ap (λ n. bit_or n w.owned) like_v.owned ∙ ap (bit_or a.owned) like_w.owned

    both_seen : SamePlacements (v.seen ++ w.seen) (a.seen ++ b.seen)
    both_seen = same_append v.seen a.seen w.seen b.seen like_v.seen like_w.seen

    both_mine : v.mine ++ w.mine ≡ a.mine ++ b.mine
    both_mine = ap (λ l. l ++ w.mine) like_v.mine ∙ ap (λ l. a.mine ++ l) like_w.mine

    union : (x : ScoutState) → IsUnion v w x → IsUnion a b x
    union x is = described _ _ (v.seen ++ w.seen) (a.seen ++ b.seen) _ _ x both_numbers both_seen both_mine is

  -- a state that is like another has the same step, if another end
  module _ (s t : CoreState) (like : IsLikeState s t) where
    other : (a : ℕ) (v : ScoutState) → HasScout s a v → HasLike t.scouts a v
    other a v here = like_some s.scouts t.scouts a v like.scouts here

    lacks : (a : ℕ) → scout_at s.scouts a ≡ None → scout_at t.scouts a ≡ None
    lacks a nobody = like_none s.scouts t.scouts a like.scouts nobody

    there : (m : Site) (o : Option TypeId) → tile_at (places s.tiles) m ≡ o → tile_at (places t.tiles) m ≡ o
    there m o e = subst (λ l. tile_at (places l) m ≡ o) like.tiles e

    supports : (v : ScoutState) (a : ℕ) (m : Site) (k : TypeId) (o : HasLike t.scouts a v) → Supports sys v m k → Supports sys o.scout m k
    supports v a m k o enough = let e = like_pull v o.scout m k o.like in omega (arith, e, enough)

    step_from : (event : Event) (reply : Result Seen CoreStop) (u : CoreState) → CoreStep sys s event reply u → (x : CoreState) × CoreStep sys t event reply x
    step_from event reply u (no_such_scout e nobody) = (t, no_such_scout e (lacks (actor e) nobody))
    step_from event reply u (no_other_scout into from nobody) = (t, no_other_scout into from (lacks from nobody))
    step_from event reply u (same_scout into from same) = (t, same_scout into from same)
    step_from event reply u (looks_outside who site v here outside) = let o = other who v here in (t, looks_outside who site o.scout o.here outside)
    step_from event reply u (claims_outside who site tile v here outside) = let o = other who v here in (t, claims_outside who site tile o.scout o.here outside)
    step_from event reply u (unsupported who site tile v here inside weak) =
        let o = other who v here in
        let e = like_pull v o.scout site tile o.like in
        (t, subst (λ n. CoreStep sys t (Claim who site tile) (Err (NotSupported n)) t) e (unsupported who site tile o.scout o.here inside (omega (arith, e, weak))))
    step_from event reply u (one_number who v here one) =
        let o = other who v here in
        (t, one_number who o.scout o.here (λ two. one (subst OwnsTwoOrMore (sym o.like.owned) two)))
    step_from event reply u (no_memory who v here two) = let o = other who v here in (t, no_memory who o.scout o.here (subst OwnsTwoOrMore o.like.owned two))
    step_from event reply u (saw_none who site v here inside empty) = let o = other who v here in (t, saw_none who site o.scout o.here inside (there site None empty))
    step_from event reply u (saw_tile who site k v w here inside found is) =
        let o = other who v here in
        (with_scout t who w, saw_tile who site k o.scout w o.here inside (there site (Some k) found) (sees v o.scout o.like (place site k) w is))
    step_from event reply u (won who site tile v w here inside supported empty is) =
        let o = other who v here in (
          with_scout (with_tile t (won_tile o.scout site tile)) who w,
          won who site tile o.scout w o.here inside (supports v who site tile o supported) (there site None empty) (wins v o.scout o.like (place site tile) w is),
        )
    step_from event reply u (held who site tile k v w here inside supported found is) =
        let o = other who v here in
        (with_scout t who w, held who site tile k o.scout w o.here inside (supports v who site tile o supported) (there site (Some k) found) (sees v o.scout o.like (place site k) w is))
    step_from event reply u (divided who v w x here two rest new) =
        let o = other who v here in (
          with_scout (with_scout t who w) (greatest o.scout.owned) x,
          subst (λ n. CoreStep sys t (Split who) (Ok (Divided (greatest n))) (with_scout (with_scout t who w) (greatest o.scout.owned) x)) (sym o.like.owned)
              (divided who o.scout w x o.here (subst OwnsTwoOrMore o.like.owned two) (kept_part v o.scout o.like w rest) (given_part v o.scout o.like x new)),
        )
    step_from event reply u (joined into from v w x at_into at_from differ is) =
        let o = other into v at_into in
        let q = other from w at_from in (
          with_scout (without_scout (without_scout t into) from) (min into from) x,
          joined into from o.scout q.scout x o.here q.here differ (union v w o.scout q.scout o.like q.like x is),
        )

    -- so the replies are the same
    same_reply : (event : Event) (one two : Result Seen CoreStop) (u x : CoreState) → CoreStep sys s event one u → CoreStep sys t event two x →
        one ≢ Err NoMemory → two ≢ Err NoMemory → one ≡ two
    same_reply event one two u x step step' memory memory' =
        let moved = step_from event one u step in
        one_reply sys t moved.0 x event one two moved.1 step' memory memory'

  -- what an answered step has made of a state
  record AfterSight (t : CoreState) (who : ℕ) (p : Place) (x : CoreState) : Type 0 where
    before : ScoutState
    after : ScoutState
    here : HasScout t who before
    sees : Sees before p after
    is : x ≡ with_scout t who after

  record AfterWin (t : CoreState) (who : ℕ) (p : Place) (x : CoreState) : Type 0 where
    before : ScoutState
    after : ScoutState
    here : HasScout t who before
    wins : Wins before p after
    is : x ≡ with_scout (with_tile t (won_tile before p.site p.tile)) who after

  record AfterSplit (t : CoreState) (who g : ℕ) (x : CoreState) : Type 0 where
    before : ScoutState
    kept : ScoutState
    given : ScoutState
    here : HasScout t who before
    is_kept : IsKeptPart before kept
    is_given : IsGivenPart before given
    number : g ≡ greatest before.owned
    is : x ≡ with_scout (with_scout t who kept) (greatest before.owned) given

  record AfterJoin (t : CoreState) (into from : ℕ) (x : CoreState) : Type 0 where
    one : ScoutState
    two : ScoutState
    both : ScoutState
    at_into : HasScout t into one
    at_from : HasScout t from two
    is_both : IsUnion one two both
    is : x ≡ with_scout (without_scout (without_scout t into) from) (min into from) both

  after_none : (t x : CoreState) (who : ℕ) (site : Site) → CoreStep sys t (Look who site) (Ok (Saw None)) x → x ≡ t
  after_none t x who site (saw_none who1 site1 v here inside empty) = refl

  after_look : (t x : CoreState) (who : ℕ) (site : Site) (k : TypeId) → CoreStep sys t (Look who site) (Ok (Saw (Some k))) x → AfterSight t who (place site k) x
  after_look t x who site k (saw_tile who1 site1 k1 v w here inside found is) = record { before = v; after = w; here = here; sees = is; is = refl }

  after_held : (t x : CoreState) (who : ℕ) (site : Site) (tile k : TypeId) → CoreStep sys t (Claim who site tile) (Ok (Held k)) x → AfterSight t who (place site k) x
  after_held t x who site tile k (held who1 site1 tile1 k1 v w here inside supported found is) = record { before = v; after = w; here = here; sees = is; is = refl }

  after_won : (t x : CoreState) (who : ℕ) (site : Site) (tile : TypeId) → CoreStep sys t (Claim who site tile) (Ok Won) x → AfterWin t who (place site tile) x
  after_won t x who site tile (won who1 site1 tile1 v w here inside supported empty is) = record { before = v; after = w; here = here; wins = is; is = refl }

  after_split : (t x : CoreState) (who g : ℕ) → CoreStep sys t (Split who) (Ok (Divided g)) x → AfterSplit t who g x
  after_split t x who g (divided who1 v w y here two rest new) = record { before = v; kept = w; given = y; here = here; is_kept = rest; is_given = new; number = refl; is = refl }

  after_join : (t x : CoreState) (into from n : ℕ) → CoreStep sys t (Join into from) (Ok (Joined n)) x → AfterJoin t into from x
  after_join t x into from n (joined into1 from1 v w y at_into at_from differ is) = record { one = v; two = w; both = y; at_into = at_into; at_from = at_from; is_both = is; is = refl }

  -- like states stay alike by the same event with the same reply
  module _ (s t : CoreState) (like : IsLikeState s t) where
    twin : (a : ℕ) (v w : ScoutState) → HasScout s a v → HasScout t a w → IsLike v w
    twin a v w here here' =
        let o = like_some s.scouts t.scouts a v like.scouts here in
        subst (IsLike v) (same_Some o.scout w (sym o.here ∙ here')) o.like

    set_both : (a : ℕ) (v w : ScoutState) → IsLike v w → IsLikeState (with_scout s a v) (with_scout t a w)
    set_both a v w one = record { tiles = like.tiles; scouts = like_set s.scouts t.scouts a (Some v) (Some w) like.scouts one }

    refused : (event : Event) (stop : CoreStop) (x : CoreState) → CoreStep sys t event (Err stop) x → IsLikeState s x
    refused event stop x step = subst (IsLikeState s) (sym (refused-same sys t x event stop step)) like

    seen_both : (who : ℕ) (p : Place) (v w : ScoutState) (x : CoreState) → HasScout s who v → Sees v p w → AfterSight t who p x → IsLikeState (with_scout s who w) x
    seen_both who p v w x here is after =
        let one = twin who v after.before here after.here in
        subst (IsLikeState (with_scout s who w)) (sym after.is)
        (set_both who w after.after (two_like _ _ (v.seen ++ p ∷ []) (after.before.seen ++ p ∷ []) _ _ w after.after one.owned (more_seen v after.before one p) one.mine is after.sees))

    won_both : (who : ℕ) (p : Place) (v w : ScoutState) (x : CoreState) → HasScout s who v → Wins v p w → AfterWin t who p x →
        IsLikeState (with_scout (with_tile s (won_tile v p.site p.tile)) who w) x
    won_both who p v w x here is after =
        let one = twin who v after.before here after.here in
        let entries = like_set s.scouts t.scouts who (Some w) (Some after.after) like.scouts
        (two_like _ _ (v.seen ++ p ∷ []) (after.before.seen ++ p ∷ []) _ _ w after.after one.owned (more_seen v after.before one p) (more_mine v after.before one p) is after.wins) in
        subst (IsLikeState (with_scout (with_tile s (won_tile v p.site p.tile)) who w)) (sym after.is)
        (record {
          tiles = ap (λ l. l ++ won_tile v p.site p.tile ∷ []) like.tiles ∙ ap (λ n. t.tiles ++ record { place = p; placer = least n } ∷ []) one.owned;
          scouts = entries;
        })

    like_end : (event : Event) (reply : Result Seen CoreStop) (u x : CoreState) → CoreStep sys s event reply u → CoreStep sys t event reply x → IsLikeState u x
    like_end event reply u x (no_such_scout e nobody) step = refused event _ x step
    like_end event reply u x (no_other_scout into from nobody) step = refused event _ x step
    like_end event reply u x (same_scout into from same) step = refused event _ x step
    like_end event reply u x (looks_outside who site v here outside) step = refused event _ x step
    like_end event reply u x (claims_outside who site tile v here outside) step = refused event _ x step
    like_end event reply u x (unsupported who site tile v here inside weak) step = refused event _ x step
    like_end event reply u x (one_number who v here one) step = refused event _ x step
    like_end event reply u x (no_memory who v here two) step = refused event _ x step
    like_end event reply u x (saw_none who site v here inside empty) step = subst (IsLikeState s) (sym (after_none t x who site step)) like
    like_end event reply u x (saw_tile who site k v w here inside found is) step = seen_both who (place site k) v w x here is (after_look t x who site k step)
    like_end event reply u x (won who site tile v w here inside supported empty is) step = won_both who (place site tile) v w x here is (after_won t x who site tile step)
    like_end event reply u x (held who site tile k v w here inside supported found is) step = seen_both who (place site k) v w x here is (after_held t x who site tile k step)
    like_end event reply u x (divided who v w y here two rest new) step =
        let after = after_split t x who (greatest v.owned) step in
        let one = twin who v after.before here after.here in
        let kept : IsLike w after.kept = two_like _ _ v.seen after.before.seen _ _ w after.kept (left_numbers v after.before one) one.seen (left_mine v after.before one) rest after.is_kept in
        let given : IsLike y after.given = two_like _ _ v.seen after.before.seen _ _ y after.given (given_number v after.before one) one.seen (given_mine v after.before one) new after.is_given in
        let mid = set_both who w after.kept kept in
        subst (IsLikeState u) (sym after.is)
        (record {
          tiles = like.tiles;
          scouts = subst (λ n. AreLike (set (set s.scouts who (Some w)) (greatest v.owned) (Some y)) (set (set t.scouts who (Some after.kept)) n (Some after.given))) after.number
              (like_set (set s.scouts who (Some w)) (set t.scouts who (Some after.kept)) (greatest v.owned) (Some y) (Some after.given) mid.scouts given);
        })
    like_end event reply u x (joined into from v w y at_into at_from differ is) step =
        let after = after_join t x into from (min into from) step in
        let one = twin into v after.one at_into after.at_into in
        let two = twin from w after.two at_from after.at_from in
        let both : IsLike y after.both = two_like _ _ (v.seen ++ w.seen) (after.one.seen ++ after.two.seen) _ _ y after.both
        (both_numbers v w after.one after.two one two) (both_seen v w after.one after.two one two) (both_mine v w after.one after.two one two) is after.is_both in
        subst (IsLikeState u) (sym after.is)
        (record {
          tiles = like.tiles;
          scouts = like_set (set (set s.scouts into None) from None) (set (set t.scouts into None) from None) (min into from) (Some y) (Some after.both)
              (like_set (set s.scouts into None) (set t.scouts into None) from None None (like_set s.scouts t.scouts into None None like.scouts tt) tt) both;
        })

  abbrev pub Answered : Type 0
  Answered = Event × Result Seen CoreStop

  memory_here : (x : Answered) (rest : List Answered) → HasMemory (x ∷ rest) → x.1 ≢ Err NoMemory
  memory_here x rest memory = memory 0 x (omega arith)

  memory_later : (x : Answered) (rest : List Answered) → HasMemory (x ∷ rest) → HasMemory rest
  memory_later x rest memory = λ k d within. memory (suc k) d (omega (arith, within))

  pub run_like : (s t u x : CoreState) (one two : List Answered) → IsLikeState s t → CoreRun sys s one u → CoreRun sys t two x → map (λ r. r.0) one ≡ map (λ r. r.0) two →
      HasMemory one → HasMemory two → (one ≡ two) × (u.tiles ≡ x.tiles)
  run_like s t u x one two like (stopped a) (stopped b) events memory memory' = (refl, like.tiles)
  run_like s t u x one two like (stopped a) (stepped b c d event reply rest step run) events memory memory' = absurd (cc events)
  run_like s t u x one two like (stepped a b c event reply rest step run) (stopped d) events memory memory' = absurd (cc events)
  run_like s t u x one two like (stepped a b c event reply rest step run) (stepped d e f event' reply' rest' step' run') events memory memory' =
      let same_event : event ≡ event' = ap (λ l. head_of l event) events in
      let step_here : CoreStep sys d event reply' e = subst (λ z. CoreStep sys d z reply' e) (sym same_event) step' in
      let same : reply ≡ reply' = same_reply a d like event reply reply' b e step step_here (memory_here (event, reply) rest memory) (memory_here (event', reply') rest' memory') in
      let step_there : CoreStep sys d event reply e = subst (λ z. CoreStep sys d event z e) (sym same) step_here in
      let next = like_end a d like event reply b e step step_there in
      let later = run_like b e c f rest rest' next run run' (ap tail_of events) (memory_later (event, reply) rest memory) (memory_later (event', reply') rest' memory') in
      ((λ i. (same_event i, same i) ∷ later.0 i), later.1)

  pub start_like : (s t : CoreState) → IsStart sys s → IsStart sys t → IsLikeState s t
  start_like s t one two =
      let first : IsLike one.first two.first = two_like _ _ sys.seeds sys.seeds [] [] one.first two.first refl (same_seen sys.seeds) refl one.seeds two.seeds in
      record {
        tiles = one.tiles ∙ sym two.tiles;
        scouts = subst (λ l. AreLike l t.scouts) (sym one.scouts) (subst (AreLike (Some one.first ∷ replicate 63 None)) (sym two.scouts) (first, like_nones 63));
      }
