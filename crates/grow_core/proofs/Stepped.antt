-- Each event keeps the invariant; and where a scout has seen a closed assembly, that is all, and no event adds to it.
use Rattle.std.proofs.Common.{set, min, ◌≡◌, ◌≢◌, ◌≤◌, ℕ, List, Option, Some, None, Contains, length, option_and_then, Result, Err, refl, ap, arith, ◌∙◌}
use Rattle.std.proofs.Math.Nat.{le_trans}
use Rattle.std.proofs.lemmas.Option.{slice_get_past}
use mathlib.Core.Logic.{dite}
use native.Mathlib.Decide.{dec_lt}
use Rattle.atam.specs.declared.place.GlueId.{GlueId}
use Rattle.std.proofs.lemmas.List.Elements.{All-contains, All-map}
use Rattle.atam.specs.declared.site.Site.{Site}
use Rattle.atam.specs.declared.site.Side.{Side}
use Rattle.atam.specs.declared.site.Side.TheVariants.{North, East, South, West}
use Rattle.atam.specs.declared.place.TypeId.{TypeId}
use Rattle.atam.specs.declared.place.Place.{Place}
use Rattle.atam.specs.Sites.{InBox, neighbor, opposite}
use Rattle.atam.specs.TileSystem.{TileSystem, IsType, IsValid, side_glue, side_of}
use Rattle.atam.specs.Placements.{tile_at, SamePlacements}
use Rattle.atam.specs.Assembly.{pull, bond, interaction, glue_at}
use Rattle.atam.specs.Growth.{IsClosedInBox, IsProducible}
use Rattle.atam.proofs.Lists.{slice_get-Contains}
use Rattle.atam.proofs.Bonds.{pull-mono}
use Rattle.atam.proofs.Placements.{Extends, Contains-tile_at, tile_at-Contains, empty_in_part}
use Rattle.atam.proofs.Sequences.{IsLegal-seeds_distinct}
use Rattle.atam.proofs.Closure.{closure}
use Rattle.grow_core.specs.declared.placed_tile.PlacedTile.{PlacedTile}
use Rattle.atam.specs.declared.event.Event.{Event}
use Rattle.atam.specs.declared.event.Event.TheVariants.{Look, Claim, Split, Join}
use Rattle.atam.specs.declared.event.Seen.{Seen}
use Rattle.atam.specs.declared.event.CoreStop.{CoreStop}
use Rattle.grow_core.specs.Core.{ScoutState, CoreState, scout_at, least, greatest, places, IsHistory, ScoutInvariant, CoreInvariant}
use Rattle.grow_core.specs.Steps.{without_scout, CoreStep, CoreRun, place, no_such_scout, no_other_scout, same_scout, looks_outside, claims_outside, unsupported, one_number, no_memory, saw_none, saw_tile, won, held, divided, joined, stopped, stepped}
use Rattle.std.proofs.lemmas.Nat.{or_lt}
use Rattle.grow_core.proofs.Named.{named_set, named_unset}
use Rattle.grow_core.proofs.Numbers.{least-of_rest, least-of_greatest, least-of_both}
use Rattle.grow_core.proofs.Kept.{extends, left_out, seen-invariant, won-invariant}
use Rattle.grow_core.proofs.Parted.{divided-invariant, joined-invariant}

-- no type past the last one is pulled
past_types : (sys : TileSystem) (t : TypeId) → length sys.types ≤ t.0 → (d : Side) → side_glue sys t d ≡ None
past_types sys t past d = ap (option_and_then (λ u. side_of u d)) (slice_get_past sys.types t.0 past)

no_bond : (sys : TileSystem) (tiles : List Place) (m : Site) (t : TypeId) (d : Side) → length sys.types ≤ t.0 → bond sys tiles m t d ≡ 0
unfolding bond
no_bond sys tiles m t d past = ap (λ (o : Option GlueId). interaction sys o (glue_at sys tiles (neighbor m d) (opposite d))) (past_types sys t past d)

pub no_pull : (sys : TileSystem) (tiles : List Place) (m : Site) (t : TypeId) → length sys.types ≤ t.0 → pull sys tiles m t ≡ 0
unfolding pull
no_pull sys tiles m t past =
    let n = no_bond sys tiles m t North past in
    let e = no_bond sys tiles m t East past in
    let s = no_bond sys tiles m t South past in
    let w = no_bond sys tiles m t West past in
    omega (arith, n, e, s, w)

-- so what is supported is a type of the system
pub supported_type : (sys : TileSystem) (tiles : List Place) (m : Site) (t : TypeId) → 1 ≤ sys.tau → sys.tau ≤ pull sys tiles m t → IsType sys t
supported_type sys tiles m t some_tau supported = dite (dec_lt t.0 (length sys.types)) (λ l. l)
    (λ f. let none = no_pull sys tiles m t (omega (arith, f)) in absurd (omega (arith, none, some_tau, supported)))

-- A look, a split and a join keep the invariant.
pub look-invariant : (sys : TileSystem) (s t : CoreState) (who : ℕ) (site : Site) (reply : Result Seen CoreStop) → CoreStep sys s (Look who site) reply t → CoreInvariant sys s → CoreInvariant sys t
look-invariant sys s t who site reply (no_such_scout e nobody) holds = holds
look-invariant sys s t who site reply (looks_outside who1 site1 v here outside) holds = holds
look-invariant sys s t who site reply (saw_none who1 site1 v here inside empty) holds = holds
look-invariant sys s t who site reply (saw_tile who1 site1 there v w here inside found is) holds = record {
  growth = seen-invariant sys s.tiles s.scouts who1 v w (place site1 there) holds.growth here (tile_at-Contains (places s.tiles) site1 there found) is;
  named = named_set s.scouts who1 w holds.named (ap least is.owned ∙ holds.named.own_name who1 v here);
}

pub split-invariant : (sys : TileSystem) (s t : CoreState) (who : ℕ) (reply : Result Seen CoreStop) → CoreStep sys s (Split who) reply t → CoreInvariant sys s → CoreInvariant sys t
split-invariant sys s t who reply (no_such_scout e nobody) holds = holds
split-invariant sys s t who reply (one_number who1 v here one) holds = holds
split-invariant sys s t who reply (no_memory who1 v here two) holds = holds
split-invariant sys s t who reply (divided who1 v w x here two rest new) holds =
    let knows = holds.growth.each who1 v here in
    record {
      growth = divided-invariant sys s.tiles s.scouts who1 v w x holds.growth here two (greatest v.owned) rest new;
      named = named_set (set s.scouts who1 (Some w)) (greatest v.owned) x
          (named_set s.scouts who1 w holds.named
          (ap least rest.owned ∙ (least-of_rest v.owned knows.some_number knows.numbers two ∙ holds.named.own_name who1 v here)))
          (ap least new.owned ∙ least-of_greatest v.owned knows.some_number knows.numbers);
    }

pub join-invariant : (sys : TileSystem) (s t : CoreState) (into from : ℕ) (reply : Result Seen CoreStop) → CoreStep sys s (Join into from) reply t → CoreInvariant sys s → CoreInvariant sys t
join-invariant sys s t into from reply (no_such_scout e nobody) holds = holds
join-invariant sys s t into from reply (no_other_scout into1 from1 nobody) holds = holds
join-invariant sys s t into from reply (same_scout into1 from1 same) holds = holds
join-invariant sys s t into from reply (joined into1 from1 v w x at_into at_from differ is) holds =
    let knows_v = holds.growth.each into1 v at_into in
    let knows_w = holds.growth.each from1 w at_from in
    record {
      growth = joined-invariant sys s.tiles s.scouts into1 from1 v w x holds.growth at_into at_from differ (min into1 from1) is;
      named = named_set (set (set s.scouts into1 None) from1 None) (min into1 from1) x
          (named_unset (set s.scouts into1 None) from1 (named_unset s.scouts into1 holds.named))
          (ap least is.owned
          ∙ (least-of_both v.owned w.owned knows_v.some_number knows_v.numbers knows_w.some_number knows_w.numbers (or_lt 64 v.owned w.owned knows_v.numbers knows_w.numbers)
          ∙ (ap (λ k. min k (least w.owned)) (holds.named.own_name into1 v at_into) ∙ ap (λ k. min into1 k) (holds.named.own_name from1 w at_from))));
    }

-- A claim keeps it in a valid system.
pub claim-invariant : (sys : TileSystem) (s t : CoreState) (who : ℕ) (site : Site) (tile : TypeId) (reply : Result Seen CoreStop) → IsValid sys → CoreStep sys s (Claim who site tile) reply t →
    CoreInvariant sys s → CoreInvariant sys t
claim-invariant sys s t who site tile reply valid (no_such_scout e nobody) holds = holds
claim-invariant sys s t who site tile reply valid (claims_outside who1 site1 tile1 v here outside) holds = holds
claim-invariant sys s t who site tile reply valid (unsupported who1 site1 tile1 v here inside weak) holds = holds
claim-invariant sys s t who site tile reply valid (won who1 site1 tile1 v w here inside supported empty is) holds = record {
  growth = won-invariant sys s.tiles s.scouts who1 v w (place site1 tile1) holds.growth here
      (supported_type sys v.seen site1 tile1 valid.some_tau supported) inside supported empty is;
  named = named_set s.scouts who1 w holds.named (ap least is.owned ∙ holds.named.own_name who1 v here);
}
claim-invariant sys s t who site tile reply valid (held who1 site1 tile1 there v w here inside supported found is) holds = record {
  growth = seen-invariant sys s.tiles s.scouts who1 v w (place site1 there) holds.growth here (tile_at-Contains (places s.tiles) site1 there found) is;
  named = named_set s.scouts who1 w holds.named (ap least is.owned ∙ holds.named.own_name who1 v here);
}

-- so each event does
pub step-invariant : (sys : TileSystem) (s t : CoreState) (event : Event) (reply : Result Seen CoreStop) → IsValid sys → CoreStep sys s event reply t → CoreInvariant sys s → CoreInvariant sys t
step-invariant sys s t (Look who site) reply valid step holds = look-invariant sys s t who site reply step holds
step-invariant sys s t (Claim who site tile) reply valid step holds = claim-invariant sys s t who site tile reply valid step holds
step-invariant sys s t (Split who) reply valid step holds = split-invariant sys s t who reply step holds
step-invariant sys s t (Join into from) reply valid step holds = join-invariant sys s t into from reply step holds

pub left-invariant : (sys : TileSystem) (s : CoreState) (name : ℕ) → CoreInvariant sys s → CoreInvariant sys (without_scout s name)
left-invariant sys s name holds = record {
  growth = left_out sys s.tiles s.scouts name holds.growth;
  named = named_unset s.scouts name holds.named;
}

pub refused-same : (sys : TileSystem) (s t : CoreState) (event : Event) (stop : CoreStop) → CoreStep sys s event (Err stop) t → t ≡ s
refused-same sys s t event stop (no_such_scout e nobody) = refl
refused-same sys s t event stop (no_other_scout into from nobody) = refl
refused-same sys s t event stop (same_scout into from same) = refl
refused-same sys s t event stop (looks_outside who site v here outside) = refl
refused-same sys s t event stop (claims_outside who site tile v here outside) = refl
refused-same sys s t event stop (unsupported who site tile v here inside weak) = refl
refused-same sys s t event stop (one_number who v here one) = refl
refused-same sys s t event stop (no_memory who v here two) = refl

pub run-invariant : (sys : TileSystem) (s t : CoreState) (replies : List (Event × Result Seen CoreStop)) → IsValid sys → CoreRun sys s replies t → CoreInvariant sys s → CoreInvariant sys t
run-invariant sys s t replies valid (stopped u) holds = holds
run-invariant sys s t replies valid (stepped a b c event reply rest step run) holds = run-invariant sys b c rest valid run (step-invariant sys a b event reply valid step holds)

pub producible : (sys : TileSystem) (s : CoreState) → CoreInvariant sys s → IsProducible sys (places s.tiles)
producible sys s holds = record { sequence = places s.tiles; legal = holds.growth.history.legal; same = record { part = λ p c. c; whole = λ p c. c } }

module _ (sys : TileSystem) (log : List PlacedTile) (v : ScoutState) (history : IsHistory sys log) (knows : ScoutInvariant sys log v) (closed : IsClosedInBox sys v.seen) where
  in_box : (p : Place) → Contains (places log) p → InBox sys.area p.site
  in_box p c = All-contains (λ (q : Place). InBox sys.area q.site) (places log) p (All-map (λ (q : Place). InBox sys.area q.site) (λ (t : PlacedTile). t.place) log history.inside) c

  all_seen : Extends (places log) v.seen
  all_seen = closure sys (places log) (IsLegal-seeds_distinct sys (places log) history.legal history.distinct) history.legal v.seen (extends sys log v history knows)
      (λ p seed. Contains-tile_at v.seen p knows.distinct (knows.seeds p seed))
      (λ i p found attaches. let c = slice_get-Contains (places log) i p found in
      closed p.site p.tile (in_box p c) (record { kind = All-contains (λ (q : Place). IsType sys q.tile) (places log) p history.legal.types c; attaches = attaches }))

  -- what was seen is all that stands
  pub quiet : SamePlacements v.seen (places log)
  quiet = record {
    part = knows.part;
    whole = λ p c. tile_at-Contains v.seen p.site p.tile (all_seen p.site p.tile (Contains-tile_at (places log) p history.distinct c));
  }

  -- and whatever another scout claims stands already
  pub no_win : (u : ScoutState) (m : Site) (t : TypeId) → ScoutInvariant sys log u → InBox sys.area m → IsType sys t → sys.tau ≤ pull sys u.seen m t → tile_at (places log) m ≢ None
  no_win u m t knows_u inside kind supported empty = closed m t inside (record {
    kind = kind;
    attaches = record {
      empty = empty_in_part v.seen (places log) m (extends sys log v history knows) empty;
      held = le_trans supported (le_trans (pull-mono sys u.seen (places log) m t (extends sys log u history knows_u)) (pull-mono sys (places log) v.seen m t all_seen));
    };
  })

pub tiles-stay : (sys : TileSystem) (s t : CoreState) (event : Event) (reply : Result Seen CoreStop) (a : ℕ) (v : ScoutState) → IsValid sys → CoreInvariant sys s → scout_at s.scouts a ≡ Some v
    → IsClosedInBox sys v.seen → CoreStep sys s event reply t → t.tiles ≡ s.tiles
tiles-stay sys s t event reply a v valid holds here closed (no_such_scout e nobody) = refl
tiles-stay sys s t event reply a v valid holds here closed (no_other_scout into from nobody) = refl
tiles-stay sys s t event reply a v valid holds here closed (same_scout into from same) = refl
tiles-stay sys s t event reply a v valid holds here closed (looks_outside who site u at_u outside) = refl
tiles-stay sys s t event reply a v valid holds here closed (claims_outside who site tile u at_u outside) = refl
tiles-stay sys s t event reply a v valid holds here closed (unsupported who site tile u at_u inside weak) = refl
tiles-stay sys s t event reply a v valid holds here closed (one_number who u at_u one) = refl
tiles-stay sys s t event reply a v valid holds here closed (no_memory who u at_u two) = refl
tiles-stay sys s t event reply a v valid holds here closed (saw_none who site u at_u inside empty) = refl
tiles-stay sys s t event reply a v valid holds here closed (saw_tile who site there u w at_u inside found is) = refl
tiles-stay sys s t event reply a v valid holds here closed (won who site tile u w at_u inside supported empty is) =
    absurd (no_win sys s.tiles v holds.growth.history (holds.growth.each a v here) closed u site tile (holds.growth.each who u at_u) inside
    (supported_type sys u.seen site tile valid.some_tau supported) supported empty)
tiles-stay sys s t event reply a v valid holds here closed (held who site tile there u w at_u inside supported found is) = refl
tiles-stay sys s t event reply a v valid holds here closed (divided who u w x at_u two rest new) = refl
tiles-stay sys s t event reply a v valid holds here closed (joined into from u w x at_into at_from differ is) = refl
