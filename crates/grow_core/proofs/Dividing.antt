-- The steps by which scouts are divided and joined, from what the machine does to the list of scouts.
use Rattle.std.proofs.Common.{◌≡◌, ◌≢◌, ◌⊎◌, ◌-◌, ◌^◌, ℕ, min, List, ◌++◌, set, Option, Some, None, Result, Ok, Err, bit_or, sym, ◌∙◌, ap, subst, inl, inr}
use Rattle.atam.specs.TileSystem.{TileSystem}
use Rattle.grow_core.specs.declared.placed_tile.PlacedTile.{PlacedTile}
use Rattle.atam.specs.declared.event.Event.{Event}
use Rattle.atam.specs.declared.event.Event.TheVariants.{Split, Join}
use Rattle.atam.specs.declared.event.Seen.{Seen}
use Rattle.atam.specs.declared.event.Seen.TheVariants.{Divided, Joined}
use Rattle.atam.specs.declared.event.CoreStop.{CoreStop}
use Rattle.atam.specs.declared.event.CoreStop.TheVariants.{NoSuchScout}
use Rattle.grow_core.specs.Core.{ScoutState, scout_at, greatest, OwnsTwoOrMore, placed_by}
use Rattle.grow_core.specs.Steps.{CoreStep, IsScoutOf, actor, kept_tiles, no_such_scout, no_other_scout, same_scout, one_number, no_memory, divided, joined}
use Rattle.grow_core.specs.Core.{state_of}
use Rattle.grow_core.specs.Inner.Entries.{Becomes, IsSplitStop}
use Rattle.grow_core.proofs.Entries.{unset_none, put_back, put_changed}

module _ (sys : TileSystem) (tiles : List PlacedTile) (old out : List (Option ScoutState)) where
  -- the same scouts
  same_state : (event : Event) (reply : Result Seen CoreStop) (new : List (Option ScoutState)) → new ≡ old → CoreStep sys (state_of tiles old) event reply (state_of tiles old) →
      CoreStep sys (state_of tiles old) event reply (state_of tiles new)
  same_state event reply new same step = subst (λ l. CoreStep sys (state_of tiles old) event reply (state_of tiles l)) (sym same) step

  pub nobody_there : (event : Event) → scout_at old (actor event) ≡ None → out ≡ set old (actor event) None → CoreStep sys (state_of tiles old) event (Err NoSuchScout) (state_of tiles out)
  nobody_there event nobody is_out = same_state event (Err NoSuchScout) out (is_out ∙ unset_none old (actor event) nobody) (no_such_scout event nobody)

  -- a scout that is not divided
  pub undivided : (new : List (Option ScoutState)) (name : ℕ) (v w : ScoutState) (stop : CoreStop) → scout_at old name ≡ Some v → out ≡ set old name None → new ≡ set out name (Some w) → w ≡ v →
      IsSplitStop v.owned stop → CoreStep sys (state_of tiles old) (Split name) (Err stop) (state_of tiles new)
  undivided new name v w stop here is_out is_new same cause =
      let back : new ≡ old = put_back old out new name v here is_out (is_new ∙ ap (λ (z : ScoutState). set out name (Some z)) same) in
      same_state (Split name) (Err stop) new back (elim cause [
        | inl one ↦ subst (λ e. CoreStep sys (state_of tiles old) (Split name) (Err e) (state_of tiles old)) (sym one.0) (one_number name v here one.1)
        | inr two ↦ subst (λ e. CoreStep sys (state_of tiles old) (Split name) (Err e) (state_of tiles old)) (sym two.0) (no_memory name v here two.1)
      ])

  pub divided_step : (mid new : List (Option ScoutState)) (name given_name : ℕ) (v w x : ScoutState) → scout_at old name ≡ Some v → out ≡ set old name None → mid ≡ set out name (Some w) →
      new ≡ set mid given_name (Some x) → given_name ≡ greatest v.owned → OwnsTwoOrMore v.owned →
      IsScoutOf (v.owned - 2 ^ greatest v.owned) v.seen (kept_tiles (greatest v.owned) v.mine) w →
      IsScoutOf (2 ^ greatest v.owned) v.seen (placed_by (greatest v.owned) v.mine) x →
      CoreStep sys (state_of tiles old) (Split name) (Ok (Divided given_name)) (state_of tiles new)
  divided_step mid new name given_name v w x here is_out is_mid is_new is_given two rest given =
      let after : new ≡ set (set old name (Some w)) given_name (Some x) = is_new ∙ ap (λ l. set l given_name (Some x)) (put_changed old out mid name w is_out is_mid) in
      subst (λ l. CoreStep sys (state_of tiles old) (Split name) (Ok (Divided given_name)) (state_of tiles l)) (sym after)
      (subst (λ n. CoreStep sys (state_of tiles old) (Split name) (Ok (Divided n)) (state_of tiles (set (set old name (Some w)) n (Some x)))) (sym is_given)
      (divided name v w x here two rest given))

  pub refused_join : (into from : ℕ) → (into ≡ from) ⊎ (scout_at old from ≡ None) → CoreStep sys (state_of tiles old) (Join into from) (Err NoSuchScout) (state_of tiles old)
  refused_join into from cause = elim cause [ inl same ↦ same_scout into from same | inr nobody ↦ no_other_scout into from nobody ]

  pub joined_step : (new : List (Option ScoutState)) (into from name : ℕ) (v w : ScoutState) → scout_at old into ≡ Some v → scout_at old from ≡ Some w → into ≢ from → out ≡ set old into None →
      name ≡ min into from → Becomes (set out from None) new name (bit_or v.owned w.owned) (v.seen ++ w.seen) (v.mine ++ w.mine) →
      CoreStep sys (state_of tiles old) (Join into from) (Ok (Joined name)) (state_of tiles new)
  joined_step new into from name v w at_into at_from differ is_out is_name becomes =
      let after : new ≡ set (set (set old into None) from None) name (Some becomes.scout) = becomes.others ∙ ap (λ l. set (set l from None) name (Some becomes.scout)) is_out in
      subst (λ l. CoreStep sys (state_of tiles old) (Join into from) (Ok (Joined name)) (state_of tiles l)) (sym after)
      (subst (λ n. CoreStep sys (state_of tiles old) (Join into from) (Ok (Joined n)) (state_of tiles (set (set (set old into None) from None) n (Some becomes.scout)))) (sym is_name)
      (joined into from v w becomes.scout at_into at_from differ becomes.is))
