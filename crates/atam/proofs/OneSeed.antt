-- With one seed and no pair the model is that of equal glues and a single seed.
use Rattle.std.proofs.Common.{◌≡◌, ◌+◌, ◌≤◌, ℕ, zero, suc, Bool, false, not, ◌&&◌, nat_lt, nat_le, List, [], ◌∷◌, length, take, filter, Option, Some, None, slice_get, refl, sym, ◌∙◌, ap, subst, arith}
use Rattle.std.proofs.lemmas.Bool.{le-leb}
use Rattle.std.specs.List.{list_any}
use Rattle.std.specs.Option.{option_map_or}
use Rattle.atam.specs.declared.site.Side.{Side}
use Rattle.atam.specs.declared.site.Side.TheVariants.{North, East, South, West}
use Rattle.atam.specs.declared.site.Site.{Site}
use Rattle.atam.specs.declared.place.GlueId.{GlueId}
use Rattle.atam.specs.declared.place.TypeId.{TypeId}
use Rattle.atam.specs.declared.place.Place.{Place}
use Rattle.atam.specs.Sites.{neighbor, opposite, directions, same_site}
use Rattle.atam.specs.TileSystem.{TileSystem, strength_between, side_glue}
use Rattle.atam.specs.Assembly.{interaction, glue_at, bond, pull, Attaches}
use Rattle.atam.specs.Growth.{IsLegal}
use Rattle.atam.specs.Determinism.{is_input, is_output, index_at, without_outputs, IsLocallyDeterministic}
use Rattle.atam.specs.OneSeed.{equal_glues, equal_bond, equal_pull, AttachesByEqual, IsLegalFrom, is_in, is_out, without_out, IsLocallyDeterministicFrom}
use Rattle.atam.proofs.Lists.{take_step, slice_get-take}

module _ (sys : TileSystem) (unpaired : sys.pairs ≡ []) where
  pub interaction-equal : (a b : Option GlueId) → interaction sys a b ≡ equal_glues sys a b
  unfolding strength_between
  interaction-equal None b = refl
  interaction-equal (Some g) None = refl
  interaction-equal (Some g) (Some h) = rw unpaired refl

  equal-none : (a : Option GlueId) → equal_glues sys a None ≡ 0
  equal-none None = refl
  equal-none (Some g) = refl

  pub bond-equal : (tiles : List Place) (m : Site) (t : TypeId) (d : Side) → bond sys tiles m t d ≡ equal_bond sys tiles m t d
  unfolding bond
  bond-equal tiles m t d = interaction-equal (side_glue sys t d) (glue_at sys tiles (neighbor m d) (opposite d))

  pub pull-equal : (tiles : List Place) (m : Site) (t : TypeId) → pull sys tiles m t ≡ equal_pull sys tiles m t
  unfolding pull
  pull-equal tiles m t = λ k. bond-equal tiles m t North k + bond-equal tiles m t East k + bond-equal tiles m t South k + bond-equal tiles m t West k

  to_equal : (tiles : List Place) (m : Site) (t : TypeId) → Attaches sys tiles m t → AttachesByEqual sys tiles m t
  to_equal tiles m t attaches = record { empty = attaches.empty; held = subst (λ n. sys.tau ≤ n) (pull-equal tiles m t) attaches.held }

  from_equal : (tiles : List Place) (m : Site) (t : TypeId) → AttachesByEqual sys tiles m t → Attaches sys tiles m t
  from_equal tiles m t attaches = record { empty = attaches.empty; held = subst (λ n. sys.tau ≤ n) (sym (pull-equal tiles m t)) attaches.held }

  module _ (seed : Place) (one : sys.seeds ≡ seed ∷ []) where
    later_at : (i : ℕ) → 1 ≤ i → length sys.seeds ≤ i
    later_at i later = subst (λ l. length l ≤ i) (sym one) later

    after_seed : (i : ℕ) → length sys.seeds ≤ i → 1 ≤ i
    after_seed i later = subst (λ l. length l ≤ i) one later

    pub to_legal : (s : List Place) → IsLegal sys s → IsLegalFrom sys seed s
    to_legal s legal = record {
      first = sym (slice_get-take s 0 1 (omega arith)) ∙ ap (λ l. slice_get l 0) (subst (λ l. take (length l) s ≡ l) one legal.seeds);
      types = legal.types;
      each = λ i p later there. to_equal (take i s) p.site p.tile (legal.each i p (later_at i later) there);
    }

    pub from_legal : (s : List Place) → IsLegalFrom sys seed s → IsLegal sys s
    from_legal s legal = record {
      seeds = subst (λ l. take (length l) s ≡ l) (sym one) (take_step s 0 seed legal.first);
      types = legal.types;
      each = λ i p later there. from_equal (take i s) p.site p.tile (legal.each i p (after_seed i later) there);
    }

    -- the first tile has nothing before it
    input-equal : (s : List Place) (i : ℕ) (d : Side) → is_input sys s i d ≡ is_in sys s i d
    input-equal s zero d = ap (λ l. nat_le (length l) 0 && in_before) one ∙ sym none_before
      where
        in_before : Bool
        in_before = option_map_or (λ p. nat_lt 0 (bond sys [] p.site p.tile d)) (slice_get s 0) false

        none_before : option_map_or (λ p. nat_lt 0 (equal_bond sys [] p.site p.tile d)) (slice_get s 0) false ≡ false
        none_before = elim (slice_get s 0) as (λ o. option_map_or (λ p. nat_lt 0 (equal_bond sys [] p.site p.tile d)) o false ≡ false) [
          | None ↦ refl
          | Some p ↦ ap (nat_lt 0) (equal-none (side_glue sys p.tile d))
        ]
    input-equal s (suc i) d = λ k. le-leb (length sys.seeds) (suc i) (later_at (suc i) (omega arith)) k
        && option_map_or (λ p. nat_lt 0 (bond-equal (take (suc i) s) p.site p.tile d k)) (slice_get s (suc i)) false

    output-equal : (s : List Place) (i : ℕ) (d : Side) → is_output sys s i d ≡ is_out sys s i d
    output-equal s i d = λ k. option_map_or (λ p. option_map_or (λ j. input-equal s j (opposite d) k) (index_at s (neighbor p.site d)) false) (slice_get s i) false

    without-equal : (s : List Place) (i : ℕ) (m : Site) → without_outputs sys s i m ≡ without_out sys s i m
    without-equal s i m = λ k. filter (λ q. not (same_site q.site m) && not (list_any (λ d. output-equal s i d k && same_site q.site (neighbor m d)) directions)) s

    pub to_deterministic : (s : List Place) → IsLocallyDeterministic sys s → IsLocallyDeterministicFrom sys seed s
    to_deterministic s local = record {
      legal = to_legal s local.legal;
      exact = λ i p later there. sym (pull-equal (take i s) p.site p.tile) ∙ local.exact i p (later_at i later) there;
      no_rival = λ i p t later there other kind attaches. local.no_rival i p t (later_at i later) there (record {
        other = other;
        grows = record {
          kind = kind;
          attaches = from_equal (without_outputs sys s i p.site) p.site t (subst (λ l. AttachesByEqual sys l p.site t) (sym (without-equal s i p.site)) attaches);
        };
      });
      terminal = λ m t kind attaches. local.terminal m t (record { kind = kind; attaches = from_equal s m t attaches });
    }

    pub from_deterministic : (s : List Place) → IsLocallyDeterministicFrom sys seed s → IsLocallyDeterministic sys s
    from_deterministic s local = record {
      legal = from_legal s local.legal;
      exact = λ i p later there. pull-equal (take i s) p.site p.tile ∙ local.exact i p (after_seed i later) there;
      no_rival = λ i p t later there rival. local.no_rival i p t (after_seed i later) there rival.other rival.grows.kind
          (subst (λ l. AttachesByEqual sys l p.site t) (without-equal s i p.site) (to_equal (without_outputs sys s i p.site) p.site t rival.grows.attaches));
      terminal = λ m t grows. local.terminal m t grows.kind (to_equal s m t grows.attaches);
    }
