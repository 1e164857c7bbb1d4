-- What makes a tile come clean, by the glues that face a site and by the sides beside which a tile stands.
use Rattle.std.proofs.Common.{◌≡◌, ◌⊎◌, ◌<◌, ◌≤◌, ◌∙◌, ℕ, Bool, true, false, not, ◌&&◌, ◌||◌, true≢false, List, length, Option, Some, None, is_some, refl, sym, ap, subst, inl, inr}
use Rattle.std.proofs.Math.Nat.{le_trans}
use Rattle.std.proofs.lemmas.Bool.Decides.{eqb_tells}
use Rattle.atam.specs.declared.site.Side.{Side}
use Rattle.atam.specs.declared.site.Side.TheVariants.{North, East, South, West}
use Rattle.atam.specs.declared.site.Site.{Site}
use Rattle.atam.specs.declared.place.GlueId.{GlueId}
use Rattle.atam.specs.declared.place.TypeId.{TypeId}
use Rattle.atam.specs.declared.place.Place.{Place}
use Rattle.atam.specs.Sites.{neighbor, opposite}
use Rattle.atam.specs.Placements.{tile_at}
use Rattle.atam.specs.TileSystem.{TileSystem, side_glue, strength_between}
use Rattle.atam.specs.Assembly.{interaction, bond, pull}
use Rattle.atam.specs.Growth.{IsCandidate}
use Rattle.atam.proofs.Bonds.{interaction-none, beside_a_tile}
use Rattle.atam.proofs.Opening.{bond-beside, pull-beside, IsCandidate-same}
use Rattle.atam.proofs.Tiles.{SameTiles}
use Rattle.attach_rule.specs.declared.bonding.Strengths.{Strengths}
use Rattle.attach_rule.specs.declared.facing.FacingGlues.{FacingGlues}
use Rattle.attach_rule.specs.Bonds.{AreBonds, sum_of}
use Rattle.attach_rule.specs.Facing.{FacesSite}
use Rattle.attach_rule.proofs.Held.{facing_pull-pull, sum_pull}
use Rattle.type_index.specs.HeldTypes.{IsHeld, FirstHeldBut}
use Rattle.type_index.proofs.Cursors.{lone_unpaired}
use Rattle.type_cache.specs.SideSets.{SideSet, has, is_within, sides_beside}
use Rattle.type_cache.specs.Clean.{IsDead, ComesClean, ComesExact, OpensExact, strength_on, AreSettled}
use Rattle.type_cache.specs.Findings.{SettlesSide, SettleSides}

-- a side without a glue is dead
pub dead_bare : (sys : TileSystem) (t : TypeId) (d : Side) → side_glue sys t d ≡ None → IsDead sys t d
dead_bare sys t d none u = ap (λ g. interaction sys (side_glue sys u (opposite d)) g) none ∙ interaction-none sys (side_glue sys u (opposite d))

-- so is one with a glue that doesn't interact with itself, where there are no pairs
between : (sys : TileSystem) (g h : GlueId) → length sys.pairs ≡ 0 → strength_between sys g g ≡ 0 → strength_between sys h g ≡ 0
unfolding strength_between
between sys g h unpaired weak = elim (eqb_tells h.0 g.0) [
  | inl same ↦ ap (λ n. strength_between sys (record { 0 = n }) g) same.1 ∙ weak
  | inr differ ↦ rw differ.0 (lone_unpaired sys g unpaired h)
]

pub alone : (sys : TileSystem) (g : GlueId) → length sys.pairs ≡ 0 → strength_between sys g g ≡ 0 → (own : Option GlueId) → interaction sys own (Some g) ≡ 0
alone sys g unpaired weak None = refl
alone sys g unpaired weak (Some h) = between sys g h unpaired weak

-- each side that is said to be settled is
pub all_settled : (sys : TileSystem) (t : TypeId) (bonds : Strengths) (sides : SideSet) (n e s w : Bool) → sides ≡ record { north = n; east = e; south = s; west = w } →
    (n ≡ true → (0 < bonds.north) ⊎ IsDead sys t North) → (e ≡ true → (0 < bonds.east) ⊎ IsDead sys t East) →
    (s ≡ true → (0 < bonds.south) ⊎ IsDead sys t South) → (w ≡ true → (0 < bonds.west) ⊎ IsDead sys t West) → AreSettled sys t bonds sides
all_settled sys t bonds sides n e s w are north east south west North in_set = north (sym (ap (λ (a : SideSet). a.north) are) ∙ in_set)
all_settled sys t bonds sides n e s w are north east south west East in_set = east (sym (ap (λ (a : SideSet). a.east) are) ∙ in_set)
all_settled sys t bonds sides n e s w are north east south west South in_set = south (sym (ap (λ (a : SideSet). a.south) are) ∙ in_set)
all_settled sys t bonds sides n e s w are north east south west West in_set = west (sym (ap (λ (a : SideSet). a.west) are) ∙ in_set)

-- a set within another one
both : (a b : Bool) → a && b ≡ true → (a ≡ true) × (b ≡ true)
both true b is = (refl, is)
both false b is = absurd (cc is)

follows : (a b : Bool) → not a || b ≡ true → a ≡ true → b ≡ true
follows true b is holds = is
follows false b is holds = absurd (cc holds)

pub within_sides : (a b : SideSet) → is_within a b ≡ true → (d : Side) → has a d ≡ true → has b d ≡ true
within_sides a b within d =
    let west = both ((not a.north || b.north) && (not a.east || b.east) && (not a.south || b.south)) (not a.west || b.west) within in
    let south = both ((not a.north || b.north) && (not a.east || b.east)) (not a.south || b.south) west.0 in
    let east = both (not a.north || b.north) (not a.east || b.east) south.0 in
    by_side a b (follows a.north b.north east.0) (follows a.east b.east east.1) (follows a.south b.south south.1) (follows a.west b.west west.1) d
  where
    by_side : (a b : SideSet) → (a.north ≡ true → b.north ≡ true) → (a.east ≡ true → b.east ≡ true) → (a.south ≡ true → b.south ≡ true) → (a.west ≡ true → b.west ≡ true) →
        (d : Side) → has a d ≡ true → has b d ≡ true
    by_side a b n e s w North = n
    by_side a b n e s w East = e
    by_side a b n e s w South = s
    by_side a b n e s w West = w

pub has_beside : (tiles : List Place) (m : Site) (d : Side) → has (sides_beside tiles m) d ≡ is_some (tile_at tiles (neighbor m d))
has_beside tiles m North = refl
has_beside tiles m East = refl
has_beside tiles m South = refl
has_beside tiles m West = refl

-- no side is in the set of none
pub settles_none : (sys : TileSystem) (glues : FacingGlues) (sides : SideSet) → sides ≡ record { north = false; east = false; south = false; west = false } → SettleSides sys glues sides
settles_none sys glues sides none tiles m faces d in_set = absurd (true≢false (sym in_set ∙ (ap (λ (a : SideSet). has a d) none ∙ bare d)))
  where
    bare : (d : Side) → has (record { north = false; east = false; south = false; west = false }) d ≡ false
    bare North = refl
    bare East = refl
    bare South = refl
    bare West = refl

-- the strength of a side is that with the tile beside it
pub strength_is : (sys : TileSystem) (tiles : List Place) (m : Site) (t : TypeId) (bonds : Strengths) → AreBonds sys tiles m t bonds → (d : Side) → strength_on bonds d ≡ bond sys tiles m t d
strength_is sys tiles m t bonds are North = are.north
strength_is sys tiles m t bonds are East = are.east
strength_is sys tiles m t bonds are South = are.south
strength_is sys tiles m t bonds are West = are.west

-- what attaches at a site is held by the glues that face it
pub held_by : (sys : TileSystem) (tiles : List Place) (m : Site) (glues : FacingGlues) (u : TypeId) → FacesSite sys tiles m glues → IsCandidate sys tiles m u → IsHeld sys glues u
held_by sys tiles m glues u faces grows = record { kind = grows.kind; held = subst (λ (n : ℕ). sys.tau ≤ n) (sym (facing_pull-pull sys tiles m glues u faces)) grows.attaches.held }

-- where no first other type is held, none is
pub no_other_held : (sys : TileSystem) (glues : FacingGlues) (but : TypeId) (found : Option TypeId) → is_some found ≡ false → FirstHeldBut sys glues but found →
    (u : TypeId) → IsHeld sys glues u → u ≡ but
no_other_held sys glues but None none first = first
no_other_held sys glues but (Some t) none first = absurd (true≢false none)

-- of the one type that the glues hold, by exactly the temperature, these sides are settled
pub settles_alone : (sys : TileSystem) (glues : FacingGlues) (t : TypeId) (bonds : Strengths) (sides : SideSet) → ((u : TypeId) → IsHeld sys glues u → u ≡ t) →
    ((tiles : List Place) (m : Site) → FacesSite sys tiles m glues → AreBonds sys tiles m t bonds) → sum_of bonds ≡ sys.tau → AreSettled sys t bonds sides → SettleSides sys glues sides
settles_alone sys glues t bonds sides sole bonds_are exact settled tiles m faces d in_set =
    let are = bonds_are tiles m faces in
    record {
      tile = t;
      sole = λ u grows. sole u (held_by sys tiles m glues u faces grows);
      exact = sym (sum_pull sys tiles m t bonds are) ∙ exact;
      settled = elim (settled d in_set) [
        | inl bound ↦ inl (subst (λ (n : ℕ). 0 < n) (strength_is sys tiles m t bonds are d) bound)
        | inr dead ↦ inr dead
      ];
    }

-- where each side beside which a tile stands is settled, what attaches comes clean and is held exactly
pub opens_exact : (sys : TileSystem) (tiles : List Place) (m : Site) → 1 ≤ sys.tau → ((d : Side) (v : TypeId) → tile_at tiles (neighbor m d) ≡ Some v → SettlesSide sys tiles m d) → OpensExact sys tiles m
opens_exact sys tiles m some_tau settles t grows =
    let stands = beside_a_tile sys tiles m t (le_trans some_tau grows.attaches.held) in
    let one = settles stands.0 stands.1 stands.2 in
    let is : one.tile ≡ t = sym (one.sole t grows) in
    record {
      clean = record {
        sole = λ u other. one.sole u other ∙ is;
        settled = λ d v at.
            let side = settles d v at in
            let same : side.tile ≡ t = sym (side.sole t grows) in
            let Settled : TypeId → Type 0 = λ (u : TypeId). (0 < bond sys tiles m u d) ⊎ IsDead sys u d in
            subst Settled same side.settled;
      };
      exact = subst (λ (u : TypeId). pull sys tiles m u ≡ sys.tau) is one.exact;
    }

-- so it is where all of these sides are in a set of settled ones
pub opens_within : (sys : TileSystem) (tiles : List Place) (m : Site) (glues : FacingGlues) (beside settled : SideSet) → 1 ≤ sys.tau → FacesSite sys tiles m glues → SettleSides sys glues settled →
    beside ≡ sides_beside tiles m → is_within beside settled ≡ true → OpensExact sys tiles m
opens_within sys tiles m glues beside settled some_tau faces settles is within =
    opens_exact sys tiles m some_tau (λ d v at.
    settles tiles m faces d (within_sides beside settled within d (ap (λ (a : SideSet). has a d) is ∙ has_beside tiles m d ∙ ap is_some at)))

-- a tile comes clean among the same tiles
pub comes_same : (sys : TileSystem) (a b : List Place) (m : Site) (t : TypeId) → SameTiles a b → ComesClean sys a m t → ComesClean sys b m t
comes_same sys a b m t same clean = record {
  sole = λ u grows. clean.sole u (IsCandidate-same sys b a m u (λ n. sym (same n)) grows);
  settled = λ d v at. elim (clean.settled d v (same (neighbor m d) ∙ at)) [
    | inl bound ↦ inl (subst (λ (n : ℕ). 0 < n) (bond-beside sys a b m t d (same (neighbor m d))) bound)
    | inr dead ↦ inr dead
  ];
}

-- and is held by as much
pub exact_same : (sys : TileSystem) (a b : List Place) (m : Site) (t : TypeId) → SameTiles a b → ComesExact sys a m t → ComesExact sys b m t
exact_same sys a b m t same came = record {
  clean = comes_same sys a b m t same came.clean;
  exact = sym (pull-beside sys a b m t (λ d. same (neighbor m d))) ∙ came.exact;
}
