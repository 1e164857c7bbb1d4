-- What the tests of an entry's sides tell of it.
use Rattle.std.proofs.Common.{◌≡◌, ◌≢◌, ◌<◌, ◌+◌, ◌∙◌, ℕ, Bool, true, false, not, ◌&&◌, ◌||◌, nat_lt, cond, true≢false, List, Option, Some, None, MatchOption, Contains, refl, sym, ap, subst, inl, inr, arith}
use Rattle.std.specs.Option.{option_map_or}
use Rattle.std.proofs.lemmas.Int.{ints}
use Rattle.std.proofs.lemmas.Bool.{cases_Bool}
use Rattle.std.proofs.lemmas.Bool.Decides.{nat_tests}
use Rattle.atam.specs.declared.site.Side.{Side}
use Rattle.atam.specs.declared.site.Side.TheVariants.{North, East, South, West}
use Rattle.atam.specs.declared.site.Site.{Site}
use Rattle.atam.specs.declared.place.TypeId.{TypeId}
use Rattle.atam.specs.declared.place.Place.{Place}
use Rattle.atam.specs.Sites.{neighbor, IsBefore}
use Rattle.atam.specs.Placements.{HasDistinctSites, SamePlacements, tile_at}
use Rattle.atam.specs.TileSystem.{TileSystem}
use Rattle.atam.specs.Assembly.{bond, pull}
use Rattle.atam.specs.Growth.{IsCandidate, IsLeastOpenAmong}
use Rattle.atam.proofs.Placements.{Contains-tile_at, tile_at-Contains}
use Rattle.atam.proofs.Tiles.{SameTiles-from}
use Rattle.attach_rule.specs.declared.bonding.Strengths.{Strengths}
use Rattle.attach_rule.specs.declared.facing.FacingGlues.{FacingGlues}
use Rattle.attach_rule.specs.Bonds.{AreBonds}
use Rattle.attach_rule.specs.Facing.{FacesSite, facing_pull}
use Rattle.attach_rule.specs.Searches.{IsFirstType, AttachesFirst}
use Rattle.type_index.specs.HeldTypes.{IsHeld as IsHeldType, FirstHeldBut}
use Rattle.type_cache.specs.SideSets.{SideSet, has}
use Rattle.local_check.proofs.Keeping.{pull_facing}
use Rattle.cert_check.specs.declared.entry.Entry.{Entry}
use Rattle.cert_check.specs.declared.listing.EntriesBeside.{EntriesBeside}
use Rattle.cert_check.specs.Certificates.{bit_of, states, places_of, entry_at, is_waiting, stated_bond, stated_pull, without_waiting, IsHeld, IsLoose, IsRivalOf, IsHeldThroughout, HasNoLooseBond, HasNoRival}
use Rattle.cert_check.specs.Judgement.{IsBeside}
use Rattle.local_check.specs.Firsts.{IsLeast}
use Rattle.local_check.proofs.Firsts.{least_from}
use Rattle.cert_check.specs.Inner.Listings.{AreBeside}
use Rattle.cert_check.specs.Inner.Checks.{waits, is_held_on, is_held, is_loose_on, first_loose, bond_on, stated_sum, kept_glues}
use Rattle.cert_check.proofs.Entries.{entry_at-some, entry_at-is}

-- what a test of several parts tells of each
held_parts : (s x y : Bool) → (not s || (x && y)) ≡ true → s ≡ true → (x ≡ true) × (y ≡ true)
held_parts true true true h stated = (refl, refl)
held_parts true true false h stated = absurd (true≢false (sym h))
held_parts true false y h stated = absurd (true≢false (sym h))
held_parts false x y h stated = absurd (true≢false (sym stated))

loose_parts : (s x y : Bool) → (not s && (x && not y)) ≡ true → (s ≡ false) × (x ≡ true) × (y ≡ false)
loose_parts true x y h = absurd (true≢false (sym h))
loose_parts false false y h = absurd (true≢false (sym h))
loose_parts false true true h = absurd (true≢false (sym h))
loose_parts false true false h = (refl, refl, refl)

pub four_parts : (n e s w : Bool) → (n && (e && (s && w))) ≡ true → (n ≡ true) × (e ≡ true) × (s ≡ true) × (w ≡ true)
four_parts false e s w h = absurd (true≢false (sym h))
four_parts true false s w h = absurd (true≢false (sym h))
four_parts true true false w h = absurd (true≢false (sym h))
four_parts true true true false h = absurd (true≢false (sym h))
four_parts true true true true h = (refl, refl, refl, refl)

or_true : (b : Bool) → (b || true) ≡ true
or_true true = refl
or_true false = refl

less_from : (a b : ℕ) → nat_lt a b ≡ true → a < b
less_from a b test = grind (arith, nat_tests, test)

less_test : (a b : ℕ) → a < b → nat_lt a b ≡ true
less_test a b less = grind (arith, nat_tests, less)

pub before_parts : (o : Option Entry) (n : ℕ) → option_map_or (λ (f : Entry). nat_lt f.rank n) o false ≡ true → (f : Entry) × (o ≡ Some f) × (f.rank < n)
before_parts None n h = absurd (true≢false (sym h))
before_parts (Some f) n h = (f, refl, less_from f.rank n h)

-- a test of a side, and what it tests
abbrev Tells : Bool → Type 0 → Type 0
Tells b P = (b ≡ true → P) × (b ≡ false → ¬ P)

-- the first side that has it, where tests tell of each side whether it does
first_of : (n e s w : Bool) (P : Side → Type 0) → Tells n (P North) → Tells e (P East) → Tells s (P South) → Tells w (P West) →
    MatchOption (cond n (Some North) (cond e (Some East) (cond s (Some South) (cond w (Some West) None))))
    ((d : Side) → ¬ P d) (λ d. P d × ((f : Side) → bit_of f < bit_of d → ¬ P f))
first_of true e s w P tn te ts tw = (tn.0 refl, before)
  where
    before : (f : Side) → bit_of f < 1 → ¬ P f
    before North less = λ h. omega (arith, less)
    before f less = λ h. omega (arith, less)
first_of false true s w P tn te ts tw = (te.0 refl, before)
  where
    before : (f : Side) → bit_of f < 2 → ¬ P f
    before North less = tn.1 refl
    before f less = λ h. omega (arith, less)
first_of false false true w P tn te ts tw = (ts.0 refl, before)
  where
    before : (f : Side) → bit_of f < 4 → ¬ P f
    before North less = tn.1 refl
    before East less = te.1 refl
    before f less = λ h. omega (arith, less)
first_of false false false true P tn te ts tw = (tw.0 refl, before)
  where
    before : (f : Side) → bit_of f < 8 → ¬ P f
    before North less = tn.1 refl
    before East less = te.1 refl
    before South less = ts.1 refl
    before West less = λ h. omega (arith, less)
first_of false false false false P tn te ts tw = none
  where
    none : (d : Side) → ¬ P d
    none North = tn.1 refl
    none East = te.1 refl
    none South = ts.1 refl
    none West = tw.1 refl

module _ (sys : TileSystem) (c : List Entry) (e : Entry) where
  abbrev at : Side → Option Entry
  at d = entry_at c (neighbor e.place.site d)

  abbrev strength : Side → ℕ
  strength d = bond sys (places_of c) e.place.site e.place.tile d

  -- a side that isn't stated, or is held by an entry of lesser rank
  held_on : (d : Side) → is_held_on e d (at d) (strength d) ≡ true → states e d ≡ true → IsHeld sys c e d
  held_on d test stated =
      let parts = held_parts (states e d) (nat_lt 0 (strength d)) (option_map_or (λ (f : Entry). nat_lt f.rank e.rank) (at d) false) test stated in
      let from = before_parts (at d) e.rank parts.1 in
      let found = entry_at-some c (neighbor e.place.site d) from.0 from.1 in
      record { from = from.0; listed = found.0; beside = found.1; lesser = from.2; bonded = less_from 0 (strength d) parts.0 }

  held_test : HasDistinctSites (places_of c) → (d : Side) → (states e d ≡ true → IsHeld sys c e d) → is_held_on e d (at d) (strength d) ≡ true
  held_test distinct d held = elim (cases_Bool (states e d)) [
    | inr unstated ↦ ap (λ s. not s || (nat_lt 0 (strength d) && option_map_or (λ (f : Entry). nat_lt f.rank e.rank) (at d) false)) unstated
    | inl stated ↦
        let h = held stated in
        let there = entry_at-is c distinct h.from (neighbor e.place.site d) h.listed h.beside in
        let lesser : option_map_or (λ (f : Entry). nat_lt f.rank e.rank) (at d) false ≡ true =
        ap (λ o. option_map_or (λ (f : Entry). nat_lt f.rank e.rank) o false) there ∙ less_test h.from.rank e.rank h.lesser
        in
        (λ k. not (states e d) || (less_test 0 (strength d) h.bonded k && lesser k)) ∙ or_true (not (states e d))
  ]

  loose_on : (d : Side) → Tells (is_loose_on e d (at d) (strength d)) (IsLoose sys c e d)
  loose_on d = (
    λ test.
        let parts = loose_parts (states e d) (nat_lt 0 (strength d)) (waits (at d) d) test in
        record { unstated = parts.0; bonded = less_from 0 (strength d) parts.1; unanswered = parts.2 },
    λ test loose.
        let passes : is_loose_on e d (at d) (strength d) ≡ true =
        (λ k. not (loose.unstated k) && (less_test 0 (strength d) loose.bonded k && not (loose.unanswered k)))
        in
        true≢false (sym passes ∙ test),
  )

  module _ (beside : EntriesBeside) (near : AreBeside c e.place.site beside) (bonds : Strengths) (are : AreBonds sys (places_of c) e.place.site e.place.tile bonds) where
    held_is : is_held e beside bonds ≡ (is_held_on e North (at North) (strength North) && (is_held_on e East (at East) (strength East) && (is_held_on e South (at South) (strength South) && is_held_on e West (at West) (strength West))))
    held_is =
        λ k. is_held_on e North (near.north k) (are.north k) && (is_held_on e East (near.east k) (are.east k)
        && (is_held_on e South (near.south k) (are.south k) && is_held_on e West (near.west k) (are.west k)))

    pub held_throughout : is_held e beside bonds ≡ true → IsHeldThroughout sys c e
    held_throughout test =
        let parts = four_parts (is_held_on e North (at North) (strength North)) (is_held_on e East (at East) (strength East))
        (is_held_on e South (at South) (strength South)) (is_held_on e West (at West) (strength West)) (sym held_is ∙ test)
        in
        each parts.0 parts.1 parts.2 parts.3
      where
        each : is_held_on e North (at North) (strength North) ≡ true → is_held_on e East (at East) (strength East) ≡ true →
            is_held_on e South (at South) (strength South) ≡ true → is_held_on e West (at West) (strength West) ≡ true → (d : Side) → states e d ≡ true → IsHeld sys c e d
        each n e' s w North = held_on North n
        each n e' s w East = held_on East e'
        each n e' s w South = held_on South s
        each n e' s w West = held_on West w

    pub not_held : HasDistinctSites (places_of c) → is_held e beside bonds ≡ false → ¬ IsHeldThroughout sys c e
    not_held distinct test all =
        let n = held_test distinct North (all North) in
        let e' = held_test distinct East (all East) in
        let s = held_test distinct South (all South) in
        let w = held_test distinct West (all West) in
        let passes : is_held e beside bonds ≡ true = held_is ∙ (λ k. n k && (e' k && (s k && w k))) in
        true≢false (sym passes ∙ test)

    pub sum_is : stated_sum e bonds ≡ stated_pull sys c e
    unfolding stated_pull stated_bond
    sum_is = λ k. bond_on e North (are.north k) + bond_on e East (are.east k) + bond_on e South (are.south k) + bond_on e West (are.west k)

    loose_tells : MatchOption (first_loose e beside bonds) (HasNoLooseBond sys c e) (λ d. IsLoose sys c e d × ((f : Side) → bit_of f < bit_of d → ¬ IsLoose sys c e f))
    loose_tells =
        let Told : Side → Option Entry → ℕ → Type 0 = λ d o n. Tells (is_loose_on e d o n) (IsLoose sys c e d) in
        let told : (d : Side) (o : Option Entry) (n : ℕ) → o ≡ at d → n ≡ strength d → Told d o n = λ d o n same_o same_n.
        subst (λ (p : Option Entry). Told d p n) (sym same_o) (subst (Told d (at d)) (sym same_n) (loose_on d))
        in
        first_of (is_loose_on e North beside.north bonds.north) (is_loose_on e East beside.east bonds.east)
        (is_loose_on e South beside.south bonds.south) (is_loose_on e West beside.west bonds.west) (IsLoose sys c e)
        (told North beside.north bonds.north near.north are.north) (told East beside.east bonds.east near.east are.east)
        (told South beside.south bonds.south near.south are.south) (told West beside.west bonds.west near.west are.west)

    pub first_loose_is : (d : Side) → first_loose e beside bonds ≡ Some d → IsLeast (IsLoose sys c e) bit_of d
    first_loose_is d found =
        let Found : Option Side → Type 0 = λ o. MatchOption o (HasNoLooseBond sys c e) (λ f. IsLoose sys c e f × ((g : Side) → bit_of g < bit_of f → ¬ IsLoose sys c e g)) in
        let tells = subst Found found loose_tells in
        least_from (IsLoose sys c e) bit_of d tells.0 tells.1

    pub none_loose : first_loose e beside bonds ≡ None → HasNoLooseBond sys c e
    none_loose found =
        let Found : Option Side → Type 0 = λ o. MatchOption o (HasNoLooseBond sys c e) (λ f. IsLoose sys c e f × ((g : Side) → bit_of g < bit_of f → ¬ IsLoose sys c e g)) in
        subst Found found loose_tells

  -- the entries that wait are taken away with their glues
  module _ (beside : EntriesBeside) (near : AreBeside c e.place.site beside) (glues : FacingGlues) (faces : FacesSite sys (places_of c) e.place.site glues) where
    stays : SideSet
    stays = record {
      north = not (waits beside.north North);
      east = not (waits beside.east East);
      south = not (waits beside.south South);
      west = not (waits beside.west West);
    }

    stays_is : (d : Side) → has stays d ≡ not (is_waiting c e.place.site d)
    unfolding stays
    stays_is North = ap (λ o. not (waits o North)) near.north
    stays_is East = ap (λ o. not (waits o East)) near.east
    stays_is South = ap (λ o. not (waits o South)) near.south
    stays_is West = ap (λ o. not (waits o West)) near.west

    kept_pull : (t : TypeId) → pull sys (without_waiting c e.place.site) e.place.site t ≡ facing_pull sys (kept_glues glues beside) t
    unfolding stays
    kept_pull t = pull_facing sys (places_of c) (places_of c) (λ m. refl) e.place.site (λ d. is_waiting c e.place.site d) stays stays_is glues faces t

    rival_from : (t : TypeId) → IsHeldType sys (kept_glues glues beside) t → t ≢ e.place.tile → IsRivalOf sys c e t
    rival_from t held other = record { other = other; kind = held.kind; held = omega (arith, held.held, kept_pull t) }

    rival_to : (t : TypeId) → IsRivalOf sys c e t → IsHeldType sys (kept_glues glues beside) t
    rival_to t rival = record { kind = rival.kind; held = omega (arith, rival.held, kept_pull t) }

    pub least_rival_is : (t : TypeId) → FirstHeldBut sys (kept_glues glues beside) e.place.tile (Some t) → IsLeast (IsRivalOf sys c e) (λ u. u.0) t
    least_rival_is t first = record {
      holds = rival_from t first.holds first.other;
      least = λ u rival. first.least u (rival_to u rival) rival.other;
    }

    pub no_rival_is : FirstHeldBut sys (kept_glues glues beside) e.place.tile None → HasNoRival sys c e
    no_rival_is none t rival = rival.other (none t (rival_to t rival))

-- a place is a seed's where a grid of the seeds has its tile
pub seed_is : (sys : TileSystem) (tiles : List Place) (p : Place) → HasDistinctSites sys.seeds → SamePlacements sys.seeds tiles → tile_at tiles p.site ≡ Some p.tile → Contains sys.seeds p
seed_is sys tiles p distinct same at = tile_at-Contains sys.seeds p.site p.tile (SameTiles-from sys.seeds tiles distinct same p.site ∙ at)

pub seed_at : (sys : TileSystem) (tiles : List Place) (p : Place) → HasDistinctSites sys.seeds → SamePlacements sys.seeds tiles → Contains sys.seeds p → tile_at tiles p.site ≡ Some p.tile
seed_at sys tiles p distinct same contains = sym (SameTiles-from sys.seeds tiles distinct same p.site) ∙ Contains-tile_at sys.seeds p distinct contains

-- the sites beside a site in their order: south, west, east, north
module _ (sys : TileSystem) (tiles : List Place) (m : Site) where
  abbrev Shut : Side → Type 0
  Shut d = IsFirstType sys tiles (neighbor m d) None

  -- none of them is before one where those before it are shut
  least_beside : (d : Side) (t : TypeId) → AttachesFirst sys tiles (neighbor m d) t →
      ((f : Side) → (IsBefore (neighbor m f) (neighbor m d)) → Shut f) → IsLeastOpenAmong sys tiles (IsBeside m) (Some (neighbor m d, t))
  least_beside d t first shut = record {
    among = (d, refl);
    grows = first.grows;
    least_site = λ n u beside grows before.
        let Grows : Site → Type 0 = λ k. IsCandidate sys tiles k u in
        let Before : Site → Type 0 = λ k. IsBefore k (neighbor m d) in
        shut beside.0 (subst Before (sym beside.1) before) u (subst Grows (sym beside.1) grows);
    least_type = first.least;
  }

  pub south_open : (t : TypeId) → AttachesFirst sys tiles (neighbor m South) t → IsLeastOpenAmong sys tiles (IsBeside m) (Some (neighbor m South, t))
  south_open t first = least_beside South t first shut
    where
      shut : (f : Side) → IsBefore (neighbor m f) (neighbor m South) → Shut f
      shut North before = λ u h. elim before [ inl less ↦ omega (arith, ints, less) | inr same ↦ omega (arith, ints, same.0, same.1) ]
      shut East before = λ u h. elim before [ inl less ↦ omega (arith, ints, less) | inr same ↦ omega (arith, ints, same.0, same.1) ]
      shut South before = λ u h. elim before [ inl less ↦ omega (arith, ints, less) | inr same ↦ omega (arith, ints, same.0, same.1) ]
      shut West before = λ u h. elim before [ inl less ↦ omega (arith, ints, less) | inr same ↦ omega (arith, ints, same.0, same.1) ]

  pub west_open : Shut South → (t : TypeId) → AttachesFirst sys tiles (neighbor m West) t → IsLeastOpenAmong sys tiles (IsBeside m) (Some (neighbor m West, t))
  west_open south t first = least_beside West t first shut
    where
      shut : (f : Side) → IsBefore (neighbor m f) (neighbor m West) → Shut f
      shut North before = λ u h. elim before [ inl less ↦ omega (arith, ints, less) | inr same ↦ omega (arith, ints, same.0, same.1) ]
      shut East before = λ u h. elim before [ inl less ↦ omega (arith, ints, less) | inr same ↦ omega (arith, ints, same.0, same.1) ]
      shut South before = south
      shut West before = λ u h. elim before [ inl less ↦ omega (arith, ints, less) | inr same ↦ omega (arith, ints, same.0, same.1) ]

  pub east_open : Shut South → Shut West → (t : TypeId) → AttachesFirst sys tiles (neighbor m East) t → IsLeastOpenAmong sys tiles (IsBeside m) (Some (neighbor m East, t))
  east_open south west t first = least_beside East t first shut
    where
      shut : (f : Side) → IsBefore (neighbor m f) (neighbor m East) → Shut f
      shut North before = λ u h. elim before [ inl less ↦ omega (arith, ints, less) | inr same ↦ omega (arith, ints, same.0, same.1) ]
      shut East before = λ u h. elim before [ inl less ↦ omega (arith, ints, less) | inr same ↦ omega (arith, ints, same.0, same.1) ]
      shut South before = south
      shut West before = west

  pub north_open : Shut South → Shut West → Shut East → (t : TypeId) → AttachesFirst sys tiles (neighbor m North) t → IsLeastOpenAmong sys tiles (IsBeside m) (Some (neighbor m North, t))
  north_open south west east t first = least_beside North t first shut
    where
      shut : (f : Side) → IsBefore (neighbor m f) (neighbor m North) → Shut f
      shut North before = λ u h. elim before [ inl less ↦ omega (arith, ints, less) | inr same ↦ omega (arith, ints, same.0, same.1) ]
      shut East before = east
      shut South before = south
      shut West before = west

  pub none_open : Shut South → Shut West → Shut East → Shut North → IsLeastOpenAmong sys tiles (IsBeside m) None
  none_open south west east north n t beside grows =
      let Grows : Site → Type 0 = λ k. IsCandidate sys tiles k t in
      each beside.0 (subst Grows (sym beside.1) grows)
    where
      each : (d : Side) → ¬ IsCandidate sys tiles (neighbor m d) t
      each North = north t
      each East = east t
      each South = south t
      each West = west t
