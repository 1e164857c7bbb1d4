-- What entries that look the same have in common.
use Rattle.std.proofs.Common.{◌≡◌, ◌<◌, ◌≤◌, ◌+◌, ◌∙◌, ℕ, Bool, true, false, not, ◌||◌, ◌==◌, bit_and, nat_lt, if◌then◌else◌, true≢false, List, Option, Some, None, IfSome, option_map, length, set, slice_get, refl, sym, ap, subst, inl, inr}
use Rattle.std.specs.Prelude.{option_and_then}
use Rattle.std.specs.Option.{option_map_or}
use Rattle.std.proofs.lemmas.Bool.{cases_eq}
use Rattle.std.proofs.lemmas.Option.{same_Some}
use Rattle.atam.specs.declared.site.Side.{Side}
use Rattle.atam.specs.declared.site.Side.TheVariants.{North, East, South, West}
use Rattle.atam.specs.declared.site.Site.{Site}
use Rattle.atam.specs.declared.place.TypeId.{TypeId}
use Rattle.atam.specs.declared.place.Place.{Place}
use Rattle.atam.specs.Sites.{neighbor}
use Rattle.atam.specs.TileSystem.{TileSystem, IsType, side_glue}
use Rattle.atam.specs.Assembly.{Fits, interaction, glue_at, bond, pull}
use Rattle.attach_rule.specs.declared.facing.FacingGlues.{FacingGlues}
use Rattle.attach_rule.specs.Facing.{FacesSite}
use Rattle.type_cache.specs.SideSets.{has, complement}
use Rattle.type_index.proofs.Keys.{faced, faced_faces, faces_key}
use Rattle.local_check.proofs.Keeping.{pull_facing}
use Rattle.local_check.proofs.Sites.{slice_get-set, slice_get-apart}
use Rattle.cert_check.specs.declared.entry.Entry.{Entry}
use Rattle.cert_check.specs.declared.verdict.CertVerdict.{CertVerdict}
use Rattle.cert_check.specs.declared.verdict.CertVerdict.TheVariants.{Yes}
use Rattle.cert_check.specs.declared.listing.EntriesBeside.{EntriesBeside}
use Rattle.cert_check.specs.declared.looks.Look.{Look}
use Rattle.cert_check.specs.Certificates.{bit_of, states, places_of, entry_at, is_waiting, stated_bond, stated_pull, without_waiting, IsHeld, IsHeldThroughout}
use Rattle.cert_check.specs.Judgement.{IsFault}
use Rattle.cert_check.specs.Inner.Listings.{AreBeside}
use Rattle.cert_check.specs.Inner.Checks.{is_ranked_on, is_ranked, waits, waiting_sides, IsAttached, IsAttachedVerdict}
use Rattle.cert_check.specs.Inner.Looks.{LooksLike, PassesUnranked, PassesLooking}
use Rattle.cert_check.proofs.Beside.{entry_kind}
use Rattle.cert_check.proofs.Entries.{entry_at-some}
use Rattle.cert_check.proofs.Listings.{tile_at-entry}
use Rattle.cert_check.proofs.EntryChecks.{four_parts, before_parts}

-- the bonds of a type at two sites that the same glues face
same_bonds : (sys : TileSystem) (s u : List Place) (m n : Site) (t : TypeId) (glues : FacingGlues) → FacesSite sys s m glues → FacesSite sys u n glues →
    (d : Side) → bond sys s m t d ≡ bond sys u n t d
unfolding bond
same_bonds sys s u m n t glues here there North = ap (λ g. interaction sys (side_glue sys t North) g) (sym here.north ∙ there.north)
same_bonds sys s u m n t glues here there East = ap (λ g. interaction sys (side_glue sys t East) g) (sym here.east ∙ there.east)
same_bonds sys s u m n t glues here there South = ap (λ g. interaction sys (side_glue sys t South) g) (sym here.south ∙ there.south)
same_bonds sys s u m n t glues here there West = ap (λ g. interaction sys (side_glue sys t West) g) (sym here.west ∙ there.west)

stated_same : (e f : Entry) → e.sides ≡ f.sides → (d : Side) → states e d ≡ states f d
unfolding states
stated_same e f same d = ap (λ n. not (bit_and n (bit_of d) == 0)) same

-- two entries of one type with one look
module _ (sys : TileSystem) (t : TypeId) (look : Look) (c b : List Entry) (e f : Entry) (kind : e.place.tile ≡ t) (other : f.place.tile ≡ t) (looks : LooksLike sys c e look) (alike : LooksLike sys b f look) where
  glues : FacingGlues
  glues = faced sys (places_of c) e.place.site

  face_here : FacesSite sys (places_of c) e.place.site glues
  unfolding glues
  face_here = faced_faces sys (places_of c) e.place.site

  face_there : FacesSite sys (places_of b) f.place.site glues
  face_there = faces_key sys (places_of b) f.place.site glues look.key alike.key (looks.key glues face_here)

  same_states : (d : Side) → states e d ≡ states f d
  same_states = stated_same e f (looks.sides ∙ sym alike.sides)

  same_waiting : (d : Side) → is_waiting c e.place.site d ≡ is_waiting b f.place.site d
  same_waiting d = sym (looks.waits d) ∙ alike.waits d

  same_bond : (d : Side) → bond sys (places_of c) e.place.site e.place.tile d ≡ bond sys (places_of b) f.place.site f.place.tile d
  same_bond d =
      same_bonds sys (places_of c) (places_of b) e.place.site f.place.site e.place.tile glues face_here face_there d
      ∙ ap (λ (u : TypeId). bond sys (places_of b) f.place.site u d) (kind ∙ sym other)

  same_sum : stated_pull sys c e ≡ stated_pull sys b f
  unfolding stated_pull stated_bond
  same_sum =
      λ k. (if same_states North k then same_bond North k else 0) + (if same_states East k then same_bond East k else 0)
      + (if same_states South k then same_bond South k else 0) + (if same_states West k then same_bond West k else 0)

  -- what stands beside the sides on which no entry waits pulls alike
  stays : (a : List Entry) (m : Site) → ((d : Side) → has look.waits d ≡ is_waiting a m d) → (d : Side) → has (complement look.waits) d ≡ not (is_waiting a m d)
  stays a m are North = ap not (are North)
  stays a m are East = ap not (are East)
  stays a m are South = ap not (are South)
  stays a m are West = ap not (are West)

  same_pull : (u : TypeId) → pull sys (without_waiting c e.place.site) e.place.site u ≡ pull sys (without_waiting b f.place.site) f.place.site u
  same_pull u =
      let here = pull_facing sys (places_of c) (places_of c) (λ m. refl) e.place.site (λ d. is_waiting c e.place.site d) (complement look.waits) (stays c e.place.site looks.waits) glues face_here u in
      let there = pull_facing sys (places_of b) (places_of b) (λ m. refl) f.place.site (λ d. is_waiting b f.place.site d) (complement look.waits) (stays b f.place.site alike.waits) glues face_there u in
      here ∙ sym there

  -- so where the one passes, so does the other
  pub passes_alike : PassesUnranked sys c e → PassesUnranked sys b f
  passes_alike passes = record {
    bound = λ d stated. subst (λ (n : ℕ). 0 < n) (same_bond d) (passes.bound d (same_states d ∙ stated));
    exact = sym same_sum ∙ passes.exact;
    no_loose = λ d loose. passes.no_loose d (record {
      unstated = same_states d ∙ loose.unstated;
      bonded = subst (λ (n : ℕ). 0 < n) (sym (same_bond d)) loose.bonded;
      unanswered = same_waiting d ∙ loose.unanswered;
    });
    no_rival = λ u rival. passes.no_rival u (record {
      other = λ same. rival.other (same ∙ kind ∙ sym other);
      kind = rival.kind;
      held = subst (λ (n : ℕ). sys.tau ≤ n) (sym (same_pull u)) rival.held;
    });
  }

ranked_part : (s x : Bool) → (not s || x) ≡ true → s ≡ true → x ≡ true
ranked_part true x test stated = test
ranked_part false x test stated = absurd (true≢false (sym stated))

module _ (sys : TileSystem) (c : List Entry) (e : Entry) where
  -- what the verdict tells of an entry that passes
  pub attached_by_yes : (v : CertVerdict) → v ≡ Yes → IsAttachedVerdict sys c e v → IsAttached sys c e
  attached_by_yes v yes_it_is (inl passes) = passes.1
  attached_by_yes v yes_it_is (inr fault) = absurd (subst (IsFault sys c e) yes_it_is fault)

  pub unranked : IsAttached sys c e → PassesUnranked sys c e
  unranked attached = record {
    bound = λ d stated. (attached.0 d stated).bonded;
    exact = attached.1;
    no_loose = attached.2;
    no_rival = attached.3;
  }

  -- a side that leads to an entry of lesser rank, with which there is a bond
  ranked_on : PassesUnranked sys c e → (d : Side) → is_ranked_on e d (entry_at c (neighbor e.place.site d)) ≡ true → states e d ≡ true → IsHeld sys c e d
  ranked_on passes d test stated =
      let there = entry_at c (neighbor e.place.site d) in
      let from = before_parts there e.rank (ranked_part (states e d) (option_map_or (λ (f : Entry). nat_lt f.rank e.rank) there false) test stated) in
      let found = entry_at-some c (neighbor e.place.site d) from.0 from.1 in
      record { from = from.0; listed = found.0; beside = found.1; lesser = from.2; bonded = passes.bound d stated }

  -- an entry that passes, but for ranks that are right, passes
  pub attached_ranked : (beside : EntriesBeside) → AreBeside c e.place.site beside → PassesUnranked sys c e → is_ranked e beside ≡ true → IsAttached sys c e
  attached_ranked beside near passes test = (held, passes.exact, passes.no_loose, passes.no_rival)
    where
      parts : (is_ranked_on e North beside.north ≡ true) × (is_ranked_on e East beside.east ≡ true) × (is_ranked_on e South beside.south ≡ true) × (is_ranked_on e West beside.west ≡ true)
      parts =
          four_parts (is_ranked_on e North beside.north) (is_ranked_on e East beside.east) (is_ranked_on e South beside.south) (is_ranked_on e West beside.west) test

      held : IsHeldThroughout sys c e
      held North = ranked_on passes North (ap (is_ranked_on e North) (sym near.north) ∙ parts.0)
      held East = ranked_on passes East (ap (is_ranked_on e East) (sym near.east) ∙ parts.1)
      held South = ranked_on passes South (ap (is_ranked_on e South) (sym near.south) ∙ parts.2)
      held West = ranked_on passes West (ap (is_ranked_on e West) (sym near.west) ∙ parts.3)

-- each entry that looks as one that passed passes but for its rank
pub passes_looking : (sys : TileSystem) (look : Look) (c : List Entry) (e : Entry) → LooksLike sys c e look → IsAttached sys c e → PassesLooking sys e.place.tile look
passes_looking sys look c e looks attached b f kind alike = passes_alike sys e.place.tile look c b e f refl kind looks alike (unranked sys c e attached)

-- an entry beside a site is of a type of the system
pub kind_beside : (sys : TileSystem) (c : List Entry) (m : Site) (beside : Option Entry) → Fits sys (places_of c) → beside ≡ entry_at c m →
    IfSome beside (λ (e : Entry). IsType sys e.place.tile)
kind_beside sys c m None fits is = tt
kind_beside sys c m (Some e) fits is = entry_kind sys c e fits (entry_at-some c m e (sym is)).0

-- the glue on a side of its tile is that of the tile there
pub glue_beside : (sys : TileSystem) (c : List Entry) (m : Site) (d : Side) (beside : Option Entry) → beside ≡ entry_at c m →
    option_and_then (λ (e : Entry). side_glue sys e.place.tile d) beside ≡ glue_at sys (places_of c) m d
glue_beside sys c m d beside is =
    ap (option_and_then (λ (e : Entry). side_glue sys e.place.tile d)) is ∙ then_map (entry_at c m) ∙ ap (option_and_then (λ (u : TypeId). side_glue sys u d)) (sym (tile_at-entry c m))
  where
    then_map : (o : Option Entry) → option_and_then (λ (e : Entry). side_glue sys e.place.tile d) o ≡ option_and_then (λ (u : TypeId). side_glue sys u d) (option_map (λ (e : Entry). e.place.tile) o)
    then_map None = refl
    then_map (Some e) = refl

-- the sides on which entries wait
pub waits_is : (c : List Entry) (m : Site) (beside : EntriesBeside) → AreBeside c m beside → (d : Side) → has (waiting_sides beside) d ≡ is_waiting c m d
waits_is c m beside near North = ap (λ (o : Option Entry). waits o North) near.north
waits_is c m beside near East = ap (λ (o : Option Entry). waits o East) near.east
waits_is c m beside near South = ap (λ (o : Option Entry). waits o South) near.south
waits_is c m beside near West = ap (λ (o : Option Entry). waits o West) near.west

-- one look more is kept
pub looks_set : (sys : TileSystem) (last : List (Option Look)) (t : TypeId) (new : Look) → t.0 < length last →
    ((u : TypeId) (look : Look) → slice_get last u.0 ≡ Some (Some look) → PassesLooking sys u look) → PassesLooking sys t new →
    (u : TypeId) (look : Look) → slice_get (set last t.0 (Some new)) u.0 ≡ Some (Some look) → PassesLooking sys u look
looks_set sys last t new within each here u look at = elim (cases_eq u.0 t.0) [
  | inl same ↦
      let type_is : t ≡ u = λ k. record { 0 = sym same k } in
      let At : ℕ → Type 0 = λ j. slice_get (set last t.0 (Some new)) j ≡ Some (Some look) in
      let value : new ≡ look = same_Some new look (same_Some (Some new) (Some look) (sym (slice_get-set last t.0 (Some new) within) ∙ subst At same at)) in
      subst (λ (h : Look). PassesLooking sys u h) value (subst (λ (v : TypeId). PassesLooking sys v new) type_is here)
  | inr apart ↦ each u look (slice_get-apart last t.0 u.0 (Some new) (Some look) apart at)
]
