-- One frame more.
use Rattle.std.proofs.Common.{◌≡◌, ◌<◌, ◌≤◌, ℕ, zero, suc, List, [], ◌∷◌, ◌++◌, length, length-append, take, get_or, All, refl, sym, ◌∙◌, ap, subst, inl, inr, arith}
use Rattle.std.proofs.Math.Seq.{take-length, get_or-append_seam}
use Rattle.std.proofs.Math.ListN.{get_or-append}
use Rattle.std.proofs.lemmas.Bool.{cases_lt}
use Rattle.std.proofs.lemmas.List.{length-take-le}
use Rattle.atam.specs.declared.place.Place.{Place}
use Rattle.atam.specs.Placements.{HasDistinctSites}
use Rattle.atam.specs.TileSystem.{TileSystem, IsType}
use Rattle.atam.specs.Growth.{IsLegal}
use Rattle.atam.proofs.Lists.{seeds_within, seeds_taken}
use Rattle.atam.proofs.Sequences.{IsLegal-take}
use Rattle.watch_frames.specs.Extensions.{Extends}
use Rattle.watch_frames.specs.Frames.{frame_of, frame_before, AreFrames}
use Rattle.watch_frames.proofs.Extensions.{begins_legal, over_itself_law}

-- the seeds alone, before the first frame
pub no_frames : (sys : TileSystem) → IsLegal sys sys.seeds → AreFrames sys sys.seeds []
no_frames sys legal = record {
  legal = legal;
  last = refl;
  within = λ i below. absurd (omega (arith, below));
  each = λ i below. absurd (omega (arith, below));
}

module _ (sys : TileSystem) (tiles s t : List Place) (counts : List ℕ) (distinct : HasDistinctSites tiles) (seeds_distinct : HasDistinctSites sys.seeds) (kinds : All (λ p. IsType sys p.tile) tiles)
    (are : AreFrames sys s counts) (extends : Extends sys s tiles t) where
  -- earlier counts stay
  count_same : (i : ℕ) → i < length counts → get_or (counts ++ length t ∷ []) i 0 ≡ get_or counts i 0
  count_same i below = get_or-append counts (length t ∷ []) 0 i below

  count_new : get_or (counts ++ length t ∷ []) (length counts) 0 ≡ length t
  count_new = get_or-append_seam counts (length t) [] 0

  -- and so do earlier frames
  frame_same : (i : ℕ) → i < length counts → frame_of t (counts ++ length t ∷ []) i ≡ frame_of s counts i
  frame_same i below = ap (λ k. take k t) (count_same i below) ∙ seeds_taken s t extends.begins.seeds (get_or counts i 0) (are.within i below)

  before_same : (i : ℕ) → i ≤ length counts → frame_before sys t (counts ++ length t ∷ []) i ≡ frame_before sys s counts i
  before_same zero below = refl
  before_same (suc i) below = frame_same i (omega (arith, below))

  frame_new : frame_of t (counts ++ length t ∷ []) (length counts) ≡ t
  frame_new = ap (λ k. take k t) count_new ∙ take-length t

  moved : (i : ℕ) (a b : List Place) → frame_before sys t (counts ++ length t ∷ []) i ≡ a → frame_of t (counts ++ length t ∷ []) i ≡ b → Extends sys a b b →
      Extends sys (frame_before sys t (counts ++ length t ∷ []) i) (frame_of t (counts ++ length t ∷ []) i) (frame_of t (counts ++ length t ∷ []) i)
  moved i a b before now goes =
      let From : List Place → Type 0 = λ l. Extends sys l b b in
      let To : List Place → Type 0 = λ l. Extends sys (frame_before sys t (counts ++ length t ∷ []) i) l l in
      subst To (sym now) (subst From (sym before) goes)

  new_frame : (i : ℕ) → i ≡ length counts → Extends sys (frame_before sys t (counts ++ length t ∷ []) i) (frame_of t (counts ++ length t ∷ []) i) (frame_of t (counts ++ length t ∷ []) i)
  new_frame i one =
      let before : frame_before sys t (counts ++ length t ∷ []) i ≡ s = before_same i (omega (arith, one)) ∙ ap (frame_before sys s counts) one ∙ are.last in
      let now : frame_of t (counts ++ length t ∷ []) i ≡ t = ap (frame_of t (counts ++ length t ∷ [])) one ∙ frame_new in
      moved i s t before now (over_itself_law sys s tiles t extends)

  pub frames_more : AreFrames sys t (counts ++ length t ∷ [])
  frames_more =
      let longer : length (counts ++ length t ∷ []) ≡ suc (length counts) = omega (arith, length-append counts (length t ∷ [])) in
      let few : length s ≤ length t = seeds_within s t extends.begins.seeds in
      record {
        legal = begins_legal sys s tiles t distinct extends.begins seeds_distinct kinds are.legal;
        last = ap (frame_before sys t (counts ++ length t ∷ [])) longer ∙ frame_new;
        within = λ i below. elim (cases_lt i (length counts)) [
          | inl earlier ↦ omega (arith, count_same i earlier, are.within i earlier, few)
          | inr later ↦
              let one : i ≡ length counts = omega (arith, later, below, longer) in
              omega (arith, ap (λ k. get_or (counts ++ length t ∷ []) k 0) one, count_new)
        ];
        each = λ i below. elim (cases_lt i (length counts)) [
          | inl earlier ↦ moved i (frame_before sys s counts i) (frame_of s counts i) (before_same i (omega (arith, earlier))) (frame_same i earlier) (are.each i earlier)
          | inr later ↦ new_frame i (omega (arith, later, below, longer))
        ];
      }

-- what follows from the frames of a list
module _ (sys : TileSystem) (places : List Place) (counts : List ℕ) (are : AreFrames sys places counts) where
  frame_length : (i : ℕ) → i < length counts → length (frame_of places counts i) ≡ get_or counts i 0
  frame_length i below = length-take-le (get_or counts i 0) places (are.within i below)

  -- none has fewer places than the one before it
  pub counts_rise : (i : ℕ) → suc i < length counts → get_or counts i 0 ≤ get_or counts (suc i) 0
  counts_rise i below =
      let fewer = seeds_within (frame_of places counts i) (frame_of places counts (suc i)) (are.each (suc i) below).begins.seeds in
      omega (arith, fewer, frame_length i (omega (arith, below)), frame_length (suc i) below)

  -- each has the seeds
  has_seeds : (i : ℕ) → i < length counts → length sys.seeds ≤ get_or counts i 0
  has_seeds zero below =
      let fewer = seeds_within sys.seeds (frame_of places counts 0) (are.each 0 below).begins.seeds in
      omega (arith, fewer, frame_length 0 below)
  has_seeds (suc i) below =
      let before = has_seeds i (omega (arith, below)) in
      let rises = counts_rise i below in
      omega (arith, before, rises)

  -- so each is legal
  pub frame_legal : (i : ℕ) → i < length counts → IsLegal sys (frame_of places counts i)
  frame_legal i below = IsLegal-take sys places (get_or counts i 0) (has_seeds i below) are.legal

  -- and the last one has all places
  pub last_count : (i : ℕ) → suc i ≡ length counts → get_or counts i 0 ≡ length places
  last_count i one =
      let all : frame_of places counts i ≡ places = ap (frame_before sys places counts) one ∙ are.last in
      sym (frame_length i (omega (arith, one))) ∙ ap length all
