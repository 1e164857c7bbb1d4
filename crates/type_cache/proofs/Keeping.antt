-- What is known of glues, kept with their key.
use Rattle.std.proofs.Common.{◌≡◌, ◌<◌, ℕ, List, All, length, get_or, replicate, set, sym, subst}
use Rattle.std.proofs.lemmas.List.Elements.{All-replicate, All-set}
use Rattle.atam.specs.TileSystem.{TileSystem}
use Rattle.attach_rule.specs.declared.facing.FacingGlues.{FacingGlues}
use Rattle.type_index.specs.declared.found.Found.{Found}
use Rattle.type_index.specs.Codes.{IsKeyOf}
use Rattle.type_index.specs.Sums.{SumsUpHeld}
use Rattle.type_index.proofs.Keys.{same_key}
use Rattle.type_cache.specs.declared.known.Known.{Known}
use Rattle.type_cache.specs.declared.finding.Finding.{Finding}
use Rattle.type_cache.specs.SideSets.{SideSet}
use Rattle.type_cache.specs.Findings.{AreKnownByKey, IsKnownOf, SettleSides, found_in}

-- what is known is what was found
pub is_known : (sys : TileSystem) (glues : FacingGlues) (known : Known) (found : Found) (settled : SideSet) → found_in known ≡ found → known.settled ≡ settled → SumsUpHeld sys glues found →
    SettleSides sys glues settled → IsKnownOf sys glues known
is_known sys glues known found settled same sides sums settles = record { sum = rw same sums; settled = rw sides settles }

-- what is known of glues is known of each choice with their key
pub known_key : (sys : TileSystem) (glues : FacingGlues) (key : ℕ) (known : Known) → IsKeyOf glues key → IsKnownOf sys glues known → (g : FacingGlues) → IsKeyOf g key → IsKnownOf sys g known
known_key sys glues key known of_glues is g of_g =
    let Knows : FacingGlues → Type 0 = λ h. IsKnownOf sys h known in
    subst Knows (same_key glues g key of_glues of_g) is

-- so it may be kept with the key
pub keeps_finding : (sys : TileSystem) (findings : List Finding) (slot : ℕ) (glues : FacingGlues) (new : Finding) → AreKnownByKey sys findings → IsKeyOf glues new.key → IsKnownOf sys glues new.known →
    AreKnownByKey sys (set findings slot new)
unfolding AreKnownByKey
keeps_finding sys findings slot glues new all of_glues is =
    All-set (λ f. (g : FacingGlues) → IsKeyOf g f.key → IsKnownOf sys g f.known) findings slot new (known_key sys glues new.key new.known of_glues is) all

-- and is known where it is found again
pub known_at : (sys : TileSystem) (findings : List Finding) (slot : ℕ) (finding : Finding) → AreKnownByKey sys findings → slot < length findings → finding ≡ get_or findings slot finding →
    (glues : FacingGlues) → IsKeyOf glues finding.key → IsKnownOf sys glues finding.known
unfolding AreKnownByKey
known_at sys findings slot finding all within is glues of_key =
    let Knows : Finding → Type 0 = λ f. IsKeyOf glues f.key → IsKnownOf sys glues f.known in
    subst Knows (sym is) (all slot finding within glues) of_key

-- one finding in all slots
pub all_known : (sys : TileSystem) (findings : List Finding) (n : ℕ) (finding : Finding) → findings ≡ replicate n finding → ((glues : FacingGlues) → IsKeyOf glues finding.key → IsKnownOf sys glues finding.known) →
    AreKnownByKey sys findings
unfolding AreKnownByKey
all_known sys findings n finding are known =
    let Known : List Finding → Type 0 = λ l. All (λ f. (glues : FacingGlues) → IsKeyOf glues f.key → IsKnownOf sys glues f.known) l in
    subst Known (sym are) (All-replicate (λ (f : Finding). (glues : FacingGlues) → IsKeyOf glues f.key → IsKnownOf sys glues f.known) n finding known)
