-- The partners of each glue: the glues with which pairs join it.
use Rattle.std.specs.Prelude.{◌≡◌, ℕ, ◌+◌, ◌≤◌, ◌<◌, ◌==◌, ◌&&◌, ◌||◌, if◌then◌else◌, Bool, List, [], ◌∷◌, length, slice_index, slice_range}
use Rattle.atam.specs.declared.place.GlueId.{GlueId}
use Rattle.atam.specs.declared.place.GluePair.{GluePair}
use Rattle.atam.specs.TileSystem.{TileSystem}
use Rattle.type_index.specs.declared.glue_table.GlueKind.{GlueKind}
use Rattle.type_index.specs.declared.partners.Partner.{Partner}
use Rattle.type_index.specs.PairLinks.{is_listed}

-- the other glue of a pair, with the strength of the pair
abbrev pub partner_in : GlueId → GluePair → Partner
partner_in g p = record { glue = if p.first.0 == g.0 then p.second else p.first; strength = p.strength }

-- whether the glue is one of a pair, the other one of which has lists
abbrev pub pairs_with_listed : List GlueKind → GlueId → GluePair → Bool
pairs_with_listed kinds g p = (p.first.0 == g.0 && is_listed kinds p.second) || (p.second.0 == g.0 && is_listed kinds p.first)

-- the partners of a glue that have lists, in the order of the pairs
abbrev pub partners_of : List GlueKind → GlueId → List GluePair → List Partner
partners_of kinds g [] = []
partners_of kinds g (p ∷ pairs) = if pairs_with_listed kinds g p then partner_in g p ∷ partners_of kinds g pairs else partners_of kinds g pairs

-- partners of many glues in one list, and where in it those of each glue begin, and last where they end
pub record PartnerOrder : Type 0 where
  pub starts : List ℕ
  pub partners : List Partner

-- for each of this many glues a range of the list
pub record AreRanges (glues : ℕ) (lists : PartnerOrder) : Type 0 where
  pub count : length lists.starts ≡ glues + 1
  pub ordered : (g : ℕ) → g < glues → slice_index lists.starts g ≤ slice_index lists.starts (g + 1)
  pub within : (g : ℕ) → g < glues → slice_index lists.starts (g + 1) ≤ length lists.partners

-- the range of each of this many glues has its partners, and behind the last there is nothing
pub record ArePartners (sys : TileSystem) (kinds : List GlueKind) (glues : ℕ) (lists : PartnerOrder) : Type 0 where
  pub ranges : AreRanges glues lists
  pub end : slice_index lists.starts glues ≡ length lists.partners
  pub each : (g : GlueId) → g.0 < glues → slice_range lists.partners (slice_index lists.starts g.0) (slice_index lists.starts (g.0 + 1)) ≡ partners_of kinds g sys.pairs
