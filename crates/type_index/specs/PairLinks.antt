-- The pairs of a system by the glues that they have.
use Rattle.std.specs.Prelude.{◌≡◌, ◌≢◌, ℕ, ◌+◌, ◌≤◌, ◌<◌, ◌⊎◌, Bool, true, false, List, length, Option, Some, None, slice_get, slice_index}
use Rattle.atam.specs.declared.place.GlueId.{GlueId}
use Rattle.atam.specs.declared.place.GluePair.{GluePair}
use Rattle.atam.specs.TileSystem.{TileSystem}
use Rattle.type_index.specs.declared.glue_table.GlueKind.{GlueKind}
use Rattle.type_index.specs.declared.glue_table.GlueKind.TheVariants.{Alone, Listed, Unlisted}

-- one of the two glues of a pair
abbrev pub HasGlue : GlueId → GluePair → Type 0
HasGlue g p = (p.first.0 ≡ g.0) ⊎ (p.second.0 ≡ g.0)

-- none of them
abbrev pub LacksGlue : GlueId → GluePair → Type 0
LacksGlue g p = (p.first.0 ≢ g.0) × (p.second.0 ≢ g.0)

-- a glue of this kind has lists
abbrev pub is_list_kind : GlueKind → Bool
is_list_kind Alone = false
is_list_kind Listed = true
is_list_kind Unlisted = false

abbrev pub is_known_list_kind : Option GlueKind → Bool
is_known_list_kind None = false
is_known_list_kind (Some kind) = is_list_kind kind

-- the glue has lists, by the kinds of the glues
abbrev pub is_listed : List GlueKind → GlueId → Bool
is_listed kinds g = is_known_list_kind (slice_get kinds g.0)

-- one of the two glues of a pair, the other one of which has lists
abbrev pub PairsWithListed : List GlueKind → GlueId → GluePair → Type 0
PairsWithListed kinds g p = ((p.first.0 ≡ g.0) × (is_listed kinds p.second ≡ true)) ⊎ ((p.second.0 ≡ g.0) × (is_listed kinds p.first ≡ true))

-- of the pairs from an index on, the first of the glue and one that has lists; the number of pairs where none is
pub record IsNextPair (pairs : List GluePair) (kinds : List GlueKind) (g : GlueId) (from found : ℕ) : Type 0 where
  pub after : from ≤ found
  pub within : found ≤ length pairs
  pub none_between : (k : ℕ) (p : GluePair) → from ≤ k → k < found → slice_get pairs k ≡ Some p → ¬ PairsWithListed kinds g p
  pub here : (p : GluePair) → slice_get pairs found ≡ Some p → PairsWithListed kinds g p

-- for each glue a first pair, and for each pair one behind it with its first glue and one with its second
pub record PairOrder : Type 0 where
  pub first : List ℕ
  pub behind_first : List ℕ
  pub behind_second : List ℕ

-- there is room for each glue and each pair
pub record HasRoomFor (sys : TileSystem) (links : PairOrder) : Type 0 where
  pub glues : length links.first ≡ length sys.glues
  pub firsts : length links.behind_first ≡ length sys.pairs
  pub seconds : length links.behind_second ≡ length sys.pairs

-- For each glue the list of the pairs from an index on that pair it with one that has lists, and so of the glues with lists that are paired with
-- it: the first of them, and behind each the next.
pub record ArePairLinks (sys : TileSystem) (kinds : List GlueKind) (from : ℕ) (links : PairOrder) : Type 0 where
  pub room : HasRoomFor sys links
  pub first : (g : GlueId) → g.0 < length sys.glues → IsNextPair sys.pairs kinds g from (slice_index links.first g.0)
  pub behind_first : (k : ℕ) (p : GluePair) → from ≤ k → slice_get sys.pairs k ≡ Some p → IsNextPair sys.pairs kinds p.first (k + 1) (slice_index links.behind_first k)
  pub behind_second : (k : ℕ) (p : GluePair) → from ≤ k → slice_get sys.pairs k ≡ Some p → IsNextPair sys.pairs kinds p.second (k + 1) (slice_index links.behind_second k)

-- each glue of a pair is told to be one
pub record ArePaired (sys : TileSystem) (paired : List Bool) : Type 0 where
  pub count : length paired ≡ length sys.glues
  pub each : (g : GlueId) (k : ℕ) (p : GluePair) → slice_get sys.pairs k ≡ Some p → HasGlue g p → slice_get paired g.0 ≡ Some true
