-- The types of a system by the glues that interact with one of their sides.
use Rattle.std.specs.Prelude.{◌≡◌, ℕ, ◌+◌, ◌≤◌, ◌<◌, List, length, slice_get, slice_index, Some}
use Rattle.atam.specs.declared.site.Side.{Side}
use Rattle.atam.specs.declared.place.GlueId.{GlueId}
use Rattle.atam.specs.declared.place.TypeId.{TypeId}
use Rattle.atam.specs.TileSystem.{TileSystem, side_glue}
use Rattle.atam.specs.Assembly.{interaction}
use Rattle.type_index.specs.declared.glue_table.GlueKind.{GlueKind}
use Rattle.type_index.specs.declared.glue_table.GlueKind.TheVariants.{Listed}
use Rattle.type_index.specs.declared.meeting_lists.Meeting.{Meeting}

-- none of the types from an index on and before another interacts with the glue on this side
abbrev pub NoneMeets : TileSystem → Side → GlueId → ℕ → ℕ → Type 0
NoneMeets sys d g from to = (t : TypeId) → from ≤ t.0 → t.0 < to → interaction sys (side_glue sys t d) (Some g) ≡ 0

-- From the place with this number on, each place has the next of the types from an index on that interact with the glue on this side, with the
-- strength; the last place has the number of types.
pub data Leads (sys : TileSystem) (d : Side) (g : GlueId) (meetings : List Meeting) : ℕ → ℕ → Type 0 where
  ends : (from place : ℕ) (m : Meeting) → slice_get meetings place ≡ Some m → from ≤ m.tile → m.tile ≡ length sys.types → m.strength ≡ 0 → NoneMeets sys d g from m.tile → Leads sys d g meetings from place
  leads : (from place : ℕ) (m : Meeting) → slice_get meetings place ≡ Some m → from ≤ m.tile → m.tile < length sys.types → m.strength ≡ interaction sys (side_glue sys (record { 0 = m.tile }) d) (Some g) →
      NoneMeets sys d g from m.tile → Leads sys d g meetings (m.tile + 1) m.next → Leads sys d g meetings from place

-- for each glue a first place
pub record MeetingOrder : Type 0 where
  pub first : List ℕ
  pub meetings : List Meeting

-- for each glue that has a list, that of the types from an index on that interact with it on this side
pub record AreMeetings (sys : TileSystem) (d : Side) (kinds : List GlueKind) (from : ℕ) (lists : MeetingOrder) : Type 0 where
  pub known : (g : GlueId) → slice_get kinds g.0 ≡ Some Listed → g.0 < length lists.first
  pub first : (g : GlueId) → slice_get kinds g.0 ≡ Some Listed → Leads sys d g lists.meetings from (slice_index lists.first g.0)
