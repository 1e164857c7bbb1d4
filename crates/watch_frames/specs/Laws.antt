-- Laws of how a sequence goes on over tiles, and of frames.
use Rattle.std.specs.Prelude.{◌≡◌, ◌↔◌, ◌<◌, ◌≤◌, ℕ, suc, List, All, length, take, slice_index}
use Rattle.atam.specs.declared.place.Place.{Place}
use Rattle.atam.specs.Placements.{HasDistinctSites, IsPartOf, SamePlacements}
use Rattle.atam.specs.TileSystem.{TileSystem, IsType}
use Rattle.atam.specs.Growth.{IsLegal}
use Rattle.atam.specs.Canonical.{IsCanonical}
use Rattle.watch_frames.specs.Extensions.{Extends}
use Rattle.watch_frames.specs.Frames.{AreFrames, frame_of}

-- places at distinct sites go on over tiles that hold them
abbrev pub HasExtension : Type 0
HasExtension = (sys : TileSystem) (earlier tiles : List Place) → HasDistinctSites earlier → HasDistinctSites tiles →
    IsPartOf earlier tiles → (s : List Place) × Extends sys earlier tiles s

-- in one way alone
abbrev pub HasOneExtension : Type 0
HasOneExtension = (sys : TileSystem) (earlier tiles s t : List Place) → HasDistinctSites tiles →
    Extends sys earlier tiles s → Extends sys earlier tiles t → s ≡ t

-- which the placements alone decide
abbrev pub SharesExtension : Type 0
SharesExtension = (sys : TileSystem) (earlier a b s : List Place) → SamePlacements a b → Extends sys earlier a s → Extends sys earlier b s

-- a legal sequence goes on legally, with places of the tiles alone
abbrev pub ExtendsLegally : Type 0
ExtendsLegally = (sys : TileSystem) (earlier tiles s : List Place) → HasDistinctSites sys.seeds → HasDistinctSites tiles →
    All (λ p. IsType sys p.tile) tiles → IsLegal sys earlier → Extends sys earlier tiles s →
    IsLegal sys s × IsPartOf s tiles

-- the seeds go on in canonical order
abbrev pub ExtendsSeedsCanonically : Type 0
ExtendsSeedsCanonically = (sys : TileSystem) (tiles s : List Place) →
    Extends sys sys.seeds tiles s ↔ IsCanonical sys tiles s

-- what was listed is enough to say how it went on
abbrev pub ExtendsOverItself : Type 0
ExtendsOverItself = (sys : TileSystem) (earlier tiles s : List Place) →
    Extends sys earlier tiles s → Extends sys earlier s s

-- every legal sequence over the tiles is a part of what is listed: this is their greatest producible part
abbrev pub ExtendsToGreatest : Type 0
ExtendsToGreatest = (sys : TileSystem) (earlier tiles s b : List Place) → HasDistinctSites sys.seeds → HasDistinctSites tiles →
    All (λ p. IsType sys p.tile) tiles → IsLegal sys earlier → Extends sys earlier tiles s →
    IsLegal sys b → IsPartOf b tiles → IsPartOf b s

-- so it has the placements of the tiles' canonical sequence, whatever came earlier
abbrev pub ExtendsToCanonical : Type 0
ExtendsToCanonical = (sys : TileSystem) (earlier tiles s c : List Place) → HasDistinctSites sys.seeds → HasDistinctSites tiles →
    All (λ p. IsType sys p.tile) tiles → IsLegal sys earlier → Extends sys earlier tiles s →
    IsCanonical sys tiles c → SamePlacements s c

-- over more tiles it goes on behind what was listed
abbrev pub GoesOnOverMore : Type 0
GoesOnOverMore = (sys : TileSystem) (earlier tiles s more : List Place) → HasDistinctSites earlier → HasDistinctSites tiles → HasDistinctSites more →
    IsPartOf tiles more → Extends sys earlier tiles s →
    (t : List Place) × Extends sys s more t × (take (length s) t ≡ s)

-- each frame is legal
abbrev pub FramesAreLegal : Type 0
FramesAreLegal = (sys : TileSystem) (places : List Place) (counts : List ℕ) (i : ℕ) → AreFrames sys places counts → i < length counts →
    IsLegal sys (frame_of places counts i)

-- none has fewer places than the one before it, which so begins it
abbrev pub FramesNeverShrink : Type 0
FramesNeverShrink = (sys : TileSystem) (places : List Place) (counts : List ℕ) (i : ℕ) → AreFrames sys places counts → suc i < length counts →
    slice_index counts i ≤ slice_index counts (suc i)

-- the last one has all places
abbrev pub LastFrameHasAll : Type 0
LastFrameHasAll = (sys : TileSystem) (places : List Place) (counts : List ℕ) (i : ℕ) → AreFrames sys places counts → suc i ≡ length counts →
    slice_index counts i ≡ length places
