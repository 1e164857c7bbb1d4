-- What commands answer that print a system.
use Rattle.std.specs.Prelude.{◌≡◌, ℕ, Bool, true, List}
use Rattle.tile_io.specs.declared.mark.Mark.{Mark}
use Rattle.atam.specs.TileSystem.{TileSystem, IsValid}
use Rattle.tile_text.specs.SystemText.{ReadsAny}
use Rattle.tilebench.specs.Inputs.{IsAlone}

-- the text is the spelling of this kind of a valid system, and reads back as it
pub record SpellsSystem (spelled : TileSystem → List ℕ) (sys : TileSystem) (text : List ℕ) : Type 0 where
  pub printed : text ≡ spelled sys
  pub valid : IsValid sys
  pub reads_back : IsAlone ReadsAny text sys

-- The input is the text of one value, of which this holds, and the text the spelling of the system
-- that is made of it: the system itself, or that of a machine or a rule, of which the laws of
-- `turing_compile` and `quadrant_compile` hold.
pub record SpellsMade {Value : Type 0} (IsText : List ℕ → Mark → Value → Mark → Type 0)
    (Holds : Value → Type 0) (made : Value → TileSystem) (spelled : TileSystem → List ℕ)
    (input : List ℕ) (is_yes : Bool) (text : List ℕ) : Type 0 where
  pub value : Value
  pub read : IsAlone IsText input value
  pub holds : Holds value
  pub spells : SpellsSystem spelled (made value) text
  pub answer : is_yes ≡ true
