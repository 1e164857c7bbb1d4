-- An input either reads or has a fault.
use Rattle.std.proofs.Common.{◌≡◌, ◌∙◌, ℕ, List, ap, subst, sym, inl, inr}
use Rattle.tile_io.specs.declared.fault.Cause.{Cause}
use Rattle.tile_io.specs.declared.fault.TextFault.{TextFault}
use Rattle.tile_io.specs.declared.mark.Mark.{Mark}
use Rattle.tile_io.specs.Formats.{Fault, Format, IsRead}
use Rattle.tile_io.proofs.Laws.{not_both, reads_once}
use Rattle.atam.specs.TileSystem.{TileSystem}
use Rattle.tile_text.specs.SystemText.{FaultAny, ReadsAny}
use Rattle.tile_text.proofs.Eithers.{any_not_both, any_one_system}
use Rattle.machine_text.specs.Machines.{TuringMachine}
use Rattle.machine_text.specs.MachineText.{ReadsMachine, machine_format, machine_of}
use Rattle.quadrant_compile.specs.Quadrants.{RuleQuadrant}
use Rattle.quadrant_compile.specs.QuadrantText.{ReadsQuadrant, quadrant_format, quadrant_of}
use Rattle.tile_io.specs.Lines.{first_mark}
use Rattle.tilebench.specs.Inputs.{FailsWithin, IsReadable}

-- where a text of some kind has no fault, and is that of one value
module _ {Value : Type 0} (IsText : List ℕ → Mark → Value → Mark → Type 0) (IsFault : List ℕ → Mark → ℕ → Cause → Type 0)
    (faultless : (text : List ℕ) (from to : Mark) (value : Value) (number : ℕ) (cause : Cause) → IsText text from value to → IsFault text from number cause → ⊥)
    (one : (text : List ℕ) (from to end : Mark) (value other : Value) → IsText text from value to → IsText text from other end → (value ≡ other) × (to ≡ end)) where
  module _ {Item : Type 0} (format : Value → Format Item) (input : List ℕ) (fault : TextFault) where
    -- an input that reads as such a text and then one of the format has no fault
    taken_or_faulty_as : IsReadable IsText format input → FailsWithin IsText IsFault format input fault → ⊥
    taken_or_faulty_as (value, whole) (inl fails) = faultless input first_mark whole.end value fault.line fault.cause whole.reads fails
    taken_or_faulty_as (value, whole) (inr (other, behind)) =
        let same = one input first_mark whole.end behind.end value other whole.reads behind.reads in
        let there : IsRead (format other) input whole.end = subst (λ (v : Value). IsRead (format v) input whole.end) same.0 whole.rest in
        let here : IsRead (format other) input behind.end = subst (λ (mark : Mark). IsRead (format other) input mark) same.1 there in
        not_both (format other) input behind.end here.0 here.1 fault.line fault.cause here.2 behind.rest

machine_faultless : (text : List ℕ) (from to : Mark) (M : TuringMachine) (number : ℕ) (cause : Cause) → ReadsMachine text from M to → Fault machine_format text from number cause → ⊥
machine_faultless text from to M number cause reads fails = not_both machine_format text from reads.items to number cause reads.reads fails

one_machine : (text : List ℕ) (from to end : Mark) (M N : TuringMachine) → ReadsMachine text from M to → ReadsMachine text from N end → (M ≡ N) × (to ≡ end)
one_machine text from to end M N reads other =
    let same = reads_once machine_format text from reads.items other.items to end reads.reads other.reads in
    (reads.machine ∙ ap machine_of same.0 ∙ sym other.machine, same.1)

quadrant_faultless : (text : List ℕ) (from to : Mark) (q : RuleQuadrant) (number : ℕ) (cause : Cause) → ReadsQuadrant text from q to → Fault quadrant_format text from number cause → ⊥
quadrant_faultless text from to q number cause reads fails = not_both quadrant_format text from reads.items to number cause reads.reads fails

one_quadrant : (text : List ℕ) (from to end : Mark) (q v : RuleQuadrant) → ReadsQuadrant text from q to → ReadsQuadrant text from v end → (q ≡ v) × (to ≡ end)
one_quadrant text from to end q v reads other =
    let same = reads_once quadrant_format text from reads.items other.items to end reads.reads other.reads in
    (reads.quadrant ∙ ap quadrant_of same.0 ∙ sym other.quadrant, same.1)

-- of the text of a system
pub taken_or_faulty : {Item : Type 0} (format : TileSystem → Format Item) (input : List ℕ) (fault : TextFault) → IsReadable ReadsAny format input → FailsWithin ReadsAny FaultAny format input fault → ⊥
taken_or_faulty format input fault taken fails = taken_or_faulty_as ReadsAny FaultAny any_not_both any_one_system format input fault taken fails

-- of the text of a machine
pub taken_or_faulty_machine : {Item : Type 0} (format : TuringMachine → Format Item) (input : List ℕ) (fault : TextFault) → IsReadable ReadsMachine format input → FailsWithin ReadsMachine (Fault machine_format) format input fault → ⊥
taken_or_faulty_machine format input fault taken fails = taken_or_faulty_as ReadsMachine (Fault machine_format) machine_faultless one_machine format input fault taken fails

-- of the text of a two-input rule
pub taken_or_faulty_quadrant : {Item : Type 0} (format : RuleQuadrant → Format Item) (input : List ℕ) (fault : TextFault) → IsReadable ReadsQuadrant format input → FailsWithin ReadsQuadrant (Fault quadrant_format) format input fault → ⊥
taken_or_faulty_quadrant format input fault taken fails = taken_or_faulty_as ReadsQuadrant (Fault quadrant_format) quadrant_faultless one_quadrant format input fault taken fails
