-- An input that is read in parts: a front with a system, and what follows it in blocks.
use Rattle.tile_io.specs.Lines.{first_mark}
use Rattle.std.proofs.Common.{◌≡◌, ◌≤◌, ◌++◌, ◌∙◌, ℕ, true, Bool, List, [], length, Option, Result, Ok, Err, refl, sym, subst, arith, inl, inr}
use Rattle.std.proofs.Math.Nat.{le_trans}
use Rattle.std.specs.Io.KnownBytes.{Consumes}
use Rattle.tile_io.specs.declared.blocks.InputStop.{InputStop}
use Rattle.tile_io.specs.declared.blocks.InputStop.TheVariants.{Unread, Refused}
use Rattle.tile_io.specs.declared.fault.TextFault.{TextFault}
use Rattle.tile_io.specs.declared.mark.Mark.{Mark}
use Rattle.tile_io.specs.declared.whole.ReadStop.{ReadStop}
use Rattle.tile_io.specs.declared.whole.ReadStop.TheVariants as read
use Rattle.tile_io.specs.Blocks.{TakesOn, IsWholeText, IsUnread, StopsInBlocks}
use Rattle.tile_io.specs.Formats.{Format}
use Rattle.tile_io.specs.NextLine.{IsMark}
use Rattle.tile_io.proofs.Progress.{start_is_mark}
use Rattle.tile_io.proofs.TakenOn.{takes_more}
use Rattle.atam.specs.TileSystem.{TileSystem}
use Rattle.tile_text.specs.SystemText.{ReadsAny, FaultAny}
use Rattle.tile_text.proofs.Onward.{any_mark_on, any_on}
use Rattle.tilebench.specs.declared.input.SystemFront.{SystemFront}
use Rattle.tilebench.specs.declared.stop.Stop.{Stop}
use Rattle.tilebench.specs.declared.stop.Stop.TheVariants.{Words, Counter, Text, ReadFault, NoMemory}
use Rattle.tilebench.specs.Inputs.{FailsWithin, IsWholeInput}
use Rattle.tilebench.specs.Inner.Fronts.{IsFront, FailsAtFront}
use Rattle.tilebench.specs.Inner.Gives.{AnswersFrom, Gives, GivesBehind, GivesRead}
use Rattle.tilebench.specs.Inner.Stops.{stop_of_input, stop_of_read}
use Rattle.tilebench.specs.Rows.{RoomRow}

-- what was taken is this, behind nothing
taken_all : (before after : Option (List ℕ)) (whole : List ℕ) → TakesOn before after [] whole → Consumes before after whole
taken_all before after whole taken = subst (λ (l : List ℕ). Consumes before after l) (sym taken.2) taken.1

-- bytes behind a front stand behind what was left before it
pub taken_behind : (before middle after : Option (List ℕ)) (front whole : List ℕ) → TakesOn before middle [] front → TakesOn middle after front whole → TakesOn before after [] whole
taken_behind before middle after front whole taken more =
    let all = takes_more before middle after [] front more.0 taken more.1 in
    (all.0, all.1, more.2 ∙ all.2)

pub whole_input : (before middle after : Option (List ℕ)) (front whole : List ℕ) → TakesOn before middle [] front → IsWholeText middle after front whole → IsWholeInput before after whole
whole_input before middle after front whole taken is =
    record { read = taken_all before after whole (taken_behind before middle after front whole taken is.taken); at_end = is.at_end; short = is.short }

module _ {S : Type 0} (left : S → Option (List ℕ)) (faults : S → ℕ) where
  module _ {T : Type 0} (Holds : Option (List ℕ) → Option (List ℕ) → T → Type 0) where
    -- a text that did not come, in which no fault was looked for
    pub unread_behind : (Fails : List ℕ → TextFault → Type 0) (before : Option (List ℕ)) (source after : S) (front : List ℕ) (stop : ReadStop) → TakesOn before (left source) [] front → IsUnread left faults front source after stop →
        GivesBehind before left faults Holds Fails source after (Err (stop_of_read stop))
    unread_behind Fails before source after front read.Failed taken h = h.1
    unread_behind Fails before source after front read.TooLong taken h =
        let all = h.0.0 in
        let long : length all ≡ 67108865 = h.0.2 in
        (inl (all, taken_all before (left after) all (taken_behind before (left source) (left after) front all taken h.0.1), omega (arith, long), refl), h.1)
    unread_behind Fails before source after front read.NoMemory taken h = h.1

    -- counts of faults are seen from the source before, where they did not fall
    pub from_before : (Fails : List ℕ → TextFault → Type 0) (source middle after : S) (result : Result T Stop) → faults source ≤ faults middle →
        GivesBehind (left source) left faults Holds Fails middle after result → GivesRead left faults Holds Fails source after result
    from_before Fails source middle after (Ok value) later h = (h.0, le_trans later h.1)
    from_before Fails source middle after (Err (Text fault)) later h = (h.0, le_trans later h.1)
    from_before Fails source middle after (Err ReadFault) later h = elim h [
      | inl rose ↦ inl (omega (arith, later, rose))
      | inr last ↦ inr last
    ]
    from_before Fails source middle after (Err NoMemory) later h = le_trans later h
    from_before Fails source middle after (Err (Words stop)) later h = h
    from_before Fails source middle after (Err (Counter stop)) later h = h

    module _ {Item : Type 0} (format : TileSystem → Format Item) where
      -- a fault of the system
      pub front_stop : (source after : S) (stop : Stop) → GivesRead left faults IsFront FailsAtFront source after (Err stop) → GivesRead left faults Holds (FailsWithin ReadsAny FaultAny format) source after (Err stop)
      front_stop source after (Text fault) (inl long, later) = (inl long, later)
      front_stop source after (Text fault) (inr faulty, later) = (inr (faulty.0, faulty.1, inl faulty.2), later)
      front_stop source after ReadFault h = h
      front_stop source after NoMemory h = h
      front_stop source after (Words stop) h = h
      front_stop source after (Counter stop) h = h

      -- or of what follows it
      blocks_behind : (before : Option (List ℕ)) (source after : S) (text : List ℕ) (sys : TileSystem) (end : Mark) (stop : InputStop) → TakesOn before (left source) [] text → ReadsAny text first_mark sys end →
          StopsInBlocks left faults (format sys) text end source after stop → GivesBehind before left faults Holds (FailsWithin ReadsAny FaultAny format) source after (Err (stop_of_input stop))
      blocks_behind before source after text sys end (Unread stop) taken reads h = unread_behind (FailsWithin ReadsAny FaultAny format) before source after text stop taken h
      blocks_behind before source after text sys end (Refused fault) taken reads h =
          let whole = h.0.0 in
          let is = h.0.1 in
          let Reads : List ℕ → Type 0 = λ l. ReadsAny l first_mark sys end in
          let onward = subst Reads (sym is.taken.2) (any_on text is.taken.0 first_mark end sys (omega arith) reads) in
          (inr (whole, whole_input before (left source) (left after) text whole taken is, inr (sys, record { end = end; reads = onward; rest = h.0.2 })), h.1)

      pub blocks_stop : (source middle after : S) (front : SystemFront) (stop : InputStop) → IsFront (left source) (left middle) front → faults source ≤ faults middle →
          StopsInBlocks left faults (format front.sys) front.begun.text.items front.end middle after stop → GivesRead left faults Holds (FailsWithin ReadsAny FaultAny format) source after (Err (stop_of_input stop))
      blocks_stop source middle after front stop is later h =
          from_before (FailsWithin ReadsAny FaultAny format) source middle after (Err (stop_of_input stop)) later (blocks_behind (left source) middle after front.begun.text.items front.sys front.end stop is.taken is.reads h)

  -- the front of a whole text is faulty
  pub front_faulty : (before : Option (List ℕ)) (source after : S) (whole : List ℕ) (stop : Stop) → IsWholeInput before (left after) whole → faults source ≤ faults after →
      Gives {T = TileSystem × Mark} (λ found. ReadsAny whole first_mark found.0 found.1) (FailsAtFront whole) (Err stop) → GivesBehind before left faults IsFront FailsAtFront source after (Err stop)
  front_faulty before source after whole (Text fault) is later h = (inr (whole, is, h), later)
  front_faulty before source after whole NoMemory is later h = later
  front_faulty before source after whole ReadFault is later h = absurd h
  front_faulty before source after whole (Words stop) is later h = absurd h
  front_faulty before source after whole (Counter stop) is later h = absurd h

  -- a stop of the reading is one of the command
  module _ {A T : Type 0} (positive : A → Bool) (text : A → List ℕ) (printable : A → Type 0) (row : RoomRow) (reads : row.reads ≡ true) (Holds : Option (List ℕ) → Option (List ℕ) → T → Type 0) where
    pub reading_stop : (source after : S) (stop : Stop) → GivesRead left faults Holds row.fails source after (Err stop) → AnswersFrom left faults positive text printable row source after (Err stop)
    reading_stop source after (Text fault) h = ((reads, h.0), h.1)
    reading_stop source after ReadFault h = h
    reading_stop source after NoMemory h = h
    reading_stop source after (Words stop) h = h
    reading_stop source after (Counter stop) h = absurd h

module _ {S : Type 0} (left : S → Option (List ℕ)) (source middle : S) (front : SystemFront) (is : IsFront (left source) (left middle) front) where
  -- the mark behind the front's system is one of each text that begins so
  pub front_mark : (rest : List ℕ) → IsMark (front.begun.text.items ++ rest) front.end
  front_mark rest =
      let text = front.begun.text.items in
      any_mark_on text rest first_mark front.end front.sys (omega arith) (start_is_mark (text ++ rest)) is.reads

  -- what was left of the source before is the whole text, which begins with the system
  pub front_whole : (after : S) (whole : List ℕ) → IsWholeText (left middle) (left after) front.begun.text.items whole → IsWholeInput (left source) (left after) whole × ReadsAny whole first_mark front.sys front.end
  front_whole after whole all =
      let text = front.begun.text.items in
      let Reads : List ℕ → Type 0 = λ l. ReadsAny l first_mark front.sys front.end in
      (whole_input (left source) (left middle) (left after) text whole is.taken all, subst Reads (sym all.taken.2) (any_on text all.taken.0 first_mark front.end front.sys (omega arith) is.reads))
