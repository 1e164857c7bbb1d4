-- What the top call promises.
use Rattle.std.specs.Prelude.{◌≡◌, ◌↔◌, ◌⊎◌, ◌++◌, ℕ, Bool, true, false, List, All, Option, None, Some, codes}
use Rattle.std.specs.List.{AllZip, list_all}
use Rattle.atam.specs.declared.verdict.Verdict.TheVariants.{NotTerminal}
use Rattle.tilebench.specs.declared.status.Status.TheVariants.{Done, No, Words, Text, ReadFault, WriteFault, NoMemory}
use Rattle.tilebench.specs.Terms.{Command, CounterStop, IsCallOf, IsNoCommand, IsTaken, IsUsage, counter_stop_name, refused_words, room_of}
use Rattle.tilebench.specs.Terms.{Status, TextFault, Rose, Gains, GainsFront, AnswersLeft, FailsLeft, IsReadyFor, refused_text}
use Rattle.tilebench.specs.Terms.{GrownValue, Outcome, IsOutcome, IsSystemThen, ReadsPlaces, spelling, Place, TileSystem, ReadsAny, IsAlone, IsGrowth, IsLegal, SamePlacements, growth_text}
use Rattle.tilebench.specs.Terms.{IsClosedInBox, IsLeastOpenOutside, IsLocallyDeterministic, IsDeterministicInBox, IsDeterministicInSomeOrder, GrowsInto, IsWatchAnswer}
use Rattle.tilebench.specs.Terms.{InBox, IsDeterministicWithin, IsYesWithin, LiesInBox, Site, TypeId}
use Rattle.tilebench.specs.Terms.{AnswerEach, Job, IsBatch, batch_text, is_unique}

-- An answer: the words call for a command, as clap reads them, and this is what it answers to what was left of the source, with the growth that it hands out.
pub record IsAnswer (words : List (List ℕ)) (left left_after : Option (List ℕ)) (grown : Option GrownValue) (is_yes : Bool) (text : List ℕ) : Type 0 where
  pub command : Command
  pub called : IsCallOf words command
  pub answer : AnswersLeft (room_of command) grown left left_after is_yes text

-- A refusal of the words, by its reason.
pub data IsWordsRefusal (words : List (List ℕ)) (text : List ℕ) : Type 0 where
  -- the first word names no command
  no_command : IsNoCommand words → text ≡ refused_words (codes "NoCommand") →
      IsWordsRefusal words text
  -- clap finds a fault in the list, and does not promise to take it
  usage : IsUsage words → text ≡ refused_words (codes "Usage") → IsWordsRefusal words text
  -- the words call for a command that refuses the numbers among them
  numbers : (command : Command) (stop : CounterStop) → IsCallOf words command →
      (room_of command).refuses stop → text ≡ refused_words (counter_stop_name stop) →
      IsWordsRefusal words text

-- A refusal of the input: the words call for a command, and this is the first fault of what was left of the source.
pub record IsTextRefusal (words : List (List ℕ)) (left left_after : Option (List ℕ)) (text : List ℕ) : Type 0 where
  pub command : Command
  pub called : IsCallOf words command
  pub fault : TextFault
  pub fails : FailsLeft (room_of command) left left_after fault
  pub told : text ≡ refused_text fault

-- How a run ends, by its status: `out` gained an answer, with which a growth may be handed out; or `err` gained a refusal, or a count of faults rose, or memory was wanting.
module _ {S K E : Type 0} (read_faults : S → ℕ) (written : K → Option (List ℕ)) (out_faults : K → ℕ) (told : E → Option (List ℕ)) (err_faults : E → ℕ)
    (Answer : Option GrownValue → Bool → List ℕ → Type 0) (Refusal WordsRefusal : List ℕ → Type 0) (source source_after : S) (out out_after : K) (err err_after : E) where
  abbrev pub EndsUnanswered : Status → Type 0
  EndsUnanswered Done = ⊥
  EndsUnanswered No = ⊥
  EndsUnanswered Words = Gains told err_faults WordsRefusal err err_after × (out_after ≡ out) × (source_after ≡ source)
  EndsUnanswered Text = Gains told err_faults Refusal err err_after × (out_after ≡ out)
  EndsUnanswered ReadFault = Rose (read_faults source) (read_faults source_after) × (out_after ≡ out) × (err_after ≡ err)
  EndsUnanswered WriteFault =
      (GainsFront written out_faults (λ text. (lost : Option GrownValue) × (is_yes : Bool) × Answer lost is_yes text) out out_after × (err_after ≡ err))
      ⊎ (GainsFront told err_faults (λ text. Refusal text ⊎ WordsRefusal text) err err_after × (out_after ≡ out))
  EndsUnanswered NoMemory = (out_after ≡ out) × (err_after ≡ err)

  abbrev pub Ends : Status → Option GrownValue → Type 0
  Ends Done grown = Gains written out_faults (Answer grown true) out out_after × (err_after ≡ err)
  Ends No grown = Gains written out_faults (Answer grown false) out out_after × (err_after ≡ err)
  Ends status grown = EndsUnanswered status × (grown ≡ None)

-- An answer is due: clap promises to take the words, and the command that they call for refuses none of its numbers and, if it reads the source, takes what is left of it: that is known, short,
-- and reads as the command's input.
pub record IsDue (words : List (List ℕ)) (left : Option (List ℕ)) : Type 0 where
  pub taken : IsTaken words
  pub ready : (command : Command) → IsCallOf words command → IsReadyFor (room_of command) left

-- The growth answer: the input is the text of one system, and the text is that of a growth of it, of which this holds.
pub record IsHeadline (input : List ℕ) (is_yes : Bool) (text : List ℕ) : Type 0 where
  pub sys : TileSystem
  pub read : IsAlone ReadsAny input sys
  pub tiles : List Place
  pub outcome : Outcome
  pub grown : IsGrowth sys tiles outcome
  pub printed : text ≡ growth_text sys outcome
  -- its places are a legal sequence from the seeds, with exactly the placements of an assembly
  pub legal : IsLegal sys outcome.order
  pub same : SamePlacements outcome.order tiles
  -- and behind the spelling of the system they read as this sequence
  pub reads_back : IsSystemThen (ReadsPlaces false) (spelling sys ++ text) sys outcome.order
  -- nothing extends the assembly in the box, nor outside it unless a site is named
  pub closed : IsClosedInBox sys tiles
  pub outside : IsLeastOpenOutside sys tiles outcome.outside
  -- the status is a yes exactly where the last line is `unique yes`
  pub status : is_yes ≡ is_unique outcome.verdict
  -- that comes exactly where the three conditions of local determinism hold of the sequence, and so of some order of its places
  pub yes : (is_yes ≡ true) ↔ IsLocallyDeterministic sys outcome.order
  pub some_order : (is_yes ≡ true) ↔ IsDeterministicInSomeOrder sys tiles
  -- then every legal sequence extends to the assembly
  pub only : is_yes ≡ true → (b : List Place) → IsLegal sys b → GrowsInto sys b tiles
  -- the last line is `unique yes` or `unique no 3` exactly where the first two conditions hold of the sequence, since it lies in the box and is closed there
  pub within : IsYesWithin outcome.verdict ↔ IsDeterministicWithin sys outcome.order
  -- then every legal sequence that lies in the box extends to the assembly
  pub only_within : IsYesWithin outcome.verdict → (b : List Place) → IsLegal sys b → LiesInBox sys b → GrowsInto sys b tiles
  -- and every growth of the system has this outcome, with the same placements, and prints the same bytes
  pub one_outcome : IsYesWithin outcome.verdict → (others : List Place) (other : Outcome) → IsOutcome sys others other → SamePlacements others tiles × (other ≡ outcome)
  pub same_bytes : IsYesWithin outcome.verdict → (others : List Place) (other : Outcome) → IsOutcome sys others other → growth_text sys other ≡ text
  -- the site that `unique no 3` names lies outside the box, and is the one that is told of there
  pub named_outside : (m : Site) (t : TypeId) → outcome.verdict ≡ NotTerminal m t → ¬ InBox sys.area m × (outcome.outside ≡ Some (m, t))
  -- and where any sequence in the box is locally deterministic, this is the growth of its placements
  pub determined : (s : List Place) → IsDeterministicInBox sys s → IsGrowth sys s outcome

-- The answer of a watched growth: so many frames of it, and behind the line `grown` the growth answer.
pub record IsWatchedHeadline (frames : ℕ) (input : List ℕ) (is_yes : Bool) (text : List ℕ) : Type 0 where
  pub growth : List ℕ
  pub headline : IsHeadline input is_yes growth
  pub watched : IsWatchAnswer (λ behind. behind ≡ growth) headline.sys frames headline.tiles text

-- What answers one job of a batch: the growth answer to the spelling of its system.
pub record IsJobHeadline (job : Job) (outcome : Outcome) : Type 0 where
  pub headline : IsHeadline (spelling job.sys) (is_unique outcome.verdict) (growth_text job.sys outcome)
  pub of_job : headline.sys ≡ job.sys
  pub its_outcome : headline.outcome ≡ outcome

-- The answer to a batch: under the number of each job what answers it, and then how many jobs there are and how many of the verdicts are a yes. It is a yes where each of them is.
pub record IsBatchHeadline (input : List ℕ) (is_yes : Bool) (text : List ℕ) : Type 0 where
  pub jobs : List Job
  pub read : IsBatch input jobs
  pub outcomes : List Outcome
  pub each : AllZip IsJobHeadline jobs outcomes
  pub printed : text ≡ batch_text jobs outcomes
  pub answer : is_yes ≡ list_all (λ outcome. is_unique outcome.verdict) outcomes
  -- where each verdict is yes or names the third condition, whatever answers these jobs has the same bytes
  pub same_bytes : All (λ outcome. IsYesWithin outcome.verdict) outcomes → (others : List Outcome) → AnswerEach jobs others → batch_text jobs others ≡ text
