-- What the laws of confluence say of growth answers.
use Rattle.tile_text.specs.SystemText.{ReadsAny}
use Rattle.std.proofs.Common.{◌≡◌, ◌∙◌, ◌+◌, ℕ, Bool, true, true≢false, All, Some, List, [], ◌∷◌, Option, refl, sym, ap, subst}
use Rattle.std.specs.List.{AllZip}
use Rattle.std.proofs.lemmas.List.Elements.{All-head, All-tail}
use Rattle.atam.specs.declared.place.Place.{Place}
use Rattle.atam.specs.Placements.{HasDistinctSites, SamePlacements}
use Rattle.atam.specs.TileSystem.{TileSystem, IsValid}
use Rattle.atam.specs.Assembly.{Fits}
use Rattle.atam.specs.Growth.{IsProducible}
use Rattle.atam.specs.Determinism.{IsDeterministicInBox}
use Rattle.atam.proofs.Sequences.{IsLegal-distinct}
use Rattle.atam.proofs.Open.{least_open_same}
use Rattle.atam.proofs.Tiles.{SamePlacements-trans, SameTiles-from, same_back}
use Rattle.tile_text.proofs.Eithers.{any_valid}
use Rattle.atam.specs.declared.verdict.Verdict.{Verdict}
use Rattle.atam.specs.declared.verdict.Verdict.TheVariants.{Yes, NotExact, Rival, NotTerminal}
use Rattle.local_check.proofs.Verdicts.{verdict_yes}
use Rattle.unique_law.specs.Outcomes.{Outcome, IsOutcome}
use Rattle.atam.proofs.Canon.{canonical_too, producible_types}
use Rattle.unique_law.proofs.OneOutcome.{one_full_growth, yes_in_some_order, grows_into_outcome}
use Rattle.unique_law.specs.Within.{IsYesWithin}
use Rattle.unique_law.proofs.Within.{one_outcome_within, grows_into_outcome_within, names_site_outside, within_in_its_order}
use Rattle.site_table.specs.Seats.{GrownValue}
use Rattle.tile_text.specs.Spelling.{spelling}
use Rattle.job_board.specs.declared.job.Job.{Job}
use Rattle.tile_io.specs.declared.mark.Mark.{Mark}
use Rattle.job_board.specs.Answers.{Answers}
use Rattle.job_board.specs.AnswerText.{batch_text}
use Rattle.job_board.specs.BatchText.{ReadsJobs}
use Rattle.tilebench.specs.Growing.{TellsGrowth}
use Rattle.tilebench.specs.Commands.Batch.{IsBatchAnswer}
use Rattle.tilebench.specs.Commands.Grow.{IsGrowthText}
use Rattle.tilebench.specs.Commands.Watch.{TellsWatchedGrowth}
use Rattle.job_board.specs.AnswerText.{growth_text, is_unique}
use Rattle.tilebench.specs.Growths.{IsGrowth}
use Rattle.tilebench.specs.Headline.{IsBatchHeadline, IsHeadline, IsJobHeadline, IsWatchedHeadline}
use Rattle.tilebench.specs.Inputs.{IsAlone}
use Rattle.tilebench.proofs.Orders.{canonical_whole}
use Rattle.tilebench.proofs.ReadingBack.{growth_may, sequence_back}
use Rattle.tilebench.proofs.Spelling.{spelled}

-- a verdict is a yes exactly where it is `Yes`
unique_yes : (verdict : Verdict) → is_unique verdict ≡ true → verdict ≡ Yes
unique_yes Yes positive = refl
unique_yes (NotExact m sum) positive = absurd (true≢false (sym positive))
unique_yes (Rival m t) positive = absurd (true≢false (sym positive))
unique_yes (NotTerminal m t) positive = absurd (true≢false (sym positive))

-- an outcome is that of each locally deterministic list in the box
pub growth_of_deterministic : (sys : TileSystem) → HasDistinctSites sys.seeds → (tiles : List Place) (outcome : Outcome) → IsGrowth sys tiles outcome → (s : List Place) →
    IsDeterministicInBox sys s → IsGrowth sys s outcome
growth_of_deterministic sys seeds tiles outcome grown s found =
    let is = grown.outcome_is in
    let same : SamePlacements tiles s = one_full_growth sys seeds s tiles found.deterministic found.inside is.full.distinct is.full.producible is.full.closed in
    let distinct : HasDistinctSites s = IsLegal-distinct sys s seeds found.deterministic.legal in
    let canonical = canonical_too sys tiles s same outcome.order is.canonical in
    let producible : IsProducible sys s = record { sequence = s; legal = found.deterministic.legal; same = record { part = λ p h. h; whole = λ p h. h } } in
    record {
      outcome_is = record {
        full = record {
          distinct = distinct;
          inside = found.inside;
          producible = producible;
          closed = λ m t within grows. found.deterministic.terminal m t grows;
        };
        canonical = canonical;
        least = least_open_same sys tiles s _ outcome.outside (SameTiles-from tiles s is.full.distinct same) is.least;
        judged = is.judged;
      };
      ordered = record {
        canonical = canonical;
        legal = grown.ordered.legal;
        same = SamePlacements-trans outcome.order tiles s grown.ordered.same same;
        fits = grown.ordered.fits;
        producible = producible;
      };
    }

-- where the verdict is a yes, or a no by the third condition, every growth of the system prints the same bytes
pub one_text : (sys : TileSystem) (table : GrownValue) (is_yes : Bool) (text : List ℕ) → HasDistinctSites sys.seeds → (told : IsGrowthText sys table is_yes text) →
    IsYesWithin told.outcome.verdict → (others : List Place) (other : Outcome) → IsOutcome sys others other → growth_text sys other ≡ text
one_text sys table is_yes text seeds told holds others other others_grown =
    let one = one_outcome_within sys seeds table.grid.tiles others told.outcome other told.grown.outcome_is holds others_grown in
    ap (growth_text sys) (sym one.1) ∙ sym told.printed

-- of the text of what the input's system grew into
pub growth_headline : (input : List ℕ) (sys : TileSystem) (table : GrownValue) (is_yes : Bool) (text : List ℕ) → IsAlone ReadsAny input sys → IsGrowthText sys table is_yes text → IsHeadline input is_yes text
growth_headline input sys table is_yes text read told =
    let valid = any_valid input _ read.end sys read.reads in
    let seeds : HasDistinctSites sys.seeds = valid.distinct_seeds in
    let tiles = table.grid.tiles in
    let outcome = told.outcome in
    let is = told.grown.outcome_is in
    let tells = verdict_yes sys outcome.order outcome.verdict is.judged in
    let tells_some = yes_in_some_order sys seeds tiles outcome.order outcome.verdict is.full.distinct is.full.producible is.canonical is.judged in
    let yes_it_is : is_yes ≡ true → outcome.verdict ≡ Yes = λ positive. unique_yes outcome.verdict (sym told.answer ∙ positive) in
    record {
      sys = sys;
      read = read;
      tiles = tiles;
      outcome = outcome;
      grown = told.grown;
      printed = told.printed;
      legal = told.grown.ordered.legal;
      same = told.grown.ordered.same;
      reads_back = sequence_back sys valid outcome.order (Some outcome.outside) (Some outcome.verdict) text
          (growth_may sys valid tiles outcome.order outcome.outside outcome.verdict is.full.inside told.grown.ordered.fits is.least is.judged) told.printed;
      closed = is.full.closed;
      outside = is.least;
      status = told.answer;
      yes = (λ positive. tells.0 (yes_it_is positive), λ deterministic. told.answer ∙ ap is_unique (tells.1 deterministic));
      some_order = (λ positive. tells_some.0 (yes_it_is positive), λ order. told.answer ∙ ap is_unique (tells_some.1 order));
      only = λ positive b legal. grows_into_outcome sys seeds tiles b outcome is (yes_it_is positive) legal;
      within = within_in_its_order sys seeds tiles outcome is;
      only_within = λ holds b. grows_into_outcome_within sys seeds tiles outcome is b holds;
      one_outcome = λ holds others other others_grown.
          let one = one_outcome_within sys seeds tiles others outcome other is holds others_grown in
          (same_back tiles others one.0, sym one.1);
      same_bytes = one_text sys table is_yes text seeds told;
      named_outside = names_site_outside sys seeds tiles outcome is;
      determined = growth_of_deterministic sys seeds tiles outcome told.grown;
    }

-- of an answer of `grow`
pub headline : (workers : ℕ) (grown : Option GrownValue) (input : List ℕ) (is_yes : Bool) (text : List ℕ) → TellsGrowth IsGrowthText workers grown input is_yes text → IsHeadline input is_yes text
headline workers grown input is_yes text answer = growth_headline input answer.sys answer.table is_yes text answer.read answer.told

-- of an answer of `watch`, behind its frames
pub watched_headline : (workers frames : ℕ) (grown : Option GrownValue) (input : List ℕ) (is_yes : Bool) (text : List ℕ) → TellsWatchedGrowth workers frames grown input is_yes text →
    IsWatchedHeadline frames input is_yes text
unfolding growth_headline
watched_headline workers frames grown input is_yes text answer =
    let told = answer.told in
    record {
      growth = told.growth;
      headline = growth_headline input answer.sys answer.table is_yes told.growth answer.read told.grown;
      watched = record {
        places = told.places;
        counts = told.counts;
        watched = told.watched;
        growth = told.growth;
        grown = refl;
        text = told.text;
      };
    }

-- the tiles that answer a system grew from it
answered_growth : (sys : TileSystem) (outcome : Outcome) → HasDistinctSites sys.seeds → (answers : Answers sys outcome) → IsGrowth sys answers.tiles outcome
answered_growth sys outcome seeds answers =
    let is = answers.told in
    let full = is.full in
    let fits : Fits sys answers.tiles = record { types = producible_types sys answers.tiles full.producible; sites = full.inside } in
    record { outcome_is = is; ordered = canonical_whole sys answers.tiles outcome.order seeds full.distinct fits full.producible is.canonical }

-- of what answers one job
job_headline : (job : Job) (outcome : Outcome) → IsValid job.sys → Answers job.sys outcome → IsJobHeadline job outcome
unfolding growth_headline
job_headline job outcome valid answers =
    let sys = job.sys in
    let table : GrownValue = record { grid = record { area = sys.area; tiles = answers.tiles }; won = [] } in
    let told : IsGrowthText sys table (is_unique outcome.verdict) (growth_text sys outcome) =
    record { outcome = outcome; grown = answered_growth sys outcome valid.distinct_seeds answers; printed = refl; answer = refl } in
    let back : IsAlone ReadsAny (spelling sys) sys = (spelled sys valid).reads_back in
    record {
      headline = growth_headline (spelling sys) sys table (is_unique outcome.verdict) (growth_text sys outcome) back told;
      of_job = refl;
      its_outcome = refl;
    }

-- and of what answers jobs that are read one after another
job_headlines : (text : List ℕ) (from to : Mark) (before : ℕ) (jobs : List Job) (outcomes : List Outcome) → ReadsJobs text from before jobs to →
    AllZip (λ job outcome. Answers job.sys outcome) jobs outcomes → AllZip IsJobHeadline jobs outcomes
job_headlines text from to before [] [] reads answers = tt
job_headlines text from to before [] (outcome ∷ outcomes) reads answers = absurd answers
job_headlines text from to before (job ∷ jobs) [] reads answers = absurd answers
job_headlines text from to before (job ∷ jobs) (outcome ∷ outcomes) (next, first, rest) answers =
    (job_headline job outcome (any_valid text first.behind next job.sys first.system) answers.0, job_headlines text next to (before + 1) jobs outcomes rest answers.1)

-- where each verdict is a yes within the box, jobs have one list of answers
one_answer_each : (jobs : List Job) (outcomes others : List Outcome) → AllZip IsJobHeadline jobs outcomes → All (λ outcome. IsYesWithin outcome.verdict) outcomes →
    AllZip (λ job outcome. Answers job.sys outcome) jobs others → others ≡ outcomes
one_answer_each [] [] [] headlines hold answers = refl
one_answer_each [] [] (other ∷ others) headlines hold answers = absurd answers
one_answer_each [] (outcome ∷ outcomes) others headlines hold answers = absurd headlines
one_answer_each (job ∷ jobs) [] others headlines hold answers = absurd headlines
one_answer_each (job ∷ jobs) (outcome ∷ outcomes) [] headlines hold answers = absurd answers
one_answer_each (job ∷ jobs) (outcome ∷ outcomes) (other ∷ others) (first, rest) hold answers =
    let holds : IsYesWithin first.headline.outcome.verdict =
    subst (λ (o : Outcome). IsYesWithin o.verdict) (sym first.its_outcome) (All-head (λ (o : Outcome). IsYesWithin o.verdict) outcome outcomes hold)
    in
    let told : IsOutcome first.headline.sys answers.0.tiles other = subst (λ (s : TileSystem). IsOutcome s answers.0.tiles other) (sym first.of_job) answers.0.told in
    let same : other ≡ outcome = (first.headline.one_outcome holds answers.0.tiles other told).1 ∙ first.its_outcome in
    let same_rest = one_answer_each jobs outcomes others rest (All-tail (λ (o : Outcome). IsYesWithin o.verdict) outcome outcomes hold) answers.1 in
    λ i. same i ∷ same_rest i

-- of an answer of `batch`
pub batch_headline : (input : List ℕ) (is_yes : Bool) (text : List ℕ) → IsBatchAnswer input is_yes text → IsBatchHeadline input is_yes text
batch_headline input is_yes text answer =
    let each = job_headlines input answer.read.begins.start answer.read.last 0 answer.jobs answer.outcomes answer.read.begins.each answer.answered in
    record {
      jobs = answer.jobs;
      read = answer.read;
      outcomes = answer.outcomes;
      each = each;
      printed = answer.printed;
      answer = answer.answer;
      same_bytes = λ hold others answered. ap (batch_text answer.jobs) (one_answer_each answer.jobs answer.outcomes others each hold answered) ∙ sym answer.printed;
    }
