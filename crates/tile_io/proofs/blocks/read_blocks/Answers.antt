use Rattle.std.proofs.Common.{◌≡◌, ◌≤◌, ◌<◌, ◌+◌, ◌-◌, ◌++◌, ℕ, Bool, List, [], length, take, drop, Ok, Err, refl, sym, ap, subst, ◌∙◌, append-nil, arith}
use Rattle.std.proofs.lemmas.Grind.{common_steps}
use Rattle.std.proofs.lemmas.List.{length-take}
use Rattle.std.proofs.lemmas.Result.{err_from_is_err_and}
use Rattle.tile_io.specs.declared.fault.Cause.TheVariants.{NoHeader}
use Rattle.tile_io.specs.declared.mark.Mark.{Mark}
use Rattle.tile_io.specs.declared.stretch.Stretch.{Stretch}
use Rattle.tile_io.specs.Blocks.{ReadsInBlocks, stop_of_text}
use Rattle.tile_io.specs.Checks.{table_format}
use Rattle.tile_io.specs.LineReader.{ReadsInto}
use Rattle.tile_io.specs.NextLine.{IsMark}
use Rattle.tile_io.specs.Inner.Blocks.{EndsOrCame, IsEnded}
use Rattle.tile_io.specs.Inner.Stretches.{IsStretch, ReadsRest, moved}
use Rattle.tile_io.proofs.CameSoFar.{CameSoFar, nothing_came, block_came, lines_taken, whole_came, rest_came, stops_coming, whole_ends, whole_fails, whole_few, whole_stops, told_behind}
use Rattle.tile_io.proofs.Stretching.{some_line}
use Rattle.tile_io.proofs.Walks.{mark_within}
use Rattle.tile_io.proofs.blocks.read_blocks.Goals.{in-Ok, in-Err}
use Rattle.tile_io.proofs.blocks.read_blocks.Goals as goal

pub drop_front-requires : goal.drop_front-requires
drop_front-requires g c =
    let Here : List ℕ → Type 0 = λ text. IsMark text c.args.from in
    (mark_within c.args.front.items c.args.from (subst Here (append-nil c.args.front.items) (c.requires.mark []))).0

pub overflow_sub-passed : goal.overflow_sub-passed
overflow_sub-passed g c =
    let Here : List ℕ → Type 0 = λ text. IsMark text c.args.from in
    some_line c.args.front.items c.args.from (subst Here (append-nil c.args.front.items) (c.requires.mark []))

pub lines-init : goal.lines-init
lines-init g c =
    let format = table_format (g.R.LineReader.table (g.R.LineReader.context c.args.reader.now)) in
    let front = c.args.front.items in
    let from = c.args.from in
    let Here : List ℕ → Type 0 = λ text. IsMark text from in
    let mark = subst Here (append-nil front) (c.requires.mark []) in
    let Holds = g.R.LineReader.holds c.args.reader.now in
    let source = c.args.source.now in
    let Kept : List ℕ → Type 0 = λ kept. CameSoFar g.S.Source.left g.S.Source.faults format front from source source Holds kept c.len-came.result (from.line - 1) NoHeader in
    let Came : ℕ → Type 0 = λ came. CameSoFar g.S.Source.left g.S.Source.faults format front from source source Holds (drop from.at front) came (from.line - 1) NoHeader in
    let size : c.len-came.result ≡ length front = grind (arith, common_steps) in
    record {
      context = refl;
      so_far = subst Kept (sym c.drop_front.ensures) (subst Came (sym size) (nothing_came g.S.Source.left g.S.Source.faults format front from source Holds c.requires.empty c.requires.short mark (some_line front from mark)));
    }

pub read_block-requires-clause-within : goal.read_block-requires-clause-within
read_block-requires-clause-within g c =
    let count = c.lines.invariant.so_far.count in
    omega (arith, count)

pub read_block-requires-clause-short : goal.read_block-requires-clause-short
read_block-requires-clause-short g c =
    c.lines.invariant.so_far.short

pub returns-in_err-read_block-clause-read : goal.returns-in_err-read_block-clause-read
returns-in_err-read_block-clause-read g c =
    let table = g.R.LineReader.table in
    let format = table_format (table (g.R.LineReader.context c.args.reader.now)) in
    let left = g.S.Source.left in
    let faults = g.S.Source.faults in
    let front = c.args.front.items in
    let from = c.args.from in
    let source = c.args.source.now in
    let before = c.lines.invariant in
    let passed = c.lines.passed in
    let missing = c.lines.missing in
    let Before = g.R.LineReader.holds c.lines.reader in
    let IsReadAs : List ℕ → Unit {0} → Type 0 = λ whole _. (to : Mark) × ReadsInto format whole from Before to in
    let p = err_from_is_err_and c.from_residual.result c.from_residual.ensures.1 in
    rw (p.1, p.2) (stops_coming left faults format front from source c.lines.source Before c.lines.text.items c.lines.came passed missing before.so_far IsReadAs c.read_block.new.source c.in_err-read_block.field-0.0 c.in_err-read_block.ensures.read)

pub returns-in_err-read_block-clause-context : goal.returns-in_err-read_block-clause-context
returns-in_err-read_block-clause-context g c =
    c.lines.invariant.context

pub read_last_lines-requires-clause-held : goal.read_last_lines-requires-clause-held
read_last_lines-requires-clause-held g c =
    let so_far = c.lines.invariant.so_far.so_far in
    (so_far.items, so_far.held)

pub read_last_lines-requires-clause-short : goal.read_last_lines-requires-clause-short
read_last_lines-requires-clause-short g c =
    let table = g.R.LineReader.table in
    let format = table_format (table (g.R.LineReader.context c.args.reader.now)) in
    let left = g.S.Source.left in
    let faults = g.S.Source.faults in
    let front = c.args.front.items in
    let from = c.args.from in
    let source = c.args.source.now in
    let before = c.lines.invariant in
    let passed = c.lines.passed in
    let missing = c.lines.missing in
    let Before = g.R.LineReader.holds c.lines.reader in
    let block = c.in_ok-read_block.ensures.read in
    let next = c.read_block.new.source in
    let kept = c.read_block.new.kept.items in
    let came = c.read_block.new.came in
    let now = block_came left faults format front from source c.lines.source Before c.lines.text.items c.lines.came passed missing before.so_far next came block.0 kept block.1 block.2 in
    let size : length c.deref.result.now ≡ length kept = ap length c.deref.ensures.value in
    omega (arith, size, now.count, now.short)

pub stop_after-requires : goal.stop_after-requires
stop_after-requires g c =
    let table = g.R.LineReader.table in
    let format = table_format (table (g.R.LineReader.context c.args.reader.now)) in
    let left = g.S.Source.left in
    let faults = g.S.Source.faults in
    let front = c.args.front.items in
    let from = c.args.from in
    let source = c.args.source.now in
    let before = c.lines.invariant in
    let passed = c.lines.passed in
    let missing = c.lines.missing in
    let Before = g.R.LineReader.holds c.lines.reader in
    let block = c.in_ok-read_block.ensures.read in
    let next = c.read_block.new.source in
    let kept = c.read_block.new.kept.items in
    let came = c.read_block.new.came in
    let now = block_came left faults format front from source c.lines.source Before c.lines.text.items c.lines.came passed missing before.so_far next came block.0 kept block.1 block.2 in
    let After = g.R.LineReader.holds c.read_last_lines.new.reader in
    let whole = now.part ++ kept in
    let Told : _ → Type 0 = λ x. ReadsRest (table_format (table x)) whole from (length now.part) passed After c.read_last_lines.result in
    let told : ReadsRest format whole from (length now.part) passed After c.read_last_lines.result =
    told_behind table before.context Told now.part kept c.deref.result.now from c.start.result passed Before missing now.so_far c.deref.ensures.value c.start.ensures.value
    (λ items is within progress held missing_is. c.read_last_lines.ensures.read whole (length now.part) passed from items is within progress held missing_is)
    in
    let Ends : Bool → Type 0 = λ b. EndsOrCame b (left next) block.0 in
    let is_whole = whole_came left faults format front from source next Before kept came passed missing now (subst Ends c.if-branch.true block.3) in
    let Rest : _ → Type 0 = λ r. ReadsRest format whole from (length now.part) passed After r in
    whole_few left faults format front from source next whole is_whole (length now.part) passed After c.in-Err.stop (subst Rest c.in-Err.is told) c.requires.mark

pub returns-then-branch-clause-read : goal.returns-then-branch-clause-read
returns-then-branch-clause-read g c =
    let table = g.R.LineReader.table in
    let format = table_format (table (g.R.LineReader.context c.args.reader.now)) in
    let left = g.S.Source.left in
    let faults = g.S.Source.faults in
    let front = c.args.front.items in
    let from = c.args.from in
    let source = c.args.source.now in
    let before = c.lines.invariant in
    let passed = c.lines.passed in
    let missing = c.lines.missing in
    let Before = g.R.LineReader.holds c.lines.reader in
    let block = c.in_ok-read_block.ensures.read in
    let next = c.read_block.new.source in
    let kept = c.read_block.new.kept.items in
    let came = c.read_block.new.came in
    let now = block_came left faults format front from source c.lines.source Before c.lines.text.items c.lines.came passed missing before.so_far next came block.0 kept block.1 block.2 in
    let After = g.R.LineReader.holds c.read_last_lines.new.reader in
    let whole = now.part ++ kept in
    let Told : _ → Type 0 = λ x. ReadsRest (table_format (table x)) whole from (length now.part) passed After c.read_last_lines.result in
    let told : ReadsRest format whole from (length now.part) passed After c.read_last_lines.result =
    told_behind table before.context Told now.part kept c.deref.result.now from c.start.result passed Before missing now.so_far c.deref.ensures.value c.start.ensures.value
    (λ items is within progress held missing_is. c.read_last_lines.ensures.read whole (length now.part) passed from items is within progress held missing_is)
    in
    let Ends : Bool → Type 0 = λ b. EndsOrCame b (left next) block.0 in
    let is_whole = whole_came left faults format front from source next Before kept came passed missing now (subst Ends c.if-branch.true block.3) in
    let Rest : _ → Type 0 = λ r. ReadsRest format whole from (length now.part) passed After r in
    let IsReadAs : List ℕ → Unit {0} → Type 0 = λ text _. (to : Mark) × ReadsInto format text from After to in
    let Answers : _ → Type 0 = λ r. ReadsInBlocks left faults format front from IsReadAs source next r in
    elim c.match-read_last_lines.branch [
      | in-Ok w ↦ subst Answers (sym w.result-is) ((whole, is_whole, (moved (length now.part) passed w.in-Ok.field-0, subst Rest w.in-Ok.is told)), now.later)
      | in-Err w ↦
          let stops = whole_stops left faults format front from source next whole is_whole (length now.part) passed After w.in-Err.stop (subst Rest w.in-Err.is told) IsReadAs now.later in
          let Stops : _ → Type 0 = λ s. Answers (Err s) in
          subst Answers (sym w.result-is) (subst Stops (sym (w.into.ensures ∙ ap stop_of_text w.stop_after.ensures)) stops)
    ]

pub returns-then-branch-clause-context : goal.returns-then-branch-clause-context
returns-then-branch-clause-context g c =
    c.read_last_lines.ensures.context ∙ c.lines.invariant.context

pub read_lines-requires-clause-held : goal.read_lines-requires-clause-held
read_lines-requires-clause-held g c =
    let so_far = c.lines.invariant.so_far.so_far in
    (so_far.items, so_far.held)

pub read_lines-requires-clause-short : goal.read_lines-requires-clause-short
read_lines-requires-clause-short g c =
    let table = g.R.LineReader.table in
    let format = table_format (table (g.R.LineReader.context c.args.reader.now)) in
    let left = g.S.Source.left in
    let faults = g.S.Source.faults in
    let front = c.args.front.items in
    let from = c.args.from in
    let source = c.args.source.now in
    let before = c.lines.invariant in
    let passed = c.lines.passed in
    let missing = c.lines.missing in
    let Before = g.R.LineReader.holds c.lines.reader in
    let block = c.in_ok-read_block.ensures.read in
    let next = c.read_block.new.source in
    let kept = c.read_block.new.kept.items in
    let came = c.read_block.new.came in
    let now = block_came left faults format front from source c.lines.source Before c.lines.text.items c.lines.came passed missing before.so_far next came block.0 kept block.1 block.2 in
    let count = c.whole_lines-count.result in
    let size : length c.deref-in-lines-2.result.now ≡ length kept = ap length c.deref-in-lines-2.ensures.value in
    let cut = length-take count c.deref-in-lines-2.result.now in
    omega (arith, size, cut, now.count, now.short)

pub overflow_sub-passed-in-Ok-Left : goal.overflow_sub-passed-in-Ok-Left
overflow_sub-passed-in-Ok-Left g c =
    let end = c.in-Ok-Left.end in
    some_line (take c.whole_lines-count.result c.deref-in-lines-2.result.now) end (c.in-Ok-Left.ensures.end end c.in-Ok-Left.next (ap (λ s. Ok s) c.in-Ok-Left.field-0-is))

pub overflow_add-passed : goal.overflow_add-passed
overflow_add-passed g c =
    let table = g.R.LineReader.table in
    let format = table_format (table (g.R.LineReader.context c.args.reader.now)) in
    let left = g.S.Source.left in
    let faults = g.S.Source.faults in
    let front = c.args.front.items in
    let from = c.args.from in
    let source = c.args.source.now in
    let before = c.lines.invariant in
    let passed = c.lines.passed in
    let missing = c.lines.missing in
    let Before = g.R.LineReader.holds c.lines.reader in
    let block = c.in_ok-read_block.ensures.read in
    let next = c.read_block.new.source in
    let kept = c.read_block.new.kept.items in
    let came = c.read_block.new.came in
    let now = block_came left faults format front from source c.lines.source Before c.lines.text.items c.lines.came passed missing before.so_far next came block.0 kept block.1 block.2 in
    let After = g.R.LineReader.holds c.read_lines.new.reader in
    let count = c.whole_lines-count.result in
    let cut = take count kept in
    let part = now.part in
    let Told : _ → Type 0 = λ x. IsStretch (table_format (table x)) (part ++ cut) from (length part) passed After (Ok c.in-Ok-Left.field-0) in
    let told =
    told_behind table before.context Told part cut (take count c.deref-in-lines-2.result.now) from c.start-in-lines.result passed Before missing now.so_far (ap (take count) c.deref-in-lines-2.ensures.value) c.start-in-lines.ensures.value
    (λ items is within progress held missing_is. c.in-Ok-Left.ensures.read (part ++ cut) (length part) passed from items is within progress held missing_is)
    in
    let Stretches : Stretch → Type 0 = λ s. IsStretch format (part ++ cut) from (length part) passed After (Ok s) in
    let end = c.in-Ok-Left.end in
    let Marked : List ℕ → Type 0 = λ text. IsMark text end in
    let mark = subst Marked (ap (take count) c.deref-in-lines-2.ensures.value) (c.in-Ok-Left.ensures.end end c.in-Ok-Left.next (ap (λ s. Ok s) c.in-Ok-Left.field-0-is)) in
    let few : count ≤ length kept = subst (λ l. count ≤ length l) c.deref-in-lines.ensures.value c.whole_lines-count.ensures.within in
    let after = lines_taken left faults format front from source next Before kept came passed missing now count After end c.in-Ok-Left.next few mark (some_line cut end mark) (subst Stretches c.in-Ok-Left.field-0-is told) in
    omega (arith, after.few, after.count, after.short)

pub lines-smaller : goal.lines-smaller
lines-smaller g c =
    let block = c.in_ok-read_block.ensures.read in
    let Ends : Bool → Type 0 = λ b. EndsOrCame b (g.S.Source.left c.read_block.new.source) block.0 in
    let some : 0 < length block.0 = subst Ends c.if-branch.false block.3 in
    omega (arith, some, block.1.count, block.1.short)

pub lines-preserved : goal.lines-preserved
lines-preserved g c =
    let table = g.R.LineReader.table in
    let format = table_format (table (g.R.LineReader.context c.args.reader.now)) in
    let left = g.S.Source.left in
    let faults = g.S.Source.faults in
    let front = c.args.front.items in
    let from = c.args.from in
    let source = c.args.source.now in
    let before = c.lines.invariant in
    let passed = c.lines.passed in
    let missing = c.lines.missing in
    let Before = g.R.LineReader.holds c.lines.reader in
    let block = c.in_ok-read_block.ensures.read in
    let next = c.read_block.new.source in
    let kept = c.read_block.new.kept.items in
    let came = c.read_block.new.came in
    let now = block_came left faults format front from source c.lines.source Before c.lines.text.items c.lines.came passed missing before.so_far next came block.0 kept block.1 block.2 in
    let After = g.R.LineReader.holds c.read_lines.new.reader in
    let count = c.whole_lines-count.result in
    let cut = take count kept in
    let part = now.part in
    let Told : _ → Type 0 = λ x. IsStretch (table_format (table x)) (part ++ cut) from (length part) passed After (Ok c.in-Ok-Left.field-0) in
    let told =
    told_behind table before.context Told part cut (take count c.deref-in-lines-2.result.now) from c.start-in-lines.result passed Before missing now.so_far (ap (take count) c.deref-in-lines-2.ensures.value) c.start-in-lines.ensures.value
    (λ items is within progress held missing_is. c.in-Ok-Left.ensures.read (part ++ cut) (length part) passed from items is within progress held missing_is)
    in
    let Stretches : Stretch → Type 0 = λ s. IsStretch format (part ++ cut) from (length part) passed After (Ok s) in
    let end = c.in-Ok-Left.end in
    let Marked : List ℕ → Type 0 = λ text. IsMark text end in
    let mark = subst Marked (ap (take count) c.deref-in-lines-2.ensures.value) (c.in-Ok-Left.ensures.end end c.in-Ok-Left.next (ap (λ s. Ok s) c.in-Ok-Left.field-0-is)) in
    let few : count ≤ length kept = subst (λ l. count ≤ length l) c.deref-in-lines.ensures.value c.whole_lines-count.ensures.within in
    let after = lines_taken left faults format front from source next Before kept came passed missing now count After end c.in-Ok-Left.next few mark (some_line cut end mark) (subst Stretches c.in-Ok-Left.field-0-is told) in
    let Kept : List ℕ → Type 0 = λ l. CameSoFar left faults format front from source next After l came (passed + (end.line - 1)) c.in-Ok-Left.next in
    record { context = c.read_lines.ensures.context ∙ before.context; so_far = subst Kept (sym c.drop_front-in-Ok-Left.ensures) after }

pub returns-in_err-pass_rest-in-Ok-Ended-clause-read : goal.returns-in_err-pass_rest-in-Ok-Ended-clause-read
returns-in_err-pass_rest-in-Ok-Ended-clause-read g c =
    let table = g.R.LineReader.table in
    let format = table_format (table (g.R.LineReader.context c.args.reader.now)) in
    let left = g.S.Source.left in
    let faults = g.S.Source.faults in
    let front = c.args.front.items in
    let from = c.args.from in
    let source = c.args.source.now in
    let before = c.lines.invariant in
    let passed = c.lines.passed in
    let missing = c.lines.missing in
    let Before = g.R.LineReader.holds c.lines.reader in
    let block = c.in_ok-read_block.ensures.read in
    let next = c.read_block.new.source in
    let kept = c.read_block.new.kept.items in
    let came = c.read_block.new.came in
    let now = block_came left faults format front from source c.lines.source Before c.lines.text.items c.lines.came passed missing before.so_far next came block.0 kept block.1 block.2 in
    let IsReadAs : List ℕ → Unit {0} → Type 0 = λ whole _. (to : Mark) × ReadsInto format whole from (g.R.LineReader.holds c.read_lines.new.reader) to in
    let p = err_from_is_err_and c.from_residual-in_err-pass_rest-in-Ok-Ended.result c.from_residual-in_err-pass_rest-in-Ok-Ended.ensures.1 in
    rw (p.1, p.2) (stops_coming left faults format front from source next Before kept came passed missing now IsReadAs c.pass_rest.new.source c.in_err-pass_rest-in-Ok-Ended.field-0.0 c.in_err-pass_rest-in-Ok-Ended.ensures.read)

pub returns-in_err-pass_rest-in-Ok-Ended-clause-context : goal.returns-in_err-pass_rest-in-Ok-Ended-clause-context
returns-in_err-pass_rest-in-Ok-Ended-clause-context g c =
    c.read_lines.ensures.context ∙ c.lines.invariant.context

pub returns-in-Ok-Ended-clause-read : goal.returns-in-Ok-Ended-clause-read
returns-in-Ok-Ended-clause-read g c =
    let table = g.R.LineReader.table in
    let format = table_format (table (g.R.LineReader.context c.args.reader.now)) in
    let left = g.S.Source.left in
    let faults = g.S.Source.faults in
    let front = c.args.front.items in
    let from = c.args.from in
    let source = c.args.source.now in
    let before = c.lines.invariant in
    let passed = c.lines.passed in
    let missing = c.lines.missing in
    let Before = g.R.LineReader.holds c.lines.reader in
    let block = c.in_ok-read_block.ensures.read in
    let next = c.read_block.new.source in
    let kept = c.read_block.new.kept.items in
    let came = c.read_block.new.came in
    let now = block_came left faults format front from source c.lines.source Before c.lines.text.items c.lines.came passed missing before.so_far next came block.0 kept block.1 block.2 in
    let After = g.R.LineReader.holds c.read_lines.new.reader in
    let count = c.whole_lines-count.result in
    let cut = take count kept in
    let part = now.part in
    let Told : _ → Type 0 = λ x. IsStretch (table_format (table x)) (part ++ cut) from (length part) passed After (Ok c.in-Ok-Ended.field-0) in
    let told =
    told_behind table before.context Told part cut (take count c.deref-in-lines-2.result.now) from c.start-in-lines.result passed Before missing now.so_far (ap (take count) c.deref-in-lines-2.ensures.value) c.start-in-lines.ensures.value
    (λ items is within progress held missing_is. c.in-Ok-Ended.ensures.read (part ++ cut) (length part) passed from items is within progress held missing_is)
    in
    let Stretches : Stretch → Type 0 = λ s. IsStretch format (part ++ cut) from (length part) passed After (Ok s) in
    let rest = c.in_ok-pass_rest-in-Ok-Ended.ensures.read in
    let to = moved (length part) passed c.in-Ok-Ended.field-0-0 in
    let is_whole = rest_came left faults format front from source next Before kept came passed missing now c.pass_rest.new.source rest.0 rest.1 rest.2 in
    (((part ++ kept) ++ rest.0, is_whole.0, (to, whole_ends left faults format front from source next Before kept came passed missing now count rest.0 After to (subst Stretches c.in-Ok-Ended.field-0-is told))), is_whole.1)

pub returns-in-Ok-Ended-clause-context : goal.returns-in-Ok-Ended-clause-context
returns-in-Ok-Ended-clause-context g c =
    c.read_lines.ensures.context ∙ c.lines.invariant.context

pub returns-in_err-pass_rest-in-Err-read_lines-clause-read : goal.returns-in_err-pass_rest-in-Err-read_lines-clause-read
returns-in_err-pass_rest-in-Err-read_lines-clause-read g c =
    let table = g.R.LineReader.table in
    let format = table_format (table (g.R.LineReader.context c.args.reader.now)) in
    let left = g.S.Source.left in
    let faults = g.S.Source.faults in
    let front = c.args.front.items in
    let from = c.args.from in
    let source = c.args.source.now in
    let before = c.lines.invariant in
    let passed = c.lines.passed in
    let missing = c.lines.missing in
    let Before = g.R.LineReader.holds c.lines.reader in
    let block = c.in_ok-read_block.ensures.read in
    let next = c.read_block.new.source in
    let kept = c.read_block.new.kept.items in
    let came = c.read_block.new.came in
    let now = block_came left faults format front from source c.lines.source Before c.lines.text.items c.lines.came passed missing before.so_far next came block.0 kept block.1 block.2 in
    let IsReadAs : List ℕ → Unit {0} → Type 0 = λ whole _. (to : Mark) × ReadsInto format whole from (g.R.LineReader.holds c.read_lines.new.reader) to in
    let p = err_from_is_err_and c.from_residual-in_err-pass_rest-in-Err-read_lines.result c.from_residual-in_err-pass_rest-in-Err-read_lines.ensures.1 in
    rw (p.1, p.2) (stops_coming left faults format front from source next Before kept came passed missing now IsReadAs c.pass_rest-in-Err-read_lines.new.source c.in_err-pass_rest-in-Err-read_lines.field-0.0 c.in_err-pass_rest-in-Err-read_lines.ensures.read)

pub returns-in_err-pass_rest-in-Err-read_lines-clause-context : goal.returns-in_err-pass_rest-in-Err-read_lines-clause-context
returns-in_err-pass_rest-in-Err-read_lines-clause-context g c =
    c.read_lines.ensures.context ∙ c.lines.invariant.context

pub stop_after-requires-in-Err-read_lines : goal.stop_after-requires-in-Err-read_lines
stop_after-requires-in-Err-read_lines g c =
    let table = g.R.LineReader.table in
    let format = table_format (table (g.R.LineReader.context c.args.reader.now)) in
    let left = g.S.Source.left in
    let faults = g.S.Source.faults in
    let front = c.args.front.items in
    let from = c.args.from in
    let source = c.args.source.now in
    let before = c.lines.invariant in
    let passed = c.lines.passed in
    let missing = c.lines.missing in
    let Before = g.R.LineReader.holds c.lines.reader in
    let block = c.in_ok-read_block.ensures.read in
    let next = c.read_block.new.source in
    let kept = c.read_block.new.kept.items in
    let came = c.read_block.new.came in
    let now = block_came left faults format front from source c.lines.source Before c.lines.text.items c.lines.came passed missing before.so_far next came block.0 kept block.1 block.2 in
    let After = g.R.LineReader.holds c.read_lines.new.reader in
    let count = c.whole_lines-count.result in
    let cut = take count kept in
    let part = now.part in
    let Told : _ → Type 0 = λ x. IsStretch (table_format (table x)) (part ++ cut) from (length part) passed After (Err c.in-Err-read_lines.stop) in
    let told =
    told_behind table before.context Told part cut (take count c.deref-in-lines-2.result.now) from c.start-in-lines.result passed Before missing now.so_far (ap (take count) c.deref-in-lines-2.ensures.value) c.start-in-lines.ensures.value
    (λ items is within progress held missing_is. c.in-Err-read_lines.ensures.read (part ++ cut) (length part) passed from items is within progress held missing_is)
    in
    let rest = c.in_ok-pass_rest-in-Err-read_lines.ensures.read in
    let last = c.pass_rest-in-Err-read_lines.new.source in
    let is_whole = rest_came left faults format front from source next Before kept came passed missing now last rest.0 rest.1 rest.2 in
    let Ended : List ℕ → Type 0 = λ text. IsEnded (take count text) in
    let ended = subst Ended c.deref-in-lines.ensures.value c.whole_lines-count.ensures.ended in
    let whole = (part ++ kept) ++ rest.0 in
    let fails = whole_fails left faults format front from source next Before kept came passed missing now count rest.0 After ended c.in-Err-read_lines.stop told in
    whole_few left faults format front from source last whole is_whole.0 (length part) passed After c.in-Err-read_lines.stop fails c.requires.mark

pub returns-in-Err-read_lines-clause-read : goal.returns-in-Err-read_lines-clause-read
returns-in-Err-read_lines-clause-read g c =
    let table = g.R.LineReader.table in
    let format = table_format (table (g.R.LineReader.context c.args.reader.now)) in
    let left = g.S.Source.left in
    let faults = g.S.Source.faults in
    let front = c.args.front.items in
    let from = c.args.from in
    let source = c.args.source.now in
    let before = c.lines.invariant in
    let passed = c.lines.passed in
    let missing = c.lines.missing in
    let Before = g.R.LineReader.holds c.lines.reader in
    let block = c.in_ok-read_block.ensures.read in
    let next = c.read_block.new.source in
    let kept = c.read_block.new.kept.items in
    let came = c.read_block.new.came in
    let now = block_came left faults format front from source c.lines.source Before c.lines.text.items c.lines.came passed missing before.so_far next came block.0 kept block.1 block.2 in
    let After = g.R.LineReader.holds c.read_lines.new.reader in
    let count = c.whole_lines-count.result in
    let cut = take count kept in
    let part = now.part in
    let Told : _ → Type 0 = λ x. IsStretch (table_format (table x)) (part ++ cut) from (length part) passed After (Err c.in-Err-read_lines.stop) in
    let told =
    told_behind table before.context Told part cut (take count c.deref-in-lines-2.result.now) from c.start-in-lines.result passed Before missing now.so_far (ap (take count) c.deref-in-lines-2.ensures.value) c.start-in-lines.ensures.value
    (λ items is within progress held missing_is. c.in-Err-read_lines.ensures.read (part ++ cut) (length part) passed from items is within progress held missing_is)
    in
    let rest = c.in_ok-pass_rest-in-Err-read_lines.ensures.read in
    let last = c.pass_rest-in-Err-read_lines.new.source in
    let is_whole = rest_came left faults format front from source next Before kept came passed missing now last rest.0 rest.1 rest.2 in
    let Ended : List ℕ → Type 0 = λ text. IsEnded (take count text) in
    let ended = subst Ended c.deref-in-lines.ensures.value c.whole_lines-count.ensures.ended in
    let whole = (part ++ kept) ++ rest.0 in
    let fails = whole_fails left faults format front from source next Before kept came passed missing now count rest.0 After ended c.in-Err-read_lines.stop told in
    let IsReadAs : List ℕ → Unit {0} → Type 0 = λ text _. (to : Mark) × ReadsInto format text from After to in
    let stops = whole_stops left faults format front from source last whole is_whole.0 (length part) passed After c.in-Err-read_lines.stop fails IsReadAs is_whole.1 in
    let Stops : _ → Type 0 = λ s. ReadsInBlocks left faults format front from IsReadAs source last (Err s) in
    subst Stops (sym (c.into-in-Err-read_lines.ensures ∙ ap stop_of_text c.stop_after-in-Err-read_lines.ensures)) stops

pub returns-in-Err-read_lines-clause-context : goal.returns-in-Err-read_lines-clause-context
returns-in-Err-read_lines-clause-context g c =
    c.read_lines.ensures.context ∙ c.lines.invariant.context
