use Rattle.std.proofs.Common.{◌≡◌, ◌<◌, ℕ, [], List, get_or, ◌∙◌, ap, sym, subst}
use Rattle.atam.specs.declared.area.BoxArea.{BoxArea}
use Rattle.atam.specs.declared.place.Place.{Place}
use Rattle.atam.specs.TileSystem.{TileSystem, IsValid}
use Rattle.assembly.specs.Cells.{cell_count, site_at}
use Rattle.replay_order.specs.Inner.Replays.{Waiting, IsInSpan, due_at, AreLacks, AreReadySites}
use Rattle.replay_order.specs.Inner.Spans.{standing}
use Rattle.replay_order.proofs.ReadySites.{all_lack, none_ready}
use Rattle.replay_order.proofs.canonical.list_span.Goals as goal

-- each tile of the span lacks all at first
lacks_first : (sys : TileSystem) (tiles seeds : List Place) (tau : ℕ) (area : BoxArea) (w : Waiting) → area ≡ sys.area → w.area ≡ area → seeds ≡ sys.seeds → tau ≡ sys.tau →
    ((i : ℕ) → IsInSpan w i → get_or w.lacks i 0 ≡ due_at seeds tau (site_at area i)) → ((i : ℕ) → i < cell_count area → ¬ IsInSpan w i → get_or w.lacks i 0 ≡ 0) → AreLacks sys tiles [] w
lacks_first sys tiles seeds tau area w same own same_seeds same_tau due others =
    let Due : BoxArea → List Place → ℕ → Type 0 = λ a l t. (i : ℕ) → IsInSpan w i → get_or w.lacks i 0 ≡ due_at l t (site_at a i) in
    let Others : BoxArea → Type 0 = λ a. (i : ℕ) → i < cell_count a → ¬ IsInSpan w i → get_or w.lacks i 0 ≡ 0 in
    all_lack sys tiles w (own ∙ same)
    (subst (λ t. Due sys.area sys.seeds t) same_tau (subst (λ l. Due sys.area l tau) same_seeds (subst (λ a. Due a seeds tau) same due)))
    (subst Others same others)

pub stand_seeds-requires-clause-lacks : goal.stand_seeds-requires-clause-lacks
stand_seeds-requires-clause-lacks c =
    let w = c.in_ok-waiting in
    lacks_first c.args.bonds.now c.args.grid.now.tiles c.seeds.result.now c.tau.result c.area-area.result w.waiting (c.area-area.ensures.area ∙ c.requires.area) w.ensures.area
    (c.seeds.ensures.seeds ∙ ap (λ s. s.seeds) c.system-sys.ensures) (c.tau.ensures.tau ∙ ap (λ s. s.tau) c.system-sys.ensures) w.ensures.lacks w.ensures.others

pub stand_seeds-requires-clause-ready : goal.stand_seeds-requires-clause-ready
stand_seeds-requires-clause-ready c =
    none_ready c.args.bonds.now c.args.grid.now.tiles c.in_ok-waiting.waiting (subst IsValid c.system-sys.ensures c.tau.ensures.valid).some_tau c.in_ok-waiting.ensures.empty

-- by the number from which on the sites wait
same_number : (n first made began : ℕ) → began ≡ made → made ≡ first → n ≡ began → n ≡ first
same_number n first made began begins makes is = is ∙ begins ∙ makes

pub list_ready-requires-clause-lacks : goal.list_ready-requires-clause-lacks
list_ready-requires-clause-lacks c =
    let sys = c.args.bonds.now in
    let tiles = c.args.grid.now.tiles in
    let u = c.stand_row_below.new.waiting in
    let same = same_number u.first c.args.first c.in_ok-waiting.waiting.first c.stand_seeds.new.waiting.first c.stand_seeds.ensures.span.0 c.in_ok-waiting.ensures.span.0 c.stand_row_below.ensures.span.0 in
    subst (λ (n : ℕ). AreLacks sys tiles (standing sys tiles n) u) (sym same) c.stand_row_below.ensures.lacks

pub list_ready-requires-clause-ready : goal.list_ready-requires-clause-ready
list_ready-requires-clause-ready c =
    let sys = c.args.bonds.now in
    let tiles = c.args.grid.now.tiles in
    let u = c.stand_row_below.new.waiting in
    let same = same_number u.first c.args.first c.in_ok-waiting.waiting.first c.stand_seeds.new.waiting.first c.stand_seeds.ensures.span.0 c.in_ok-waiting.ensures.span.0 c.stand_row_below.ensures.span.0 in
    subst (λ (n : ℕ). AreReadySites sys tiles (standing sys tiles n) u) (sym same) c.stand_row_below.ensures.ready
