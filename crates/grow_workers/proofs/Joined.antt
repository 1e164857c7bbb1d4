-- Seats that were parted off one by one, and what is joined of them.
use Rattle.std.proofs.Common.{◌≡◌, ◌<◌, ◌+◌, ◌^◌, ℕ, Bool, true, false, if◌then◌else◌, List, [], ◌∷◌, ◌++◌, length, length-append, take, drop, get_or, All, Option, Some, None, Result, Ok, Err, IfOk, refl, sym, ◌∙◌, ap, subst, arith}
use Rattle.std.proofs.Math.Seq.{get_or-append_seam, take-append_seam}
use Rattle.std.specs.Option.{option_to_list}
use Rattle.std.proofs.lemmas.List.{get_or-take, get_or_default, take-append-drop, take-append-le, take_more}
use Rattle.std.proofs.lemmas.List.Elements.{All-get_or, All-take}
use Rattle.atam.specs.TileSystem.{TileSystem}
use Rattle.atam.specs.Placements.{SamePlacements}
use Rattle.atam.specs.Growth.{IsClosedInBox}
use Rattle.atam.proofs.Tiles.{same_back, SamePlacements-trans}
use Rattle.assembly.specs.Grids.{TileGrid}
use Rattle.tile_system.specs.declared.memory.NoMemory.{NoMemory}
use Rattle.site_table.specs.Seats.{IsSeatOf, SeatValue, TableValue}
use Rattle.grow_workers.specs.declared.leavings.Harvest.{Harvest}
use Rattle.grow_workers.specs.declared.leavings.Part.{Part}
use Rattle.grow_workers.specs.declared.shared.Shared.{Shared}
use Rattle.grow_workers.specs.declared.starts.Start.{Start}
use Rattle.grow_workers.specs.Inner.Sharing.{AreStartsOf, ArePartedOff, AreWorksOf, BeginsAt, HasSeen, IsSeenPart, IsWorkOf, TeamGrew, start_grid}
use Rattle.grow_workers.specs.Inner.Wins.{IsParted, PartedGrowth}
use Rattle.grow_workers.specs.Workers.{GrewOn}
use Rattle.grow_workers.proofs.Numbering.{workers_win}

-- what grew from a seat's start is of its table
pub seen_on : {G : Type 0} (shared : Shared G) (old new : SeatValue) (start grid : TileGrid) (first : ℕ) (others : List ℕ) → IsSeatOf shared.table.now old → PartedGrowth shared.sys.now old start new grid first others → HasSeen shared new grid
seen_on shared old new start grid first others is grew = record {
  at_table = record { table = grew.seat.table ∙ is.table; sys = grew.seat.sys ∙ is.sys };
  area = grew.area;
  seen = grew.seen;
}

-- what is left of a seat is of its table
parted_seat : (t : TableValue) (old kept : SeatValue) (starts : List Start) → IsSeatOf t old → ArePartedOff old starts kept → IsSeatOf t kept
parted_seat t old kept [] is parted = subst (IsSeatOf t) parted is
parted_seat t old kept (start ∷ starts) is parted =
    let p = parted.1 in
    parted_seat t parted.0 kept starts (record { table = p.table ∙ is.table; sys = p.system ∙ is.sys }) parted.2

-- one worker more is parted off
pub parted_more : (old mid kept : SeatValue) (starts : List Start) (start : Start) → ArePartedOff old starts mid → IsParted mid kept start.seat → ArePartedOff old (starts ++ start ∷ []) kept
parted_more old mid kept [] start same parted = (kept, subst (λ (s : SeatValue). IsParted s kept start.seat) (sym same) parted, refl)
parted_more old mid kept (one ∷ starts) start before parted = (before.0, before.1, parted_more before.0 mid kept starts start before.2 parted)

-- and the last one of them
parted_last : (old kept : SeatValue) (starts : List Start) (start : Start) → ArePartedOff old (starts ++ start ∷ []) kept → (mid : SeatValue) × ArePartedOff old starts mid × IsParted mid kept start.seat
parted_last old kept [] start parted = (old, refl, subst (λ (s : SeatValue). IsParted old s start.seat) parted.2 parted.1)
parted_last old kept (one ∷ starts) start parted =
    let rest = parted_last parted.0 kept starts start parted.2 in
    (rest.0, (parted.0, parted.1, rest.1), rest.2)

-- no worker is parted off
pub parted_none : (old : SeatValue) → ArePartedOff old [] old
parted_none old = refl

-- what worker 0 and the workers from one on leave, joined, is what grew from the seat that was left for them
pub record IsJoined {G : Type 0} (shared : Shared G) (old : SeatValue) (grid : TileGrid) (starts : List Start) (k : ℕ) (new : SeatValue) (out : TileGrid) (first : ℕ) (others : List ℕ) : Type 0 where
  pub mid : SeatValue
  pub parted : ArePartedOff old (take k starts) mid
  pub grew : PartedGrowth shared.sys.now mid grid new out first others

-- what grew from a grid grew from another one with the same tiles
pub grew_from : (sys : TileSystem) (old new : SeatValue) (start other grid : TileGrid) (first : ℕ) (others : List ℕ) → SamePlacements start.tiles other.tiles → PartedGrowth sys old other new grid first others → PartedGrowth sys old start new grid first others
grew_from sys old new start other grid first others same grew = record {
  seat = grew.seat;
  area = grew.area;
  seen = grew.seen;
  kept = λ p c. grew.kept p (same.part p c);
  first_wins = grew.first_wins;
  others_win = grew.others_win;
}

-- what a seat has seen is in another grid with the same tiles
pub seen_in : {G : Type 0} (shared : Shared G) (seat : SeatValue) (start grid : TileGrid) → grid.area ≡ shared.sys.now.area → SamePlacements start.tiles grid.tiles → HasSeen shared seat start → HasSeen shared seat grid
seen_in shared seat start grid area same seen = record { at_table = seen.at_table; area = area; seen = SamePlacements-trans seat.scout.seen start.tiles grid.tiles seen.seen same }

-- and growth that begins there begins in it
pub begins_in : {G : Type 0} (shared : Shared G) (start grid : TileGrid) → SamePlacements start.tiles grid.tiles → BeginsAt shared start → BeginsAt shared grid
begins_in shared start grid same begins = λ is. SamePlacements-trans shared.sys.now.seeds start.tiles grid.tiles (begins is) same

-- a worker's part, if there is one, by the grid that it made
pub work_of : {G : Type 0} (shared : Shared G) (start : Start) (grid : TileGrid) (r : Result Part NoMemory) → SamePlacements (start_grid shared.sys.now start.seen).tiles grid.tiles → IfOk r (IsSeenPart shared) →
    IfOk r (λ part. PartedGrowth shared.sys.now start.seat grid part.seat part.grid part.won []) → IfOk r (IsWorkOf shared start)
work_of shared start grid (Ok part) same left grew = record { left = left; grew = grew_from shared.sys.now start.seat part.seat (start_grid shared.sys.now start.seen) grid part.grid part.won [] same grew }
work_of shared start grid (Err e) same left grew = tt

-- the grid of another worker has the tiles that were seen
pub given_grid : (sys : TileSystem) (seen : TileGrid) (are_seeds : Bool) (given : Option TileGrid) → seen.area ≡ sys.area → (are_seeds ≡ true → SamePlacements sys.seeds seen.tiles) → given ≡ (if are_seeds then None else Some seen) →
    ((start_grid sys given).area ≡ sys.area) × SamePlacements seen.tiles (start_grid sys given).tiles
given_grid sys seen true given area seeds is =
    subst (λ (g : Option TileGrid). ((start_grid sys g).area ≡ sys.area) × SamePlacements seen.tiles (start_grid sys g).tiles) (sym is) (refl, same_back sys.seeds seen.tiles (seeds refl))
given_grid sys seen false given area seeds is =
    subst (λ (g : Option TileGrid). ((start_grid sys g).area ≡ sys.area) × SamePlacements seen.tiles (start_grid sys g).tiles) (sym is) (area, record { part = λ p c. c; whole = λ p c. c })

-- a worker's part, with the tiles that all began with
part_grew : {G : Type 0} (shared : Shared G) (grid : TileGrid) (starts : List Start) (done : List (Result Part NoMemory)) (i : ℕ) (start : Start) (part : Part) → All (λ (s : Start). SamePlacements grid.tiles (start_grid shared.sys.now s.seen).tiles) starts → AreWorksOf shared starts done →
    i < length starts → get_or starts i start ≡ start → get_or done i (Ok part) ≡ Ok part → PartedGrowth shared.sys.now start.seat grid part.seat part.grid part.won []
part_grew {G} shared grid starts done i start part grids works within here is =
    let work : IsWorkOf shared start part =
    subst (λ (r : Result Part NoMemory). IfOk r (IsWorkOf shared start)) is (subst (λ (s : Start). IfOk (get_or done i (Ok part)) (IsWorkOf shared s)) here (works.each i start (Ok part) within)) in
    let Same : Start → Type 0 = λ s. SamePlacements grid.tiles (start_grid shared.sys.now s.seen).tiles in
    let same : Same start = subst Same here (All-get_or Same starts i start within grids) in
    grew_from shared.sys.now start.seat part.seat grid (start_grid shared.sys.now start.seen) part.grid part.won [] same work.grew

-- worker 0 comes first
pub joined_first : {G : Type 0} (shared : Shared G) (old : SeatValue) (grid : TileGrid) (starts : List Start) (done left : List (Result Part NoMemory)) (part : Part) → done ≡ left ++ Ok part ∷ [] → AreStartsOf shared.sys.now old grid starts → AreWorksOf shared starts done →
    IsJoined shared old grid starts (length left) part.seat part.grid part.won []
joined_first {G} shared old grid starts done left part last are works =
    let k = length left in
    let counted : length done ≡ k + 1 = ap length last ∙ length-append left (Ok part ∷ []) in
    let all : length starts ≡ length are.others + 1 = ap length are.all ∙ length-append are.others (are.first ∷ []) in
    let count = works.count in
    let many : length are.others ≡ k = omega (arith, counted, all, count) in
    let within : k < length starts = omega (arith, counted, count) in
    let here : get_or starts k are.first ≡ are.first =
    subst (λ (n : ℕ). get_or starts n are.first ≡ are.first) many (subst (λ (l : List Start). get_or l (length are.others) are.first ≡ are.first) (sym are.all) (get_or-append_seam are.others are.first [] are.first)) in
    let is : get_or done k (Ok part) ≡ Ok part = subst (λ (l : List (Result Part NoMemory)). get_or l k (Ok part) ≡ Ok part) (sym last) (get_or-append_seam left (Ok part) [] (Ok part)) in
    let before : take k starts ≡ are.others =
    subst (λ (n : ℕ). take n starts ≡ are.others) many (subst (λ (l : List Start). take (length are.others) l ≡ are.others) (sym are.all) (take-append_seam are.others (are.first ∷ []))) in
    record {
      mid = are.first.seat;
      parted = subst (λ (l : List Start). ArePartedOff old l are.first.seat) (sym before) are.parted;
      grew = part_grew shared grid starts done k are.first part are.grids works within here is;
    }

-- and one worker more
pub joined_more : {G : Type 0} (shared : Shared G) (old : SeatValue) (grid : TileGrid) (starts : List Start) (done left : List (Result Part NoMemory)) (part : Part) (new all_new : SeatValue) (out all_out : TileGrid) (first all_first : ℕ) (others all_others : List ℕ) →
    left ++ Ok part ∷ [] ≡ take (length left + 1) done → length left < length done → IsSeatOf shared.table.now old → AreStartsOf shared.sys.now old grid starts → AreWorksOf shared starts done →
    ((old kept given : SeatValue) (start : TileGrid) → IsSeatOf shared.table.now old → IsParted old kept given → PartedGrowth shared.sys.now kept start new out first others → PartedGrowth shared.sys.now given start part.seat part.grid part.won [] →
    PartedGrowth shared.sys.now old start all_new all_out all_first all_others) →
    IsJoined shared old grid starts (length left + 1) new out first others → IsJoined shared old grid starts (length left) all_new all_out all_first all_others
joined_more {G} shared old grid starts done left part new all_new out all_out first all_first others all_others last short is_seat are works united joined =
    let k = length left in
    let count = works.count in
    let within : k < length starts = omega (arith, short, count) in
    let d : Start = are.first in
    let start : Start = get_or starts k d in
    let longer : take (k + 1) starts ≡ take k starts ++ start ∷ [] = take_more starts k d within in
    let parted = parted_last old joined.mid (take k starts) start (subst (λ (l : List Start). ArePartedOff old l joined.mid) longer joined.parted) in
    let of_table : IsSeatOf shared.table.now parted.0 = parted_seat shared.table.now old parted.0 (take k starts) is_seat parted.1 in
    let here : get_or starts k start ≡ start = get_or_default starts k start d within in
    let both : left ++ Ok part ∷ [] ≡ take k done ++ get_or done k (Ok part) ∷ [] = last ∙ take_more done k (Ok part) short in
    let at : get_or (left ++ Ok part ∷ []) k (Ok part) ≡ Ok part = get_or-append_seam left (Ok part) [] (Ok part) in
    let is : get_or done k (Ok part) ≡ Ok part = sym (get_or-take (k + 1) done k (Ok part) (omega arith)) ∙ (ap (λ (l : List (Result Part NoMemory)). get_or l k (Ok part)) (sym last) ∙ at) in
    record {
      mid = parted.0;
      parted = parted.1;
      grew = united parted.0 joined.mid start.seat grid of_table parted.2 joined.grew (part_grew shared grid starts done k start part are.grids works within here is);
    }

-- in the end all are joined
pub joined_all : {G : Type 0} (shared : Shared G) (old : SeatValue) (grid : TileGrid) (starts : List Start) (k : ℕ) (new : SeatValue) (out : TileGrid) (first : ℕ) (others : List ℕ) → k ≡ 0 → IsJoined shared old grid starts k new out first others →
    PartedGrowth shared.sys.now old grid new out first others
joined_all {G} shared old grid starts k new out first others none joined =
    let parted : ArePartedOff old (take 0 starts) joined.mid = subst (λ (n : ℕ). ArePartedOff old (take n starts) joined.mid) none joined.parted in
    subst (λ (s : SeatValue). PartedGrowth shared.sys.now s grid new out first others) (sym parted) joined.grew

-- what was taken from the end of a list
pub popped : {X : Type 0} (old new : List X) (r : Option X) (x : X) → old ≡ new ++ option_to_list r → r ≡ Some x → old ≡ new ++ x ∷ []
popped old new r x items is = items ∙ ap (λ o. new ++ option_to_list o) is

-- is a fact of its elements
pub last_fact : {X : Type 0} (P : X → Type 0) (old new : List X) (x : X) → old ≡ new ++ x ∷ [] → All P old → P x
last_fact P old new x longer all =
    let long = ap length longer in
    let both = length-append new (x ∷ []) in
    subst P (ap (λ l. get_or l (length new) x) longer ∙ get_or-append_seam new x [] x) (All-get_or P old (length new) x (omega (arith, long, both)) all)

-- and of the others
pub rest_fact : {X : Type 0} (P : X → Type 0) (old new : List X) (x : X) → old ≡ new ++ x ∷ [] → All P old → All P new
rest_fact P old new x longer all = subst (All P) (ap (take (length new)) longer ∙ take-append_seam new (x ∷ [])) (All-take P (length new) old all)

-- the first elements but the last
pub prefix_less : {X : Type 0} (all left new : List X) (x : X) → left ≡ take (length left) all → left ≡ new ++ x ∷ [] → new ≡ take (length new) all
prefix_less all left new x first longer =
    let k = length new in
    let n = length left in
    let whole : left ++ drop n all ≡ all = ap (λ l. l ++ drop n all) first ∙ take-append-drop n all in
    let long = ap length longer in
    let both = length-append new (x ∷ []) in
    sym (ap (take k) (sym whole) ∙ (take-append-le k left (drop n all) (omega (arith, long, both)) ∙ (ap (take k) longer ∙ take-append_seam new (x ∷ []))))

-- what a team has made of a seat once the box is closed, if there was memory
pub team_grew : (sys : TileSystem) (old : SeatValue) (start : TileGrid) (r : Result Harvest NoMemory) → 0 < old.scout.owned → old.scout.owned < 2 ^ 64 → IfOk r (λ h. IsClosedInBox sys h.part.grid.tiles) → IfOk r (TeamGrew sys old start) →
    IfOk r (λ h. GrewOn sys old start h.part.seat h.part.grid (h.part.won ∷ h.others.items))
team_grew sys old start (Ok h) some small closed grew = record {
  seat = grew.seat;
  area = grew.area;
  seen = grew.seen;
  kept = grew.kept;
  closed = closed;
  workers_win = workers_win old.scout.mine h.part.seat.scout.mine old.scout.owned h.part.won h.others.items some small grew.first_wins grew.others_win;
}
team_grew sys old start (Err e) some small closed grew = tt

-- what a worker leaves was seen at the table
ok_seen : {G : Type 0} (shared : Shared G) (start : Start) (r : Result Part NoMemory) → IfOk r (IsWorkOf shared start) → IfOk r (IsSeenPart shared)
ok_seen shared start (Ok part) work = work.left
ok_seen shared start (Err e) work = tt

-- and so what each leaves
pub works_seen : {G : Type 0} (shared : Shared G) (starts : List Start) (done : List (Result Part NoMemory)) (start : Start) → AreWorksOf shared starts done → All (λ (d : Result Part NoMemory). IfOk d (IsSeenPart shared)) done
works_seen shared starts done start works = λ k d within. let count = works.count in ok_seen shared (get_or starts k start) (get_or done k d) (works.each k start d (omega (arith, within, count)))
