-- What a scout begins to look with, and what it keeps.
use Rattle.std.proofs.Common.{◌≡◌, ◌∙◌, ap, sym, subst}
use Rattle.atam.specs.TileSystem.{TileSystem}
use Rattle.site_table.specs.Seats.{IsSeatOf, TableValue}
use Rattle.frontier_seat.specs.declared.growing.Growing.{Growing}
use Rattle.frontier_seat.specs.declared.grower.Grower.{Grower}
use Rattle.frontier_seat.specs.declared.grower.Setting.{Setting}
use Rattle.frontier_seat.specs.Growths.{IsGrowing}
use Rattle.frontier_seat.specs.Inner.Looks.{CanLook, HasListed}
use Rattle.frontier_seat.specs.Inner.Pickers.{IsPickerOf}

-- its seat is of the system
pub of_system : (g h : Growing) (t : TableValue) (sys : TileSystem) → g ≡ h → IsSeatOf t h.seat → t.sys ≡ sys → g.seat.sys ≡ sys
of_system g h t sys same seat system = ap (λ (k : Growing). k.seat.sys) same ∙ (seat.sys ∙ system)

-- so what is known of the system of its seat is known of the system
pub can_begin : (lent : Setting) (grower : Grower) (now : Growing) → lent.area ≡ lent.sys.now.area → lent.table.now.sys ≡ lent.sys.now → IsSeatOf lent.table.now now.seat → grower.growing ≡ now →
    IsGrowing grower.growing.seat.sys grower.growing → IsPickerOf grower.growing.seat.sys grower.picker → grower.work.area ≡ grower.growing.seat.sys.area → CanLook lent grower
can_begin lent grower now box system seat same growing picker area =
    let own = of_system grower.growing now lent.table.now lent.sys.now same seat system in
    record {
      box = box;
      system = system;
      seat = subst (λ (h : Growing). IsSeatOf lent.table.now h.seat) (sym same) seat;
      growing = subst (λ (s : TileSystem). IsGrowing s grower.growing) own growing;
      picker = subst (λ (s : TileSystem). IsPickerOf s grower.picker) own picker;
      area = area ∙ ap (λ (s : TileSystem). s.area) own;
    }

-- and the other way round
pub keeps : (lent : Setting) (grower : Grower) → CanLook lent grower → HasListed lent.sys.now grower →
    IsGrowing grower.growing.seat.sys grower.growing × IsPickerOf grower.growing.seat.sys grower.picker × (grower.work.area ≡ grower.growing.seat.sys.area) × HasListed grower.growing.seat.sys grower
keeps lent grower can lists =
    let own = sym can.growing.system in (
      subst (λ (s : TileSystem). IsGrowing s grower.growing) own can.growing,
      subst (λ (s : TileSystem). IsPickerOf s grower.picker) own can.picker,
      can.area ∙ ap (λ (s : TileSystem). s.area) own,
      subst (λ (s : TileSystem). HasListed s grower) own lists,
    )
