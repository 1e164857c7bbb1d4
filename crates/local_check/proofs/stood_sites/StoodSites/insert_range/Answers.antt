use Rattle.std.proofs.Common.{◌≡◌, ◌∙◌, ℕ, List, max, take, arith, refl, ap, sym, subst}
use Rattle.atam.specs.declared.area.BoxArea.{BoxArea}
use Rattle.atam.specs.declared.place.Place.{Place}
use Rattle.atam.specs.Sites.{InBox}
use Rattle.atam.proofs.Lists.{All-slice_get}
use Rattle.assembly.specs.Cells.{cell_count, site_at}
use Rattle.assembly.proofs.Putting.{take_more}
use Rattle.local_check.specs.Inner.StoodSites.{TellsSites}
use Rattle.local_check.proofs.stood_sites.StoodSites.insert_range.Goals as goal

pub loop-index-init : goal.loop-index-init
loop-index-init c = record { within = omega arith; area = refl; tells = λ told. told }

pub site_index-requires-clause-inside : goal.site_index-requires-clause-inside
site_index-requires-clause-inside c =
    let area : c.self.inside.area ≡ c.args.self.now.area = ap (λ w. w.area) c.self.view_is in
    subst (λ (a : BoxArea). InBox a c.get-place.result.site) (sym area) (All-slice_get (λ p. InBox c.args.self.now.area p.site) c.args.seq.now c.loop-index.index c.get-place.result c.requires.inside c.get-place.ensures)

pub insert-requires-clause-inside : goal.insert-requires-clause-inside
insert-requires-clause-inside c =
    subst (λ (a : BoxArea). InBox a c.get-place.result.site) (sym c.loop-index.invariant.area) (All-slice_get (λ p. InBox c.args.self.now.area p.site) c.args.seq.now c.loop-index.index c.get-place.result c.requires.inside c.get-place.ensures)

pub insert-requires-clause-within : goal.insert-requires-clause-within
insert-requires-clause-within c =
    let area : c.loop-index.self.area ≡ c.self.inside.area = c.loop-index.invariant.area ∙ sym (ap (λ w. w.area) c.self.view_is) in
    omega (arith, c.site_index.ensures.within, ap cell_count area)

pub insert-requires-clause-number : goal.insert-requires-clause-number
insert-requires-clause-number c =
    let area : c.loop-index.self.area ≡ c.self.inside.area = c.loop-index.invariant.area ∙ sym (ap (λ w. w.area) c.self.view_is) in
    ap (λ a. site_at a c.site_index.result) area ∙ c.site_index.ensures.site

pub loop-index-preserved : goal.loop-index-preserved
loop-index-preserved c =
    let Told : List Place → Type 0 = λ tiles. TellsSites c.insert.new.self tiles in
    record {
      within = omega (arith, c.loop-index-test.true);
      area = c.insert.ensures.area ∙ c.loop-index.invariant.area;
      tells = λ told.
          subst Told (sym (take_more c.args.seq.now c.loop-index.index c.get-place.result c.get-place.ensures)) (c.insert.ensures.tells _ (c.loop-index.invariant.tells told));
    }

pub returns-clause-area : goal.returns-clause-area
returns-clause-area c = c.loop-index.invariant.area

pub returns-clause-tells : goal.returns-clause-tells
returns-clause-tells c told =
    let all : c.loop-index.index ≡ max c.args.start c.args.end = omega (arith, c.loop-index-test.false, c.loop-index.invariant.within, c.loop-index.auto.index) in
    subst (λ (n : ℕ). TellsSites c.loop-index.self (take n c.args.seq.now)) all (c.loop-index.invariant.tells told)
