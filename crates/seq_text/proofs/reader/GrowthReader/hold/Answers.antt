use Rattle.std.proofs.Common.{◌∷◌, ◌++◌, ◌∙◌, [], ap, subst, sym}
use Rattle.seq_text.specs.declared.reader.GrowthReader.{GrowthReader}
use Rattle.seq_text.specs.Inner.SoFar.{HoldsPlaces}
use Rattle.seq_text.proofs.Scratch.{free_is, scratch_put}
use Rattle.seq_text.proofs.reader.GrowthReader.hold.Goals.{in-Some, in-None+in_ok-push_near-in-None}
use Rattle.seq_text.proofs.reader.GrowthReader.hold.Goals as goal

pub returns-clause-added : goal.returns-clause-added
returns-clause-added c = λ places held.
    let d = c.args.self.now in
    let p = c.args.place in
    let sys = d.system.now in
    let Holds : GrowthReader → Type 0 = λ r. HoldsPlaces sys r.sequence r.grid (places ++ p ∷ []) in
    elim c.match-self.branch [
      | in-Some w ↦
          let old = w.in-Some.grid in
          let scratch = subst (λ g. HoldsPlaces sys d.sequence g places) w.in-Some.is held in
          let empty = sym (scratch.tiles p.site) ∙ free_is d.grid old p.site w.in-Some.is c.requires.free in
          subst Holds (sym w.self-is) (scratch_put sys places old w.put.new.self p scratch empty w.put.ensures.area w.put.ensures.here w.put.ensures.others w.put.ensures.placements)
      | in-None+in_ok-push_near-in-None w ↦
          let same = subst (λ g. HoldsPlaces sys d.sequence g places) w.in-None.is held in
          subst Holds (sym w.self-is) (rw w.in-None.is (w.in_ok-push_near-in-None.ensures.ok ∙ ap (λ l. l ++ p ∷ []) same))
    ]
