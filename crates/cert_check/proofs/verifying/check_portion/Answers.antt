use Rattle.std.proofs.Common.{rules, ◌≡◌, refl, inl, arith}
use Rattle.cert_check.specs.declared.verdict.CertVerdict.TheVariants.{Yes}
use Rattle.cert_check.proofs.Chunks.{sound_more}
use Rattle.cert_check.proofs.EntryVerdicts.{sound_by_yes}
use Rattle.cert_check.proofs.verifying.check_portion.Goals as goal

pub loop-index-preserved : goal.loop-index-preserved
loop-index-preserved c =
    let sys = c.args.checker.now.sys.now in
    let entries = c.args.checker.now.listing.now.entries in
    let verdict = c.check_entry-verdict.result in
    let yes : verdict ≡ Yes = search rules in
    record {
      within = omega (arith, c.loop-index-test.true);
      sound =
          sound_more sys entries c.args.entries.start c.loop-index.index c.get-entry.result c.get-entry.ensures c.loop-index.invariant.sound
          (sound_by_yes sys entries c.get-entry.result verdict yes c.check_entry-verdict.ensures.verdict);
      known = c.check_entry-verdict.ensures.known;
    }

pub returns : goal.returns
returns c = record {
  verdict = inl (refl, λ k f above below there. c.loop-index.invariant.sound k f above (omega (arith, below, c.loop-index-test.false)) there);
}
