use Rattle.std.proofs.Common.{take, Ok}
use Rattle.tile_io.specs.declared.outside.Failed.{Failed}
use Rattle.tile_io.specs.Chunks.{PassesOn}
use Rattle.cert_text.specs.CertificateLines.{mark_lines}
use Rattle.cert_text.proofs.printing.put_marks.Given as goal

-- the lines so far have been taken
abbrev pub invariant-loop-index : goal.invariant-loop-index
invariant-loop-index g l = record {
  passes : PassesOn {T = Unit {0}} {E = Failed} g.K.Sink.written g.K.Sink.faults l.initial.sink l.sink l.initial.chunk l.chunk (Ok tt)
      (mark_lines l.sys (take l.index (g.C.EntryList.entries l.cert)));
}
