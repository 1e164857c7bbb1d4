use Rattle.std.proofs.Common.{ap, sym, subst}
use Rattle.tile_io.proofs.Printing.{PassesOn-text}
use Rattle.seq_text.specs.SeenLines.{seen_line, HasLine}
use Rattle.seq_text.proofs.seen.put_seen.Goals as goal

pub put_refusal-requires : goal.put_refusal-requires
put_refusal-requires g c = (c.args.sys.now, subst (HasLine c.args.sys.now) c.in-Err.is c.requires)

pub returns-in-Err : goal.returns-in-Err
returns-in-Err g c = PassesOn-text (ap (seen_line c.args.sys.now) (sym c.in-Err.is)) (c.put_refusal.ensures c.args.sys.now)
