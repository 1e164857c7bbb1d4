use Rattle.std.proofs.Common.{◌≡◌, ◌≤◌, ◌<◌, min, length, Ok, arith}
use Rattle.std.proofs.lemmas.Result.{IfOk-weaker}
use Rattle.tile_io.proofs.standard.StdSinkSink.write.Goals as goal

pub returns-clause-some : goal.returns-clause-some
returns-clause-some g c =
    let piece = c.args.piece.now in
    let least : c.min.result ≡ min (length piece) 1 = c.min.ensures in
    IfOk-weaker c.moved.result (λ n. (c.write-given.result ≡ Ok n) × (c.min.result ≤ n)) (λ n. 0 < length piece → 0 < n)
    (λ n moved some. let enough : c.min.result ≤ n = moved.1 in omega (arith, least, enough, some)) c.moved.ensures.count
