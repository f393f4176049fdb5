use Rattle.std.proofs.Common.{◌≡◌, ◌+◌, length, drop, ap, arith}
use Rattle.std.specs.Prelude.{min}
use Rattle.std.specs.FinMap as map
use Rattle.finite_map.specs.Chunks.{chunk_at, chunked}
use Rattle.finite_map.proofs.chunks.ChunkedMapFiniteMap.first.Goals as goal

pub returns : goal.returns
returns g c =
    let start : 0 + min 0 (length (chunk_at c.args.self.now 0).entries) ≡ 0 = omega arith in
    ap (λ n. drop n (map.entries (chunked g.K.Ord.cmp c.args.self.now))) start
