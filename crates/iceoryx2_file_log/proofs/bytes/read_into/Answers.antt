use Rattle.std.proofs.Common.{◌++◌, ℕ, List, Option, take, subst, sym, arith}
use Rattle.std.specs.Prelude.{IfSome}
use Rattle.iceoryx2_file_log.specs.Place.{Place}
use Rattle.iceoryx2_file_log.specs.Medium.{Known}
use Rattle.iceoryx2_file_log.specs.Bytes.{Reading}
use Rattle.iceoryx2_file_log.proofs.ByteSteps.{read_more}
use Rattle.iceoryx2_file_log.proofs.bytes.read_into.Goals as goal

pub returns-in-Ok-clause-reading : goal.returns-in-Ok-clause-reading
returns-in-Ok-clause-reading g c =
    let o : Option Known = g.M.Medium.known c.args.medium.now in
    let m : Option Known = g.M.Medium.known c.read_at.new.self in
    let p : Place = c.args.cursor.now in
    let count : ℕ = c.in_ok-count.count in
    let out : List ℕ = c.read_at.new.out in
    subst (λ (q : Place). IfSome m (Reading q)) (sym c.in-Ok.ensures.ok)
    (subst (λ (x : Option Known). IfSome x (Reading (record p { ahead = p.ahead ++ take count out }))) (sym c.in_ok-count.ensures.same)
    (read_more p o c.read_to-from.result count out c.requires.reading (omega (arith, c.requires.room))
    c.read_to-from.ensures c.in_ok-count.ensures.reads))
