use Rattle.std.proofs.Common.{◌+◌, ℕ, List, Option, ◌∙◌, subst, sym}
use Rattle.std.specs.Prelude.{IfSome}
use Rattle.iceoryx2_file_log.specs.Medium.{Known}
use Rattle.iceoryx2_file_log.proofs.ByteSteps.{SameUpTo, more_same}
use Rattle.iceoryx2_file_log.proofs.bytes.read_back.Goals as goal

pub loop-preserved : goal.loop-preserved
loop-preserved g c =
    let o : Option Known = g.M.Medium.known c.loop.medium in
    let bytes : List ℕ = c.args.bytes.now in
    let at : ℕ = c.loop.at in
    let count : ℕ = c.in_ok-count.count in (
      c.in_ok-count.ensures.within,
      subst (λ (x : Option Known). IfSome x (SameUpTo (at + count) bytes)) (sym c.in_ok-count.ensures.same)
          (more_same at count bytes o c.loop.invariant.1 c.in_ok-count.ensures.stands),
      c.in_ok-count.ensures.same ∙ c.loop.invariant.2,
    )
