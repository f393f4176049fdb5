use Rattle.std.proofs.Common.{◌++◌, ◌∙◌, List, ℕ, ap, refl, subst}
use Rattle.negotiate_serve.specs.Outputs.{Writes}
use Rattle.wulameron_trail.specs.Listing.{gap, taken, unmade}
use Rattle.wulameron_trail.proofs.listing.Listing.print.Goals as goal

pub returns-in-Ok-clause-prints : goal.returns-in-Ok-clause-prints
returns-in-Ok-clause-prints g c =
    taken c.write_out.result
    (subst (λ (l : List ℕ). Writes l c.write_out.result (g.W.Write.contents c.args.output.now) (g.W.Write.contents c.write_out.new.output))
    (c.as_bytes.ensures.value ∙ c.in-Ok.ensures.made ∙ ap (λ (t : List ℕ). gap c.args.self.now ++ t) c.deref.ensures) c.write_out.ensures) c.written.ensures

pub returns-in-Err-clause-prints : goal.returns-in-Err-clause-prints
returns-in-Err-clause-prints g c = unmade c.in-Err.stop c.in-Err.ensures.unmade refl refl
