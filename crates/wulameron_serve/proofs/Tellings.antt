-- What is told of a node that isn't greeted.
use Rattle.std.proofs.Common.{◌≡◌, ℕ, List, Option, Result, Ok, Err, OnErr, subst}
use Rattle.negotiate_serve.specs.declared.ending.ServeError.{ServeError}
use Rattle.negotiate_serve.specs.Outputs.{Writes}
use Rattle.wulameron_serve.specs.Served.{NotGreeted, cut}
use Rattle.wulameron_serve.specs.Telling.{greeting_of}

-- a greeting that isn't written
pub cut_at : (node : ℕ) (text : List ℕ) (done : Result (Unit {0}) ServeError) (old new : Option (List ℕ)) → text ≡ greeting_of node → Writes text done old new
    → OnErr done (NotGreeted node old new)
cut_at node text (Ok d) old new is writes = tt
cut_at node text (Err f) old new is writes = cut f (subst (λ (t : List ℕ). Writes t (Err f) old new) is writes)
