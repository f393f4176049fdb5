-- What a close hands back is what was to be closed.
use Rattle.std.proofs.Common.{◌≡◌, List, Result, Ok, Err}
use Rattle.iceoryx2_access.specs.declared.storage.RemoveError.{RemoveError}
use Rattle.iceoryx2_access.specs.Registered.{Registered}
use Rattle.iceoryx2_access.specs.Letter.{Letter}
use Rattle.iceoryx2_errors.specs.declared.error.CloseError.{CloseError}
use Rattle.iceoryx2_errors.specs.declared.error.CloseError.TheVariants.{NotHere}
use Rattle.iceoryx2_rounds.specs.Closes.{IsCloseWord, first_refused, not_here, still_counted, left, last}

-- none whose removals were tried hands anything back
pub removed_here : (s : Registered) (tag segment description : Result (Unit {0}) RemoveError) → first_refused tag segment description ≡ Err (NotHere s) → ⊥
removed_here s (Err e) segment description is = cc
removed_here s (Ok x) (Err e) description is = cc
removed_here s (Ok x) (Ok y) (Err e) is = cc
removed_here s (Ok x) (Ok y) (Ok z) is = cc

pub handed_back : {r : Registered} {word : List Letter} {answer : Result (Unit {0}) (CloseError Registered)} (s : Registered) → answer ≡ Err (NotHere s) → IsCloseWord r word answer → s ≡ r
handed_back s e not_here = cc
handed_back s e still_counted = absurd (cc)
handed_back s e (left tag) = absurd (removed_here s tag (Ok tt) (Ok tt) e)
handed_back s e (last tag segment description) = absurd (removed_here s tag segment description e)
