-- What a reply is taken for.
use Rattle.std.proofs.Common.{◌≡◌, ◌≢◌, ◌⊎◌, inl, inr, ℕ, List, Option, codes, subst, sym, ◌∙◌}
use Rattle.iceoryx2_postgres_log.specs.declared.fault.PostgresFault.{PostgresFault}
use Rattle.iceoryx2_postgres_log.specs.declared.fault.PostgresFault.TheVariants as fault
use Rattle.iceoryx2_postgres_log.specs.declared.standing.Standing.{Standing}
use Rattle.iceoryx2_postgres_log.specs.Questions as text
use Rattle.iceoryx2_postgres_log.specs.Replies.{Asks, Refuses}
use Rattle.iceoryx2_postgres_log.specs.Hearing.{IsRefusedAppend}

-- an append that the server refused
pub refused_append : (at : Standing) (number : ℕ) (form : List ℕ) (written wrote unread left : Option (List ℕ))
    (rows : List (List ℕ)) (end : List ℕ) (result why : PostgresFault)
    → Asks (text.appending at.log at.generation number form) (codes "appended") rows end written wrote unread left
    → result ≢ fault.NotUnderstood → (result ≡ fault.Unsure) ⊎ (result ≡ why)
    → (why ≡ fault.NotUnderstood) ⊎ Refuses (codes "appended") rows end why
    → (result ≡ fault.Unsure) ⊎ IsRefusedAppend at number form written wrote unread left result
refused_append at number form written wrote unread left rows end result why a known (inl e) r = inl e
refused_append at number form written wrote unread left rows end result why a known (inr e) (inl n) = absurd (known (e ∙ n))
refused_append at number form written wrote unread left rows end result why a known (inr e) (inr r) =
    inr (record { rows = rows; end = end; asks = a; refuses = subst (Refuses (codes "appended") rows end) (sym e) r })
