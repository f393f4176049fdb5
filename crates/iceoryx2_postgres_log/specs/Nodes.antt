-- What is told of nodes.
use Rattle.std.specs.Prelude.{◌≡◌, ℕ, ◌<◌, ◌⊎◌, Bool, true, false, List, [], ◌∷◌, ◌++◌, Option, Some, None}
use Rattle.std.specs.Prelude.{All, codes, decimal}
use Rattle.iceoryx2_postgres_log.specs.declared.fault.PostgresFault.{PostgresFault}
use Rattle.iceoryx2_postgres_log.specs.declared.fault.PostgresFault.TheVariants as fault
use Rattle.iceoryx2_postgres_log.specs.declared.nodes.Life.{Life}
use Rattle.iceoryx2_postgres_log.specs.declared.nodes.Life.TheVariants as life
use Rattle.iceoryx2_postgres_log.specs.declared.nodes.NodeRow.{NodeRow}
use Rattle.iceoryx2_postgres_log.specs.Names.{IsLogName}
use Rattle.iceoryx2_postgres_log.specs.Replies.{Asks, Refuses}

-- whether it is so
abbrev pub claim_row : Bool → List ℕ
claim_row true = codes "t"
claim_row false = codes "f"

-- the node that was free, where there was one
abbrev pub free_rows : Option ℕ → List (List ℕ)
free_rows None = []
free_rows (Some node) = decimal node ∷ []

abbrev pub life_word : Life → List ℕ
life_word life.Alive = codes "alive"
life_word life.Lost = codes "lost"
life_word life.Dead = codes "dead"

-- a node, and whether a session has it
abbrev pub node_row : NodeRow → List ℕ
node_row row = decimal row.node ++ (codes " " ++ life_word row.life)

-- each by a higher number than those before it
abbrev pub IsRising : List NodeRow → Type 0
IsRising [] = Unit {0}
IsRising (row ∷ rows) = All (λ other. row.node < other.node) rows × IsRising rows

-- The reply was read whole, and it is the server's refusal by this fault, or it isn't understood.
pub record IsRefused (question mark : List ℕ) (written wrote unread left : Option (List ℕ)) (why : PostgresFault)
    : Type 0 where
  pub rows : List (List ℕ)
  pub end : List ℕ
  pub asks : Asks question mark rows end written wrote unread left
  pub refuses : (why ≡ fault.NotUnderstood) ⊎ Refuses mark rows end why

-- why a question has no answer: there was no memory for it, or the session ended, or it was refused
abbrev pub IsUnanswered : (question mark : List ℕ) → (written wrote unread left : Option (List ℕ)) → PostgresFault
    → Type 0
IsUnanswered question mark written wrote unread left why =
    (why ≡ fault.OutOfMemory) ⊎ (why ≡ fault.SessionEnded) ⊎ IsRefused question mark written wrote unread left why

-- why a question about a log of this name has no answer
abbrev pub IsNoAnswer : (name question mark : List ℕ) → (written wrote unread left : Option (List ℕ)) → PostgresFault
    → Type 0
IsNoAnswer name question mark written wrote unread left why =
    ((why ≡ fault.BadName) × (IsLogName name → ⊥))
    ⊎ (IsLogName name × IsUnanswered question mark written wrote unread left why)
