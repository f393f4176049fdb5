-- The words of open or create, with their answers.
use Rattle.std.specs.Prelude.{◌≡◌, ◌≤◌, ◌+◌, ℕ, suc, true, false, List, [], ◌++◌, Result, Ok, Err}
use Rattle.iceoryx2_description.specs.Description.{Description}
use Rattle.iceoryx2_access.specs.Registered.{Registered}
use Rattle.iceoryx2_access.specs.Letter.{Letter}
use Rattle.iceoryx2_rounds.specs.declared.look.Fault.{Fault}
use Rattle.iceoryx2_rounds.specs.declared.look.Outcome.{Outcome}
use Rattle.iceoryx2_rounds.specs.declared.look.Outcome.TheVariants.{Nothing, Found, Faulty}
use Rattle.iceoryx2_rounds.specs.Looks.{IsLookWord}
use Rattle.iceoryx2_rounds.specs.Creates.{IsCreateWord}
use Rattle.iceoryx2_rounds.specs.Refusals.{open_error_of}
use Rattle.iceoryx2_rounds.specs.Opens.{IsOpenWord}
use Rattle.iceoryx2_rounds.specs.BuilderCalls.{BuilderCall, creating, opening, asking}
use Rattle.iceoryx2_rounds.specs.declared.open_or_create.TheConstants.{OPEN_OR_CREATE_RETRIES}
use Rattle.iceoryx2_rounds.specs.declared.open_or_create.OpenOrCreateRefusal.{OpenOrCreateRefusal}
use Rattle.iceoryx2_rounds.specs.declared.open_or_create.OpenOrCreateRefusal.TheVariants as refusal

module _ {D E C : Type 0} (c : BuilderCall D E C) where
  -- A round looks,
  abbrev pub IsOwnLook : List Letter → Outcome E → Type 0
  IsOwnLook word outcome = IsLookWord (c.meaning c.asked) c.caller.node c.caller.hash word outcome

  -- and opens with the required attributes,
  abbrev pub IsOwnOpen : List Letter → Result Registered E → Type 0
  IsOwnOpen word answer = IsOpenWord (opening c) c.caller.node c.caller.hash word answer

  -- or creates with the defined pairs.
  abbrev pub IsOwnCreate : List Letter → Result Registered C → Type 0
  IsOwnCreate word answer = IsCreateWord (creating c) c.caller word answer

  -- A round that is retried, and what is asked after it: a create adjusts it.
  pub data IsRetriedAttempt : List Letter → D → Type 0 where
    open_retried : {u v : List Letter} {n : ℕ} {d : Description} {error : E}
        → IsOwnLook u (Found n d) → IsOwnOpen v (Err error)
        → c.retried.of_open error ≡ true → IsRetriedAttempt (u ++ v) c.asked
    create_retried : {u v : List Letter} {error : C}
        → IsOwnLook u Nothing → IsOwnCreate v (Err error)
        → c.retried.of_create error ≡ true → IsRetriedAttempt (u ++ v) (c.adjusted c.asked)

  -- The round that gives the answer. What its own look finds wrong is never retried.
  pub data IsLastAttempt : List Letter → Result Registered (OpenOrCreateRefusal E C) → Type 0 where
    look_faulty : {u : List Letter} {fault : Fault E} → IsOwnLook u (Faulty fault)
        → IsLastAttempt u (Err (refusal.Open (open_error_of (c.meaning c.asked) fault)))
    not_opened : {u v : List Letter} {n : ℕ} {d : Description} {error : E}
        → IsOwnLook u (Found n d) → IsOwnOpen v (Err error)
        → c.retried.of_open error ≡ false → IsLastAttempt (u ++ v) (Err (refusal.Open error))
    opened : {u v : List Letter} {n : ℕ} {d : Description} {r : Registered}
        → IsOwnLook u (Found n d) → IsOwnOpen v (Ok r) → IsLastAttempt (u ++ v) (Ok r)
    not_created : {u v : List Letter} {error : C}
        → IsOwnLook u Nothing → IsOwnCreate v (Err error)
        → c.retried.of_create error ≡ false → IsLastAttempt (u ++ v) (Err (refusal.Create error))
    created : {u v : List Letter} {r : Registered}
        → IsOwnLook u Nothing → IsOwnCreate v (Ok r) → IsLastAttempt (u ++ v) (Ok r)

module _ {D E C : Type 0} (c : BuilderCall D E C) where
  -- So many rounds that are retried, one after the other, and what is asked after them.
  pub data AreRetriedAttempts : ℕ → List Letter → D → Type 0 where
    no_attempt : AreRetriedAttempts 0 [] c.asked
    one_more : {k : ℕ} {u v : List Letter} {asked next : D} → AreRetriedAttempts k u asked
        → IsRetriedAttempt (asking c asked) v next → AreRetriedAttempts (suc k) (u ++ v) next

  -- At most as many retried rounds as are gone on after and a last one, or one retried round more.
  pub data IsOpenOrCreateWord : List Letter → Result Registered (OpenOrCreateRefusal E C) → Type 0 where
    ended : {k : ℕ} {u v : List Letter} {asked : D} {answer : Result Registered (OpenOrCreateRefusal E C)}
        → k ≤ OPEN_OR_CREATE_RETRIES → AreRetriedAttempts k u asked → IsLastAttempt (asking c asked) v answer
        → IsOpenOrCreateWord (u ++ v) answer
    in_flux : {u : List Letter} {asked : D} → AreRetriedAttempts (OPEN_OR_CREATE_RETRIES + 1) u asked
        → IsOpenOrCreateWord u (Err refusal.SystemInFlux)
