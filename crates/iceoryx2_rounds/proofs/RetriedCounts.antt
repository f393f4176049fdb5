-- How many accesses an open or create has, in all and of each kind.
use Rattle.std.proofs.Common.{◌*◌, ℕ, List, Result, arith}
use Rattle.iceoryx2_access.specs.Registered.{Registered}
use Rattle.iceoryx2_access.specs.Letter.{Letter}
use Rattle.iceoryx2_rounds.specs.Counts.{IsWithin}
use Rattle.iceoryx2_rounds.proofs.Prepared.{each_call}
use Rattle.iceoryx2_rounds.proofs.Counts.{Within, within_append, within_more, none_within, look_within, create_within, open_within}
use Rattle.iceoryx2_rounds.specs.BuilderCalls.{BuilderCall, open_or_create_limits}
use Rattle.iceoryx2_rounds.specs.declared.open_or_create.OpenOrCreateRefusal.{OpenOrCreateRefusal}
use Rattle.iceoryx2_rounds.specs.OpenOrCreates.{IsRetriedAttempt, open_retried, create_retried, IsLastAttempt, look_faulty, not_opened, opened, not_created, created, AreRetriedAttempts, no_attempt, one_more, IsOpenOrCreateWord, ended, in_flux}
use Rattle.iceoryx2_rounds.specs.CallWords.{OpenOrCreateIsShort}

module _ {D E C : Type 0} {c : BuilderCall D E C} where
  last_within : {w : List Letter} {r : Result Registered (OpenOrCreateRefusal E C)} → IsLastAttempt c w r → Within w 44 13 6 6 6
  last_within (look_faulty l) = within_more (omega arith) (omega arith) (omega arith) (omega arith) (omega arith) (look_within _ _ _ l)
  last_within (not_opened l o _) = within_more (omega arith) (omega arith) (omega arith) (omega arith) (omega arith) (within_append (look_within _ _ _ l) (open_within _ _ _ o))
  last_within (opened l o) = within_more (omega arith) (omega arith) (omega arith) (omega arith) (omega arith) (within_append (look_within _ _ _ l) (open_within _ _ _ o))
  last_within (not_created l m _) = within_more (omega arith) (omega arith) (omega arith) (omega arith) (omega arith) (within_append (look_within _ _ _ l) (create_within _ _ _ m))
  last_within (created l m) = within_more (omega arith) (omega arith) (omega arith) (omega arith) (omega arith) (within_append (look_within _ _ _ l) (create_within _ _ _ m))

  retried_within : {next : D} {w : List Letter} → IsRetriedAttempt c w next → Within w 44 13 6 6 6
  retried_within (open_retried l o _) = within_more (omega arith) (omega arith) (omega arith) (omega arith) (omega arith) (within_append (look_within _ _ _ l) (open_within _ _ _ o))
  retried_within (create_retried l m _) = within_more (omega arith) (omega arith) (omega arith) (omega arith) (omega arith) (within_append (look_within _ _ _ l) (create_within _ _ _ m))

module _ {D E C : Type 0} {c : BuilderCall D E C} where
  turns_within : {asked : D} {k : ℕ} {w : List Letter} → AreRetriedAttempts c k w asked → Within w (44 * k) (13 * k) (6 * k) (6 * k) (6 * k)
  turns_within no_attempt = none_within
  turns_within (one_more before t) = within_more (omega arith) (omega arith) (omega arith) (omega arith) (omega arith) (within_append (turns_within before) (retried_within t))

  -- six rounds, of which each looks once more than its open or its create
  pub open_or_create_within : {w : List Letter} {r : Result Registered (OpenOrCreateRefusal E C)} → IsOpenOrCreateWord c w r → IsWithin w open_or_create_limits
  open_or_create_within (ended small before t) = within_more (omega arith) (omega arith) (omega arith) (omega arith) (omega arith) (within_append (turns_within before) (last_within t))
  open_or_create_within (in_flux before) = turns_within before

module _ {D E C : Type 0} (c : BuilderCall D E C) where
  pub open_or_create_call_within : {w : List Letter} {r : Result Registered (OpenOrCreateRefusal E C)} → OpenOrCreateIsShort c w r
  open_or_create_call_within call = each_call (λ w r. IsWithin w open_or_create_limits) (within_more (omega arith) (omega arith) (omega arith) (omega arith) (omega arith) none_within)
      (λ w r is. open_or_create_within is) call
