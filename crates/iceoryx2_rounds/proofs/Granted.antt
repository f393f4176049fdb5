-- What a granted open or create carries.
use Rattle.std.proofs.Common.{◌≡◌, ℕ, Bool, true, List, Ok, None, sym, subst}
use Rattle.iceoryx2_description.specs.Description.{Description}
use Rattle.iceoryx2_description.specs.Span.{Span}
use Rattle.iceoryx2_description.specs.declared.description.MessagingPattern.{MessagingPattern}
use Rattle.iceoryx2_access.specs.Registered.{Registered}
use Rattle.iceoryx2_access.specs.Letter.{Letter}
use Rattle.iceoryx2_access.specs.Run.{Joins}
use Rattle.iceoryx2_rounds.specs.Creates.{description_of, time_of}
use Rattle.iceoryx2_rounds.proofs.Carried.{created_carries, opened_carries}
use Rattle.iceoryx2_rounds.specs.BuilderCalls.{BuilderCall, creating, asking, rounds_of}
use Rattle.iceoryx2_rounds.specs.OpenOrCreates.{IsRetriedAttempt, open_retried, create_retried, opened, created, AreRetriedAttempts, no_attempt, one_more, IsOpenOrCreateWord, ended}
use Rattle.iceoryx2_rounds.specs.Grants.{IsAsked, at_first, after_create, Carries, accepted, published}

module _ {D E C : Type 0} {c : BuilderCall D E C} where
  is_published : {asked : D} {d : Description} → IsAsked c asked → d ≡ description_of (creating (asking c asked)) c.caller → Carries c d
  is_published is e = subst (Carries c) (sym e) (published is)

  then_asked : {asked next : D} {w : List Letter} → IsAsked c asked → IsRetriedAttempt (asking c asked) w next → IsAsked c next
  then_asked is (open_retried l o _) = is
  then_asked is (create_retried l m _) = after_create is

  are_asked : {asked : D} {k : ℕ} {w : List Letter} → AreRetriedAttempts c k w asked → IsAsked c asked
  are_asked no_attempt = at_first
  are_asked (one_more before t) = then_asked (are_asked before) t

  pub granted_carries : {w : List Letter} {r : Registered} → IsOpenOrCreateWord c w (Ok r) → (r.node ≡ c.caller.node) × Carries c r.description
  granted_carries (ended small before (opened l o)) =
      let k = opened_carries o in (k.node_is, accepted (are_asked before) k.hash_is (record { fits = k.fits; meets = k.accepted }))
  granted_carries (ended small before (created l m)) = let k = created_carries m in (k.0, is_published (are_asked before) k.1)

  -- and so does one whose word joins two states of its storage
  pub joined_carries : {S : Type 0} {step : S → Letter → S → Type 0} {old new : S} {r : Registered} → Joins step old (λ word. IsOpenOrCreateWord c word (Ok r)) new → Carries c r.description
  joined_carries joined = (granted_carries joined.is_word).1

  -- what is carried is of a pattern that all is of that fits or is published
  pub carried_of : (is_of : MessagingPattern → Bool) → ((asked : D) (d : Description) → (c.meaning asked).misfit d ≡ None → is_of d.pattern ≡ true)
      → ((asked : D) (now : Span) → is_of ((c.meaning asked).published now) ≡ true) → {d : Description} → Carries c d → is_of d.pattern ≡ true
  carried_of is_of fits publishes (accepted {asked = asked} {d = d} _ _ a) = fits asked d a.fits
  carried_of is_of fits publishes (published {asked = asked} _) = publishes (c.adjusted asked) (time_of c.caller.clock)

module _ {D E C : Type 0} (c : BuilderCall D E C) where
  -- what is carried once the types are prepared the call carries
  still_asked : {asked : D} → IsAsked (rounds_of c) asked → IsAsked c asked
  still_asked at_first = at_first
  still_asked (after_create is) = after_create (still_asked is)

  pub carries_prepared : {d : Description} → Carries (rounds_of c) d → Carries c d
  carries_prepared (accepted is same a) = accepted (still_asked is) same a
  carries_prepared (published is) = published (still_asked is)
