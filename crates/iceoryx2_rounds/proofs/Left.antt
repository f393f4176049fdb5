-- What the rounds of an open or create leave.
use Rattle.std.proofs.Common.{ℕ, List, ◌++◌, Ok, Err, sym, subst, inl, inr}
use mathlib.Core.List.{append_assoc, append-nil}
use Rattle.iceoryx2_description.specs.declared.description.ServiceHash.{ServiceHash}
use Rattle.iceoryx2_access.specs.Registered.{Registered}
use Rattle.iceoryx2_access.specs.Letter.{Letter}
use Rattle.iceoryx2_rounds.specs.PatternRules.{PatternRules}
use Rattle.iceoryx2_rounds.specs.declared.look.Outcome.{Outcome}
use Rattle.iceoryx2_rounds.specs.Looks.{IsLookWord}
use Rattle.iceoryx2_rounds.proofs.Prepared.{refused_call}
use Rattle.iceoryx2_rounds.specs.Fronts as fronts
use Rattle.iceoryx2_rounds.specs.Fronts.{GivesTagsBack}
use Rattle.iceoryx2_rounds.proofs.Kept.{look_gives_back, refused_create_keeps, refused_open_keeps, created_keeps, opened_keeps}
use Rattle.iceoryx2_rounds.specs.declared.open_or_create.OpenOrCreateRefusal.{OpenOrCreateRefusal}
use Rattle.iceoryx2_rounds.specs.OpenOrCreates as words
use Rattle.iceoryx2_rounds.specs.OpenOrCreates.{IsRetriedAttempt, open_retried, create_retried, IsLastAttempt, look_faulty, not_opened, opened, not_created, created, AreRetriedAttempts, no_attempt, IsOpenOrCreateWord, ended, in_flux}
use Rattle.iceoryx2_rounds.specs.BuilderCalls.{BuilderCall}
use Rattle.iceoryx2_rounds.specs.CallWords.{RefusedOpenOrCreateGivesBack}
use Rattle.iceoryx2_rounds.specs.Leaves.{GivesBackByRounds, no_round, one_more, KeepsInTheEnd}

module _ {node : ℕ} {hash : ServiceHash} where
  -- a refused open gives back by rounds
  pub tags_back : {w : List Letter} → GivesTagsBack node hash w → GivesBackByRounds node hash w
  tags_back fronts.no_round = no_round
  tags_back (fronts.one_more tag before g _) = one_more (tags_back before) g

  then_rounds : {u v : List Letter} → GivesBackByRounds node hash u → GivesBackByRounds node hash v → GivesBackByRounds node hash (u ++ v)
  then_rounds {u} first no_round = subst (GivesBackByRounds node hash) (sym (append-nil u)) first
  then_rounds {u} first (one_more {u = x} {v = y} before g) = subst (GivesBackByRounds node hash) (append_assoc u x y) (one_more (then_rounds first before) g)

  one_round : {E C : Type 0} {m : PatternRules E C} {u v : List Letter} {o : Outcome E} → IsLookWord m node hash u o → GivesBackByRounds node hash v → GivesBackByRounds node hash (u ++ v)
  one_round l more = then_rounds (one_more no_round (look_gives_back l)) more

module _ {D E C : Type 0} {c : BuilderCall D E C} where
  turn_gives_back : {next : D} {w : List Letter} → IsRetriedAttempt c w next → GivesBackByRounds c.caller.node c.caller.hash w
  turn_gives_back (open_retried l o _) = one_round l (tags_back (refused_open_keeps o))
  turn_gives_back (create_retried l m _) = one_round l (one_more no_round (refused_create_keeps m))

  last_gives_back : {w : List Letter} {refusal : OpenOrCreateRefusal E C} → IsLastAttempt c w (Err refusal) → GivesBackByRounds c.caller.node c.caller.hash w
  last_gives_back (look_faulty l) = one_more no_round (look_gives_back l)
  last_gives_back (not_opened l o _) = one_round l (tags_back (refused_open_keeps o))
  last_gives_back (not_created l m _) = one_round l (one_more no_round (refused_create_keeps m))

  then_ends : {u v : List Letter} {r : Registered} → GivesBackByRounds c.caller.node c.caller.hash u → IsLastAttempt c v (Ok r) → KeepsInTheEnd c.caller.node c.caller.hash (u ++ v) r.number
  then_ends {u} back (opened {u = x} {v = y} l o) = record { before = u ++ x; in_the_end = y; is_word = sym (append_assoc u x y); gives_back = one_more back (look_gives_back l); keeps = inr (opened_keeps o) }
  then_ends {u} back (created {u = x} {v = y} l m) = record { before = u ++ x; in_the_end = y; is_word = sym (append_assoc u x y); gives_back = one_more back (look_gives_back l); keeps = inl (created_keeps m) }

module _ {D E C : Type 0} {c : BuilderCall D E C} where
  pub turns_give_back : {asked : D} {k : ℕ} {w : List Letter} → AreRetriedAttempts c k w asked → GivesBackByRounds c.caller.node c.caller.hash w
  turns_give_back no_attempt = no_round
  turns_give_back (words.one_more before t) = then_rounds (turns_give_back before) (turn_gives_back t)

  pub refused_gives_back : {w : List Letter} {refusal : OpenOrCreateRefusal E C} → IsOpenOrCreateWord c w (Err refusal) → GivesBackByRounds c.caller.node c.caller.hash w
  refused_gives_back (ended small before t) = then_rounds (turns_give_back before) (last_gives_back t)
  refused_gives_back (in_flux before) = turns_give_back before

  pub granted_keeps : {w : List Letter} {r : Registered} → IsOpenOrCreateWord c w (Ok r) → KeepsInTheEnd c.caller.node c.caller.hash w r.number
  granted_keeps (ended small before t) = then_ends (turns_give_back before) t

module _ {D E C : Type 0} (c : BuilderCall D E C) where
  pub refused_call_gives_back : {w : List Letter} {refusal : OpenOrCreateRefusal E C} → RefusedOpenOrCreateGivesBack c w refusal
  refused_call_gives_back call = refused_call (GivesBackByRounds c.caller.node c.caller.hash) no_round (λ w refusal is. refused_gives_back is) call
