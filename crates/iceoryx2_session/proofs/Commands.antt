-- What the code of a session does to its state, exit by exit.
use Rattle.std.proofs.Common.{◌≡◌, ℕ, List, Option, Some, None, Ok, Err, sym, ap, subst, ◌∙◌}
use Rattle.std.specs.Prelude.{slice_set}
use Rattle.iceoryx2_access.specs.Letter.{Letter}
use Rattle.iceoryx2_access.specs.Registered.{Registered}
use Rattle.iceoryx2_access.specs.Run.{Joins}
use Rattle.iceoryx2_errors.specs.declared.error.CloseError.{CloseError}
use Rattle.iceoryx2_errors.specs.declared.error.CloseError.TheVariants.{NotHere}
use Rattle.iceoryx2_call_laws.specs.Tickets.{CloseAnswer}
use Rattle.iceoryx2_rounds.specs.Closes.{IsCloseWord}
use Rattle.iceoryx2_rounds.proofs.HandedBack.{handed_back}
use Rattle.iceoryx2_world.specs.World.{World}
use Rattle.iceoryx2_builder.specs.declared.command.Call.{Call}
use Rattle.iceoryx2_builder.specs.declared.command.Command.TheVariants as command
use Rattle.iceoryx2_errors.specs.declared.refusal.Refusal.{Refusal}
use Rattle.iceoryx2_builder.specs.declared.command.Reply.TheVariants as reply
use Rattle.iceoryx2_session.specs.Patterns.{builder_call}
use Rattle.iceoryx2_session.specs.Slots.{FreeAt, HoldsAt}
use Rattle.iceoryx2_session.specs.Sessions.{SessionOver, BuildsBy, LetsGoBy, ClosesOrHandsBackBy, AppliesBy}
use Rattle.iceoryx2_session.specs.Sessions as goes
use Rattle.iceoryx2_session.proofs.Places.{set_same, set_again}

abbrev failed : CloseError Registered → CloseAnswer
failed e = Err e

abbrev not_released : Registered → CloseAnswer
not_released f = Err (NotHere f)

-- a close that hands a factory back hands back its own
pub handed_back_by : {S : Type 0} (step : S → Letter → S → Type 0) {s t : S} (f back : Registered) (e : CloseError Registered) → e ≡ NotHere back
    → Joins step s (λ word. IsCloseWord f word (Err e)) t → ClosesOrHandsBackBy step s f (Some back) t
handed_back_by step f back e not_here is =
    let same : back ≡ f = handed_back back (ap failed not_here) is.is_word in
    (same, record { word = is.word; is_word = subst (λ (a : CloseAnswer). IsCloseWord f is.word a) (ap failed not_here ∙ ap not_released same) is.is_word; run = is.run })

module _ {S : Type 0} (step : S → Letter → S → Type 0) (world : S → World) where
  pub calling : (s : SessionOver S) (call : Call) (f : Registered) (n : ℕ) (w : S) (ys : List (Option Registered)) → FreeAt s.slots call.slot
      → BuildsBy step (builder_call s.config call) s.table (Ok f) w → n ≡ f.number → ys ≡ slice_set s.slots call.slot (Some f)
      → AppliesBy step world s (command.Call call) (reply.Opened call.slot n) (record s { table = w; slots = ys })
  calling s call f n w ys free is number slots =
      subst (λ (l : List (Option Registered)). AppliesBy step world s (command.Call call) (reply.Opened call.slot n) (record s { table = w; slots = l })) (sym slots)
      (subst (λ (m : ℕ). AppliesBy step world s (command.Call call) (reply.Opened call.slot m) (record s { table = w; slots = slice_set s.slots call.slot (Some f) })) (sym number) (goes.called f free is))

  pub refusing : (s : SessionOver S) (call : Call) (e : Refusal) (w : S) (ys : List (Option Registered)) → FreeAt s.slots call.slot
      → BuildsBy step (builder_call s.config call) s.table (Err e) w → ys ≡ s.slots
      → AppliesBy step world s (command.Call call) (reply.Refused e) (record s { table = w; slots = ys })
  refusing s call e w ys free is slots =
      subst (λ (l : List (Option Registered)). AppliesBy step world s (command.Call call) (reply.Refused e) (record s { table = w; slots = l })) (sym slots) (goes.refused free is)

  pub let_go : (s : SessionOver S) (k : ℕ) (f : Registered) (w : S) (ys : List (Option Registered)) → HoldsAt s.slots k f
      → ys ≡ slice_set s.slots k None → LetsGoBy step s.table f w → AppliesBy step world s (command.Close k) (reply.Closed k) (record s { table = w; slots = ys })
  let_go s k f w ys at slots is = subst (λ (l : List (Option Registered)). AppliesBy step world s (command.Close k) (reply.Closed k) (record s { table = w; slots = l })) (sym slots) (goes.closed f at is)

  pub put_back : (s : SessionOver S) (k : ℕ) (f g : Registered) (w : S) (ys zs : List (Option Registered)) → HoldsAt s.slots k f
      → ys ≡ slice_set s.slots k None → zs ≡ slice_set ys k (Some g) → ClosesOrHandsBackBy step s.table f (Some g) w
      → AppliesBy step world s (command.Close k) (reply.NotClosed k) (record s { table = w; slots = zs })
  put_back s k f g w ys zs at taken put is =
      let again : zs ≡ s.slots = put ∙ ap (λ (l : List (Option Registered)). slice_set l k (Some g)) taken
      ∙ ap (λ (h : Registered). slice_set (slice_set s.slots k None) k (Some h)) is.0 ∙ set_again s.slots k None (Some f) at in
      subst (λ (l : List (Option Registered)). AppliesBy step world s (command.Close k) (reply.NotClosed k) (record s { table = w; slots = l })) (sym again) (goes.not_closed f at is.1)

  pub nothing_to_close : (s : SessionOver S) (k : ℕ) (ys : List (Option Registered)) → FreeAt s.slots k → ys ≡ slice_set s.slots k None
      → AppliesBy step world s (command.Close k) reply.SlotEmpty (record s { slots = ys })
  nothing_to_close s k ys free slots = subst (λ (l : List (Option Registered)). AppliesBy step world s (command.Close k) reply.SlotEmpty (record s { slots = l })) (sym (slots ∙ set_same s.slots k None free)) (goes.close_empty free)
