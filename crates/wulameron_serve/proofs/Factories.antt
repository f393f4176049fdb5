-- What a call gives is held, or nothing is.
use Rattle.std.proofs.Common.{◌≡◌, ℕ, List, Option, Result, Err, subst}
use Rattle.iceoryx2_access.specs.Letter.{Letter}
use Rattle.iceoryx2_builder.specs.declared.command.Call.{Call}
use Rattle.iceoryx2_builder.specs.declared.command.Command.TheVariants as command
use Rattle.iceoryx2_builder.specs.declared.command.Reply.{Reply}
use Rattle.iceoryx2_builder.specs.declared.command.Reply.TheVariants as reply
use Rattle.iceoryx2_monitoring.specs.declared.state.NodeStatus.{NodeStatus}
use Rattle.iceoryx2_session.specs.CommandWords.{AppliesHeld}
use Rattle.iceoryx2_session.specs.Sessions.{SessionOver}
use Rattle.iceoryx2_world.specs.World.{World}
use Rattle.wulameron_serve.specs.declared.holding.HoldError.{HoldError}
use Rattle.wulameron_serve.specs.declared.holding.HoldError.TheVariants as hold
use Rattle.wulameron_serve.specs.Holding.{Holds, HoldsMade, IsFactoryOf, held, refused, not_made}

pub held_by : {S : Type 0} (settles shows spans : S → S → Type 0) (step : S → Letter → S → Type 0) (world : S → World) (states : List NodeStatus) (call : Call) (old mid new : SessionOver S) (answer : Reply) (slot number : ℕ)
    (r : Result (Unit {0}) HoldError) (a b : Option (List ℕ)) → AppliesHeld spans step world old (command.Call call) answer mid → answer ≡ reply.Opened slot number
    → HoldsMade settles shows spans step world states slot number mid new r a b → Holds settles shows spans step world states call old new r a b
held_by settles shows spans step world states call old mid new answer slot number r a b goes is made =
    held slot number mid (subst (λ (x : Reply). AppliesHeld spans step world old (command.Call call) x mid) is goes) made

pub unheld_by : {S : Type 0} (settles shows spans : S → S → Type 0) (step : S → Letter → S → Type 0) (world : S → World) (states : List NodeStatus) (call : Call) (old new : SessionOver S) (answer : Reply)
    (r : Result (Unit {0}) HoldError) (a b : Option (List ℕ)) (why : HoldError) → AppliesHeld spans step world old (command.Call call) answer new → IsFactoryOf answer (Err why)
    → r ≡ Err why → b ≡ a → Holds settles shows spans step world states call old new r a b
unheld_by settles shows spans step world states call old new answer r a b (hold.Refused x) goes is ends same =
    refused x (subst (λ (y : Reply). AppliesHeld spans step world old (command.Call call) y new) is goes) ends same
unheld_by settles shows spans step world states call old new answer r a b hold.NotMade goes is ends same = not_made answer goes ends same
unheld_by settles shows spans step world states call old new answer r a b (hold.Unshown x) goes is ends same = absurd is
unheld_by settles shows spans step world states call old new answer r a b (hold.Reading x) goes is ends same = absurd is
unheld_by settles shows spans step world states call old new answer r a b hold.NotClosed goes is ends same = absurd is
unheld_by settles shows spans step world states call old new answer r a b hold.Lost goes is ends same = absurd is
