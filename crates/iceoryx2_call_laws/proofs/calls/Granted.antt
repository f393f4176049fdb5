-- What a granted call gives: a factory that stands, with a new ticket, which is added.
use Rattle.std.proofs.Common.{ℕ, ◌≤◌, Bool, false, List, [], ◌∷◌, ◌++◌, Ok, arith}
use Rattle.std.specs.FinMap as map
use Rattle.iceoryx2_description.specs.declared.description.ServiceHash.{ServiceHash}
use Rattle.iceoryx2_description.specs.Description.{Description}
use Rattle.iceoryx2_access.specs.declared.storage.Tag.{Tag}
use Rattle.iceoryx2_access.specs.Letter.{Letter}
use Rattle.iceoryx2_access.specs.Letter as letter
use Rattle.iceoryx2_access.specs.Registered.{Registered}
use Rattle.iceoryx2_access.specs.Run.{Run, next}
use Rattle.iceoryx2_access.proofs.Run.{split, head, last}
use Rattle.iceoryx2_world.specs.World.{World}
use Rattle.iceoryx2_world.specs.Agreement.{Agrees}
use Rattle.iceoryx2_world.specs.Interference.{IsFallibleUnder, SameTickets}
use Rattle.iceoryx2_world.specs.Standing.{Stands, ticket_for}
use Rattle.iceoryx2_world.proofs.agreement.Accesses.{faulty_keeps, run_keeps}
use Rattle.iceoryx2_world.proofs.agreement.Calm.{Tame, ends, goes, locks}
use Rattle.iceoryx2_world.proofs.agreement.Stands.{created_stands, found_stands}
use Rattle.iceoryx2_rounds.specs.PatternRules.{PatternRules}
use Rattle.iceoryx2_rounds.specs.Creates.{IsServiceWord, IsCreating, made, published}
use Rattle.iceoryx2_rounds.specs.Looks.{fetched, fits}
use Rattle.iceoryx2_rounds.specs.Opens as opens
use Rattle.iceoryx2_rounds.specs.Opens.{ready, IsLastRound, IsOpenWord}
use Rattle.iceoryx2_rounds.specs.BuilderCalls.{BuilderCall}
use Rattle.iceoryx2_rounds.specs.OpenOrCreates.{IsLastAttempt, opened, created, IsOpenOrCreateWord, ended}
use Rattle.iceoryx2_rounds.proofs.Left.{turns_give_back}
use Rattle.iceoryx2_call_laws.proofs.calls.Tickets.{tame_tickets, publish_tickets, opening_tickets, given_ticket, then_put}
use Rattle.iceoryx2_call_laws.proofs.calls.Tracked.{making_tame, look_tame, entry_tame, rounds_tame, rounds_back_tame}

module _ (own : ℕ → Bool) where
  -- from w to v
  pub record Gives (r : Registered) (w v : World) : Type 0 where
    pub stands : Stands v r
    pub ticket : w.counter ≤ r.ticket
    pub tickets : SameTickets own (map.insert w.tickets r.ticket (ticket_for r)) v.tickets

  abbrev pub EachGives : List Letter → Registered → Type 0
  EachGives word r = (w v : World) → Run (IsFallibleUnder own) w word v → Agrees w → Gives r w v

module _ {own : ℕ → Bool} {node : ℕ} {hash : ServiceHash} where
  -- also after accesses that give nothing
  then_gives : {x y : List Letter} {r : Registered} → Tame node hash false x false → EachGives own y r → EachGives own (x ++ y) r
  then_gives {x} {y} {r} tame gives w v run old =
      let parts = split x y run in
      let before = run_keeps parts.first old in
      let g = gives parts.mid v parts.second before.0 in
      record {
        stands = g.stands;
        ticket = grind (arith, before.1.counter, g.ticket);
        tickets = then_put w parts.mid v r.ticket (ticket_for r) (tame_tickets tame parts.first old) g.tickets;
      }

module _ {own : ℕ → Bool} {E C : Type 0} {m : PatternRules E C} {node : ℕ} {hash : ServiceHash} where
  service_gives : {d : Description} {tag : Tag} {word : List Letter} {r : Registered} → IsServiceWord m node hash d tag word (Ok r) → EachGives own word r
  service_gives {d} (published {v = y} n t segment) w v run old =
      let new = created_stands w v node hash n d t y run old in
      let lock = head run in
      let parts = split y (letter.Publish node hash n d (Ok t) ∷ []) lock.rest in
      let front = next lock.first parts.first in
      record {
        stands = new.0;
        ticket = new.2;
        tickets = given_ticket node hash w parts.mid v n d t new.1 (tame_tickets {b = false} (locks (making_tame segment)) front old) (publish_tickets parts.mid v node hash n d t (last parts.second) (run_keeps {own = own} front old).0);
      }

  pub created_gives : {stops : Bool} {d : Description} {word : List Letter} {r : Registered} → IsCreating m node hash stops d word (Ok r) → EachGives own word r
  created_gives (made _ _ entry service) = then_gives (entry_tame entry) (service_gives service)

  round_gives : {word : List Letter} {r : Registered} → IsLastRound m node hash word (Ok r) → EachGives own word r
  round_gives (opens.opened {n = n} {d = d} t (ready tag (fetched {there} may (fits {bytes = b} form same misfit)) accepted)) w v run old =
      let first = head run in
      let looked = faulty_keeps w (letter.Exists hash there) first.mid first.first old in
      let new = found_stands first.mid v node hash n d b t (letter.MakeTag node hash (Ok tag) ∷ []) first.rest form same looked.0 in
      let front = letter.Exists hash there ∷ (letter.Fetch node hash (Ok (n, b)) ∷ (letter.MakeTag node hash (Ok tag) ∷ [])) in
      let parts = split front (letter.OpenSegment node hash n (Ok t) ∷ []) run in
      record {
        stands = new.0;
        ticket = grind (arith, looked.1.counter, new.1);
        tickets = given_ticket node hash w parts.mid v n d t same (tame_tickets {node = node} {hash = hash} {b = false} (goes tt (goes tt (goes tt ends))) parts.first old) (opening_tickets parts.mid v node hash n t (last parts.second) (run_keeps {own = own} parts.first old).0);
      }

  pub opened_gives : {word : List Letter} {r : Registered} → IsOpenWord m node hash word (Ok r) → EachGives own word r
  opened_gives (opens.ended small before l) = then_gives (rounds_tame before) (round_gives l)

module _ {own : ℕ → Bool} {D E C : Type 0} {c : BuilderCall D E C} where
  turn_gives : {word : List Letter} {r : Registered} → IsLastAttempt c word (Ok r) → EachGives own word r
  turn_gives (opened l o) = then_gives (look_tame l) (opened_gives o)
  turn_gives (created l m) = then_gives (look_tame l) (created_gives m)

module _ {own : ℕ → Bool} {D E C : Type 0} {c : BuilderCall D E C} where
  pub granted_gives : {word : List Letter} {r : Registered} → IsOpenOrCreateWord c word (Ok r) → EachGives own word r
  granted_gives (ended small before t) = then_gives (rounds_back_tame (turns_give_back before)) (turn_gives t)
