-- What is so of each of a builder's three calls.
use Rattle.std.proofs.Common.{◌≡◌, ◌⊎◌, ℕ, Bool, true, false, List, [], Result, Ok, Err, inl, inr, refl, ap}
use Rattle.iceoryx2_description.specs.Description.{Description}
use Rattle.iceoryx2_access.specs.Registered.{Registered}
use Rattle.iceoryx2_access.specs.Letter.{Letter}
use Rattle.iceoryx2_access.specs.Run.{Each}
use Rattle.iceoryx2_rounds.specs.Prepared.{IsPrepared, prepared}
use Rattle.iceoryx2_rounds.proofs.Prepared.{granted_call}
use Rattle.iceoryx2_rounds.proofs.Carried.{created_carries, opened_carries}
use Rattle.iceoryx2_rounds.proofs.Counts.{create_call_within, open_call_within}
use Rattle.iceoryx2_rounds.proofs.Kept.{refused_create_call_keeps, created_keeps, refused_open_call_keeps, opened_keeps}
use Rattle.iceoryx2_rounds.specs.Adjusting.{MeetsOrHolds, meets, holds}
use Rattle.iceoryx2_rounds.specs.Grants.{Carries, accepted, published}
use Rattle.iceoryx2_rounds.specs.BuilderCalls.{BuilderCall, ErrorBy, Way, ToCreate, ToOpen, ToOpenOrCreate, creating, opening}
use Rattle.iceoryx2_rounds.specs.CallWords.{PreparedIf, IsWordBy}
use Rattle.iceoryx2_rounds.specs.Leaves.{GivesBackByRounds, no_round, one_more, KeepsInTheEnd}
use Rattle.iceoryx2_rounds.proofs.Adjusting.{carries_once}
use Rattle.iceoryx2_rounds.proofs.RetriedCounts.{open_or_create_call_within}
use Rattle.iceoryx2_rounds.proofs.Granted.{granted_carries, carries_prepared}
use Rattle.iceoryx2_rounds.proofs.Left.{tags_back, granted_keeps, refused_call_gives_back}
use Rattle.iceoryx2_call_laws.specs.AnyCalls.{Meets, IsAsPublished, MayCarryBy}
use Rattle.iceoryx2_call_laws.specs.Laws.{EachIsShort}
use Rattle.iceoryx2_call_laws.proofs.calls.Granted.{EachGives, created_gives, opened_gives, granted_gives}
use Rattle.iceoryx2_call_laws.proofs.calls.Tracked.{rounds_back_letters, in_the_end_letters}
use Rattle.iceoryx2_call_laws.proofs.calls.Words.{IsNoRelease}

-- a word of a call that doesn't prepare is one of a call that may
pub may_prepare : {E : Type 0} (b : Bool) {no_memory : E} {IsWord : List Letter → Result Registered E → Type 0} {word : List Letter} {answer : Result Registered E} → PreparedIf b no_memory IsWord word answer → IsPrepared no_memory IsWord word answer
may_prepare true is = is
may_prepare false is = prepared is

granted : {E : Type 0} (b : Bool) (no_memory : E) (IsWord : List Letter → Result Registered E → Type 0) {word : List Letter} {r : Registered} → PreparedIf b no_memory IsWord word (Ok r) → IsWord word (Ok r)
granted b no_memory IsWord is = granted_call (may_prepare b is)

module _ {D E C : Type 0} (c : BuilderCall D E C) where
  pub each_is_short : (way : Way) → EachIsShort c way
  each_is_short ToCreate word answer is = create_call_within (creating c) c.caller.node c.caller.hash (may_prepare c.prepares is)
  each_is_short ToOpen word answer is = open_call_within (opening c) c.caller.node c.caller.hash (may_prepare c.prepares is)
  each_is_short ToOpenOrCreate word answer is = open_or_create_call_within c (may_prepare c.prepares is)

  -- ---- what a refused one gives back and a granted one keeps

  pub refused_rounds : (way : Way) (word : List Letter) (refusal : ErrorBy E C way) → IsWordBy c way word (Err refusal) → GivesBackByRounds c.caller.node c.caller.hash word
  refused_rounds ToCreate word refusal is = one_more no_round (refused_create_call_keeps (may_prepare c.prepares is))
  refused_rounds ToOpen word refusal is = tags_back (refused_open_call_keeps (may_prepare c.prepares is))
  refused_rounds ToOpenOrCreate word refusal is = refused_call_gives_back c (may_prepare c.prepares is)

  pub granted_in_the_end : (way : Way) (word : List Letter) (r : Registered) → IsWordBy c way word (Ok r) → KeepsInTheEnd c.caller.node c.caller.hash word r.number
  granted_in_the_end ToCreate word r is = record { before = []; in_the_end = word; is_word = refl; gives_back = no_round; keeps = inl (created_keeps (granted c.prepares _ _ is)) }
  granted_in_the_end ToOpen word r is = record { before = []; in_the_end = word; is_word = refl; gives_back = no_round; keeps = inr (opened_keeps (granted c.prepares _ _ is)) }
  granted_in_the_end ToOpenOrCreate word r is = granted_keeps (granted c.prepares _ _ is)

  -- none releases a ticket
  pub any_letters : (way : Way) (word : List Letter) (answer : Result Registered (ErrorBy E C way)) → IsWordBy c way word answer → Each IsNoRelease word
  any_letters way word (Ok r) is = in_the_end_letters (granted_in_the_end way word r is)
  any_letters way word (Err e) is = rounds_back_letters (refused_rounds way word e is)

  -- ---- what a granted one has given

  pub any_gives : {own : ℕ → Bool} (way : Way) (word : List Letter) (r : Registered) → IsWordBy c way word (Ok r) → EachGives own word r
  any_gives ToCreate word r is = created_gives (granted c.prepares _ _ is)
  any_gives ToOpen word r is = opened_gives (granted c.prepares _ _ is)
  any_gives ToOpenOrCreate word r is = granted_gives (granted c.prepares _ _ is)

  pub record IsOfCall (way : Way) (r : Registered) : Type 0 where
    pub node : r.node ≡ c.caller.node
    pub hash : r.description.hash ≡ c.caller.hash
    pub carries : MayCarryBy c way r.description

  carries_hash : {d : Description} → Carries c d → d.hash ≡ c.caller.hash
  carries_hash (accepted is same a) = same
  carries_hash (published is) = refl

  carried : {d : Description} → MeetsOrHolds c d → Meets c d ⊎ IsAsPublished c d
  carried (meets same accepts) = inl (record { hash = same; accepted = accepts })
  carried holds = inr refl

  pub any_carries : (way : Way) (word : List Letter) (r : Registered) → IsWordBy c way word (Ok r) → IsOfCall way r
  any_carries ToCreate word r is = let k = created_carries (granted c.prepares _ _ is) in record { node = k.0; hash = ap (λ (d : Description). d.hash) k.1; carries = k.1 }
  any_carries ToOpen word r is = let k = opened_carries (granted c.prepares _ _ is) in record {
    node = k.node_is;
    hash = k.hash_is;
    carries = record { hash = k.hash_is; accepted = record { fits = k.fits; meets = k.accepted } };
  }
  any_carries ToOpenOrCreate word r is =
      let k = granted_carries (granted c.prepares _ _ is) in
      let own = carries_prepared c k.1 in
      record { node = k.0; hash = carries_hash own; carries = λ raises. carried (carries_once raises own) }
