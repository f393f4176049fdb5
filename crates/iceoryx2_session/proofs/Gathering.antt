-- The tickets of the factories that slots hold, gathered slot by slot.
use Rattle.std.proofs.Common.{◌≡◌, ◌≤◌, ◌<◌, ◌+◌, ℕ, List, [], ◌∷◌, ◌++◌, Option, Some, None, length, take, set, refl, sym, ap, ◌∙◌, subst, arith}
use Rattle.std.proofs.lemmas.List.{append-nil, length-set, take_more, take_more_set, take_all}
use Rattle.std.specs.Prelude.{get_or}
use Rattle.iceoryx2_access.specs.Registered.{Registered}
use Rattle.iceoryx2_session.specs.Slots.{tickets_of}

-- those of these slots stand in front
pub record Gathers (places : List (Option Registered)) (i n : ℕ) (ts : List ℕ) : Type 0 where
  pub gathered : take n ts ≡ tickets_of (take i places)
  pub count : n ≤ i
  pub room : length ts ≡ 64

tickets_append : (xs ys : List (Option Registered)) → tickets_of (xs ++ ys) ≡ tickets_of xs ++ tickets_of ys
tickets_append [] ys = refl
tickets_append (None ∷ xs) ys = tickets_append xs ys
tickets_append (Some f ∷ xs) ys = ap (λ (ts : List ℕ). f.ticket ∷ ts) (tickets_append xs ys)

next_tickets : (places : List (Option Registered)) (i : ℕ) (o d : Option Registered) → i < length places → get_or places i d ≡ o → tickets_of (take (i + 1) places) ≡ tickets_of (take i places) ++ tickets_of (o ∷ [])
next_tickets places i o d lt is =
    ap tickets_of (take_more places i d lt) ∙ ap (λ (x : Option Registered). tickets_of (take i places ++ x ∷ [])) is ∙ tickets_append (take i places) (o ∷ [])

module _ {places : List (Option Registered)} {i n : ℕ} {ts : List ℕ} where
  with_one : (f : Registered) (d : Option Registered) (t : ℕ) → Gathers places i n ts → i < length places → length places ≡ 64 → get_or places i d ≡ Some f → t ≡ f.ticket → Gathers places (i + 1) (n + 1) (set ts n t)
  with_one f d t g lt long is same = record {
    gathered = take_more_set ts n t (omega (arith, g.count, g.room, lt, long)) ∙ ap (λ (xs : List ℕ). xs ++ t ∷ []) g.gathered ∙ ap (λ (x : ℕ). tickets_of (take i places) ++ x ∷ []) same ∙ sym (next_tickets places i (Some f) d lt is);
    count = omega (arith, g.count);
    room = length-set ts n t ∙ g.room;
  }

  pub one_more : {m : ℕ} {us : List ℕ} (f : Registered) (d : Option Registered) (t : ℕ) → Gathers places i n ts → i < length places → length places ≡ 64 → get_or places i d ≡ Some f → t ≡ f.ticket
      → us ≡ set ts n t → m ≡ n + 1 → Gathers places (i + 1) m us
  one_more {us = us} f d t g lt long is same list count =
      subst (λ k. Gathers places (i + 1) k us) (sym count) (subst (λ xs. Gathers places (i + 1) (n + 1) xs) (sym list) (with_one f d t g lt long is same))

  pub none_more : {m : ℕ} {us : List ℕ} (d : Option Registered) → Gathers places i n ts → i < length places → get_or places i d ≡ None → us ≡ ts → m ≡ n → Gathers places (i + 1) m us
  none_more {us = us} d g lt is list count = record {
    gathered = ap (λ k. take k us) count ∙ ap (take n) list ∙ g.gathered ∙ sym (append-nil (tickets_of (take i places))) ∙ sym (next_tickets places i None d lt is);
    count = omega (arith, g.count, count);
    room = ap length list ∙ g.room;
  }

  pub all_gathered : Gathers places i n ts → length places ≤ i → take n ts ≡ tickets_of places
  all_gathered g le = g.gathered ∙ ap tickets_of (take_all i places le)
