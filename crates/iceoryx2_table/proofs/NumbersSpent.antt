-- Numbers that are spent, one after the other.
use Rattle.std.proofs.Common.{◌≡◌, ℕ, zero, suc, ◌+◌, ◌-◌, ◌<◌, ◌≤◌, inl, inr, Bool, true, false, cond, Option, Some, None, Result, Ok, [], refl, sym, ap, subst, ◌∙◌, arith}
use Rattle.std.specs.Prelude.{is_ok, is_some, nat_lt, if◌then◌else◌}
use Rattle.std.specs.Cmp.{IsTotalOrder, Equal-is}
use Rattle.std.specs.FinMap as map
use Rattle.std.specs.FinMap.{IsAntisymmetric, same_map}
use Rattle.std.specs.Ordering.{eq_by_cmp}
use Rattle.std.specs.declared.cmp.Ordering.{Ordering}
use Rattle.std.proofs.lemmas.Bool.Decides.{nat_tests}
use Rattle.iceoryx2_description.specs.declared.description.ServiceHash.{ServiceHash}
use Rattle.iceoryx2_access.specs.Letter as letter
use Rattle.iceoryx2_access.specs.Run.{Run, Each, done, next}
use Rattle.iceoryx2_access.specs.declared.storage.LockError.TheVariants as Locking
use Rattle.iceoryx2_access.specs.declared.storage.RemoveError.{RemoveError}
use Rattle.iceoryx2_access.specs.declared.storage.RemoveError.TheVariants as Removing
use Rattle.iceoryx2_world.specs.declared.world.Participant.TheVariants.{Node}
use Rattle.iceoryx2_world.specs.declared.world.Phase.{Phase}
use Rattle.iceoryx2_world.specs.declared.world.Phase.TheVariants as at
use Rattle.iceoryx2_world.specs.declared.world.Row.{Row}
use Rattle.iceoryx2_world.specs.declared.world.Row.TheVariants as row
use Rattle.iceoryx2_world.specs.Access.{Change, IsOwnPart, lock_of, or_refused, own_step, view_becomes, write}
use Rattle.iceoryx2_world.specs.Acts as act
use Rattle.iceoryx2_world.specs.Orders.{hash_total, hash_exact, place_total, place_exact}
use Rattle.iceoryx2_world.specs.Steps.{ServiceView, last_number, to_view}
use Rattle.iceoryx2_world.specs.World.{World, Segment, or_idle, phase_of, row_of, segment_of}
use Rattle.iceoryx2_world.proofs.AccessCases.{answered, surely_answered}
use Rattle.iceoryx2_world.proofs.agreement.Worlds.{place_cases}
use Rattle.iceoryx2_table.specs.Spending.{Spends, LocksOrGivesUp, SpendingIsLocking, locks_and_gives_up}
use Rattle.iceoryx2_table.specs.declared.services.Position.{Position}
use Rattle.iceoryx2_table.specs.ServicesState.{ServicesState, position_in, world_with}
use Rattle.iceoryx2_table.proofs.OwnParts.{services_of}
use Rattle.iceoryx2_table.proofs.Views.{kept, none_of, there_by_place}

-- what is put where nothing was, and taken away, leaves all as it was
module _ {K X : Type 0} {R : K → K → Ordering} (o : IsTotalOrder R) (exact : IsAntisymmetric R) where
  taken_back : (m : map.FinMap R X) (k : K) (v : X) → map.get m k ≡ None → map.remove (map.insert m k v) k ≡ m
  taken_back m k v absent = same_map o exact _ _ (λ q. map.get-remove o (map.insert m k v) k q
      ∙ ap (cond (eq_by_cmp R q k) None) (map.get-insert o m k v q)
      ∙ elim (eq_by_cmp R q k) as (λ b. eq_by_cmp R q k ≡ b → cond b None (cond b (Some v) (map.get m q)) ≡ map.get m q) [
        | true ↦ λ e. sym (ap (map.get m) (exact q k ((Equal-is (R q k)).0 e)) ∙ absent)
        | false ↦ λ e. refl
      ] refl)

module _ (i : ℕ) (h : ServiceHash) where
  abbrev locked_view : Option Segment → ℕ → ServiceView
  locked_view s c = record { phase = at.Locked c; row = Some (row.Locked c); segment = s; counter = c + 1 }

  lock_is : (x : Phase) (r : Option Row) (s : Option Segment) (c : ℕ) → x ≡ at.Idle → r ≡ None → nat_lt c last_number ≡ true → lock_of i h (record { phase = x; row = r; segment = s; counter = c }) r ≡ Ok (c, view_becomes (locked_view s c))
  lock_is x r s c idle absent less =
      (λ k. lock_of i h (record { phase = idle k; row = absent k; segment = s; counter = c }) (absent k))
      ∙ ap (λ (b : Bool). or_refused Locking.Other c (if b then to_view (at.Locked c) (Some (row.Locked c)) s (c + 1) else None)) less

  removal_is : (x : Phase) (r : Option Row) (s : Option Segment) (c n : ℕ) → x ≡ at.Locked n → ◌≡◌ {A = Result (Unit {0} × Change) RemoveError} (or_refused Removing.Other tt (own_step i h act.RemoveDescription (record { phase = x; row = r; segment = s; counter = c }))) (Ok (tt, view_becomes (record { phase = at.Idle; row = None; segment = s; counter = c })))
  removal_is x r s c n locked = λ k. or_refused Removing.Other tt (own_step i h act.RemoveDescription (record { phase = locked k; row = r; segment = s; counter = c }))

  module _ (w : World) (less : w.counter < last_number) (absent : row_of w h ≡ None) (idle : map.get w.phases (Node i, h) ≡ None) where
    -- the world between the lock and the removal
    abbrev between : World
    between = write w i h (view_becomes (locked_view (segment_of w h) w.counter))

    abbrev after : World
    after = record w { counter = w.counter + 1 }

    lock_part : IsOwnPart w (letter.Lock i h (Ok w.counter)) between
    lock_part = record {
      change = view_becomes (locked_view (segment_of w h) w.counter);
      own = answered Locking.OutOfMemory (lock_is (phase_of w (Node i) h) (row_of w h) (segment_of w h) w.counter (ap or_idle idle) absent (grind (arith, nat_tests, less)));
      is = refl;
    }

    is_locked : phase_of between (Node i) h ≡ at.Locked w.counter
    is_locked = elim (place_cases w (Node i) h (locked_view (segment_of w h) w.counter) (Node i) h) [
      | inl e ↦ e.2
      | inr e ↦ absurd (e.0 refl refl)
    ]

    given_up : after ≡ write between i h (view_becomes (record { phase = at.Idle; row = None; segment = segment_of between h; counter = between.counter }))
    given_up = λ k. record {
      rows = sym (taken_back hash_total hash_exact w.rows h (row.Locked w.counter) absent) k;
      segments = (kept hash_total hash_exact w.segments h ∙ kept hash_total hash_exact between.segments h) k;
      phases = sym (taken_back place_total place_exact w.phases (Node i, h) (at.Locked w.counter) idle) k;
      tags = w.tags;
      tickets = w.tickets;
      counter = w.counter + 1;
    }

    removal_part : IsOwnPart between (letter.RemoveDescription i h (Ok tt)) after
    removal_part = record {
      change = view_becomes (record { phase = at.Idle; row = None; segment = segment_of between h; counter = between.counter });
      own = surely_answered (removal_is (phase_of between (Node i) h) (row_of between h) (segment_of between h) between.counter w.counter is_locked);
      is = given_up;
    }

  all_spent : (k : ℕ) (w : World) (n : ℕ) → n ≡ w.counter + k → n ≤ last_number → row_of w h ≡ None → map.get w.phases (Node i, h) ≡ None → Run IsOwnPart w (locks_and_gives_up i h w.counter k) (record w { counter = n })
  all_spent zero w n e le absent idle =
      let same : w.counter ≡ n = omega arith in
      subst (λ v. Run IsOwnPart w [] v) (λ j. record w { counter = same j }) done
  all_spent (suc k) w n e le absent idle =
      let less : w.counter < last_number = omega arith in
      next (lock_part w less absent idle) (next (removal_part w less absent idle) (all_spent k (after w less absent idle) n (omega arith) le absent idle))

  each_letter : (c k : ℕ) → Each (LocksOrGivesUp i h) (locks_and_gives_up i h c k)
  each_letter c zero = tt
  each_letter c (suc k) = (inl (c, refl), (inr refl, each_letter (c + 1) k))

pub spending_is_locking : SpendingIsLocking
spending_is_locking i h n old new s = (
  subst (λ v. Run IsOwnPart old (locks_and_gives_up i h old.counter (n - old.counter)) v) (sym s.spent)
      (all_spent i h (n - old.counter) old n (let le = s.rises in omega arith) s.last s.absent s.idle),
  each_letter i h old.counter (n - old.counter),
)

-- a is the world as it is read in the fields, and w is its value
module _ {a w : World} (i : ℕ) (h : ServiceHash) (is : a ≡ w) {q : Position} (found : q ≡ position_in a.phases (Node i, h)) where
  there : {y : Bool} → is_ok q.place ≡ y → is_some (map.get w.phases (Node i, h)) ≡ y
  there e = ap (λ (x : World). is_some (map.get x.phases (Node i, h))) (sym is) ∙ there_by_place a.phases (Node i, h) (ap (λ (x : Position). x.place) found) e

  pub not_idle : is_ok q.place ≡ true → map.get w.phases (Node i, h) ≡ None → ⊥
  not_idle e idle = let t = there e in absurd (cc)

  pub is_spent : {b : ServicesState} {n : ℕ} → is_ok q.place ≡ false → a.counter ≤ n → n ≤ last_number → row_of a h ≡ None → b ≡ record (services_of a) { counter = n } → Spends i h n w (world_with b a.tags a.tickets)
  is_spent {n = n} e rises last absent went = record {
    rises = subst (λ (x : World). x.counter ≤ n) is rises;
    last = last;
    absent = ap (λ (x : World). row_of x h) (sym is) ∙ absent;
    idle = none_of _ (there e);
    spent = ap (λ x. world_with x a.tags a.tickets) went ∙ ap (λ (x : World). record x { counter = n }) is;
  }
