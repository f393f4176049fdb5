-- What follows of calls: refused ones, a create and its close, a node's second factory, an open that is accepted.
use Rattle.std.proofs.Common.{◌≡◌, ℕ, ◌+◌, inl, inr, true, false, cond, Some, None, Ok, Err, refl, sym, ap, subst, ◌∙◌, arith}
use Rattle.std.specs.Prelude.{nat_lt, is_some, unwrap_or}
use Rattle.std.specs.FinMap as map
use Rattle.std.specs.FinMap.{same_map, get-insert, get-remove}
use Rattle.std.specs.Ordering.{is_eq}
use Rattle.std.proofs.lemmas.Bool.Decides.{nat_tests}
use Rattle.iceoryx2_description.specs.declared.description.ServiceHash.{ServiceHash}
use Rattle.iceoryx2_description.specs.Description.{Description}
use Rattle.iceoryx2_world.specs.declared.world.Participant.{Participant}
use Rattle.iceoryx2_world.specs.declared.world.Participant.TheVariants.{Node, Peer}
use Rattle.iceoryx2_world.specs.Orders.{hash_cmp, hash_total, hash_exact}
use Rattle.iceoryx2_world.proofs.agreement.Whole.{same_hash}
use Rattle.iceoryx2_rounds.specs.PatternRules.{PatternRules}
use Rattle.iceoryx2_rounds.specs.Verdict.{verdict}
use Rattle.iceoryx2_access.specs.Registered.{Registered}
use Rattle.iceoryx2_call_laws.specs.Quiet.{QuietService, Quiet, ShowsService, service_at, times_counted, is_counted}
use Rattle.iceoryx2_call_laws.specs.QuietCalls.{Creates, Opens, Closes, closed, HasPlace, first_counts, created_by, opened_by, closed_by, more_counts, fewer_counts, with_service, spend}
use Rattle.iceoryx2_call_laws.specs.QuietCalls as call
use Rattle.iceoryx2_call_laws.specs.QuietLaws.{CreateAndCloseSpend, TakesNoFurtherPlace, OpensWhatItCan}
use Rattle.iceoryx2_call_laws.specs.QuietPrepared.{unprepared, prepared}
use Rattle.iceoryx2_rounds.specs.declared.caller.Caller.{Caller}
use Rattle.iceoryx2_call_laws.proofs.quiet.Prepared.{granted_prepared}
use Rattle.iceoryx2_call_laws.proofs.quiet.Lift.{equal_or_not}
use Rattle.iceoryx2_call_laws.proofs.quiet.Counts.{get_first_own, len_first, len_fewer_less, get_more_own, get_more_other}
use Rattle.iceoryx2_call_laws.proofs.quiet.Same.{same_segment, joined_times, holds_the_same, nothing_at}
use Rattle.iceoryx2_call_laws.proofs.quiet.Calls.{with_service_has}

module _ {E C : Type 0} (m : PatternRules E C) where
  -- a refused call keeps the services
  pub create_refused : (caller : Caller) (q p : Quiet) (e : C) → Creates m q caller (Err e) p → p.services ≡ q.services
  create_refused caller q p e (call.forbidden bad) = refl
  create_refused caller q p e (call.exists x fits there) = refl
  create_refused caller q p e (call.no_time fits gone stops) = refl
  create_refused caller q p e (call.no_number fits gone runs end) = refl
  create_refused caller q p e (call.no_memory fits) = refl
  create_refused caller q p e (call.no_memory_locked fits gone runs room) = refl

  pub open_refused : (i : ℕ) (h : ServiceHash) (q p : Quiet) (e : E) → Opens m q i h (Err e) p → p.services ≡ q.services
  open_refused i h q p e (call.absent gone) = refl
  open_refused i h q p e (call.misfit x there bad) = refl
  open_refused i h q p e (call.not_accepted x there good unfit) = refl
  open_refused i h q p e (call.no_place x there good fits none) = refl
  open_refused i h q p e (call.no_number x there good fits place end) = refl
  open_refused i h q p e (call.no_memory x there) = refl

-- the one node of a new service has closed it
closed_again : (i : ℕ) (d : Description) (n : ℕ) → closed_by i 1 (created_by i d n) ≡ None
closed_again i d n =
    let len = len_fewer_less (first_counts i) i 1 refl (get_first_own i) in
    let none : map.len (fewer_counts (first_counts i) i 1) ≡ 0 = omega (arith, len, len_first i) in
    let gone : nat_lt 0 (map.len (fewer_counts (first_counts i) i 1)) ≡ false = grind (arith, nat_tests, none) in
    ap (λ b. cond b (Some (record { description = d; number = n; counts = fewer_counts (first_counts i) i 1 })) None) gone

-- a service that came has gone
put_and_taken : (q : Quiet) (h : ServiceHash) (x : QuietService) → service_at q h ≡ None → map.remove (map.insert q.services h x) h ≡ q.services
put_and_taken q h x gone = same_map hash_total hash_exact _ _ (λ g. get-remove hash_total (map.insert q.services h x) h g ∙ elim (is_eq (hash_cmp g h)) as (λ b. is_eq (hash_cmp g h) ≡ b → cond b None (map.get (map.insert q.services h x) g) ≡ map.get q.services g) [
  | true ↦ λ e. sym (ap (map.get q.services) (same_hash g h e) ∙ gone)
  | false ↦ λ e. get-insert hash_total q.services h x g ∙ ap (λ b. cond b (Some x) (map.get q.services g)) e
] refl)

close_of_new : (q : Quiet) (i : ℕ) (h : ServiceHash) (d : Description) (z : Quiet) → service_at q h ≡ None → Closes (spend (with_service q h (Some (created_by i d q.counter)))) i h z → (z.counter ≡ q.counter + 1) × (z.services ≡ q.services)
close_of_new q i h d z gone (closed x k there counted) =
    let y = created_by i d q.counter in
    let same : x ≡ y = let is = sym there ∙ with_service_has q h y in cc in
    let one : k ≡ 1 = let is = sym counted ∙ ap (λ z. times_counted z i) same ∙ get_first_own i in cc in
    let none : closed_by i k x ≡ None = (λ j. closed_by i (one j) (same j)) ∙ closed_again i d q.counter in
    (refl, ap (λ o. (with_service (spend (with_service q h (Some y))) h o).services) none ∙ put_and_taken q h y gone)

-- a node that had opened it is counted still
still_counted : (i : ℕ) (x : QuietService) (k : ℕ) → times_counted x i ≡ Some k → (p : Participant) → is_counted (opened_by i x) p ≡ is_counted x p
still_counted i x k e (Node j) = elim (equal_or_not j i) [
  | inl is ↦ ap is_some (ap (times_counted (opened_by i x)) is ∙ get_more_own x.counts i) ∙ sym (ap is_some (ap (times_counted x) is ∙ e))
  | inr other ↦ ap is_some (get_more_other x.counts i j other)
]
still_counted i x k e (Peer j) = refl

module _ {E C : Type 0} (m : PatternRules E C) where
  made_and_gone : (caller : Caller) (q p z : Quiet) (r : Registered) → Creates m q caller (Ok r) p → Closes p r.node r.description.hash z → (service_at q caller.hash ≡ None) × (z.counter ≡ q.counter + 1) × (z.services ≡ q.services)
  made_and_gone caller q p z r (call.created fits gone runs room) c = let back = close_of_new q caller.node caller.hash r.description z gone c in (gone, back.0, back.1)

  -- A create and then the close of its factory leave nothing of the service, and one number is spent.
  pub create_and_close : CreateAndCloseSpend m
  create_and_close caller w v q z r s t c =
      let back = made_and_gone caller q c.between z r (granted_prepared c.creates) c.closes in
      record {
        nothing = nothing_at v z caller.hash t (ap (λ k. map.get k caller.hash) back.2 ∙ back.0);
        same = holds_the_same w v q z s t back.2;
        spent = t.counter ∙ back.1 ∙ ap (λ n. n + 1) (sym s.counter);
      }

  -- A further factory of a node takes no further place: the segment stays as it is, and the node's count rises by one.
  pub opened_again : TakesNoFurtherPlace m
  opened_again i h w v q p r k s t has (prepared (call.opened y is_y good fits place room)) =
      let x = has.service in
      let there = has.there in
      let counted = has.counted in
      let same : y ≡ x = let is = sym is_y ∙ there in cc in
      let now : service_at p h ≡ Some (opened_by i x) = with_service_has q h (opened_by i y) ∙ ap (λ z. Some (opened_by i z)) same in
      let before = subst (λ o. ShowsService w h o) there (s.services h) in
      let after = subst (λ o. ShowsService v h o) now (t.services h) in
      let times = ap (λ o. unwrap_or o 0) (get_more_own x.counts i) ∙ ap (λ o. unwrap_or o 0 + 1) counted in record {
        segment = same_segment w v h x (more_counts x.counts i) before after (still_counted i x k counted);
        before = joined_times x.number _ (times_counted x i) (before.phases i) ∙ ap (λ o. unwrap_or o 0) counted;
        after = joined_times x.number _ (times_counted (opened_by i x) i) (after.phases i) ∙ times;
      }

  -- An open that the requirement accepts, with a place and a number left, is Ok or out of memory.
  pub accepted : OpensWhatItCan m
  accepted i h q p r can unprepared = refl
  accepted i h q p r can (prepared (call.absent gone)) = let is = sym gone ∙ can.there in absurd (cc)
  accepted i h q p r can (prepared (call.misfit y is_y bad)) = let same : y ≡ can.service = let is = sym is_y ∙ can.there in cc in let is = sym can.accepted.fits ∙ ap (λ z. m.misfit z.description) (sym same) ∙ bad in absurd (cc)
  accepted i h q p r can (prepared (call.not_accepted y is_y _ unfit)) = let same : y ≡ can.service = let is = sym is_y ∙ can.there in cc in let is = sym can.accepted.meets ∙ ap (λ z. verdict (m.requirement z.description)) (sym same) ∙ unfit in absurd (cc)
  accepted i h q p r can (prepared (call.no_place y is_y _ _ none)) =
      let same : can.service ≡ y = let is = sym can.there ∙ is_y in cc in
      elim (subst (λ z. HasPlace z i) same can.place) [
        | inl e ↦ let is = sym e ∙ ap is_some none.0 in absurd (cc)
        | inr e ↦ absurd (omega (arith, e, none.1))
      ]
  accepted i h q p r can (prepared (call.no_number y is_y _ _ _ end)) = absurd (omega (arith, end, can.number))
  accepted i h q p r can (prepared (call.opened y is_y _ _ _ _)) = tt
  accepted i h q p r can (prepared (call.no_memory y is_y)) = refl
