-- The services of rows, one row after the other, and the order of services.
use Rattle.std.proofs.Common.{◌≡◌, ℕ, ◌+◌, ◌<◌, ◌≤◌, List, [], ◌∷◌, ◌++◌, Some, None, Result, Ok, Err, OnOk, length, take, get_or, sym, ap, subst, ◌∙◌, add-one}
use Rattle.std.proofs.Math.Seq.{take-suc}
use Rattle.std.proofs.lemmas.List.{take_all}
use Rattle.std.specs.declared.alloc.AllocError.{AllocError}
use Rattle.std.specs.Cmp.{IsTotalOrder}
use Rattle.std.proofs.lemmas.Cmp.{on_total, then_total, nat_cmp_total, nat_list_cmp_total}
use Rattle.iceoryx2_description.specs.declared.description.ServiceHash.{ServiceHash}
use Rattle.iceoryx2_world.specs.Orders.{hash_total}
use Rattle.iceoryx2_world.specs.declared.world.Row.{Row}
use Rattle.iceoryx2_world.specs.declared.world.Row.TheVariants as row
use Rattle.iceoryx2_world.specs.World.{World, Segment, segment_of}
use Rattle.iceoryx2_data.specs.Form.{IsForm}
use Rattle.iceoryx2_table.specs.ServicesState.{HasBytes}
use Rattle.std.specs.FinMap as map
use Rattle.wulameron_view.specs.declared.services.Service.{Service}
use Rattle.wulameron_view.specs.Services.{IsService, IsServiceOf, members_of, AreServices, none, one, other, rank, service_cmp}

pub service_total : IsTotalOrder service_cmp
service_total =
    then_total (on_total (λ (s : Service). s.description.name) nat_list_cmp_total)
    (then_total (on_total (λ (s : Service). rank s.description.pattern) nat_cmp_total) (on_total (λ (s : Service). s.hash) hash_total))

pub on_ok : {A B : Type 0} (r : Result (Unit {0}) AllocError) → (A → B) → OnOk r A → OnOk r B
on_ok (Ok done) f a = f a
on_ok (Err error) f a = tt

module _ (w : World) where
  with_one : {rows : List (ServiceHash × Row)} {services : List Service} (e : ServiceHash × Row) (s : Service) → IsServiceOf w e.0 e.1 (Some s) → AreServices w rows services
      → AreServices w (rows ++ e ∷ []) (services ++ s ∷ [])
  with_one e s is none = one is none
  with_one e s is (one h rest) = one h (with_one e s is rest)
  with_one e s is (other never rest) = other never (with_one e s is rest)

  with_other : {rows : List (ServiceHash × Row)} {services : List Service} (e : ServiceHash × Row) → IsServiceOf w e.0 e.1 None → AreServices w rows services
      → AreServices w (rows ++ e ∷ []) services
  with_other e never none = other never none
  with_other e never (one h rest) = one h (with_other e never rest)
  with_other e never (other lacks rest) = other lacks (with_other e never rest)

  next_row : (rows : List (ServiceHash × Row)) (i : ℕ) (e : ServiceHash × Row) → i < length rows → e ≡ get_or rows i e → take (i + 1) rows ≡ take i rows ++ e ∷ []
  next_row rows i e within is = rw (add-one i) (take-suc rows i e within ∙ ap (λ x. take i rows ++ x ∷ []) (sym is))

  -- of the rows up to the next one, which has a service, or which has none
  module _ (rows : List (ServiceHash × Row)) (i : ℕ) (e : ServiceHash × Row) (within : i < length rows) (is : e ≡ get_or rows i e) (before : List Service) (so_far : AreServices w (take i rows) before) where
    pub one_more : (s : Service) → IsServiceOf w e.0 e.1 (Some s) → AreServices w (take (i + 1) rows) (before ++ s ∷ [])
    one_more s it = subst (λ xs. AreServices w xs (before ++ s ∷ [])) (sym (next_row rows i e within is)) (with_one e s it so_far)

    pub other_more : IsServiceOf w e.0 e.1 None → AreServices w (take (i + 1) rows) before
    other_more never = subst (λ xs. AreServices w xs before) (sym (next_row rows i e within is)) (with_other e never so_far)

  pub of_all : (rows : List (ServiceHash × Row)) (i : ℕ) (services : List Service) → length rows ≤ i → AreServices w (take i rows) services → AreServices w rows services
  of_all rows i services ends are = subst (λ xs. AreServices w xs services) (take_all i rows ends) are

-- what is put together for a row is its service
pub row_service : (w : World) (h : ServiceHash) (r : Row) (s : Service) (n : ℕ) (b bytes : List ℕ) (x : Segment)
    → r ≡ row.Published n b → HasBytes r bytes → IsForm s.description bytes → Some x ≡ segment_of w h
    → s.hash ≡ h → s.number ≡ n → s.max_nodes ≡ x.capacity → s.members.items ≡ members_of w h (map.entries x.participants) → IsService w h r s
row_service w h r s n b bytes x is holds form beside hash number room members =
    let same : bytes ≡ b = rw is at holds in
    record {
      bytes = b;
      segment = x;
      row = is ∙ ap (λ m. row.Published m b) (sym number);
      form = subst (λ l. IsForm s.description l) same form;
      beside = sym beside;
      hash = hash;
      room = room;
      members = members;
    }
