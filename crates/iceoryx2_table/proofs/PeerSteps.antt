-- What the services' state does with a peer's step, as a step of a batch.
use Rattle.std.proofs.Common.{◌≡◌, ℕ, Bool, true, false, Some, Result, Ok, Err, refl, sym, ap, ◌∙◌}
use Rattle.std.specs.Option.{option_map}
use Rattle.std.specs.declared.alloc.AllocError.{AllocError}
use Rattle.iceoryx2_world.specs.declared.world.Participant.TheVariants.{Peer}
use Rattle.iceoryx2_world.specs.Sets as set
use Rattle.iceoryx2_world.specs.Orders.{tag_cmp}
use Rattle.iceoryx2_world.specs.World.{Tickets}
use Rattle.iceoryx2_world.specs.Acts.{IsAct}
use Rattle.iceoryx2_world.specs.Steps.{put}
use Rattle.iceoryx2_world.specs.declared.batches.Step.{Step}
use Rattle.iceoryx2_access.specs.Counts.{count_up}
use Rattle.iceoryx2_world.specs.Batches.{act_of, IsPeerStep, forbidden, acts, starves, skipped_after}
use Rattle.iceoryx2_table.specs.ServicesState.{ServicesState, StepsOrStays, MayTakeStep, world_with}

module _ (t : set.FinSet tag_cmp) (k : Tickets) (n : ℕ) (b c : ServicesState) (x : Step) where
  taken : (done : Bool) → (done ≡ true → IsAct (act_of x.act)) → StepsOrStays b (Peer x.peer) x.hash (act_of x.act) done c → IsPeerStep (world_with b t k, n) x (world_with c t k, n)
  taken true ok s = acts (ok refl) (ap (option_map (put (world_with b t k) (Peer x.peer) x.hash)) s.1 ∙ sym (ap (λ y. Some (world_with y t k)) s.2)) refl
  taken false ok s = forbidden (ap (option_map (put (world_with b t k) (Peer x.peer) x.hash)) s.0) (ap (λ y. (world_with y t k, n)) s.1)

  pub may_be_taken : (r : Result Bool AllocError) → (r ≡ Ok true → IsAct (act_of x.act)) → MayTakeStep b (Peer x.peer) x.hash (act_of x.act) r c → IsPeerStep (world_with b t k, n) x (world_with c t k, skipped_after r n)
  may_be_taken (Ok done) ok s = taken done (λ e. ok (ap Ok e)) s
  may_be_taken (Err e) ok s = starves (put (world_with b t k) (Peer x.peer) x.hash s.0) (ap (option_map (put (world_with b t k) (Peer x.peer) x.hash)) s.1) s.2 (ap (λ y. (world_with y t k, count_up n)) s.3)
