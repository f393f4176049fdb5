-- Every letter of a word is of its call's node and service.
use Rattle.std.proofs.Common.{ℕ, zero, suc, Bool, List, Result, refl}
use Rattle.iceoryx2_description.specs.declared.description.ServiceHash.{ServiceHash}
use Rattle.iceoryx2_description.specs.Description.{Description}
use Rattle.iceoryx2_access.specs.declared.storage.Tag.{Tag}
use Rattle.iceoryx2_access.specs.Letter.{Letter}
use Rattle.iceoryx2_rounds.specs.declared.look.Outcome.{Outcome}
use Rattle.iceoryx2_rounds.specs.declared.pattern.CreateRefusal.{CreateRefusal}
use Rattle.iceoryx2_errors.specs.declared.error.CloseError.{CloseError}
use Rattle.iceoryx2_rounds.specs.PatternRules.{PatternRules}
use Rattle.iceoryx2_access.specs.Registered.{Registered}
use Rattle.iceoryx2_rounds.specs.Looks.{IsLookWord}
use Rattle.iceoryx2_rounds.specs.Looks as look
use Rattle.iceoryx2_rounds.specs.GivesBack.{GivesBack, Owned}
use Rattle.iceoryx2_rounds.specs.GivesBack as back
use Rattle.iceoryx2_rounds.specs.Segments.{IsSegmentWord, clearings}
use Rattle.iceoryx2_rounds.specs.declared.create.TheConstants.{CLEARING_LIMIT}
use Rattle.iceoryx2_rounds.specs.Segments as segment
use Rattle.iceoryx2_rounds.specs.Creates.{IsEntryWord, IsServiceWord, IsCreating}
use Rattle.iceoryx2_rounds.specs.Creates as create
use Rattle.iceoryx2_rounds.specs.Opens.{IsReady, IsFailedRound, IsLastRound, AreFailedRounds, IsOpenWord}
use Rattle.iceoryx2_rounds.specs.Opens as opening
use Rattle.iceoryx2_rounds.specs.Closes.{IsCloseWord}
use Rattle.iceoryx2_rounds.specs.Closes as closing
use Rattle.iceoryx2_call_laws.proofs.quiet.NodeViews.{AllHere, none, more, all_both}

module _ {i : ℕ} {h : ServiceHash} where
  pub back_here : {ts : List Owned} {w : List Letter} → GivesBack i h ts w → AllHere i h w
  back_here back.nothing_left = none
  back_here (back.segment_back a r) = more (refl, refl) (back_here r)
  back_here (back.lock_back a r) = more (refl, refl) (back_here r)
  back_here (back.tag_back a r) = more (refl, refl) (back_here r)

clearings_here : (i : ℕ) (h : ServiceHash) (n m j : ℕ) → AllHere i h (clearings i h n m j)
clearings_here i h n m zero = none
clearings_here i h n m (suc j) = all_both (clearings_here i h n m j) (more (refl, refl) (more (refl, refl) none))

segment_here : {i : ℕ} {h : ServiceHash} {n m : ℕ} {w : List Letter} {r : Result (Unit {0}) CreateRefusal} → IsSegmentWord i h n m w r → AllHere i h w
segment_here {i} {h} {n} {m} (segment.made j _) = all_both (clearings_here i h n m j) (more (refl, refl) none)
segment_here {i} {h} {n} {m} (segment.not_made j e _ _) = all_both (clearings_here i h n m j) (more (refl, refl) none)
segment_here {i} {h} {n} {m} (segment.not_removed j e _) = all_both (clearings_here i h n m j) (more (refl, refl) (more (refl, refl) none))
segment_here {i} {h} {n} {m} segment.still_there = all_both (clearings_here i h n m CLEARING_LIMIT) (more (refl, refl) none)

module _ {E C : Type 0} {m : PatternRules E C} {i : ℕ} {h : ServiceHash} where
  pub look_here : {o : Outcome E} {w : List Letter} → IsLookWord m i h w o → AllHere i h w
  look_here look.absent = more refl none
  look_here look.broken = more refl none
  look_here (look.fetched there leads) = more refl (more (refl, refl) none)

  entry_here : {w : List Letter} {r : Result Tag C} → IsEntryWord m i h w r → AllHere i h w
  entry_here (create.look_faulty l) = look_here l
  entry_here (create.look_found l) = look_here l
  entry_here (create.counted l) = all_both (look_here l) (more (refl, refl) none)
  entry_here (create.no_copies l) = all_both (look_here l) (more (refl, refl) none)
  entry_here (create.no_tag e l) = all_both (look_here l) (more (refl, refl) (more (refl, refl) none))
  entry_here (create.entered t l) = all_both (look_here l) (more (refl, refl) (more (refl, refl) none))

  service_here : {d : Description} {tag : Tag} {w : List Letter} {r : Result Registered C} → IsServiceWord m i h d tag w r → AllHere i h w
  service_here (create.not_locked z g) = more (refl, refl) (back_here g)
  service_here (create.no_segment s g) = more (refl, refl) (all_both (segment_here s) (back_here g))
  service_here (create.not_published z s g) = more (refl, refl) (all_both (segment_here s) (more (refl, refl) (back_here g)))
  service_here (create.published n t s) = more (refl, refl) (all_both (segment_here s) (more (refl, refl) none))

  pub create_here : {stops : Bool} {d : Description} {w : List Letter} {r : Result Registered C} → IsCreating m i h stops d w r → AllHere i h w
  create_here (create.forbidden _) = none
  create_here (create.not_entered _ e) = entry_here e
  create_here (create.clock_fault _ _ e g) = all_both (entry_here e) (back_here g)
  create_here (create.made _ _ e s) = all_both (entry_here e) (service_here s)

  ready_here : {n : ℕ} {d : Description} {tag : Tag} {w : List Letter} → IsReady m i h n d tag w → AllHere i h w
  ready_here (opening.ready tag l fits) = all_both (look_here l) (more (refl, refl) none)

  failed_here : {w : List Letter} → IsFailedRound m i h w → AllHere i h w
  failed_here (opening.failed r l g) = all_both (ready_here r) (more (refl, refl) (all_both (look_here l) (back_here g)))

  last_here : {w : List Letter} {r : Result Registered E} → IsLastRound m i h w r → AllHere i h w
  last_here (opening.look_faulty l) = look_here l
  last_here (opening.look_none l) = look_here l
  last_here (opening.not_accepted l e) = look_here l
  last_here (opening.no_tag e l fits) = all_both (look_here l) (more (refl, refl) none)
  last_here (opening.not_opened e why r g) = all_both (ready_here r) (more (refl, refl) (back_here g))
  last_here (opening.then_faulty r l g) = all_both (ready_here r) (more (refl, refl) (all_both (look_here l) (back_here g)))
  last_here (opening.then_none r l g) = all_both (ready_here r) (more (refl, refl) (all_both (look_here l) (back_here g)))
  last_here (opening.opened t r) = all_both (ready_here r) (more (refl, refl) none)

  rounds_here : {k : ℕ} {w : List Letter} → AreFailedRounds m i h k w → AllHere i h w
  rounds_here opening.no_round = none
  rounds_here (opening.one_more rs r) = all_both (rounds_here rs) (failed_here r)

  pub open_here : {w : List Letter} {r : Result Registered E} → IsOpenWord m i h w r → AllHere i h w
  open_here (opening.ended _ rs r) = all_both (rounds_here rs) (last_here r)
  open_here (opening.all_failed rs) = rounds_here rs

pub close_here : {f : Registered} {w : List Letter} {r : Result (Unit {0}) (CloseError Registered)} → IsCloseWord f w r → AllHere f.node f.description.hash w
close_here closing.not_here = more (refl, refl) none
close_here closing.still_counted = more (refl, refl) none
close_here (closing.left tag) = more (refl, refl) (more (refl, refl) none)
close_here (closing.last tag segment description) = more (refl, refl) (more (refl, refl) (more (refl, refl) (more (refl, refl) none)))
