-- What a call makes and gives back along its words.
use Rattle.std.proofs.Common.{◌≡◌, ℕ, zero, suc, Bool, List, [], ◌∷◌, ◌++◌, Ok, Err, refl, sym, ap, subst, ◌∙◌}
use mathlib.Core.List.{append_assoc, append-nil}
use Rattle.iceoryx2_description.specs.declared.description.ServiceHash.{ServiceHash}
use Rattle.iceoryx2_description.specs.Description.{Description}
use Rattle.iceoryx2_access.specs.declared.storage.OpenSegmentError.{OpenSegmentError}
use Rattle.iceoryx2_access.specs.declared.storage.Tag.{Tag}
use Rattle.iceoryx2_access.specs.declared.storage.Tag.TheVariants.{Made, Found}
use Rattle.iceoryx2_access.specs.Letter.{Letter, MakeTag, Lock, Publish, OpenSegment}
use Rattle.iceoryx2_rounds.specs.declared.create.TheConstants.{CLEARING_LIMIT}
use Rattle.iceoryx2_rounds.specs.declared.look.Outcome.{Outcome}
use Rattle.iceoryx2_rounds.specs.declared.pattern.CreateRefusal.{CreateRefusal}
use Rattle.iceoryx2_rounds.specs.declared.pattern.CreateRefusal.TheVariants.{OutOfMemory}
use Rattle.iceoryx2_rounds.specs.PatternRules.{PatternRules}
use Rattle.iceoryx2_access.specs.Registered.{Registered}
use Rattle.iceoryx2_rounds.specs.Looks.{IsLookWord, absent, broken, fetched}
use Rattle.iceoryx2_rounds.specs.GivesBack.{Owned, GivesBack, OwnLock, OwnSegment, own_tag, nothing_left}
use Rattle.iceoryx2_rounds.specs.Segments as segments
use Rattle.iceoryx2_rounds.specs.Segments.{clearings, IsSegmentWord, not_made, not_removed, still_there}
use Rattle.iceoryx2_rounds.specs.Creates as creates
use Rattle.iceoryx2_rounds.specs.Creates.{IsEntryWord, IsServiceWord, IsCreating, forbidden, not_entered, clock_fault, made as both_made, not_locked, no_segment, not_published, published, counted, no_copies, entered}
use Rattle.iceoryx2_rounds.specs.Opens as opens
use Rattle.iceoryx2_rounds.specs.Opens.{IsReady, ready, failed, IsLastRound, AreFailedRounds, IsOpenWord, ended, all_failed}
use Rattle.iceoryx2_rounds.specs.Prepared.{IsPrepared, RefusedOpenGivesBack}
use Rattle.iceoryx2_rounds.proofs.Prepared.{refused_call}
use Rattle.iceoryx2_rounds.specs.Fronts as may
use Rattle.iceoryx2_rounds.specs.Fronts.{made_by, made_after, made, MayCome, IsFront, ends, goes_on, clears, GivesAllBack, GivesTagsBack, no_round, one_more, KeepsAll, KeepsLastTag}

pub made_both : (a : List Owned) (v w : List Letter) → made_after a (v ++ w) ≡ made_after (made_after a v) w
made_both a [] w = refl
made_both a (l ∷ v) w = made_both (made_by l ++ a) v w

module _ (node : ℕ) (hash : ServiceHash) where
  -- a front from what is made before it to what is made after it
  pub record Goes (n : ℕ) (before : List Owned) (w : List Letter) (after : List Owned) : Type 0 where
    pub front : IsFront node hash n before w
    pub makes : made_after before w ≡ after

  -- a word from here that gives back all that is made after its front
  pub record Returns (before owned : List Owned) (w : List Letter) : Type 0 where
    pub number : ℕ
    pub first : List Letter
    pub back : List Letter
    pub in_order : w ≡ first ++ back
    pub goes : Goes number before first owned
    pub gives_back : GivesBack node hash owned back

  -- a round of an open gives its tag back, where it made one
  abbrev GivesTagBack : List Letter → Type 0
  GivesTagBack w = (tag : Tag) × Returns [] (own_tag tag) w

module _ {node : ℕ} {hash : ServiceHash} where
  then_front : {n : ℕ} {a : List Owned} {v w : List Letter} → IsFront node hash n a v → IsFront node hash n (made_after a v) w → IsFront node hash n a (v ++ w)
  then_front ends q = q
  then_front (goes_on may_come p) q = goes_on may_come (then_front p q)
  then_front (clears tag p) q = clears tag (then_front p q)

  -- one word after another
  pub then_goes : {n : ℕ} {a b c : List Owned} {v w : List Letter} → Goes node hash n a v b → Goes node hash n b w c → Goes node hash n a (v ++ w) c
  then_goes {n} {a} {v = v} {w = w} p q = record { front = then_front p.front (subst (λ x. IsFront node hash n x w) (sym p.makes) q.front); makes = made_both a v w ∙ ap (λ x. made_after x w) p.makes ∙ q.makes }

  stays : {n : ℕ} {a : List Owned} → Goes node hash n a [] a
  stays = record { front = ends; makes = refl }

  goes : {n : ℕ} {a : List Owned} {l : Letter} {w : List Letter} {b : List Owned} → MayCome node hash n a l → Goes node hash n (made_by l ++ a) w b → Goes node hash n a (l ∷ w) b
  goes c p = record { front = goes_on c p.front; makes = p.makes }

  then_returns : {a b c : List Owned} {v w : List Letter} (r : Returns node hash b c w) → Goes node hash r.number a v b → Returns node hash a c (v ++ w)
  then_returns {v = v} r p = record { number = r.number; first = v ++ r.first; back = r.back; in_order = ap (λ x. v ++ x) r.in_order ∙ sym (append_assoc v r.first r.back); goes = then_goes p r.goes; gives_back = r.gives_back }

  abbrev returns : {n : ℕ} {a b : List Owned} {v w : List Letter} → Goes node hash n a v b → GivesBack node hash b w → Returns node hash a b (v ++ w)
  returns p b = record { number = _; first = _; back = _; in_order = refl; goes = p; gives_back = b }

  -- a word that makes nothing
  keeps_nothing : {a : List Owned} {w : List Letter} → Goes node hash 0 a w [] → Returns node hash a [] w
  keeps_nothing {w = w} p = record { number = 0; first = w; back = []; in_order = sym (append-nil w); goes = p; gives_back = nothing_left }

  abbrev pub all_back : {owned : List Owned} {w : List Letter} → Returns node hash [] owned w → GivesAllBack node hash w
  all_back r = record { number = r.number; front = r.first; back = r.back; in_order = r.in_order; is_front = r.goes.front; gives_back = subst (λ x. GivesBack node hash x r.back) (sym r.goes.makes) r.gives_back }

  looked : {w : List Letter} → Goes node hash 0 [] w [] → GivesTagBack node hash w
  looked p = (Found, keeps_nothing p)

  then_round : {u v : List Letter} → GivesTagsBack node hash u → GivesTagBack node hash v → GivesTagsBack node hash (u ++ v)
  then_round before round = one_more round.0 before (all_back round.1) round.1.goes.makes

  -- a tag that was there isn't the call's own
  tagged : {n : ℕ} (tag : Tag) → Goes node hash n [] (MakeTag node hash (Ok tag) ∷ []) (own_tag tag)
  tagged Made = goes may.makes_tag stays
  tagged Found = goes may.makes_tag stays

  module _ {number : ℕ} (tag : Tag) where
    cleared : (max_nodes k : ℕ) → Goes node hash number (OwnLock ∷ own_tag tag) (clearings node hash number max_nodes k) (OwnLock ∷ own_tag tag)
    cleared max_nodes zero = stays
    cleared max_nodes (suc k) = then_goes (cleared max_nodes k) (record { front = clears tag ends; makes = refl })

    pub segment_made : {max_nodes : ℕ} {w : List Letter} → IsSegmentWord node hash number max_nodes w (Ok tt) → Goes node hash number (OwnLock ∷ own_tag tag) w (OwnSegment ∷ OwnLock ∷ own_tag tag)
    segment_made (segments.made k small) = then_goes (cleared _ k) (goes (may.makes_segment tag) stays)

    segment_refused : {max_nodes : ℕ} {w : List Letter} {why : CreateRefusal} → IsSegmentWord node hash number max_nodes w (Err why) → Goes node hash number (OwnLock ∷ own_tag tag) w (OwnLock ∷ own_tag tag)
    segment_refused (not_made k e small _) = then_goes (cleared _ k) (goes (may.makes_segment tag) stays)
    segment_refused (not_removed k e small) = then_goes (cleared _ k) (record { front = clears tag ends; makes = refl })
    segment_refused still_there = then_goes (cleared _ CLEARING_LIMIT) (goes (may.makes_segment tag) stays)

module _ {E C : Type 0} {m : PatternRules E C} {node : ℕ} {hash : ServiceHash} where
  pub look_goes : {n : ℕ} {a : List Owned} {w : List Letter} {o : Outcome E} → IsLookWord m node hash w o → Goes node hash n a w a
  look_goes absent = goes may.looks stays
  look_goes broken = goes may.looks stays
  look_goes (fetched there read) = goes may.looks (goes may.fetches stays)

  pub look_gives_back : {w : List Letter} {o : Outcome E} → IsLookWord m node hash w o → GivesAllBack node hash w
  look_gives_back l = all_back (keeps_nothing (look_goes l))

  pub entry_goes : {n : ℕ} {w : List Letter} {tag : Tag} → IsEntryWord m node hash w (Ok tag) → Goes node hash n [] w (own_tag tag)
  entry_goes (entered tag l) = then_goes (look_goes l) (goes may.asks (tagged tag))

  entry_refused : {w : List Letter} {error : C} → IsEntryWord m node hash w (Err error) → Goes node hash 0 [] w []
  entry_refused (creates.look_faulty l) = look_goes l
  entry_refused (creates.look_found l) = look_goes l
  entry_refused (counted l) = then_goes (look_goes l) (goes may.asks stays)
  entry_refused (no_copies l) = then_goes (look_goes l) (goes may.asks stays)
  entry_refused (creates.no_tag e l) = then_goes (look_goes l) (goes may.asks (goes may.makes_tag stays))

  service_returns : {d : Description} {tag : Tag} {w : List Letter} {error : C} → IsServiceWord m node hash d tag w (Err error) → (owned : List Owned) × Returns node hash (own_tag tag) owned w
  service_returns (not_locked e b) = (_, returns {n = 0} (goes may.gets_no_lock stays) b)
  service_returns {tag = tag} (no_segment s b) = (_, returns (goes (may.locks tag) (segment_refused tag s)) b)
  service_returns {tag = tag} (not_published e s b) = (_, then_returns (returns (goes may.publishes_nothing stays) b) (goes (may.locks tag) (segment_made tag s)))

  -- a refused create gives back what it made
  pub refused_create_keeps : {stops : Bool} {d : Description} {w : List Letter} {error : C} → IsCreating m node hash stops d w (Err error) → GivesAllBack node hash w
  refused_create_keeps (forbidden _) = all_back (keeps_nothing stays)
  refused_create_keeps (not_entered _ e) = all_back (keeps_nothing (entry_refused e))
  refused_create_keeps (clock_fault _ _ e b) = all_back (returns {n = 0} (entry_goes e) b)
  refused_create_keeps (both_made _ _ e s) = let r = service_returns s in all_back (then_returns r.1 (entry_goes e))

  -- a create that succeeds keeps what it made
  pub created_keeps : {stops : Bool} {d : Description} {w : List Letter} {r : Registered} → IsCreating m node hash stops d w (Ok r) → KeepsAll node hash w r.number
  created_keeps {d = d} (both_made {tag = tag} {u = u} _ _ e (published {v = v} n t s)) =
      let all = then_goes (entry_goes e) (goes (may.locks tag) (segment_made tag s)) in
      record { front = _; tag = tag; d = d; ticket = t; in_order = sym (append_assoc u (Lock node hash (Ok n) ∷ v) (Publish node hash n d (Ok t) ∷ [])); is_front = all.front; makes = all.makes }

  pub ready_goes : {n k : ℕ} {d : Description} {tag : Tag} {w : List Letter} → IsReady m node hash n d tag w → Goes node hash k [] w (own_tag tag)
  ready_goes (ready tag l _) = then_goes (look_goes l) (tagged tag)

  looks_again : {tag : Tag} {d : Description} {n : ℕ} {u v w : List Letter} {o : Outcome E} (e : OpenSegmentError) → IsReady m node hash n d tag u → IsLookWord m node hash v o → GivesBack node hash (own_tag tag) w
      → GivesTagBack node hash (u ++ OpenSegment node hash n (Err e) ∷ (v ++ w))
  looks_again {tag = tag} e r l b = (tag, then_returns (returns (goes may.opens_nothing (look_goes l)) b) (ready_goes r))

  last_returns : {w : List Letter} {error : E} → IsLastRound m node hash w (Err error) → GivesTagBack node hash w
  last_returns (opens.look_faulty l) = looked (look_goes l)
  last_returns (opens.look_none l) = looked (look_goes l)
  last_returns (opens.not_accepted l _) = looked (look_goes l)
  last_returns (opens.no_tag e l _) = looked (then_goes (look_goes l) (goes may.makes_tag stays))
  last_returns (opens.not_opened {tag = tag} e _ r b) = (tag, then_returns (returns (goes may.opens_nothing stays) b) (ready_goes r))
  last_returns (opens.then_faulty r l b) = looks_again _ r l b
  last_returns (opens.then_none r l b) = looks_again _ r l b

  pub rounds_give_back : {k : ℕ} {w : List Letter} → AreFailedRounds m node hash k w → GivesTagsBack node hash w
  rounds_give_back opens.no_round = no_round
  rounds_give_back (opens.one_more before (failed r l b)) = then_round (rounds_give_back before) (looks_again _ r l b)

  -- a refused open gives back what it made
  pub refused_open_keeps : {w : List Letter} {error : E} → IsOpenWord m node hash w (Err error) → GivesTagsBack node hash w
  refused_open_keeps (ended small before l) = then_round (rounds_give_back before) (last_returns l)
  refused_open_keeps (all_failed before) = rounds_give_back before

  -- an open that succeeds keeps at most the tag of its last round
  pub opened_keeps : {w : List Letter} {r : Registered} → IsOpenWord m node hash w (Ok r) → KeepsLastTag node hash w r.number
  opened_keeps (ended small before (opens.opened {tag = tag} t r)) = let all = ready_goes r in record { before = _; front = _; tag = tag; ticket = t; in_order = refl; gives_back = rounds_give_back before; is_front = all.front; makes = all.makes }

  -- and so it is where they may prepare their types first
  pub refused_create_call_keeps : {stops : Bool} {d : Description} {w : List Letter} {error : C} → IsPrepared (m.create_refusal OutOfMemory) (IsCreating m node hash stops d) w (Err error) → GivesAllBack node hash w
  refused_create_call_keeps = refused_call (GivesAllBack node hash) (all_back (keeps_nothing stays)) (λ w error is. refused_create_keeps is)

  pub refused_open_call_keeps : {w : List Letter} {error : E} → RefusedOpenGivesBack m node hash w error
  refused_open_call_keeps call = refused_call (GivesTagsBack node hash) no_round (λ w error is. refused_open_keeps is) call
