-- Open, as one node sees it.
use Rattle.std.proofs.Common.{◌≡◌, ℕ, ◌+◌, Bool, true, false, cond, List, ◌∷◌, ◌++◌, Option, Some, None, Result, Ok, Err, ◌⊎◌, inl, inr, refl, sym, ap, subst, ◌∙◌, arith}
use Rattle.std.specs.Prelude.{nat_lt, is_some}
use mathlib.Core.Bool.{true≢false}
use Rattle.std.specs.FinMap as map
use Rattle.iceoryx2_description.specs.declared.description.ServiceHash.{ServiceHash}
use Rattle.iceoryx2_description.specs.Description.{Description, IsDescription}
use Rattle.iceoryx2_data.specs.Form as form
use Rattle.iceoryx2_world.specs.Sets as set
use Rattle.iceoryx2_world.specs.declared.world.Participant.TheVariants.{Node}
use Rattle.iceoryx2_world.specs.declared.world.Phase.{Phase}
use Rattle.iceoryx2_world.specs.declared.world.Phase.TheVariants as at
use Rattle.iceoryx2_world.specs.declared.world.Row.TheVariants as row
use Rattle.iceoryx2_access.specs.declared.storage.Tag.{Tag}
use Rattle.iceoryx2_access.specs.declared.storage.Tag.TheVariants.{Made, Found}
use Rattle.iceoryx2_access.specs.declared.storage.TagError.{TagError}
use Rattle.iceoryx2_access.specs.declared.storage.TagError.TheVariants as Tagging
use Rattle.iceoryx2_access.specs.declared.storage.OpenSegmentError.{OpenSegmentError}
use Rattle.iceoryx2_access.specs.declared.storage.OpenSegmentError.TheVariants as Opening
use Rattle.iceoryx2_world.specs.Orders.{participant_cmp}
use Rattle.iceoryx2_world.specs.World.{Segment, Tickets}
use Rattle.iceoryx2_world.specs.Steps.{last_number}
use Rattle.iceoryx2_access.specs.Letter.{Letter}
use Rattle.iceoryx2_access.specs.Letter as letter
use Rattle.iceoryx2_access.specs.Run.{Run}
use Rattle.iceoryx2_world.specs.Access.{NodeView, Change, node_view_after, opening_of, IsAnswer}
use Rattle.iceoryx2_access.proofs.Run.{head, split, last}
use Rattle.iceoryx2_rounds.specs.declared.look.Fault.{Fault}
use Rattle.iceoryx2_rounds.specs.declared.look.Outcome.{Outcome}
use Rattle.iceoryx2_rounds.specs.declared.look.Outcome.TheVariants as outcome
use Rattle.iceoryx2_rounds.specs.declared.pattern.OpenRefusal.{OpenRefusal}
use Rattle.iceoryx2_rounds.specs.declared.pattern.OpenRefusal.TheVariants as refusal
use Rattle.iceoryx2_rounds.specs.PatternRules.{PatternRules}
use Rattle.iceoryx2_rounds.specs.Verdict.{verdict}
use Rattle.iceoryx2_access.specs.Registered.{Registered}
use Rattle.iceoryx2_rounds.specs.Refusals.{of_tag_opening, of_opening, open_error_of}
use Rattle.iceoryx2_rounds.specs.Looks.{IsLookWord}
use Rattle.iceoryx2_rounds.specs.GivesBack.{GivesBack, own_tag}
use Rattle.iceoryx2_rounds.specs.GivesBack as back
use Rattle.iceoryx2_rounds.specs.Opens.{IsReady, IsFailedRound, IsLastRound, AreFailedRounds, IsOpenWord}
use Rattle.iceoryx2_rounds.specs.Opens as word
use Rattle.iceoryx2_call_laws.specs.Quiet.{CountIs}
use Rattle.iceoryx2_call_laws.proofs.quiet.NodeViews.{AtNode}
use Rattle.iceoryx2_call_laws.proofs.quiet.Absent.{at_node, bare, into, ended, from, same_number, look_bare}
use Rattle.iceoryx2_call_laws.proofs.quiet.There.{over, Fetched, reads, keeps, LooksThere, finds, misfits, forgets, starved, look_there, still_counts}

-- Where there is no service, the first look ends the call.
module _ {E C : Type 0} (m : PatternRules E C) (i : ℕ) (h : ServiceHash) (x : Phase) (c : ℕ) (k : Tickets) where
  never_ready : {n : ℕ} {d : Description} {tag : Tag} {u : List Letter} {t : NodeView} → IsReady m i h n d tag u → Run (AtNode i h) (bare x c false k) u t → ⊥
  never_ready (word.ready {u = u} tag l fits) r = let y = look_bare m i h x c false k l (split u _ r).first in absurd (cc)

  never_fails : {u : List Letter} {t : NodeView} → IsFailedRound m i h u → Run (AtNode i h) (bare x c false k) u t → ⊥
  never_fails (word.failed {u = u} rd l g) r = never_ready rd (split u _ r).first

  no_rounds : {j : ℕ} {u : List Letter} {t : NodeView} → AreFailedRounds m i h j u → Run (AtNode i h) (bare x c false k) u t → (j ≡ 0) × (t ≡ bare x c false k)
  no_rounds word.no_round r = (refl, ended r)
  no_rounds (word.one_more {u = u} rs f) r = let s = split u _ r in absurd (never_fails f (from (no_rounds rs s.first).1 s.second))

  last_round : {u : List Letter} {a : Result Registered E} {t : NodeView} → IsLastRound m i h u a → Run (AtNode i h) (bare x c false k) u t → (a ≡ Err (m.open_refusal refusal.DoesNotExist)) × (t ≡ bare x c false k)
  last_round (word.look_faulty l) r = let y = look_bare m i h x c false k l r in absurd (cc)
  last_round (word.look_none l) r = (refl, (look_bare m i h x c false k l r).1)
  last_round (word.not_accepted l e) r = let y = look_bare m i h x c false k l r in absurd (cc)
  last_round (word.no_tag {u = u} e l fits) r = let y = look_bare m i h x c false k l (split u _ r).first in absurd (cc)
  last_round (word.not_opened {u = u} e why rd g) r = absurd (never_ready rd (split u _ r).first)
  last_round (word.then_faulty {u = u} rd l g) r = absurd (never_ready rd (split u _ r).first)
  last_round (word.then_none {u = u} rd l g) r = absurd (never_ready rd (split u _ r).first)
  last_round (word.opened {u = u} z rd) r = absurd (never_ready rd (split u _ r).first)

  pub opening_absent : {u : List Letter} {a : Result Registered E} {t : NodeView} → IsOpenWord m i h u a → Run (AtNode i h) (bare x c false k) u t → (a ≡ Err (m.open_refusal refusal.DoesNotExist)) × (t ≡ bare x c false k)
  opening_absent (word.ended {u = u} le rs l) r = let s = split u _ r in last_round l (from (no_rounds rs s.first).1 s.second)
  opening_absent (word.all_failed rs) r = absurd (omega (arith, (no_rounds rs r).0))

-- Where it stands.
module _ (i : ℕ) (h : ServiceHash) (n cap : ℕ) (b : List ℕ) (nodes : set.FinSet participant_cmp) (c : ℕ) (k : Tickets) where
  abbrev pub seg : set.FinSet participant_cmp → Segment
  seg t = record { number = n; capacity = cap; participants = t; marked = false }

  -- what the node sees, with whether it has its tag
  abbrev pub stood : Bool → Phase → NodeView
  stood g x = over i h n b (Some (seg nodes)) c g k x

  abbrev pub after_read : Option ℕ → Phase
  after_read None = at.Read n
  after_read (Some j) = at.Joined n j

  abbrev pub joined_view : Option ℕ → NodeView
  joined_view None = at_node (at.Joined n 1) (Some (row.Published n b)) (Some (seg (set.insert nodes (Node i)))) (c + 1) true (map.insert k c (record { node = i; hash = h; number = n }))
  joined_view (Some j) = at_node (at.Joined n (j + 1)) (Some (row.Published n b)) (Some (seg nodes)) (c + 1) true (map.insert k c (record { node = i; hash = h; number = n }))

  -- the node has its place already, or finds one
  abbrev pub Place : Option ℕ → Type 0
  Place o = (is_some o ≡ true) ⊎ (nat_lt (set.len nodes) cap ≡ true)

  pub data Joins (o : Option ℕ) : Result ℕ OpenSegmentError → NodeView → Type 0 where
    joins : Place o → nat_lt c last_number ≡ true → Joins o (Ok c) (joined_view o)
    full : o ≡ None → nat_lt (set.len nodes) cap ≡ false → Joins o (Err Opening.Full) (stood true (after_read o))
    at_end : Place o → nat_lt c last_number ≡ false → Joins o (Err Opening.OutOfNumbers) (stood true (after_read o))
    wants : Joins o (Err Opening.OutOfMemory) (stood true (after_read o))

  -- what the tests leave, by their outcomes
  read_by : (y z : Bool) (a : Result ℕ OpenSegmentError) (o : Change) (t : NodeView) → nat_lt (set.len nodes) cap ≡ y → nat_lt c last_number ≡ z
      → IsAnswer Opening.OutOfMemory (opening_of i h n (stood true (at.Read n)) (cond y (cond z None (Some Opening.OutOfNumbers)) (Some Opening.Full)) (cond y (Some (record { phase = at.Joined n 1; row = Some (row.Published n b); segment = Some (seg (set.insert nodes (Node i))); counter = c })) None)) a o
      → t ≡ node_view_after (stood true (at.Read n)) o → Joins None a t
  read_by true true a o t e f (inl x) is = into (Joins None) x.0 (is ∙ ap (node_view_after _) x.1) (joins (inr e) f)
  read_by true true a o t e f (inr x) is = into (Joins None) x.0 (is ∙ ap (node_view_after _) x.1) wants
  read_by true false a o t e f x is = into (Joins None) x.0 (is ∙ ap (node_view_after _) x.1) (at_end (inr e) f)
  read_by false z a o t e f x is = into (Joins None) x.0 (is ∙ ap (node_view_after _) x.1) (full refl e)

  joined_by : (j : ℕ) (y z : Bool) (a : Result ℕ OpenSegmentError) (o : Change) (t : NodeView) → nat_lt c last_number ≡ z → (z ≡ true → y ≡ true)
      → IsAnswer Opening.OutOfMemory (opening_of i h n (stood true (at.Joined n j)) (cond z (cond y None (Some Opening.Failed)) (Some Opening.OutOfNumbers)) (cond y (Some (record { phase = at.Joined n (j + 1); row = Some (row.Published n b); segment = Some (seg nodes); counter = c })) None)) a o
      → t ≡ node_view_after (stood true (at.Joined n j)) o → Joins (Some j) a t
  joined_by j true true a o t f low (inl x) is = into (Joins (Some j)) x.0 (is ∙ ap (node_view_after _) x.1) (joins (inl refl) f)
  joined_by j true true a o t f low (inr x) is = into (Joins (Some j)) x.0 (is ∙ ap (node_view_after _) x.1) wants
  joined_by j false true a o t f low x is = absurd (true≢false (sym (low refl)))
  joined_by j y false a o t f low x is = into (Joins (Some j)) x.0 (is ∙ ap (node_view_after _) x.1) (at_end (inl refl) f)

  -- a count stays below the numbers' end, as every ticket is below the counter
  abbrev pub IsLow : Option ℕ → Type 0
  IsLow o = nat_lt c last_number ≡ true → (j : ℕ) → o ≡ Some j → nat_lt j last_number ≡ true

  open_stood : (o : Option ℕ) (a : Result ℕ OpenSegmentError) (t : NodeView) → IsLow o → AtNode i h (stood true (after_read o)) (letter.OpenSegment i h n a) t → Joins o a t
  open_stood None a t low r = read_by _ _ a r.change t refl refl (rw (same_number n) at r.own) r.is
  open_stood (Some j) a t low r = joined_by j _ _ a r.change t refl (λ e. low e j refl) (rw (same_number n) at r.own) r.is

  abbrev pub tag_for : Option ℕ → Tag
  tag_for None = Made
  tag_for (Some j) = Found

  tag_stood : (o : Option ℕ) (y : Phase) (a : Result Tag TagError) (t : NodeView) → AtNode i h (stood (is_some o) y) (letter.MakeTag i h a) t → ((a ≡ Ok (tag_for o)) × (t ≡ stood true y)) ⊎ ((a ≡ Err Tagging.OutOfMemory) × (t ≡ stood (is_some o) y))
  tag_stood None y a t r = elim (r.own) [ inl x ↦ inl (x.0, r.is ∙ ap (node_view_after _) x.1) | inr x ↦ inr (x.0, r.is ∙ ap (node_view_after _) x.1) ]
  tag_stood (Some j) y a t r = inl (r.own.0, r.is ∙ ap (node_view_after _) r.own.1)

  back_stood : (o : Option ℕ) (y : Phase) (tag : Tag) {w : List Letter} {t : NodeView} → tag ≡ tag_for o → GivesBack i h (own_tag tag) w → Run (AtNode i h) (stood true y) w t → t ≡ stood (is_some o) y
  back_stood None y Made e (back.tag_back a back.nothing_left) r = let l = last r in l.is ∙ ap (node_view_after _) l.own.1
  back_stood None y Found e g r = absurd (cc)
  back_stood (Some j) y Found e back.nothing_left r = ended r
  back_stood (Some j) y Made e g r = absurd (cc)

  read_again : (o : Option ℕ) (x : Phase) → CountIs n x o → CountIs n (after_read o) o
  read_again None x count = refl
  read_again (Some j) x count = (refl, count.1)

  after_fetch : (g : Bool) (o : Option ℕ) {x y : Phase} → CountIs n x o → Fetched n x y → stood g y ≡ stood g (after_read o)
  after_fetch g None count (reads e) = refl
  after_fetch g None count (keeps e) = absurd (true≢false (sym count ∙ e))
  after_fetch g (Some j) count (reads e) = absurd (cc)
  after_fetch g (Some j) count (keeps e) = ap (stood g) count.0

  module _ {E C : Type 0} (m : PatternRules E C) (d : Description) (limits : IsDescription d) (hash : d.hash ≡ h) (form_of : b ≡ form.description d) (o : Option ℕ) (x : Phase) (count : CountIs n x o) (low : IsLow o) where
    abbrev start : NodeView
    start = stood (is_some o) x

    abbrev Looks : Outcome E → NodeView → Type 0
    Looks a t = LooksThere i h n b (Some (seg nodes)) c (is_some o) k m d limits hash form_of x a t

    -- What open does where the node sees a service that stands.
    pub data OpensHere : Result Registered E → NodeView → Type 0 where
      starves : {y : Phase} → CountIs n y o → OpensHere (Err (m.open_refusal refusal.OutOfMemory)) (stood (is_some o) y)
      bad : {y : Phase} {error : E} → CountIs n y o → m.misfit d ≡ Some error → OpensHere (Err error) (stood (is_some o) y)
      unfit : {y : Phase} {error : E} → CountIs n y o → m.misfit d ≡ None → verdict (m.requirement d) ≡ Err error → OpensHere (Err error) (stood (is_some o) y)
      no_place : {y : Phase} → CountIs n y o → m.misfit d ≡ None → verdict (m.requirement d) ≡ Ok tt → o ≡ None → nat_lt (set.len nodes) cap ≡ false → OpensHere (Err (m.open_refusal refusal.ExceedsMaxNumberOfNodes)) (stood (is_some o) y)
      no_number : {y : Phase} → CountIs n y o → m.misfit d ≡ None → verdict (m.requirement d) ≡ Ok tt → Place o → nat_lt c last_number ≡ false → OpensHere (Err (m.open_refusal refusal.InternalFailure)) (stood (is_some o) y)
      opens : m.misfit d ≡ None → verdict (m.requirement d) ≡ Ok tt → Place o → nat_lt c last_number ≡ true → OpensHere (Ok (record { node = i; number = n; ticket = c; description = d })) (joined_view o)

    looked : {a : Outcome E} {u : List Letter} {t : NodeView} → IsLookWord m i h u a → Run (AtNode i h) start u t → Looks a t
    looked l r = look_there i h n b (Some (seg nodes)) c (is_some o) k m d limits hash form_of x l r

    record Reads (n1 : ℕ) (d1 : Description) (t : NodeView) : Type 0 where
      number : n1 ≡ n
      description : d1 ≡ d
      good : m.misfit d ≡ None
      is : t ≡ stood (is_some o) (after_read o)

    found : {n1 : ℕ} {d1 : Description} {t : NodeView} → Looks (outcome.Found n1 d1) t → Reads n1 d1 t
    found (finds p good) = record { number = refl; description = refl; good = good; is = after_fetch (is_some o) o count p }

    faulty : {fault : Fault E} {t : NodeView} → Looks (outcome.Faulty fault) t → OpensHere (Err (open_error_of m fault)) t
    faulty (misfits p e) = bad (still_counts o p count) e
    faulty (forgets p) = starves (still_counts o p count)
    faulty starved = starves count

    record Readied (n1 : ℕ) (d1 : Description) (tag1 : Tag) (t : NodeView) : Type 0 where
      number : n1 ≡ n
      description : d1 ≡ d
      good : m.misfit d ≡ None
      fits : verdict (m.requirement d) ≡ Ok tt
      tag : tag1 ≡ tag_for o
      is : t ≡ stood true (after_read o)

    readied : {n1 : ℕ} {d1 : Description} {tag : Tag} {u : List Letter} {t : NodeView} → IsReady m i h n1 d1 tag u → Run (AtNode i h) start u t → Readied n1 d1 tag t
    readied {t = t} (word.ready {u = u} tag l fits) r =
        let s = split u _ r in
        let f = found (looked l s.first) in
        elim (tag_stood o (after_read o) (Ok tag) t (last (from f.is s.second))) [
          | inl y ↦ let is : tag ≡ tag_for o = cc in record { number = f.number; description = f.description; good = f.good; fits = ap (λ z. verdict (m.requirement z)) (sym f.description) ∙ fits; tag = is; is = y.1 }
          | inr y ↦ absurd (cc)
        ]

    -- the opening of a service that is ready
    tried : {n1 : ℕ} {d1 : Description} {tag : Tag} {t v : NodeView} {a : Result ℕ OpenSegmentError} → Readied n1 d1 tag t → AtNode i h t (letter.OpenSegment i h n1 a) v → Joins o a v
    tried {n1 = n1} {v = v} {a = a} rd r = open_stood o a v low (subst (λ z. AtNode i h (stood true (after_read o)) (letter.OpenSegment i h z a) v) rd.number (subst (λ z. AtNode i h z (letter.OpenSegment i h n1 a) v) rd.is r))

    never_failed : {t : NodeView} → Joins o (Err Opening.Failed) t → ⊥
    never_failed j = elim j [ ]

    never_fails_there : {n1 : ℕ} {d1 : Description} {tag : Tag} {u : List Letter} (w : List Letter) {t : NodeView} → IsReady m i h n1 d1 tag u → Run (AtNode i h) start (u ++ letter.OpenSegment i h n1 (Err Opening.Failed) ∷ w) t → ⊥
    never_fails_there {u = u} w rd r = let s = split u _ r in never_failed (tried (readied rd s.first) (head s.second).first)

    no_rounds_there : {j : ℕ} {u : List Letter} {t : NodeView} → AreFailedRounds m i h j u → Run (AtNode i h) start u t → (j ≡ 0) × (t ≡ start)
    no_rounds_there word.no_round r = (refl, ended r)
    no_rounds_there (word.one_more {u = u} rs (word.failed rd l g)) r = let s = split u _ r in absurd (never_fails_there _ rd (from (no_rounds_there rs s.first).1 s.second))

    refused : {e : OpenSegmentError} {why : OpenRefusal} {t : NodeView} → of_opening e ≡ Some why → m.misfit d ≡ None → verdict (m.requirement d) ≡ Ok tt → Joins o (Err e) t → (t ≡ stood true (after_read o)) × ((u : NodeView) → u ≡ stood (is_some o) (after_read o) → OpensHere (Err (m.open_refusal why)) u)
    refused {why = why} is good fits (full y z) = let same : refusal.ExceedsMaxNumberOfNodes ≡ why = cc in (refl, λ u e. into OpensHere (ap (λ w. Err (m.open_refusal w)) (sym same)) e (no_place (read_again o x count) good fits y z))
    refused {why = why} is good fits (at_end y z) = let same : refusal.InternalFailure ≡ why = cc in (refl, λ u e. into OpensHere (ap (λ w. Err (m.open_refusal w)) (sym same)) e (no_number (read_again o x count) good fits y z))
    refused {why = why} is good fits wants = let same : refusal.OutOfMemory ≡ why = cc in (refl, λ u e. into OpensHere (ap (λ w. Err (m.open_refusal w)) (sym same)) e (starves (read_again o x count)))

    segment_opened : {z : ℕ} {t : NodeView} → Joins o (Ok z) t → (z ≡ c) × (t ≡ joined_view o) × Place o × (nat_lt c last_number ≡ true)
    segment_opened (joins place y) = (refl, refl, place, y)

    last_there : {u : List Letter} {a : Result Registered E} {t : NodeView} → IsLastRound m i h u a → Run (AtNode i h) start u t → OpensHere a t
    last_there (word.look_faulty l) r = faulty (looked l r)
    last_there (word.look_none l) r = absurd (elim (looked l r) [ ])
    last_there (word.not_accepted l e) r = let f = found (looked l r) in into OpensHere refl f.is (unfit (read_again o x count) f.good (ap (λ z. verdict (m.requirement z)) (sym f.description) ∙ e))
    last_there (word.no_tag {u = u} e l fits) r =
        let s = split u _ r in
        let f = found (looked l s.first) in
        elim (tag_stood o (after_read o) (Err e) _ (last (from f.is s.second))) [
          | inl y ↦ absurd (cc)
          | inr y ↦ let is : e ≡ Tagging.OutOfMemory = cc in into OpensHere (ap (λ z. Err (m.open_refusal (of_tag_opening z))) is) y.1 (starves (read_again o x count))
        ]
    last_there (word.not_opened {u = u} {tag = tag} e why rd g) r =
        let s = split u _ r in
        let f = readied rd s.first in
        let p = head s.second in
        let j = refused why f.good f.fits (tried f p.first) in
        j.1 _ (back_stood o (after_read o) tag f.tag g (from j.0 p.rest))
    last_there (word.then_faulty rd l g) r = absurd (never_fails_there _ rd r)
    last_there (word.then_none rd l g) r = absurd (never_fails_there _ rd r)
    last_there (word.opened {u = u} z rd) r =
        let s = split u _ r in
        let f = readied rd s.first in
        let j = segment_opened (tried f (last s.second)) in
        into OpensHere (λ y. Ok (record { node = i; number = f.number y; ticket = j.0 y; description = f.description y })) j.1 (opens f.good f.fits j.2 j.3)

    pub opening_there : {u : List Letter} {a : Result Registered E} {t : NodeView} → IsOpenWord m i h u a → Run (AtNode i h) start u t → OpensHere a t
    opening_there (word.ended {u = u} le rs l) r = let s = split u _ r in last_there l (from (no_rounds_there rs s.first).1 s.second)
    opening_there (word.all_failed rs) r = absurd (omega (arith, (no_rounds_there rs r).0))
