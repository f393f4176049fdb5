-- A look at a service that stands, and create beside it.
use Rattle.std.proofs.Common.{◌≡◌, ℕ, Bool, true, false, List, ◌++◌, Option, Some, None, Result, Ok, Err, inl, inr, refl, sym, ap, subst, ◌∙◌, arith}
use Rattle.iceoryx2_description.specs.declared.description.ServiceHash.{ServiceHash}
use Rattle.iceoryx2_description.specs.Description.{Description, IsDescription}
use Rattle.iceoryx2_data.specs.Form as form
use Rattle.iceoryx2_data.proofs.Fields.{one_description}
use Rattle.iceoryx2_world.specs.declared.world.Participant.TheVariants.{Node}
use Rattle.iceoryx2_world.specs.declared.world.Phase.{Phase}
use Rattle.iceoryx2_world.specs.declared.world.Phase.TheVariants as at
use Rattle.iceoryx2_access.specs.declared.storage.FetchError.{FetchError}
use Rattle.iceoryx2_access.specs.declared.storage.FetchError.TheVariants as Fetching
use Rattle.iceoryx2_access.specs.declared.storage.Tag.{Tag}
use Rattle.iceoryx2_world.specs.declared.world.Row.TheVariants as row
use Rattle.iceoryx2_world.specs.World.{World, Segment, row_of, segment_of, phase_of, begins, Tickets, tag_of}
use Rattle.iceoryx2_access.specs.Letter.{Letter}
use Rattle.iceoryx2_access.specs.Letter as letter
use Rattle.iceoryx2_access.specs.Run.{Run}
use Rattle.iceoryx2_world.specs.Access.{NodeView, node_view, node_view_after}
use Rattle.iceoryx2_access.proofs.Run.{head, split, last}
use Rattle.iceoryx2_rounds.specs.declared.caller.Caller.{Caller}
use Rattle.iceoryx2_rounds.specs.declared.look.Fault.{Fault}
use Rattle.iceoryx2_rounds.specs.declared.look.Fault.TheVariants as at_fault
use Rattle.iceoryx2_rounds.specs.declared.look.Outcome.{Outcome}
use Rattle.iceoryx2_rounds.specs.declared.look.Outcome.TheVariants as outcome
use Rattle.iceoryx2_rounds.specs.declared.pattern.CreateRefusal.TheVariants as refusal
use Rattle.iceoryx2_rounds.specs.PatternRules.{PatternRules}
use Rattle.iceoryx2_access.specs.Registered.{Registered}
use Rattle.iceoryx2_rounds.specs.Looks.{LeadsTo, IsLookWord}
use Rattle.iceoryx2_rounds.specs.Refusals.{create_error_of}
use Rattle.iceoryx2_rounds.specs.Looks as look
use Rattle.iceoryx2_rounds.specs.Creates.{IsEntryWord, IsCreateWord}
use Rattle.iceoryx2_rounds.specs.Creates as create
use Rattle.iceoryx2_call_laws.specs.Quiet.{QuietService, Quiet, IsServiceShown, ShowsService, Shows, CountIs, service_at, times_counted}
use Rattle.iceoryx2_call_laws.specs.QuietCalls.{Creates}
use Rattle.iceoryx2_call_laws.specs.QuietCalls as call
use Rattle.iceoryx2_call_laws.specs.Tickets.{tickets_after}
use Rattle.iceoryx2_call_laws.proofs.quiet.NodeViews.{OthersStay, AtNode}
use Rattle.iceoryx2_call_laws.proofs.quiet.Absent.{at_node, ended, from}
use Rattle.iceoryx2_call_laws.proofs.quiet.Lift.{services_after, same_services, phase_beside, tag_beside, equal_or_not}
use Rattle.iceoryx2_call_laws.proofs.quiet.Create.{Made}

-- where a fetch of number n leaves a phase: who holds nothing has read it
pub data Fetched (n : ℕ) : Phase → Phase → Type 0 where
  reads : {x : Phase} → begins x ≡ true → Fetched n x (at.Read n)
  keeps : {x : Phase} → begins x ≡ false → Fetched n x x

same_pair : {A B E : Type 0} {a c : A} {b d : B} → ◌≡◌ {A = Result (A × B) E} (Ok (a, b)) (Ok (c, d)) → (a ≡ c) × (b ≡ d)
same_pair {A = A} {B = B} {a = a} {c = c} {b = b} {d = d} e = let pair : ◌≡◌ {A = A × B} (a, b) (c, d) = cc in (ap (λ (p : A × B). p.0) pair, ap (λ (p : A × B). p.1) pair)

module _ (i : ℕ) (h : ServiceHash) (n : ℕ) (b : List ℕ) (sg : Option Segment) (c : ℕ) (g : Bool) (k : Tickets) where
  abbrev pub over : Phase → NodeView
  over x = at_node x (Some (row.Published n b)) sg c g k

  pub data Fetches (x : Phase) : Result (ℕ × List ℕ) FetchError → NodeView → Type 0 where
    fetches : {y : Phase} → Fetched n x y → Fetches x (Ok (n, b)) (over y)
    starves : Fetches x (Err Fetching.OutOfMemory) (over x)

  fetches_as : {x y : Phase} {a : Result (ℕ × List ℕ) FetchError} {t : NodeView} → a ≡ Ok (n, b) → t ≡ over y → Fetched n x y → Fetches x a t
  fetches_as {x = x} {t = t} e f p = subst (λ a. Fetches x a t) (sym e) (subst (λ t. Fetches x (Ok (n, b)) t) (sym f) (fetches p))

  starves_as : {x : Phase} {a : Result (ℕ × List ℕ) FetchError} {t : NodeView} → a ≡ Err Fetching.OutOfMemory → t ≡ over x → Fetches x a t
  starves_as {x = x} {t = t} e f = subst (λ a. Fetches x a t) (sym e) (subst (λ t. Fetches x (Err Fetching.OutOfMemory) t) (sym f) starves)

  fetch_there : (x : Phase) (a : Result (ℕ × List ℕ) FetchError) (t : NodeView) → AtNode i h (over x) (letter.Fetch i h a) t → Fetches x a t
  fetch_there at.Idle a t r = elim (r.own) [ inl y ↦ fetches_as y.0 (r.is ∙ ap (node_view_after _) y.1) (reads refl) | inr y ↦ starves_as y.0 (r.is ∙ ap (node_view_after _) y.1) ]
  fetch_there (at.Read m) a t r = elim (r.own) [ inl y ↦ fetches_as y.0 (r.is ∙ ap (node_view_after _) y.1) (reads refl) | inr y ↦ starves_as y.0 (r.is ∙ ap (node_view_after _) y.1) ]
  fetch_there x a t r = elim (r.own) [ inl y ↦ fetches_as y.0 (r.is ∙ ap (node_view_after _) y.1) (keeps refl) | inr y ↦ starves_as y.0 (r.is ∙ ap (node_view_after _) y.1) ]

  -- What a look finds: the service of this description.
  module _ {E C : Type 0} (m : PatternRules E C) (d : Description) (limits : IsDescription d) (hash : d.hash ≡ h) (form_of : b ≡ form.description d) where
    pub data LooksThere (x : Phase) : Outcome E → NodeView → Type 0 where
      finds : {y : Phase} → Fetched n x y → m.misfit d ≡ None → LooksThere x (outcome.Found n d) (over y)
      misfits : {y : Phase} {error : E} → Fetched n x y → m.misfit d ≡ Some error → LooksThere x (outcome.Faulty (at_fault.Misfit error)) (over y)
      forgets : {y : Phase} → Fetched n x y → LooksThere x (outcome.Faulty at_fault.OutOfMemory) (over y)
      starved : LooksThere x (outcome.Faulty at_fault.OutOfMemory) (over x)

    is_it : {n1 : ℕ} {b1 : List ℕ} {d1 : Description} → ◌≡◌ {A = Result (ℕ × List ℕ) FetchError} (Ok (n1, b1)) (Ok (n, b)) → form.IsForm d1 b1 → d1 ≡ d
    is_it {d1 = d1} e f = one_description b d1 d (f.0, sym (same_pair e).1 ∙ f.1) (limits, form_of)

    leads_there : {x y : Phase} {a : Result (ℕ × List ℕ) FetchError} {o : Outcome E} → Fetched n x y → LeadsTo m h a o → a ≡ Ok (n, b) → LooksThere x o (over y)
    leads_there p look.gone e = absurd (cc)
    leads_there p look.not_finalized e = absurd (cc)
    leads_there p look.not_opened e = absurd (cc)
    leads_there p look.not_read e = absurd (cc)
    leads_there p look.not_fetched e = absurd (cc)
    leads_there p look.not_decoded e = forgets p
    leads_there p (look.malformed none) e = absurd (none d (limits, (same_pair e).1 ∙ form_of))
    leads_there p (look.other_hash f other) e = absurd (other (ap (λ (z : Description). z.hash) (is_it e f) ∙ hash))
    leads_there p (look.misfit f same bad) e = misfits p (ap m.misfit (sym (is_it e f)) ∙ bad)
    leads_there {x = x} {y = y} p (look.fits {n = n1} {d = d1} f same good) e =
        let number = (same_pair e).0 in
        let is = is_it e f in
        subst (λ z. LooksThere x (outcome.Found z d1) (over y)) (sym number) (subst (λ z. LooksThere x (outcome.Found n z) (over y)) (sym is) (finds p (ap m.misfit (sym is) ∙ good)))

    leads_not : {x : Phase} {a : Result (ℕ × List ℕ) FetchError} {o : Outcome E} → LeadsTo m h a o → a ≡ Err Fetching.OutOfMemory → LooksThere x o (over x)
    leads_not look.gone e = absurd (cc)
    leads_not look.not_finalized e = absurd (cc)
    leads_not look.not_opened e = absurd (cc)
    leads_not look.not_read e = absurd (cc)
    leads_not look.not_fetched e = starved
    leads_not look.not_decoded e = absurd (cc)
    leads_not (look.malformed none) e = absurd (cc)
    leads_not (look.other_hash f other) e = absurd (cc)
    leads_not (look.misfit f same bad) e = absurd (cc)
    leads_not (look.fits f same good) e = absurd (cc)

    leads : {x : Phase} {a : Result (ℕ × List ℕ) FetchError} {o : Outcome E} {t : NodeView} → Fetches x a t → LeadsTo m h a o → LooksThere x o t
    leads (fetches p) l = leads_there p l refl
    leads starves l = leads_not l refl

    pub look_there : (x : Phase) {o : Outcome E} {w : List Letter} {t : NodeView} → IsLookWord m i h w o → Run (AtNode i h) (over x) w t → LooksThere x o t
    look_there x look.absent r = absurd (grind (arith, (last r).own.0))
    look_there x look.broken r = absurd (grind (arith, (last r).own.0))
    look_there x (look.fetched may l) r =
        let f = head r in
        leads (fetch_there x _ _ (last (from (f.first.is ∙ ap (node_view_after _) f.first.own.1) f.rest))) l

-- where only the phase of one node changed, and it counts as before
module _ (i : ℕ) (h : ServiceHash) (w v : World) (q : Quiet) (a : OthersStay i h w v) (s : Shows w q) (x : QuietService) (is_there : service_at q h ≡ Some x) where
  pub was_there : IsServiceShown h x (row_of w h) (segment_of w h) (λ j. phase_of w (Node j) h) (λ j. tag_of w j h)
  was_there = subst (λ o. ShowsService w h o) is_there (s.services h)

  abbrev pub over_here : Phase → NodeView
  over_here y = over i h x.number (form.description x.description) (segment_of w h) w.counter (tag_of w i h) w.tickets y

  pub begin_there : node_view w i h ≡ over_here (phase_of w (Node i) h)
  begin_there = λ k. record { view = record { phase = phase_of w (Node i) h; row = was_there.row k; segment = segment_of w h; counter = w.counter }; tag = tag_of w i h; tickets = w.tickets }

  pub stays_there : (y : Phase) → CountIs x.number y (times_counted x i) → node_view v i h ≡ over_here y → Shows v q
  stays_there y counts is = record {
    counter = ap (λ (z : NodeView). z.view.counter) is ∙ s.counter;
    services = services_after q q (Some x) a s (same_services q h (Some x) is_there) (record {
      limits = was_there.limits;
      hash = was_there.hash;
      row = ap (λ (z : NodeView). z.view.row) is;
      nodes = was_there.nodes;
      segment = ap (λ (z : NodeView). z.view.segment) is ∙ was_there.segment;
      members = was_there.members;
      as_many = was_there.as_many;
      one_or_more = was_there.one_or_more;
      phases = λ j. elim (equal_or_not j i) [ inl e ↦ rw (e, ap (λ (z : NodeView). z.view.phase) is) counts | inr e ↦ rw (phase_beside a j e) (was_there.phases j) ];
      tags = λ j. elim (equal_or_not j i) [ inl e ↦ rw e (ap (λ (z : NodeView). z.tag) is ∙ was_there.tags i) | inr e ↦ tag_beside a j e ∙ was_there.tags j ];
    });
  }

-- who has fetched counts as before
pub still_counts : {n : ℕ} {x y : Phase} (o : Option ℕ) → Fetched n x y → CountIs n x o → CountIs n y o
still_counts None (reads e) count = refl
still_counts None (keeps e) count = count
still_counts (Some k) (reads e) count = absurd (cc)
still_counts (Some k) (keeps e) count = count

module _ {E C : Type 0} (m : PatternRules E C) (caller : Caller) (w v : World) (q : Quiet) (a : OthersStay caller.node caller.hash w v) (s : Shows w q) (x : QuietService) (is_there : service_at q caller.hash ≡ Some x) where
  abbrev i : ℕ
  i = caller.node

  abbrev h : ServiceHash
  h = caller.hash

  abbrev was : IsServiceShown h x (row_of w h) (segment_of w h) (λ j. phase_of w (Node j) h) (λ j. tag_of w j h)
  was = was_there i h w v q a s x is_there

  abbrev Looks : Outcome E → NodeView → Type 0
  Looks o t = LooksThere i h x.number (form.description x.description) (segment_of w h) w.counter (tag_of w i h) w.tickets m x.description was.limits was.hash refl (phase_of w (Node i) h) o t

  looked : {o : Outcome E} {word : List Letter} {t : NodeView} → IsLookWord m i h word o → Run (AtNode i h) (node_view w i h) word t → Looks o t
  looked l r = look_there i h x.number (form.description x.description) (segment_of w h) w.counter (tag_of w i h) w.tickets m x.description was.limits was.hash refl (phase_of w (Node i) h) l (from (begin_there i h w v q a s x is_there) r)

  never : {word : List Letter} (rest : List Letter) {t : NodeView} → IsLookWord m i h word outcome.Nothing → Run (AtNode i h) (node_view w i h) (word ++ rest) t → ⊥
  never {word} rest l r = elim (looked l (split word rest r).first) [ ]

  never_enters : {u : List Letter} {tag : Tag} {t : NodeView} → IsEntryWord m i h u (Ok tag) → Run (AtNode i h) (node_view w i h) u t → ⊥
  never_enters (create.entered tag l) r = never _ l r

  abbrev MadeHere : Result Registered C → Type 0
  MadeHere r = Made (Creates m q caller r) (tickets_after w.tickets r) v

  kept : (r : Result Registered C) (y : Phase) → Creates m q caller r q → tickets_after w.tickets r ≡ w.tickets → CountIs x.number y (times_counted x i) → node_view v i h ≡ over_here i h w v q a s x is_there y → MadeHere r
  kept r y call no_ticket count is = record { state = q; call = call; shows = stays_there i h w v q a s x is_there y count is; tickets = ap (λ (z : NodeView). z.tickets) is ∙ sym no_ticket }

  faulty : {fault : Fault E} {t : NodeView} → m.settings_refusal ≡ None → Looks (outcome.Faulty fault) t → node_view v i h ≡ t → MadeHere (Err (create_error_of m fault))
  faulty fits (misfits p bad) is = kept _ _ (call.exists x fits is_there) refl (still_counts _ p (was.phases i)) is
  faulty fits (forgets p) is = kept _ _ (call.no_memory fits) refl (still_counts _ p (was.phases i)) is
  faulty fits starved is = kept _ _ (call.no_memory fits) refl (was.phases i) is

  found : {n : ℕ} {d : Description} {t : NodeView} → m.settings_refusal ≡ None → Looks (outcome.Found n d) t → node_view v i h ≡ t → MadeHere (Err (m.create_refusal refusal.AlreadyExists))
  found fits (finds p good) is = kept _ _ (call.exists x fits is_there) refl (still_counts _ p (was.phases i)) is

  pub create_there : (r : Result Registered C) (word : List Letter) → IsCreateWord m caller word r → Run (AtNode i h) (node_view w i h) word (node_view v i h) → MadeHere r
  create_there r word (create.forbidden bad) run = kept _ _ (call.forbidden bad) refl (was.phases i) (ended run ∙ begin_there i h w v q a s x is_there)
  create_there r word (create.not_entered fits (create.look_faulty l)) run = faulty fits (looked l run) refl
  create_there r word (create.not_entered fits (create.look_found l)) run = found fits (looked l run) refl
  create_there r word (create.not_entered fits (create.counted l)) run = absurd (never _ l run)
  create_there r word (create.not_entered fits (create.no_copies l)) run = absurd (never _ l run)
  create_there r word (create.not_entered fits (create.no_tag e l)) run = absurd (never _ l run)
  create_there r word (create.clock_fault {u = u} fits _ e g) run = absurd (never_enters e (split u _ run).first)
  create_there r word (create.made {u = u} fits _ e _) run = absurd (never_enters e (split u _ run).first)
