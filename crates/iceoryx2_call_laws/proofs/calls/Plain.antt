-- Accesses by which a node takes nothing and gives nothing back: at most it reads.
use Rattle.std.proofs.Common.{◌≡◌, ℕ, ◌<◌, Bool, true, false, ◌⊎◌, inl, inr, Option, Some, None, Ok, Err, refl, sym, ap, subst, ◌∙◌, arith}
use Rattle.iceoryx2_description.specs.declared.description.ServiceHash.{ServiceHash}
use Rattle.iceoryx2_world.specs.declared.world.Participant.{Participant}
use Rattle.iceoryx2_world.specs.declared.world.Participant.TheVariants.{Node}
use Rattle.iceoryx2_world.specs.declared.world.Phase.{Phase}
use Rattle.iceoryx2_access.specs.declared.storage.Tag.TheVariants.{Made, Found}
use Rattle.iceoryx2_world.specs.declared.world.Row.{Row}
use Rattle.iceoryx2_world.specs.Orders.{hash_total, hash_exact}
use Rattle.iceoryx2_world.specs.World.{World, Segment, row_of, segment_of, phase_of, begins}
use Rattle.iceoryx2_world.specs.Acts.{Act}
use Rattle.iceoryx2_world.specs.Acts as act
use Rattle.iceoryx2_world.specs.Steps.{ServiceView, world_after}
use Rattle.iceoryx2_world.specs.ServiceAgreement.{Later}
use Rattle.iceoryx2_access.specs.Letter.{Letter}
use Rattle.iceoryx2_access.specs.Letter as letter
use Rattle.iceoryx2_world.specs.Access.{Change, node_view, write, own_step, read_change, MakesTag, IsOwnPart}
use Rattle.iceoryx2_world.specs.StepCases.{IsStep, reads}
use Rattle.iceoryx2_world.proofs.agreement.StepCases.{step_case}
use Rattle.iceoryx2_world.proofs.agreement.Maps.{set_cases}
use Rattle.iceoryx2_world.proofs.agreement.Effects.{allowed_step}
use Rattle.iceoryx2_world.proofs.agreement.Worlds.{place_cases, step_tickets}
use Rattle.iceoryx2_world.proofs.agreement.Parts.{answer_cases, sure_answer_cases, moved_world, unchanged, fetched_ok}
use Rattle.iceoryx2_call_laws.specs.Leaves.{HasAtMostRead, LacksRow}

abbrev pub IsPlain : Letter → Type 0
IsPlain (letter.MakeTag i h (Ok Made)) = ⊥
IsPlain (letter.RemoveTag i h (Ok a)) = ⊥
IsPlain (letter.Lock i h (Ok n)) = ⊥
IsPlain (letter.MakeSegment i h n m (Ok a)) = ⊥
IsPlain (letter.RemoveSegment i h (Ok a)) = ⊥
IsPlain (letter.RemoveDescription i h (Ok a)) = ⊥
IsPlain (letter.Publish i h n d (Ok t)) = ⊥
IsPlain (letter.OpenSegment i h n (Ok t)) = ⊥
IsPlain (letter.Release t i h n (Ok a)) = ⊥
IsPlain _ = Unit {0}

abbrev Reads : World → World → Type 0
Reads w v = (v ≡ w) ⊎ ((i : ℕ) × (h : ServiceHash) × (world_after w (Node i) h act.Read ≡ Some v))

read_reads : (w v : World) (i : ℕ) (h : ServiceHash) (c : Change) (o : Option ServiceView) → own_step i h act.Read (node_view w i h).view ≡ o → c ≡ read_change o → v ≡ write w i h c → Reads w v
read_reads w v i h c None e m is = inl (unchanged w v i h c m is)
read_reads w v i h c (Some s) e m is = inr (i, h, moved_world w v i h act.Read c s e m is)

tag_plain : (w v : World) (i : ℕ) (h : ServiceHash) (b : Bool) (r : _) (c : Change) → (r ≡ Ok Made → ⊥) → MakesTag i h b r c → v ≡ write w i h c → Reads w v
tag_plain w v i h true r c other o is = inl (unchanged w v i h c o.1 is)
tag_plain w v i h false r c other (inl o) is = absurd (other o.0)
tag_plain w v i h false r c other (inr o) is = inl (unchanged w v i h c o.1 is)

plain_part : (w : World) (l : Letter) (v : World) → IsPlain l → IsOwnPart w l v → Reads w v
plain_part w (letter.Exists h a) v ok p = inl (unchanged w v 0 h p.change p.own.1 p.is)
plain_part w (letter.Fetch i h a) v ok p = elim (answer_cases _ _ a p.change p.own) [
  | inl k ↦ read_reads w v i h p.change (own_step i h act.Read (node_view w i h).view) refl (k.change ∙ (fetched_ok i h (node_view w i h).view (row_of w h) k.given k.from).1) p.is
  | inr k ↦ inl (unchanged w v i h p.change k.change p.is)
]
plain_part w (letter.Counts i h a) v ok p = inl (unchanged w v i h p.change p.own.1 p.is)
plain_part w (letter.MakeTag i h (Ok Made)) v ok p = absurd ok
plain_part w (letter.MakeTag i h (Ok Found)) v ok p = tag_plain w v i h (node_view w i h).tag (Ok Found) p.change (λ e. cc) p.own p.is
plain_part w (letter.MakeTag i h (Err e)) v ok p = tag_plain w v i h (node_view w i h).tag (Err e) p.change (λ e. cc) p.own p.is
plain_part w (letter.RemoveTag i h (Ok x)) v ok p = absurd ok
plain_part w (letter.RemoveTag i h (Err e)) v ok p = let is = p.own.0 in absurd (cc)
plain_part w (letter.Lock i h (Ok n)) v ok p = absurd ok
plain_part w (letter.Lock i h (Err e)) v ok p = elim (answer_cases _ _ (Err e) p.change p.own) [ inl k ↦ absurd (cc (k.answer)) | inr k ↦ inl (unchanged w v i h p.change k.change p.is) ]
plain_part w (letter.MakeSegment i h n m (Ok x)) v ok p = absurd ok
plain_part w (letter.MakeSegment i h n m (Err e)) v ok p = elim (answer_cases _ _ (Err e) p.change p.own) [ inl k ↦ absurd (cc (k.answer)) | inr k ↦ inl (unchanged w v i h p.change k.change p.is) ]
plain_part w (letter.RemoveSegment i h (Ok x)) v ok p = absurd ok
plain_part w (letter.RemoveSegment i h (Err e)) v ok p = elim (sure_answer_cases _ (Err e) p.change p.own) [ inl k ↦ absurd (cc (k.answer)) | inr k ↦ inl (unchanged w v i h p.change k.change p.is) ]
plain_part w (letter.RemoveDescription i h (Ok x)) v ok p = absurd ok
plain_part w (letter.RemoveDescription i h (Err e)) v ok p = elim (sure_answer_cases _ (Err e) p.change p.own) [ inl k ↦ absurd (cc (k.answer)) | inr k ↦ inl (unchanged w v i h p.change k.change p.is) ]
plain_part w (letter.Publish i h n d (Ok t)) v ok p = absurd ok
plain_part w (letter.Publish i h n d (Err e)) v ok p = elim (answer_cases _ _ (Err e) p.change p.own.1) [ inl k ↦ absurd (cc (k.answer)) | inr k ↦ inl (unchanged w v i h p.change k.change p.is) ]
plain_part w (letter.OpenSegment i h n (Ok t)) v ok p = absurd ok
plain_part w (letter.OpenSegment i h n (Err e)) v ok p = elim (answer_cases _ _ (Err e) p.change p.own) [ inl k ↦ absurd (cc (k.answer)) | inr k ↦ inl (unchanged w v i h p.change k.change p.is) ]
plain_part w (letter.Release t i h n (Ok a)) v ok p = absurd ok
plain_part w (letter.Release t i h n (Err e)) v ok p = elim (sure_answer_cases _ (Err e) p.change p.own) [ inl k ↦ absurd (cc (k.answer)) | inr k ↦ inl (unchanged w v i h p.change k.change p.is) ]

-- What such an access leaves as it is.
pub record Untouched (w v : World) : Type 0 where
  pub tags : v.tags ≡ w.tags
  pub tickets : v.tickets ≡ w.tickets
  pub segments : (h : ServiceHash) → segment_of v h ≡ segment_of w h
  pub phases : (i : ℕ) (h : ServiceHash) → HasAtMostRead (phase_of w (Node i) h) (phase_of v (Node i) h)

pub untouched_same : (w v : World) → v ≡ w → Untouched w v
untouched_same w v e = subst (λ u. Untouched w u) (sym e) (record { tags = refl; tickets = refl; segments = λ h. refl; phases = λ i h. inl refl })

pub read_both : {x y z : Phase} → HasAtMostRead x y → HasAtMostRead y z → HasAtMostRead x z
read_both (inl e) (inl f) = inl (f ∙ e)
read_both (inl e) (inr f) = inr (ap begins (sym e) ∙ f.0, f.1)
read_both (inr e) (inl f) = inr (e.0, ap begins f ∙ e.1)
read_both (inr e) (inr f) = inr (e.0, f.1)

-- a step changes no tag
pub step_tags : (w v : World) (p : Participant) (g : ServiceHash) (a : Act) → world_after w p g a ≡ Some v → v.tags ≡ w.tags
step_tags w v p g a e = subst (λ (z : World). z.tags ≡ w.tags) (allowed_step w v p g a e).world refl

-- what a reading finds and leaves
record Read (x : Phase) (s : Option Segment) (new : ServiceView) : Type 0 where
  pub before : begins x ≡ true
  pub now : begins new.phase ≡ true
  pub segment : new.segment ≡ s

read_row : {p : Participant} {h : ServiceHash} {x : Phase} {r : Option Row} {s : Option Segment} {c : ℕ} {new : ServiceView} → IsStep p h act.Read x r s c new → Read x s new
read_row (reads free) = record { before = free; now = refl; segment = refl }

read_untouched : (w v : World) (i : ℕ) (g : ServiceHash) → world_after w (Node i) g act.Read ≡ Some v → Untouched w v
read_untouched w v i g e =
    let st = allowed_step w v (Node i) g act.Read e in
    let r = read_row (step_case (Node i) g act.Read (phase_of w (Node i) g) (row_of w g) (segment_of w g) w.counter st.view st.is) in
    record {
      tags = step_tags w v (Node i) g act.Read e;
      tickets = step_tickets w v (Node i) g act.Read st;
      segments = λ h. subst (λ u. segment_of u h ≡ segment_of w h) st.world (elim (set_cases hash_total hash_exact w.segments g st.view.segment h) [
        | inl k ↦ k.1 ∙ r.segment ∙ ap (segment_of w) (sym k.0)
        | inr k ↦ k.1
      ]);
      phases = λ j h. subst (λ u. HasAtMostRead (phase_of w (Node j) h) (phase_of u (Node j) h)) st.world (elim (place_cases w (Node i) g st.view (Node j) h) [
        | inl k ↦ inr ((λ z. begins (phase_of w (k.0 z) (k.1 z))) ∙ r.before, ap begins k.2 ∙ r.now)
        | inr k ↦ inl k.1
      ]);
    }

pub plain_untouched : (w : World) (l : Letter) (v : World) → IsPlain l → IsOwnPart w l v → Untouched w v
plain_untouched w l v ok o = elim (plain_part w l v ok o) [
  | inl e ↦ untouched_same w v e
  | inr k ↦ read_untouched w v k.0 k.1 k.2
]

-- a row that is gone stays away
pub row_stays_away : (w v : World) (h : ServiceHash) (n : ℕ) → Later w v → n < w.counter → LacksRow w h n → LacksRow v h n
row_stays_away w v h n later below lacks x is same = let old = (later.rows h).no_new x is (grind (arith, below, same)) in lacks old.0 old.1 (old.2 ∙ same)
