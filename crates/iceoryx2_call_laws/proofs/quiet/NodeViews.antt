-- From worlds to what one node sees of one service.
use Rattle.std.proofs.Common.{◌≡◌, ℕ, Bool, true, false, cond, not, ◌||◌, ◌&&◌, List, [], ◌∷◌, ◌++◌, Option, Some, None, refl, sym, ap, subst, ◌∙◌}
use Rattle.std.specs.Prelude.{unwrap_or}
use Rattle.iceoryx2_world.specs.Sets as set
use Rattle.std.specs.Ordering.{is_eq, eq_by_cmp}
use Rattle.std.specs.Cmp.{tied_itself}
use Rattle.iceoryx2_world.specs.declared.world.Participant.{Participant}
use Rattle.iceoryx2_world.specs.declared.world.Participant.TheVariants.{Node}
use Rattle.iceoryx2_description.specs.declared.description.ServiceHash.{ServiceHash}
use Rattle.iceoryx2_world.specs.Orders.{hash_cmp, tag_cmp, tag_total}
use Rattle.iceoryx2_world.specs.World.{World, row_of, segment_of, phase_of, Tickets, tag_of}
use Rattle.iceoryx2_world.specs.Steps.{ServiceView}
use Rattle.iceoryx2_access.specs.Letter.{Letter, acting_node, service_of}
use Rattle.iceoryx2_access.specs.Letter as letter
use Rattle.iceoryx2_access.specs.Run.{Run, done, next}
use Rattle.iceoryx2_world.specs.Access.{NodeView, Change, node_view, set_tag, write, node_view_after, nothing, existence, IsNodeAnswer, IsOwnPart}
use Rattle.iceoryx2_world.proofs.agreement.Moved.{same, same_self}
use Rattle.iceoryx2_world.proofs.agreement.Whole.{row_put, segment_put, phase_put, own_hash}

-- The letter, as one node sees it.
pub record AtNode (i : ℕ) (h : ServiceHash) (s : NodeView) (l : Letter) (t : NodeView) : Type 0 where
  pub change : Change
  pub own : IsNodeAnswer i h s l change
  pub is : t ≡ node_view_after s change

-- A letter of this node and this service.
abbrev pub Here : ℕ → ServiceHash → Letter → Type 0
Here i h (letter.Exists g a) = g ≡ h
Here i h l = (acting_node l ≡ i) × (service_of l ≡ h)

abbrev pub at_tag : ℕ → ServiceHash → ℕ → ServiceHash → Bool
at_tag j g i h = eq_by_cmp tag_cmp (j, g) (i, h)

contains-set_tag : (t : set.FinSet tag_cmp) (k q : ℕ × ServiceHash) (o : Option Bool) → set.contains (set_tag t k o) q ≡ cond (eq_by_cmp tag_cmp q k) (unwrap_or o (set.contains t q)) (set.contains t q)
contains-set_tag t k q None = elim (eq_by_cmp tag_cmp q k) as (λ b. set.contains t q ≡ cond b (set.contains t q) (set.contains t q)) [ true ↦ refl | false ↦ refl ]
contains-set_tag t k q (Some true) = set.contains-insert tag_total t k q ∙ elim (eq_by_cmp tag_cmp q k) as (λ b. (b || set.contains t q) ≡ cond b true (set.contains t q)) [ true ↦ refl | false ↦ refl ]
contains-set_tag t k q (Some false) = set.contains-remove tag_total t k q ∙ elim (eq_by_cmp tag_cmp q k) as (λ b. (not b && set.contains t q) ≡ cond b false (set.contains t q)) [ true ↦ refl | false ↦ refl ]

-- Only what one node sees of one service changed.
pub record OthersStay (i : ℕ) (h : ServiceHash) (w v : World) : Type 0 where
  pub rows : (g : ServiceHash) → is_eq (hash_cmp g h) ≡ false → row_of v g ≡ row_of w g
  pub segments : (g : ServiceHash) → is_eq (hash_cmp g h) ≡ false → segment_of v g ≡ segment_of w g
  pub phases : (q : Participant) (g : ServiceHash) → (same q (Node i) && is_eq (hash_cmp g h)) ≡ false → phase_of v q g ≡ phase_of w q g
  pub tags : (j : ℕ) (g : ServiceHash) → at_tag j g i h ≡ false → tag_of v j g ≡ tag_of w j g

pub others_stay_same : (i : ℕ) (h : ServiceHash) (w : World) → OthersStay i h w w
others_stay_same i h w = record { rows = λ g e. refl; segments = λ g e. refl; phases = λ q g e. refl; tags = λ j g e. refl }

pub others_stay_both : {i : ℕ} {h : ServiceHash} {u v w : World} → OthersStay i h u v → OthersStay i h v w → OthersStay i h u w
others_stay_both a b = record { rows = λ g e. b.rows g e ∙ a.rows g e; segments = λ g e. b.segments g e ∙ a.segments g e; phases = λ q g e. b.phases q g e ∙ a.phases q g e; tags = λ j g e. b.tags j g e ∙ a.tags j g e }

module _ (w : World) (i : ℕ) (h : ServiceHash) where
  tag_write : (o : Option Bool) → set.contains (set_tag w.tags (i, h) o) (i, h) ≡ unwrap_or o (tag_of w i h)
  tag_write o = contains-set_tag w.tags (i, h) (i, h) o ∙ ap (λ b. cond b (unwrap_or o (tag_of w i h)) (tag_of w i h)) (ap is_eq (tied_itself tag_total (i, h)))

  pub node_view_write : (c : Change) → node_view (write w i h c) i h ≡ node_view_after (node_view w i h) c
  node_view_write c = views c.view c.tag c.tickets
    where
      views : (x : Option ServiceView) (g : Option Bool) (k : Option Tickets) → node_view (write w i h (record { view = x; tag = g; tickets = k })) i h ≡ node_view_after (node_view w i h) (record { view = x; tag = g; tickets = k })
      views None g k = let tag = tag_write g in λ j. record { view = record { phase = phase_of w (Node i) h; row = row_of w h; segment = segment_of w h; counter = w.counter }; tag = tag j; tickets = unwrap_or k w.tickets }
      views (Some s) g k =
          let row = row_put w (Node i) h s h ∙ ap (λ b. cond b s.row (row_of w h)) (own_hash h) in
          let segment = segment_put w (Node i) h s h ∙ ap (λ b. cond b s.segment (segment_of w h)) (own_hash h) in
          let phase = phase_put w (Node i) h s (Node i) h ∙ ap (λ b. cond (b && is_eq (hash_cmp h h)) s.phase (phase_of w (Node i) h)) (same_self (Node i)) ∙ ap (λ b. cond b s.phase (phase_of w (Node i) h)) (own_hash h) in
          let tag = tag_write g in
          λ j. record { view = record { phase = phase j; row = row j; segment = segment j; counter = s.counter }; tag = tag j; tickets = unwrap_or k w.tickets }

  tags_write : (o : Option Bool) (j : ℕ) (g : ServiceHash) → at_tag j g i h ≡ false → set.contains (set_tag w.tags (i, h) o) (j, g) ≡ tag_of w j g
  tags_write o j g e = contains-set_tag w.tags (i, h) (j, g) o ∙ ap (λ b. cond b (unwrap_or o (tag_of w j g)) (tag_of w j g)) e

  pub others_stay_write : (c : Change) → OthersStay i h w (write w i h c)
  others_stay_write c = views c.view c.tag c.tickets
    where
      views : (x : Option ServiceView) (g : Option Bool) (k : Option Tickets) → OthersStay i h w (write w i h (record { view = x; tag = g; tickets = k }))
      views None o k = record { rows = λ g e. refl; segments = λ g e. refl; phases = λ q g e. refl; tags = tags_write o }
      views (Some s) o k = record {
        rows = λ g e. row_put w (Node i) h s g ∙ ap (λ b. cond b s.row (row_of w g)) e;
        segments = λ g e. segment_put w (Node i) h s g ∙ ap (λ b. cond b s.segment (segment_of w g)) e;
        phases = λ q g e. phase_put w (Node i) h s q g ∙ ap (λ b. cond b s.phase (phase_of w q g)) e;
        tags = tags_write o;
      }

-- What an access of this node gives there and elsewhere.
pub record Moves (i : ℕ) (h : ServiceHash) (w : World) (l : Letter) (v : World) : Type 0 where
  pub at : AtNode i h (node_view w i h) l (node_view v i h)
  pub apart : OthersStay i h w v

written : (w v : World) (i : ℕ) (h : ServiceHash) (l : Letter) (c : Change) → IsNodeAnswer i h (node_view w i h) l c → v ≡ write w i h c → Moves i h w l v
written w v i h l c own is = subst (λ (u : World). Moves i h w l u) (sym is) (record { at = record { change = c; own = own; is = node_view_write w i h c }; apart = others_stay_write w i h c })

of_node : (w v : World) (i : ℕ) (h : ServiceHash) (l : Letter) → acting_node l ≡ i → service_of l ≡ h → IsOwnPart w l v → Moves i h w l v
of_node w v i h l e f x = subst (λ j. Moves j h w l v) e (subst (λ g. Moves (acting_node l) g w l v) f (written w v (acting_node l) (service_of l) l x.change x.own x.is))

pub move : (i : ℕ) (h : ServiceHash) (w : World) (l : Letter) (v : World) → Here i h l → IsOwnPart w l v → Moves i h w l v
move i h w (letter.Exists g a) v e x =
    let same_world : v ≡ w = x.is ∙ ap (write w 0 g) x.own.1 in
    subst (λ (u : World). Moves i h w (letter.Exists g a) u) (sym same_world) (record { at = record { change = nothing; own = (x.own.0 ∙ ap (λ k. existence (row_of w k)) e, refl); is = refl }; apart = others_stay_same i h w })
move i h w l v e x = of_node w v i h l e.0 e.1 x

-- every letter is of this node and this service
pub data AllHere (i : ℕ) (h : ServiceHash) : List Letter → Type 0 where
  none : AllHere i h []
  more : {l : Letter} {word : List Letter} → Here i h l → AllHere i h word → AllHere i h (l ∷ word)

pub all_both : {i : ℕ} {h : ServiceHash} {u v : List Letter} → AllHere i h u → AllHere i h v → AllHere i h (u ++ v)
all_both none b = b
all_both (more e a) b = more e (all_both a b)

pub record MovesAll (i : ℕ) (h : ServiceHash) (w : World) (word : List Letter) (v : World) : Type 0 where
  pub at : Run (AtNode i h) (node_view w i h) word (node_view v i h)
  pub apart : OthersStay i h w v

-- A run of accesses of one node to one service, as that node sees it.
pub move_all : (i : ℕ) (h : ServiceHash) {w v : World} {word : List Letter} → AllHere i h word → Run IsOwnPart w word v → MovesAll i h w word v
move_all i h none (done {s = w}) = record { at = done; apart = others_stay_same i h w }
move_all i h (more e es) (next {old = w} {mid = m} {letter = l} x r) =
    let one = move i h w l m e x in
    let rest = move_all i h es r in
    record { at = next one.at rest.at; apart = others_stay_both one.apart rest.apart }
