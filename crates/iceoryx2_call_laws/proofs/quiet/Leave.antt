-- Close, as one node sees it.
use Rattle.std.proofs.Common.{◌≡◌, ℕ, ◌≤◌, ◌-◌, Bool, true, false, cond, List, [], ◌∷◌, Some, None, Result, Ok, Err, refl, sym, ap, subst, ◌∙◌, arith}
use Rattle.std.specs.Prelude.{nat_lt, ◌==◌}
use Rattle.std.proofs.lemmas.Bool.Decides.{nat_tests}
use Rattle.std.specs.FinMap as map
use Rattle.iceoryx2_description.specs.declared.description.ServiceHash.{ServiceHash}
use Rattle.iceoryx2_world.specs.Sets as set
use Rattle.iceoryx2_world.specs.declared.world.Participant.TheVariants.{Node}
use Rattle.iceoryx2_world.specs.declared.world.Phase.TheVariants as at
use Rattle.iceoryx2_world.specs.declared.world.Row.TheVariants as row
use Rattle.iceoryx2_access.specs.declared.storage.Release.{Release as Released}
use Rattle.iceoryx2_access.specs.declared.storage.Release.TheVariants as leave
use Rattle.iceoryx2_access.specs.declared.storage.ReleaseError.{ReleaseError}
use Rattle.iceoryx2_access.specs.declared.storage.RemoveError.{RemoveError}
use Rattle.iceoryx2_world.specs.World.{Segment, Tickets}
use Rattle.iceoryx2_access.specs.Letter.{Letter}
use Rattle.iceoryx2_access.specs.Letter as letter
use Rattle.iceoryx2_access.specs.Run.{Run}
use Rattle.iceoryx2_world.specs.Access.{NodeView, Change, node_view_after, IsSureAnswer, release_of, is_ticket}
use Rattle.iceoryx2_access.proofs.Run.{head, last}
use Rattle.iceoryx2_errors.specs.declared.error.CloseError.{CloseError}
use Rattle.iceoryx2_access.specs.Registered.{Registered}
use Rattle.iceoryx2_rounds.specs.Closes.{IsCloseWord, first_refused}
use Rattle.iceoryx2_rounds.specs.Closes as close
use Rattle.iceoryx2_call_laws.proofs.quiet.NodeViews.{AtNode}
use Rattle.iceoryx2_call_laws.proofs.quiet.Absent.{at_node, into, from}

module _ (i : ℕ) (h : ServiceHash) (n t k : ℕ) (b : List ℕ) (sg : Segment) (c : ℕ) (g : Bool) (tk : Tickets) where
  abbrev pub joins_here : NodeView
  joins_here = at_node (at.Joined n k) (Some (row.Published n b)) (Some sg) c g tk

  abbrev pub counted_less : NodeView
  counted_less = at_node (at.Joined n (k - 1)) (Some (row.Published n b)) (Some sg) c g (map.remove tk t)

  abbrev pub gone_out : Bool → NodeView
  gone_out tag = at_node at.Idle (Some (row.Published n b)) (Some (record sg { participants = set.remove sg.participants (Node i) })) c tag (map.remove tk t)

  abbrev last_out : Bool → NodeView
  last_out tag = at_node (at.Leaving n) (Some (row.Published n b)) (Some (record sg { participants = set.empty; marked = true })) c tag (map.remove tk t)

  abbrev cleared_out : NodeView
  cleared_out = at_node (at.Cleared n) (Some (row.Published n b)) None c false (map.remove tk t)

  abbrev pub all_gone : NodeView
  all_gone = at_node at.Idle None None c false (map.remove tk t)

  data Leaves : Result Released ReleaseError → NodeView → Type 0 where
    still : nat_lt 1 k ≡ true → Leaves (Ok leave.StillCounted) counted_less
    leaves : nat_lt 1 k ≡ false → nat_lt 1 (set.len sg.participants) ≡ true → Leaves (Ok leave.Left) (gone_out g)
    ends : nat_lt 1 k ≡ false → nat_lt 1 (set.len sg.participants) ≡ false → Leaves (Ok leave.Last) (last_out g)

  leave_by : (y o z : Bool) (a : Result Released ReleaseError) (d : Change) (s : NodeView) → nat_lt 1 k ≡ y → (k == 1) ≡ o → nat_lt 1 (set.len sg.participants) ≡ z → 1 ≤ k
      → IsSureAnswer (release_of i h t tk (cond y (Some counted_less.view) (cond o (cond z (Some (gone_out g).view) (Some (last_out g).view)) None))) a d → s ≡ node_view_after joins_here d → Leaves a s
  leave_by true o z a d s e u f some x is = into Leaves x.0 (is ∙ ap (node_view_after joins_here) x.1) (still e)
  leave_by false true true a d s e u f some x is = into Leaves x.0 (is ∙ ap (node_view_after joins_here) x.1) (leaves e f)
  leave_by false true false a d s e u f some x is = into Leaves x.0 (is ∙ ap (node_view_after joins_here) x.1) (ends e f)
  leave_by false false z a d s e u f some x is = absurd (grind (arith, nat_tests, e, u, some))

  release_at : (a : Result Released ReleaseError) (s : NodeView) → 1 ≤ k → is_ticket i h n (map.get tk t) ≡ true → AtNode i h joins_here (letter.Release t i h n a) s → Leaves a s
  release_at a s some has r = leave_by _ _ _ a r.change s refl refl refl some (rw has at r.own) r.is

  -- What close does where the node has joined.
  pub data Closed : NodeView → Type 0 where
    counts : nat_lt 1 k ≡ true → Closed counted_less
    goes : nat_lt 1 k ≡ false → nat_lt 1 (set.len sg.participants) ≡ true → Closed (gone_out false)
    clears : nat_lt 1 k ≡ false → nat_lt 1 (set.len sg.participants) ≡ false → Closed all_gone

  is_still : {u : NodeView} → Leaves (Ok leave.StillCounted) u → (nat_lt 1 k ≡ true) × (u ≡ counted_less)
  is_still (still e) = (e, refl)

  is_left : {u : NodeView} → Leaves (Ok leave.Left) u → (nat_lt 1 k ≡ false) × (nat_lt 1 (set.len sg.participants) ≡ true) × (u ≡ gone_out g)
  is_left (leaves e f) = (e, f, refl)

  is_end : {u : NodeView} → Leaves (Ok leave.Last) u → (nat_lt 1 k ≡ false) × (nat_lt 1 (set.len sg.participants) ≡ false) × (u ≡ last_out g)
  is_end (ends e f) = (e, f, refl)

  -- the removals after it
  untag_gone : {a : Result (Unit {0}) RemoveError} {u : NodeView} → AtNode i h (gone_out g) (letter.RemoveTag i h a) u → (a ≡ Ok tt) × (u ≡ gone_out false)
  untag_gone r = (r.own.0, r.is ∙ ap (node_view_after (gone_out g)) r.own.1)

  untag_last : {a : Result (Unit {0}) RemoveError} {u : NodeView} → AtNode i h (last_out g) (letter.RemoveTag i h a) u → (a ≡ Ok tt) × (u ≡ last_out false)
  untag_last r = (r.own.0, r.is ∙ ap (node_view_after (last_out g)) r.own.1)

  clear_last : {a : Result (Unit {0}) RemoveError} {u : NodeView} → AtNode i h (last_out false) (letter.RemoveSegment i h a) u → (a ≡ Ok tt) × (u ≡ cleared_out)
  clear_last r = (r.own.0, r.is ∙ ap (node_view_after (last_out false)) r.own.1)

  end_last : {a : Result (Unit {0}) RemoveError} {u : NodeView} → AtNode i h cleared_out (letter.RemoveDescription i h a) u → (a ≡ Ok tt) × (u ≡ all_gone)
  end_last r = (r.own.0, r.is ∙ ap (node_view_after cleared_out) r.own.1)

  all_last : {tag segment description : Result (Unit {0}) RemoveError} {u : NodeView} → Run (AtNode i h) (last_out g) (letter.RemoveTag i h tag ∷ letter.RemoveSegment i h segment ∷ letter.RemoveDescription i h description ∷ []) u → (tag ≡ Ok tt) × (segment ≡ Ok tt) × (description ≡ Ok tt) × (u ≡ all_gone)
  all_last run =
      let first = head run in
      let one = untag_last first.first in
      let second = head (from one.1 first.rest) in
      let two = clear_last second.first in
      let three = end_last (last (from two.1 second.rest)) in
      (one.0, two.0, three.0, three.1)

  refused_not : {e : ReleaseError} {u : NodeView} → Leaves (Err e) u → ⊥
  refused_not l = elim l [ ]

module _ (f : Registered) (k : ℕ) (b : List ℕ) (sg : Segment) (c : ℕ) (g : Bool) (tk : Tickets) where
  abbrev i : ℕ
  i = f.node

  abbrev h : ServiceHash
  h = f.description.hash

  pub closing : {w : List Letter} {r : Result (Unit {0}) (CloseError Registered)} {s : NodeView} → 1 ≤ k → is_ticket f.node f.description.hash f.number (map.get tk f.ticket) ≡ true → IsCloseWord f w r
      → Run (AtNode f.node f.description.hash) (joins_here f.node f.description.hash f.number f.ticket k b sg c g tk) w s → (r ≡ Ok tt) × Closed f.node f.description.hash f.number f.ticket k b sg c g tk s
  closing some has close.not_here run = absurd (refused_not i h f.number f.ticket k b sg c g tk (release_at i h f.number f.ticket k b sg c g tk _ _ some has (last run)))
  closing some has close.still_counted run = let l = is_still i h f.number f.ticket k b sg c g tk (release_at i h f.number f.ticket k b sg c g tk _ _ some has (last run)) in (refl, subst (λ u. Closed i h f.number f.ticket k b sg c g tk u) (sym l.1) (counts l.0))
  closing some has (close.left tag) run =
      let first = head run in
      let l = is_left i h f.number f.ticket k b sg c g tk (release_at i h f.number f.ticket k b sg c g tk _ first.mid some has first.first) in
      let gone = untag_gone i h f.number f.ticket k b sg c g tk (last (from l.2 first.rest)) in
      (ap (λ x. first_refused x (Ok tt) (Ok tt)) gone.0, subst (λ u. Closed i h f.number f.ticket k b sg c g tk u) (sym gone.1) (goes l.0 l.1))
  closing some has (close.last tag segment description) run =
      let first = head run in
      let l = is_end i h f.number f.ticket k b sg c g tk (release_at i h f.number f.ticket k b sg c g tk _ first.mid some has first.first) in
      let all = all_last i h f.number f.ticket k b sg c g tk (from l.2 first.rest) in
      let answers : first_refused {F = Registered} tag segment description ≡ Ok tt = λ q. first_refused (all.0 q) (all.1 q) (all.2 q) in
      (answers, subst (λ u. Closed i h f.number f.ticket k b sg c g tk u) (sym all.3) (clears l.0 l.1))
