-- Which accesses of a call change what is published, or a count.
use Rattle.std.proofs.Common.{◌∷◌, ◌++◌, [], ◌+◌, ℕ, Bool, true, false, inl, inr, List, Ok, sym, ap, subst, ◌∙◌, append_assoc, ◌≡◌}
use Rattle.iceoryx2_description.specs.declared.description.ServiceHash.{ServiceHash}
use Rattle.iceoryx2_world.specs.declared.world.Participant.TheVariants.{Node}
use Rattle.iceoryx2_world.specs.World.{World, count_of, phase_of, locked_number}
use Rattle.iceoryx2_access.specs.Letter.{Letter}
use Rattle.iceoryx2_access.specs.Letter as letter
use Rattle.iceoryx2_world.specs.Access.{IsOwnPart}
use Rattle.iceoryx2_world.specs.Agreement.{Agrees}
use Rattle.iceoryx2_world.specs.Interference.{IsFallibleUnder}
use Rattle.iceoryx2_world.specs.Calm.{IsCalmLetter}
use Rattle.iceoryx2_world.proofs.agreement.Parts.{locking}
use Rattle.iceoryx2_world.proofs.agreement.Accesses.{faulty_keeps, granted}
use Rattle.iceoryx2_world.proofs.agreement.Calm.{own_calmed, own_unlocks, publishing_counts, joining_counts, Tame, ends, goes, locks, unlocks, WhileLocked, locked_now, tame_both}
use Rattle.iceoryx2_call_laws.specs.Calls.{AtEach, ActsCalmly, ChangesLast}
use Rattle.iceoryx2_rounds.specs.Leaves.{KeepsInTheEnd}
use Rattle.iceoryx2_rounds.proofs.Left.{tags_back}
use Rattle.iceoryx2_call_laws.proofs.calls.Tracked.{front_tame, rounds_back_tame}

-- the lock stays with its node
lock_stays : (nodes : ℕ → Bool) (node : ℕ) → nodes node ≡ true → (hash : ServiceHash) (b : Bool) (w : World) (l : Letter) (v : World) → IsCalmLetter l → IsFallibleUnder nodes w l v → Agrees w → WhileLocked node hash b w → WhileLocked node hash b v
lock_stays nodes node mine hash false w l v ok s old has = tt
lock_stays nodes node mine hash true w l v ok a old has =
    let still = ap locked_number ((a.before old).phases node hash mine) ∙ has.1 in
    elim a.part [
      | inl o ↦ (has.0, (own_calmed a.between l v ok o).locks (Node node) hash has.0 still)
      | inr f ↦ (has.0, ap (λ u. locked_number (phase_of u (Node node) hash)) f.1 ∙ still)
    ]

-- Each access of such a word is calm.
pub calm_at_each : (nodes : ℕ → Bool) {node : ℕ} → nodes node ≡ true → {hash : ServiceHash} {b c : Bool} {word : List Letter} (w : World) → Tame node hash b word c → WhileLocked node hash b w → Agrees w → AtEach (IsFallibleUnder nodes) (ActsCalmly nodes) w word
calm_at_each nodes mine w ends has old = tt
calm_at_each nodes {node} mine {hash} {b = b} w (goes {l = l} ok more) has old = λ v s. (
  λ u between o. (own_calmed u l v ok o).same,
  calm_at_each nodes mine v more (lock_stays nodes node mine hash b w l v ok s old has) (faulty_keeps {own = nodes} w l v s old).0,
)
calm_at_each nodes {node} mine {hash} w (locks {n = n} more) has old = λ v s.
    let b = granted {own = nodes} w (letter.Lock node hash (Ok n)) v (λ e. cc) s in (
      λ u between o. (own_calmed u (letter.Lock node hash (Ok n)) v tt o).same,
      calm_at_each nodes mine v more (b.between.counter, locked_now b.between v node hash (locking b.between v node hash n b.part).1) (faulty_keeps {own = nodes} w (letter.Lock node hash (Ok n)) v s old).0,
    )
calm_at_each nodes {node} mine {hash} w (unlocks x more) has old = λ v s. (
  λ u between o. own_unlocks u v node hash has.0 x (ap locked_number ((between old).phases node hash mine) ∙ has.1) (between old).agrees o,
  calm_at_each nodes mine v more tt (faulty_keeps {own = nodes} w (letter.RemoveDescription node hash x) v s old).0,
)

-- A word whose front is calm and whose last access counts the node once more.
changes_last : (nodes : ℕ → Bool) (node : ℕ) (hash : ServiceHash) (w : World) (front : List Letter) (final : Letter) → AtEach (IsFallibleUnder nodes) (ActsCalmly nodes) w front
    → ((u v : World) → IsOwnPart u final v → count_of v (Node node) hash ≡ count_of u (Node node) hash + 1) → ChangesLast nodes node hash w (front ++ final ∷ [])
changes_last nodes node hash w [] final calm counts = λ u v between o. counts u v o
changes_last nodes node hash w (l ∷ []) final calm counts = λ v s. ((calm v s).0, λ u t between o. counts u t o)
changes_last nodes node hash w (l ∷ (k ∷ front)) final calm counts = λ v s. ((calm v s).0, changes_last nodes node hash v (k ∷ front) final (calm v s).1 counts)

module _ (nodes : ℕ → Bool) {node : ℕ} (mine : nodes node ≡ true) {hash : ServiceHash} (w : World) (old : Agrees w) where
  after_calm : {x front : List Letter} {b : Bool} (final : Letter) → Tame node hash false x false → Tame node hash false front b → ((u v : World) → IsOwnPart u final v → count_of v (Node node) hash ≡ count_of u (Node node) hash + 1)
      → ChangesLast nodes node hash w (x ++ (front ++ final ∷ []))
  after_calm {x} {front} final before tame counts =
      subst (ChangesLast nodes node hash w) (append_assoc x front (final ∷ [])) (changes_last nodes node hash w (x ++ front) final (calm_at_each nodes mine w (tame_both before tame) tt old) counts)

  -- A granted call changes something where it publishes or opens.
  pub changes_in_the_end : {word : List Letter} {n : ℕ} → KeepsInTheEnd node hash word n → ChangesLast nodes node hash w word
  changes_in_the_end {n = n} k =
      let tame = rounds_back_tame k.gives_back in
      subst (ChangesLast nodes node hash w) (sym k.is_word) (elim k.keeps [
        | inl c ↦ subst (λ z. ChangesLast nodes node hash w (k.before ++ z)) (sym c.in_order)
            (after_calm (letter.Publish node hash n c.d (Ok c.ticket)) tame (front_tame c.is_front) (λ u v o. publishing_counts u v node hash n c.d c.ticket o))
        | inr o ↦
            let last = letter.OpenSegment node hash n (Ok o.ticket) in
            subst (λ z. ChangesLast nodes node hash w (k.before ++ z)) (sym o.in_order) (subst (ChangesLast nodes node hash w) (append_assoc k.before o.before (o.front ++ last ∷ []))
            (after_calm last (tame_both tame (rounds_back_tame (tags_back o.gives_back))) (front_tame o.is_front) (λ u v s. joining_counts u v node hash n o.ticket s)))
      ])
