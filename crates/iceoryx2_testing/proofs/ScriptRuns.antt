-- What a run makes of the answers and the counts.
use Rattle.std.proofs.Common.{◌≡◌, ◌+◌, ◌≤◌, Bool, true, false, List, [], ◌∷◌, length, length-append, refl, sym, ap, ◌∙◌, subst, inl, inr, arith}
use Rattle.iceoryx2_access.specs.Letter.{Letter}
use Rattle.iceoryx2_access.specs.MayRefuse.{MayRefuse}
use Rattle.iceoryx2_access.specs.Run.{Run, done, next}
use Rattle.iceoryx2_access.proofs.Run.{run_map}
use Rattle.iceoryx2_testing.specs.declared.script.Answer.{Answer}
use Rattle.iceoryx2_testing.specs.declared.script.counters.Counters.{Counters}
use Rattle.iceoryx2_testing.specs.Counters.{counters_after, counters_along}
use Rattle.iceoryx2_testing.specs.Faults.{FaultyState, Reaches, IsRefusableInside, IsFaultlessInside, is_refused}
use Rattle.iceoryx2_testing.specs.Plays.{Lacks, Plays, PlaysFront, EachRunPlays, end, takes, fails}
use Rattle.iceoryx2_testing.specs.Script.{Takes, MeetsFront, is_for}

-- an access before a word that takes a front
met : (b : Bool) (l : Letter) (front : Answer) (rest mid : List Answer) {word : List Letter} {remaining : List Answer} → is_for l front ≡ b → MeetsFront b l front rest mid → PlaysFront mid word remaining → PlaysFront (front ∷ rest) (l ∷ word) remaining
met true l front rest mid e h p = record {
  taken = front ∷ p.taken;
  front = ap (λ xs. front ∷ xs) (sym h.1 ∙ p.front);
  plays = takes h.0 p.plays;
}
met false l front rest mid {remaining} e h p = record {
  taken = p.taken;
  front = sym h.1 ∙ p.front;
  plays = fails (subst (Lacks l) (sym h.1 ∙ p.front) e) h.0 p.plays;
}

before : (old mid : List Answer) (l : Letter) {word : List Letter} {remaining : List Answer} → Takes old l mid → PlaysFront mid word remaining → PlaysFront old (l ∷ word) remaining
before [] mid l {remaining} h p = record {
  taken = p.taken;
  front = sym h.1 ∙ p.front;
  plays = fails (subst (Lacks l) (sym h.1 ∙ p.front) tt) h.0 p.plays;
}
before (front ∷ rest) mid l h p = met (is_for l front) l front rest mid refl h p

pub plays_front : EachRunPlays
plays_front a b word done = record { taken = []; front = refl; plays = end }
plays_front a b word (next {mid} {letter} {word = rest} h run) = before a.remaining mid.remaining letter h.takes (plays_front mid b rest run)

at_most : {remaining : List Answer} {word : List Letter} {taken : List Answer} → Plays remaining word taken → length taken ≤ length word
at_most end = omega arith
at_most (takes h p) = let e = at_most p in omega arith
at_most (fails h f p) = let e = at_most p in omega arith

pub few : {old remaining : List Answer} {word : List Letter} → PlaysFront old word remaining → length old ≤ length word + length remaining
few {remaining} p =
    let e = at_most p.plays in
    let l = ap length p.front ∙ length-append p.taken remaining in omega arith

-- counts that each access changes by its letter, a run changes by its word
pub counted_along : {S : Type 0} {step : S → Letter → S → Type 0} (counters : S → Counters) → ((a b : S) (l : Letter) → step a l b → counters b ≡ counters_after l (counters a))
    → {a b : S} {word : List Letter} → Run step a word b → counters b ≡ counters_along word (counters a)
counted_along counters each done = refl
counted_along counters each (next {letter} {word} h run) = counted_along counters each run ∙ ap (counters_along word) (each _ _ letter h)

reached : {S : Type 0} (step : S → Letter → S → Type 0) (b : Bool) {old new : S} {l : Letter} → Reaches b step old l new → MayRefuse step old l new
reached step true h = inr h
reached step false h = inl h

inside : {S : Type 0} (step : S → Letter → S → Type 0) (b : Bool) {old new : S} {l : Letter} → b ≡ false → Reaches b step old l new → step old l new
inside step true e h = absurd (cc)
inside step false e h = h

module _ {S : Type 0} {step : S → Letter → S → Type 0} where
  pub refusable : {a b : FaultyState S} {word : List Letter} → IsRefusableInside step a b word
  refusable run = run_map (λ s. s.inner) (λ s t l h. reached step (is_refused t.accesses s.refused) h.inside) run

  -- the numbers of a word's accesses are those of its first and of the rest
  pub faultless : {a b : FaultyState S} {word : List Letter} → IsFaultlessInside step a b word
  faultless done none = done
  faultless (next {old} {mid} {word} h run) none =
      let e = h.accesses in
      next (inside step (is_refused mid.accesses old.refused) (none mid.accesses (omega (arith, e)) (omega (arith, e))) h.inside)
      (faultless run (λ number least most. subst (λ xs. is_refused number xs ≡ false) (sym h.refused) (none number (omega (arith, e, least)) (omega (arith, e, most)))))
