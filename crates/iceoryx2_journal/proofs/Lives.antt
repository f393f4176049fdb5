-- What cleaning, adopting and refreshing are in the life of a journal.
use Rattle.std.proofs.Common.{◌≡◌, inl, inr, ◌⊎◌, ℕ, Bool, true, false, List, [], ◌∷◌, Option, Result, Ok, Err, refl, sym, subst}
use Rattle.iceoryx2_access.specs.Letter.{Letter}
use Rattle.iceoryx2_access.specs.Run.{Run, done, next}
use Rattle.iceoryx2_log.specs.Log.{Contents}
use Rattle.iceoryx2_journal.specs.declared.cleaning.Cleaned.{Cleaned}
use Rattle.iceoryx2_journal.specs.declared.cleaning.CleanError.{CleanError}
use Rattle.iceoryx2_journal.specs.declared.cleaning.CleanError.TheVariants as errors
use Rattle.iceoryx2_journal.specs.declared.cleaning.Step.TheVariants as step
use Rattle.iceoryx2_journal.specs.declared.cleaning.AdoptError.{AdoptError}
use Rattle.iceoryx2_journal.specs.Journal.{JournalState, Begins, Resumes}
use Rattle.iceoryx2_journal.specs.Cleaning.{CleansBy, CleansNext, CleansAll, Cleans, Adopts}
use Rattle.iceoryx2_journal.specs.Replay.{Lives, begun, refreshes, cleans, adopts, resumes}

module _ {L : Type 0} (contents : L → Option Contents) where
  pub begins_lives : (old new : JournalState L) (has_begun : Bool) → Begins contents true has_begun old new → Lives contents old new
  begins_lives old new has_begun b = refreshes has_begun begun b

  pub adopts_lives : (i : ℕ) (old new : JournalState L) (r : Result (Unit {0}) AdoptError) → Adopts contents i r old new → Lives contents old new
  adopts_lives i old new r a = adopts i r begun a

  pub resumes_lives : (log : L) (old new : JournalState L) (has_begun : Bool) → contents log ≡ contents old.log → Resumes contents log has_begun old new → Lives contents old new
  resumes_lives log old new has_begun same r = resumes log has_begun begun same r

  same_lives : (a b c : JournalState L) → Lives contents a b → c ≡ b → Lives contents a c
  same_lives a b c so_far same = subst (λ x. Lives contents a x) (sym same) so_far

  steps_live : (i : ℕ) (a b c : JournalState L) (word : List Letter) → Lives contents a b → Run (CleansBy contents i) b word c → Lives contents a c
  steps_live i a b c [] so_far done = so_far
  steps_live i a b c (l ∷ word) so_far (next {mid} h r) = steps_live i a mid c word (cleans i l so_far h) r

  end_lives : (i : ℕ) (a b c : JournalState L) → Lives contents a b → (c ≡ b) ⊎ CleansNext contents i step.Refused b c → Lives contents a c
  end_lives i a b c so_far (inl same) = same_lives a b c so_far same
  end_lives i a b c so_far (inr (inl f)) = refreshes false so_far f
  end_lives i a b c so_far (inr (inr x)) = cleans i x.0 so_far x.1

  all_lives : (i : ℕ) (old new : JournalState L) (r : Result Cleaned CleanError) → CleansAll contents i r old new → Lives contents old new
  all_lives i old new (Ok c) x = refreshes true (steps_live i old old x.0 x.1.word begun x.1.run) (refl, x.2.0)
  all_lives i old new (Err e) x = end_lives i old x.2 new (steps_live i old old x.2 x.3.word begun x.3.run) x.4

  pub cleans_lives : (i : ℕ) (old new : JournalState L) (r : Result Cleaned CleanError) → Cleans contents i r old new → Lives contents old new
  cleans_lives i old new (Err errors.IsOwn) x = same_lives old old new begun x.1
  cleans_lives i old new (Err errors.Refused) x = all_lives i old new (Err errors.Refused) x.1
  cleans_lives i old new (Ok c) x = all_lives i old new (Ok c) x.1
