-- What a hold that waits comes to.
use Rattle.std.proofs.Common.{◌≡◌, inl, inr, Bool, false, Result, Ok, Err, OnOk, refl, sym, ap, ◌∙◌}
use Rattle.iceoryx2_session.specs.CommandWords.{SpansSession}
use Rattle.iceoryx2_session.specs.Sessions.{SessionOver}
use Rattle.wulameron_serve.specs.Holding.{Wakes, Waits, asleep, looks, goes_on}
use Rattle.wulameron_serve.specs.Shared.{GivesBack, KnowsWhatIsGone}
use Rattle.wulameron_serve.specs.declared.holding.WaitError.{WaitError}

-- what is so anyway is so where it is asked for
so_anyway : {A E P : Type 0} (r : Result A E) → P → OnOk r P
so_anyway (Ok x) p = p
so_anyway (Err e) p = tt

abbrev failed : (A : Type 0) → WaitError → Result A WaitError
failed A e = Err e

-- The slots are as before, as nothing is told to be gone.
kept_slots : {S : Type 0} (mid new : SessionOver S) (is_gone : Bool) → KnowsWhatIsGone mid is_gone new → is_gone ≡ false → new.slots ≡ mid.slots
kept_slots mid new is_gone (inl same) not_gone = same
kept_slots mid new is_gone (inr gone) not_gone = absurd (cc (sym gone ∙ not_gone))

module _ {S : Type 0} (settles shows : S → S → Type 0) where
  -- one wait after another
  pub along : (old mid new : SessionOver S) → Wakes settles shows old mid → Wakes settles shows mid new → Wakes settles shows old new
  along old mid new first asleep = first
  along old mid new first (looks {mid = m} more shown) = looks (along old mid m first more) shown
  along old mid new first (goes_on {mid = m} more gives) = goes_on (along old mid m first more) gives

  -- nothing was done
  pub still : {A : Type 0} (s : SessionOver S) (r : Result A WaitError) → Waits settles shows s r s
  still s r = record { wakes = asleep; holds = so_anyway r refl }

  -- others' doings were shown
  pub looked : {A : Type 0} (old new : SessionOver S) (r : Result A WaitError) → SpansSession shows old new → Waits settles shows old r new
  looked old new r spans = record { wakes = looks asleep spans; holds = so_anyway r (ap (λ (s : SessionOver S). s.slots) spans.same) }

  -- It looked and went on, and tells that it lost what it held.
  pub lost : (A : Type 0) (old mid new : SessionOver S) (e : WaitError) → SpansSession shows old mid → GivesBack settles mid new
      → Waits settles shows old (failed A e) new
  lost A old mid new e spans gives = record { wakes = goes_on (looks asleep spans) gives; holds = tt }

  -- It looked and went on, and nothing is gone.
  pub went_on : {A : Type 0} (old mid new : SessionOver S) (r : Result A WaitError) (is_gone : Bool) → SpansSession shows old mid → GivesBack settles mid new
      → KnowsWhatIsGone mid is_gone new → is_gone ≡ false → Waits settles shows old r new
  went_on old mid new r is_gone spans gives knows not_gone = record {
    wakes = goes_on (looks asleep spans) gives;
    holds = so_anyway r (kept_slots mid new is_gone knows not_gone ∙ ap (λ (s : SessionOver S). s.slots) spans.same);
  }
