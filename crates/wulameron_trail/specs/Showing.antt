-- What is shown of entries, one after the other.
use Rattle.std.specs.Prelude.{◌≡◌, ℕ, List, [], ◌++◌, Option, Result, Ok, Err}
use Rattle.std.specs.declared.ops.ControlFlow.{ControlFlow}
use Rattle.std.specs.declared.ops.ControlFlow.TheVariants.{Continue, Break}
use Rattle.std.specs.Io.KnownBytes.{Appends, Keeps}
use Rattle.iceoryx2_log.specs.declared.entry.Operation.TheVariants.{Moved as Mark}
use Rattle.iceoryx2_log.specs.declared.entry.Entry.{Entry}
use Rattle.iceoryx2_log.specs.Form.{IsForm, Begins}
use Rattle.iceoryx2_file_log.specs.Remainder.{IsTorn}
use Rattle.negotiate_serve.specs.declared.ending.ServeError.{ServeError}
use Rattle.negotiate_serve.specs.Outputs.{IsFrontOf}
use Rattle.wulameron_trail.specs.declared.printing.Rest.{Rest}
use Rattle.wulameron_trail.specs.declared.printing.Rest.TheVariants as rest
use Rattle.wulameron_trail.specs.declared.stopping.ShowError.{ShowError}
use Rattle.wulameron_trail.specs.declared.stopping.Stop.{Stop}
use Rattle.wulameron_trail.specs.declared.stopping.Stop.TheVariants as stop
use Rattle.wulameron_trail.specs.Stopping.{stop_of}
use Rattle.wulameron_trail.specs.Unread.{BeginsWithDamage, IsUnread}

module _ {P : Type 0} (Shows : P → Entry → List ℕ → P → Type 0) where
  -- The bytes are entries' forms, one after the other, and the text is what is shown of them, in their order, by
  -- what shows them and changes so.
  pub data AreShown (p : P) : List ℕ → P → List ℕ → Type 0 where
    begun : AreShown p [] p []
    goes : {bytes text : List ℕ} {q r : P} (e : Entry) (form line : List ℕ) → AreShown p bytes q text → IsForm e form
        → Shows q e line r → AreShown p (bytes ++ form) r (text ++ line)

  -- What a writer has taken of what is shown of one entry: all of it; a front, where it failed; or nothing, where the
  -- entry isn't shown.
  pub data ShowsOne (e : Entry) (old new : P) (result : Result (Unit {0}) Stop) (before after : Option (List ℕ))
      : Type 0 where
    shown : (line : List ℕ) → Shows old e line new → result ≡ Ok tt → Appends before after line
        → ShowsOne e old new result before after
    cut : (why : ServeError) (line front : List ℕ) → Shows old e line new → result ≡ Err (stop.Failed why)
        → IsFrontOf front line → Appends before after front → ShowsOne e old new result before after
    unshown : (why : ShowError) → result ≡ Err (stop_of why) → Keeps before after
        → ShowsOne e old new result before after

  -- What was written is this text; or a front of it, where the output failed.
  abbrev pub IsWritten : Result Rest Stop → (written text : List ℕ) → Type 0
  IsWritten (Err (stop.Failed f)) written text = IsFrontOf written text
  IsWritten _ written text = written ≡ text

  -- How it ends, where these bytes are left: they are what a writer leaves that died or nothing; they begin with a
  -- mark; they are damaged; or they begin with an entry that isn't shown.
  abbrev pub IsEndBefore : Result Rest Stop → List ℕ → (reached new : P) → Type 0
  IsEndBefore (Ok rest.Ended) left reached new = IsTorn left × (reached ≡ new)
  IsEndBefore (Ok (rest.Moved e)) left reached new =
      (count : ℕ) × Begins left e count × (e.operation ≡ Mark) × (reached ≡ new)
  IsEndBefore (Err stop.Damaged) left reached new = BeginsWithDamage left
  IsEndBefore (Err stop.NotAnswered) left reached new = (e : Entry) × (count : ℕ) × Begins left e count
  IsEndBefore (Err (stop.Refused f)) left reached new = Unit {0}
  IsEndBefore (Err (stop.Failed f)) left reached new = Unit {0}

  -- What is shown of these bytes, up to how it ends.
  pub record ShowsRest (bytes : List ℕ) (old new : P) (result : Result Rest Stop) (before after : Option (List ℕ))
      : Type 0 where
    pub taken : List ℕ
    pub left : List ℕ
    pub text : List ℕ
    pub written : List ℕ
    pub reached : P
    pub parts : bytes ≡ taken ++ left
    pub shown : AreShown old taken reached text
    pub output : Appends before after written
    pub is : IsWritten result written text
    pub ends : IsEndBefore result left reached new

  -- The next entry is shown, and these bytes are left.
  pub record GoesOn (bytes : List ℕ) (old new : P) (ahead : List ℕ) (left : Option (List ℕ))
      (before after : Option (List ℕ)) : Type 0 where
    pub entry : Entry
    pub form : List ℕ
    pub line : List ℕ
    pub rest : List ℕ
    pub is_form : IsForm entry form
    pub parts : bytes ≡ form ++ rest
    pub shown : Shows old entry line new
    pub output : Appends before after line
    pub unread : IsUnread ahead left rest

  -- The next entry is shown, or that is the end.
  abbrev pub ShowsNext : List ℕ → (old new : P) → Result (ControlFlow Rest ℕ) Stop → List ℕ → Option (List ℕ)
      → (before after : Option (List ℕ)) → Type 0
  ShowsNext bytes old new (Ok (Continue count)) ahead left before after = GoesOn bytes old new ahead left before after
  ShowsNext bytes old new (Ok (Break r)) ahead left before after = ShowsRest bytes old new (Ok r) before after
  ShowsNext bytes old new (Err s) ahead left before after = ShowsRest bytes old new (Err s) before after
