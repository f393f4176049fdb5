-- Where nothing is read of a part, nothing is read of the whole.
use Rattle.std.proofs.Common.{◌≡◌, List, ℕ}
use Rattle.std.specs.Prelude.{Result, Ok, Err}
use Rattle.std.specs.Result.{IsErrAnd}
use Rattle.negotiate_lines.specs.declared.term.TermError.{TermError}
use Rattle.negotiate_lines.specs.declared.term.TermError.TheVariants as error
use Rattle.negotiate_lines.specs.Terms.{Finds, Reads}
use Rattle.negotiate_lines.specs.Vocabulary.{Gives}

pub none_of : {A B : Type 0} (P : A → Type 0) (Q : B → Type 0) (e : TermError) (r : Result B TermError)
    → IsErrAnd r (λ f. f ≡ e) → Reads P (Err e) → (((a : A) → P a → ⊥) → (b : B) → Q b → ⊥) → Reads Q r
none_of P Q e (Ok b) is none lacks = absurd is
none_of P Q error.Malformed (Err error.Malformed) is none lacks = lacks none
none_of P Q error.OutOfMemory (Err error.Malformed) is none lacks = absurd cc
none_of P Q e (Err error.OutOfMemory) is none lacks = tt

pub none_found : {A B : Type 0} (P : A → Type 0) (Q : B → Type 0) (e : TermError) (r : Result B TermError)
    → IsErrAnd r (λ f. f ≡ e) → Finds P (Err e) → (((a : A) → P a → ⊥) → (b : B) → Q b → ⊥) → Finds Q r
none_found P Q e (Ok b) is none lacks = absurd is
none_found P Q error.Malformed (Err error.Malformed) is none lacks = lacks none
none_found P Q error.OutOfMemory (Err f) is none lacks = absurd none
none_found P Q error.Malformed (Err error.OutOfMemory) is none lacks = absurd cc

pub reads_found : {B : Type 0} (Q : B → Type 0) (r : Result B TermError) → Finds Q r → Reads Q r
reads_found Q (Ok b) found = found
reads_found Q (Err error.Malformed) none = none
reads_found Q (Err error.OutOfMemory) none = tt

pub nothing_given : {A S : Type 0} (IsSuch : List ℕ → A → Type 0) (setter : A → S) (value : List ℕ) (e : TermError)
    (r : Result S TermError) → IsErrAnd r (λ f. f ≡ e) → Reads (IsSuch value) (Err e)
    → Reads (Gives IsSuch setter value) r
nothing_given IsSuch setter value e r is none =
    none_of (IsSuch value) (Gives IsSuch setter value) e r is none (λ never s given. never given.0 given.1)
