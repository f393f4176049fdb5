-- From entry to entry through a log's bytes.
use Rattle.std.proofs.Common.{◌≡◌, ℕ, ◌+◌, ◌≤◌, List, ◌++◌, length, take, drop, refl, sym, ap, subst}
use Rattle.std.proofs.Common.{Result, Ok, Err, IfOk, IfErr, ◌↔◌, ◌≢◌, ◌⊎◌, ◌-◌, inl}
use Rattle.std.proofs.Common.{◌∙◌, append_assoc, inr, length-append, arith}
use Rattle.std.proofs.lemmas.List.{length-take-le, take-append-drop, take_at, take_rest}
use Rattle.iceoryx2_world.specs.World.{World}
use Rattle.iceoryx2_world.proofs.agreement.Empty.{empty_agrees}
use Rattle.iceoryx2_access.specs.Run as run
use Rattle.iceoryx2_journal.proofs.ComingTo.{comes_keep}
use Rattle.iceoryx2_journal.proofs.Replaying.{entries_come}
use Rattle.iceoryx2_log.specs.declared.entry.Entry.{Entry}
use Rattle.iceoryx2_log.specs.Form.{IsForm, Begins}
use Rattle.iceoryx2_file_log.specs.declared.header.TheConstants.{HEADER_LENGTH}
use Rattle.iceoryx2_file_log.specs.declared.header.Header.{Header}
use Rattle.iceoryx2_file_log.specs.declared.header.HeaderError.{HeaderError}
use Rattle.iceoryx2_file_log.specs.declared.header.HeaderError.TheVariants as errors
use Rattle.iceoryx2_file_log.specs.declared.header.TheConstants.{VERSION}
use Rattle.iceoryx2_file_log.specs.Header.{IsForm as IsHeaderForm, HasVersion}
use Rattle.iceoryx2_journal.specs.Follow.{IsFollowed}
use Rattle.wulameron_trail.specs.declared.checker.Ending.{Ending}
use Rattle.wulameron_trail.specs.declared.checker.Sound.{Sound}
use Rattle.wulameron_trail.specs.declared.checker.LogFault.{LogFault}
use Rattle.wulameron_trail.specs.declared.checker.Found.{Found}
use Rattle.wulameron_trail.specs.declared.checker.Verdict.TheVariants as verdict
use Rattle.wulameron_trail.specs.Checking.{Reaches, ReachedWorldsAgree, begun, goes, Fits, IsAccess, IsEnd, IsNoHeader, IsWrongNext, Parts}
use Rattle.wulameron_trail.specs.declared.checker.Step.{Step}
use Rattle.wulameron_trail.specs.Steps.{IsStep, IsVerdictOn}
use Rattle.std.specs.declared.alloc.AllocError.{AllocError}
use Rattle.iceoryx2_file_log.specs.declared.remainder.Front.{Front}
use Rattle.iceoryx2_file_log.specs.declared.remainder.Front.TheVariants as front

-- what entries come to from a world that agrees does so
pub reached_agree : ReachedWorldsAgree
reached_agree h bytes n w begun = empty_agrees h.counter
reached_agree h bytes n w (goes {bytes = taken} {n = k} {w = old} e form before is fits follows) =
    (comes_keep (entries_come (run.next follows run.done)) (reached_agree h taken k old before)).0

-- no form is empty
form_is_long : (e : Entry) (form : List ℕ) → IsForm e form → 1 ≤ length form
form_is_long e form is = omega (arith, ap length is.is)

pub record GoesOn (h : Header) (entries : List ℕ) (at count place : ℕ) (u : World) : Type 0 where
  pub within : at + count ≤ length entries
  pub some : 1 ≤ count
  pub reaches : Reaches h (take (at + count) entries) (place + 1) u

pub goes_on : (h : Header) (entries : List ℕ) (at place count : ℕ) (w u : World) (e : Entry) → at ≤ length entries
    → Reaches h (take at entries) place w → Begins (drop at entries) e count → Fits h.snapshot_length at count
    → IsFollowed w e u → GoesOn h entries at count place u
goes_on h entries at place count w u e le reaches begins fits is =
    let before : length (take at entries) ≡ at = length-take-le at entries le in
    let all : entries ≡ (take at entries ++ begins.form) ++ begins.rest =
    sym (take-append-drop at entries) ∙ ap (λ (l : List ℕ). take at entries ++ l) begins.parts
    ∙ sym (append_assoc (take at entries) begins.form begins.rest) in
    let long : length (take at entries ++ begins.form) ≡ at + count =
    omega (arith, length-append (take at entries) begins.form, before, begins.counted) in
    let next : take (at + count) entries ≡ take at entries ++ begins.form =
    ap (take (at + count)) all ∙ take_at (take at entries ++ begins.form) begins.rest (at + count) long in
    let fitting : Fits h.snapshot_length (length (take at entries)) (length begins.form) =
    rw (before, sym begins.counted) fits in
    record {
      within = omega (arith, ap length all, length-append (take at entries ++ begins.form) begins.rest, long);
      some = omega (arith, form_is_long e begins.form begins.is_form, begins.counted);
      reaches = subst (λ (l : List ℕ). Reaches h l (place + 1) u) (sym next)
          (goes e begins.form reaches begins.is_form fitting is);
    }

parts_there : (h : Header) (entries : List ℕ) (at place : ℕ) (w : World) (bytes front : List ℕ)
    → Reaches h (take at entries) place w → IsHeaderForm h front → bytes ≡ front ++ entries
    → Parts bytes h (take at entries) (drop at entries) place w
parts_there h entries at place w bytes front reaches form is = record {
  front = front;
  form = form;
  reaches = reaches;
  parts = is ∙ ap (λ (l : List ℕ). front ++ l) (sym (take-append-drop at entries));
}

pub ends_there : (h : Header) (entries : List ℕ) (at place : ℕ) (w : World) (ending : Ending) (s : Sound)
    → at ≤ length entries → Reaches h (take at entries) place w → IsEnd (drop at entries) ending
    → h.snapshot_length ≤ at → s ≡ record { entries = place; end = HEADER_LENGTH + at; ending = ending }
    → IsVerdictOn h entries (verdict.Sound s)
ends_there h entries at place w ending s le reaches end snapshot is bytes front form parts =
    let long = length-take-le at entries le in
    record {
      header = h;
      taken = take at entries;
      rest = drop at entries;
      world = w;
      parts = subst (λ (n : ℕ). Parts bytes h (take at entries) (drop at entries) n w) (sym (ap (λ (x : Sound). x.entries) is))
          (parts_there h entries at place w bytes front reaches form parts);
      snapshot = omega (arith, long, snapshot);
      byte = ap (λ (x : Sound). x.end) is ∙ ap (λ (n : ℕ). HEADER_LENGTH + n) (sym long);
      end = subst (λ (x : Ending). IsEnd (drop at entries) x) (sym (ap (λ (x : Sound). x.ending) is)) end;
    }

pub fails_there : (h : Header) (entries : List ℕ) (at place : ℕ) (w : World) (wrong : LogFault) (f : Found)
    → at ≤ length entries → Reaches h (take at entries) place w
    → IsWrongNext h.snapshot_length w at (drop at entries) wrong
    → f ≡ record { wrong = wrong; place = place; byte = HEADER_LENGTH + at } → IsVerdictOn h entries (verdict.Wrong f)
fails_there h entries at place w wrong f le reaches next is bytes front form parts =
    let long = length-take-le at entries le in
    inr (record {
      header = h;
      taken = take at entries;
      rest = drop at entries;
      world = w;
      parts = subst (λ (n : ℕ). Parts bytes h (take at entries) (drop at entries) n w) (sym (ap (λ (x : Found). x.place) is))
          (parts_there h entries at place w bytes front reaches form parts);
      byte = ap (λ (x : Found). x.byte) is ∙ ap (λ (n : ℕ). HEADER_LENGTH + n) (sym long);
      is = subst (λ (x : LogFault). IsWrongNext h.snapshot_length w (length (take at entries)) (drop at entries) x)
          (sym (ap (λ (x : Found). x.wrong) is))
          (subst (λ (n : ℕ). IsWrongNext h.snapshot_length w n (drop at entries) wrong) (sym long) next);
    })

-- what refuses bytes is why they are no header
pub no_header : (bytes : List ℕ) (r : Result Header HeaderError)
    → ((h : Header) → (r ≡ Ok h) ↔ IsHeaderForm h bytes)
    → ((r ≡ Err errors.NotALog) ↔ ((version : ℕ) → HasVersion version bytes → ⊥))
    → ((found : ℕ) → (r ≡ Err (errors.AnotherVersion found)) ↔ (HasVersion found bytes × (found ≢ VERSION)))
    → IfErr r (IsNoHeader bytes)
no_header bytes (Ok h) form other version = tt
no_header bytes (Err errors.NotALog) form other version = other.0 refl
no_header bytes (Err (errors.AnotherVersion found)) form other version = (version found).0 refl
no_header bytes (Err errors.Damaged) form other version = (
  λ h is. let e = (form h).1 is in absurd (cc),
  λ none. let e = other.1 none in absurd (cc),
  λ found has isnt. let e = (version found).1 (has, isnt) in absurd (cc),
)

-- what a step is, by its form and the rest as it stands
pub step_as : (h : Header) (entries : List ℕ) (at : ℕ) (w u : World) (s t : Step)
    → IsStep h.snapshot_length w at (take (length entries - at) (drop at entries)) s u → s ≡ t
    → IsStep h.snapshot_length w at (drop at entries) t u
step_as h entries at w u s t is e =
    subst (λ (x : Step). IsStep h.snapshot_length w at (drop at entries) x u) e
    (subst (λ (l : List ℕ). IsStep h.snapshot_length w at l s u) (take_rest entries at) is)

abbrev the_result : Result Front AllocError → Result Front AllocError
the_result r = r

-- what is no entry and no end isn't torn, and isn't whole
-- what comes of an access, where there is memory
pub accessed_step : (snapshot at : ℕ) (rest : List ℕ) (w u : World) (e : Entry) (count : ℕ) (r : Result Step AllocError)
    → IfOk r (λ step. (bytes : List ℕ) → IsAccess bytes e count → IsStep snapshot w at bytes step u)
    → IsAccess rest e count → IfOk r (λ step. IsStep snapshot w at rest step u)
accessed_step snapshot at rest w u e count (Ok step) f is = f rest is
accessed_step snapshot at rest w u e count (Err x) f is = tt

pub neither : (f : Front) → (f ≡ front.Unfinished) ⊎ (f ≡ front.Damaged)
    → (the_result (Ok f) ≡ Ok front.Torn → ⊥)
    × ((e : Entry) (n : ℕ) → f ≡ front.Whole e n → ⊥)
neither f (inl x) = (λ y. absurd (cc), λ e n y. absurd (cc))
neither f (inr x) = (λ y. absurd (cc), λ e n y. absurd (cc))
