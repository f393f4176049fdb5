-- The first of the unread rows.
use Rattle.std.proofs.Common.{◌≡◌, ◌<◌, ◌⊎◌, inl, inr, ℕ, List, [], ◌∷◌, get_or, length, subst, sym, ap, refl, ◌∙◌, arith}
use Rattle.iceoryx2_log.specs.declared.entry.Entry.{Entry}
use Rattle.iceoryx2_log.specs.Form.{Begins}
use Rattle.iceoryx2_postgres_log.specs.declared.fault.PostgresFault.{PostgresFault}
use Rattle.iceoryx2_postgres_log.specs.declared.fault.PostgresFault.TheVariants as fault
use Rattle.iceoryx2_postgres_log.specs.declared.row.Row.{Row}
use Rattle.iceoryx2_postgres_log.specs.First.{WhyNone}

pub why_none : (ahead : List Row) (row : Row) (bytes : List ℕ) (why : PostgresFault) → 0 < length ahead
    → row ≡ get_or ahead 0 row → bytes ≡ row.form
    → ((e : Entry) → Begins bytes e (length bytes) → why ≡ fault.OutOfMemory)
    → (why ≡ fault.OutOfMemory) ⊎ (why ≡ fault.Damaged row.number) → WhyNone ahead why
why_none [] row bytes why long at is only e = absurd (omega (arith, long))
why_none (r ∷ rest) row bytes why long at is only (inl m) = subst (WhyNone (r ∷ rest)) (sym m) tt
why_none (r ∷ rest) row bytes why long at is only (inr d) =
    subst (WhyNone (r ∷ rest)) (sym d) (record {
      row = r;
      rest = rest;
      is = refl;
      number_is = ap (λ (x : Row). x.number) at;
      none = λ e b.
          let same : r.form ≡ bytes = ap (λ (x : Row). x.form) (sym at) ∙ sym is in
          let no : fault.Damaged row.number ≡ fault.OutOfMemory =
          sym d ∙ only e (subst (λ (l : List ℕ). Begins l e (length l)) same b) in cc;
    })
