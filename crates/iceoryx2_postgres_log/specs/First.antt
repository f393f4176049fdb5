-- The entry of the first row that is unread.
use Rattle.std.specs.Prelude.{◌≡◌, ◌≢◌, ℕ, List, [], ◌∷◌, Option, Some, None, length}
use Rattle.iceoryx2_log.specs.declared.entry.Entry.{Entry}
use Rattle.iceoryx2_log.specs.declared.entry.Operation.TheVariants.{Moved}
use Rattle.iceoryx2_log.specs.Form.{Begins}
use Rattle.iceoryx2_postgres_log.specs.declared.fault.PostgresFault.{PostgresFault}
use Rattle.iceoryx2_postgres_log.specs.declared.fault.PostgresFault.TheVariants as fault
use Rattle.iceoryx2_postgres_log.specs.declared.row.Row.{Row}

-- The first of the unread rows tells this entry, and nothing behind it.
pub record ShowsFirst (e : Entry) (ahead : List Row) : Type 0 where
  pub row : Row
  pub rest : List Row
  pub is : ahead ≡ row ∷ rest
  pub begins : Begins row.form e (length row.form)

-- Such an entry, which is no mark; or there is no row.
abbrev pub Shows : Option Entry → List Row → Type 0
Shows None ahead = ahead ≡ []
Shows (Some e) ahead = ShowsFirst e ahead × (e.operation ≢ Moved)

-- The first of the unread rows tells a mark.
pub record ShowsMark (ahead : List Row) : Type 0 where
  pub mark : Entry
  pub first : ShowsFirst mark ahead
  pub moves : mark.operation ≡ Moved

-- The bytes of the first of the unread rows are no entry's form.
pub record IsDamaged (ahead : List Row) (number : ℕ) : Type 0 where
  pub row : Row
  pub rest : List Row
  pub is : ahead ≡ row ∷ rest
  pub number_is : number ≡ row.number
  pub none : (e : Entry) → Begins row.form e (length row.form) → ⊥

-- Why no entry is shown, and there is a row.
abbrev pub WhyNone : List Row → PostgresFault → Type 0
WhyNone ahead fault.OutOfMemory = Unit {0}
WhyNone ahead fault.Moved = ShowsMark ahead
WhyNone ahead (fault.Damaged number) = IsDamaged ahead number
WhyNone ahead other = ⊥
