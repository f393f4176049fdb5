-- What a contract sees of a handle of a log in one file.
use Rattle.std.specs.Prelude.{◌≡◌, ℕ, zero, suc, Bool, List, refl}
use Rattle.std.specs.Coded.{Coded, code_by, coded×, coded_ℕ, coded_bool, coded_list}
use Rattle.iceoryx2_file_log.specs.declared.cursor.State.{State}
use Rattle.iceoryx2_file_log.specs.declared.cursor.State.TheVariants.{Free, Held, Unsure, Damaged}
use Rattle.iceoryx2_file_log.specs.declared.header.Header.{Header}
use Rattle.iceoryx2_file_log.specs.Place.{Place}

pub record OneFileFacts (M : Type 0) : Type 0 where
  pub medium : M
  pub header : Header
  pub cursor : Place
  -- whether it has the lock
  pub is_locked : Bool
  -- whether what it does is to outlive the machine
  pub synchronizes : Bool

-- ---- a code of it, so that it can be a model's value

abbrev pub state_number : State → ℕ
state_number Free = 0
state_number Held = 1
state_number Unsure = 2
state_number (Damaged at) = suc (suc (suc at))

abbrev pub state_at : ℕ → State
state_at zero = Free
state_at (suc zero) = Held
state_at (suc (suc zero)) = Unsure
state_at (suc (suc (suc at))) = Damaged at

pub state_again : (s : State) → state_at (state_number s) ≡ s
state_again Free = refl
state_again Held = refl
state_again Unsure = refl
state_again (Damaged at) = refl

abbrev pub coded_state : Coded State
coded_state = code_by ℕ coded_ℕ state_number state_at state_again

abbrev pub coded_place : Coded Place
coded_place = code_by (State × (ℕ × (ℕ × (List ℕ × ℕ))))
    (coded× coded_state (coded× coded_ℕ (coded× coded_ℕ (coded× (coded_list coded_ℕ) coded_ℕ))))
    (λ p. (p.state, (p.position, (p.file_length, (p.ahead, p.found)))))
    (λ p. record { state = p.0; position = p.1.0; file_length = p.1.1.0; ahead = p.1.1.1.0; found = p.1.1.1.1 })
    (λ _. refl)

abbrev pub coded_header : Coded Header
coded_header = code_by (List ℕ × (ℕ × ℕ))
    (coded× (coded_list coded_ℕ) (coded× coded_ℕ coded_ℕ))
    (λ h. (h.name.0, (h.counter, h.snapshot_length)))
    (λ p. record { name = record { 0 = p.0 }; counter = p.1.0; snapshot_length = p.1.1 })
    (λ _. refl)

abbrev pub coded_facts : {M : Type 0} → Coded M → Coded (OneFileFacts M)
coded_facts {M} coded_medium = code_by (M × (Header × (Place × (Bool × Bool))))
    (coded× coded_medium (coded× coded_header (coded× coded_place (coded× coded_bool coded_bool))))
    (λ f. (f.medium, (f.header, (f.cursor, (f.is_locked, f.synchronizes)))))
    (λ p. record { medium = p.0; header = p.1.0; cursor = p.1.1.0; is_locked = p.1.1.1.0; synchronizes = p.1.1.1.1 })
    (λ _. refl)
