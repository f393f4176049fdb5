-- A call of some pattern's builder, and how a session's refusal carries its errors.
use Rattle.std.specs.Prelude.{ℕ, List, ◌∷◌}
use Rattle.sha1.specs.Sha1.{sha1}
use Rattle.iceoryx2_description.specs.declared.description.ServiceHash.{ServiceHash}
use Rattle.iceoryx2_rounds.specs.BuilderCalls.{BuilderCall, ErrorBy, Way, ToCreate, ToOpen, ToOpenOrCreate}
use Rattle.iceoryx2_rounds.specs.declared.open_or_create.OpenOrCreateRefusal.{OpenOrCreateRefusal}
use Rattle.iceoryx2_builder.specs.declared.command.How.{How}
use Rattle.iceoryx2_builder.specs.declared.command.How.TheVariants as how
use Rattle.iceoryx2_errors.specs.declared.refusal.Refusal.{Refusal}

pub record PatternCall : Type 1 where
  pub asks : Type 0
  pub open_error : Type 0
  pub create_error : Type 0
  pub call : BuilderCall asks open_error create_error
  pub refusal_of : ErrorBy open_error create_error call.way → Refusal

-- which call a command asks for
abbrev pub way_of : How → Way
way_of how.Create = ToCreate
way_of how.Open = ToOpen
way_of how.OpenOrCreate = ToOpenOrCreate

-- the refusal of a create, of an open, and of the rounds of an open or create
abbrev pub refusal_by : {E C : Type 0} → (C → Refusal) → (E → Refusal) → (OpenOrCreateRefusal E C → Refusal)
    → (way : Way) → ErrorBy E C way → Refusal
refusal_by of_create of_open of_rounds ToCreate = of_create
refusal_by of_create of_open of_rounds ToOpen = of_open
refusal_by of_create of_open of_rounds ToOpenOrCreate = of_rounds

-- the hash of a service, by its pattern's prefix and its name
abbrev pub hash_for : ℕ → List ℕ → ServiceHash
hash_for prefix name = record { 0 = sha1 (prefix ∷ name) }
