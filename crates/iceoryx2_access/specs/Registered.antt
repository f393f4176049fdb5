-- What a factory holds of its service.
use Rattle.std.specs.Prelude.{ℕ}
use Rattle.iceoryx2_description.specs.Description.{Description}

pub record Registered : Type 0 where
  pub node : ℕ
  -- the service's number, and the ticket of this registration
  pub number : ℕ
  pub ticket : ℕ
  pub description : Description
