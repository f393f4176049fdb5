-- Settings that a create raises.
use Rattle.std.specs.Prelude.{ℕ, nat_eq, if◌then◌else◌}

-- where a service has to have room for somebody, zero becomes one
abbrev pub at_least_one : ℕ → ℕ
at_least_one n = if nat_eq n 0 then 1 else n
