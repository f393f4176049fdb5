-- For how long the server waits for a lock.
use Rattle.std.specs.Prelude.{ℕ, max, min}

-- in milliseconds: 0 would be without limit, and more than this the server doesn't take
abbrev pub lock_wait : ℕ → ℕ
lock_wait patience = min (max patience 1) 2147483647
