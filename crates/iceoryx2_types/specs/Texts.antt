-- Texts of a limited length.
use Rattle.std.specs.Prelude.{ℕ, ◌≤◌, List, length, IsTrue}
use Rattle.std.specs.Str.{is_utf8}

-- a text of lo to hi bytes
pub record IsText (lo hi : ℕ) (bytes : List ℕ) : Type 0 where
  pub long : lo ≤ length bytes
  pub short : length bytes ≤ hi
  pub utf8 : IsTrue (is_utf8 bytes)
