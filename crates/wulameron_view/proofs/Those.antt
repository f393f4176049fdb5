-- Which services that are being created are listed.
use Rattle.std.proofs.Common.{◌≡◌, Bool, true, false, List, []}
use Rattle.std.specs.Prelude.{if◌then◌else◌}

pub emptied : {A : Type 0} (b : Bool) (all xs : List A) → b ≡ false → xs ≡ [] → xs ≡ (if b then all else [])
emptied false all xs closed none = none
emptied true all xs closed none = absurd cc

pub kept : {A : Type 0} (b : Bool) (all xs : List A) → b ≡ true → xs ≡ all → xs ≡ (if b then all else [])
kept true all xs opened same = same
kept false all xs opened same = absurd cc
