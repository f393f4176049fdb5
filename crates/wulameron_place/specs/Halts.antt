-- What keeps a program from going on.
use Rattle.std.specs.Prelude.{Bool, true, false}
use Rattle.negotiate_serve.specs.declared.ending.ServeError.TheVariants as failure
use Rattle.wulameron_place.specs.declared.halt.Halt.{Halt}
use Rattle.wulameron_place.specs.declared.halt.Halt.TheVariants as halt

-- The log or want of memory keeps a node from being started.
abbrev pub is_of_start : Halt → Bool
is_of_start (halt.Log t) = true
is_of_start (halt.Serving failure.OutOfMemory) = true
is_of_start _ = false
