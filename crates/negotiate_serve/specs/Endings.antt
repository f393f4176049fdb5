-- How the program ends.
use Rattle.std.specs.Prelude.{ℕ, List, codes, Result, Ok, Err}
use Rattle.std.specs.declared.io.ErrorKind.{ErrorKind}
use Rattle.std.specs.declared.io.ErrorKind.TheVariants as kind
use Rattle.negotiate_serve.specs.declared.ending.Ending.{Ending}
use Rattle.negotiate_serve.specs.declared.ending.Ending.TheVariants as ending
use Rattle.negotiate_serve.specs.declared.ending.ServeError.{ServeError}
use Rattle.negotiate_serve.specs.declared.ending.ServeError.TheVariants as failure

-- 0 at the end of the input, 2 after a line that is no command, 3 after a failure
abbrev pub status_of : Result Ending ServeError → ℕ
status_of (Ok ending.InputEnded) = 0
status_of (Ok (ending.NotACommand number line)) = 2
status_of (Err f) = 3

-- what a read's error is: that memory ran out, or any other
abbrev pub failure_of_reading : ErrorKind → ServeError
failure_of_reading kind.OutOfMemory = failure.OutOfMemory
failure_of_reading _ = failure.Reading

-- reading fails, or memory runs out in it
abbrev pub IsOfReading : ServeError → Type 0
IsOfReading failure.Reading = Unit {0}
IsOfReading failure.OutOfMemory = Unit {0}
IsOfReading failure.Writing = ⊥
IsOfReading failure.TooManyLines = ⊥
IsOfReading failure.TooManyTries = ⊥

-- writing fails, or is interrupted too often
abbrev pub IsOfWriting : ServeError → Type 0
IsOfWriting failure.Writing = Unit {0}
IsOfWriting failure.TooManyTries = Unit {0}
IsOfWriting failure.Reading = ⊥
IsOfWriting failure.TooManyLines = ⊥
IsOfWriting failure.OutOfMemory = ⊥

-- what is written of a failure behind the program's name
abbrev pub reason_of : ServeError → List ℕ
reason_of failure.Reading = codes ": reading failed\n"
reason_of failure.Writing = codes ": writing failed\n"
reason_of failure.TooManyLines = codes ": too many lines\n"
reason_of failure.TooManyTries = codes ": interrupted too often\n"
reason_of failure.OutOfMemory = codes ": out of memory\n"
