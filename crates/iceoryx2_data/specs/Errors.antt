-- The texts of errors.
use Rattle.std.specs.Prelude.{ℕ, List, codes}
use Rattle.iceoryx2_data.specs.declared.parts.reading.DecodeError.{DecodeError}
use Rattle.iceoryx2_data.specs.declared.parts.reading.DecodeError.TheVariants as decode

abbrev pub decode_error_text : DecodeError → List ℕ
decode_error_text decode.Malformed = codes "the bytes are no description"
decode_error_text decode.OutOfMemory = codes "out of memory"
