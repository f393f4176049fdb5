-- The texts of errors.
use Rattle.std.specs.Prelude.{ℕ, List, codes}
use Rattle.iceoryx2_types.specs.declared.types.TypeDetailError.{TypeDetailError}
use Rattle.iceoryx2_types.specs.declared.types.TypeDetailError.TheVariants as detail

abbrev pub type_detail_error_text : TypeDetailError → List ℕ
type_detail_error_text detail.NameLength = codes "a type's name has 1 to 256 bytes"
type_detail_error_text detail.Alignment = codes "a type's alignment is a power of two"
type_detail_error_text detail.OutOfMemory = codes "out of memory"
