-- The texts of errors.
use Rattle.std.specs.Prelude.{ℕ, List, codes}
use Rattle.iceoryx2_description.specs.declared.description.ServiceNameError.{ServiceNameError}
use Rattle.iceoryx2_description.specs.declared.description.ServiceNameError.TheVariants as name

abbrev pub service_name_error_text : ServiceNameError → List ℕ
service_name_error_text name.Length = codes "a service's name has 1 to 255 bytes"
service_name_error_text name.OutOfMemory = codes "out of memory"
