-- The texts of errors.
use Rattle.std.specs.Prelude.{ℕ, List, codes}
use Rattle.iceoryx2_attribute.specs.declared.attribute.AttributeError.{AttributeError}
use Rattle.iceoryx2_attribute.specs.declared.attribute.AttributeError.TheVariants as attribute

abbrev pub attribute_error_text : AttributeError → List ℕ
attribute_error_text attribute.KeyLength = codes "an attribute's key has 1 to 64 bytes"
attribute_error_text attribute.ValueLength = codes "an attribute's value has at most 256 bytes"
attribute_error_text attribute.TooMany = codes "there are as many already as there may be"
attribute_error_text attribute.OutOfMemory = codes "out of memory"
