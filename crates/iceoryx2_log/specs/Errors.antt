-- The texts of errors.
use Rattle.std.specs.Prelude.{ℕ, List, codes}
use Rattle.iceoryx2_log.specs.declared.form.reading.EntryError.{EntryError}
use Rattle.iceoryx2_log.specs.declared.form.reading.EntryError.TheVariants as entry
use Rattle.iceoryx2_log.specs.declared.form.writing.EncodeError.{EncodeError}
use Rattle.iceoryx2_log.specs.declared.form.writing.EncodeError.TheVariants as encode
use Rattle.iceoryx2_log.specs.declared.log.LogError.{LogError}
use Rattle.iceoryx2_log.specs.declared.log.LogError.TheVariants as log

abbrev pub entry_error_text : EntryError → List ℕ
entry_error_text entry.CutShort = codes "the bytes end before an entry does"
entry_error_text entry.Malformed = codes "the bytes begin with no entry"
entry_error_text entry.OutOfMemory = codes "out of memory"

abbrev pub encode_error_text : EncodeError → List ℕ
encode_error_text encode.TooLong = codes "an entry's body has at most 1048576 bytes"
encode_error_text encode.OutOfMemory = codes "out of memory"

abbrev pub log_error_text : LogError → List ℕ
log_error_text log.Busy = codes "others hold the log"
log_error_text log.OutOfMemory = codes "out of memory"
log_error_text log.Failed = codes "the log refused"
log_error_text log.Damaged = codes "the log is damaged"
log_error_text log.Moved = codes "the log has moved"
