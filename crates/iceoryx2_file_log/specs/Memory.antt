-- A file in memory.
use Rattle.iceoryx2_file_log.specs.declared.memory.MemoryFile.{MemoryFile}
use Rattle.iceoryx2_file_log.specs.Medium.{Known}

-- What it holds.
abbrev pub known_of : MemoryFile → Known
known_of file = record {
  bytes = file.bytes.items;
  standing = file.standing.items;
  locked = file.is_locked;
  synchronized = file.is_synchronized;
}
