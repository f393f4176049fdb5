-- Where the log lies that no word names.
use Rattle.std.specs.Prelude.{ℕ, Bool, true, false, List, ◌++◌, Option, Some, None, Result, Ok, Err, codes, decimal}
use Rattle.std.specs.Prelude.{option_map, string_bytes}
use Rattle.iceoryx2_file_log.specs.Errors.{fault_text}
use Rattle.wulameron_arguments.specs.declared.home.FolderError.{FolderError}
use Rattle.wulameron_arguments.specs.declared.home.FolderError.TheVariants as error
use Rattle.wulameron_arguments.specs.declared.home.Surroundings.{Surroundings}

-- in a folder of the user's, which a restart of the machine forgets
abbrev pub shared_memory_folder : (user : ℕ) → List ℕ
shared_memory_folder user = codes "/dev/shm/wulameron-" ++ decimal user

-- the log in this folder
abbrev pub log_in : List ℕ → List ℕ
log_in folder = folder ++ codes "/log"

-- the first of these that is there
abbrev pub first_of : {A : Type 0} → Option A → Option A → Option A
first_of (Some x) other = Some x
first_of None other = other

-- the log that the environment names, or else one in the folder of what a user's programs share, or else in the
-- user's folder of shared memory
abbrev pub default_path : Surroundings → Option (List ℕ)
default_path s =
    first_of (option_map string_bytes s.named)
    (first_of (option_map (λ folder. log_in (string_bytes folder ++ codes "/wulameron")) s.runtime)
    (option_map (λ user. log_in (shared_memory_folder user)) s.user))

-- the first that it lacks: a folder, of the user's own, that no other user can use
abbrev pub own_folder_of : (is_folder is_own is_private : Bool) → Result (Unit {0}) FolderError
own_folder_of false is_own is_private = Err error.NotAFolder
own_folder_of true false is_private = Err error.OfAnotherUser
own_folder_of true true false = Err error.Shared
own_folder_of true true true = Ok tt

abbrev pub folder_error_text : FolderError → List ℕ
folder_error_text error.NotAFolder = codes "isn't a folder; remove it, or name a log by --at"
folder_error_text error.OfAnotherUser =
    codes "is a folder of another user; set XDG_RUNTIME_DIR to one of yours, or name a log by --at"
folder_error_text error.Shared =
    codes "is a folder that other users can use; make it yours alone (chmod 700), or name a log by --at"
folder_error_text (error.Refused f) = fault_text f ++ codes "; name a log with --at"
