-- What is shown where the services are listed anew.
use Rattle.std.specs.Prelude.{◌≡◌, ◌++◌, ℕ, List, [], ◌∷◌, Option, Result, Ok, Err, codes, string_bytes}
use Rattle.iceoryx2_log.specs.declared.entry.Entry.{Entry}
use Rattle.iceoryx2_journal.specs.Follow.{IsFollowed}
use Rattle.negotiate_serve.specs.Outputs.{Writes}
use Rattle.negotiate_serve.specs.declared.ending.ServeError.{ServeError}
use Rattle.wulameron_arguments.specs.declared.asked.Form.{Form}
use Rattle.wulameron_arguments.specs.declared.asked.Form.TheVariants as form
use Rattle.wulameron_trail.specs.declared.listing.Listing.{Listing}
use Rattle.wulameron_trail.specs.declared.stopping.Stop.{Stop}
use Rattle.wulameron_trail.specs.declared.stopping.Stop.TheVariants as stop
use Rattle.wulameron_view.specs.Looking.{IsListed}

-- The entry is followed, and nothing is shown of it by itself.
pub record FollowsStale {F : Type 0} (old : Listing F) (e : Entry) (line : List ℕ) (new : Listing F) : Type 0 where
  pub followed : IsFollowed old.world e new.world
  pub line_is : line ≡ []

-- lists for people are apart by an empty line; nothing stands before the first list
abbrev pub gap_behind : Form → (last : List ℕ) → List ℕ
gap_behind f [] = []
gap_behind form.Text (c ∷ cs) = codes "\n"
gap_behind form.Names (c ∷ cs) = codes "\n"
gap_behind form.Json (c ∷ cs) = []
gap_behind form.JsonLines (c ∷ cs) = []

abbrev pub gap : {F : Type 0} → Listing F → List ℕ
gap l = gap_behind l.list.listed.shown.form (string_bytes l.last)

-- There was no memory, or another fault.
abbrev pub IsUnmade : Stop → Type 0
IsUnmade why = (f : ServeError) × (why ≡ stop.Failed f)

abbrev pub stop_in : Result (Unit {0}) ServeError → Result (Unit {0}) Stop
stop_in (Ok x) = Ok x
stop_in (Err f) = Err (stop.Failed f)

-- A list is printed behind the one before, as far as the output takes it; or there is no memory for that.
pub data PrintsBehind (gap text : List ℕ) (result : Result (Unit {0}) Stop) (before after : Option (List ℕ))
    : Type 0 where
  taken : (written : Result (Unit {0}) ServeError) → Writes (gap ++ text) written before after
      → result ≡ stop_in written → PrintsBehind gap text result before after
  unmade : (why : Stop) → IsUnmade why → result ≡ Err why → after ≡ before → PrintsBehind gap text result before after

-- The services are printed so; or they are what was printed last, and nothing is printed, as where there is no memory.
pub data ListsAnew {F : Type 0} (old : Listing F) (result : Result (Unit {0}) Stop) (before after : Option (List ℕ))
    : Type 0 where
  listed : (text : List ℕ) → IsListed old.list.listed old.states.items old.world text
      → PrintsBehind (gap old) text result before after → ListsAnew old result before after
  same : IsListed old.list.listed old.states.items old.world (string_bytes old.last) → result ≡ Ok tt
      → after ≡ before → ListsAnew old result before after
  unlisted : (why : Stop) → IsUnmade why → result ≡ Err why → after ≡ before → ListsAnew old result before after
