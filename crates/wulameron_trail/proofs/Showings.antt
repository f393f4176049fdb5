-- Lines that a text has grown by.
use Rattle.std.proofs.Common.{◌≡◌, ℕ, List, [], ◌++◌, Result, Ok, Err, OnOk, codes, decimal, refl, sym, append-nil}
use Rattle.std.specs.declared.alloc.AllocError.{AllocError}
use Rattle.iceoryx2_log.specs.declared.entry.Entry.{Entry}
use Rattle.wulameron_trail.specs.EntryTexts.{AddsEntryLine, doer}
use Rattle.iceoryx2_journal.specs.Follow.{IsFollowed}
use Rattle.iceoryx2_world.specs.World.{World}
use Rattle.wulameron_trail.specs.declared.showing.Silence.{Silence}
use Rattle.wulameron_trail.specs.declared.stopping.ShowError.{ShowError}
use Rattle.wulameron_trail.specs.Listing.{FollowsStale}
use Rattle.wulameron_trail.specs.Showings.{FollowsSilently}
use Rattle.wulameron_trail.specs.declared.listing.Listing.{Listing}

pub entry_line_shown : (place : ℕ) (e : Entry) (old new : List ℕ) (r : Result (Unit {0}) AllocError) → OnOk r (AddsEntryLine place e old new)
    → OnOk r ((line : List ℕ) × AddsEntryLine place e [] line × (new ≡ old ++ line))
entry_line_shown place e old new (Ok x) adds =
    let line = decimal place ++ (codes " " ++ (doer e ++ (adds.0 ++ codes "\n"))) in
    (line, (adds.0, adds.1, refl), adds.2)
entry_line_shown place e old new (Err x) adds = tt

-- an entry is followed, and the text stays as it was
pub followed_silently : (old : Silence) (e : Entry) (w : World) (text : List ℕ) (r : Result (Unit {0}) ShowError) → OnOk r (IsFollowed old.world e w)
    → OnOk r ((line : List ℕ) × FollowsSilently old e line (record { world = w }) × (text ≡ text ++ line))
followed_silently old e w text (Ok x) is = ([], record { followed = is; line_is = refl }, sym (append-nil text))
followed_silently old e w text (Err x) is = tt

-- the same where services are listed anew
pub followed_stale : {F : Type 0} (old new : Listing F) (e : Entry) (text : List ℕ) (r : Result (Unit {0}) ShowError) → OnOk r (IsFollowed old.world e new.world)
    → OnOk r ((line : List ℕ) × FollowsStale old e line new × (text ≡ text ++ line))
followed_stale old new e text (Ok x) is = ([], record { followed = is; line_is = refl }, sym (append-nil text))
followed_stale old new e text (Err x) is = tt
