-- The lines of a refusal: what is told without its last line feed, and the service that was found.
use Rattle.std.proofs.Common.{◌≡◌, ⊎_elim, ℕ, List, ◌++◌, Option, codes, sym, ap, ◌∙◌, append_assoc, append-nil}
use Rattle.std.specs.Prelude.{Result, Ok, Err, IfOk}
use Rattle.std.specs.declared.alloc.AllocError.{AllocError}
use Rattle.iceoryx2_builder.specs.declared.command.Call.{Call}
use Rattle.iceoryx2_description.specs.Description.{Description}
use Rattle.iceoryx2_world.specs.Listing.{Lists}
use Rattle.iceoryx2_world.specs.World.{World}
use Rattle.iceoryx2_world.specs.declared.listing.Entry.{Entry}
use Rattle.explain_serve.specs.Standing.{IsFound}
use Rattle.negotiate_lines.specs.Escapes.{escaped}
use Rattle.wulameron_serve.specs.Refusals.{IsFoundIn}
use Rattle.wulameron_serve.proofs.LineEnds.{AreLines}
use Rattle.wulameron_place.specs.Troubles.{trouble_line}

pub found_in : (w : World) (call : Call) (entries : List Entry) → Lists w entries → (r : Result (Option Description) AllocError)
    → IfOk r (IsFound call entries) → IfOk r (IsFoundIn w call)
found_in w call entries lists (Ok found) is = record { entries = entries; lists = lists; is_found = is }
found_in w call entries lists (Err e) is = tt

-- a line and lines behind it, without the last line feed
pub front_of : (text offers : List ℕ) → AreLines offers → (front : List ℕ) × (text ++ (codes "\n" ++ offers) ≡ front ++ codes "\n")
front_of text offers are =
    ⊎_elim
    (λ none. (text, ap (λ l. text ++ (codes "\n" ++ l)) none ∙ ap (λ l. text ++ l) (append-nil (codes "\n"))))
    (λ ended. (
      text ++ (codes "\n" ++ ended.0),
      ap (λ l. text ++ (codes "\n" ++ l)) ended.1 ∙ ap (λ l. text ++ l) (sym (append_assoc (codes "\n") ended.0 (codes "\n")))
          ∙ sym (append_assoc text (codes "\n" ++ ended.0) (codes "\n")),
    ))
    are

pub written : (path text offers front : List ℕ) → text ++ (codes "\n" ++ offers) ≡ front ++ codes "\n" → trouble_line path front ≡ trouble_line path text ++ offers
written path text offers front is =
    let before : List ℕ = codes "wulameron: " ++ escaped path ++ codes ": " in
    append_assoc before front (codes "\n") ∙ ap (λ l. before ++ l) (sym is) ∙ sym (append_assoc before text (codes "\n" ++ offers))
    ∙ sym (append_assoc (before ++ text) (codes "\n") offers)
