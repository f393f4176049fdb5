-- What is written of a command and its reply, part by part.
use Rattle.std.proofs.Common.{◌≡◌, ℕ, List, [], ◌++◌, Option, Some, None, Result, Ok, Err, OnOk, refl, sym, ap, ◌∙◌, subst, append_assoc, append-nil}
use Rattle.std.specs.declared.alloc.AllocError.{AllocError}
use Rattle.iceoryx2_description.specs.Description.{Description}
use Rattle.iceoryx2_testing.specs.Trace.{TracedState}
use Rattle.iceoryx2_world.specs.declared.listing.Entry.{Entry}
use Rattle.iceoryx2_world.specs.Listing.{Lists}
use Rattle.iceoryx2_world.specs.World.{World}
use Rattle.iceoryx2_builder.specs.declared.command.Call.{Call}
use Rattle.iceoryx2_errors.specs.declared.refusal.Refusal.{Refusal}
use Rattle.iceoryx2_builder.specs.declared.command.Reply.{Reply}
use Rattle.negotiate_serve.specs.Replies.{GrowsBy, IsReplyText}
use Rattle.negotiate_lines.specs.Lines.{without_last}
use Rattle.explain_serve.specs.Accesses.{trace_lines}
use Rattle.explain_serve.specs.Diagrams.{messages, note_line}
use Rattle.explain_serve.specs.Offers.{offer_lines}
use Rattle.explain_serve.specs.Refusals.{refusal_row, row_lines}
use Rattle.explain_serve.specs.Standing.{IsFound}
use Rattle.explain_serve.specs.Explained.{found_lines, IsFoundText, IsCallLine, IsRefusalText, refusal_of, IsReasonText, IsTextInLines, IsTextInDiagram}

-- ---- the service that was found

module _ (call : Call) (refused : Refusal) (w : World) (entries : List Entry) (lists : Lists w entries) (found : Option Description) (is_found : IsFound call entries found) where
  pub found_described : (d : Description) (old new : List ℕ) → found ≡ Some d → (done : Result (Unit {0}) AllocError) → OnOk done (new ≡ old ++ offer_lines call refused d)
      → OnOk done (GrowsBy (IsFoundText call refused w) old new)
  found_described d old new is (Ok done) grown = (
    offer_lines call refused d,
    record { entries = entries; lists = lists; found = found; is_found = is_found; are = ap (found_lines call refused) (sym is) },
    grown,
  )
  found_described d old new is (Err e) grown = tt

  pub none_described : (old : List ℕ) → found ≡ None → GrowsBy (IsFoundText call refused w) old old
  none_described old is = (
    [],
    record { entries = entries; lists = lists; found = found; is_found = is_found; are = ap (found_lines call refused) (sym is) },
    sym (append-nil old),
  )

-- ---- a refusal

pub refusal_described : (line : List ℕ) (call : Call) (refused : Refusal) (w : World) (old mid new : List ℕ) → IsCallLine line call → mid ≡ old ++ row_lines (refusal_row refused)
    → (done : Result (Unit {0}) AllocError) → OnOk done (GrowsBy (IsFoundText call refused w) mid new) → OnOk done (GrowsBy (IsRefusalText line refused w) old new)
refusal_described line call refused w old mid new is row (Ok done) offer = (
  row_lines (refusal_row refused) ++ offer.0,
  record { call = call; is_line = is; offer = offer.0; offered = offer.1; are = refl },
  offer.2 ∙ ap (λ l. l ++ offer.0) row ∙ append_assoc old (row_lines (refusal_row refused)) offer.0,
)
refusal_described line call refused w old mid new is row (Err e) offer = tt

-- ---- a reply

module _ {S : Type 0} (world : S → World) (line : List ℕ) (slot made : ℕ) (reply : Reply) (traced : TracedState S) (old mid next : List ℕ) (output : GrowsBy (IsReplyText slot reply) old mid)
    (accesses : next ≡ mid ++ trace_lines made traced.entries) where
  lines_described : (new why : List ℕ) → IsReasonText line (refusal_of reply) (world traced.inner) why → new ≡ next ++ why → GrowsBy (IsTextInLines world line slot reply made traced) old new
  lines_described new why is_text grown = (
    output.0 ++ (trace_lines made traced.entries ++ why),
    record { output = output.0; is_text = output.1; why = why; is_reason = is_text; are = refl },
    grown ∙ ap (λ l. l ++ why) (accesses ∙ ap (λ l. l ++ trace_lines made traced.entries) output.2)
        ∙ append_assoc (old ++ output.0) (trace_lines made traced.entries) why ∙ append_assoc old output.0 (trace_lines made traced.entries ++ why),
  )

  pub refused_described : (refused : Refusal) (new : List ℕ) → refusal_of reply ≡ Some refused → (done : Result (Unit {0}) AllocError)
      → OnOk done (GrowsBy (IsRefusalText line refused (world traced.inner)) next new) → OnOk done (GrowsBy (IsTextInLines world line slot reply made traced) old new)
  refused_described refused new is (Ok done) why =
      lines_described new why.0 (subst (λ o. IsReasonText line o (world traced.inner) why.0) (sym is) why.1) why.2
  refused_described refused new is (Err e) why = tt

  pub granted_described : refusal_of reply ≡ None → GrowsBy (IsTextInLines world line slot reply made traced) old next
  granted_described is = lines_described next [] (subst (λ o. IsReasonText line o (world traced.inner) []) (sym is) refl) (sym (append-nil next))

-- ---- a drawing

pub drawn_described : {S : Type 0} (node slot made : ℕ) (reply : Reply) (traced : TracedState S) (old mid new empty text note : List ℕ) → mid ≡ old ++ messages node made traced.entries
    → empty ≡ [] → GrowsBy (IsReplyText slot reply) empty text → note ≡ without_last 10 text → (done : Result (Unit {0}) AllocError) → OnOk done (new ≡ mid ++ note_line note)
    → OnOk done (GrowsBy (IsTextInDiagram node slot reply made traced) old new)
drawn_described node slot made reply traced old mid new empty text note drawn none output cut (Ok done) noted =
    let is : text ≡ output.0 = output.2 ∙ ap (λ l. l ++ output.0) none in (
      messages node made traced.entries ++ note_line (without_last 10 output.0),
      record { output = output.0; is_text = output.1; are = refl },
      noted ∙ ap (λ l. mid ++ note_line l) (cut ∙ ap (without_last 10) is) ∙ ap (λ l. l ++ note_line (without_last 10 output.0)) drawn
          ∙ append_assoc old (messages node made traced.entries) (note_line (without_last 10 output.0)),
    )
drawn_described node slot made reply traced old mid new empty text note drawn none output cut (Err e) noted = tt
