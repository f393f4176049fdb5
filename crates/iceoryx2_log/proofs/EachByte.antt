-- The form of an entry is a list of bytes.
use Rattle.std.proofs.Common.{ℕ, ◌<◌, List, length, sym, subst, arith}
use Rattle.std.specs.Prelude.{All}
use Rattle.std.proofs.lemmas.List.Elements.{All-from_recursion, recursion_from_All}
use Rattle.sha1.specs.Sha1.{sha1, digest_bytes}
use Rattle.iceoryx2_data.proofs.PartBytes.{AreBytes, none, more, both, number_bytes}
use Rattle.iceoryx2_log.specs.declared.entry.Operation.{Operation}
use Rattle.iceoryx2_log.specs.declared.entry.Operation.TheVariants.{MakeTag, RemoveTag, Lock, MakeSegment, RemoveSegment, RemoveDescription, Publish, OpenSegment, Release, Spend, Moved}
use Rattle.iceoryx2_log.specs.declared.entry.Entry.{Entry}
use Rattle.iceoryx2_log.specs.Form.{IsOperation, details, body, header, sum_of, sealed, IsForm}
use Rattle.iceoryx2_log.proofs.Operations.{kind_below}

bytes_of : (bytes : List ℕ) → All (λ b. b < 256) bytes → AreBytes bytes
bytes_of bytes each = record { each = recursion_from_All (λ b. b < 256) bytes each }

details_bytes : (d : Operation) → IsOperation d → AreBytes (details d)
details_bytes MakeTag fits = none
details_bytes RemoveTag fits = none
details_bytes (Lock n) fits = number_bytes n
details_bytes (MakeSegment n nodes) fits = both (number_bytes n) (number_bytes nodes)
details_bytes RemoveSegment fits = none
details_bytes RemoveDescription fits = none
details_bytes (Publish n bytes) fits = both (number_bytes n) (bytes_of bytes fits.1)
details_bytes (OpenSegment n ticket) fits = both (number_bytes n) (number_bytes ticket)
details_bytes (Release ticket n) fits = both (number_bytes ticket) (number_bytes n)
details_bytes (Spend n) fits = number_bytes n
details_bytes Moved fits = none

header_bytes : (n : ℕ) → AreBytes (header n)
header_bytes n = more (omega arith) (more (omega arith) (more (omega arith) (more (omega arith) (more (omega arith) (more (omega arith) (more (omega arith) (more (omega arith) none)))))))

sum_bytes : (bytes : List ℕ) → AreBytes (sum_of bytes)
unfolding sha1 digest_bytes
sum_bytes bytes = more (omega arith) (more (omega arith) (more (omega arith) (more (omega arith) (more (omega arith) (more (omega arith) (more (omega arith) (more (omega arith) none)))))))

pub form_bytes : (e : Entry) (bytes : List ℕ) → IsForm e bytes → All (λ b. b < 256) bytes
form_bytes e bytes form =
    let hash : AreBytes e.hash.0 = bytes_of e.hash.0 form.limits.hash.bytes in
    let inside : AreBytes (body e) = more (kind_below e.operation) (both (both (number_bytes e.node) hash) (details_bytes e.operation form.limits.operation)) in
    let whole : AreBytes (sealed (body e)) = both (both (header_bytes (length (body e))) (sum_bytes (body e))) inside in
    let all : All (λ b. b < 256) (sealed (body e)) = All-from_recursion (λ b. b < 256) (sealed (body e)) whole.each in
    subst (λ (bs : List ℕ). All (λ b. b < 256) bs) (sym form.is) all
