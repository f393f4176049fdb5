-- What becomes of the bytes of a file.
use Rattle.std.proofs.Common.{◌≡◌, ℕ, ◌+◌, ◌≤◌, Bool, false, List, [], ◌∷◌, ◌++◌, length, take, drop}
use Rattle.std.proofs.Common.{Option, Some, None, refl, sym, ap, subst, ◌∙◌, append_assoc, take-append-drop, arith}
use Rattle.std.specs.Prelude.{IfSome}
use Rattle.std.proofs.lemmas.List.{append-nil, length-drop, length-take-le, take_all, drop_at}
use Rattle.std.proofs.Math.Seq.{drop-append-add, take-add}
use Rattle.iceoryx2_file_log.specs.Place.{Place}
use Rattle.iceoryx2_file_log.specs.Medium.{Known, Becomes, Reads, Writes, WritesSome, written}
use Rattle.iceoryx2_file_log.specs.Bytes.{Reading, SameAt}

pub drop_on : (p n : ℕ) (bytes : List ℕ) → p ≤ length bytes → drop (p + n) bytes ≡ drop n (drop p bytes)
drop_on p n bytes le =
    let long : length (take p bytes) ≡ p = length-take-le p bytes le in
    ap (λ (k : ℕ). drop (k + n) bytes) (sym long)
    ∙ ap (λ (b : List ℕ). drop (length (take p bytes) + n) b) (sym (take-append-drop p bytes))
    ∙ drop-append-add (take p bytes) (drop p bytes) n

pub nothing : (xs : List ℕ) → length xs ≡ 0 → xs ≡ []
nothing [] e = refl
nothing (x ∷ xs) e = absurd (omega arith)

-- ---- reading on

abbrev pub with_more : Place → List ℕ → Place
with_more p bytes = record p { ahead = p.ahead ++ bytes }

reading_more : (p : Place) (k : Known) (at count : ℕ) (out : List ℕ) → p.position ≤ length k.bytes
    → at ≡ p.position + length p.ahead → Reads at count out k → Reading p k → Reading (with_more p (take count out)) k
reading_more p k at count out within is reads r =
    let tail : drop at k.bytes ≡ r.more =
    ap (λ (n : ℕ). drop n k.bytes) is ∙ drop_on p.position (length p.ahead) k.bytes within
    ∙ ap (λ (b : List ℕ). drop (length p.ahead) b) r.ahead ∙ drop_at p.ahead r.more (length p.ahead) refl in
    let same : take count out ≡ take count r.more = reads.read ∙ ap (λ (b : List ℕ). take count b) tail in
    record {
      locked = r.locked;
      long = r.long;
      more = drop count r.more;
      ahead = r.ahead ∙ ap (λ (m : List ℕ). p.ahead ++ m) (sym (take-append-drop count r.more))
          ∙ ap (λ (m : List ℕ). p.ahead ++ (m ++ drop count r.more)) (sym same)
          ∙ sym (append_assoc p.ahead (take count out) (drop count r.more));
    }

pub read_more : (p : Place) (o : Option Known) (at count : ℕ) (out : List ℕ) → IfSome o (Reading p)
    → p.position ≤ p.file_length → at ≡ p.position + length p.ahead → IfSome o (Reads at count out)
    → IfSome o (Reading (with_more p (take count out)))
read_more p None at count out f le is reads = f
read_more p (Some k) at count out f le is reads =
    reading_more p k at count out (omega (arith, le, f.long)) is reads f

-- ---- reading back

-- So many of the first bytes are the same.
abbrev pub SameUpTo : ℕ → List ℕ → Known → Type 0
SameUpTo at bytes k = take at k.bytes ≡ take at bytes

pub more_same : (at count : ℕ) (bytes : List ℕ) (o : Option Known) → IfSome o (SameUpTo at bytes)
    → IfSome o (SameAt at count bytes) → IfSome o (SameUpTo (at + count) bytes)
more_same at count bytes None front piece = tt
more_same at count bytes (Some k) front piece =
    take-add at count k.bytes ∙ ap (λ (x : List ℕ). x ++ take count (drop at k.bytes)) front
    ∙ ap (λ (x : List ℕ). take at bytes ++ x) piece ∙ sym (take-add at count bytes)

-- ---- writing

abbrev pub with_bytes : Known → Bool → List ℕ → Known
with_bytes k b bytes = record k { bytes = bytes; synchronized = b }

pub written_end : (at : ℕ) (bytes form : List ℕ) → at ≡ length bytes → written at form bytes ≡ bytes ++ form
written_end at bytes form is =
    let front : take at bytes ≡ bytes = take_all at bytes (omega (arith, is)) in
    let none : drop (at + length form) bytes ≡ [] =
    nothing (drop (at + length form) bytes) (omega (arith, is, length-drop (at + length form) bytes)) in
    ap (λ (b : List ℕ). (b ++ form) ++ drop (at + length form) bytes) front
    ∙ ap (λ (b : List ℕ). (bytes ++ form) ++ b) none ∙ append-nil (bytes ++ form)

write_all : (at : ℕ) (form : List ℕ) (o m : Option Known) → Becomes (Writes at form) o m → Becomes (WritesSome at form) o m
write_all at form None None step = tt
write_all at form None (Some k) step = absurd step
write_all at form (Some j) None step = absurd step
write_all at form (Some j) (Some k) step =
    let all : take (length form) form ≡ form = take_all (length form) form (omega arith) in
    (length form, step ∙ ap (λ (x : List ℕ). with_bytes j false (written at x j.bytes)) (sym all))

pub write_some : (at : ℕ) (form : List ℕ) (o m q : Option Known) → Becomes (Writes at form) o m → q ≡ m
    → Becomes (WritesSome at form) o q
write_some at form o m q step same =
    subst (λ (x : Option Known). Becomes (WritesSome at form) o x) (sym same) (write_all at form o m step)
