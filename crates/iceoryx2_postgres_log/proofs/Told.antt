-- The bytes of lines, line after line.
use Rattle.std.proofs.Common.{◌≡◌, ℕ, List, [], ◌∷◌, ◌++◌, Option, All, false, nat_eq, refl, ap, sym, ◌∙◌, append_assoc, subst}
use Rattle.std.specs.List.{starts_with}
use Rattle.std.specs.Io.KnownBytes.{Appends, Consumes}
use Rattle.std.proofs.KnownBytes.{Consumes-trans}
use Rattle.std.proofs.lemmas.List.Elements.{All-push}
use Rattle.iceoryx2_postgres_log.specs.Replies.{told, IsPart, IsRowBefore, Hears, Asks}

pub told-push : (rows : List (List ℕ)) (line : List ℕ) → told (rows ++ line ∷ []) ≡ told rows ++ (line ++ 10 ∷ [])
told-push [] line = refl
told-push (row ∷ rows) line =
    ap (λ rest. row ++ 10 ∷ rest) (told-push rows line) ∙ sym (append_assoc row (10 ∷ told rows) (line ++ 10 ∷ []))

-- one more line was read
pub told_more : (a b c : Option (List ℕ)) (old new : List (List ℕ)) (line : List ℕ) → Consumes a b (told old)
    → Consumes b c (line ++ 10 ∷ []) → new ≡ old ++ line ∷ [] → Consumes a c (told new)
told_more a b c old new line h k is =
    subst (Consumes a c) (sym (ap told is ∙ told-push old line)) (Consumes-trans a b c (told old) (line ++ 10 ∷ []) h k)

-- and it is a row
pub rows_more : (mark : List ℕ) (old new : List (List ℕ)) (line : List ℕ) → All (IsRowBefore mark) old → IsPart line
    → starts_with nat_eq line mark ≡ false → new ≡ old ++ line ∷ [] → All (IsRowBefore mark) new
rows_more mark old new line h part other is =
    subst (All (IsRowBefore mark)) (sym is) (All-push (IsRowBefore mark) old line h (part, other))

-- what was heard, by what its parts are
pub heard_as : (mark : List ℕ) (rows rows' : List (List ℕ)) (end end' : List ℕ) (old new : Option (List ℕ))
    → Hears mark rows end old new → rows ≡ rows' → end ≡ end' → Hears mark rows' end' old new
heard_as mark rows rows' end end' old new h e f =
    subst (λ l. Hears mark rows' l old new) f (subst (λ l. Hears mark l end old new) e h)

pub asks_as : (question question' mark : List ℕ) (rows rows' : List (List ℕ)) (end end' : List ℕ)
    (written wrote unread left : Option (List ℕ)) → Appends written wrote question → Hears mark rows end unread left
    → question ≡ question' → rows ≡ rows' → end ≡ end' → Asks question' mark rows' end' written wrote unread left
asks_as question question' mark rows rows' end end' written wrote unread left w h q e f = record {
  asked = subst (Appends written wrote) q w;
  heard = heard_as mark rows rows' end end' unread left h e f;
}
