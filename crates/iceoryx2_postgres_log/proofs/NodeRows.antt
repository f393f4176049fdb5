-- Nodes by rising number.
use Rattle.std.proofs.Common.{◌≡◌, ℕ, ◌+◌, ◌<◌, List, [], ◌∷◌, ◌++◌, All, map, take, get_or, length, ap, sym, ◌∙◌, subst, arith}
use Rattle.std.proofs.lemmas.List.{take_more, map_push}
use Rattle.std.proofs.lemmas.List.Elements.{All-nil, All-cons, All-head, All-tail, All-push}
use Rattle.iceoryx2_postgres_log.specs.declared.nodes.NodeRow.{NodeRow}
use Rattle.iceoryx2_postgres_log.specs.Nodes.{node_row, IsRising}

-- one more, above all others
pub rising_push : (rows : List NodeRow) (row : NodeRow) → IsRising rows → All (λ other. other.node < row.node) rows
    → IsRising (rows ++ row ∷ [])
rising_push [] row h below = (All-nil (λ (other : NodeRow). row.node < other.node), tt)
rising_push (first ∷ rows) row h below = (
  All-push (λ (other : NodeRow). first.node < other.node) rows row h.0 (All-head (λ (other : NodeRow). other.node < row.node) first rows below),
  rising_push rows row h.1 (All-tail (λ (other : NodeRow). other.node < row.node) first rows below),
)

last_of : (P : NodeRow → Type 0) (rows : List NodeRow) (last : NodeRow) → All P (rows ++ last ∷ []) → P last
last_of P [] last h = All-head P last [] h
last_of P (first ∷ rows) last h = last_of P rows last (All-tail P first (rows ++ last ∷ []) h)

-- above the last is above all
pub above_last : (front : List NodeRow) (last : NodeRow) (node : ℕ) → IsRising (front ++ last ∷ []) → last.node < node
    → All (λ other. other.node < node) (front ++ last ∷ [])
above_last [] last node h above =
    All-cons (λ (other : NodeRow). other.node < node) last [] above (All-nil (λ (other : NodeRow). other.node < node))
above_last (first ∷ front) last node h above =
    let below : first.node < last.node = last_of (λ (other : NodeRow). first.node < other.node) front last h.0 in
    All-cons (λ (other : NodeRow). other.node < node) first (front ++ last ∷ []) (omega (arith, below, above)) (above_last front last node h.1 above)

pub above_all : (rows front : List NodeRow) (last : NodeRow) (node : ℕ) → IsRising rows → rows ≡ front ++ last ∷ []
    → last.node < node → All (λ other. other.node < node) rows
above_all rows front last node h is above =
    subst (All (λ (other : NodeRow). other.node < node)) (sym is) (above_last front last node (subst IsRising is h) above)

-- one more line, which tells one more node
pub rows_more : (lines : List (List ℕ)) (i : ℕ) (line : List ℕ) (old new : List NodeRow) (row : NodeRow)
    → take i lines ≡ map node_row old → i < length lines → line ≡ get_or lines i line → line ≡ node_row row
    → new ≡ old ++ row ∷ [] → take (i + 1) lines ≡ map node_row new
rows_more lines i line old new row told below item is grown =
    take_more lines i line below
    ∙ ap (λ l. l ++ get_or lines i line ∷ []) told
    ∙ ap (λ l. map node_row old ++ l ∷ []) (sym item ∙ is)
    ∙ sym (map_push node_row old row)
    ∙ ap (map node_row) (sym grown)
