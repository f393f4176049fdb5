-- The texts of entries, one after the other.
use Rattle.std.proofs.Common.{◌≡◌, ℕ, ◌+◌, ◌<◌, List, [], ◌∷◌, ◌++◌, length, take, get_or, sym, ap, subst, ◌∙◌, append_assoc, append-nil, add-one}
use Rattle.std.proofs.Math.Seq.{take-suc}
use Rattle.iceoryx2_world.specs.declared.listing.Entry.{Entry}
use Rattle.negotiate_serve.specs.Replies.{GrowsBy}
use Rattle.escaped_serve.specs.Entries.{AreEntryTexts, IsEntryText, none, first}

one_more : {entries : List Entry} {texts : List ℕ} (e : Entry) (text : List ℕ) → IsEntryText e text → AreEntryTexts entries texts → AreEntryTexts (entries ++ e ∷ []) (texts ++ text)
one_more e text is none = subst (AreEntryTexts (e ∷ [])) (append-nil text) (first is none)
one_more e text is (first {e = d} {entries = es} {text = t} {texts = ts} one rest) =
    subst (AreEntryTexts (d ∷ es ++ e ∷ [])) (sym (append_assoc t ts text)) (first one (one_more e text is rest))

pub nothing_yet : (old : List ℕ) → GrowsBy (AreEntryTexts []) old old
nothing_yet old = ([], none, sym (append-nil old))

-- the next one
pub next_text : (entries : List Entry) (i : ℕ) (e : Entry) (old mid new : List ℕ) → i < length entries → e ≡ get_or entries i e
    → GrowsBy (AreEntryTexts (take i entries)) old mid → GrowsBy (IsEntryText e) mid new → GrowsBy (AreEntryTexts (take (i + 1) entries)) old new
next_text entries i e old mid new within is so_far more =
    let entries_are : take (i + 1) entries ≡ take i entries ++ e ∷ [] =
    rw (add-one i) (take-suc entries i e within ∙ ap (λ (x : Entry). take i entries ++ x ∷ []) (sym is)) in (
      so_far.0 ++ more.0,
      subst (λ (es : List Entry). AreEntryTexts es (so_far.0 ++ more.0)) (sym entries_are) (one_more e more.0 more.1 so_far.1),
      more.2 ∙ ap (λ (t : List ℕ). t ++ more.0) so_far.2 ∙ append_assoc old so_far.0 more.0,
    )
