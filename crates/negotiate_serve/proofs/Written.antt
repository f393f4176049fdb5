-- What a writer has taken so far of a text.
use Rattle.std.proofs.Common.{◌≡◌, ℕ, List, [], ◌∷◌, ◌++◌, Option, Ok, Err, length, take, drop, refl, sym, ap, subst, ◌∙◌, arith, append_assoc, append-nil, take-append-drop}
use Rattle.std.specs.Io.KnownBytes.{Appends, Keeps}
use Rattle.std.proofs.KnownBytes.{Appends-nil, Appends-trans, Appends-kept}
use Rattle.negotiate_serve.specs.declared.ending.ServeError.{ServeError}
use Rattle.negotiate_serve.specs.Endings.{IsOfWriting}
use Rattle.negotiate_serve.specs.Outputs.{Writes}

-- a front was taken, and this is the rest
pub record HasTaken (text rest : List ℕ) (old new : Option (List ℕ)) : Type 0 where
  pub front : List ℕ
  pub parts : text ≡ front ++ rest
  pub written : Appends old new front

pub nothing_taken : (text : List ℕ) (old : Option (List ℕ)) → HasTaken text text old old
nothing_taken text old = record { front = []; parts = refl; written = Appends-nil old }

pub taken_more : (text rest next : List ℕ) (old mid new : Option (List ℕ)) (n : ℕ) → HasTaken text rest old mid → Appends mid new (take n rest) → next ≡ drop n rest
    → HasTaken text next old new
taken_more text rest next old mid new n so_far more is = record {
  front = so_far.front ++ take n rest;
  parts = so_far.parts ∙ ap (λ l. so_far.front ++ l) (sym (take-append-drop n rest) ∙ ap (λ l. take n rest ++ l) (sym is)) ∙ sym (append_assoc so_far.front (take n rest) next);
  written = Appends-trans old mid new so_far.front (take n rest) so_far.written more;
}

pub taken_still : (text rest : List ℕ) (old mid new : Option (List ℕ)) → HasTaken text rest old mid → Keeps mid new → HasTaken text rest old new
taken_still text rest old mid new so_far kept = record { front = so_far.front; parts = so_far.parts; written = Appends-kept old mid new so_far.front so_far.written kept }

nothing_left : (l : List ℕ) → length l ≡ 0 → l ≡ []
nothing_left [] h = refl
nothing_left (x ∷ xs) h = absurd (omega arith)

pub taken_all : (text rest : List ℕ) (old new : Option (List ℕ)) → HasTaken text rest old new → length rest ≡ 0 → Writes text (Ok tt) old new
taken_all text rest old new so_far none =
    subst (Appends old new) (sym (so_far.parts ∙ ap (λ l. so_far.front ++ l) (nothing_left rest none) ∙ append-nil so_far.front)) so_far.written

pub taken_front : (text rest : List ℕ) (old new : Option (List ℕ)) (f : ServeError) → IsOfWriting f → HasTaken text rest old new → Writes text (Err f) old new
taken_front text rest old new f is so_far = (is, so_far.front, (rest, so_far.parts), so_far.written)
