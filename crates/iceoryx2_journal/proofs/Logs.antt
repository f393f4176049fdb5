-- What a handle of a log knows, where it takes entries over.
use Rattle.std.proofs.Common.{◌≡◌, ℕ, List, [], ◌∷◌, ◌++◌, Option, Some, None, append_assoc, refl, sym, ap, subst, ◌∙◌}
use Rattle.std.proofs.lemmas.List.{append-nil}
use Rattle.iceoryx2_log.specs.declared.entry.Entry.{Entry}
use Rattle.iceoryx2_log.specs.Log.{Contents, WhereKnown, Grows, Shows, Accepts, first, accepted}
use Rattle.iceoryx2_journal.specs.Taking.{Takes, IsNext, IsAllTaken}

-- ---- what holds of contents holds where they are known

pub known_map : (R S : Contents → Contents → Type 0) → ((c d : Contents) → R c d → S c d) → (c d : Option Contents) → WhereKnown R c d → WhereKnown S c d
known_map R S f (Some c) (Some d) r = f c d r
known_map R S f None None r = tt
known_map R S f (Some c) None r = absurd r
known_map R S f None (Some d) r = absurd r

pub known_both : (R S T : Contents → Contents → Type 0) → ((b c d : Contents) → R b c → S c d → T b d) → (b c d : Option Contents) → WhereKnown R b c → WhereKnown S c d → WhereKnown T b d
known_both R S T f (Some b) (Some c) (Some d) r s = f b c d r s
known_both R S T f None None None r s = tt
known_both R S T f (Some b) None d r s = absurd r
known_both R S T f None (Some c) d r s = absurd r
known_both R S T f (Some b) (Some c) None r s = absurd s
known_both R S T f None None (Some d) r s = absurd s

known_still : (R : Contents → Contents → Type 0) → ((c : Contents) → R c c) → (c : Option Contents) → WhereKnown R c c
known_still R f (Some c) = f c
known_still R f None = tt

pub known_same : (R : Contents → Contents → Type 0) → ((c : Contents) → R c c) → (c d : Option Contents) → d ≡ c → WhereKnown R c d
known_same R f c d same = subst (λ x. WhereKnown R c x) (sym same) (known_still R f c)

-- What is known of a log goes over to one that has the same.
pub known_known : (R : Contents → Contents → Type 0) (b c d : Option Contents) → d ≡ c → WhereKnown R b c → WhereKnown R b d
known_known R b c d same r = subst (λ x. WhereKnown R b x) (sym same) r

-- ---- what is taken over

pub taken_not : (c d : Option Contents) → d ≡ c → WhereKnown (Takes []) c d
taken_not = known_same (Takes []) (λ c. record { come = []; begins = refl; taken = sym (append-nil c.taken); unread = append-nil c.unread })

pub grown : (c d : Option Contents) → WhereKnown Grows c d → WhereKnown (Takes []) c d
grown = known_map Grows (Takes []) (λ c d g. record { come = g.come; begins = g.begins; taken = g.taken ∙ sym (append-nil c.taken); unread = sym g.unread })

pub then_takes : (xs ys : List Entry) (a b c : Contents) → Takes xs a b → Takes ys b c → Takes (xs ++ ys) a c
then_takes xs ys a b c x y = record {
  come = x.come ++ y.come;
  begins = y.begins ∙ x.begins;
  taken = y.taken ∙ ap (λ t. t ++ ys) x.taken ∙ append_assoc a.taken xs ys;
  unread = sym (append_assoc a.unread x.come y.come) ∙ ap (λ u. u ++ y.come) x.unread ∙ append_assoc xs b.unread y.come ∙ ap (λ u. xs ++ u) y.unread ∙ sym (append_assoc xs ys c.unread);
}

pub then_taken : (xs ys : List Entry) (a b c : Option Contents) → WhereKnown (Takes xs) a b → WhereKnown (Takes ys) b c → WhereKnown (Takes (xs ++ ys)) a c
then_taken xs ys = known_both (Takes xs) (Takes ys) (Takes (xs ++ ys)) (then_takes xs ys)

-- ---- what is unread

is_next : (e : Entry) (c d : Option Contents) → WhereKnown (Shows (Some e)) c d → IsNext e c
is_next e (Some c) (Some d) s = sym s.0
is_next e None d s = tt
is_next e (Some c) None s = absurd s

no_first : (es : List Entry) → first es ≡ None → es ≡ []
no_first [] e = refl
no_first (x ∷ es) e = absurd (cc)

is_all : (c d : Option Contents) → WhereKnown (Shows None) c d → IsAllTaken c
is_all (Some c) (Some d) s = no_first c.unread (sym s.0)
is_all None d s = tt
is_all (Some c) None s = absurd s

-- What was shown, where the log has what it had.
pub none_shown : (c d : Option Contents) (f : Option Entry) → f ≡ None → d ≡ c → WhereKnown (Shows f) c d → IsAllTaken d
none_shown c d f n same s = subst IsAllTaken (sym same) (is_all c d (subst (λ x. WhereKnown (Shows x) c d) n s))

pub next_shown : (e : Entry) (c d : Option Contents) (f : Option Entry) → f ≡ Some e → d ≡ c → WhereKnown (Shows f) c d → IsNext e d
next_shown e c d f n same s = subst (IsNext e) (sym same) (is_next e c d (subst (λ x. WhereKnown (Shows x) c d) n s))

first_taken : (e : Entry) (n : ℕ) (t u : List Entry) (d : Contents) → first u ≡ Some e → d ≡ accepted n t u → Takes (e ∷ []) (record { begins = n; taken = t; unread = u }) d
first_taken e k t [] d n a = absurd (cc)
first_taken e k t (x ∷ u) d n a =
    let same : x ≡ e = cc in
    record {
      come = [];
      begins = ap (λ (c : Contents). c.begins) a;
      taken = ap (λ (c : Contents). c.taken) a ∙ ap (λ y. t ++ y ∷ []) same;
      unread = append-nil (x ∷ u) ∙ ap (λ y. y ∷ u) same ∙ ap (λ v. e ∷ v) (sym (ap (λ (c : Contents). c.unread) a));
    }

one_taken : (e : Entry) (c d : Option Contents) → IsNext e c → WhereKnown Accepts c d → WhereKnown (Takes (e ∷ [])) c d
one_taken e (Some c) (Some d) n a = first_taken e c.begins c.taken c.unread d n a
one_taken e None None n a = tt
one_taken e (Some c) None n a = absurd a
one_taken e None (Some d) n a = absurd a

-- An entry that was shown is taken over, where the log has what it had.
pub next_taken : (e : Entry) (b c d : Option Contents) → IsNext e c → c ≡ b → WhereKnown Accepts c d → WhereKnown (Takes (e ∷ [])) b d
next_taken e b c d n same a = subst (λ x. WhereKnown (Takes (e ∷ [])) x d) same (one_taken e c d n a)
