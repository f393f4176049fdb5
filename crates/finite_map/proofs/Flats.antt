-- What edits of a chunk are, as edits of all entries in a row.
use Rattle.std.proofs.Common.{◌≡◌, ℕ, zero, suc, ◌+◌, ◌-◌, ◌<◌, ◌≤◌, List, [], ◌∷◌, ◌++◌, length, get_or, set, take, drop, refl, sym, ap, ◌∙◌, arith}
use Rattle.std.proofs.Common.{length-append, append_assoc}
use Rattle.std.specs.List.{insert, remove}
use Rattle.std.proofs.lemmas.List.{set_split, get_or-append-add, get_or_append_left, set-append_right, set-append_left, take_all, get_or_default}
use Rattle.std.proofs.lemmas.List.Edits.{insert-append_left, insert-append_right, remove-append_left, remove-append_right}
use Rattle.finite_map.specs.Sorted.{Sorted}
use Rattle.finite_map.specs.Chunks.{flat, chunk_at, before, with_value_at}

module _ {X : Type 0} (xs ys zs : List X) (j : ℕ) where
  insert_between : (x : X) → j ≤ length ys → insert (xs ++ (ys ++ zs)) (length xs + j) x ≡ xs ++ (insert ys j x ++ zs)
  insert_between x l =
      let same : length xs + j - length xs ≡ j = omega arith in
      insert-append_right xs (ys ++ zs) (length xs) (length xs + j) x refl (omega arith)
      ∙ ap (λ n. xs ++ insert (ys ++ zs) n x) same
      ∙ ap (λ l. xs ++ l) (insert-append_left ys zs j x l)

  set_between : (x : X) → j < length ys → set (xs ++ (ys ++ zs)) (length xs + j) x ≡ xs ++ (set ys j x ++ zs)
  set_between x l =
      let same : length xs + j - length xs ≡ j = omega arith in
      set-append_right xs (ys ++ zs) (length xs) (length xs + j) x refl (omega arith)
      ∙ ap (λ n. xs ++ set (ys ++ zs) n x) same
      ∙ ap (λ l. xs ++ l) (set-append_left ys zs j x l)

  remove_between : j < length ys → remove (xs ++ (ys ++ zs)) (length xs + j) ≡ xs ++ (remove ys j ++ zs)
  remove_between l =
      let same : length xs + j - length xs ≡ j = omega arith in
      remove-append_right xs (ys ++ zs) (length xs) (length xs + j) refl (omega arith)
      ∙ ap (λ n. xs ++ remove (ys ++ zs) n) same
      ∙ ap (λ l. xs ++ l) (remove-append_left ys zs j l)

-- the chunk that was read
pub chunk_is : {K V : Type 0} (cs : List (Sorted K V)) (i : ℕ) (b : Sorted K V) → i < length cs → get_or cs i b ≡ b → chunk_at cs i ≡ b
chunk_is cs i b l read = get_or_default cs i _ b l ∙ read

module _ {K V : Type 0} where
  -- the rows of two lists of chunks, one after the other
  pub flat-append : (cs ds : List (Sorted K V)) → flat (cs ++ ds) ≡ flat cs ++ flat ds
  flat-append [] ds = refl
  flat-append (c ∷ cs) ds = ap (λ l. c.entries ++ l) (flat-append cs ds) ∙ sym (append_assoc c.entries (flat cs) (flat ds))

  -- the list around chunk i
  parts : (cs : List (Sorted K V)) (i : ℕ) → i < length cs → take i cs ++ chunk_at cs i ∷ drop (suc i) cs ≡ cs
  parts [] i l = absurd (omega arith)
  parts (c ∷ cs) zero l = refl
  parts (c ∷ cs) (suc i) l = ap (λ t. c ∷ t) (parts cs i (omega arith))

  pub flat_around : (cs : List (Sorted K V)) (i : ℕ) → i < length cs → flat cs ≡ flat (take i cs) ++ ((chunk_at cs i).entries ++ flat (drop (suc i) cs))
  flat_around cs i l = ap flat (sym (parts cs i l)) ∙ flat-append (take i cs) (chunk_at cs i ∷ drop (suc i) cs)

  flat_set : (cs : List (Sorted K V)) (i : ℕ) (c : Sorted K V) → i < length cs → flat (set cs i c) ≡ flat (take i cs) ++ (c.entries ++ flat (drop (suc i) cs))
  flat_set cs i c l = ap flat (set_split cs i c l) ∙ flat-append (take i cs) (c ∷ drop (suc i) cs)

  -- a place in a chunk is in a chunk that is there
  pub there : (cs : List (Sorted K V)) (i j : ℕ) → j < length (chunk_at cs i).entries → i < length cs
  there [] i j l = absurd (omega arith)
  there (c ∷ cs) zero j l = omega arith
  there (c ∷ cs) (suc i) j l = let n = there cs i j l in omega (arith, n)

  pub there_with_room : (cs : List (Sorted K V)) (i : ℕ) → length (chunk_at cs i).entries < (chunk_at cs i).capacity → i < length cs
  there_with_room [] i l = absurd (omega arith)
  there_with_room (c ∷ cs) zero l = omega arith
  there_with_room (c ∷ cs) (suc i) l = let n = there_with_room cs i l in omega (arith, n)

  -- place j of chunk i, among all entries
  pub read_at : (cs : List (Sorted K V)) (i j : ℕ) (d : K × V) → j < length (chunk_at cs i).entries → get_or (flat cs) (before cs i + j) d ≡ get_or (chunk_at cs i).entries j d
  read_at cs i j d m =
      ap (λ es. get_or es (before cs i + j) d) (flat_around cs i (there cs i j m))
      ∙ get_or-append-add (flat (take i cs)) _ j d
      ∙ get_or_append_left (chunk_at cs i).entries (flat (drop (suc i) cs)) d j m

  -- what stands before the next chunk, and before all that are there
  pub before-suc : (cs : List (Sorted K V)) (i : ℕ) → before cs (suc i) ≡ before cs i + length (chunk_at cs i).entries
  before-suc [] zero = refl
  before-suc [] (suc i) = refl
  before-suc (c ∷ cs) zero = length-append c.entries [] ∙ omega arith
  before-suc (c ∷ cs) (suc i) =
      let a = length-append c.entries (flat (take (suc i) cs)) in
      let b = length-append c.entries (flat (take i cs)) in
      let e = before-suc cs i in
      omega (arith, a, b, e)

  pub before_all : (cs : List (Sorted K V)) (i : ℕ) → length cs ≤ i → before cs i ≡ length (flat cs)
  before_all cs i l = ap (λ ds. length (flat ds)) (take_all i cs l)

  pub before-le : (cs : List (Sorted K V)) (i j : ℕ) → i ≤ j → before cs i ≤ before cs j
  before-le [] zero j l = omega arith
  before-le [] (suc i) zero l = absurd (omega arith)
  before-le [] (suc i) (suc j) l = omega arith
  before-le (c ∷ cs) zero j l = omega arith
  before-le (c ∷ cs) (suc i) zero l = absurd (omega arith)
  before-le (c ∷ cs) (suc i) (suc j) l =
      let a = length-append c.entries (flat (take j cs)) in
      let b = length-append c.entries (flat (take i cs)) in
      let e = before-le cs i j (omega arith) in
      omega (arith, a, b, e)

  pub fits : (cs : List (Sorted K V)) (i : ℕ) → i < length cs → before cs i + length (chunk_at cs i).entries ≤ length (flat cs)
  fits cs i l =
      let a = before-le cs (suc i) (length cs) (omega arith) in
      let b = before_all cs (length cs) (omega arith) in
      let e = before-suc cs i in
      omega (arith, a, b, e)

  pub insert_in : (cs : List (Sorted K V)) (i j : ℕ) (x : K × V) (c : Sorted K V) → i < length cs → j ≤ length (chunk_at cs i).entries → c.entries ≡ insert (chunk_at cs i).entries j x → flat (set cs i c) ≡ insert (flat cs) (before cs i + j) x
  insert_in cs i j x c l m e =
      flat_set cs i c l
      ∙ ap (λ es. flat (take i cs) ++ (es ++ flat (drop (suc i) cs))) e
      ∙ sym (insert_between (flat (take i cs)) (chunk_at cs i).entries (flat (drop (suc i) cs)) j x m)
      ∙ ap (λ es. insert es (before cs i + j) x) (sym (flat_around cs i l))

  pub set_in : (cs : List (Sorted K V)) (i j : ℕ) (x : K × V) (c : Sorted K V) → j < length (chunk_at cs i).entries → c.entries ≡ set (chunk_at cs i).entries j x → flat (set cs i c) ≡ set (flat cs) (before cs i + j) x
  set_in cs i j x c m e =
      let l = there cs i j m in
      flat_set cs i c l
      ∙ ap (λ es. flat (take i cs) ++ (es ++ flat (drop (suc i) cs))) e
      ∙ sym (set_between (flat (take i cs)) (chunk_at cs i).entries (flat (drop (suc i) cs)) j x m)
      ∙ ap (λ es. set es (before cs i + j) x) (sym (flat_around cs i l))

  pub remove_in : (cs : List (Sorted K V)) (i j : ℕ) (c : Sorted K V) → j < length (chunk_at cs i).entries → c.entries ≡ remove (chunk_at cs i).entries j → flat (set cs i c) ≡ remove (flat cs) (before cs i + j)
  remove_in cs i j c m e =
      let l = there cs i j m in
      flat_set cs i c l
      ∙ ap (λ es. flat (take i cs) ++ (es ++ flat (drop (suc i) cs))) e
      ∙ sym (remove_between (flat (take i cs)) (chunk_at cs i).entries (flat (drop (suc i) cs)) j m)
      ∙ ap (λ es. remove es (before cs i + j)) (sym (flat_around cs i l))

  -- what was taken out of a chunk that was read
  module _ (cs : List (Sorted K V)) (i j : ℕ) (b : Sorted K V) where
    pub taken_out : (c : Sorted K V) → j < length (chunk_at cs i).entries → get_or cs i b ≡ b → c.entries ≡ remove b.entries j → flat (set cs i c) ≡ remove (flat cs) (before cs i + j)
    taken_out c m read e = remove_in cs i j c m (e ∙ ap (λ (c : Sorted K V). remove c.entries j) (sym (chunk_is cs i b (there cs i j m) read)))

    pub taken_value : (x : K × V) → j < length (chunk_at cs i).entries → get_or cs i b ≡ b → get_or b.entries j x ≡ x → (e : K × V) → x.1 ≡ (get_or (flat cs) (before cs i + j) e).1
    taken_value x m read got e =
        let is = chunk_is cs i b (there cs i j m) read in
        ap (λ (y : K × V). y.1) (
        sym got
        ∙ ap (λ (c : Sorted K V). get_or c.entries j x) (sym is)
        ∙ get_or_default (chunk_at cs i).entries j x e m
        ∙ sym (read_at cs i j e m)
        )

  -- a chunk with the same entries changes none
  pub same_in : (cs : List (Sorted K V)) (i : ℕ) (c : Sorted K V) → i < length cs → c.entries ≡ (chunk_at cs i).entries → flat (set cs i c) ≡ flat cs
  same_in cs i c l e =
      flat_set cs i c l
      ∙ ap (λ es. flat (take i cs) ++ (es ++ flat (drop (suc i) cs))) e
      ∙ sym (flat_around cs i l)

  -- a chunk that was emptied goes, and no entry with it
  pub without_empty : (cs : List (Sorted K V)) (i : ℕ) (c : Sorted K V) → i < length cs → c.entries ≡ [] → flat (remove (set cs i c) i) ≡ flat (set cs i c)
  without_empty [] i c l e = absurd (omega arith)
  without_empty (d ∷ cs) zero c l e = ap (λ es. es ++ flat cs) (sym e)
  without_empty (d ∷ cs) (suc i) c l e = ap (λ es. d.entries ++ es) (without_empty cs i c (omega arith) e)

  -- the value at a place is written there
  pub with_value_is : (es : List (K × V)) (j : ℕ) (v : V) (d : K × V) → j < length es → with_value_at es j v ≡ set es j ((get_or es j d).0, v)
  with_value_is [] j v d l = absurd (omega arith)
  with_value_is (e ∷ es) zero v d l = refl
  with_value_is (e ∷ es) (suc j) v d l = ap (λ t. e ∷ t) (with_value_is es j v d (omega arith))
