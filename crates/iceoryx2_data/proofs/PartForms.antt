-- A part that is read is the part that was written, and what was written is read again.
use Rattle.std.proofs.Common.{◌≡◌, ℕ, zero, suc, ◌+◌, ◌^◌, ◌<◌, ◌≤◌, Bool, true, false, cond, ltb, List, [], ◌∷◌, ◌++◌, length, get_or, take, drop, Option, Some, None, refl, sym, ap, subst, ◌∙◌, append_assoc, arith, inl, inr}
use Rattle.std.specs.Prelude.{All, IfSome, IsTrue}
use Rattle.std.specs.List.{flat_map}
use Rattle.std.specs.Int.{Width, w16, w32, w64, byte_len, from_be_bytes, to_be_bytes}
use Rattle.std.specs.Str.{is_utf8}
use Rattle.std.proofs.lemmas.Bool.{cases_lt, ltb-false, le-ltb}
use Rattle.std.proofs.lemmas.List.{take_at, drop_at, take-append-drop, length-append, length-take, get_or-drop, get_or-take, get_or_past, get_or_default, get_or_append_left}
use Rattle.std.proofs.lemmas.Nat.{be_bytes_2, be_bytes_4, be_bytes_8, from_be_bytes-to_be_bytes_2, from_be_bytes-to_be_bytes_4, from_be_bytes-to_be_bytes_8}
use Rattle.std.specs.Str.{bytes_eq}
use Rattle.std.proofs.lemmas.List.Concat.{flat_map-cons}
use Rattle.std.proofs.lemmas.List.Elements.{All-nil, All-cons, All-head, All-tail}
use Rattle.std.proofs.lemmas.Slice.Eq.{bytes_eq-Decides}
use Rattle.iceoryx2_types.specs.Texts.{IsText}
use Rattle.iceoryx2_data.specs.PartForm.{text, truth, option}
use Rattle.iceoryx2_data.specs.PartReading.{◌>>=◌, Part, then_at, as_at, where_at, number_at, bytes_at, literal_at, text_at, truth_at, option_at, list_at, counted_at}

abbrev pub IsBytes : List ℕ → Type 0
IsBytes bytes = (i : ℕ) → get_or bytes i 0 < 256

IsBytes-drop : (n : ℕ) (bytes : List ℕ) → IsBytes bytes → IsBytes (drop n bytes)
IsBytes-drop n bytes h i = rw get_or-drop (h (n + i))

IsBytes-take : (n : ℕ) (bytes : List ℕ) → IsBytes bytes → IsBytes (take n bytes)
IsBytes-take n bytes h i =
    elim (cases_lt i n) [
      | inl lt ↦ rw (get_or-take n bytes i 0 lt) (h i)
      | inr le ↦ rw (get_or_past (take n bytes) i 0 (omega (arith, length-take n bytes))) (omega arith)
    ]

pub IsBytes-rest : (b : ℕ) (bytes : List ℕ) → IsBytes (b ∷ bytes) → IsBytes bytes
IsBytes-rest b bytes h i = h (suc i)

pub bind_some : {A B : Type 0} (r : Option A) (f : A → Option B) (y : B) → (r >>= f) ≡ Some y → (x : A) × (r ≡ Some x) × (f x ≡ Some y)
bind_some (Some x) f y e = (x, refl, e)
bind_some None f y e = absurd cc

-- a test that had to fail, and one that had to hold
pub guard_not : {A : Type 0} (b : Bool) (r : Option A) (y : A) → cond b None r ≡ Some y → (b ≡ false) × (r ≡ Some y)
guard_not true r y e = absurd cc
guard_not false r y e = (refl, e)

pub guard_is : {A : Type 0} (b : Bool) (r : Option A) (y : A) → cond b r None ≡ Some y → (b ≡ true) × (r ≡ Some y)
guard_is true r y e = (refl, e)
guard_is false r y e = absurd cc

abbrev some : {A : Type 0} → A → Option A
some x = Some x

pub some_is : {A : Type 0} (x y : A) → some x ≡ some y → x ≡ y
some_is x y e = cc

-- what was taken from the front
pub record Takes (bytes form rest : List ℕ) : Type 0 where
  pub parts : bytes ≡ form ++ rest
  pub rest_fits : IsBytes rest

pub Takes-then : (a x b y c : List ℕ) → Takes a x b → Takes b y c → Takes a (x ++ y) c
Takes-then a x b y c p q = record { parts = p.parts ∙ ap (λ (t : List ℕ). x ++ t) q.parts ∙ sym (append_assoc x y c); rest_fits = q.rest_fits }

-- The part reads exactly what the form spells.
pub record Reads {A : Type 0} (part : Part A) (form : A → List ℕ) (Fits : A → Type 0) : Type 0 where
  pub takes : (bytes : List ℕ) (x : A × List ℕ) → IsBytes bytes → part bytes ≡ Some x → Takes bytes (form x.0) x.1 × Fits x.0
  pub again : (x : A) (rest : List ℕ) → Fits x → part (form x ++ rest) ≡ Some (x, rest)

-- ---- one after the other

pub Reads-then : {A B : Type 0} (r : Part A) (f : A → List ℕ) (P : A → Type 0) (s : Part B) (g : B → List ℕ) (Q : B → Type 0) → Reads r f P → Reads s g Q
    → Reads (then_at r s) (λ x. f x.0 ++ g x.1) (λ x. P x.0 × Q x.1)
Reads-then {A} {B} r f P s g Q hr hs = record {
  takes = λ bytes x fits e.
      let a = bind_some (r bytes) (λ a. s a.1 >>= λ b. Some ((a.0, b.0), b.1)) x e in
      let b = bind_some (s a.0.1) (λ b. Some ((a.0.0, b.0), b.1)) x a.2 in
      let t0 = hr.takes bytes a.0 fits a.1 in
      let t1 = hs.takes a.0.1 b.0 t0.0.rest_fits b.1 in
      subst (λ (y : (A × B) × List ℕ). Takes bytes (f y.0.0 ++ g y.0.1) y.1 × (P y.0.0 × Q y.0.1)) (some_is ((a.0.0, b.0.0), b.0.1) x b.2)
      (Takes-then bytes (f a.0.0) a.0.1 (g b.0.0) b.0.1 t0.0 t1.0, (t0.1, t1.1));
  again = λ x rest fits.
      ap (then_at r s) (append_assoc (f x.0) (g x.1) rest) ∙ rw (hr.again x.0 (g x.1 ++ rest) fits.0, hs.again x.1 rest fits.1) refl;
}

-- ---- seen as another type

pub Reads-as : {A B : Type 0} (to : A → B) (from : B → A) (r : Part A) (f : A → List ℕ) (P : A → Type 0) (Q : B → Type 0) → ((b : B) → to (from b) ≡ b) → ((a : A) → from (to a) ≡ a)
    → ((a : A) → P a → Q (to a)) → ((b : B) → Q b → P (from b)) → Reads r f P → Reads (as_at to r) (λ b. f (from b)) Q
Reads-as {A} {B} to from r f P Q there back fits_to fits_from h = record {
  takes = λ bytes x fits e.
      let a = bind_some (r bytes) (λ a. Some (to a.0, a.1)) x e in
      let t = h.takes bytes a.0 fits a.1 in
      subst (λ (y : B × List ℕ). Takes bytes (f (from y.0)) y.1 × Q y.0) (some_is (to a.0.0, a.0.1) x a.2)
      (subst (λ (z : A). Takes bytes (f z) a.0.1) (sym (back a.0.0)) t.0, fits_to a.0.0 t.1);
  again = λ b rest fits. rw (h.again (from b) rest (fits_from b fits)) (ap (λ (z : B). some (z, rest)) (there b));
}

-- ---- with a test

pub Reads-where : {A : Type 0} (test : A → Bool) (r : Part A) (f : A → List ℕ) (P : A → Type 0) → Reads r f P → Reads (where_at test r) f (λ a. P a × IsTrue (test a))
Reads-where {A} test r f P h = record {
  takes = λ bytes x fits e.
      let a = bind_some (r bytes) (λ a. cond (test a.0) (Some a) None) x e in
      let t = h.takes bytes a.0 fits a.1 in
      let g = guard_is (test a.0.0) (Some a.0) x a.2 in
      subst (λ (y : A × List ℕ). Takes bytes (f y.0) y.1 × (P y.0 × IsTrue (test y.0))) (some_is a.0 x g.1) (t.0, (t.1, g.0));
  again = λ x rest fits. rw (h.again x rest fits.0, fits.1) refl;
}

-- the same with another name for the form
pub Reads-form : {A : Type 0} (r : Part A) (f g : A → List ℕ) (P : A → Type 0) → Reads r f P → ((a : A) → f a ≡ g a) → Reads r g P
Reads-form r f g P h same = record {
  takes = λ bytes x fits e. let t = h.takes bytes x fits e in (subst (λ (y : List ℕ). Takes bytes y x.1) (same x.0) t.0, t.1);
  again = λ x rest fits. ap (λ (y : List ℕ). r (y ++ rest)) (sym (same x)) ∙ h.again x rest fits;
}

-- the same with other names for what fits
pub Reads-fits : {A : Type 0} (r : Part A) (f : A → List ℕ) (P Q : A → Type 0) → ((a : A) → P a → Q a) → ((a : A) → Q a → P a) → Reads r f P → Reads r f Q
Reads-fits r f P Q to from h = record {
  takes = λ bytes x fits e. let t = h.takes bytes x fits e in (t.0, to x.0 t.1);
  again = λ x rest fits. h.again x rest (from x fits);
}

-- ---- numbers

pub record IsWide (w : Width) (limit : ℕ) : Type 0 where
  pub len : (n : ℕ) → length (to_be_bytes w n) ≡ byte_len w
  pub back : (bytes : List ℕ) → length bytes ≡ byte_len w → IsBytes bytes → to_be_bytes w (from_be_bytes w bytes) ≡ bytes
  pub again : (n : ℕ) → n < limit → from_be_bytes w (to_be_bytes w n) ≡ n
  pub below : (bytes : List ℕ) → IsBytes bytes → from_be_bytes w bytes < limit

pub wide16 : IsWide w16 (2 ^ 16)
wide16 = record {
  len = λ n. refl;
  back = λ bytes len fits. be_bytes_2 bytes _ len fits refl;
  again = λ n lt. from_be_bytes-to_be_bytes_2 n lt;
  below = λ bytes fits. omega (arith, fits 0, fits 1);
}

pub wide32 : IsWide w32 (2 ^ 32)
wide32 = record {
  len = λ n. refl;
  back = λ bytes len fits. be_bytes_4 bytes _ len fits refl;
  again = λ n lt. from_be_bytes-to_be_bytes_4 n lt;
  below = λ bytes fits. omega (arith, fits 0, fits 1, fits 2, fits 3);
}

pub wide64 : IsWide w64 (2 ^ 64)
wide64 = record {
  len = λ n. refl;
  back = λ bytes len fits. be_bytes_8 bytes _ len fits refl;
  again = λ n lt. from_be_bytes-to_be_bytes_8 n lt;
  below = λ bytes fits. omega (arith, fits 0, fits 1, fits 2, fits 3, fits 4, fits 5, fits 6, fits 7);
}

-- n bytes
pub Reads-bytes : (n : ℕ) → Reads (bytes_at n) (λ t. t) (λ t. length t ≡ n)
Reads-bytes n = record {
  takes = λ bytes x fits e.
      let g = guard_not (ltb (length bytes) n) (Some (take n bytes, drop n bytes)) x e in
      let long : n ≤ length bytes = ltb-false _ _ g.0 in
      subst (λ (y : List ℕ × List ℕ). Takes bytes y.0 y.1 × (length y.0 ≡ n)) (some_is (take n bytes, drop n bytes) x g.1)
      (record { parts = sym (take-append-drop n bytes); rest_fits = IsBytes-drop n bytes fits }, omega (arith, length-take n bytes));
  again = λ t rest len.
      let long : ltb (length (t ++ rest)) n ≡ false = le-ltb _ _ (omega (arith, length-append t rest)) in
      rw (long, take_at t rest n len, drop_at t rest n len) refl;
}

-- n bytes, each of them below 256
pub Reads-each_byte : (n : ℕ) → Reads (bytes_at n) (λ t. t) (λ t. (length t ≡ n) × All (λ b. b < 256) t)
Reads-each_byte n = record {
  takes = λ bytes x fits e.
      let hb = Reads-bytes n in
      let t = hb.takes bytes x fits e in
      let each : All (λ b. b < 256) x.0 = λ k d lt. rw (get_or_default x.0 k d 0 lt, ← get_or_append_left x.0 x.1 0 k lt, ← t.0.parts) (fits k) in
      (t.0, (t.1, each));
  again = λ t rest fits. let hb = Reads-bytes n in hb.again t rest fits.0;
}

pub Reads-number : (w : Width) (limit : ℕ) → IsWide w limit → Reads (number_at w) (to_be_bytes w) (λ n. n < limit)
Reads-number w limit wide = record {
  takes = λ bytes x fits e.
      let g = guard_not (ltb (length bytes) (byte_len w)) (Some (from_be_bytes w (take (byte_len w) bytes), drop (byte_len w) bytes)) x e in
      let long : byte_len w ≤ length bytes = ltb-false _ _ g.0 in
      let front = wide.back (take (byte_len w) bytes) (omega (arith, length-take (byte_len w) bytes)) (IsBytes-take (byte_len w) bytes fits) in
      subst (λ (y : ℕ × List ℕ). Takes bytes (to_be_bytes w y.0) y.1 × (y.0 < limit)) (some_is (from_be_bytes w (take (byte_len w) bytes), drop (byte_len w) bytes) x g.1)
      (record { parts = rw front (sym (take-append-drop (byte_len w) bytes)); rest_fits = IsBytes-drop (byte_len w) bytes fits }, wide.below (take (byte_len w) bytes) (IsBytes-take (byte_len w) bytes fits));
  again = λ n rest lt.
      let len = wide.len n in
      let long : ltb (length (to_be_bytes w n ++ rest)) (byte_len w) ≡ false = le-ltb _ _ (omega (arith, length-append (to_be_bytes w n) rest)) in
      rw (long, take_at (to_be_bytes w n) rest (byte_len w) len, drop_at (to_be_bytes w n) rest (byte_len w) len, wide.again n lt) refl;
}

pub Reads-number16 : Reads (number_at w16) (to_be_bytes w16) (λ n. n < 2 ^ 16)
Reads-number16 = Reads-number w16 (2 ^ 16) wide16

pub Reads-number32 : Reads (number_at w32) (to_be_bytes w32) (λ n. n < 2 ^ 32)
Reads-number32 = Reads-number w32 (2 ^ 32) wide32

pub Reads-number64 : Reads (number_at w64) (to_be_bytes w64) (λ n. n < 2 ^ 64)
Reads-number64 = Reads-number w64 (2 ^ 64) wide64

-- ---- just these bytes

equal_bytes : (xs ys : List ℕ) → bytes_eq xs ys ≡ true → xs ≡ ys
equal_bytes xs ys e = grind (arith, bytes_eq-Decides xs ys, e)

bytes_equal : (xs : List ℕ) → bytes_eq xs xs ≡ true
bytes_equal xs = grind (arith, bytes_eq-Decides xs xs)

pub Reads-literal : (bytes : List ℕ) → Reads (literal_at bytes) (λ x. bytes) (λ x. Unit {0})
unfolding literal_at
Reads-literal bytes = record {
  takes = λ input x fits e.
      let a = bind_some (bytes_at (length bytes) input) (λ t. cond (bytes_eq t.0 bytes) (Some (tt, t.1)) None) x e in
      let g = guard_is (bytes_eq a.0.0 bytes) (Some (tt, a.0.1)) x a.2 in
      let hb = Reads-bytes (length bytes) in
      let t = hb.takes input a.0 fits a.1 in
      let same : a.0.0 ≡ bytes = equal_bytes a.0.0 bytes g.0 in
      subst (λ (y : Unit {0} × List ℕ). Takes input bytes y.1 × Unit {0}) (some_is (tt, a.0.1) x g.1) (subst (λ (y : List ℕ). Takes input y a.0.1) same t.0, tt);
  again = λ x rest fits. let hb = Reads-bytes (length bytes) in rw (hb.again bytes rest refl, bytes_equal bytes) refl;
}

-- ---- texts

pub Reads-text : (lo hi : ℕ) → hi < 2 ^ 16 → Reads (text_at lo hi) text (IsText lo hi)
unfolding text_at
Reads-text lo hi small = record {
  takes = λ bytes x fits e.
      let b = bind_some (number_at w16 bytes) (λ n. cond (ltb n.0 lo) None (cond (ltb hi n.0) None (bytes_at n.0 n.1 >>= λ t. cond (is_utf8 t.0) (Some t) None))) x e in
      let g = guard_not (ltb b.0.0 lo) (cond (ltb hi b.0.0) None (bytes_at b.0.0 b.0.1 >>= λ t. cond (is_utf8 t.0) (Some t) None)) x b.2 in
      let k = guard_not (ltb hi b.0.0) (bytes_at b.0.0 b.0.1 >>= λ t. cond (is_utf8 t.0) (Some t) None) x g.1 in
      let c = bind_some (bytes_at b.0.0 b.0.1) (λ t. cond (is_utf8 t.0) (Some t) None) x k.1 in
      let u = guard_is (is_utf8 c.0.0) (Some c.0) x c.2 in
      let t0 = Reads-number16.takes bytes b.0 fits b.1 in
      let hb = Reads-bytes b.0.0 in
      let t1 = hb.takes b.0.1 c.0 t0.0.rest_fits c.1 in
      let whole : Takes bytes (text c.0.0) c.0.1 = subst (λ (j : ℕ). Takes bytes (to_be_bytes w16 j ++ c.0.0) c.0.1) (sym t1.1) (Takes-then bytes (to_be_bytes w16 b.0.0) b.0.1 c.0.0 c.0.1 t0.0 t1.0) in
      subst (λ (y : List ℕ × List ℕ). Takes bytes (text y.0) y.1 × IsText lo hi y.0) (some_is c.0 x u.1)
      (whole, record { long = omega (arith, t1.1, ltb-false _ _ g.0); short = omega (arith, t1.1, ltb-false _ _ k.0); utf8 = u.0 });
  again = λ t rest fits.
      let hb = Reads-bytes (length t) in
      let a : ltb (length t) lo ≡ false = le-ltb _ _ fits.long in
      let b : ltb hi (length t) ≡ false = le-ltb _ _ fits.short in
      ap (text_at lo hi) (append_assoc (to_be_bytes w16 (length t)) t rest) ∙ rw (Reads-number16.again (length t) (t ++ rest) (omega (arith, fits.short)), a, b, hb.again t rest refl, fits.utf8) refl;
}

-- ---- truth values

-- none of them is refused
abbrev pub Any : {A : Type 0} → A → Type 0
Any x = Unit {0}

truth_takes : (bytes : List ℕ) (x : Bool × List ℕ) → IsBytes bytes → truth_at bytes ≡ Some x → Takes bytes (truth x.0) x.1 × Any x.0
unfolding truth_at
truth_takes [] x fits e = absurd cc
truth_takes (zero ∷ bytes) x fits e = subst (λ (y : Bool × List ℕ). Takes (0 ∷ bytes) (truth y.0) y.1 × Any y.0) (some_is (false, bytes) x e) (record { parts = refl; rest_fits = IsBytes-rest 0 bytes fits }, tt)
truth_takes (suc zero ∷ bytes) x fits e = subst (λ (y : Bool × List ℕ). Takes (1 ∷ bytes) (truth y.0) y.1 × Any y.0) (some_is (true, bytes) x e) (record { parts = refl; rest_fits = IsBytes-rest 1 bytes fits }, tt)
truth_takes (suc (suc b) ∷ bytes) x fits e = absurd cc

truth_again : (b : Bool) (rest : List ℕ) → Any b → truth_at (truth b ++ rest) ≡ Some (b, rest)
unfolding truth_at
truth_again true rest fits = refl
truth_again false rest fits = refl

pub Reads-truth : Reads truth_at truth Any
Reads-truth = record { takes = truth_takes; again = truth_again }

-- ---- behind a flag

option_takes : {A : Type 0} (r : Part A) (f : A → List ℕ) (P : A → Type 0) (h : Reads r f P) (bytes : List ℕ) (x : Option A × List ℕ) → IsBytes bytes → option_at r bytes ≡ Some x → Takes bytes (option f x.0) x.1 × IfSome x.0 P
unfolding option_at
option_takes r f P h [] x fits e = absurd cc
option_takes {A} r f P h (zero ∷ bytes) x fits e = subst (λ (y : Option A × List ℕ). Takes (0 ∷ bytes) (option f y.0) y.1 × IfSome y.0 P) (some_is (None, bytes) x e) (record { parts = refl; rest_fits = IsBytes-rest 0 bytes fits }, tt)
option_takes {A} r f P h (suc zero ∷ bytes) x fits e =
    let b = bind_some (r bytes) (λ n. Some (some n.0, n.1)) x e in
    let t = h.takes bytes b.0 (IsBytes-rest 1 bytes fits) b.1 in
    subst (λ (y : Option A × List ℕ). Takes (1 ∷ bytes) (option f y.0) y.1 × IfSome y.0 P) (some_is (Some b.0.0, b.0.1) x b.2) (record { parts = ap (λ (w : List ℕ). 1 ∷ w) t.0.parts; rest_fits = t.0.rest_fits }, t.1)
option_takes r f P h (suc (suc b) ∷ bytes) x fits e = absurd cc

option_again : {A : Type 0} (r : Part A) (f : A → List ℕ) (P : A → Type 0) (h : Reads r f P) (o : Option A) (rest : List ℕ) → IfSome o P → option_at r (option f o ++ rest) ≡ Some (o, rest)
unfolding option_at
option_again r f P h None rest fits = refl
option_again r f P h (Some x) rest fits = rw (h.again x rest fits) refl

pub Reads-option : {A : Type 0} (r : Part A) (f : A → List ℕ) (P : A → Type 0) → Reads r f P → Reads (option_at r) (option f) (λ o. IfSome o P)
Reads-option r f P h = record { takes = option_takes r f P h; again = option_again r f P h }

-- ---- one behind the other

abbrev pub Are : {A : Type 0} → (A → Type 0) → ℕ → List A → Type 0
Are P n xs = (length xs ≡ n) × All P xs

list_takes : {A : Type 0} (r : Part A) (f : A → List ℕ) (P : A → Type 0) (h : Reads r f P) (n : ℕ) (bytes : List ℕ) (x : List A × List ℕ) → IsBytes bytes → list_at r n bytes ≡ Some x → Takes bytes (flat_map f x.0) x.1 × Are P n x.0
unfolding list_at
list_takes {A} r f P h zero bytes x fits e =
    subst (λ (y : List A × List ℕ). Takes bytes (flat_map f y.0) y.1 × Are P 0 y.0) (some_is ([], bytes) x e) (record { parts = refl; rest_fits = fits }, (refl, All-nil P))
list_takes {A} r f P h (suc n) bytes x fits e =
    let a = bind_some (r bytes) (λ first. list_at r n first.1 >>= λ others. Some (first.0 ∷ others.0, others.1)) x e in
    let b = bind_some (list_at r n a.0.1) (λ others. Some (a.0.0 ∷ others.0, others.1)) x a.2 in
    let first = h.takes bytes a.0 fits a.1 in
    let second = list_takes r f P h n a.0.1 b.0 first.0.rest_fits b.1 in
    let both = Takes-then bytes (f a.0.0) a.0.1 (flat_map f b.0.0) b.0.1 first.0 second.0 in
    let made : List A × List ℕ = (a.0.0 ∷ b.0.0, b.0.1) in
    subst (λ (y : List A × List ℕ). Takes bytes (flat_map f y.0) y.1 × Are P (suc n) y.0) (some_is made x b.2) (rw flat_map-cons both, (ap suc second.1.0, All-cons P a.0.0 b.0.0 first.1 second.1.1))

list_again : {A : Type 0} (r : Part A) (f : A → List ℕ) (P : A → Type 0) (h : Reads r f P) (xs : List A) (rest : List ℕ) → All P xs → list_at r (length xs) (flat_map f xs ++ rest) ≡ Some (xs, rest)
unfolding list_at
list_again r f P h [] rest fits = refl
list_again r f P h (x ∷ xs) rest fits =
    let regrouped : flat_map f (x ∷ xs) ++ rest ≡ f x ++ (flat_map f xs ++ rest) = ap (λ (y : List ℕ). y ++ rest) (flat_map-cons f x xs) ∙ append_assoc (f x) (flat_map f xs) rest in
    ap (list_at r (suc (length xs))) regrouped ∙ rw (h.again x (flat_map f xs ++ rest) (All-head P x xs fits), list_again r f P h xs rest (All-tail P x xs fits)) refl

abbrev counted : {A : Type 0} → (A → List ℕ) → List A → List ℕ
counted f xs = to_be_bytes w16 (length xs) ++ flat_map f xs

pub Reads-counted : {A : Type 0} (r : Part A) (f : A → List ℕ) (P : A → Type 0) (hi : ℕ) → hi < 2 ^ 16 → Reads r f P → Reads (counted_at hi r) (counted f) (λ xs. (length xs ≤ hi) × All P xs)
unfolding counted_at
Reads-counted {A} r f P hi small h = record {
  takes = λ bytes x fits e.
      let b = bind_some (number_at w16 bytes) (λ n. cond (ltb hi n.0) None (list_at r n.0 n.1)) x e in
      let g = guard_not (ltb hi b.0.0) (list_at r b.0.0 b.0.1) x b.2 in
      let t0 = Reads-number16.takes bytes b.0 fits b.1 in
      let t1 = list_takes r f P h b.0.0 b.0.1 x t0.0.rest_fits g.1 in
      let whole : Takes bytes (counted f x.0) x.1 = subst (λ (j : ℕ). Takes bytes (to_be_bytes w16 j ++ flat_map f x.0) x.1) (sym t1.1.0) (Takes-then bytes (to_be_bytes w16 b.0.0) b.0.1 (flat_map f x.0) x.1 t0.0 t1.0) in
      (whole, (omega (arith, t1.1.0, ltb-false _ _ g.0), t1.1.1));
  again = λ xs rest fits.
      let b : ltb hi (length xs) ≡ false = le-ltb _ _ fits.0 in
      ap (counted_at hi r) (append_assoc (to_be_bytes w16 (length xs)) (flat_map f xs) rest) ∙ rw (Reads-number16.again (length xs) (flat_map f xs ++ rest) (omega (arith, fits.0)), b, list_again r f P h xs rest fits.1) refl;
}
