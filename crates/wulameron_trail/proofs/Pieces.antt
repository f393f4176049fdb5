-- What unread bytes begin with.
use Rattle.std.proofs.Common.{◌≡◌, ℕ, List, ◌++◌, Option, Result, Ok, ◌↔◌, ◌⊎◌, inl, inr, ◌≤◌, ◌<◌, arith, length, length-append, refl, ap, subst, ◌∙◌, append_assoc}
use Rattle.iceoryx2_log.specs.declared.entry.Entry.{Entry}
use Rattle.iceoryx2_log.specs.Form.{Begins, IsCutShort}
use Rattle.iceoryx2_file_log.specs.declared.remainder.Front.{Front}
use Rattle.iceoryx2_file_log.specs.declared.remainder.Front.TheVariants as front
use Rattle.iceoryx2_file_log.specs.Remainder.{IsTorn}
use Rattle.std.specs.declared.alloc.AllocError.{AllocError}
use Rattle.wulameron_trail.specs.Unread.{IsUnread, IsDamage, IsFrontIn, IsNext, BeginsWithDamage}

-- what begins ahead begins the unread bytes
pub begins_unread : (ahead : List ℕ) (left : Option (List ℕ)) (bytes : List ℕ) (e : Entry) (count : ℕ) → Begins ahead e count → IsUnread ahead left bytes → Begins bytes e count
begins_unread ahead left bytes e count begins unread = record {
  form = begins.form;
  rest = begins.rest ++ unread.rest;
  is_form = begins.is_form;
  parts = unread.parts ∙ ap (λ (l : List ℕ). l ++ unread.rest) begins.parts ∙ append_assoc begins.form begins.rest unread.rest;
  counted = begins.counted;
}

pub damage_unread : (ahead : List ℕ) (left : Option (List ℕ)) (bytes : List ℕ) → IsDamage ahead → IsUnread ahead left bytes → BeginsWithDamage bytes
damage_unread ahead left bytes is unread = record { damage = ahead; rest = unread.rest; is = is; parts = unread.parts }

abbrev the_front : Result Front AllocError → Result Front AllocError
the_front r = r

-- what bytes are of which none follow
pub front_is : (bytes : List ℕ) (f : Front) → ((e : Entry) (count : ℕ) → f ≡ front.Whole e count → Begins bytes e count)
    → ((e : Entry) (count : ℕ) → Begins bytes e count → f ≡ front.Whole e count)
    → ((the_front (Ok f) ≡ Ok front.Torn) ↔ (IsTorn bytes × (length bytes ≤ length bytes)))
    → ((the_front (Ok f) ≡ Ok front.Unfinished) ↔ (IsCutShort bytes × (length bytes < length bytes))) → IsFrontIn bytes f
front_is bytes (front.Whole e count) whole only torn unfinished = whole e count refl
front_is bytes front.Torn whole only torn unfinished = (torn.0 refl).0
front_is bytes front.Unfinished whole only torn unfinished = let few = (unfinished.0 refl).1 in absurd (omega (arith, few))
front_is bytes front.Damaged whole only torn unfinished = record {
  not_torn = λ is. let e = torn.1 (is, omega arith) in absurd (cc);
  none = λ e count begins. let same = only e count begins in absurd (cc);
}

-- ---- the next of the unread bytes

pub next_whole : (slice ahead : List ℕ) (left : Option (List ℕ)) (bytes : List ℕ) (f : Front) (e : Entry) (count : ℕ) → slice ≡ ahead → f ≡ front.Whole e count
    → IsFrontIn slice f → IsUnread ahead left bytes → Begins bytes e count
next_whole slice ahead left bytes f e count same is found unread =
    begins_unread ahead left bytes e count (subst (λ (l : List ℕ). Begins l e count) same (subst (λ (x : Front). IsFrontIn slice x) is found)) unread

pub next_torn : (slice ahead bytes : List ℕ) (f : Front) → slice ≡ ahead → f ≡ front.Torn → IsFrontIn slice f → ahead ≡ bytes → IsTorn bytes
next_torn slice ahead bytes f same is found all = subst (λ (l : List ℕ). IsTorn l) (same ∙ all) (subst (λ (x : Front). IsFrontIn slice x) is found)

pub next_damaged : (slice ahead : List ℕ) (left : Option (List ℕ)) (bytes : List ℕ) (f : Front) → slice ≡ ahead → (f ≡ front.Unfinished) ⊎ (f ≡ front.Damaged)
    → IsFrontIn slice f → IsUnread ahead left bytes → BeginsWithDamage bytes
next_damaged slice ahead left bytes f same (inl is) found unread =
    damage_unread ahead left bytes (subst (λ (l : List ℕ). IsDamage l) same (subst (λ (x : Front). IsFrontIn slice x) is found)) unread
next_damaged slice ahead left bytes f same (inr is) found unread =
    damage_unread ahead left bytes (subst (λ (l : List ℕ). IsDamage l) same (subst (λ (x : Front). IsFrontIn slice x) is found)) unread

pub whole_is_within : (slice ahead : List ℕ) (f : Front) (e : Entry) (count : ℕ) → slice ≡ ahead → f ≡ front.Whole e count → IsFrontIn slice f → count ≤ length ahead
whole_is_within slice ahead f e count same is found =
    let begins : Begins slice e count = subst (λ (x : Front). IsFrontIn slice x) is found in
    omega (arith, begins.counted, ap length begins.parts, length-append begins.form begins.rest, ap length same)

pub damage_next : (bytes : List ℕ) (f : Front) → (f ≡ front.Unfinished) ⊎ (f ≡ front.Damaged) → IsNext bytes f → BeginsWithDamage bytes
damage_next bytes f (inl is) found = subst (λ (x : Front). IsNext bytes x) is found
damage_next bytes f (inr is) found = subst (λ (x : Front). IsNext bytes x) is found
