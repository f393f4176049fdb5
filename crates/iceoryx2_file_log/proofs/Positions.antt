-- What is true of a handle in its file, and what the file comes to, after each step.
use Rattle.std.proofs.Common.{◌≡◌, ℕ, zero, suc, ◌+◌, ◌<◌, ◌≤◌, Bool, true, false, List, [], ◌∷◌, ◌++◌, length, take, drop}
use Rattle.std.proofs.Common.{Option, Some, None, refl, sym, ap, subst, ◌∙◌, append_assoc, length-append, take-append-drop, arith, inl, inr}
use Rattle.std.specs.Prelude.{All, IfSome}
use Rattle.std.specs.List.{AllByRecursion as ByRecursion}
use Rattle.std.proofs.lemmas.List.{append-nil, length-drop, length-take-le, take_all, take_at, drop_at, drop-append-le}
use Rattle.std.proofs.lemmas.List.Elements.{recursion_from_All, All-append}
use Rattle.std.proofs.Math.Seq.{take-append-add}
use Rattle.iceoryx2_log.specs.declared.entry.Entry.{Entry}
use Rattle.iceoryx2_log.specs.declared.entry.Operation.TheVariants.{Moved}
use Rattle.iceoryx2_log.specs.Form.{IsForm, Begins}
use Rattle.iceoryx2_log.specs.Log.{Contents, WhereKnown, Accepts, Appends, Shows, first}
use Rattle.iceoryx2_log.specs.Log as log
use Rattle.iceoryx2_log.proofs.EachByte.{form_bytes}
use Rattle.iceoryx2_file_log.specs.declared.error.FileFault.{FileFault}
use Rattle.iceoryx2_file_log.specs.declared.error.FileFault.TheVariants as fault
use Rattle.iceoryx2_file_log.specs.declared.cursor.State.{State}
use Rattle.iceoryx2_file_log.specs.declared.cursor.State.TheVariants.{Free, Held, Unsure, Damaged}
use Rattle.iceoryx2_file_log.specs.declared.header.TheConstants.{HEADER_LENGTH}
use Rattle.iceoryx2_file_log.specs.Compaction.{AreForms, BeginsWithMark, MayBeCut}
use Rattle.iceoryx2_file_log.specs.Place.{Place, left, held, accepted, cut, appended, let_go_state}
use Rattle.iceoryx2_file_log.specs.Place.{why_not_free, why_not_held, state_after}
use Rattle.iceoryx2_file_log.specs.Handle.{ReadsOn}
use Rattle.iceoryx2_file_log.specs.Medium.{Known, AreBytes, BeginWith, Becomes, Keeps, MayChangeFrom}
use Rattle.iceoryx2_file_log.specs.Medium.{CutsTo, Synchronizes, WritesSome, written}
use Rattle.iceoryx2_file_log.specs.Bytes.{Reading, WritesAll}
use Rattle.iceoryx2_file_log.specs.Entries.{entries_in}
use Rattle.iceoryx2_file_log.specs.OneFile.{Fits, Holding, IsFound, Left, contents_in, contents_of, unread_bytes, refused}
use Rattle.iceoryx2_file_log.specs.OneFile.{SameContents, SparesOrIsSafe}
use Rattle.iceoryx2_file_log.proofs.ByteSteps.{drop_on, nothing, written_end, with_bytes}
use Rattle.iceoryx2_file_log.proofs.Keeping.{IsQuiet, quiet_cut, before, same_front, keeps_in_turn, more_keeps, cut_keeps}
use Rattle.iceoryx2_file_log.proofs.Decoded.{Stays, bytes_append, bytes_drop, bytes_take, none_in, entries_only}
use Rattle.iceoryx2_file_log.proofs.Decoded.{entries_first, forms_both, empty_quiet, one_stays}

-- ---- places in bytes

take_on : (p n : ℕ) (bytes : List ℕ) → p ≤ length bytes → take (p + n) bytes ≡ take p bytes ++ take n (drop p bytes)
take_on p n bytes le =
    let long : length (take p bytes) ≡ p = length-take-le p bytes le in
    ap (λ (k : ℕ). take (k + n) bytes) (sym long)
    ∙ ap (λ (b : List ℕ). take (length (take p bytes) + n) b) (sym (take-append-drop p bytes))
    ∙ take-append-add (take p bytes) (drop p bytes) n

each_byte : (xs : List ℕ) → ByRecursion (λ b. b < 256) xs → AreBytes xs
each_byte [] r i = omega arith
each_byte (x ∷ xs) r zero = r.0
each_byte (x ∷ xs) r (suc i) = each_byte xs r.1 i

all_bytes : (xs : List ℕ) → All (λ b. b < 256) xs → AreBytes xs
all_bytes xs all = each_byte xs (recursion_from_All (λ b. b < 256) xs all)

-- the length of what a handle knows of
known_long : (n : ℕ) (bytes : List ℕ) → length (take n bytes) ≤ n
known_long zero bytes = omega arith
known_long (suc n) [] = omega arith
known_long (suc n) (b ∷ bytes) = let le = known_long n bytes in omega (arith, le)

pub within_known : (p n : ℕ) (bytes : List ℕ) → p ≤ n → p ≤ length bytes → p ≤ length (take n bytes)
within_known zero n bytes a b = omega arith
within_known (suc p) zero bytes a b = absurd (omega (arith, a))
within_known (suc p) (suc n) [] a b = absurd (omega (arith, b))
within_known (suc p) (suc n) (x ∷ bytes) a b =
    let le = within_known p n bytes (omega (arith, a)) (omega (arith, b)) in omega (arith, le)

-- What stands behind the position is what the handle knows of, and more.
pub parted : (p : Place) (bytes : List ℕ) → p.position ≤ length (take p.file_length bytes)
    → drop p.position bytes ≡ unread_bytes p bytes ++ drop p.file_length bytes
parted p bytes le =
    ap (λ (b : List ℕ). drop p.position b) (sym (take-append-drop p.file_length bytes))
    ∙ drop-append-le p.position (take p.file_length bytes) (drop p.file_length bytes) le

pub unread_all : (p : Place) (bytes : List ℕ) → p.file_length ≡ length bytes → unread_bytes p bytes ≡ drop p.position bytes
unread_all p bytes long =
    ap (λ (b : List ℕ). drop p.position b) (take_all p.file_length bytes (omega (arith, long)))

-- ---- what bytes begin with

pub taken_is : (taken : List Entry) (front bytes : List ℕ) → BeginWith taken front bytes
    → entries_in (drop HEADER_LENGTH front) ≡ taken
taken_is taken front bytes b =
    ap (λ (x : List ℕ). entries_in (drop HEADER_LENGTH x)) b.is_front
    ∙ ap (λ (x : List ℕ). entries_in x) (drop_at b.header b.forms HEADER_LENGTH b.is_long)
    ∙ entries_only taken b.forms b.no_marks b.are_forms

-- More entries behind them.
pub pushed : (taken more : List Entry) (front forms old new rest : List ℕ) → BeginWith taken front old → AreForms more forms
    → All Stays more → new ≡ (front ++ forms) ++ rest → BeginWith (taken ++ more) (front ++ forms) new
pushed taken more front forms old new rest b are stay parts = record {
  header = b.header;
  forms = b.forms ++ forms;
  rest = rest;
  is_long = b.is_long;
  are_forms = forms_both taken more b.forms forms b.are_forms are;
  no_marks = All-append Stays taken more b.no_marks stay;
  is_front = ap (λ (x : List ℕ). x ++ forms) b.is_front ∙ append_assoc b.header b.forms forms;
  parts = parts;
}

abbrev one_form : (e : Entry) (form : List ℕ) → IsForm e form → AreForms (e ∷ []) form
one_form e form is = (form, [], is, sym (append-nil form), refl)

-- ---- the contents

abbrev both : ℕ → List Entry → List Entry → Contents
both begins taken unread = record { begins = begins; taken = taken; unread = unread }

same_both : (begins : ℕ) (xs ys us vs : List Entry) → xs ≡ ys → us ≡ vs → both begins xs us ≡ both begins ys vs
same_both begins xs ys us vs a b = ap (λ (t : List Entry). both begins t us) a ∙ ap (λ (u : List Entry). both begins ys u) b

place_same : (begins : ℕ) (bytes : List ℕ) (p q : Place) → q.position ≡ p.position → q.file_length ≡ p.file_length
    → contents_in begins q bytes ≡ contents_in begins p bytes
place_same begins bytes p q at long =
    same_both begins (entries_in (drop HEADER_LENGTH (take q.position bytes))) (entries_in (drop HEADER_LENGTH (take p.position bytes)))
    (entries_in (unread_bytes q bytes)) (entries_in (unread_bytes p bytes))
    (ap (λ (n : ℕ). entries_in (drop HEADER_LENGTH (take n bytes))) at)
    (ap (λ (n : ℕ). entries_in (drop n (take q.file_length bytes))) at
    ∙ ap (λ (n : ℕ). entries_in (drop p.position (take n bytes))) long)

-- What a handle contains depends on its position and on the length that it knows of.
pub contents_same : (o : Option Known) (p q : Place) → q.position ≡ p.position → q.file_length ≡ p.file_length
    → SameContents o p o q
contents_same None p q at long begins = refl
contents_same (Some k) p q at long begins = ap (λ (c : Contents). Some c) (place_same begins k.bytes p q at long)

pub contents_after : (o m : Option Known) (p q : Place) → m ≡ o → q.position ≡ p.position → q.file_length ≡ p.file_length
    → SameContents o p m q
contents_after o m p q same at long begins =
    ap (λ (x : Option Known). contents_of begins x q) same ∙ contents_same o p q at long begins

-- With nothing known behind the position they depend on what stands before it.
pub front_same : (begins : ℕ) (p : Place) (xs ys : List ℕ) → p.file_length ≡ p.position → take p.position xs ≡ take p.position ys
    → contents_in begins p xs ≡ contents_in begins p ys
front_same begins p xs ys all same =
    let known : take p.file_length xs ≡ take p.file_length ys =
    ap (λ (n : ℕ). take n xs) all ∙ same ∙ sym (ap (λ (n : ℕ). take n ys) all) in
    same_both begins (entries_in (drop HEADER_LENGTH (take p.position xs))) (entries_in (drop HEADER_LENGTH (take p.position ys)))
    (entries_in (unread_bytes p xs)) (entries_in (unread_bytes p ys))
    (ap (λ (b : List ℕ). entries_in (drop HEADER_LENGTH b)) same)
    (ap (λ (b : List ℕ). entries_in (drop p.position b)) known)

empty_none : (bytes : List ℕ) → length bytes ≡ 0 → entries_in bytes ≡ []
empty_none bytes none = ap (λ (b : List ℕ). entries_in b) (nothing bytes none) ∙ none_in [] (λ i. omega arith) (empty_quiet [] refl)

none_known : (p : Place) (bytes : List ℕ) → p.file_length ≡ p.position → entries_in (unread_bytes p bytes) ≡ []
none_known p bytes all =
    let le = known_long p.file_length bytes in
    empty_none (unread_bytes p bytes) (omega (arith, all, le, length-drop p.position (take p.file_length bytes)))

-- ---- the state

pub was_held : (why : FileFault) (s : State) → state_after why s ≡ Held → s ≡ Held
was_held (fault.Damaged at) s e = absurd cc
was_held fault.Unsure s e = absurd cc
was_held other s e = e

was_free : (why : FileFault) (s : State) → state_after why s ≡ Free → s ≡ Free
was_free (fault.Damaged at) s e = absurd cc
was_free fault.Unsure s e = absurd cc
was_free other s e = e

pub is_free : (s : State) → why_not_free s ≡ None → s ≡ Free
is_free Free e = refl
is_free Held e = absurd cc
is_free Unsure e = absurd cc
is_free (Damaged at) e = absurd cc

pub is_held : (s : State) → why_not_held s ≡ None → s ≡ Held
is_held Free e = absurd cc
is_held Held e = refl
is_held Unsure e = absurd cc
is_held (Damaged at) e = absurd cc

pub never_held : (s : State) → let_go_state s ≡ Held → ⊥
never_held Free e = cc
never_held Held e = cc
never_held Unsure e = cc
never_held (Damaged at) e = cc

held_not_free : (s : State) → s ≡ Held → s ≡ Free → ⊥
held_not_free s a b = let no : Held ≡ Free = sym a ∙ b in absurd cc

-- A refused call leaves a handle that may be used no more.
pub refused_fits : (why : FileFault) (p : Place) (o : Option Known) → IfSome o (Fits p) → IfSome o (Fits (refused why p))
refused_fits why p None f = f
refused_fits why p (Some k) f = record {
  taken = f.taken;
  begins = f.begins;
  within = f.within;
  known = f.known;
  are_bytes = f.are_bytes;
  found = f.found;
  held = λ s. let h = f.held (was_held why p.state s) in record {
    reading = record { locked = h.reading.locked; long = h.reading.long; more = h.reading.more; ahead = h.reading.ahead };
    entry = h.entry;
    keeps = h.keeps;
  };
  free = λ s. f.free (was_free why p.state s);
}

-- ---- accept

reading_accepted : (p : Place) (k : Known) → p.position ≤ length k.bytes → Holding p k → Holding (accepted p) k
reading_accepted p k within h =
    let r = h.reading in
    record {
      reading = record {
        locked = r.locked;
        long = r.long;
        more = r.more;
        ahead = drop_on p.position p.found k.bytes within ∙ ap (λ (b : List ℕ). drop p.found b) r.ahead
            ∙ drop-append-le p.found p.ahead r.more h.entry;
      };
      entry = omega arith;
      keeps = h.keeps;
    }

-- what an entry that was found makes of the bytes
record Next (p : Place) (bytes : List ℕ) (e : Entry) : Type 0 where
  form : List ℕ
  rest : List ℕ
  is_form : IsForm e form
  long : p.position + p.found ≤ length (take p.file_length bytes)
  front : take (p.position + p.found) bytes ≡ take p.position bytes ++ form
  behind : unread_bytes (accepted p) bytes ≡ rest
  parts : bytes ≡ (take p.position bytes ++ form) ++ (rest ++ drop p.file_length bytes)

next_one : (p : Place) (k : Known) (e : Entry) → Fits p k → Begins (unread_bytes p k.bytes) e p.found → Next p k.bytes e
next_one p k e f b =
    let known : List ℕ = take p.file_length k.bytes in
    let le = within_known p.position p.file_length k.bytes f.known f.within in
    let tail : drop p.position k.bytes ≡ b.form ++ (b.rest ++ drop p.file_length k.bytes) =
    parted p k.bytes le ∙ ap (λ (x : List ℕ). x ++ drop p.file_length k.bytes) b.parts
    ∙ append_assoc b.form b.rest (drop p.file_length k.bytes) in
    record {
      form = b.form;
      rest = b.rest;
      is_form = b.is_form;
      long = omega (arith, le, b.counted, ap length b.parts, length-append b.form b.rest, length-drop p.position known);
      front = take_on p.position p.found k.bytes f.within ∙ ap (λ (x : List ℕ). take p.position k.bytes ++ x)
          (ap (λ (x : List ℕ). take p.found x) tail
          ∙ take_at b.form (b.rest ++ drop p.file_length k.bytes) p.found (sym b.counted));
      behind = drop_on p.position p.found known le ∙ ap (λ (x : List ℕ). drop p.found x) b.parts
          ∙ drop_at b.form b.rest p.found (sym b.counted);
      parts = sym (take-append-drop p.position k.bytes) ∙ ap (λ (x : List ℕ). take p.position k.bytes ++ x) tail
          ∙ sym (append_assoc (take p.position k.bytes) b.form (b.rest ++ drop p.file_length k.bytes));
    }

pushed_next : (p : Place) (k : Known) (e : Entry) → (f : Fits p k) → (n : Next p k.bytes e) → Stays e
    → BeginWith (f.taken ++ e ∷ []) (take (p.position + p.found) k.bytes) k.bytes
pushed_next p k e f n stays =
    subst (λ (x : List ℕ). BeginWith (f.taken ++ e ∷ []) x k.bytes) (sym n.front)
    (pushed f.taken (e ∷ []) (take p.position k.bytes) n.form k.bytes k.bytes (n.rest ++ drop p.file_length k.bytes)
    f.begins (one_form e n.form n.is_form) (one_stays e stays) n.parts)

accepted_fits : (p : Place) (k : Known) → Fits p k → IsFound p.found (unread_bytes p k.bytes) → Fits (accepted p) k
accepted_fits p k f (inl none) =
    let same : p.position ≡ p.position + p.found = omega (arith, none) in
    record {
      taken = f.taken;
      begins = subst (λ (n : ℕ). BeginWith f.taken (take n k.bytes) k.bytes) same f.begins;
      within = omega (arith, none, f.within);
      known = omega (arith, none, f.known);
      are_bytes = f.are_bytes;
      found = inl refl;
      held = λ s. reading_accepted p k f.within (f.held s);
      free = f.free;
    }
accepted_fits p k f (inr found) =
    let e : Entry = found.0 in
    let n = next_one p k e f found.1 in
    let short = known_long p.file_length k.bytes in
    let whole = length-append (take p.file_length k.bytes) (drop p.file_length k.bytes) in
    record {
      taken = f.taken ++ e ∷ [];
      begins = pushed_next p k e f n found.2;
      within = omega (arith, n.long, whole, ap length (take-append-drop p.file_length k.bytes));
      known = omega (arith, n.long, short);
      are_bytes = f.are_bytes;
      found = inl refl;
      held = λ s. reading_accepted p k f.within (f.held s);
      free = f.free;
    }

pub accept_fits : (p : Place) (o : Option Known) → IfSome o (Fits p) → IfSome o (Fits (accepted p))
accept_fits p None f = f
accept_fits p (Some k) f = accepted_fits p k f f.found

pub unread_are_bytes : (p : Place) (k : Known) → Fits p k → AreBytes (unread_bytes p k.bytes)
unread_are_bytes p k f = bytes_drop p.position (take p.file_length k.bytes) (bytes_take p.file_length k.bytes f.are_bytes)

accepts : (begins : ℕ) (p : Place) (k : Known) → (f : Fits p k) → IsFound p.found (unread_bytes p k.bytes) → 0 < p.found
    → Accepts (contents_in begins p k.bytes) (contents_in begins (accepted p) k.bytes)
unfolding next_one
accepts begins p k f (inl none) some = absurd (omega (arith, none, some))
accepts begins p k f (inr found) some =
    let e : Entry = found.0 in
    let b = found.1 in
    let n = next_one p k e f b in
    let q : Place = accepted p in
    let old : entries_in (drop HEADER_LENGTH (take p.position k.bytes)) ≡ f.taken =
    taken_is f.taken (take p.position k.bytes) k.bytes f.begins in
    let taken : entries_in (drop HEADER_LENGTH (take q.position k.bytes)) ≡ entries_in (drop HEADER_LENGTH (take p.position k.bytes)) ++ e ∷ [] =
    taken_is (f.taken ++ e ∷ []) (take q.position k.bytes) k.bytes (pushed_next p k e f n found.2)
    ∙ ap (λ (xs : List Entry). xs ++ e ∷ []) (sym old) in
    let unread : entries_in (unread_bytes q k.bytes) ≡ entries_in n.rest = ap (λ (x : List ℕ). entries_in x) n.behind in
    let first : entries_in (unread_bytes p k.bytes) ≡ e ∷ entries_in n.rest =
    entries_first (unread_bytes p k.bytes) e p.found (unread_are_bytes p k f) b found.2 in
    same_both begins (entries_in (drop HEADER_LENGTH (take q.position k.bytes)))
    (entries_in (drop HEADER_LENGTH (take p.position k.bytes)) ++ e ∷ [])
    (entries_in (unread_bytes q k.bytes)) (entries_in n.rest) taken unread
    ∙ ap (λ (us : List Entry). log.accepted begins (entries_in (drop HEADER_LENGTH (take p.position k.bytes))) us) (sym first)

pub accept_accepts : (begins : ℕ) (p : Place) (o : Option Known) → IfSome o (Fits p) → 0 < p.found
    → WhereKnown Accepts (contents_of begins o p) (contents_of begins o (accepted p))
accept_accepts begins p None f some = tt
accept_accepts begins p (Some k) f some = accepts begins p k f f.found some

pub accept_none : (p : Place) (o : Option Known) → p.found ≡ 0 → SameContents o p o (accepted p)
accept_none p o none = contents_same o p (accepted p) (omega (arith, none)) refl

-- ---- reading on, and what is found

pub held_reading : (p : Place) (o : Option Known) → IfSome o (Fits p) → p.state ≡ Held → IfSome o (Reading p)
held_reading p None f s = f
held_reading p (Some k) f s = let r = (f.held s).reading in record { locked = r.locked; long = r.long; more = r.more; ahead = r.ahead }

abbrev with_ahead : Place → List ℕ → Place
with_ahead p more = record p { ahead = p.ahead ++ more }

read_on_fits : (p : Place) (more : List ℕ) (o : Option Known) → IfSome o (Fits p) → IfSome o (Reading (with_ahead p more))
    → IfSome o (Fits (with_ahead p more))
read_on_fits p more None f r = f
read_on_fits p more (Some k) f r = record {
  taken = f.taken;
  begins = f.begins;
  within = f.within;
  known = f.known;
  are_bytes = f.are_bytes;
  found = f.found;
  held = λ s. let h = f.held s in record {
    reading = r;
    entry = omega (arith, h.entry, length-append p.ahead more);
    keeps = h.keeps;
  };
  free = f.free;
}

pub read_fits : (p q : Place) (o : Option Known) → IfSome o (Fits p) → ReadsOn p q → IfSome o (Reading q) → IfSome o (Fits q)
read_fits p q o f reads r =
    subst (λ (x : Place). IfSome o (Fits x)) (sym reads.is)
    (read_on_fits p reads.more o f (subst (λ (x : Place). IfSome o (Reading x)) reads.is r))

abbrev with_found : Place → ℕ → Place
with_found p count = record p { found = count }

find_fits : (p : Place) (k : Known) (count : ℕ) → Fits p k → IsFound count (unread_bytes p k.bytes)
    → count ≤ length p.ahead → Fits (with_found p count) k
find_fits p k count f found le = record {
  taken = f.taken;
  begins = f.begins;
  within = f.within;
  known = f.known;
  are_bytes = f.are_bytes;
  found = found;
  held = λ s. let h = f.held s in record {
    reading = record { locked = h.reading.locked; long = h.reading.long; more = h.reading.more; ahead = h.reading.ahead };
    entry = le;
    keeps = h.keeps;
  };
  free = f.free;
}

pub found_none : (p : Place) (o : Option Known) → IfSome o (Fits p) → IfSome o (Fits (with_found p 0))
found_none p None f = f
found_none p (Some k) f = find_fits p k 0 f (inl refl) (omega arith)

begins_on : (xs ys : List ℕ) (e : Entry) (count : ℕ) → Begins xs e count → Begins (xs ++ ys) e count
begins_on xs ys e count b = record {
  form = b.form;
  rest = b.rest ++ ys;
  is_form = b.is_form;
  parts = ap (λ (x : List ℕ). x ++ ys) b.parts ∙ append_assoc b.form b.rest ys;
  counted = b.counted;
}

begins_here : (p : Place) (k : Known) (e : Entry) (count : ℕ) → Fits p k → p.state ≡ Held → Begins p.ahead e count
    → Begins (unread_bytes p k.bytes) e count
begins_here p k e count f s b =
    let r = (f.held s).reading in
    subst (λ (x : List ℕ). Begins x e count) (sym (unread_all p k.bytes r.long ∙ r.ahead)) (begins_on p.ahead r.more e count b)

pub found_one : (p : Place) (o : Option Known) (e : Entry) (count : ℕ) → IfSome o (Fits p) → p.state ≡ Held
    → Begins p.ahead e count → Stays e → IfSome o (Fits (with_found p count))
found_one p None e count f s b stays = f
found_one p (Some k) e count f s b stays =
    find_fits p k count f (inr (e, begins_here p k e count f s b, stays))
    (omega (arith, b.counted, ap length b.parts, length-append b.form b.rest))

pub shows_one : (begins : ℕ) (p : Place) (o : Option Known) (e : Entry) (count : ℕ) → IfSome o (Fits p) → p.state ≡ Held
    → Begins p.ahead e count → Stays e → WhereKnown (Shows (Some e)) (contents_of begins o p) (contents_of begins o p)
shows_one begins p None e count f s b stays = tt
shows_one begins p (Some k) e count f s b stays =
    let here = begins_here p k e count f s b in
    (sym (ap first (entries_first (unread_bytes p k.bytes) e count (unread_are_bytes p k f) here stays)), refl)

-- What begins with a mark begins with no entry that is none.
quiet_mark : (bytes : List ℕ) (m : Entry) (n : ℕ) → Begins bytes m n → m.operation ≡ Moved → IsQuiet bytes
quiet_mark bytes m n b moves e count x stays =
    let same = same_front bytes m e n count b x in
    stays (sym (ap (λ (r : Entry × List ℕ). r.0.operation) same) ∙ moves)

none_shown : (begins : ℕ) (p : Place) (k : Known) → Fits p k → IsQuiet (unread_bytes p k.bytes)
    → Shows None (contents_in begins p k.bytes) (contents_in begins p k.bytes)
none_shown begins p k f quiet = (sym (ap first (none_in (unread_bytes p k.bytes) (unread_are_bytes p k f) quiet)), refl)

pub shows_mark : (begins : ℕ) (p : Place) (o : Option Known) (count : ℕ) → IfSome o (Fits p) → p.state ≡ Held
    → BeginsWithMark p.ahead count → WhereKnown (Shows None) (contents_of begins o p) (contents_of begins o p)
shows_mark begins p None count f s m = tt
shows_mark begins p (Some k) count f s m =
    none_shown begins p k f (quiet_mark (unread_bytes p k.bytes) m.mark count (begins_here p k m.mark count f s m.begins) m.moves)

-- ---- what comes next

-- Looking for what stands at the position leaves a handle as it was.
pub front_fits : (p q : Place) (o m : Option Known) → IfSome o (Fits p) → ReadsOn (with_found p 0) q → m ≡ o
    → IfSome m (Reading q) → IfSome m (Fits q)
front_fits p q o m f reads same r =
    read_fits (with_found p 0) q m (found_none p m (subst (λ (x : Option Known). IfSome x (Fits p)) (sym same) f)) reads r

pub front_state : (p q : Place) → ReadsOn (with_found p 0) q → q.state ≡ p.state
front_state p q reads = ap (λ (x : Place). x.state) reads.is

pub front_contents : (p q : Place) (o m : Option Known) → ReadsOn (with_found p 0) q → m ≡ o → SameContents o p m q
front_contents p q o m reads same =
    contents_after o m p q same (ap (λ (x : Place). x.position) reads.is) (ap (λ (x : Place). x.file_length) reads.is)

-- What is shown of the contents after that is shown of those before.
pub shown_from : (found : Option Entry) (x y z : Option Contents) → WhereKnown (Shows found) y y → y ≡ x → z ≡ y
    → WhereKnown (Shows found) x z
shown_from found x y z shows a b =
    subst (λ (w : Option Contents). WhereKnown (Shows found) w z) a
    (subst (λ (w : Option Contents). WhereKnown (Shows found) y w) (sym b) shows)

-- ---- cutting off what is torn, or a mark

cut_parts : (p : Place) (k : Known) → Fits p k → p.state ≡ Held → MayBeCut p.ahead → left p ≤ length p.ahead
    → MayBeCut (drop p.position k.bytes)
cut_parts p k f s may all =
    let r = (f.held s).reading in
    let none : r.more ≡ [] = nothing r.more (omega (
      arith,
      all,
      r.long,
      f.within,
      ap length r.ahead,
      length-append p.ahead r.more,
      length-drop p.position k.bytes,
    )) in
    let is : drop p.position k.bytes ≡ p.ahead = r.ahead ∙ ap (λ (m : List ℕ). p.ahead ++ m) none ∙ append-nil p.ahead in
    subst (λ (b : List ℕ). MayBeCut b) (sym is) may

quiet_rest : (p : Place) (k : Known) → Fits p k → p.state ≡ Held → MayBeCut p.ahead → left p ≤ length p.ahead
    → IsQuiet (unread_bytes p k.bytes)
quiet_rest p k f s may all =
    subst (λ (b : List ℕ). IsQuiet b) (sym (unread_all p k.bytes (f.held s).reading.long))
    (quiet_cut (drop p.position k.bytes) (cut_parts p k f s may all))

pub may_cut : (p : Place) (o : Option Known) → IfSome o (Fits p) → p.state ≡ Held → MayBeCut p.ahead
    → left p ≤ length p.ahead → IfSome o (MayChangeFrom p.position)
may_cut p None f s may all = f
may_cut p (Some k) f s may all =
    let h = f.held s in
    record {
      locked = h.reading.locked;
      within = f.within;
      keeps = keeps_in_turn k.standing k.bytes (take p.position k.bytes) h.keeps
          (cut_keeps p.position f.taken k.bytes f.begins (cut_parts p k f s may all));
    }

-- a held place at which nothing is left, over bytes that end there
pub record IsEnd (p : Place) (position : ℕ) : Type 0 where
  pub at : p.position ≡ position
  pub all_read : p.file_length ≡ position
  pub none_ahead : length p.ahead ≡ 0
  pub none_found : p.found ≡ 0
  pub was_held : p.state ≡ Held

pub end_fits : (p : Place) (k : Known) (position : ℕ) (taken : List Entry) (synchronized : Bool) → IsEnd p position
    → BeginWith taken (take position k.bytes) k.bytes → AreBytes k.bytes → MayChangeFrom position k
    → Fits p (record k { bytes = take position k.bytes; synchronized = synchronized })
end_fits p k position taken synchronized is b are may =
    let bytes : List ℕ = take position k.bytes in
    let long : length bytes ≡ position = length-take-le position k.bytes may.within in
    let front : take p.position bytes ≡ bytes = take_all p.position bytes (omega (arith, long, is.at)) in
    let none : drop p.position bytes ≡ [] = nothing (drop p.position bytes) (omega (arith, long, is.at, length-drop p.position bytes)) in
    record {
      taken = taken;
      begins = subst (λ (x : List ℕ). BeginWith taken x bytes) (sym front)
          (before taken bytes k.bytes bytes [] b (sym (append-nil bytes)));
      within = omega (arith, long, is.at);
      known = omega (arith, is.at, is.all_read);
      are_bytes = bytes_take position k.bytes are;
      found = inl is.none_found;
      held = λ s. record {
        reading = record {
          locked = may.locked;
          long = omega (arith, long, is.all_read);
          more = [];
          ahead = none ∙ sym (append-nil p.ahead ∙ nothing p.ahead is.none_ahead);
        };
        entry = omega (arith, is.none_found);
        keeps = may.keeps;
      };
      free = λ s. absurd (held_not_free p.state is.was_held s);
    }

pub all_before : (n : ℕ) (bytes : List ℕ) → n ≤ length bytes → take n (take n bytes) ≡ take n bytes
all_before n bytes le = take_all n (take n bytes) (omega (arith, length-take-le n bytes le))

-- what is torn, or a mark, comes to nothing
cut_contents_in : (begins : ℕ) (p q : Place) (k : Known) → Fits p k → p.state ≡ Held → MayBeCut p.ahead → left p ≤ length p.ahead
    → q.position ≡ p.position → q.file_length ≡ p.position
    → contents_in begins q (take p.position k.bytes) ≡ contents_in begins p k.bytes
cut_contents_in begins p q k f s may all at long =
    let bytes : List ℕ = take p.position k.bytes in
    same_both begins (entries_in (drop HEADER_LENGTH (take q.position bytes))) (entries_in (drop HEADER_LENGTH bytes))
    (entries_in (unread_bytes q bytes)) (entries_in (unread_bytes p k.bytes))
    (ap (λ (n : ℕ). entries_in (drop HEADER_LENGTH (take n bytes))) at
    ∙ ap (λ (b : List ℕ). entries_in (drop HEADER_LENGTH b)) (all_before p.position k.bytes f.within))
    (none_known q bytes (long ∙ sym at)
    ∙ sym (none_in (unread_bytes p k.bytes) (unread_are_bytes p k f) (quiet_rest p k f s may all)))

pub cut_fits : (p : Place) (o m : Option Known) → IfSome o (Fits p) → p.state ≡ Held → MayBeCut p.ahead
    → left p ≤ length p.ahead → Becomes (CutsTo p.position) o m → IfSome m (Fits (cut p))
cut_fits p None None f s may all step = f
cut_fits p None (Some k) f s may all step = absurd step
cut_fits p (Some j) None f s may all step = absurd step
cut_fits p (Some j) (Some k) f s may all step =
    subst (λ (x : Known). Fits (cut p) x) (sym step)
    (end_fits (cut p) j p.position f.taken false
    (record { at = refl; all_read = refl; none_ahead = refl; none_found = refl; was_held = s })
    f.begins f.are_bytes (may_cut p (Some j) f s may all))

pub cut_contents : (p : Place) (o m : Option Known) → IfSome o (Fits p) → p.state ≡ Held → MayBeCut p.ahead
    → left p ≤ length p.ahead → Becomes (CutsTo p.position) o m → SameContents o p m (cut p)
cut_contents p None None f s may all step begins = refl
cut_contents p None (Some k) f s may all step begins = absurd step
cut_contents p (Some j) None f s may all step begins = absurd step
cut_contents p (Some j) (Some k) f s may all step begins =
    ap (λ (c : Contents). Some c)
    (ap (λ (x : Known). contents_in begins (cut p) x.bytes) step ∙ cut_contents_in begins p (cut p) j f s may all refl refl)

pub shows_none : (begins : ℕ) (p : Place) (o : Option Known) → IfSome o (Fits p) → p.state ≡ Held → MayBeCut p.ahead
    → left p ≤ length p.ahead → WhereKnown (Shows None) (contents_of begins o p) (contents_of begins o p)
shows_none begins p None f s may all = tt
shows_none begins p (Some k) f s may all = none_shown begins p k f (quiet_rest p k f s may all)

pub synchronized_fits : (p : Place) (o m : Option Known) → IfSome o (Fits p) → Becomes Synchronizes o m → IfSome m (Fits p)
synchronized_fits p None None f step = f
synchronized_fits p None (Some k) f step = absurd step
synchronized_fits p (Some j) None f step = absurd step
synchronized_fits p (Some j) (Some k) f step = subst (λ (x : Known). Fits p x) (sym step) (record {
  taken = f.taken;
  begins = f.begins;
  within = f.within;
  known = f.known;
  are_bytes = f.are_bytes;
  found = f.found;
  held = λ s. let h = f.held s in record {
    reading = record { locked = h.reading.locked; long = h.reading.long; more = h.reading.more; ahead = h.reading.ahead };
    entry = h.entry;
    keeps = h.keeps;
  };
  free = f.free;
})

pub synchronized_contents : (p : Place) (o m : Option Known) → Becomes Synchronizes o m → SameContents o p m p
synchronized_contents p None None step begins = refl
synchronized_contents p None (Some k) step begins = absurd step
synchronized_contents p (Some j) None step begins = absurd step
synchronized_contents p (Some j) (Some k) step begins = ap (λ (x : Known). Some (contents_in begins p x.bytes)) step

pub cut_sure : (b : Bool) (at : ℕ) (o m n : Option Known) → Becomes (CutsTo at) o m → Becomes Synchronizes m n
    → Becomes (SparesOrIsSafe b) o n
cut_sure b at None None None c s = tt
cut_sure b at None None (Some l) c s = absurd s
cut_sure b at None (Some k) n c s = absurd c
cut_sure b at (Some j) None n c s = absurd c
cut_sure b at (Some j) (Some k) None c s = absurd s
cut_sure b at (Some j) (Some k) (Some l) c s = inr (λ wanted. ap (λ (x : Known). x.synchronized) s)

pub same_sure : (b : Bool) (o : Option Known) → Becomes (SparesOrIsSafe b) o o
same_sure b None = tt
same_sure b (Some j) = inl refl

pub then_sure : (b : Bool) (o m n : Option Known) → m ≡ o → Becomes (SparesOrIsSafe b) m n → Becomes (SparesOrIsSafe b) o n
then_sure b o m n same sure = subst (λ (x : Option Known). Becomes (SparesOrIsSafe b) x n) same sure

-- ---- appending

-- what an append finds: the position is at the end, and nothing is read ahead or found
pub record AtEnd (p : Place) (k : Known) : Type 0 where
  pub ends : p.position ≡ length k.bytes
  pub none_ahead : length p.ahead ≡ 0
  pub none_found : p.found ≡ 0
  pub holding : Holding p k

at_end : (p : Place) (k : Known) → Fits p k → p.state ≡ Held → p.file_length ≡ p.position → AtEnd p k
at_end p k f s all =
    let h = f.held s in
    let r = h.reading in
    let none : length p.ahead ≡ 0 = omega (
      arith,
      all,
      r.long,
      f.within,
      ap length r.ahead,
      length-append p.ahead r.more,
      length-drop p.position k.bytes,
    ) in
    record {
      ends = omega (arith, all, r.long);
      none_ahead = none;
      none_found = omega (arith, none, h.entry);
      holding = h;
    }

appended_begins : (p : Place) (k : Known) (e : Entry) (form : List ℕ) → (f : Fits p k) → p.position ≡ length k.bytes
    → IsForm e form → Stays e → BeginWith (f.taken ++ e ∷ []) (k.bytes ++ form) (k.bytes ++ form)
appended_begins p k e form f ends is stays =
    let front : take p.position k.bytes ≡ k.bytes = take_all p.position k.bytes (omega (arith, ends)) in
    pushed f.taken (e ∷ []) k.bytes form k.bytes (k.bytes ++ form) []
    (subst (λ (b : List ℕ). BeginWith f.taken b k.bytes) front f.begins) (one_form e form is) (one_stays e stays)
    (sym (append-nil (k.bytes ++ form)))

-- a held place behind all bytes
whole_fits : (p : Place) (k : Known) (taken : List Entry) → IsEnd p (length k.bytes) → BeginWith taken k.bytes k.bytes
    → AreBytes k.bytes → k.locked ≡ true → Keeps k.standing k.bytes → Fits p k
whole_fits p k taken is b are locked keeps =
    let front : take p.position k.bytes ≡ k.bytes = take_all p.position k.bytes (omega (arith, is.at)) in
    let none : drop p.position k.bytes ≡ [] =
    nothing (drop p.position k.bytes) (omega (arith, is.at, length-drop p.position k.bytes)) in
    record {
      taken = taken;
      begins = subst (λ (x : List ℕ). BeginWith taken x k.bytes) (sym front) b;
      within = omega (arith, is.at);
      known = omega (arith, is.at, is.all_read);
      are_bytes = are;
      found = inl is.none_found;
      held = λ s. record {
        reading = record {
          locked = locked;
          long = is.all_read;
          more = [];
          ahead = none ∙ sym (append-nil p.ahead ∙ nothing p.ahead is.none_ahead);
        };
        entry = omega (arith, is.none_found);
        keeps = keeps;
      };
      free = λ s. absurd (held_not_free p.state is.was_held s);
    }

pub append_fits : (p : Place) (e : Entry) (form : List ℕ) (b : Bool) (o m : Option Known) → IfSome o (Fits p)
    → p.state ≡ Held → p.file_length ≡ p.position → IsForm e form → Stays e → Becomes (WritesAll p.position form b) o m
    → IfSome m (Fits (appended (length form) p))
append_fits p e form b None None f s all is stays step = f
append_fits p e form b None (Some k) f s all is stays step = absurd step
append_fits p e form b (Some j) None f s all is stays step = absurd step
append_fits p e form b (Some j) (Some k) f s all is stays step =
    let a = at_end p j f s all in
    let new : List ℕ = j.bytes ++ form in
    let bytes : written p.position form j.bytes ≡ new = written_end p.position j.bytes form a.ends in
    let known : k ≡ record j { bytes = new; synchronized = b } =
    step ∙ ap (λ (x : List ℕ). with_bytes j b x) bytes in
    let long : p.position + length form ≡ length new = omega (arith, a.ends, length-append j.bytes form) in
    subst (λ (x : Known). Fits (appended (length form) p) x) (sym known)
    (whole_fits (appended (length form) p) (record j { bytes = new; synchronized = b }) (f.taken ++ e ∷ [])
    (record { at = long; all_read = long; none_ahead = a.none_ahead; none_found = a.none_found; was_held = s })
    (appended_begins p j e form f a.ends is stays)
    (bytes_append j.bytes form f.are_bytes (all_bytes form (form_bytes e form is))) a.holding.reading.locked
    (keeps_in_turn j.standing j.bytes new a.holding.keeps (more_keeps j.bytes form)))

pub append_appends : (begins : ℕ) (p : Place) (e : Entry) (form : List ℕ) (b : Bool) (o m : Option Known) → IfSome o (Fits p)
    → p.state ≡ Held → p.file_length ≡ p.position → IsForm e form → Stays e → Becomes (WritesAll p.position form b) o m
    → WhereKnown (Appends e) (contents_of begins o p) (contents_of begins m (appended (length form) p))
append_appends begins p e form b None None f s all is stays step = tt
append_appends begins p e form b None (Some k) f s all is stays step = absurd step
append_appends begins p e form b (Some j) None f s all is stays step = absurd step
append_appends begins p e form b (Some j) (Some k) f s all is stays step =
    let a = at_end p j f s all in
    let q : Place = appended (length form) p in
    let new : List ℕ = j.bytes ++ form in
    let bytes : k.bytes ≡ new = ap (λ (x : Known). x.bytes) step ∙ written_end p.position j.bytes form a.ends in
    let long : p.position + length form ≡ length new = omega (arith, a.ends, length-append j.bytes form) in
    let front : take q.position k.bytes ≡ new =
    ap (λ (x : List ℕ). take q.position x) bytes ∙ take_all q.position new (omega (arith, long)) in
    record {
      none_unread = none_known p j.bytes all;
      begins = refl;
      taken = ap (λ (x : List ℕ). entries_in (drop HEADER_LENGTH x)) front
          ∙ taken_is (f.taken ++ e ∷ []) new new (appended_begins p j e form f a.ends is stays)
          ∙ ap (λ (xs : List Entry). xs ++ e ∷ []) (sym (taken_is f.taken (take p.position j.bytes) j.bytes f.begins));
      unread = none_known q k.bytes refl;
    }

pub left_of : (p : Place) (e : Entry) (form : List ℕ) (o m : Option Known) → IfSome o (Fits p)
    → p.state ≡ Held → p.file_length ≡ p.position → IsForm e form → Becomes (WritesSome p.position form) o m
    → IfSome m (Left p)
left_of p e form None None f s all is step = f
left_of p e form None (Some k) f s all is step = absurd step
left_of p e form (Some j) None f s all is step = absurd step
left_of p e form (Some j) (Some k) f s all is step =
    let a = at_end p j f s all in
    let some : List ℕ = take step.0 form in
    let new : List ℕ = j.bytes ++ some in
    let known : k ≡ record j { bytes = new; synchronized = false } =
    step.1 ∙ ap (λ (x : List ℕ). with_bytes j false x) (written_end p.position j.bytes some a.ends) in
    let front : take p.position new ≡ j.bytes = take_at j.bytes some p.position (sym a.ends) in
    let was : take p.position j.bytes ≡ j.bytes = take_all p.position j.bytes (omega (arith, a.ends)) in
    let begins : BeginWith f.taken j.bytes j.bytes = subst (λ (x : List ℕ). BeginWith f.taken x j.bytes) was f.begins in
    subst (λ (x : Known). Left p x) (sym known) (record {
      taken = f.taken;
      begins = subst (λ (x : List ℕ). BeginWith f.taken x new) (sym front) (before f.taken j.bytes j.bytes new some begins refl);
      may_change = record {
        locked = a.holding.reading.locked;
        within = omega (arith, a.ends, length-append j.bytes some);
        keeps = subst (λ (x : List ℕ). Keeps j.standing x) (sym front) a.holding.keeps;
      };
      are_bytes = bytes_append j.bytes some f.are_bytes
          (bytes_take step.0 form (all_bytes form (form_bytes e form is)));
      was_held = s;
      all_read = all;
      none_ahead = a.none_ahead;
      none_found = a.none_found;
    })

pub left_contents : (p : Place) (form : List ℕ) (o m : Option Known) → IfSome o (Fits p)
    → p.state ≡ Held → p.file_length ≡ p.position → Becomes (WritesSome p.position form) o m → SameContents o p m p
left_contents p form None None f s all step begins = refl
left_contents p form None (Some k) f s all step begins = absurd step
left_contents p form (Some j) None f s all step begins = absurd step
left_contents p form (Some j) (Some k) f s all step begins =
    let a = at_end p j f s all in
    let some : List ℕ = take step.0 form in
    let bytes : k.bytes ≡ j.bytes ++ some =
    ap (λ (x : Known). x.bytes) step.1 ∙ written_end p.position j.bytes some a.ends in
    ap (λ (c : Contents). Some c)
    (front_same begins p k.bytes j.bytes all
    (ap (λ (x : List ℕ). take p.position x) bytes ∙ take_at j.bytes some p.position (sym a.ends)
    ∙ sym (take_all p.position j.bytes (omega (arith, a.ends)))))
