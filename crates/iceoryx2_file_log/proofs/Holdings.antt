-- What is true of a handle in its file after an append is taken back, and while it is held, let go of and made.
use Rattle.std.proofs.Common.{◌≡◌, ℕ, ◌+◌, ◌<◌, ◌≤◌, Bool, false, List, [], ◌++◌, length, take, drop}
use Rattle.std.proofs.Common.{Option, Some, None, refl, sym, ap, subst, ◌∙◌, append_assoc, length-append, take-append-drop, arith, inl, inr}
use Rattle.std.specs.Prelude.{All, IfSome}
use Rattle.std.proofs.lemmas.List.{append-nil, length-take-le, take_at, drop_at}
use Rattle.std.proofs.lemmas.List.Elements.{All-nil}
use Rattle.iceoryx2_log.specs.declared.entry.Entry.{Entry}
use Rattle.iceoryx2_log.specs.Log.{Contents, WhereKnown, Grows}
use Rattle.iceoryx2_file_log.specs.declared.error.FileFault.{FileFault}
use Rattle.iceoryx2_file_log.specs.declared.error.FileFault.TheVariants as fault
use Rattle.iceoryx2_file_log.specs.declared.cursor.State.{State}
use Rattle.iceoryx2_file_log.specs.declared.cursor.State.TheVariants.{Free, Held, Unsure, Damaged}
use Rattle.iceoryx2_file_log.specs.declared.header.TheConstants.{HEADER_LENGTH}
use Rattle.iceoryx2_file_log.specs.Place.{Place, start, held, cut, let_go_of}
use Rattle.iceoryx2_file_log.specs.Place.{state_after}
use Rattle.iceoryx2_file_log.specs.Handle.{HasLock}
use Rattle.iceoryx2_file_log.specs.Medium.{Known, AreBytes, BeginWith, Becomes, Keeps, Grants, Unlocks}
use Rattle.iceoryx2_file_log.specs.Medium.{CutsTo}
use Rattle.iceoryx2_file_log.specs.Bytes.{CutsAll, CutsOrStays}
use Rattle.iceoryx2_file_log.specs.Entries.{entries_in}
use Rattle.iceoryx2_file_log.specs.OneFile.{Fits, Left, contents_in, contents_of, unread_bytes, refused}
use Rattle.iceoryx2_file_log.specs.OneFile.{SameContents, KnowsLock, lock_of}
use Rattle.iceoryx2_data.proofs.PartForms.{some_is}
use Rattle.iceoryx2_file_log.proofs.ByteSteps.{nothing}
use Rattle.iceoryx2_file_log.proofs.Keeping.{before, keeps_alone}
use Rattle.iceoryx2_file_log.proofs.Decoded.{Stays, bytes_behind, bytes_take}
use Rattle.iceoryx2_file_log.proofs.Decoded.{entries_both, stands_in}
use Rattle.iceoryx2_file_log.proofs.Positions.{within_known, parted, unread_all, pushed, front_same, was_held, never_held, unread_are_bytes, end_fits, all_before}

-- ---- taking back

pub back_fits : (p : Place) (b : Bool) (o m : Option Known) → IfSome o (Left p) → Becomes (CutsAll p.position b) o m
    → IfSome m (Fits p)
back_fits p b None None f step = f
back_fits p b None (Some k) f step = absurd step
back_fits p b (Some j) None f step = absurd step
back_fits p b (Some j) (Some k) f step =
    subst (λ (x : Known). Fits p x) (sym step)
    (end_fits p j p.position f.taken b
    (record { at = refl; all_read = f.all_read; none_ahead = f.none_ahead; none_found = f.none_found; was_held = f.was_held })
    f.begins f.are_bytes f.may_change)

pub back_contents : (p : Place) (b : Bool) (o m : Option Known) → IfSome o (Left p) → Becomes (CutsAll p.position b) o m
    → SameContents o p m p
back_contents p b None None f step begins = refl
back_contents p b None (Some k) f step begins = absurd step
back_contents p b (Some j) None f step begins = absurd step
back_contents p b (Some j) (Some k) f step begins =
    ap (λ (c : Contents). Some c)
    (front_same begins p k.bytes j.bytes f.all_read
    (ap (λ (x : Known). take p.position x.bytes) step ∙ all_before p.position j.bytes f.may_change.within))

left_doubted : (p : Place) (k : Known) → Left p k → Fits (refused fault.Unsure p) k
left_doubted p k l = record {
  taken = l.taken;
  begins = l.begins;
  within = l.may_change.within;
  known = omega (arith, l.all_read);
  are_bytes = l.are_bytes;
  found = inl l.none_found;
  held = λ s. absurd cc;
  free = λ s. absurd cc;
}

left_cut : (p : Place) (j k : Known) → Left p j → CutsTo p.position j k → Left p k
left_cut p j k l step =
    let bytes : List ℕ = take p.position j.bytes in
    let same : take p.position bytes ≡ bytes = all_before p.position j.bytes l.may_change.within in
    subst (λ (x : Known). Left p x) (sym step) (record {
      taken = l.taken;
      begins = subst (λ (x : List ℕ). BeginWith l.taken x bytes) (sym same)
          (before l.taken bytes j.bytes bytes [] l.begins (sym (append-nil bytes)));
      may_change = record {
        locked = l.may_change.locked;
        within = omega (arith, l.may_change.within, length-take-le p.position j.bytes l.may_change.within);
        keeps = subst (λ (x : List ℕ). Keeps j.standing x) (sym same) l.may_change.keeps;
      };
      are_bytes = bytes_take p.position j.bytes l.are_bytes;
      was_held = l.was_held;
      all_read = l.all_read;
      none_ahead = l.none_ahead;
      none_found = l.none_found;
    })

doubted : (p : Place) (j k : Known) → Left p j → CutsOrStays p.position j k → Fits (refused fault.Unsure p) k
doubted p j k l (inl same) = subst (λ (x : Known). Fits (refused fault.Unsure p) x) (sym same) (left_doubted p j l)
doubted p j k l (inr step) = left_doubted p k (left_cut p j k l step)

-- Where nobody knows whether it was taken back, the handle is used no more.
pub doubt_fits : (p : Place) (o m : Option Known) → IfSome o (Left p) → Becomes (CutsOrStays p.position) o m
    → IfSome m (Fits (refused fault.Unsure p))
doubt_fits p None None l step = l
doubt_fits p None (Some k) l step = absurd step
doubt_fits p (Some j) None l step = absurd step
doubt_fits p (Some j) (Some k) l step = doubted p j k l step

front_after : (p : Place) (j k : Known) → Left p j → CutsOrStays p.position j k → take p.position k.bytes ≡ take p.position j.bytes
front_after p j k l (inl same) = ap (λ (x : Known). take p.position x.bytes) same
front_after p j k l (inr step) =
    ap (λ (x : Known). take p.position x.bytes) step ∙ all_before p.position j.bytes l.may_change.within

pub doubt_contents : (p : Place) (o m : Option Known) → IfSome o (Left p) → Becomes (CutsOrStays p.position) o m
    → SameContents o p m p
doubt_contents p None None l step begins = refl
doubt_contents p None (Some k) l step begins = absurd step
doubt_contents p (Some j) None l step begins = absurd step
doubt_contents p (Some j) (Some k) l step begins =
    ap (λ (c : Contents). Some c) (front_same begins p k.bytes j.bytes l.all_read (front_after p j k l step))

-- ---- holding

shortens : (p : Place) (j k : Known) (count : ℕ) → Fits p j → Grants count j k → count < p.position → ⊥
shortens p j k count f g lt =
    let m = g.keeps f.taken (take p.position j.bytes) f.begins in
    omega (arith, lt, g.counted, ap length m.parts, length-append (take p.position j.bytes) m.rest, length-take-le p.position j.bytes f.within)

-- Where the bytes are known they are never shorter than what was taken over.
pub never_shorter : (p : Place) (count : ℕ) (o m : Option Known) → IfSome o (Fits p) → Becomes (Grants count) o m
    → count < p.position → o ≡ None
never_shorter p count None m f g lt = refl
never_shorter p count (Some j) None f g lt = absurd g
never_shorter p count (Some j) (Some k) f g lt = absurd (shortens p j k count f g lt)

pub none_after : (step : Known → Known → Type 0) (o m : Option Known) → Becomes step o m → o ≡ None → m ≡ None
none_after step None None b e = refl
none_after step None (Some k) b e = absurd b
none_after step (Some j) None b e = absurd b
none_after step (Some j) (Some k) b e = absurd cc

pub none_fits : (p : Place) (o : Option Known) → o ≡ None → IfSome o (Fits p)
none_fits p None e = tt
none_fits p (Some k) e = absurd cc

pub free_is_free : (p : Place) (o : Option Known) → IfSome o (Fits p) → p.state ≡ Free → IfSome o (λ k. k.locked ≡ false)
free_is_free p None f s = tt
free_is_free p (Some k) f s = f.free s

front_again : (p : Place) (j k : Known) → Fits p j → (b : List Entry) → (m : BeginWith b (take p.position j.bytes) k.bytes)
    → take p.position k.bytes ≡ take p.position j.bytes
front_again p j k f b m =
    ap (λ (x : List ℕ). take p.position x) m.parts
    ∙ take_at (take p.position j.bytes) m.rest p.position (length-take-le p.position j.bytes f.within)

pub held_fits : (p : Place) (count : ℕ) (o m : Option Known) → IfSome o (Fits p) → Becomes (Grants count) o m
    → p.position ≤ count → IfSome m (Fits (held count p))
held_fits p count None None f g le = f
held_fits p count None (Some k) f g le = absurd g
held_fits p count (Some j) None f g le = absurd g
held_fits p count (Some j) (Some k) f g le =
    let m = g.keeps f.taken (take p.position j.bytes) f.begins in
    record {
      taken = f.taken;
      begins = subst (λ (b : List ℕ). BeginWith f.taken b k.bytes) (sym (front_again p j k f f.taken m)) m;
      within = omega (arith, le, g.counted);
      known = le;
      are_bytes = g.are_bytes;
      found = inl refl;
      held = λ s. record {
        reading = record { locked = g.locked; long = g.counted; more = drop p.position k.bytes; ahead = refl };
        entry = omega arith;
        keeps = subst (λ (b : List ℕ). Keeps b k.bytes) (sym g.standing) (keeps_alone k.bytes);
      };
      free = λ s. absurd cc;
    }

-- All that was unread stands, and others' entries behind it.
grown : (begins : ℕ) (p : Place) (count : ℕ) (j k : Known) → Fits p j → Grants count j k
    → Grows (contents_in begins p j.bytes) (contents_in begins (held count p) k.bytes)
grown begins p count j k f g =
    let front : List ℕ = take p.position j.bytes in
    let rest : List ℕ = unread_bytes p j.bytes in
    let beyond : List ℕ = drop p.file_length j.bytes in
    let st = stands_in rest (unread_are_bytes p j f) in
    let tail : drop p.position j.bytes ≡ st.forms ++ (st.rest ++ beyond) =
    parted p j.bytes (within_known p.position p.file_length j.bytes f.known f.within)
    ∙ ap (λ (b : List ℕ). b ++ beyond) st.parts ∙ append_assoc st.forms st.rest beyond in
    let parts : j.bytes ≡ (front ++ st.forms) ++ (st.rest ++ beyond) =
    sym (take-append-drop p.position j.bytes) ∙ ap (λ (b : List ℕ). front ++ b) tail
    ∙ sym (append_assoc front st.forms (st.rest ++ beyond)) in
    let m = g.keeps (f.taken ++ entries_in rest) (front ++ st.forms)
    (pushed f.taken (entries_in rest) front st.forms j.bytes j.bytes (st.rest ++ beyond) f.begins st.are_forms st.no_marks parts) in
    let new : k.bytes ≡ front ++ (st.forms ++ m.rest) = m.parts ∙ append_assoc front st.forms m.rest in
    let long : length front ≡ p.position = length-take-le p.position j.bytes f.within in
    let taken : take p.position k.bytes ≡ front =
    ap (λ (b : List ℕ). take p.position b) new ∙ take_at front (st.forms ++ m.rest) p.position long in
    let behind : unread_bytes (held count p) k.bytes ≡ st.forms ++ m.rest =
    unread_all (held count p) k.bytes g.counted
    ∙ ap (λ (b : List ℕ). drop p.position b) new ∙ drop_at front (st.forms ++ m.rest) p.position long in
    let are : AreBytes m.rest = bytes_behind (front ++ st.forms) m.rest (subst (λ (b : List ℕ). AreBytes b) m.parts g.are_bytes) in
    record {
      come = entries_in m.rest;
      begins = refl;
      taken = ap (λ (b : List ℕ). entries_in (drop HEADER_LENGTH b)) taken;
      unread = ap (λ (b : List ℕ). entries_in b) behind
          ∙ entries_both (entries_in rest) st.forms m.rest st.no_marks st.are_forms are;
    }

pub held_grows : (begins : ℕ) (p : Place) (count : ℕ) (o m : Option Known) → IfSome o (Fits p) → Becomes (Grants count) o m
    → WhereKnown Grows (contents_of begins o p) (contents_of begins m (held count p))
held_grows begins p count None None f g = tt
held_grows begins p count None (Some k) f g = absurd g
held_grows begins p count (Some j) None f g = absurd g
held_grows begins p count (Some j) (Some k) f g = grown begins p count j k f g

-- ---- letting go

pub freed_fits : (p : Place) (o m : Option Known) → IfSome o (Fits p) → Becomes Unlocks o m → IfSome m (Fits (let_go_of p))
freed_fits p None None f step = f
freed_fits p None (Some k) f step = absurd step
freed_fits p (Some j) None f step = absurd step
freed_fits p (Some j) (Some k) f step = subst (λ (x : Known). Fits (let_go_of p) x) (sym step) (record {
  taken = f.taken;
  begins = f.begins;
  within = f.within;
  known = f.known;
  are_bytes = f.are_bytes;
  found = inl refl;
  held = λ s. absurd (never_held p.state s);
  free = λ s. refl;
})

pub freed_contents : (p : Place) (o m : Option Known) → Becomes Unlocks o m → SameContents o p m (let_go_of p)
freed_contents p None None step begins = refl
freed_contents p None (Some k) step begins = absurd step
freed_contents p (Some j) None step begins = absurd step
freed_contents p (Some j) (Some k) step begins = ap (λ (x : Known). Some (contents_in begins p x.bytes)) step

pub ends_there : (p q : Place) (o : Option Known) → IfSome o (Fits q) → p.state ≡ Held → q ≡ cut p
    → IfSome o (λ k. q.position ≡ length k.bytes)
ends_there p q None f s is = f
ends_there p q (Some k) f s is =
    let h = f.held (ap (λ (x : Place). x.state) is ∙ s) in
    omega (arith, h.reading.long, ap (λ (x : Place). x.position) is, ap (λ (x : Place). x.file_length) is)

-- ---- a handle as a whole

pub refused_lock : (why : FileFault) (s : State) (b : Bool) → HasLock s b → HasLock (state_after why s) b
refused_lock (fault.Damaged at) s b has = tt
refused_lock fault.Unsure s b has = tt
refused_lock other s b has = has

lock_of_some : (j k : Known) → lock_of (Some k) ≡ lock_of (Some j) → k.locked ≡ j.locked
lock_of_some j k same = some_is k.locked j.locked same

pub lock_kept : (b : Bool) (o m : Option Known) → lock_of m ≡ lock_of o → IfSome o (KnowsLock b) → IfSome m (KnowsLock b)
lock_kept b None None same knows = knows
lock_kept b None (Some k) same knows = absurd cc
lock_kept b (Some j) None same knows = absurd cc
lock_kept b (Some j) (Some k) same knows = lock_of_some j k same ∙ knows

-- A handle that has taken nothing over stands behind the header.
new_fits : (k : Known) → k.locked ≡ false → AreBytes k.bytes → HEADER_LENGTH ≤ length k.bytes → Fits (start HEADER_LENGTH) k
new_fits k free are long =
    let header : List ℕ = take HEADER_LENGTH k.bytes in
    record {
      taken = [];
      begins = record {
        header = header;
        forms = [];
        rest = drop HEADER_LENGTH k.bytes;
        is_long = length-take-le HEADER_LENGTH k.bytes long;
        are_forms = refl;
        no_marks = All-nil Stays;
        is_front = sym (append-nil header);
        parts = sym (take-append-drop HEADER_LENGTH k.bytes);
      };
      within = long;
      known = omega arith;
      are_bytes = are;
      found = inl refl;
      held = λ s. absurd cc;
      free = λ s. free;
    }

pub start_fits : (o : Option Known) → IfSome o (λ k. k.locked ≡ false) → IfSome o (λ k. AreBytes k.bytes)
    → IfSome o (λ k. HEADER_LENGTH ≤ length k.bytes) → IfSome o (Fits (start HEADER_LENGTH))
start_fits None free are long = free
start_fits (Some k) free are long = new_fits k free are long
