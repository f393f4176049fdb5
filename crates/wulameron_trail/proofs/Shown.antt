-- What is shown of entries, put together.
use Rattle.std.proofs.Common.{◌≡◌, ◌≤◌, ℕ, List, [], ◌++◌, Option, Some, None, Result, Ok, Err, ControlFlow, Continue, Break, length, drop, refl, sym, ap, subst, ◌∙◌, append_assoc, append-nil}
use Rattle.std.specs.Io.KnownBytes.{Appends, Keeps}
use Rattle.std.proofs.KnownBytes.{Appends-nil, Appends-trans, Keeps-refl}
use Rattle.std.proofs.lemmas.List.{drop_at, drop-append-le}
use Rattle.iceoryx2_log.specs.declared.entry.Entry.{Entry}
use Rattle.iceoryx2_log.specs.Form.{IsForm, Begins}
use Rattle.negotiate_serve.specs.Outputs.{IsFrontOf, Writes}
use Rattle.negotiate_serve.specs.declared.ending.ServeError.{ServeError}
use Rattle.wulameron_trail.specs.declared.printing.Rest.{Rest}
use Rattle.wulameron_trail.specs.declared.stopping.ShowError.{ShowError}
use Rattle.wulameron_trail.specs.declared.stopping.ShowError.TheVariants as why
use Rattle.wulameron_trail.specs.declared.stopping.Stop.{Stop}
use Rattle.wulameron_trail.specs.declared.stopping.Stop.TheVariants as stop
use Rattle.wulameron_trail.specs.Stopping.{stop_of, IsOfReading}
use Rattle.wulameron_trail.specs.Showing.{AreShown, begun, goes, ShowsOne, shown, cut, unshown, IsWritten, IsEndBefore, ShowsRest, GoesOn, ShowsNext}
use Rattle.wulameron_trail.specs.Unread.{IsUnread}

kept_is_nothing : (a b : Option (List ℕ)) → Keeps a b → Appends a b []
kept_is_nothing None b kept = tt
kept_is_nothing (Some x) None kept = absurd kept
kept_is_nothing (Some x) (Some y) kept = kept ∙ sym (append-nil x)

module _ {P : Type 0} (Shows : P → Entry → List ℕ → P → Type 0) where
  -- ---- one after the other

  shown_then : (p q r : P) (a b s t : List ℕ) → AreShown Shows p a q s → AreShown Shows q b r t → AreShown Shows p (a ++ b) r (s ++ t)
  shown_then p q r a b s t first begun = subst (λ (l : List ℕ). AreShown Shows p l q (s ++ [])) (sym (append-nil a)) (subst (λ (l : List ℕ). AreShown Shows p a q l) (sym (append-nil s)) first)
  shown_then p q r a b s t first (goes {bytes = c} {text = u} {q = m} {r = n} e form line more is_form is) =
      subst (λ (l : List ℕ). AreShown Shows p l n (s ++ (u ++ line))) (append_assoc a c form)
      (subst (λ (l : List ℕ). AreShown Shows p ((a ++ c) ++ form) n l) (append_assoc s u line) (goes e form line (shown_then p q m a c s u first more) is_form is))

  shown_one : {p q : P} (e : Entry) (form line : List ℕ) → IsForm e form → Shows p e line q → AreShown Shows p form q line
  shown_one e form line is_form is = goes e form line begun is_form is

  -- ---- nothing was shown

  pub nothing_shown : (bytes : List ℕ) (p q : P) (r : Result Rest Stop) (before after : Option (List ℕ)) → IsWritten Shows r [] [] → IsEndBefore Shows r bytes p q → Keeps before after
      → ShowsRest Shows bytes p q r before after
  nothing_shown bytes p q r before after is ends kept = record {
    taken = [];
    left = bytes;
    text = [];
    written = [];
    reached = p;
    parts = refl;
    shown = begun;
    output = kept_is_nothing before after kept;
    is = is;
    ends = ends;
  }

  -- ---- an entry is shown

  was_shown : (e : Entry) (p q : P) (r : Result (Unit {0}) Stop) (before after : Option (List ℕ)) → ShowsOne Shows e p q r before after → r ≡ Ok tt
      → (line : List ℕ) × Shows p e line q × Appends before after line
  was_shown e p q r before after (shown line is ends output) same = (line, is, output)
  was_shown e p q r before after (cut f line front is ends of_line output) same = absurd (cc)
  was_shown e p q r before after (unshown w ends kept) same = absurd (cc)

  -- a text that was empty has become what is shown
  of_line : (text cleared line : List ℕ) → cleared ≡ [] → text ≡ cleared ++ line → text ≡ line
  of_line text cleared line none is = is ∙ ap (λ (l : List ℕ). l ++ line) none

  pub line_shown : (e : Entry) (p q : P) (text cleared : List ℕ) (before after : Option (List ℕ)) → cleared ≡ [] → (line : List ℕ) × Shows p e line q × (text ≡ cleared ++ line)
      → Writes text (Ok tt) before after → ShowsOne Shows e p q (Ok tt) before after
  line_shown e p q text cleared before after none made writes =
      shown made.0 made.1 refl (subst (Appends before after) (of_line text cleared made.0 none made.2) writes)

  pub line_cut : (e : Entry) (p q : P) (text cleared : List ℕ) (f : ServeError) (before after : Option (List ℕ)) → cleared ≡ []
      → (line : List ℕ) × Shows p e line q × (text ≡ cleared ++ line) → Writes text (Err f) before after → ShowsOne Shows e p q (Err (stop.Failed f)) before after
  line_cut e p q text cleared f before after none made writes =
      cut f made.0 writes.1 made.1 refl (subst (IsFrontOf writes.1) (of_line text cleared made.0 none made.2) writes.2) writes.3

  pub line_unmade : (e : Entry) (p q : P) (w : ShowError) (s : Stop) (before : Option (List ℕ)) → s ≡ stop_of w → ShowsOne Shows e p q (Err s) before before
  line_unmade e p q w s before is = unshown w (ap Err is) (Keeps-refl before)

  -- what is unread after the entry
  after_entry : (ahead : List ℕ) (left : Option (List ℕ)) (bytes : List ℕ) (e : Entry) (count : ℕ) → IsUnread ahead left bytes → (begins : Begins bytes e count)
      → count ≤ length ahead → IsUnread (drop count ahead) left begins.rest
  after_entry ahead left bytes e count unread begins within = record {
    rest = unread.rest;
    left_is = unread.left_is;
    parts = sym (drop_at begins.form begins.rest count (sym begins.counted)) ∙ ap (drop count) (sym begins.parts ∙ unread.parts) ∙ drop-append-le count ahead unread.rest within;
  }

  pub entry_shown : (ahead more : List ℕ) (left : Option (List ℕ)) (bytes : List ℕ) (e : Entry) (count : ℕ) (p q : P) (r : Result (Unit {0}) Stop) (before after : Option (List ℕ))
      → IsUnread ahead left bytes → Begins bytes e count → count ≤ length ahead → more ≡ drop count ahead → ShowsOne Shows e p q r before after → r ≡ Ok tt
      → GoesOn Shows bytes p q more left before after
  entry_shown ahead more left bytes e count p q r before after unread begins within is one ends =
      let line = was_shown e p q r before after one ends in record {
        entry = e;
        form = begins.form;
        line = line.0;
        rest = begins.rest;
        is_form = begins.is_form;
        parts = begins.parts;
        shown = line.1;
        output = line.2;
        unread = subst (λ (l : List ℕ). IsUnread l left begins.rest) (sym is) (after_entry ahead left bytes e count unread begins within);
      }

  cut_off : (bytes : List ℕ) (e : Entry) (count : ℕ) (p q : P) (f : ServeError) (line front : List ℕ) (before after : Option (List ℕ)) → Begins bytes e count → Shows p e line q
      → IsFrontOf front line → Appends before after front → ShowsRest Shows bytes p q (Err (stop.Failed f)) before after
  cut_off bytes e count p q f line front before after begins is of_line output = record {
    taken = begins.form;
    left = begins.rest;
    text = line;
    written = front;
    reached = q;
    parts = begins.parts;
    shown = shown_one e begins.form line begins.is_form is;
    output = output;
    is = of_line;
    ends = tt;
  }

  unshown_entry : (bytes : List ℕ) (e : Entry) (count : ℕ) (p q : P) (w : ShowError) (before after : Option (List ℕ)) → Begins bytes e count → Keeps before after
      → ShowsRest Shows bytes p q (Err (stop_of w)) before after
  unshown_entry bytes e count p q why.OutOfMemory before after begins kept = nothing_shown bytes p q _ before after ([], refl) tt kept
  unshown_entry bytes e count p q why.NotAnswered before after begins kept = nothing_shown bytes p q _ before after refl (e, count, begins) kept

  pub entry_stops : (bytes : List ℕ) (e : Entry) (count : ℕ) (p q : P) (r : Result (Unit {0}) Stop) (s : Stop) (before after : Option (List ℕ)) → Begins bytes e count
      → ShowsOne Shows e p q r before after → r ≡ Err s → ShowsRest Shows bytes p q (Err s) before after
  entry_stops bytes e count p q r s before after begins (shown line is ends output) same = absurd (cc)
  entry_stops bytes e count p q r s before after begins (cut f line front is ends of_line output) same =
      let e2 : stop.Failed f ≡ s = cc in
      subst (λ (x : Stop). ShowsRest Shows bytes p q (Err x) before after) e2 (cut_off bytes e count p q f line front before after begins is of_line output)
  entry_stops bytes e count p q r s before after begins (unshown w ends kept) same =
      let e2 : stop_of w ≡ s = cc in
      subst (λ (x : Stop). ShowsRest Shows bytes p q (Err x) before after) e2 (unshown_entry bytes e count p q w before after begins kept)

  -- ---- what was shown so far

  -- These bytes are left, and what was shown of those before them was written.
  pub record SoFar (bytes : List ℕ) (p now : P) (ahead : List ℕ) (left before after : Option (List ℕ)) : Type 0 where
    pub taken : List ℕ
    pub text : List ℕ
    pub remaining : List ℕ
    pub parts : bytes ≡ taken ++ remaining
    pub shown : AreShown Shows p taken now text
    pub output : Appends before after text
    pub unread : IsUnread ahead left remaining

  pub nothing_yet : (bytes : List ℕ) (p : P) (ahead : List ℕ) (left before : Option (List ℕ)) → ahead ≡ [] → left ≡ Some bytes → SoFar bytes p p ahead left before before
  nothing_yet bytes p ahead left before none is = record {
    taken = [];
    text = [];
    remaining = bytes;
    parts = refl;
    shown = begun;
    output = Appends-nil before;
    unread = record { rest = bytes; left_is = is; parts = ap (λ (l : List ℕ). l ++ bytes) (sym none) };
  }

  pub one_more : (bytes : List ℕ) (p q r : P) (ahead more : List ℕ) (left next before mid after : Option (List ℕ)) → (a : SoFar bytes p q ahead left before mid)
      → GoesOn Shows a.remaining q r more next mid after → SoFar bytes p r more next before after
  one_more bytes p q r ahead more left next before mid after a on = record {
    taken = a.taken ++ on.form;
    text = a.text ++ on.line;
    remaining = on.rest;
    parts = a.parts ∙ ap (λ (l : List ℕ). a.taken ++ l) on.parts ∙ sym (append_assoc a.taken on.form on.rest);
    shown = goes on.entry on.form on.line a.shown on.is_form on.shown;
    output = Appends-trans before mid after a.text on.line a.output on.output;
    unread = on.unread;
  }

  written_then : (result : Result Rest Stop) (s w t : List ℕ) → IsWritten Shows result w t → IsWritten Shows result (s ++ w) (s ++ t)
  written_then (Err (stop.Failed f)) s w t is = (is.0, ap (λ (l : List ℕ). s ++ l) is.1 ∙ sym (append_assoc s w is.0))
  written_then (Err stop.Damaged) s w t is = ap (λ (l : List ℕ). s ++ l) is
  written_then (Err stop.NotAnswered) s w t is = ap (λ (l : List ℕ). s ++ l) is
  written_then (Err (stop.Refused f)) s w t is = ap (λ (l : List ℕ). s ++ l) is
  written_then (Ok x) s w t is = ap (λ (l : List ℕ). s ++ l) is

  pub it_ends : (bytes : List ℕ) (p q r : P) (result : Result Rest Stop) (ahead : List ℕ) (left before mid after : Option (List ℕ)) → (a : SoFar bytes p q ahead left before mid)
      → ShowsRest Shows a.remaining q r result mid after → ShowsRest Shows bytes p r result before after
  it_ends bytes p q r result ahead left before mid after a end = record {
    taken = a.taken ++ end.taken;
    left = end.left;
    text = a.text ++ end.text;
    written = a.text ++ end.written;
    reached = end.reached;
    parts = a.parts ∙ ap (λ (l : List ℕ). a.taken ++ l) end.parts ∙ sym (append_assoc a.taken end.taken end.left);
    shown = shown_then p q end.reached a.taken end.taken a.text end.text a.shown end.shown;
    output = Appends-trans before mid after a.text end.written a.output end.output;
    is = written_then result a.text end.written end.text end.is;
    ends = end.ends;
  }

  -- reading stops it where this is unread
  pub reading_stops : (bytes : List ℕ) (p : P) (s : Stop) (before : Option (List ℕ)) → IsOfReading s → ShowsRest Shows bytes p p (Err s) before before
  reading_stops bytes p stop.Damaged before is = absurd is
  reading_stops bytes p stop.NotAnswered before is = absurd is
  reading_stops bytes p (stop.Refused f) before is = nothing_shown bytes p p _ before before refl tt (Keeps-refl before)
  reading_stops bytes p (stop.Failed f) before is = nothing_shown bytes p p _ before before ([], refl) tt (Keeps-refl before)

  -- ---- a turn

  pub turn_goes_on : (bytes : List ℕ) (p q r : P) (ahead more : List ℕ) (left next before mid after : Option (List ℕ)) (t : ControlFlow Rest ℕ) (n : ℕ) → (a : SoFar bytes p q ahead left before mid)
      → t ≡ Continue n → ShowsNext Shows a.remaining q r (Ok t) more next mid after → SoFar bytes p r more next before after
  turn_goes_on bytes p q r ahead more left next before mid after t n a is turn =
      one_more bytes p q r ahead more left next before mid after a (subst (λ (x : ControlFlow Rest ℕ). ShowsNext Shows a.remaining q r (Ok x) more next mid after) is turn)

  pub turn_ends : (bytes : List ℕ) (p q r : P) (ahead more : List ℕ) (left next before mid after : Option (List ℕ)) (t : ControlFlow Rest ℕ) (x : Rest) → (a : SoFar bytes p q ahead left before mid)
      → t ≡ Break x → ShowsNext Shows a.remaining q r (Ok t) more next mid after → ShowsRest Shows bytes p r (Ok x) before after
  turn_ends bytes p q r ahead more left next before mid after t x a is turn =
      it_ends bytes p q r (Ok x) ahead left before mid after a (subst (λ (y : ControlFlow Rest ℕ). ShowsNext Shows a.remaining q r (Ok y) more next mid after) is turn)
