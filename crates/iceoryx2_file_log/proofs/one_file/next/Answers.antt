use Rattle.std.proofs.Common.{◌≡◌, true, false, Some, None, subst, sym, ap, ◌∙◌, refl, inl}
use Rattle.std.specs.Prelude.{IfSome, Option}
use Rattle.iceoryx2_file_log.specs.declared.cursor.State.TheVariants as state
use Rattle.iceoryx2_file_log.specs.declared.remainder.Front.{Front}
use Rattle.iceoryx2_file_log.specs.Handle.{IsFront, ReadsOn}
use Rattle.iceoryx2_file_log.specs.Place.{Place}
use Rattle.iceoryx2_file_log.specs.Medium.{Known}
use Rattle.iceoryx2_file_log.specs.OneFile.{Fits, contents_of}
use Rattle.iceoryx2_file_log.proofs.Positions.{is_held, front_fits, front_state, front_contents, shown_from}
use Rattle.iceoryx2_file_log.proofs.Positions.{found_one, shows_one, shows_mark, shows_none, contents_same}
use Rattle.iceoryx2_file_log.proofs.one_file.next.Goals as goal

pub returns-then-is_mark-clause-reads : goal.returns-then-is_mark-clause-reads
returns-then-is_mark-clause-reads g c begins =
    let o : Option Known = g.M.Medium.known c.args.medium.now in
    let m : Option Known = g.M.Medium.known c.front_at.new.medium in
    let p : Place = c.args.cursor.now in
    let q : Place = c.front_at.new.cursor in
    let e = c.in_ok-entry.ensures in
    let reads = subst (λ (x : Place). ReadsOn x q) c.find.ensures e.reads in
    let was : p.state ≡ state.Held = sym (ap (λ (x : Place). x.state) c.find.ensures)
    ∙ is_held c.find.new.self.state (sym c.why_not_held.ensures.why ∙ c.in_default.is) in
    let front = subst (λ (f : Front). IsFront f q) c.in-Whole.is e.front in
    shown_from None (contents_of begins o p) (contents_of begins m q) (contents_of begins m q)
    (shows_mark begins q m c.in-Whole.count (front_fits p q o m c.requires reads e.same e.reading) (front_state p q reads ∙ was)
    (record { mark = c.in-Whole.entry; moves = c.if-is_mark.ensures.0 refl; begins = front }))
    (front_contents p q o m reads e.same begins) refl

pub returns-else-is_across_end-clause-fits : goal.returns-else-is_across_end-clause-fits
returns-else-is_across_end-clause-fits g c =
    let o : Option Known = g.M.Medium.known c.args.medium.now in
    let m : Option Known = g.M.Medium.known c.front_at.new.medium in
    let p : Place = c.args.cursor.now in
    let q : Place = c.front_at.new.cursor in
    let e = c.in_ok-entry.ensures in
    let reads = subst (λ (x : Place). ReadsOn x q) c.find.ensures e.reads in
    let was : p.state ≡ state.Held = sym (ap (λ (x : Place). x.state) c.find.ensures)
    ∙ is_held c.find.new.self.state (sym c.why_not_held.ensures.why ∙ c.in_default.is) in
    let front = subst (λ (f : Front). IsFront f q) c.in-Whole.is e.front in
    subst (λ (x : Place). IfSome m (Fits x)) (sym c.find-in-Whole.ensures)
    (found_one q m c.in-Whole.entry c.in-Whole.count (front_fits p q o m c.requires reads e.same e.reading)
    (front_state p q reads ∙ was) front
    (λ moved. let no : false ≡ true = c.if-is_mark.ensures.1 moved in absurd cc))

pub returns-else-is_across_end-clause-reads : goal.returns-else-is_across_end-clause-reads
returns-else-is_across_end-clause-reads g c begins =
    let o : Option Known = g.M.Medium.known c.args.medium.now in
    let m : Option Known = g.M.Medium.known c.front_at.new.medium in
    let p : Place = c.args.cursor.now in
    let q : Place = c.front_at.new.cursor in
    let r : Place = c.find-in-Whole.new.self in
    let e = c.in_ok-entry.ensures in
    let reads = subst (λ (x : Place). ReadsOn x q) c.find.ensures e.reads in
    let was : p.state ≡ state.Held = sym (ap (λ (x : Place). x.state) c.find.ensures)
    ∙ is_held c.find.new.self.state (sym c.why_not_held.ensures.why ∙ c.in_default.is) in
    let front = subst (λ (f : Front). IsFront f q) c.in-Whole.is e.front in
    shown_from (Some c.in-Whole.entry) (contents_of begins o p) (contents_of begins m q) (contents_of begins m r)
    (shows_one begins q m c.in-Whole.entry c.in-Whole.count (front_fits p q o m c.requires reads e.same e.reading)
    (front_state p q reads ∙ was) front
    (λ moved. let no : false ≡ true = c.if-is_mark.ensures.1 moved in absurd cc))
    (front_contents p q o m reads e.same begins)
    (contents_same m q r (ap (λ (x : Place). x.position) c.find-in-Whole.ensures)
    (ap (λ (x : Place). x.file_length) c.find-in-Whole.ensures) begins)

pub returns-in_ok-cut_end-in-Torn-clause-reads : goal.returns-in_ok-cut_end-in-Torn-clause-reads
returns-in_ok-cut_end-in-Torn-clause-reads g c begins =
    let o : Option Known = g.M.Medium.known c.args.medium.now in
    let m : Option Known = g.M.Medium.known c.front_at.new.medium in
    let p : Place = c.args.cursor.now in
    let q : Place = c.front_at.new.cursor in
    let e = c.in_ok-entry.ensures in
    let reads = subst (λ (x : Place). ReadsOn x q) c.find.ensures e.reads in
    let was : p.state ≡ state.Held = sym (ap (λ (x : Place). x.state) c.find.ensures)
    ∙ is_held c.find.new.self.state (sym c.why_not_held.ensures.why ∙ c.in_default.is) in
    let front = subst (λ (f : Front). IsFront f q) c.in-Torn.is e.front in
    shown_from None (contents_of begins o p) (contents_of begins m q)
    (contents_of begins (g.M.Medium.known c.cut_end.new.medium) c.cut_end.new.cursor)
    (shows_none begins q m (front_fits p q o m c.requires reads e.same e.reading) (front_state p q reads ∙ was) (inl front.0) front.1)
    (front_contents p q o m reads e.same begins) (c.cut_end.ensures.same begins)
