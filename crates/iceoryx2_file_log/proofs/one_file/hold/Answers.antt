use Rattle.std.proofs.Common.{◌≡◌, ℕ, None, subst, sym, ap, ◌∙◌, arith}
use Rattle.std.specs.Prelude.{IfSome, Option}
use Rattle.iceoryx2_log.specs.Log.{WhereKnown, Grows}
use Rattle.iceoryx2_file_log.specs.Place.{Place}
use Rattle.iceoryx2_file_log.specs.Medium.{Known, Grants, Unlocks}
use Rattle.iceoryx2_file_log.specs.OneFile.{Fits, contents_of}
use Rattle.iceoryx2_file_log.proofs.Holdings.{never_shorter, none_after, none_fits, held_fits, held_grows}
use Rattle.iceoryx2_file_log.proofs.one_file.hold.Goals as goal

pub returns-clause-fits : goal.returns-clause-fits
returns-clause-fits g c =
    let o : Option Known = g.M.Medium.known c.args.medium.now in
    let m : Option Known = g.M.Medium.known c.lock.new.medium in
    let p : Place = c.args.cursor.now in
    let n : ℕ = c.in_ok-file_length.file_length in
    subst (λ (q : Place). IfSome m (Fits q)) (sym c.hold.ensures)
    (held_fits p n o m c.requires c.in_ok-file_length.ensures.ok (omega (arith, c.if-file_length-position.false, c.position.ensures)))

pub returns-clause-grows : goal.returns-clause-grows
returns-clause-grows g c begins =
    let o : Option Known = g.M.Medium.known c.args.medium.now in
    let m : Option Known = g.M.Medium.known c.lock.new.medium in
    let p : Place = c.args.cursor.now in
    let n : ℕ = c.in_ok-file_length.file_length in
    subst (λ (q : Place). WhereKnown Grows (contents_of begins o p) (contents_of begins m q)) (sym c.hold.ensures)
    (held_grows begins p n o m c.requires c.in_ok-file_length.ensures.ok)

pub returns-then-file_length-position-clause-fits :
    goal.returns-then-file_length-position-clause-fits
returns-then-file_length-position-clause-fits g c =
    let o : Option Known = g.M.Medium.known c.args.medium.now in
    let m : Option Known = g.M.Medium.known c.lock.new.medium in
    let u : Option Known = g.M.Medium.known c.unlock.new.self in
    let p : Place = c.args.cursor.now in
    let n : ℕ = c.in_ok-file_length.file_length in
    let none : o ≡ None = never_shorter p n o m c.requires c.in_ok-file_length.ensures.ok
    (omega (arith, c.if-file_length-position.true, c.position.ensures)) in
    none_fits p u (none_after Unlocks m u c.unlock.ensures (none_after (Grants n) o m c.in_ok-file_length.ensures.ok none))

pub returns-then-file_length-position-clause-same :
    goal.returns-then-file_length-position-clause-same
returns-then-file_length-position-clause-same g c begins =
    let o : Option Known = g.M.Medium.known c.args.medium.now in
    let m : Option Known = g.M.Medium.known c.lock.new.medium in
    let u : Option Known = g.M.Medium.known c.unlock.new.self in
    let p : Place = c.args.cursor.now in
    let n : ℕ = c.in_ok-file_length.file_length in
    let none : o ≡ None = never_shorter p n o m c.requires c.in_ok-file_length.ensures.ok
    (omega (arith, c.if-file_length-position.true, c.position.ensures)) in
    ap (λ (x : Option Known). contents_of begins x p)
    (none_after Unlocks m u c.unlock.ensures (none_after (Grants n) o m c.in_ok-file_length.ensures.ok none))
    ∙ sym (ap (λ (x : Option Known). contents_of begins x p) none)
