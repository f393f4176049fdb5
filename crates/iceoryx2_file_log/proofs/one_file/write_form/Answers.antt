use Rattle.std.proofs.Common.{ℕ, subst, sym, ◌∙◌}
use Rattle.std.specs.Prelude.{IfSome, Option}
use Rattle.iceoryx2_log.specs.Log.{WhereKnown, Appends}
use Rattle.iceoryx2_file_log.specs.Place.{Place}
use Rattle.iceoryx2_file_log.specs.Medium.{Known, Becomes, WritesSome}
use Rattle.iceoryx2_file_log.specs.Bytes.{WritesAll}
use Rattle.iceoryx2_file_log.specs.OneFile.{Fits, contents_of}
use Rattle.iceoryx2_file_log.proofs.Positions.{left_of, left_contents, append_fits, append_appends}
use Rattle.iceoryx2_file_log.proofs.one_file.write_form.Goals as goal

pub take_back-requires : goal.take_back-requires
take_back-requires g c =
    let o : Option Known = g.M.Medium.known c.args.medium.now in
    let m : Option Known = g.M.Medium.known c.write.new.medium in
    let p : Place = c.args.cursor.now in
    let step = subst (λ (at : ℕ). Becomes (WritesSome at c.args.form.now) o m) c.position-position.ensures c.in-Err.ensures.err in
    left_of p c.args.entry.now c.args.form.now o m c.requires.fits c.requires.held c.requires.all_read c.requires.form step

pub returns-in-Ok-clause-fits : goal.returns-in-Ok-clause-fits
returns-in-Ok-clause-fits g c =
    let o : Option Known = g.M.Medium.known c.args.medium.now in
    let m : Option Known = g.M.Medium.known c.write.new.medium in
    let p : Place = c.args.cursor.now in
    let step = subst (λ (at : ℕ). Becomes (WritesAll at c.args.form.now c.args.synchronizes) o m) c.position-position.ensures c.in-Ok.ensures.ok in
    subst (λ (q : Place). IfSome m (Fits q)) (sym c.append.ensures)
    (append_fits p c.args.entry.now c.args.form.now c.args.synchronizes o m c.requires.fits c.requires.held c.requires.all_read
    c.requires.form c.requires.no_mark step)

pub returns-in-Ok-clause-appends : goal.returns-in-Ok-clause-appends
returns-in-Ok-clause-appends g c begins =
    let o : Option Known = g.M.Medium.known c.args.medium.now in
    let m : Option Known = g.M.Medium.known c.write.new.medium in
    let p : Place = c.args.cursor.now in
    let step = subst (λ (at : ℕ). Becomes (WritesAll at c.args.form.now c.args.synchronizes) o m) c.position-position.ensures c.in-Ok.ensures.ok in
    subst (λ (q : Place). WhereKnown (Appends c.args.entry.now) (contents_of begins o p) (contents_of begins m q)) (sym c.append.ensures)
    (append_appends begins p c.args.entry.now c.args.form.now c.args.synchronizes o m c.requires.fits c.requires.held c.requires.all_read
    c.requires.form c.requires.no_mark step)

pub returns-in-Err-clause-same : goal.returns-in-Err-clause-same
returns-in-Err-clause-same g c begins =
    let o : Option Known = g.M.Medium.known c.args.medium.now in
    let m : Option Known = g.M.Medium.known c.write.new.medium in
    let p : Place = c.args.cursor.now in
    let step = subst (λ (at : ℕ). Becomes (WritesSome at c.args.form.now) o m) c.position-position.ensures c.in-Err.ensures.err in
    c.take_back.ensures.same begins
    ∙ left_contents p c.args.form.now o m c.requires.fits c.requires.held c.requires.all_read step begins
