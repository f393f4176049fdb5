use Rattle.std.proofs.Common.{ℕ, subst, sym, ap, ◌∙◌}
use Rattle.std.specs.Prelude.{IfSome, Option}
use Rattle.iceoryx2_file_log.specs.Place.{Place, cut}
use Rattle.iceoryx2_file_log.specs.Medium.{Known, Becomes, CutsTo, MayChangeFrom}
use Rattle.iceoryx2_file_log.specs.OneFile.{Fits, contents_of}
use Rattle.iceoryx2_file_log.proofs.Positions.{may_cut, cut_fits, cut_contents, synchronized_fits, synchronized_contents, cut_sure}
use Rattle.iceoryx2_file_log.proofs.one_file.cut_end.Goals as goal

pub set_len-requires : goal.set_len-requires
set_len-requires g c =
    let o : Option Known = g.M.Medium.known c.args.medium.now in
    let p : Place = c.args.cursor.now in
    subst (λ (n : ℕ). IfSome o (MayChangeFrom n)) (sym c.position.ensures)
    (may_cut p o c.requires.fits c.requires.held c.requires.torn c.requires.all)

pub returns-in-Ok-clause-fits : goal.returns-in-Ok-clause-fits
returns-in-Ok-clause-fits g c =
    let o : Option Known = g.M.Medium.known c.args.medium.now in
    let m : Option Known = g.M.Medium.known c.set_len.new.self in
    let n : Option Known = g.M.Medium.known c.sync.new.self in
    let p : Place = c.args.cursor.now in
    let step = subst (λ (at : ℕ). Becomes (CutsTo at) o m) c.position.ensures c.in_ok-set_len.ensures.ok in
    subst (λ (q : Place). IfSome n (Fits q)) (sym c.cut-2.ensures)
    (synchronized_fits (cut p) m n
    (cut_fits p o m c.requires.fits c.requires.held c.requires.torn c.requires.all step) c.in-Ok.ensures.ok)

pub returns-in-Ok-clause-same : goal.returns-in-Ok-clause-same
returns-in-Ok-clause-same g c begins =
    let o : Option Known = g.M.Medium.known c.args.medium.now in
    let m : Option Known = g.M.Medium.known c.set_len.new.self in
    let n : Option Known = g.M.Medium.known c.sync.new.self in
    let p : Place = c.args.cursor.now in
    let step = subst (λ (at : ℕ). Becomes (CutsTo at) o m) c.position.ensures c.in_ok-set_len.ensures.ok in
    ap (λ (q : Place). contents_of begins n q) c.cut-2.ensures ∙ synchronized_contents (cut p) m n c.in-Ok.ensures.ok begins
    ∙ cut_contents p o m c.requires.fits c.requires.held c.requires.torn c.requires.all step begins

pub returns-in-Ok-clause-safe : goal.returns-in-Ok-clause-safe
returns-in-Ok-clause-safe g c =
    cut_sure c.args.synchronizes c.position.result (g.M.Medium.known c.args.medium.now) (g.M.Medium.known c.set_len.new.self)
    (g.M.Medium.known c.sync.new.self) c.in_ok-set_len.ensures.ok c.in-Ok.ensures.ok

pub returns-in-Err-clause-fits : goal.returns-in-Err-clause-fits
returns-in-Err-clause-fits g c =
    let o : Option Known = g.M.Medium.known c.args.medium.now in
    let m : Option Known = g.M.Medium.known c.set_len.new.self in
    let n : Option Known = g.M.Medium.known c.sync.new.self in
    let p : Place = c.args.cursor.now in
    let step = subst (λ (at : ℕ). Becomes (CutsTo at) o m) c.position.ensures c.in_ok-set_len.ensures.ok in
    subst (λ (q : Place). IfSome n (Fits q)) (sym c.cut-2.ensures)
    (subst (λ (x : Option Known). IfSome x (Fits (cut p))) (sym c.in-Err.ensures.err)
    (cut_fits p o m c.requires.fits c.requires.held c.requires.torn c.requires.all step))

pub returns-in-Err-clause-same : goal.returns-in-Err-clause-same
returns-in-Err-clause-same g c begins =
    let o : Option Known = g.M.Medium.known c.args.medium.now in
    let m : Option Known = g.M.Medium.known c.set_len.new.self in
    let n : Option Known = g.M.Medium.known c.sync.new.self in
    let p : Place = c.args.cursor.now in
    let step = subst (λ (at : ℕ). Becomes (CutsTo at) o m) c.position.ensures c.in_ok-set_len.ensures.ok in
    ap (λ (q : Place). contents_of begins n q) c.cut-2.ensures ∙ ap (λ (x : Option Known). contents_of begins x (cut p)) c.in-Err.ensures.err
    ∙ cut_contents p o m c.requires.fits c.requires.held c.requires.torn c.requires.all step begins
