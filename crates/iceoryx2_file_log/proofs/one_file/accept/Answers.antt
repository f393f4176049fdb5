use Rattle.std.proofs.Common.{subst, sym, ap, ◌∙◌}
use Rattle.std.specs.Prelude.{IfSome, Option}
use Rattle.iceoryx2_log.specs.Log.{WhereKnown, Accepts}
use Rattle.iceoryx2_file_log.specs.Place.{Place}
use Rattle.iceoryx2_file_log.specs.Medium.{Known}
use Rattle.iceoryx2_file_log.specs.OneFile.{Fits, contents_of}
use Rattle.iceoryx2_file_log.proofs.Positions.{accept_fits, accept_accepts, accept_none}
use Rattle.iceoryx2_file_log.proofs.one_file.accept.Goals as goal

pub returns-clause-fits : goal.returns-clause-fits
returns-clause-fits g c =
    let o : Option Known = g.M.Medium.known c.args.medium.now in
    subst (λ (p : Place). IfSome o (Fits p)) (sym c.accept.ensures) (accept_fits c.args.cursor.now o c.requires)

pub returns-clause-shown : goal.returns-clause-shown
returns-clause-shown g c some begins =
    let o : Option Known = g.M.Medium.known c.args.medium.now in
    subst (λ (p : Place). WhereKnown Accepts (contents_of begins o c.args.cursor.now) (contents_of begins o p)) (sym c.accept.ensures)
    (accept_accepts begins c.args.cursor.now o c.requires some)

pub returns-clause-none : goal.returns-clause-none
returns-clause-none g c none begins =
    let o : Option Known = g.M.Medium.known c.args.medium.now in
    ap (λ (p : Place). contents_of begins o p) c.accept.ensures ∙ accept_none c.args.cursor.now o none begins
