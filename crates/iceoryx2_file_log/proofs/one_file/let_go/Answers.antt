use Rattle.std.proofs.Common.{subst, sym, ap, ◌∙◌}
use Rattle.std.specs.Prelude.{IfSome, Option}
use Rattle.iceoryx2_file_log.specs.Place.{Place}
use Rattle.iceoryx2_file_log.specs.Medium.{Known}
use Rattle.iceoryx2_file_log.specs.OneFile.{Fits, contents_of}
use Rattle.iceoryx2_file_log.proofs.Holdings.{freed_fits, freed_contents}
use Rattle.iceoryx2_file_log.proofs.one_file.let_go.Goals as goal

pub returns-clause-fits : goal.returns-clause-fits
returns-clause-fits g c =
    let o : Option Known = g.M.Medium.known c.args.medium.now in
    let m : Option Known = g.M.Medium.known c.unlock.new.self in
    subst (λ (q : Place). IfSome m (Fits q)) (sym c.let_go.ensures) (freed_fits c.args.cursor.now o m c.requires c.unlock.ensures)

pub returns-clause-same : goal.returns-clause-same
returns-clause-same g c begins =
    let o : Option Known = g.M.Medium.known c.args.medium.now in
    let m : Option Known = g.M.Medium.known c.unlock.new.self in
    ap (λ (q : Place). contents_of begins m q) c.let_go.ensures ∙ freed_contents c.args.cursor.now o m c.unlock.ensures begins
