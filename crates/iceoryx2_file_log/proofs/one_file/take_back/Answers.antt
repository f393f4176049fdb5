use Rattle.std.proofs.Common.{ℕ, subst}
use Rattle.std.specs.Prelude.{Option}
use Rattle.iceoryx2_file_log.specs.Medium.{Known, Becomes}
use Rattle.iceoryx2_file_log.specs.Bytes.{CutsAll}
use Rattle.iceoryx2_file_log.specs.Bytes.{CutsOrStays}
use Rattle.iceoryx2_file_log.proofs.Positions.{refused_fits}
use Rattle.iceoryx2_file_log.proofs.Holdings.{back_fits, back_contents, doubt_fits, doubt_contents}
use Rattle.iceoryx2_file_log.proofs.one_file.take_back.Goals as goal

pub returns-in-Ok-clause-fits : goal.returns-in-Ok-clause-fits
returns-in-Ok-clause-fits g c =
    let o : Option Known = g.M.Medium.known c.args.medium.now in
    let m : Option Known = g.M.Medium.known c.shorten.new.medium in
    let step = subst (λ (at : ℕ). Becomes (CutsAll at c.args.synchronizes) o m) c.position.ensures c.in-Ok.ensures.ok in
    refused_fits c.args.error c.args.cursor.now m (back_fits c.args.cursor.now c.args.synchronizes o m c.requires step)

pub returns-in-Ok-clause-same : goal.returns-in-Ok-clause-same
returns-in-Ok-clause-same g c =
    let o : Option Known = g.M.Medium.known c.args.medium.now in
    let m : Option Known = g.M.Medium.known c.shorten.new.medium in
    let step = subst (λ (at : ℕ). Becomes (CutsAll at c.args.synchronizes) o m) c.position.ensures c.in-Ok.ensures.ok in
    back_contents c.args.cursor.now c.args.synchronizes o m c.requires step

pub returns-in-Err-clause-fits : goal.returns-in-Err-clause-fits
returns-in-Err-clause-fits g c =
    let o : Option Known = g.M.Medium.known c.args.medium.now in
    let m : Option Known = g.M.Medium.known c.shorten.new.medium in
    let step = subst (λ (at : ℕ). Becomes (CutsOrStays at) o m) c.position.ensures c.in-Err.ensures.err in
    doubt_fits c.args.cursor.now o m c.requires step

pub returns-in-Err-clause-same : goal.returns-in-Err-clause-same
returns-in-Err-clause-same g c =
    let o : Option Known = g.M.Medium.known c.args.medium.now in
    let m : Option Known = g.M.Medium.known c.shorten.new.medium in
    let step = subst (λ (at : ℕ). Becomes (CutsOrStays at) o m) c.position.ensures c.in-Err.ensures.err in
    doubt_contents c.args.cursor.now o m c.requires step
