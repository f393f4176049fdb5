use Rattle.std.specs.Prelude.{codes}
use Rattle.iceoryx2_monitoring.proofs.Suffixes.{stripped, node_read}
use Rattle.iceoryx2_monitoring.proofs.path.node_of.Goals as goal

pub returns : goal.returns
returns c =
    let behind = c.in_ok-behind_log.behind_log.now in
    let digits = c.in_ok-strip_prefix.field-0.now in
    node_read c.args.file_name.now c.args.log_name.now behind digits c.number_of.result
    (stripped c.args.log_name.now c.args.file_name.now behind c.in_ok-behind_log.ensures.cases)
    (stripped (codes ".node-") behind digits c.in_ok-strip_prefix.ensures.cases)
    c.number_of.ensures
