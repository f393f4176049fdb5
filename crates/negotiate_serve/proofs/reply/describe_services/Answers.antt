use Rattle.std.proofs.Common.{string_bytes, arith}
use Rattle.negotiate_serve.proofs.ServiceLines.{no_lines_yet, one_more_service, one_more_other}
use Rattle.negotiate_serve.proofs.reply.describe_services.Goals.{then-branch, else-branch}
use Rattle.negotiate_serve.proofs.reply.describe_services.Goals as goal

pub loop-entry-init : goal.loop-entry-init
loop-entry-init c = record { counted = omega arith; so_far = no_lines_yet c.args.form (string_bytes c.args.text.now) }

pub loop-entry-preserved : goal.loop-entry-preserved
loop-entry-preserved c =
    let at = c.loop-entry in
    elim c.if-branch.branch [
      | then-branch w ↦ record {
        counted = omega (arith, at.invariant.counted, w.count-is);
        so_far = one_more_service c.args.form c.args.entries.now at.entry-index c.entry-item.result c.loop-entry-test.true c.entry-item.is at.count c.if-branch.count _ _ (string_bytes at.text) _ at.invariant.so_far c.in_ok-describe_entry.ensures w.if-branch.true w.count-is;
      }
      | else-branch w ↦ record {
        counted = omega (arith, at.invariant.counted, w.count-is);
        so_far = one_more_other c.args.form c.args.entries.now at.entry-index c.entry-item.result c.loop-entry-test.true c.entry-item.is at.count c.if-branch.count _ _ (string_bytes at.text) _ at.invariant.so_far c.in_ok-describe_entry.ensures w.if-branch.false w.count-is;
      }
    ]
