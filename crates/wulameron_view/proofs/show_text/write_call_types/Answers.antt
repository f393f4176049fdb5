use Rattle.wulameron_view.proofs.Grown.{grown_by_both}
use Rattle.wulameron_view.proofs.show_text.write_call_types.Goals as goal

pub returns : goal.returns
returns c = grown_by_both _ _ _ _ _ c.in_ok-write_message.ensures c.write_message-2.result c.write_message-2.ensures
