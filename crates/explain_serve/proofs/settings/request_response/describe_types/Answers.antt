use Rattle.std.proofs.Common.{string_bytes}
use Rattle.explain_serve.proofs.Parts.{messages_described}
use Rattle.explain_serve.proofs.settings.request_response.describe_types.Goals as goal

pub returns : goal.returns
returns c =
    messages_described c.args.setters.now c.args.there.now c.in_ok-request.field-0 c.in_ok-asked.asked c.in_ok-asked-2.asked
    (string_bytes c.args.text.now) (string_bytes c.describe_message.new.text) (string_bytes c.describe_message-2.new.text)
    c.in_ok-request.ensures c.in_ok-asked.ensures c.in_ok-asked-2.ensures
    c.in_ok-describe_message.ensures c.describe_message-2.result c.describe_message-2.ensures
