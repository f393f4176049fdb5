use Rattle.std.proofs.Common.{[], ◌∷◌}
use Rattle.iceoryx2_data.specs.PartForm.{number, truth, message}
use Rattle.iceoryx2_data.proofs.Grouped.{behind}
use Rattle.iceoryx2_data.specs.declared.bytes.TheConstants.{PUBLISH_SUBSCRIBE_BYTE}
use Rattle.iceoryx2_data.proofs.bytes.writing.put_publish_subscribe.Goals as goal

pub returns : goal.returns
returns c =
    let s = c.args.settings.now in
    rw (c.in_ok-put_message.ensures, c.in_ok-put_number-6.ensures, c.in_ok-put_truth.ensures, c.in_ok-put_number-5.ensures, c.in_ok-put_number-4.ensures, c.in_ok-put_number-3.ensures, c.in_ok-put_number-2.ensures, c.in_ok-put_number.ensures, c.in_ok-push.ensures.items)
    (behind c.args.out.now.items (PUBLISH_SUBSCRIBE_BYTE ∷ []) (number s.max_publishers ∷ number s.max_subscribers ∷ number s.subscriber_max_buffer_size ∷ number s.history_size ∷ number s.subscriber_max_borrowed_samples
    ∷ truth s.enable_safe_overflow ∷ number s.max_nodes ∷ message s.message_type_details ∷ []))
