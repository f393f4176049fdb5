use Rattle.std.proofs.Common.{[], ◌∷◌}
use Rattle.iceoryx2_data.specs.PartForm.{number, truth, message}
use Rattle.iceoryx2_data.proofs.Grouped.{behind}
use Rattle.iceoryx2_data.specs.declared.bytes.TheConstants.{REQUEST_RESPONSE_BYTE}
use Rattle.iceoryx2_data.proofs.bytes.writing.put_request_response.Goals as goal

pub returns : goal.returns
returns c =
    let s = c.args.settings.now in
    rw (
      c.in_ok-put_message-2.ensures,
      c.in_ok-put_message.ensures,
      c.in_ok-put_number-7.ensures,
      c.in_ok-put_number-6.ensures,
      c.in_ok-put_number-5.ensures,
      c.in_ok-put_number-4.ensures,
      c.in_ok-put_number-3.ensures,
      c.in_ok-put_number-2.ensures,
      c.in_ok-put_number.ensures,
      c.in_ok-put_truth-3.ensures,
      c.in_ok-put_truth-2.ensures,
      c.in_ok-put_truth.ensures,
      c.in_ok-push.ensures.items,
    )
    (behind c.args.out.now.items (REQUEST_RESPONSE_BYTE ∷ []) (truth s.enable_safe_overflow_for_requests ∷ truth s.enable_safe_overflow_for_responses ∷ truth s.enable_fire_and_forget_requests ∷ number s.max_active_requests_per_client
    ∷ number s.max_loaned_requests ∷ number s.max_borrowed_responses_per_pending_response ∷ number s.max_response_buffer_size ∷ number s.max_servers ∷ number s.max_clients ∷ number s.max_nodes
    ∷ message s.request_message_type_details ∷ message s.response_message_type_details ∷ []))
