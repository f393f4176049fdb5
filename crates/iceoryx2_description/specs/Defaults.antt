-- What builders start from where nothing else is configured.
use Rattle.std.specs.Prelude.{None, true}
use Rattle.iceoryx2_description.specs.declared.config.Event.{Event}
use Rattle.iceoryx2_description.specs.declared.config.PublishSubscribe.{PublishSubscribe}
use Rattle.iceoryx2_description.specs.declared.config.RequestResponse.{RequestResponse}
use Rattle.iceoryx2_description.specs.declared.config.Config.{Config}

abbrev pub default_event : Event
default_event = record {
  max_notifiers = 16;
  max_listeners = 16;
  event_id_max_value = 255;
  max_nodes = 36;
  notifier_created_event = None;
  notifier_dropped_event = None;
  notifier_dead_event = None;
  deadline = None;
}

abbrev pub default_publish_subscribe : PublishSubscribe
default_publish_subscribe = record {
  max_publishers = 2;
  max_subscribers = 8;
  subscriber_max_buffer_size = 2;
  history_size = 0;
  subscriber_max_borrowed_samples = 2;
  enable_safe_overflow = true;
  max_nodes = 20;
}

abbrev pub default_request_response : RequestResponse
default_request_response = record {
  enable_safe_overflow_for_requests = true;
  enable_safe_overflow_for_responses = true;
  enable_fire_and_forget_requests = true;
  max_active_requests_per_client = 4;
  max_loaned_requests = 2;
  max_borrowed_responses_per_pending_response = 2;
  max_response_buffer_size = 2;
  max_servers = 2;
  max_clients = 8;
  max_nodes = 20;
}

abbrev pub default_config : Config
default_config = record {
  event = default_event;
  publish_subscribe = default_publish_subscribe;
  request_response = default_request_response;
}
