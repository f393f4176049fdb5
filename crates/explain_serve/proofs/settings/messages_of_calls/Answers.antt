use Rattle.explain_serve.proofs.Asked.{same_message, same_messages}
use Rattle.explain_serve.proofs.settings.messages_of_calls.Goals as goal

pub returns-clause-samples : goal.returns-clause-samples
returns-clause-samples c = λ node name defaults setters. same_message node name defaults setters

pub returns-clause-requests : goal.returns-clause-requests
returns-clause-requests c = λ node name defaults setters. same_messages node name defaults setters
