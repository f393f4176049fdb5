use Rattle.iceoryx2_publish_subscribe_builder.specs.declared.publish_subscribe.setting.PublishSubscribeSetter.TheVariants as samples
use Rattle.negotiate_lines.specs.Values.{IsDetailTerm}
use Rattle.negotiate_lines.proofs.Reading.{nothing_given}
use Rattle.negotiate_lines.proofs.setting_terms.PublishSubscribeTermsHasVocabulary.setter.Goals as goal

pub returns-in_err-type_detail-in-payload : goal.returns-in_err-type_detail-in-payload
returns-in_err-type_detail-in-payload c =
    rw c.in-payload.is
    (nothing_given (IsDetailTerm c.args.form) samples.PayloadType c.args.value.now _ _ c.from_residual-in_err-type_detail-in-payload.ensures.1 c.in_err-type_detail-in-payload.ensures)

pub returns-in_err-type_detail-in-user_header : goal.returns-in_err-type_detail-in-user_header
returns-in_err-type_detail-in-user_header c =
    rw c.in-user_header.is
    (nothing_given (IsDetailTerm c.args.form) samples.UserHeaderType c.args.value.now _ _ c.from_residual-in_err-type_detail-in-user_header.ensures.1 c.in_err-type_detail-in-user_header.ensures)
