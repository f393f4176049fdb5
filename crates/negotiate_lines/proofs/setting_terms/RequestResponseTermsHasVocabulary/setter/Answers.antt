use Rattle.iceoryx2_request_response_builder.specs.declared.request_response.setting.RequestResponseSetter.TheVariants as set
use Rattle.negotiate_lines.specs.Values.{IsDetailTerm}
use Rattle.negotiate_lines.proofs.Reading.{nothing_given}
use Rattle.negotiate_lines.proofs.setting_terms.RequestResponseTermsHasVocabulary.setter.Goals as goal

pub returns-in_err-type_detail-in-request_payload : goal.returns-in_err-type_detail-in-request_payload
returns-in_err-type_detail-in-request_payload c =
    rw c.in-request_payload.is (nothing_given (IsDetailTerm c.args.form) set.RequestPayloadType c.args.value.now _ _
    c.from_residual-in_err-type_detail-in-request_payload.ensures.1 c.in_err-type_detail-in-request_payload.ensures)

pub returns-in_err-type_detail-in-request_header : goal.returns-in_err-type_detail-in-request_header
returns-in_err-type_detail-in-request_header c =
    rw c.in-request_header.is (nothing_given (IsDetailTerm c.args.form) set.RequestHeaderType c.args.value.now _ _
    c.from_residual-in_err-type_detail-in-request_header.ensures.1 c.in_err-type_detail-in-request_header.ensures)

pub returns-in_err-type_detail-in-response_payload : goal.returns-in_err-type_detail-in-response_payload
returns-in_err-type_detail-in-response_payload c =
    rw c.in-response_payload.is (nothing_given (IsDetailTerm c.args.form) set.ResponsePayloadType c.args.value.now _ _
    c.from_residual-in_err-type_detail-in-response_payload.ensures.1 c.in_err-type_detail-in-response_payload.ensures)

pub returns-in_err-type_detail-in-response_header : goal.returns-in_err-type_detail-in-response_header
returns-in_err-type_detail-in-response_header c =
    rw c.in-response_header.is (nothing_given (IsDetailTerm c.args.form) set.ResponseHeaderType c.args.value.now _ _
    c.from_residual-in_err-type_detail-in-response_header.ensures.1 c.in_err-type_detail-in-response_header.ensures)
