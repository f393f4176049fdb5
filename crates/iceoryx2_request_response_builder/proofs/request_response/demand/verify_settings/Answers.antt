use Rattle.std.specs.Prelude.{map}
use Rattle.iceoryx2_rounds.specs.Rows.{tested}
use Rattle.iceoryx2_rounds.proofs.Rows.{by_row_is}
use Rattle.iceoryx2_request_response_builder.specs.RequestResponse.{setting_rows}
use Rattle.iceoryx2_request_response_builder.proofs.request_response.demand.verify_settings.Goals as goal

pub returns : goal.returns
returns c = cc (by_row_is (map tested (setting_rows c.args.demand.now.settings c.args.demand.now.marks c.args.existing.now)))
