use Rattle.std.proofs.Common.{◌-◌, string_bytes, subst}
use Rattle.iceoryx2_session.proofs.Shown.{goes_along}
use Rattle.explain_serve.specs.Explained.{IsTextInLines}
use Rattle.explain_serve.proofs.Traces.{goes_traced}
use Rattle.wulameron_serve.specs.Views.{WritesExplained}
use Rattle.wulameron_serve.proofs.NodeAnswers.{grows_as}
use Rattle.wulameron_serve.proofs.view.TracedViewed.write_reply.Goals as goal

pub returns : goal.returns
returns g c = λ command first last slot ready applies made.
    let W = g.S.WorldStorage.world in
    let line = c.args.line.now in
    let reply = c.args.reply.now in
    let traced = c.args.self.now in
    grows_as (IsTextInLines W line c.args.slot reply c.args.made traced) (WritesExplained g.S.Storage.step W line command reply first last traced)
    (λ output is_text. record {
      goes = goes_traced g.S.Storage.step W first last command reply ready (goes_along applies) applies;
      is_text =
          subst (λ k. IsTextInLines W line k reply (last.table.total - first.table.total) traced output) slot
          (subst (λ n. IsTextInLines W line c.args.slot reply n traced output) made is_text);
    })
    c.describe_lines.result (string_bytes c.args.text.now) (string_bytes c.describe_lines.new.text) c.describe_lines.ensures
