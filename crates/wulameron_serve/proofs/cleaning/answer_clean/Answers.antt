use Rattle.std.proofs.Common.{ap, sym, subst, string_bytes, ◌∙◌}
use Rattle.iceoryx2_session.specs.SessionStates.{own_state}
use Rattle.wulameron_place.specs.Clean.{AreWanted}
use Rattle.wulameron_serve.specs.Cleaning.{CleansAsked, IsOutcomeReply, IsUnfoundReply, cleaned, not_cleaned}
use Rattle.wulameron_serve.proofs.NodeAnswers.{grows_as}
use Rattle.wulameron_serve.proofs.cleaning.answer_clean.Goals as goal

pub returns-in-Ok-clause-answered : goal.returns-in-Ok-clause-answered
returns-in-Ok-clause-answered g c =
    let o = c.clean_nodes-outcome.result in
    let new = own_state c.clean_nodes-outcome.new.session in
    grows_as (IsOutcomeReply c.trouble.result c.args.named o.given o.some_alive o.some_refused)
    (λ output. CleansAsked g.S.WorldStorage.shows g.S.WorldStorage.world g.S.Troubled.trouble c.args.named (own_state c.args.session.now) output new)
    (λ output is. cleaned c.deref.result.now o (subst (AreWanted c.args.named) (sym c.deref.ensures.value) c.in-Ok.ensures) c.clean_nodes-outcome.ensures.all
    (subst (λ t. IsOutcomeReply t c.args.named o.given o.some_alive o.some_refused output) (c.trouble.ensures ∙ ap g.S.Troubled.trouble c.storage.ensures) is))
    c.reply_outcome.result (string_bytes c.args.text.now) (string_bytes c.reply_outcome.new.text) c.reply_outcome.ensures

pub returns-in-Err-clause-answered : goal.returns-in-Err-clause-answered
returns-in-Err-clause-answered g c =
    let old = own_state c.args.session.now in
    grows_as (IsUnfoundReply c.in-Err.why)
    (λ output. CleansAsked g.S.WorldStorage.shows g.S.WorldStorage.world g.S.Troubled.trouble c.args.named old output old)
    (λ output is. not_cleaned c.in-Err.why is)
    c.reply_unfound.result (string_bytes c.args.text.now) (string_bytes c.reply_unfound.new.text) c.reply_unfound.ensures
