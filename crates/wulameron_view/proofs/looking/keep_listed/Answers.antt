use Rattle.std.proofs.Common.{rules, sym, ◌∙◌, ap, not}
use Rattle.std.proofs.lemmas.Fn.{filter_same}
use Rattle.wulameron_view.specs.Filters.{is_open}
use Rattle.wulameron_view.proofs.Those.{emptied, kept}
use Rattle.wulameron_view.proofs.looking.keep_listed.Goals.{then-not-is_open, else-not-is_open}
use Rattle.wulameron_view.proofs.looking.keep_listed.Goals as goal

pub returns : goal.returns
returns c =
    record {
      published = filter_same _ _ _ (λ x b f' k. search rules) _ _ c.retain.ensures.filtered;
      creations = elim c.if-not-is_open.branch [
        | then-not-is_open w ↦
            emptied (is_open c.args.filter) c.args.services.creations.items c.if-not-is_open.creations.items (sym c.is_open.ensures ∙ w.if-not-is_open.true)
            (ap (λ v. v.items) w.creations-is ∙ w.clear.ensures.items)
        | else-not-is_open w ↦
            kept (is_open c.args.filter) c.args.services.creations.items c.if-not-is_open.creations.items (sym c.is_open.ensures ∙ w.if-not-is_open.false)
            (ap (λ v. v.items) w.creations-is)
      ];
    }
