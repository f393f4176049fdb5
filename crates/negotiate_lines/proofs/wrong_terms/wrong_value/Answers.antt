use Rattle.std.proofs.Common.{◌≡◌, None, codes, refl, sym, ap, ◌∙◌, rules}
use Rattle.negotiate_lines.specs.Vocabulary.{common_rows, row_of}
use Rattle.negotiate_lines.proofs.WrongTerms.{behind_name, no_colon, key_of_create, no_row_of_kind, no_value}
use Rattle.negotiate_lines.proofs.wrong_terms.wrong_value.Goals as goal

pub wrong_now-requires : goal.wrong_now-requires
wrong_now-requires g c = λ instruction is_such. behind_name c.args.form g.V.HasVocabulary.vocabulary c.args.how c.args.name.now (codes "now") c.args.value.now c.in-now.is c.requires instruction is_such

pub returns-in-attribute : goal.returns-in-attribute
returns-in-attribute g c =
    let v = g.V.HasVocabulary.vocabulary in
    (c.in-attribute.is, refl, no_colon c.args.form v c.args.how c.args.value.now (behind_name c.args.form v c.args.how c.args.name.now (codes "attribute") c.args.value.now c.in-attribute.is c.requires))

pub returns-in-require_key : goal.returns-in-require_key
returns-in-require_key g c =
    let v = g.V.HasVocabulary.vocabulary in
    (c.in-require_key.is, key_of_create c.args.form v c.args.how c.args.value.now (behind_name c.args.form v c.args.how c.args.name.now (codes "require_key") c.args.value.now c.in-require_key.is c.requires))

pub returns-in-Some : goal.returns-in-Some
returns-in-Some g c =
    let v = g.V.HasVocabulary.vocabulary in
    let common : row_of common_rows c.args.name.now ≡ None = search rules in
    (refl, refl, no_value c.args.form v c.args.how c.args.name.now c.args.value.now c.in-Some.kind c.requires common (ap (λ table. row_of table c.args.name.now) (sym c.settings.ensures) ∙ sym c.kind_in.ensures ∙ c.in-Some.is))

pub returns-in-None : goal.returns-in-None
returns-in-None g c =
    let v = g.V.HasVocabulary.vocabulary in (
      refl,
      record {
        common = search rules;
        row = no_row_of_kind v.rows c.args.name.now (ap (λ table. row_of table c.args.name.now) (sym c.settings.ensures) ∙ sym c.kind_in.ensures ∙ c.in-None.is);
        pattern_is = c.pattern.ensures;
        settings_are = c.settings-in-None.ensures;
        admitted_are = c.admitted.ensures;
      },
    )
