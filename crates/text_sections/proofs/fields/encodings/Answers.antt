use Rattle.std.proofs.Common.{◌≡◌, ◌∙◌, ap, map, IfOk, subst}
use Rattle.text_sections.specs.Mentions.{first_of, encoded}
use Rattle.text_sections.specs.Tables.{find_in}
use Rattle.text_sections.specs.Fields.{encoding, encodings_by}
use Rattle.text_sections.proofs.CausesFolding.{finds}
use Rattle.text_sections.proofs.FieldsOwned.{by_each}
use Rattle.text_sections.proofs.fields.encodings.Goals as goal

pub returns : goal.returns
returns c = λ base own default base_is own_is default_is.
    let text = c.args.text.now in
    subst (λ es. IfOk c.find_all.result (λ all. all ≡ es))
    (ap (encodings_by text (find_in c.args.base.now) (find_in c.args.default.now) c.args.fields.now) own_is
    ∙ (by_each text (find_in c.args.base.now) (first_of text (encoded own)) (find_in c.args.default.now) c.args.fields.now
    ∙ (λ i. map (encoding text (finds text base c.args.base.now base_is i) (first_of text (encoded own)) (finds text default c.args.default.now default_is i)) c.args.fields.now)))
    c.find_all.ensures
