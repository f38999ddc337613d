use Rattle.text_sections.specs.Mentions.{first_of, encoded}
use Rattle.text_sections.proofs.Naming.{none_bare}
use Rattle.text_sections.proofs.names.judge_bare.Goals as goal

pub returns-in-None : goal.returns-in-None
returns-in-None c = λ encodings is.
    none_bare c.args.text.now encodings c.args.own.now c.args.shared.now c.new-none.result (first_of c.args.text.now (encoded c.args.own.now)) is (c.new-none.ensures c.args.text.now) c.all_not_encoded.ensures c.in-None.is
