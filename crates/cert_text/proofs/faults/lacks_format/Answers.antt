use Rattle.std.proofs.Common.{◌∙◌, sym, ap, map}
use Rattle.std.specs.Prelude.{Some, is_none}
use Rattle.std.specs.Option.{option_copied}
use Rattle.cert_text.specs.Shapes.{lacks_format}
use Rattle.cert_text.proofs.DraftsPieces.{front_more, none_by}
use Rattle.cert_text.proofs.faults.lacks_format.Goals as goal

pub returns : goal.returns
returns c =
    let told = none_by _ c.is_none.result c.is_none.ensures ∙ ap is_none c.place_of_format.ensures in
    told ∙ sym (ap (lacks_format (Some c.in-Some.method.now)) (front_more c.args.more.now _ c.in-len1-up.len_at_least)) ∙ sym (ap (λ o. lacks_format (option_copied o) (map (λ w. w.now) c.args.more.now)) c.in-Some.is)
