use Rattle.text_methods.specs.Drafts as spec
use Rattle.text_methods.proofs.drafts.choices.Goals as goal

pub returns : goal.returns
returns c = λ base default.
    let x = c.args.setting.now in
    let own = c.in_ok-own.ensures _ c.requires.fields in
    rw c.as_slice-2.ensures at (c.encodings.ensures (spec.base x) c.args.own.now (spec.default x) base (rw (c.as_slice.ensures, c.as_slice-2.ensures) own) default)
