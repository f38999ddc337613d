use Rattle.std.proofs.Common.{rules, ◌≡◌, ap, sym, ◌∙◌, Some, None}
use Rattle.std.specs.Prelude.{slice_get}
use Rattle.sem_filling.specs.Entries.{below}
use Rattle.sem_reasons.specs.Reasons.{lacking}
use Rattle.sem_reasons.specs.Settings.{setting_of}
use Rattle.sem_reasons.proofs.ReasonsMaking.{lacking_there, referred_is, unreferenced_is}
use Rattle.sem_reasons.proofs.references.unreferenced.Goals as goal

pub returns-in_default : goal.returns-in_default
returns-in_default c =
    let none : lacking (setting_of c.args.question.now) 0 c.args.format.now.fields ≡ None = search rules in
    referred_is (setting_of c.args.question.now) c.args.number c.args.format.now c.requires none

pub returns-in_default-at : goal.returns-in_default-at
returns-in_default-at c =
    let first : lacking (setting_of c.args.question.now) 0 c.args.format.now.fields ≡ Some c.in-Some.index = search rules in
    let t = lacking_there (setting_of c.args.question.now) c.args.format.now.fields c.in-Some.index first in
    let none : slice_get c.args.format.now.fields c.in-Some.index ≡ None = search rules in
    let wrong = sym none ∙ t.1 in
    absurd (cc)

pub returns : goal.returns
returns c =
    let s = setting_of c.args.question.now in
    let first : lacking s 0 c.args.format.now.fields ≡ Some c.in-Some.index = search rules in
    let at : slice_get c.args.format.now.fields c.in-Some.index ≡ Some c.in-Some-at.field.now = search rules in
    unreferenced_is s c.args.number c.args.format.now c.requires c.in-Some.index first c.in-Some-at.field.now at c.in_ok-path.path (c.in_ok-path.ensures ∙ ap (below s.path) c.as_str.ensures)
