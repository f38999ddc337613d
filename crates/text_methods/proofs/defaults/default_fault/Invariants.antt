use Rattle.std.proofs.Common.{◌≡◌, fold, drop}
use Rattle.sem_profile.specs.Precedence.{earlier}
use Rattle.text_methods.specs.Defaults.{default_items, statement_fault, default_fault}
use Rattle.text_methods.proofs.defaults.default_fault.Given as goal

abbrev pub invariant-loop-section : goal.invariant-loop-section
invariant-loop-section l = fold (λ f item. earlier f (statement_fault l.setting item)) l.fault (default_items (drop l.section-index l.setting.sections.now)) ≡ default_fault l.setting
