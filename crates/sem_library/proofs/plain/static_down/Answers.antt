use Rattle.std.proofs.Common.{◌∙◌, sym, ap, Some}
use Rattle.std.proofs.lemmas.Bool.{false≢true}
use Rattle.std.proofs.lemmas.Option.{same_Some}
use Rattle.std.proofs.lemmas.Slice.Eq.{slice_eq-Decides}
use Rattle.std.specs.Cmp.{booleans_Decides}
use Rattle.std.specs.Option.{option_copied}
use Rattle.sem_library.proofs.plain.static_down.Goals as goal

pub returns-then-eq : goal.returns-then-eq
returns-then-eq c =
    let same = (slice_eq-Decides booleans_Decides _ _ _ c.eq.ensures).0 c.if-eq.true in
    ((ap option_copied c.in-Some.is ∙ ap Some same, rw (← same, ← c.len.ensures.value) c.if-len-gt64.false, c.new.ensures), λ y s. s.2 ∙ sym c.new.ensures)

pub returns-else-eq : goal.returns-else-eq
returns-else-eq c = λ x s.
    let same = same_Some _ _ (sym (ap option_copied c.in-Some.is) ∙ s.0) in
    false≢true (sym c.if-eq.false ∙ (slice_eq-Decides booleans_Decides _ _ _ c.eq.ensures).1 same)
