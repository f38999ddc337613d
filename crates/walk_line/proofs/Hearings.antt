-- What is heard, joined and once.
use Rattle.std.proofs.Common.{◌≡◌, ◌∙◌, refl, sym, ap, subst, ℕ, List, ◌++◌, append_assoc}
use Rattle.std.proofs.lemmas.List.{append_cancel_left}
use Rattle.sem_filling.specs.Fronts.{Det}
use Rattle.cert_accepted.specs.Accepted.{Accepting}
use Rattle.walk_line.specs.Lines.{Contexts}
use Rattle.walk_line.specs.Hearing.{Found, Heard, waits, goes_on}
use Rattle.walk_line.specs.Laws.{HeardJoin, HeardOnce, IsSame}
use Rattle.walk_line.proofs.HearingCases.{whole_once, never_part}

pub heard_join : HeardJoin
heard_join p s t u all more rest last found later (waits part) h = h
heard_join p s t u all more rest last found later (goes_on one after here there between all_is found_is whole heard) h =
    let all_after : all ++ more ≡ one ++ (after ++ more) = ap (λ z. z ++ more) all_is ∙ append_assoc one after more in
    let found_after : found ++ later ≡ here ++ (there ++ later) = ap (λ z. z ++ later) found_is ∙ append_assoc here there later in
    goes_on one (after ++ more) here (there ++ later) between all_after found_after whole (heard_join p between t u after more rest last there later heard h)

heard_by : (p : Accepting) → Det p.profile.methods p.profile.top → (s t u : Contexts) (all alike rest left : List ℕ) (found others : Found) → all ≡ alike →
    Heard p s all found rest t → Heard p s alike others left u → IsSame found others rest left t u
heard_by p d s t u all alike rest left found others e (waits part) (waits part') = record { items = refl; rests = e; contexts = refl }
heard_by p d s t u all alike rest left found others e (waits part) (goes_on one after here there between all_is found_is whole heard) =
    absurd (never_part p s between one after all here whole part (e ∙ all_is))
heard_by p d s t u all alike rest left found others e (goes_on one after here there between all_is found_is whole heard) (waits part) =
    absurd (never_part p s between one after alike here whole part (sym e ∙ all_is))
heard_by p d s t u all alike rest left found others e (goes_on one after here there between all_is found_is whole heard) (goes_on one' after' here' there' between' all_is' found_is' whole' heard') =
    let alike_is : one ++ after ≡ one' ++ after' = sym all_is ∙ e ∙ all_is' in
    let once = whole_once p d s between between' one one' after after' here here' whole whole' alike_is in
    let afters : after ≡ after' = append_cancel_left one after after' (alike_is ∙ ap (λ z. z ++ after') (sym once.0)) in
    let heard_too : Heard p between after' there' left u = subst (λ z. Heard p z after' there' left u) (sym once.2) heard' in
    let same = heard_by p d between t u after after' rest left there there' afters heard heard_too in
    record {
      items = found_is ∙ ap (λ z. z ++ there) once.1 ∙ ap (λ z. here' ++ z) same.items ∙ sym found_is';
      rests = same.rests;
      contexts = same.contexts;
    }

pub heard_once : HeardOnce
heard_once p d s t u all rest left found others a b = heard_by p d s t u all all rest left found others refl a b
