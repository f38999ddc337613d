-- What is packed is heard rightly where it fits, and there is one verdict.
use Rattle.std.proofs.Common.{◌≡◌, ◌∙◌, refl, sym, ap, subst, List, Bool, []}
use Rattle.std.proofs.lemmas.List.{append-nil}
use Rattle.cert_accepted.specs.Accepted.{Accepting, IsDeterminate}
use Rattle.sem_context.specs.Entries.{Entries, bits_at}
use Rattle.sem_filling.specs.declared.filling.Filling.{Filling}
use Rattle.sem_filling.specs.Fillings.{item}
use Rattle.walk_engine.specs.declared.reader.UnpackFault.{UnpackFault}
use Rattle.walk_engine.specs.declared.reader.UnpackFault.TheVariants.{Truncated, Refused, OutOfMemory}
use Rattle.walk_engine.specs.Reading.{Blames, Fronts}
use Rattle.walk_loss.specs.declared.reception.Heard.TheVariants as heard
use Rattle.walk_loss.specs.Laws.{RightWhereItFits, OneVerdict}

-- where a filling is at the front of the bits, no fault is told of them
not_blamed : (a : Accepting) (ctx : Entries) (bits : List Bool) (f : Filling) → Fronts a ctx bits f → (e : UnpackFault) → Blames e a ctx bits → e ≡ OutOfMemory
not_blamed a ctx bits f front Truncated h = absurd (h.none f front)
not_blamed a ctx bits f front (Refused at) h = absurd (h [] f (subst (λ b. Fronts a ctx b f) (sym (append-nil bits)) front))
not_blamed a ctx bits f front OutOfMemory h = refl

-- of two fillings at the front of the bits the items are the same
same_item : (a : Accepting) → IsDeterminate a → (ctx : Entries) (bits : List Bool) (f g : Filling) → Fronts a ctx bits f → Fronts a ctx bits g → item f ≡ item g
same_item a det ctx bits f g here there = ap item (det.top (bits_at ctx) bits f g here there)

pub one_verdict : OneVerdict
one_verdict a det ctx it bits heard.Right heard.Right p q = refl
one_verdict a det ctx it bits heard.Right (heard.Wrong g) p q = absurd (q.1 (same_item a det ctx bits g p.filling q.0 p.in_front ∙ p.has))
one_verdict a det ctx it bits heard.Right (heard.Refused e) p q = absurd (q.1 (not_blamed a ctx bits p.filling p.in_front e q.0))
one_verdict a det ctx it bits (heard.Wrong f) heard.Right p q = absurd (p.1 (same_item a det ctx bits f q.filling p.0 q.in_front ∙ q.has))
one_verdict a det ctx it bits (heard.Wrong f) (heard.Wrong g) p q = refl
one_verdict a det ctx it bits (heard.Wrong f) (heard.Refused e) p q = absurd (q.1 (not_blamed a ctx bits f p.0 e q.0))
one_verdict a det ctx it bits (heard.Refused e) heard.Right p q = absurd (p.1 (not_blamed a ctx bits q.filling q.in_front e p.0))
one_verdict a det ctx it bits (heard.Refused e) (heard.Wrong g) p q = absurd (p.1 (not_blamed a ctx bits g q.0 e p.0))
one_verdict a det ctx it bits (heard.Refused e) (heard.Refused c) p q = refl

pub right_where_it_fits : RightWhereItFits
right_where_it_fits a det ctx other it p packed there h is =
    let front : Fronts a other p.packed p.filling = record { fits = there; rest = []; front = packed.packed_is ∙ sym (append-nil _) } in
    one_verdict a det other it p.packed h heard.Right is (record { filling = p.filling; in_front = front; has = packed.best.has })
