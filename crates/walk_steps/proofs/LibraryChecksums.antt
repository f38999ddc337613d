-- What a crc gives, and the bits that it covers.
use Rattle.std.proofs.Common.{◌≡◌, refl, sym, ◌∙◌, ap, subst, ℕ, zero, suc, Bool, true, List, [], ◌∷◌, length}
use Rattle.std.specs.Prelude.{Option, Some, None, option_and_then, option_map, slice_get, Result, IfOk, ℤ, if◌then◌else◌}
use Rattle.std.proofs.lemmas.Option.{same_Some}
use Rattle.sem_expr.specs.declared.expr.Expr.{Expr}
use Rattle.sem_expr.specs.declared.expr.Side.{Side}
use Rattle.sem_expr.specs.declared.expr.Subject.{Subject}
use Rattle.sem_expr.specs.declared.expr.Subject.TheVariants as subject
use Rattle.sem_expr.specs.declared.expr.Measure.TheVariants as measure
use Rattle.sem_expr.specs.Values.{Assignment, val}
use Rattle.sem_library.specs.Methods.{IsOnly, CrcHolds}
use Rattle.sem_profile.specs.declared.profile.CrcArguments.{CrcArguments}
use Rattle.sem_profile.specs.declared.profile.Library.TheVariants as library
use Rattle.sem_profile.specs.declared.profile.Format.{Format}
use Rattle.sem_filling.specs.Fits.{vals}
use Rattle.sem_filling.proofs.FitsValues.{valued}
use Rattle.cert_rules.specs.declared.slots.Slot.{Slot}
use Rattle.cert_rules.specs.Facts.{side_facts, inputs, inputs_of_all}
use Rattle.cert_rules.specs.Reading.{known_sides}
use Rattle.cert_rules.specs.Slots.{knows_all, learnt_at}
use Rattle.cert_rules.specs.Steps.{DownIs}
use Rattle.cert_rules.proofs.SlotsKnown.{slot_side}
use Rattle.walk_steps.specs.Joined.{joined_whole, are_whole}
use Rattle.walk_steps.specs.Partial.{parts_of}
use Rattle.walk_steps.specs.Sides.{whole_of}
use Rattle.walk_steps.proofs.JoinedParts.{whole_joined, whole_known}
use Rattle.walk_steps.specs.Methods.{SummedBy}
use Rattle.walk_steps.proofs.MethodsFound.{only_same}
use Rattle.walk_steps.proofs.LevelAsked.{knows_left, knows_right}
use Rattle.walk_steps.proofs.FindingSides.{whole_bits}

next_value : (a : Assignment) (e : Expr) (es : List Expr) (v : ℤ) (vs : List ℤ) → val a e ≡ Some v → vals a es ≡ Some vs → vals a (e ∷ es) ≡ Some (v ∷ vs)
next_value a e es v vs h hs = λ i. option_and_then (λ v. option_map (λ vs. v ∷ vs) (hs i)) (h i)

first_parts : (a : Assignment) (e : Expr) (es : List Expr) (v : ℤ) (vs : List ℤ) → vals a (e ∷ es) ≡ Some (v ∷ vs) → (val a e ≡ Some v) × (vals a es ≡ Some vs)
first_parts a e es v vs h =
    let p = valued a e es (v ∷ vs) h in
    let is : v ∷ vs ≡ p.first ∷ p.rest = p.is in
    let head : p.first ≡ v = cc in
    let tail : p.rest ≡ vs = cc in
    (p.first_is ∙ ap Some head, p.rest_are ∙ ap Some tail)

pub crc_only : (side : Subject → Side → List Bool) (a : Assignment) (crc : CrcArguments) (u covered : List Bool) (o : Option (List Bool)) → covered ≡ side crc.subject crc.side →
    IsOnly (SummedBy (val a crc.bits) (val a crc.polynomial) (val a crc.initial) (val a crc.length) covered) o → IsOnly (DownIs side a u (library.Crc crc)) o
crc_only side a crc u covered o is only =
    only_same (SummedBy (val a crc.bits) (val a crc.polynomial) (val a crc.initial) (val a crc.length) covered) (DownIs side a u (library.Crc crc)) o
    (λ c h. (
      h.0,
      h.1,
      h.2,
      h.3,
      next_value a crc.bits (crc.polynomial ∷ crc.initial ∷ crc.length ∷ []) h.0 (h.1 ∷ h.2 ∷ h.3 ∷ []) h.4
          (next_value a crc.polynomial (crc.initial ∷ crc.length ∷ []) h.1 (h.2 ∷ h.3 ∷ []) h.5 (next_value a crc.initial (crc.length ∷ []) h.2 (h.3 ∷ []) h.6 (next_value a crc.length [] h.3 [] h.7 refl))),
      subst (λ z. CrcHolds h.0 h.1 h.2 z h.3 c) is h.8,
    ))
    (λ c h.
    let one = first_parts a crc.bits (crc.polynomial ∷ crc.initial ∷ crc.length ∷ []) h.0 (h.1 ∷ h.2 ∷ h.3 ∷ []) h.4 in
    let two = first_parts a crc.polynomial (crc.initial ∷ crc.length ∷ []) h.1 (h.2 ∷ h.3 ∷ []) one.1 in
    let three = first_parts a crc.initial (crc.length ∷ []) h.2 (h.3 ∷ []) two.1 in
    let four = first_parts a crc.length [] h.3 [] three.1 in
    (h.0, h.1, h.2, h.3, one.0, two.0, three.0, four.0, subst (λ z. CrcHolds h.0 h.1 h.2 z h.3 c) (sym is) h.5))
    only

pub values_summed : {E : Type 0} (r : Result (Option (List Bool)) E) (n polynomial initial len n' polynomial' initial' len' : Option ℤ) (covered : List Bool) → n ≡ n' → polynomial ≡ polynomial' → initial ≡ initial' → len ≡ len' →
    IfOk r (IsOnly (SummedBy n polynomial initial len covered)) → IfOk r (IsOnly (SummedBy n' polynomial' initial' len' covered))
values_summed r n polynomial initial len n' polynomial' initial' len' covered en ep ei el h =
    subst (λ x. IfOk r (IsOnly (SummedBy x polynomial' initial' len' covered))) en (subst (λ x. IfOk r (IsOnly (SummedBy n x initial' len' covered))) ep
    (subst (λ x. IfOk r (IsOnly (SummedBy n polynomial x len' covered))) ei (subst (λ x. IfOk r (IsOnly (SummedBy n polynomial initial x covered))) el h)))

-- what several expressions need
pub known_input : (format : Format) (slots : List Slot) (es : List Expr) (k : ℕ) (e : Expr) → knows_all format slots (inputs_of_all format es) ≡ true → slice_get es k ≡ Some e → knows_all format slots (inputs format e) ≡ true
known_input format slots [] k e h at = absurd (cc)
known_input format slots (x ∷ es) zero e h at = subst (λ z. knows_all format slots (inputs format z) ≡ true) (same_Some x e at) (knows_left format slots (inputs format x) (inputs_of_all format es) h)
known_input format slots (x ∷ es) (suc k) e h at = known_input format slots es k e (knows_right format slots (inputs format x) (inputs_of_all format es) h) at

-- ---- the covered bits

pub field_covered : (format : Format) (slots : List Slot) → length slots ≡ length format.fields → (i : ℕ) (side : Side) (covered : List Bool) → whole_of (learnt_at slots i side) ≡ Some covered →
    covered ≡ known_sides format slots (subject.Field i) side
field_covered format slots count i side covered e = sym (slot_side format.fields slots count i side ∙ whole_bits (learnt_at slots i side) covered e)

pub whole_covered : (format : Format) (slots : List Slot) → length slots ≡ length format.fields → (side : Side) → knows_all format slots (side_facts format subject.This side measure.Value) ≡ true →
    joined_whole slots side (parts_of format side) ≡ Some (known_sides format slots subject.This side)
whole_covered format slots count side known =
    let whole : are_whole slots side (parts_of format side) ≡ true = sym (whole_known format slots side) ∙ known in
    λ i. if whole i then Some (sym (whole_joined format slots count side) i) else None
