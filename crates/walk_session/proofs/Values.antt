-- The values of asked fields, one after another.
use Rattle.std.proofs.Common.{◌≡◌, ◌∙◌, refl, sym, ap, subst, ℕ, ◌+◌, ◌*◌, ◌/◌, ◌^◌, ◌<◌, ◌≤◌, Bool, false, List, [], ◌∷◌, ◌++◌, length, get_or, take, drop, replicate, arith, append_assoc, length-append}
use Rattle.std.specs.Prelude.{pos, Option, Some, None, IfSome, IfNone}
use Rattle.std.proofs.lemmas.List.{append-nil, drop-drop, take_at, drop_more, drop_all, take-append-drop, length-drop, length-replicate}
use Rattle.sem_bits.specs.Octets.{Holds}
use Rattle.sem_bits.proofs.Octets.{length-bits_of}
use Rattle.sem_bits.proofs.OctetsHeld.{split_same}
use Rattle.sem_filling.specs.declared.filling.AskedValue.{AskedValue}
use Rattle.sem_profile.specs.declared.asked.AskedField.{AskedField}
use Rattle.walk_session.specs.Asked.{IsValue, AreValues, no_values, values_on, Spells, spells_none, spells_on, IsValueAt, LacksValue}

-- so many of the fields have their values in so many of the octets
pub record SoFar (fields : List AskedField) (octets : List ℕ) (i place : ℕ) (values : List AskedValue) : Type 0 where
  pub within : place ≤ length octets
  pub on : (more : List AskedValue) → AreValues (drop i fields) (drop place octets) more → AreValues fields octets (values ++ more)
  pub back : (all : List AskedValue) → AreValues fields octets all → (more : List AskedValue) × AreValues (drop i fields) (drop place octets) more

pub none_yet : (fields : List AskedField) (octets : List ℕ) → SoFar fields octets 0 0 []
none_yet fields octets = record { within = omega arith; on = λ more are. are; back = λ all are. (all, are) }

-- as many octets as the bits fill
count_held : (o : List ℕ) (b : List Bool) (h : Holds o b) → 8 * length o ≡ length b + h.padding
count_held o b h = sym (length-bits_of o) ∙ ap length h.filled ∙ length-append b (replicate h.padding false) ∙ ap (λ n. length b + n) (length-replicate h.padding false)

pub count_of : (o : List ℕ) (b : List Bool) → Holds o b → length o ≡ (length b + 7) / 8
count_of o b h = let n = count_held o b h in let few = h.few in omega arith

-- two values of a field at the front of octets are as long
same_count : (f : AskedField) (one other : List ℕ) (v w : AskedValue) → IsValue f one v → IsValue f other w → length one ≡ length other
same_count f one other v w x y =
    let n : pos (length v.bits) ≡ pos (length w.bits) = sym x.length_is ∙ y.length_is in
    let m : length v.bits ≡ length w.bits = cc in
    count_of one v.bits x.holds ∙ ap (λ k. (k + 7) / 8) m ∙ sym (count_of other w.bits y.holds)

module _ (f : AskedField) (fs : List AskedField) where
  -- the rest of the values, where those of the octets begin with one of the field
  rest_of : (octets here : List ℕ) (v : AskedValue) (rest : List ℕ) → IsValue f here v → octets ≡ here ++ rest → (fields : List AskedField) → fields ≡ f ∷ fs → (all : List AskedValue) → AreValues fields octets all →
      (more : List AskedValue) × AreValues fs rest more
  rest_of octets here v rest is split fields shape all are = by fields octets all are shape refl
    where
      by : (gs : List AskedField) (os : List ℕ) (vs : List AskedValue) → AreValues gs os vs → gs ≡ f ∷ fs → os ≡ octets → (more : List AskedValue) × AreValues fs rest more
      by gs os vs no_values e same = let n : length {A = AskedField} [] ≡ length (f ∷ fs) = ap length e in absurd (omega arith)
      by (g ∷ gs) os (w ∷ ws) (values_on {here = front} {rest = back} one more) e same =
          let first : g ≡ f = cc in
          let others : gs ≡ fs = cc in
          let long = same_count f front here w v (subst (λ z. IsValue z front w) first one) is in
          let parts = split_same front here back rest long (same ∙ split) in
          (ws, subst (λ z. AreValues fs z ws) parts.1 (subst (λ z. AreValues z back ws) others more))

pub one_more : (fields : List AskedField) (octets : List ℕ) (i place : ℕ) (values : List AskedValue) (f : AskedField) (v : AskedValue) (n : ℕ) → i < length fields → get_or fields i f ≡ f →
    IsValueAt f (drop place octets) v n → SoFar fields octets i place values → SoFar fields octets (i + 1) (place + n) (values ++ v ∷ [])
one_more fields octets i place values f v n inside at is so_far =
    let split : drop place octets ≡ take n (drop place octets) ++ drop n (drop place octets) = sym (take-append-drop n (drop place octets)) in
    let next : drop n (drop place octets) ≡ drop (place + n) octets = drop-drop n place octets in
    let shape : drop i fields ≡ f ∷ drop (i + 1) fields = drop_more fields i f inside ∙ ap (λ g. g ∷ drop (i + 1) fields) at in
    record {
      within = (let inner = is.within in let before = so_far.within in omega (arith, length-drop place octets));
      on = λ more are.
          subst (AreValues fields octets) (sym (append_assoc values (v ∷ []) more))
          (so_far.on (v ∷ more) (subst (λ z. AreValues z (drop place octets) (v ∷ more)) (sym shape) (subst (λ z. AreValues (f ∷ drop (i + 1) fields) z (v ∷ more)) (sym split) (values_on is.value (subst (λ z. AreValues (drop (i + 1) fields) z more) (sym next) are)))));
      back = λ all are.
          let rest = so_far.back all are in
          let left = rest_of f (drop (i + 1) fields) (drop place octets) (take n (drop place octets)) v (drop n (drop place octets)) is.value split (drop i fields) shape rest.0 rest.1 in
          (left.0, subst (λ z. AreValues (drop (i + 1) fields) z left.0) next left.1);
    }

-- where a field has no value, there are none
pub lacking : (fields : List AskedField) (octets : List ℕ) (i place : ℕ) (values : List AskedValue) (f : AskedField) → i < length fields → get_or fields i f ≡ f → LacksValue f (drop place octets) →
    SoFar fields octets i place values → (all : List AskedValue) → AreValues fields octets all → ⊥
lacking fields octets i place values f inside at lacks so_far all are =
    let rest = so_far.back all are in
    by (drop i fields) (drop place octets) rest.0 rest.1 (drop_more fields i f inside ∙ ap (λ g. g ∷ drop (i + 1) fields) at) refl
  where
    by : (gs : List AskedField) (os : List ℕ) (vs : List AskedValue) → AreValues gs os vs → gs ≡ f ∷ drop (i + 1) fields → os ≡ drop place octets → ⊥
    by gs os vs no_values e same = let n : length {A = AskedField} [] ≡ length (f ∷ drop (i + 1) fields) = ap length e in omega arith
    by (g ∷ gs) os (w ∷ ws) (values_on {here = front} {rest = back} one more) e same =
        let first : g ≡ f = cc in lacks front back w (sym same) (subst (λ z. IsValue z front w) first one)

-- of no fields there are values in no octets alone
nothing_left : (fields : List AskedField) (octets : List ℕ) (all : List AskedValue) → AreValues fields octets all → fields ≡ [] → octets ≡ []
nothing_left fields octets all no_values e = refl
nothing_left (g ∷ gs) octets all (values_on one more) e = let n : length (g ∷ gs) ≡ length {A = AskedField} [] = ap length e in absurd (omega arith)

pub too_many : (fields : List AskedField) (octets : List ℕ) (i place : ℕ) (values : List AskedValue) → length fields ≤ i → place < length octets → SoFar fields octets i place values →
    (all : List AskedValue) → AreValues fields octets all → ⊥
too_many fields octets i place values done more so_far all are =
    let rest = so_far.back all are in
    let none : drop place octets ≡ [] = nothing_left (drop i fields) (drop place octets) rest.0 rest.1 (drop_all i fields done) in
    let count : length (drop place octets) ≡ 0 = ap length none in omega (arith, length-drop place octets)

pub all_there : (fields : List AskedField) (octets : List ℕ) (i place : ℕ) (values : List AskedValue) → length fields ≤ i → length octets ≤ place → SoFar fields octets i place values → AreValues fields octets values
all_there fields octets i place values done whole so_far =
    subst (AreValues fields octets) (append-nil values)
    (so_far.on [] (subst (λ z. AreValues z (drop place octets) []) (sym (drop_all i fields done)) (subst (λ z. AreValues [] z []) (sym (drop_all place octets whole)) no_values)))

-- ---- one value

pub no_count : (f : AskedField) (octets : List ℕ) → ((n : ℕ) → n < 2 ^ 31 → f.length ≡ pos n → ⊥) → LacksValue f octets
no_count f octets none here rest v split is = none (length v.bits) is.few is.length_is

pub too_short : (f : AskedField) (octets : List ℕ) (n : ℕ) → f.length ≡ pos n → length octets < (n + 7) / 8 → LacksValue f octets
too_short f octets n long short here rest v split is =
    let e : pos (length v.bits) ≡ pos n = sym is.length_is ∙ long in
    let m : length v.bits ≡ n = cc in
    let c : length here ≡ (n + 7) / 8 = count_of here v.bits is.holds ∙ ap (λ k. (k + 7) / 8) m in
    let all : length octets ≡ length here + length rest = ap length split ∙ length-append here rest in omega arith

pub not_held : (f : AskedField) (octets : List ℕ) (n : ℕ) → f.length ≡ pos n → n < 2 ^ 31 → ((b : List Bool) → length b ≡ n → n < 2 ^ 31 → Holds (take ((n + 7) / 8) octets) b → ⊥) → LacksValue f octets
not_held f octets n long few none here rest v split is =
    let e : pos (length v.bits) ≡ pos n = sym is.length_is ∙ long in
    let m : length v.bits ≡ n = cc in
    let c : length here ≡ (n + 7) / 8 = count_of here v.bits is.holds ∙ ap (λ k. (k + 7) / 8) m in
    let front : here ≡ take ((n + 7) / 8) octets = sym (take_at here rest ((n + 7) / 8) c) ∙ ap (take ((n + 7) / 8)) (sym split) in
    none v.bits m few (subst (λ z. Holds z v.bits) front is.holds)

-- ---- spelling

pub record SpelledSoFar (values : List AskedValue) (i : ℕ) (octets : List ℕ) : Type 0 where
  pub on : (rest : List ℕ) → Spells (drop i values) rest → Spells values (octets ++ rest)

pub none_spelled : (values : List AskedValue) → SpelledSoFar values 0 []
none_spelled values = record { on = λ rest s. s }

pub one_spelled : (values : List AskedValue) (i : ℕ) (octets own : List ℕ) (v : AskedValue) → i < length values → get_or values i v ≡ v → Holds own v.bits → SpelledSoFar values i octets →
    SpelledSoFar values (i + 1) (octets ++ own)
one_spelled values i octets own v inside at holds so_far =
    let shape : drop i values ≡ v ∷ drop (i + 1) values = drop_more values i v inside ∙ ap (λ g. g ∷ drop (i + 1) values) at in
    record { on = λ rest s. subst (Spells values) (sym (append_assoc octets own rest)) (so_far.on (own ++ rest) (subst (λ z. Spells z (own ++ rest)) (sym shape) (spells_on holds s))) }

pub all_spelled : (values : List AskedValue) (i : ℕ) (octets : List ℕ) → length values ≤ i → SpelledSoFar values i octets → Spells values octets
all_spelled values i octets done so_far = subst (Spells values) (append-nil octets) (so_far.on [] (subst (λ z. Spells z []) (sym (drop_all i values done)) spells_none))

-- ---- what an answer says where it is known

pub when_none : {A P : Type 0} (o : Option A) → o ≡ None → IfNone o P → P
when_none {P = P} o e h = subst (λ z. IfNone z P) e h

pub when_some : {A : Type 0} (P : A → Type 0) (o : Option A) (x : A) → o ≡ Some x → IfSome o P → P x
when_some P o x e h = subst (λ z. IfSome z P) e h
