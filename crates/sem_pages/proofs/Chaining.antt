-- Expressions as chains of operators.
use Rattle.std.proofs.Common.{◌≡◌, ◌∙◌, refl, sym, ap, subst, ℕ, suc, ◌+◌, List, [], ◌∷◌, ◌++◌, ◌<◌, length, drop, get_or, arith}
use Rattle.std.specs.Prelude.{ℤ, Option, None, Some, IfSome, slice_get}
use Rattle.sem_expr.specs.declared.expr.Attribute.{Attribute}
use Rattle.sem_expr.specs.declared.expr.Operator.{Operator}
use Rattle.sem_expr.specs.Values.{Assignment, apply, both}
use Rattle.sem_pages.specs.declared.chains.Chain.{Chain}
use Rattle.sem_pages.specs.declared.chains.Link.{Link}
use Rattle.sem_pages.specs.declared.chains.Operand.{Operand}
use Rattle.sem_pages.specs.declared.chains.Operand.TheVariants as operand
use Rattle.sem_pages.specs.declared.chains.Pair.{Pair}
use Rattle.sem_pages.specs.Chains.{Follows, IsApplied, IsOperand, Meaning, Spells, attribute, chain, ends, field, goes, number, pair, pair_means, parameter, up}
use Rattle.std.proofs.lemmas.Option.{slice_get-get_or}
use Rattle.sem_filling.proofs.FillingsAsked.{drop_at}
use Rattle.sem_pages.proofs.Growing.{front_get, last_get}

-- ---- among more chains

mutual
  pub operand_more : {chains : List Chain} {o : Operand} {m : Meaning} → (more : List Chain) → IsOperand chains o m → IsOperand (chains ++ more) o m
  operand_more more (number is) = number is
  operand_more more (parameter is) = parameter is
  operand_more more (field is) = field is
  operand_more more (attribute is) = attribute is
  operand_more more (pair is) = pair is
  operand_more {chains} more (chain {j = j} {c = c} at first links) = chain (front_get chains more j c at) (operand_more more first) (follows_more more links)

  follows_more : {chains : List Chain} {ls : List Link} {m whole : Meaning} → (more : List Chain) → Follows chains ls m whole → Follows (chains ++ more) ls m whole
  follows_more more (ends is) = ends is
  follows_more more (goes right applied rest) = goes (operand_more more right) applied (follows_more more rest)

pub spells_more : (chains more new : List Chain) (first : Operand) (links : List Link) (whole : Meaning) → new ≡ chains ++ more → Spells chains first links whole → Spells new first links whole
spells_more chains more new first links whole is s =
    subst (λ z. Spells z first links whole) (sym is) (record { begun = s.begun; is_first = operand_more more s.is_first; follow = follows_more more s.follow })

-- ---- the same meaning

follows_same : {chains : List Chain} {ls : List Link} {m whole : Meaning} (other : Meaning) → ((a : Assignment) → other a ≡ whole a) → Follows chains ls m whole → Follows chains ls m other
follows_same other same (ends is) = ends (λ a. same a ∙ is a)
follows_same other same (goes right applied rest) = goes right applied (follows_same other same rest)

pub operand_same : {chains : List Chain} {o : Operand} {m : Meaning} (other : Meaning) → ((a : Assignment) → other a ≡ m a) → IsOperand chains o m → IsOperand chains o other
operand_same other same (number is) = number (λ a. same a ∙ is a)
operand_same other same (parameter is) = parameter (λ a. same a ∙ is a)
operand_same other same (field is) = field (λ a. same a ∙ is a)
operand_same other same (attribute is) = attribute (λ a. same a ∙ is a)
operand_same other same (pair is) = pair (λ a. same a ∙ is a)
operand_same other same (chain at first links) = chain at first (follows_same other same links)

-- an operand with no links
pub spells_alone : (chains : List Chain) (first : Operand) (links : List Link) (whole m : Meaning) → links ≡ [] → IsOperand chains first m → ((a : Assignment) → whole a ≡ m a) → Spells chains first links whole
spells_alone chains first links whole m none is same = record { begun = m; is_first = is; follow = subst (λ z. Follows chains z m whole) (sym none) (ends same) }

-- ---- what is told by the form

number_means : {chains : List Chain} {o : Operand} {m : Meaning} (n : ℤ) → o ≡ operand.Number n → IsOperand chains o m → (a : Assignment) → m a ≡ Some n
number_means n e (number {n = k} is) a = let same : k ≡ n = cc in is a ∙ ap Some same
number_means n e (parameter is) a = absurd (cc)
number_means n e (field is) a = absurd (cc)
number_means n e (attribute is) a = absurd (cc)
number_means n e (pair is) a = absurd (cc)
number_means n e (chain at first links) a = absurd (cc)

pub nothing_follows : {chains : List Chain} {ls : List Link} {m whole : Meaning} → ls ≡ [] → Follows chains ls m whole → (a : Assignment) → whole a ≡ m a
nothing_follows none (ends is) = is
nothing_follows none (goes right applied rest) = absurd (cc)

pub record IsChainAt (chains : List Chain) (j : ℕ) (whole : Meaning) : Type 0 where
  pub found : Chain
  pub at : slice_get chains j ≡ Some found
  pub begun : Meaning
  pub is_first : IsOperand chains found.first begun
  pub follow : Follows chains found.links begun whole

chain_there : {chains : List Chain} {o : Operand} {whole : Meaning} (j : ℕ) → o ≡ operand.Chain j → IsOperand chains o whole → IsChainAt chains j whole
chain_there j e (number is) = absurd (cc)
chain_there j e (parameter is) = absurd (cc)
chain_there j e (field is) = absurd (cc)
chain_there j e (attribute is) = absurd (cc)
chain_there j e (pair is) = absurd (cc)
chain_there {chains} {o} {whole} j e (chain {j = k} {c = c} {m = m} at first links) =
    let same : k ≡ j = cc in
    subst (λ z. IsChainAt chains z whole) same (record { found = c; at = at; begun = m; is_first = first; follow = links })

pub chain_at : {chains : List Chain} {whole : Meaning} (j : ℕ) → IsOperand chains (operand.Chain j) whole → IsChainAt chains j whole
chain_at j is = chain_there j refl is

pub number_at : {chains : List Chain} {m : Meaning} (n : ℤ) → IsOperand chains (operand.Number n) m → (a : Assignment) → m a ≡ Some n
number_at n is = number_means n refl is

parameter_means : {chains : List Chain} {o : Operand} {m : Meaning} (i : ℕ) → o ≡ operand.Parameter i → IsOperand chains o m → (a : Assignment) → m a ≡ a.parameter i
parameter_means i e (number is) a = absurd (cc)
parameter_means i e (parameter {i = k} is) a = let same : k ≡ i = cc in is a ∙ ap a.parameter same
parameter_means i e (field is) a = absurd (cc)
parameter_means i e (attribute is) a = absurd (cc)
parameter_means i e (pair is) a = absurd (cc)
parameter_means i e (chain at first links) a = absurd (cc)

attribute_means : {chains : List Chain} {o : Operand} {m : Meaning} (t : Attribute) → o ≡ operand.Attribute t → IsOperand chains o m → (a : Assignment) → m a ≡ a.attribute t
attribute_means t e (number is) a = absurd (cc)
attribute_means t e (parameter is) a = absurd (cc)
attribute_means t e (field is) a = absurd (cc)
attribute_means t e (pair is) a = absurd (cc)
attribute_means t e (attribute {t = k} is) a = let same : k ≡ t = cc in is a ∙ ap a.attribute same
attribute_means t e (chain at first links) a = absurd (cc)

pub attribute_at : {chains : List Chain} {m : Meaning} (t : Attribute) → IsOperand chains (operand.Attribute t) m → (a : Assignment) → m a ≡ a.attribute t
attribute_at t is = attribute_means t refl is

field_means : {chains : List Chain} {o : Operand} {m : Meaning} (i : ℕ) → o ≡ operand.Field i → IsOperand chains o m → (a : Assignment) → m a ≡ a.attribute (up i)
field_means i e (number is) a = absurd (cc)
field_means i e (parameter is) a = absurd (cc)
field_means i e (field {i = k} is) a = let same : k ≡ i = cc in is a ∙ ap (λ j. a.attribute (up j)) same
field_means i e (attribute is) a = absurd (cc)
field_means i e (pair is) a = absurd (cc)
field_means i e (chain at first links) a = absurd (cc)

pub field_at : {chains : List Chain} {m : Meaning} (i : ℕ) → IsOperand chains (operand.Field i) m → (a : Assignment) → m a ≡ a.attribute (up i)
field_at i is = field_means i refl is

pair_there : {chains : List Chain} {o : Operand} {m : Meaning} (p : Pair) → o ≡ operand.Pair p → IsOperand chains o m → (a : Assignment) → m a ≡ pair_means p a
pair_there p e (number is) a = absurd (cc)
pair_there p e (parameter is) a = absurd (cc)
pair_there p e (field is) a = absurd (cc)
pair_there p e (attribute is) a = absurd (cc)
pair_there p e (pair {p = q} is) a = let same : q ≡ p = cc in is a ∙ ap (λ r. pair_means r a) same
pair_there p e (chain at first links) a = absurd (cc)

pub pair_at : {chains : List Chain} {m : Meaning} (p : Pair) → IsOperand chains (operand.Pair p) m → (a : Assignment) → m a ≡ pair_means p a
pair_at p is = pair_there p refl is

pub found_is : (o m : Option ℤ) → m ≡ o → IfSome o (λ v. m ≡ Some v)
found_is (Some x) m e = e
found_is None m e = tt

pub parameter_at : {chains : List Chain} {m : Meaning} (i : ℕ) → IsOperand chains (operand.Parameter i) m → (a : Assignment) → m a ≡ a.parameter i
parameter_at i is = parameter_means i refl is

-- ---- one link more

pub follows_push : {chains : List Chain} {ls : List Link} {m one : Meaning} (l : Link) (other whole : Meaning) → Follows chains ls m one → IsOperand chains l.right other → IsApplied l.operator one other whole → Follows chains (ls ++ l ∷ []) m whole
follows_push l other whole (ends is) right applied = goes right (λ a. applied a ∙ ap (λ o. both (apply l.operator) o (other a)) (is a)) (ends (λ a. refl))
follows_push l other whole (goes before own rest) right applied = goes before own (follows_push l other whole rest right applied)

pub spells_push : (chains : List Chain) (first right : Operand) (links new : List Link) (operator : Operator) (one other whole : Meaning) → new ≡ links ++ (record { operator = operator; right = right }) ∷ [] → Spells chains first links one
    → IsOperand chains right other → IsApplied operator one other whole → Spells chains first new whole
spells_push chains first right links new operator one other whole is s operand applied = record {
  begun = s.begun;
  is_first = s.is_first;
  follow = subst (λ z. Follows chains z s.begun whole) (sym is) (follows_push (record { operator = operator; right = right }) other whole s.follow operand applied);
}

-- two numbers are one
pub spells_number : (chains : List Chain) (first right x : Operand) (links new : List Link) (operator : Operator) (p q n : ℤ) (one other whole : Meaning) → first ≡ operand.Number p → right ≡ operand.Number q → links ≡ [] → new ≡ []
    → x ≡ operand.Number n → apply operator p q ≡ Some n → Spells chains first links one → IsOperand chains right other → IsApplied operator one other whole → Spells chains x new whole
spells_number chains first right x links new operator p q n one other whole first_is right_is none none' x_is made s operand applied = record {
  begun = whole;
  is_first = subst (λ z. IsOperand chains z whole) (sym x_is) (number (λ a.
      let left : one a ≡ Some p = nothing_follows none s.follow a ∙ number_means p first_is s.is_first a in
      let over : other a ≡ Some q = number_means q right_is operand a in
      applied a ∙ (λ i. both (apply operator) (left i) (over i)) ∙ made));
  follow = subst (λ z. Follows chains z whole whole) (sym none') (ends (λ a. refl));
}

pub applied : (operator : Operator) (value value' right right' v : ℤ) (m : Option ℤ) → value' ≡ value → right' ≡ right → m ≡ Some right → apply operator value' right' ≡ Some v → both (apply operator) (Some value) m ≡ Some v
applied operator value value' right right' v m kept own is made = (λ i. both (apply operator) (Some (sym kept i)) ((is ∙ ap Some (sym own)) i)) ∙ made

link_there : {chains : List Chain} {ls : List Link} {m whole : Meaning} (l : Link) (rest : List Link) → ls ≡ l ∷ rest → Follows chains ls m whole
    → (r : Meaning) × (next : Meaning) × IsOperand chains l.right r × IsApplied l.operator m r next × Follows chains rest next whole
link_there l rest e (ends is) = absurd (cc)
link_there {chains} {ls} {m} {whole} l rest e (goes {l = k} {ls = ks} {r = r} {next = next} right applied more) =
    let one : k ≡ l = cc in
    let others : ks ≡ rest = cc in
    (r, next, subst (λ (z : Link). IsOperand chains z.right r) one right, subst (λ (z : Link). IsApplied z.operator m r next) one applied, subst (λ z. Follows chains z next whole) others more)

pub one_link : (links : List Link) (d : Link) → length links ≡ 1 → links ≡ get_or links 0 d ∷ []
one_link [] d one = absurd (omega (arith, one))
one_link (x ∷ []) d one = refl
one_link (x ∷ y ∷ ys) d one = absurd (omega (arith, one))

-- a field with one link, whose operand is a number, is a pair
pub spells_pair : (chains : List Chain) (first : Operand) (links : List Link) (l : Link) (p : Pair) (whole : Meaning) → links ≡ l ∷ [] → first ≡ operand.Field p.field → l.right ≡ operand.Number p.number → l.operator ≡ p.operator → Spells chains first links whole
    → IsOperand chains (operand.Pair p) whole
spells_pair chains first links l p whole one first_is right_is operator_is s = pair (λ a.
    let t = link_there l [] one s.follow in
    let left : s.begun a ≡ a.attribute (up p.field) = field_means p.field first_is s.is_first a in
    let right : t.0 a ≡ Some p.number = number_means p.number right_is t.2 a in
    nothing_follows refl t.4 a ∙ t.3 a ∙ (λ i. both (apply (operator_is i)) (left i) (right i)))

-- ---- the end of a chain

pub closed_none : (old new : List Chain) (first : Operand) (links : List Link) (whole : Meaning) → new ≡ old → links ≡ [] → Spells old first links whole → IsOperand new first whole
closed_none old new first links whole is none s = subst (λ z. IsOperand z first whole) (sym is) (operand_same whole (nothing_follows none s.follow) s.is_first)

pub closed_one : (old new : List Chain) (first : Operand) (links : List Link) (n : ℕ) (whole : Meaning) → new ≡ old ++ (record { first = first; links = links }) ∷ [] → n ≡ length old → Spells old first links whole → IsOperand new (operand.Chain n) whole
closed_one old new first links n whole is count s =
    let c : Chain = record { first = first; links = links } in
    subst (λ z. IsOperand z (operand.Chain n) whole) (sym is) (subst (λ k. IsOperand (old ++ c ∷ []) (operand.Chain k) whole) (sym count)
    (chain {c = c} {m = s.begun} (last_get old c) (operand_more (c ∷ []) s.is_first) (follows_more (c ∷ []) s.follow)))

-- ---- values on the way

-- the meaning so far has this value, and the links that are left make the whole of it
pub record IsWorked (chains : List Chain) (a : Assignment) (links : List Link) (value : ℤ) (whole : Meaning) : Type 0 where
  pub meaning : Meaning
  pub value_is : meaning a ≡ Some value
  pub follow : Follows chains links meaning whole

pub worked_on : (chains : List Chain) (a : Assignment) (links rest : List Link) (l : Link) (value result : ℤ) (whole : Meaning) → links ≡ l ∷ rest → ((r : Meaning) → IsOperand chains l.right r → both (apply l.operator) (Some value) (r a) ≡ Some result)
    → IsWorked chains a links value whole → IsWorked chains a rest result whole
worked_on chains a links rest l value result whole is made w =
    let t = link_there l rest is w.follow in
    record { meaning = t.1; value_is = t.3 a ∙ (λ i. both (apply l.operator) (w.value_is i) (t.0 a)) ∙ made t.0 t.2; follow = t.4 }

pub worked_end : (chains : List Chain) (a : Assignment) (links : List Link) (value : ℤ) (whole : Meaning) → links ≡ [] → IsWorked chains a links value whole → whole a ≡ Some value
worked_end chains a links value whole none w = nothing_follows none w.follow a ∙ w.value_is

pub worked_first : (chains : List Chain) (a : Assignment) (c : Chain) (links : List Link) (j : ℕ) (value : ℤ) (whole : Meaning) → slice_get chains j ≡ Some c → links ≡ c.links → IsOperand chains (operand.Chain j) whole
    → ((m : Meaning) → IsOperand chains c.first m → m a ≡ Some value) → IsWorked chains a links value whole
worked_first chains a c links j value whole here links_are is finds =
    let t = chain_at j is in
    let one : Some t.found ≡ Some c = sym t.at ∙ here in
    let same : t.found ≡ c = cc in
    record {
      meaning = t.begun;
      value_is = finds t.begun (subst (λ (z : Chain). IsOperand chains z.first t.begun) same t.is_first);
      follow = subst (λ z. Follows chains z t.begun whole) (sym links_are) (subst (λ (z : Chain). Follows chains z.links t.begun whole) same t.follow);
    }

pub worked_next : (chains : List Chain) (a : Assignment) (links : List Link) (i : ℕ) (d : Link) (value result : ℤ) (whole : Meaning) → i < length links
    → ((r : Meaning) → IsOperand chains (get_or links i d).right r → both (apply (get_or links i d).operator) (Some value) (r a) ≡ Some result) → IsWorked chains a (drop i links) value whole → IsWorked chains a (drop (i + 1) links) result whole
worked_next chains a links i d value result whole lt made w =
    let n : suc i ≡ i + 1 = omega arith in
    subst (λ k. IsWorked chains a (drop k links) result whole) n
    (worked_on chains a (drop i links) (drop (suc i) links) (get_or links i d) value result whole (drop_at links i (get_or links i d) (slice_get-get_or links i d lt)) made w)
