-- Entries whose paths come first in a context, in their order.
use Rattle.std.proofs.Common.{◌≡◌, ℕ, zero, suc, ◌+◌, Bool, false, cond, List, [], ◌∷◌, ◌++◌, length, drop, Option, Some, None, refl, sym, ap, ◌∙◌, subst, append_assoc, arith, true}
use Rattle.std.specs.Prelude.{slice_get}
use Rattle.std.specs.List.{flat_map, AllByRecursion, IsDistinct}
use Rattle.std.specs.Map.{keys_of}
use Rattle.std.specs.Str.{bytes_eq}
use Rattle.std.proofs.lemmas.List.{append-nil, length-map, map-append}
use Rattle.std.proofs.lemmas.Slice.Eq.{bytes_eq-Decides}
use Rattle.sem_context.specs.Entries.{AreDistinct, Entries, overridden, with_bits_at, with_entry}
use Rattle.sem_context.proofs.EntriesOverrides.{bytes_eq-sym}
use Rattle.sem_profile.specs.declared.profile.Part.{Part}
use Rattle.sem_profile.specs.declared.profile.Part.TheVariants.{Header, Control, Local}
use Rattle.sem_filling.specs.declared.filling.Filling.{Filling}
use Rattle.sem_filling.specs.declared.filling.FilledField.{FilledField}
use Rattle.sem_filling.specs.Fillings.{sides_of, inner_of}
use Rattle.sem_filling.specs.Entries.{Path, below, own_entry, entries, entries_below, next}
use Rattle.sem_filling.specs.FillingLaws.{entries_at, entries_inside}
use Rattle.sem_filling.proofs.FillingsAsked.{drop_at}
use Rattle.sem_pages.specs.declared.entries.Progress.{Progress}
use Rattle.sem_pages.specs.Progress.{HasFirst, GoesOn, IsPassed, WhereKnown, changed}
use Rattle.sem_pages.proofs.Growing.{length_push}

-- the first of some entries whose paths come first
begins_front : (ctx xs ys : Entries) → HasFirst ctx (xs ++ ys) → HasFirst ctx xs
begins_front ctx xs ys b = (
  keys_of ys ++ b.0,
  b.1 ∙ ap (λ ps. ps ++ b.0) (map-append (λ (e : Path × List Bool). e.0) xs ys) ∙ append_assoc (keys_of xs) (keys_of ys) b.0,
)

-- no entry more
pub stays : (known : Bool) (ctx : Entries) (p : Progress) (es : Entries) → es ≡ [] → GoesOn known ctx p p es
stays known ctx p es none before passed where_known = subst (IsPassed ctx p) (sym (append-nil before) ∙ ap (λ z. before ++ z) (sym none)) passed

-- one, and then others
pub goes_further : (known : Bool) (ctx : Entries) (old now new : Progress) (es others : Entries) → GoesOn known ctx old now es → GoesOn known ctx now new others → GoesOn known ctx old new (es ++ others)
goes_further known ctx old now new es others one other before passed where_known =
    let whole : WhereKnown known ctx ((before ++ es) ++ others) = subst (WhereKnown known ctx) (sym (append_assoc before es others)) where_known in
    subst (IsPassed ctx new) (append_assoc before es others) (other (before ++ es) (one before passed (λ is. begins_front ctx (before ++ es) others (whole is))) whole)

-- ---- the entry that comes next

next_path : (before more : List Path) (path : Path) → slice_get (before ++ more) (length before) ≡ Some path → (rest : List Path) × (more ≡ path ∷ rest)
next_path [] [] path is = absurd (cc)
next_path [] (p ∷ ps) path is = let same : p ≡ path = cc in (ps, ap (λ z. z ∷ ps) same)
next_path (b ∷ bs) more path is = next_path bs more path is

path_there : (before more : List Path) (path : Path) → slice_get (before ++ path ∷ more) (length before) ≡ Some path
path_there [] more path = refl
path_there (b ∷ bs) more path = path_there bs more path

key_at : (es : Entries) (i : ℕ) (path : Path) (bits : List Bool) → slice_get es i ≡ Some (path, bits) → slice_get (keys_of es) i ≡ Some path
key_at [] i path bits at = absurd (cc)
key_at (e ∷ es) zero path bits at = let same : e ≡ (path, bits) = cc in ap (λ z. Some z.0) same
key_at (e ∷ es) (suc i) path bits at = key_at es i path bits at

-- bits that are put right behind others
set_after : (xs ys : Entries) (y : Path × List Bool) (b : List Bool) → with_bits_at (xs ++ y ∷ ys) (length xs) b ≡ xs ++ (y.0, b) ∷ ys
set_after [] ys y b = refl
set_after (x ∷ xs) ys y b = ap (λ r. x ∷ r) (set_after xs ys y b)

-- one change more
changed_push : (es : Entries) (cs : List (ℕ × List Bool)) (c : ℕ × List Bool) → changed es (cs ++ c ∷ []) ≡ with_bits_at (changed es cs) c.0 c.1
changed_push es [] c = refl
changed_push es (d ∷ ds) c = changed_push (with_bits_at es d.0 d.1) ds c

-- it is passed where the changes give it these bits
grown : (ctx : Entries) (old new : Progress) (here : Path) (kept bits : List Bool) (before : Entries) → slice_get ctx old.passed ≡ Some (here, kept) → new.passed ≡ suc old.passed → IsPassed ctx old before
    → changed ctx new.changes.items ≡ before ++ (here, bits) ∷ drop (suc old.passed) ctx → IsPassed ctx new (before ++ (here, bits) ∷ [])
grown ctx old new here kept bits before at next passed is =
    let count : length (keys_of before) ≡ old.passed = length-map before (λ (e : Path × List Bool). e.0) ∙ passed.count in
    let found = next_path (keys_of before) passed.more here
    (ap (slice_get (keys_of before ++ passed.more)) count ∙ ap (λ ps. slice_get ps old.passed) (sym passed.paths_are) ∙ key_at ctx old.passed here kept at) in
    let grows = length_push before (here, bits) in
    let so_many = passed.count in
    record {
      count = omega (arith, grows, so_many, next);
      more = found.0;
      paths_are =
          passed.paths_are ∙ ap (λ ps. keys_of before ++ ps) found.1 ∙ sym (append_assoc (keys_of before) (here ∷ []) found.0)
          ∙ ap (λ ps. ps ++ found.0) (sym (map-append (λ (e : Path × List Bool). e.0) before ((here, bits) ∷ [])));
      changed_are = is ∙ sym (append_assoc before ((here, bits) ∷ []) (drop (suc old.passed) ctx)) ∙ ap (λ n. (before ++ (here, bits) ∷ []) ++ drop n ctx) (sym next);
    }

-- where it has them
pub same_passed : (known : Bool) (ctx : Entries) (old new : Progress) (here : Path) (kept bits : List Bool) → slice_get ctx old.passed ≡ Some (here, kept) → new.passed ≡ suc old.passed → new.changes.items ≡ old.changes.items → kept ≡ bits
    → GoesOn known ctx old new ((here, bits) ∷ [])
same_passed known ctx old new here kept bits at next none same before passed where_known =
    grown ctx old new here kept bits before at next passed
    (ap (changed ctx) none ∙ passed.changed_are ∙ ap (λ r. before ++ r) (drop_at ctx old.passed (here, kept) at ∙ ap (λ b. (here, b) ∷ drop (suc old.passed) ctx) same))

-- where it comes to have them
pub changed_passed : (known : Bool) (ctx : Entries) (old new : Progress) (here : Path) (kept bits copied : List Bool) → slice_get ctx old.passed ≡ Some (here, kept) → new.passed ≡ suc old.passed
    → new.changes.items ≡ old.changes.items ++ (old.passed, copied) ∷ [] → copied ≡ bits → GoesOn known ctx old new ((here, bits) ∷ [])
changed_passed known ctx old new here kept bits copied at next added same before passed where_known =
    grown ctx old new here kept bits before at next passed
    (ap (changed ctx) added ∙ changed_push ctx old.changes.items (old.passed, copied)
    ∙ ap (λ es. with_bits_at es old.passed copied) (passed.changed_are ∙ ap (λ r. before ++ r) (drop_at ctx old.passed (here, kept) at))
    ∙ ap (λ n. with_bits_at (before ++ (here, kept) ∷ drop (suc old.passed) ctx) n copied) (sym passed.count)
    ∙ set_after before (drop (suc old.passed) ctx) (here, kept) copied
    ∙ ap (λ b. before ++ (here, b) ∷ drop (suc old.passed) ctx) same)

-- ---- all of them

skip_first : (x : Path × List Bool) (cs es : Entries) → AllByRecursion (λ y. bytes_eq x.0 y ≡ false) (keys_of es) → overridden (x ∷ cs) es ≡ x ∷ overridden cs es
skip_first x cs [] apart = refl
skip_first x cs (e ∷ es) apart =
    ap (λ b. overridden (cond b ((x.0, e.1) ∷ cs) (x ∷ with_entry cs e.0 e.1)) es) (bytes_eq-sym e.0 x.0 ∙ apart.0)
    ∙ skip_first x (with_entry cs e.0 e.1) es apart.1

all_front : (P : Path → Type 0) (xs ys : List Path) → AllByRecursion P (xs ++ ys) → AllByRecursion P xs
all_front P [] ys all = tt
all_front P (x ∷ xs) ys all = (all.0, all_front P xs ys all.1)

-- entries whose paths come first are put in front
front_put : (ctx es : Entries) (more : List Path) → AreDistinct ctx → keys_of ctx ≡ keys_of es ++ more → es ++ drop (length es) ctx ≡ overridden ctx es
unfolding IsDistinct
front_put ctx [] more distinct paths = refl
front_put [] (e ∷ es) more distinct paths = absurd (cc)
front_put (c ∷ cs) (e ∷ es) more distinct paths =
    let same : c.0 ≡ e.0 = cc in
    let rest : keys_of cs ≡ keys_of es ++ more = cc in
    let apart : AllByRecursion (λ y. bytes_eq c.0 y ≡ false) (keys_of es) = all_front (λ y. bytes_eq c.0 y ≡ false) (keys_of es) more (subst (AllByRecursion (λ y. bytes_eq c.0 y ≡ false)) rest distinct.0) in
    ap (λ z. e ∷ z) (front_put cs es more distinct.1 rest)
    ∙ ap (λ p. (p, e.1) ∷ overridden cs es) (sym same)
    ∙ sym (skip_first (c.0, e.1) cs es apart)
    ∙ ap (λ b. overridden (cond b ((c.0, e.1) ∷ cs) (c ∷ with_entry cs e.0 e.1)) es) (sym ((bytes_eq-Decides e.0 c.0).1 (sym same)))

-- from the first on
pub passed_all : (known : Bool) (ctx : Entries) (begun p : Progress) (f : Filling) → begun.passed ≡ 0 → begun.changes.items ≡ [] → GoesOn known ctx begun p (entries f) → WhereKnown known ctx (entries f) → IsPassed ctx p (entries f)
passed_all known ctx begun p f first none goes = goes [] (record { count = sym first; more = keys_of ctx; paths_are = refl; changed_are = ap (changed ctx) none ∙ ap (λ n. drop n ctx) (sym first) })

pub from_first : (known : Bool) (ctx : Entries) (begun p : Progress) (f : Filling) → AreDistinct ctx → begun.passed ≡ 0 → begun.changes.items ≡ [] → GoesOn known ctx begun p (entries f) → WhereKnown known ctx (entries f) → changed ctx p.changes.items ≡ next ctx f
from_first known ctx begun p f distinct first none goes where_known =
    let passed = passed_all known ctx begun p f first none goes where_known in
    passed.changed_are ∙ ap (λ n. entries f ++ drop n ctx) (sym passed.count) ∙ front_put ctx (entries f) passed.more distinct passed.paths_are

-- then they come first
pub begins_then : (known : Bool) (ctx : Entries) (begun p : Progress) (f : Filling) → begun.passed ≡ 0 → begun.changes.items ≡ [] → GoesOn known ctx begun p (entries f) → WhereKnown known ctx (entries f) → HasFirst (changed ctx p.changes.items) (entries f)
begins_then known ctx begun p f first none goes where_known =
    let passed = passed_all known ctx begun p f first none goes where_known in
    (keys_of (drop p.passed ctx), ap keys_of passed.changed_are ∙ map-append (λ (e : Path × List Bool). e.0) (entries f) (drop p.passed ctx))

-- ---- the fields of a level

-- the entries so far are passed, and with those that are left they are all of them
abbrev pub GoesTo : Bool → Entries → Progress → Progress → Entries → Entries → Type 0
GoesTo known ctx old new left all = (before : Entries) → IsPassed ctx old before → WhereKnown known ctx (before ++ all) → (es : Entries) × IsPassed ctx new es × (es ++ left ≡ before ++ all)

pub begins : (known : Bool) (ctx : Entries) (p : Progress) (left all : Entries) → left ≡ all → GoesTo known ctx p p left all
begins known ctx p left all same before passed where_known = (before, passed, ap (λ es. before ++ es) same)

pub goes_to : (known : Bool) (ctx : Entries) (old now new : Progress) (es left all : Entries) → GoesOn known ctx now new es → GoesTo known ctx old now (es ++ left) all → GoesTo known ctx old new left all
goes_to known ctx old now new es left all one so_far before passed where_known =
    let found = so_far before passed where_known in
    let whole : (found.0 ++ es) ++ left ≡ before ++ all = append_assoc found.0 es left ∙ found.2 in
    (found.0 ++ es, one found.0 found.1 (λ is. begins_front ctx (found.0 ++ es) left (subst (HasFirst ctx) (sym whole) (where_known is))), whole)

pub ends : (known : Bool) (ctx : Entries) (old new : Progress) (all : Entries) → GoesTo known ctx old new [] all → GoesOn known ctx old new all
ends known ctx old new all so_far before passed where_known =
    let found = so_far before passed where_known in
    subst (IsPassed ctx new) (sym (append-nil found.0) ∙ found.2) found.1

own_is : (part : Part) (path : Path) (bits : List Bool) → (part ≡ Local → ⊥) → own_entry part path bits ≡ (path, bits) ∷ []
own_is Header path bits other = refl
own_is Control path bits other = refl
own_is Local path bits other = absurd (other refl)

-- a field's own entry is passed
pub next_added : (known : Bool) (ctx : Entries) (old new : Progress) (part : Part) (here : Path) (bits : List Bool) → (part ≡ Local → ⊥) → GoesOn known ctx old new ((here, bits) ∷ []) → GoesOn known ctx old new (own_entry part here bits)
next_added known ctx old new part here bits other goes = subst (GoesOn known ctx old new) (sym (own_is part here bits other)) goes

-- where its path is known to come next, it is that which comes next
pub known_added : (ctx : Entries) (old new : Progress) (part : Part) (here there : Path) (kept bits : List Bool) → (part ≡ Local → ⊥) → slice_get ctx old.passed ≡ Some (there, kept) → GoesOn true ctx old new ((there, bits) ∷ [])
    → GoesOn true ctx old new (own_entry part here bits)
known_added ctx old new part here there kept bits other at goes =
    next_added true ctx old new part here bits other (λ before passed where_known.
    let b = where_known refl in
    let count : length (keys_of before) ≡ old.passed = length-map before (λ (e : Path × List Bool). e.0) ∙ passed.count in
    let keys : keys_of ctx ≡ keys_of before ++ here ∷ b.0 =
    b.1 ∙ ap (λ ps. ps ++ b.0) (map-append (λ (e : Path × List Bool). e.0) before ((here, bits) ∷ [])) ∙ append_assoc (keys_of before) (here ∷ []) b.0 in
    let one : Some there ≡ Some here = sym (key_at ctx old.passed there kept at) ∙ ap (λ ps. slice_get ps old.passed) keys ∙ ap (slice_get (keys_of before ++ here ∷ b.0)) (sym count) ∙ path_there (keys_of before) b.0 here in
    let same : there ≡ here = cc in
    subst (λ p. IsPassed ctx new (before ++ (p, bits) ∷ [])) same (goes before passed (subst (λ p. WhereKnown true ctx (before ++ (p, bits) ∷ [])) (sym same) where_known)))

-- the entries of the fields from a place on
from_next : (path : Path) (fields : List FilledField) (i : ℕ) (g : FilledField) → slice_get fields i ≡ Some g → flat_map (entries_at path) (drop i fields) ≡ entries_at path g ++ flat_map (entries_at path) (drop (suc i) fields)
from_next path [] i g is = absurd (cc)
from_next path (f ∷ fs) zero g is = let same : f ≡ g = cc in ap (λ z. entries_at path z ++ flat_map (entries_at path) fs) same
from_next path (f ∷ fs) (suc i) g is = from_next path fs i g is

-- one field more
pub turn : (known : Bool) (ctx : Entries) (old now new : Progress) (path : Path) (fields : List FilledField) (i : ℕ) (g : FilledField) (all : Entries) → slice_get fields i ≡ Some g → GoesOn known ctx now new (entries_at path g)
    → GoesTo known ctx old now (flat_map (entries_at path) (drop i fields)) all → GoesTo known ctx old new (flat_map (entries_at path) (drop (i + 1) fields)) all
turn known ctx old now new path fields i g all is one so_far =
    let n : suc i ≡ i + 1 = omega arith in
    subst (λ k. GoesTo known ctx old new (flat_map (entries_at path) (drop k fields)) all) n
    (goes_to known ctx old now new (entries_at path g) (flat_map (entries_at path) (drop (suc i) fields)) all one (subst (λ es. GoesTo known ctx old now es all) (from_next path fields i g is) so_far))

-- a field's own entry, and then those of the filling inside it
pub field_goes : (known : Bool) (ctx : Entries) (now mid new : Progress) (path here : Path) (g : FilledField) → here ≡ below path (sides_of g).declared.name → GoesOn known ctx now mid (own_entry (sides_of g).declared.part here (sides_of g).uncompressed)
    → GoesOn known ctx mid new (entries_inside (inner_of g) here) → GoesOn known ctx now new (entries_at path g)
field_goes known ctx now mid new path here g is own inside =
    goes_further known ctx now mid new (own_entry (sides_of g).declared.part (below path (sides_of g).declared.name) (sides_of g).uncompressed) (entries_inside (inner_of g) (below path (sides_of g).declared.name))
    (subst (λ h. GoesOn known ctx now mid (own_entry (sides_of g).declared.part h (sides_of g).uncompressed)) is own)
    (subst (λ h. GoesOn known ctx mid new (entries_inside (inner_of g) h)) is inside)

pub none_inside : (known : Bool) (ctx : Entries) (p : Progress) (o : Option Filling) (here : Path) → o ≡ None → GoesOn known ctx p p (entries_inside o here)
none_inside known ctx p o here is = stays known ctx p (entries_inside o here) (ap (λ z. entries_inside z here) is)

pub some_inside : (known : Bool) (ctx : Entries) (old new : Progress) (o : Option Filling) (f : Filling) (here : Path) → o ≡ Some f → GoesOn known ctx old new (entries_below f here) → GoesOn known ctx old new (entries_inside o here)
some_inside known ctx old new o f here is goes = subst (λ z. GoesOn known ctx old new (entries_inside z here)) (sym is) goes
