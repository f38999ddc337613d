-- Entries whose paths come first in a context, in their order.
use Rattle.std.proofs.Common.{◌≡◌, ℕ, zero, suc, ◌+◌, Bool, List, [], ◌∷◌, ◌++◌, length, drop, Option, Some, None, refl, sym, ap, ◌∙◌, subst, append_assoc, arith}
use Rattle.std.specs.Prelude.{slice_get}
use Rattle.std.specs.List.{flat_map}
use Rattle.std.specs.Map.{keys_of}
use Rattle.std.proofs.lemmas.List.{append-nil, length-map, map-append}
use Rattle.sem_context.specs.Entries.{Entries, IsFront}
use Rattle.sem_profile.specs.declared.profile.Part.{Part}
use Rattle.sem_profile.specs.declared.profile.Part.TheVariants.{Header, Control, Local}
use Rattle.sem_filling.specs.declared.filling.Filling.{Filling}
use Rattle.sem_filling.specs.declared.filling.FilledField.{FilledField}
use Rattle.sem_filling.specs.Fillings.{sides_of, inner_of}
use Rattle.sem_filling.specs.Entries.{Path, below, own_entry, entries_below, GoesOn}
use Rattle.sem_filling.specs.FillingLaws.{entries_at, entries_inside}

-- no entry more
pub stays : (paths : List Path) (values : List (List Bool)) (es : Entries) → es ≡ [] → GoesOn paths values values es
stays paths values es none before front = subst (IsFront paths values) (sym (append-nil before) ∙ ap (λ z. before ++ z) (sym none)) front

-- one, and then others
pub goes_further : (paths : List Path) (old now new : List (List Bool)) (es others : Entries) → GoesOn paths old now es → GoesOn paths now new others → GoesOn paths old new (es ++ others)
goes_further paths old now new es others one other before front = subst (IsFront paths new) (append_assoc before es others) (other (before ++ es) (one before front))

next_path : (before more : List Path) (path : Path) → slice_get (before ++ more) (length before) ≡ Some path → (rest : List Path) × (more ≡ path ∷ rest)
next_path [] [] path is = absurd (cc)
next_path [] (p ∷ ps) path is = let same : p ≡ path = cc in (ps, ap (λ z. z ∷ ps) same)
next_path (b ∷ bs) more path is = next_path bs more path is

-- the entry at the path that comes next
pub one_more : (paths : List Path) (values : List (List Bool)) (path : Path) (bits : List Bool) → slice_get paths (length values) ≡ Some path → GoesOn paths values (values ++ bits ∷ []) ((path, bits) ∷ [])
one_more paths values path bits is before front =
    let count : length values ≡ length (keys_of before) = ap length front.values_are ∙ length-map before (λ (e : Path × List Bool). e.1) ∙ sym (length-map before (λ (e : Path × List Bool). e.0)) in
    let at = next_path (keys_of before) front.rest path (sym (ap (slice_get (keys_of before ++ front.rest)) count) ∙ ap (λ ps. slice_get ps (length values)) (sym front.paths_are) ∙ is) in
    record {
      values_are = ap (λ vs. vs ++ bits ∷ []) front.values_are ∙ sym (map-append (λ (e : Path × List Bool). e.1) before ((path, bits) ∷ []));
      rest = at.0;
      paths_are =
          front.paths_are ∙ ap (λ ps. keys_of before ++ ps) at.1 ∙ sym (append_assoc (keys_of before) (path ∷ []) at.0)
          ∙ ap (λ ps. ps ++ at.0) (sym (map-append (λ (e : Path × List Bool). e.0) before ((path, bits) ∷ [])));
    }

-- the entries so far come first, and with those that are left they are all of them
abbrev pub GoesTo : List Path → List (List Bool) → List (List Bool) → Entries → Entries → Type 0
GoesTo paths old new left all = (before : Entries) → IsFront paths old before → (es : Entries) × IsFront paths new es × (es ++ left ≡ before ++ all)

pub begins : (paths : List Path) (values : List (List Bool)) (left all : Entries) → left ≡ all → GoesTo paths values values left all
begins paths values left all same before front = (before, front, ap (λ es. before ++ es) same)

pub goes_to : (paths : List Path) (old now new : List (List Bool)) (es left all : Entries) → GoesOn paths now new es → GoesTo paths old now (es ++ left) all → GoesTo paths old new left all
goes_to paths old now new es left all one so_far before front =
    let found = so_far before front in
    (found.0 ++ es, one found.0 found.1, append_assoc found.0 es left ∙ found.2)

pub ends : (paths : List Path) (old new : List (List Bool)) (all : Entries) → GoesTo paths old new [] all → GoesOn paths old new all
ends paths old new all so_far before front =
    let found = so_far before front in
    subst (IsFront paths new) (sym (append-nil found.0) ∙ found.2) found.1

-- from the first on
pub from_first : (paths : List Path) (values : List (List Bool)) (es : Entries) → GoesOn paths [] values es → IsFront paths values es
from_first paths values es goes = goes [] (record { values_are = refl; rest = paths; paths_are = refl })

own_is : (part : Part) (path : Path) (bits : List Bool) → (part ≡ Local → ⊥) → own_entry part path bits ≡ (path, bits) ∷ []
own_is Header path bits other = refl
own_is Control path bits other = refl
own_is Local path bits other = absurd (other refl)

-- the bits of a field's own entry were added
pub next_added : (paths : List Path) (old new : List (List Bool)) (part : Part) (here : Path) (bits copied : List Bool) → (part ≡ Local → ⊥) → slice_get paths (length old) ≡ Some here → new ≡ old ++ copied ∷ [] → copied ≡ bits
    → GoesOn paths old new (own_entry part here bits)
next_added paths old new part here bits copied other at is same =
    let added : old ++ bits ∷ [] ≡ new = ap (λ b. old ++ b ∷ []) (sym same) ∙ sym is in
    subst (λ v. GoesOn paths old v (own_entry part here bits)) added (subst (GoesOn paths old (old ++ bits ∷ [])) (sym (own_is part here bits other)) (one_more paths old here bits at))

-- the entries of the fields from a place on
from_next : (path : Path) (fields : List FilledField) (i : ℕ) (g : FilledField) → slice_get fields i ≡ Some g → flat_map (entries_at path) (drop i fields) ≡ entries_at path g ++ flat_map (entries_at path) (drop (suc i) fields)
from_next path [] i g is = absurd (cc)
from_next path (f ∷ fs) zero g is = let same : f ≡ g = cc in ap (λ z. entries_at path z ++ flat_map (entries_at path) fs) same
from_next path (f ∷ fs) (suc i) g is = from_next path fs i g is

-- one field more
pub turn : (paths : List Path) (old now new : List (List Bool)) (path : Path) (fields : List FilledField) (i : ℕ) (g : FilledField) (all : Entries) → slice_get fields i ≡ Some g → GoesOn paths now new (entries_at path g)
    → GoesTo paths old now (flat_map (entries_at path) (drop i fields)) all → GoesTo paths old new (flat_map (entries_at path) (drop (i + 1) fields)) all
turn paths old now new path fields i g all is one so_far =
    let n : suc i ≡ i + 1 = omega arith in
    subst (λ k. GoesTo paths old new (flat_map (entries_at path) (drop k fields)) all) n
    (goes_to paths old now new (entries_at path g) (flat_map (entries_at path) (drop (suc i) fields)) all one (subst (λ es. GoesTo paths old now es all) (from_next path fields i g is) so_far))

-- a field's own entry, and then those of the filling inside it
pub field_goes : (paths : List Path) (now mid new : List (List Bool)) (path here : Path) (g : FilledField) → here ≡ below path (sides_of g).declared.name → GoesOn paths now mid (own_entry (sides_of g).declared.part here (sides_of g).uncompressed)
    → GoesOn paths mid new (entries_inside (inner_of g) here) → GoesOn paths now new (entries_at path g)
field_goes paths now mid new path here g is own inside =
    goes_further paths now mid new (own_entry (sides_of g).declared.part (below path (sides_of g).declared.name) (sides_of g).uncompressed) (entries_inside (inner_of g) (below path (sides_of g).declared.name))
    (subst (λ h. GoesOn paths now mid (own_entry (sides_of g).declared.part h (sides_of g).uncompressed)) is own)
    (subst (λ h. GoesOn paths mid new (entries_inside (inner_of g) h)) is inside)

pub none_inside : (paths : List Path) (values : List (List Bool)) (o : Option Filling) (here : Path) → o ≡ None → GoesOn paths values values (entries_inside o here)
none_inside paths values o here is = stays paths values (entries_inside o here) (ap (λ z. entries_inside z here) is)

pub some_inside : (paths : List Path) (old new : List (List Bool)) (o : Option Filling) (f : Filling) (here : Path) → o ≡ Some f → GoesOn paths old new (entries_below f here) → GoesOn paths old new (entries_inside o here)
some_inside paths old new o f here is goes = subst (λ z. GoesOn paths old new (entries_inside z here)) (sym is) goes
