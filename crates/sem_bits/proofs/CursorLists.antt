use Rattle.std.proofs.Common.{◌≡◌, ℕ, ◌+◌, ◌-◌, ◌≤◌, List, ◌++◌, take, drop, length, sym, Bool, arith, refl}
use Rattle.std.specs.Prelude.{slice_range}
use Rattle.std.proofs.lemmas.List.{drop-drop, length-take, length-drop, take-append-drop, length-take-le}
use Rattle.std.proofs.Math.Seq.{take-add}
use Rattle.sem_bits.specs.Cursor.{Advances}

pub drop_add : {A : Type 0} (n m : ℕ) (l : List A) → drop (n + m) l ≡ drop m (drop n l)
drop_add n m l = sym (drop-drop m n l)

pub take_add : {A : Type 0} (n m : ℕ) (l : List A) → take (n + m) l ≡ take n l ++ take m (drop n l)
take_add n m l = take-add n m l

-- a part from one place to another takes a cursor there
pub advances : (all : List Bool) (p n : ℕ) → Advances (record { used = take p all; left = drop p all }) (record { used = take (p + n) all; left = drop (p + n) all }) (slice_range all p (p + n))
advances all p n =
    let e : (p + n) - p ≡ n = omega arith in
    record { used = rw (e, take-add p n all) refl; left = rw (e, drop_add p n all, take-append-drop n (drop p all)) refl }

-- and its length is how far that is
pub length_part : (all : List Bool) (p n : ℕ) → n ≤ length (drop p all) → length (slice_range all p (p + n)) ≡ n
length_part all p n h =
    let e : (p + n) - p ≡ n = omega arith in
    rw e (length-take-le n (drop p all) h)

pub ruleset steps = (take_add, drop_add, length-take, length-drop, advances, length_part)
