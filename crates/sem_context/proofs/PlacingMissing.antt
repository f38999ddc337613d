-- Entries without bits, put first for the paths that are missing, change nothing of what the entries lead to.
use Rattle.std.proofs.Common.{◌≡◌, ℕ, Bool, true, false, cond, List, [], ◌∷◌, ◌++◌, Option, Some, None, refl, sym, ap, ◌∙◌, subst, append_assoc}
use Rattle.std.specs.Prelude.{IsSome, is_some}
use Rattle.std.specs.List.{AllByRecursion}
use Rattle.std.specs.Map.{keys_of}
use Rattle.std.specs.Str.{bytes_eq}
use Rattle.std.proofs.lemmas.Bool.{false≢true}
use Rattle.std.proofs.lemmas.Slice.Eq.{bytes_eq-Decides}
use Rattle.sem_context.specs.Entries.{Entries, bits_at, with_entry, overridden}
use Rattle.sem_context.specs.Placing.{HasPaths, with_path}
use Rattle.sem_context.proofs.EntriesOverrides.{bits_at-with_entry, with_entry-absent}

-- a path that is there stays
pub stays : (es : Entries) (path : List ℕ) (bits : List Bool) (q : List ℕ) → IsSome (bits_at es q) → IsSome (bits_at (with_entry es path bits) q)
stays es path bits q h = ap is_some (bits_at-with_entry es path bits q) ∙ by (bytes_eq path q)
  where
    by : (b : Bool) → is_some (cond b (Some bits) (bits_at es q)) ≡ true
    by true = refl
    by false = h

pub stay : (es others : Entries) (path : List ℕ) (bits : List Bool) → HasPaths es others → HasPaths (with_entry es path bits) others
stay es [] path bits h = h
stay es (o ∷ os) path bits h = (stays es path bits o.0 h.0, stay es os path bits h.1)

-- entries with a path, in which there was none at that path
added : (es : Entries) (path : List ℕ) → bits_at es path ≡ None → with_path es path ≡ with_entry es path []
added es path none = ap (λ o. cond (is_some o) es (es ++ (path, []) ∷ [])) none ∙ sym (with_entry-absent es path [] none)

-- and as they were, where it is there
as_it_was : (es : Entries) (path : List ℕ) → IsSome (bits_at es path) → with_path es path ≡ es
as_it_was es path h = ap (λ b. cond b es (es ++ (path, []) ∷ [])) h

-- bits at a path twice
twice : (es : Entries) (path : List ℕ) (first bits : List Bool) → with_entry (with_entry es path first) path bits ≡ with_entry es path bits
twice [] path first bits = ap (λ b. cond b ((path, bits) ∷ []) ((path, first) ∷ (path, bits) ∷ [])) ((bytes_eq-Decides path path).1 refl)
twice (e ∷ es) path first bits = by (twice es path first bits) (bytes_eq path e.0) refl
  where
    by : with_entry (with_entry es path first) path bits ≡ with_entry es path bits → (b : Bool) → bytes_eq path e.0 ≡ b → with_entry (cond b ((e.0, first) ∷ es) (e ∷ with_entry es path first)) path bits ≡ cond b ((e.0, bits) ∷ es) (e ∷ with_entry es path bits)
    by rest true is = ap (λ b. cond b ((e.0, bits) ∷ es) ((e.0, first) ∷ with_entry es path bits)) is
    by rest false is = ap (λ b. cond b ((e.0, bits) ∷ with_entry es path first) (e ∷ with_entry (with_entry es path first) path bits)) is ∙ ap (λ r. e ∷ r) rest

-- bits at a path that is there, beside entries that go last
beside : (es others : Entries) (path : List ℕ) (bits : List Bool) → IsSome (bits_at es path) → with_entry (es ++ others) path bits ≡ with_entry es path bits ++ others
beside [] others path bits h = absurd (false≢true h)
beside (e ∷ es) others path bits h = by (beside es others path bits) (bytes_eq path e.0) h
  where
    by : (IsSome (bits_at es path) → with_entry (es ++ others) path bits ≡ with_entry es path bits ++ others) → (b : Bool) → IsSome (cond b (Some e.1) (bits_at es path)) → cond b ((e.0, bits) ∷ (es ++ others)) (e ∷ with_entry (es ++ others) path bits) ≡ cond b ((e.0, bits) ∷ es) (e ∷ with_entry es path bits) ++ others
    by rest true k = refl
    by rest false k = ap (λ r. e ∷ r) (rest k)

option_cases : (o : Option (List Bool)) (P : Option (List Bool) → Type 0) → P None → (IsSome o → P o) → P o
option_cases None P none some = none
option_cases (Some x) P none some = some refl

-- a path that is added, and bits at one that is there, in either order
in_any_order : (es : Entries) (path q : List ℕ) (bits : List Bool) → IsSome (bits_at es q) → with_entry (with_path es path) q bits ≡ with_path (with_entry es q bits) path
in_any_order es path q bits there = by (bits_at es path) refl
  where
    apart : bits_at es path ≡ None → (b : Bool) → bytes_eq q path ≡ b → b ≡ false
    apart none false is = refl
    apart none true is = absurd (false≢true (sym (ap is_some (ap (bits_at es) ((bytes_eq-Decides q path).0 is) ∙ none)) ∙ there))

    by : (o : Option (List Bool)) → bits_at es path ≡ o → with_entry (with_path es path) q bits ≡ with_path (with_entry es q bits) path
    by (Some x) is =
        let h : IsSome (bits_at es path) = ap is_some is in
        ap (λ xs. with_entry xs q bits) (as_it_was es path h) ∙ sym (as_it_was (with_entry es q bits) path (stays es q bits path h))
    by None is =
        let none : bits_at (with_entry es q bits) path ≡ None = bits_at-with_entry es q bits path ∙ ap (λ b. cond b (Some bits) (bits_at es path)) (apart is (bytes_eq q path) refl) ∙ is in
        ap (λ o. with_entry (cond (is_some o) es (es ++ (path, []) ∷ [])) q bits) is
        ∙ beside es ((path, []) ∷ []) q bits there
        ∙ sym (ap (λ o. cond (is_some o) (with_entry es q bits) (with_entry es q bits ++ (path, []) ∷ [])) none)

-- a path of the entries that are put, added before them
pub missing_more : (es done : Entries) (path : List ℕ) (bits : List Bool) (rest : Entries) → HasPaths es done
    → overridden (with_path es path) (done ++ (path, bits) ∷ rest) ≡ overridden es (done ++ (path, bits) ∷ rest)
missing_more es [] path bits rest h = ap (λ xs. overridden xs rest) (by (bits_at es path) refl)
  where
    by : (o : Option (List Bool)) → bits_at es path ≡ o → with_entry (with_path es path) path bits ≡ with_entry es path bits
    by (Some x) is = ap (λ xs. with_entry xs path bits) (as_it_was es path (ap is_some is))
    by None is = ap (λ xs. with_entry xs path bits) (added es path is) ∙ twice es path [] bits
missing_more es (d ∷ done) path bits rest h =
    ap (λ xs. overridden xs (done ++ (path, bits) ∷ rest)) (in_any_order es path d.0 d.1 h.0)
    ∙ missing_more (with_entry es d.0 d.1) done path bits rest (stay es done d.0 d.1 h.1)

-- the path is there then, and those that were
pub is_there : (es : Entries) (path : List ℕ) → IsSome (bits_at (with_path es path) path)
is_there es path = by (bits_at es path) refl
  where
    by : (o : Option (List Bool)) → bits_at es path ≡ o → IsSome (bits_at (with_path es path) path)
    by (Some x) is = let h : IsSome (bits_at es path) = ap is_some is in ap (λ xs. is_some (bits_at xs path)) (as_it_was es path h) ∙ h
    by None is =
        ap (λ xs. is_some (bits_at xs path)) (added es path is)
        ∙ ap is_some (bits_at-with_entry es path [] path) ∙ ap (λ b. is_some (cond b (Some []) (bits_at es path))) ((bytes_eq-Decides path path).1 refl)

still_there : (es : Entries) (path q : List ℕ) → IsSome (bits_at es q) → IsSome (bits_at (with_path es path) q)
still_there es path q h = by (bits_at es path) refl
  where
    by : (o : Option (List Bool)) → bits_at es path ≡ o → IsSome (bits_at (with_path es path) q)
    by (Some x) is = ap (λ xs. is_some (bits_at xs q)) (as_it_was es path (ap is_some is)) ∙ h
    by None is = ap (λ xs. is_some (bits_at xs q)) (added es path is) ∙ stays es path [] q h

pub one_more_there : (es done : Entries) (path : List ℕ) (bits : List Bool) → HasPaths es done → HasPaths (with_path es path) (done ++ (path, bits) ∷ [])
one_more_there es [] path bits h = (is_there es path, tt)
one_more_there es (d ∷ done) path bits h = (still_there es path d.0 h.0, one_more_there es done path bits h.1)

-- what was there first is first still
pub still_first : (es first rest : Entries) (path : List ℕ) → es ≡ first ++ rest → (more : Entries) × (with_path es path ≡ first ++ more)
still_first es first rest path is = by (is_some (bits_at es path))
  where
    by : (b : Bool) → (more : Entries) × (cond b es (es ++ (path, []) ∷ []) ≡ first ++ more)
    by true = (rest, is)
    by false = (rest ++ (path, []) ∷ [], ap (λ xs. xs ++ (path, []) ∷ []) is ∙ append_assoc first rest ((path, []) ∷ []))

pub path_there : (es : Entries) (path : List ℕ) → IsSome (bits_at es path) → with_path es path ≡ es
path_there es path h = as_it_was es path h

pub path_missing : (es : Entries) (path : List ℕ) → is_some (bits_at es path) ≡ false → bits_at es path ≡ None
path_missing es path h = by (bits_at es path) h
  where
    by : (o : Option (List Bool)) → is_some o ≡ false → o ≡ None
    by None k = refl
    by (Some x) k = absurd (false≢true (sym k))

pub path_added : (es new : Entries) (path : List ℕ) → bits_at es path ≡ None → new ≡ es ++ (path, []) ∷ [] → new ≡ with_path es path
path_added es new path none is = is ∙ sym (ap (λ o. cond (is_some o) es (es ++ (path, []) ∷ [])) none)
