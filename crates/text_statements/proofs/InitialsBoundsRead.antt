-- Statements of INITIAL, read one after the other.
use Rattle.std.proofs.Common.{◌≡◌, ◌∙◌, ap, ℕ, ◌+◌, Bool, true, false, List, [], ◌∷◌, ◌++◌, refl, sym, subst, suc, zero, take, get_or, arith, cond, not, length, append_assoc, append-nil}
use Rattle.std.specs.Prelude.{slice_get, Some, None, Option}
use Rattle.std.specs.List.{All, list_any}
use Rattle.std.specs.Str.{bytes_eq}
use Rattle.std.proofs.lemmas.List.Elements.{All-nil, All-append}
use Rattle.text_tree.specs.declared.tree.Bound.{Bound}
use Rattle.text_tree.specs.declared.tree.Item.{Item}
use Rattle.text_tree.specs.declared.tree.Item.TheVariants as items
use Rattle.text_tree.specs.declared.tree.Section.{Section}
use Rattle.sem_profile.specs.declared.fault.ProfileFault.{ProfileFault}
use Rattle.sem_profile.specs.Precedence.{Judged, earlier, comes_before}
use Rattle.sem_profile.specs.Words.{word}
use Rattle.text_statements.specs.Names.{Names}
use Rattle.text_statements.specs.Initial.{IsInitial, IsNoInitial}
use Rattle.text_tree.specs.Limits.{is_initial_kind}
use Rattle.text_statements.specs.declared.initials.Initials.{Initials}
use Rattle.text_statements.specs.Initials.{AreInitials, no_values, first, again, HasNoValue, has_no_value, HasNoneBefore, has_bits, has_later, AreRead, ReadOn, with_value, bound_of, bounds_of, bounds_in, initial_part}
use Rattle.text_statements.proofs.InitialsFaultOrder.{not_itself, nor_before}
use Rattle.text_statements.proofs.InitialsFronts.{lists_taken, options_taken}

still_there : {X : Type 0} (xs ys : List X) (k : ℕ) (x : X) → slice_get xs k ≡ Some x → slice_get (xs ++ ys) k ≡ Some x
still_there [] ys k x h = let wrong : None ≡ Some x = h in absurd cc
still_there (z ∷ xs) ys zero x h = h
still_there (z ∷ xs) ys (suc k) x h = still_there xs ys k x h

last_there : {X : Type 0} (xs : List X) (x : X) → slice_get (xs ++ x ∷ []) (length xs) ≡ Some x
last_there [] x = refl
last_there (z ∷ xs) x = last_there xs x

all_one : {X : Type 0} (P : X → Type 0) (x : X) → P x → All P (x ∷ [])
all_one P x p zero d lt = p
all_one P x p (suc k) d lt = absurd (omega arith)

-- all have bits
bits_of_all : (s : Names) (f : ProfileFault) (bs : List Bound) (names : List (List ℕ)) (values : List (List Bool)) → AreInitials s bs names values → All (HasNoneBefore s f) bs
bits_of_all s f [] [] [] no_values = All-nil (HasNoneBefore s f)
bits_of_all s f _ _ _ (first {bs = bs} {names = names} {values = values} b bits have new is) =
    All-append (HasNoneBefore s f) bs (b ∷ []) (bits_of_all s f bs names values have) (all_one (HasNoneBefore s f) b (has_bits bits is))
bits_of_all s f _ _ _ (again {bs = bs} {names = names} {values = values} b bits have old is) =
    All-append (HasNoneBefore s f) bs (b ∷ []) (bits_of_all s f bs names values have) (all_one (HasNoneBefore s f) b (has_bits bits is))

-- a first fault stays the first after a statement with none before it
still_first : (s : Names) (bs : List Bound) (b : Bound) (f : ProfileFault) → HasNoneBefore s f b → HasNoValue s bs f → HasNoValue s (bs ++ b ∷ []) f
still_first s bs b f none (has_no_value k x here is all) =
    has_no_value k x (still_there bs (b ∷ []) k x here) is (All-append (HasNoneBefore s f) bs (b ∷ []) all (all_one (HasNoneBefore s f) b none))

-- the fault of the last statement comes first
last_first : (s : Names) (bs : List Bound) (b : Bound) (f : ProfileFault) → IsNoInitial s b f → All (HasNoneBefore s f) bs → HasNoValue s (bs ++ b ∷ []) f
last_first s bs b f is all =
    has_no_value (length bs) b (last_there bs b) is (All-append (HasNoneBefore s f) bs (b ∷ []) all (all_one (HasNoneBefore s f) b (has_later f is (not_itself f))))

none_sooner : (s : Names) (old f : ProfileFault) (b : Bound) → comes_before f old ≡ true → HasNoneBefore s old b → HasNoneBefore s f b
none_sooner s old f b sooner (has_bits bits is) = has_bits bits is
none_sooner s old f b sooner (has_later g is later) = has_later g is (nor_before g old f later sooner)

all_sooner : (s : Names) (bs : List Bound) (old f : ProfileFault) → comes_before f old ≡ true → HasNoValue s bs old → All (HasNoneBefore s f) bs
all_sooner s bs old f sooner (has_no_value k b here is all) = λ i d lt. none_sooner s old f (get_or bs i d) sooner (all i d lt)

-- none is read
pub read_none : (s : Names) (read : Initials) → ReadOn s [] read read
read_none s read = λ before so. subst (λ bs. AreRead s bs read) (sym (append-nil before)) so

pub nothing_read : (s : Names) (read : Initials) → read.names ≡ [] → read.values ≡ [] → read.fault ≡ None → AreRead s [] read
nothing_read s read names values fault = record {
  fine = λ e. subst (λ vs. AreInitials s [] read.names vs) (sym values) (subst (λ ns. AreInitials s [] ns []) (sym names) no_values);
  cause = λ f e. let wrong : None ≡ Some f = sym fault ∙ e in absurd cc;
}

-- some are read, and then more
pub read_both : (s : Names) (bs cs : List Bound) (old middle new : Initials) → ReadOn s bs old middle → ReadOn s cs middle new → ReadOn s (bs ++ cs) old new
read_both s bs cs old middle new p q = λ before so. subst (λ ds. AreRead s ds new) (append_assoc before bs cs) (q (before ++ bs) (p before so))

-- a statement with bits
pub read_bits : (s : Names) (b : Bound) (bits : List Bool) (name : List ℕ) (old new : Initials) → name ≡ word s.text b.name → IsInitial s b bits → new ≡ with_value old name bits
    → ReadOn s (b ∷ []) old new
read_bits s b bits name old new named is new_is = λ before so.
    subst (AreRead s (before ++ b ∷ [])) (sym (new_is ∙ ap (λ n. with_value old n bits) named))
    (record {
      fine = λ e. by before (list_any (bytes_eq (word s.text b.name)) old.names) refl (so.fine e);
      cause = λ f e. still_first s before b f (has_bits bits is) (so.cause f e);
    })
  where
    by : (before : List Bound) (a : Bool) → list_any (bytes_eq (word s.text b.name)) old.names ≡ a → AreInitials s before old.names old.values
        → AreInitials s (before ++ b ∷ []) (cond a old.names (old.names ++ word s.text b.name ∷ [])) (cond (not a) (old.values ++ bits ∷ []) old.values)
    by before true e have = again b bits have (ap not e) is
    by before false e have = first b bits have (ap not e) is

-- a statement with a fault
pub read_fault : (s : Names) (b : Bound) (f : ProfileFault) (names : List (List ℕ)) (values : List (List Bool)) (old new : Option ProfileFault) → IsNoInitial s b f → new ≡ earlier old (Some f)
    → (before : List Bound) → Judged (AreInitials s before names values) (HasNoValue s before) old
    → Judged (AreInitials s (before ++ b ∷ []) names values) (HasNoValue s (before ++ b ∷ [])) new
read_fault s b f names values old new is new_is before so =
    subst (Judged (AreInitials s (before ++ b ∷ []) names values) (HasNoValue s (before ++ b ∷ []))) (sym new_is) (by old so)
  where
    kept : (g h : ProfileFault) → Some g ≡ Some h → HasNoValue s (before ++ b ∷ []) g → HasNoValue s (before ++ b ∷ []) h
    kept g h e has = let same : g ≡ h = cc in subst (HasNoValue s (before ++ b ∷ [])) same has

    of_two : (g : ProfileFault) (t : Bool) → comes_before f g ≡ t → HasNoValue s before g
        → Judged (AreInitials s (before ++ b ∷ []) names values) (HasNoValue s (before ++ b ∷ [])) (cond t (Some f) (Some g))
    of_two g true e has = record {
      fine = λ e. let wrong : Some f ≡ None = e in absurd cc;
      cause = λ h same. kept f h same (last_first s before b f is (all_sooner s before g f e has));
    }
    of_two g false e has = record {
      fine = λ e. let wrong : Some g ≡ None = e in absurd cc;
      cause = λ h same. kept g h same (still_first s before b g (has_later f is e) has);
    }

    by : (o : Option ProfileFault) → Judged (AreInitials s before names values) (HasNoValue s before) o
        → Judged (AreInitials s (before ++ b ∷ []) names values) (HasNoValue s (before ++ b ∷ [])) (earlier o (Some f))
    by None so = record {
      fine = λ e. let wrong : Some f ≡ None = e in absurd cc;
      cause = λ h same. kept f h same (last_first s before b f is (bits_of_all s f before names values (so.fine refl)));
    }
    by (Some g) so = of_two g (comes_before f g) refl (so.cause g refl)

-- ---- one more of the statements of a section

no_bound : (x : Item) → ((b : Bound) → x ≡ items.Bound b → ⊥) → bounds_of (x ∷ []) ≡ []
no_bound (items.Bound b) other = absurd (other b refl)
no_bound (items.Field name bracket) other = refl
no_bound (items.Enforce at condition) other = refl

pub read_more : (s : Names) (xs : List Item) (i : ℕ) (x : Item) (b : Bound) (old middle new : Initials) → slice_get xs i ≡ Some x → x ≡ items.Bound b
    → ReadOn s (bounds_of (take i xs)) old middle → ReadOn s (b ∷ []) middle new → ReadOn s (bounds_of (take (i + 1) xs)) old new
read_more s xs i x b old middle new here is p q =
    subst (λ bs. ReadOn s bs old new) (sym (options_taken bound_of xs i x here ∙ ap (λ y. bounds_of (take i xs) ++ bounds_of (y ∷ [])) is))
    (read_both s (bounds_of (take i xs)) (b ∷ []) old middle new p q)

pub read_past : (s : Names) (xs : List Item) (i : ℕ) (x : Item) (old new : Initials) → slice_get xs i ≡ Some x → ((b : Bound) → x ≡ items.Bound b → ⊥)
    → ReadOn s (bounds_of (take i xs)) old new → ReadOn s (bounds_of (take (i + 1) xs)) old new
read_past s xs i x old new here other p =
    subst (λ bs. ReadOn s bs old new)
    (sym (options_taken bound_of xs i x here ∙ ap (λ bs. bounds_of (take i xs) ++ bs) (no_bound x other) ∙ append-nil (bounds_of (take i xs)))) p

-- ---- one more section

pub section_read : (s : Names) (xs : List Section) (i : ℕ) (x : Section) (old new : Initials) → slice_get xs i ≡ Some x → is_initial_kind x.kind ≡ true
    → AreRead s (bounds_in (take i xs)) old → ReadOn s (bounds_of x.items) old new → AreRead s (bounds_in (take (i + 1) xs)) new
section_read s xs i x old new here kind so on =
    let part : initial_part x ≡ bounds_of x.items = ap (λ b. cond b (bounds_of x.items) []) kind in
    subst (λ bs. AreRead s bs new) (sym (lists_taken initial_part xs i x here ∙ ap (λ bs. bounds_in (take i xs) ++ bs) part)) (on (bounds_in (take i xs)) so)

pub section_past : (s : Names) (xs : List Section) (i : ℕ) (x : Section) (read : Initials) → slice_get xs i ≡ Some x → is_initial_kind x.kind ≡ false
    → AreRead s (bounds_in (take i xs)) read → AreRead s (bounds_in (take (i + 1) xs)) read
section_past s xs i x read here kind so =
    let part : initial_part x ≡ [] = ap (λ b. cond b (bounds_of x.items) []) kind in
    subst (λ bs. AreRead s bs read)
    (sym (lists_taken initial_part xs i x here ∙ ap (λ bs. bounds_in (take i xs) ++ bs) part ∙ append-nil (bounds_in (take i xs)))) so
