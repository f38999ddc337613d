-- The certificate of the example is valid.
use Rattle.std.proofs.Common.{◌≡◌, refl, subst, ℕ, zero, suc, ◌≤◌, List, [], ◌∷◌, arith}
use Rattle.std.specs.Prelude.{Some, None, slice_get, codes}
use Rattle.sem_expr.specs.declared.expr.Side.TheVariants.{Uncompressed, Compressed}
use Rattle.sem_profile.specs.declared.profile.Format.{Format}
use Rattle.sem_profile.specs.declared.profile.Method.{Method}
use Rattle.sem_profile.specs.declared.profile.FormatSizes.{FormatSizes}
use Rattle.sem_profile.specs.declared.profile.MethodSizes.{MethodSizes}
use Rattle.cert_types.specs.declared.certificate.Version.TheVariants.{One}
use Rattle.cert_types.specs.declared.certificate.Node.{Node}
use Rattle.cert_types.specs.declared.certificate.Node.TheVariants as node
use Rattle.cert_types.specs.declared.certificate.Step.{Step}
use Rattle.cert_types.specs.declared.certificate.Step.TheVariants.{Take, LibraryUp, LibraryDown, MethodLength}
use Rattle.cert_types.specs.declared.certificate.Plans.{Plans}
use Rattle.cert_types.specs.declared.certificate.MethodPlans.{MethodPlans}
use Rattle.cert_rules.specs.Trees.{Reach, reach_at, everything, IsRight}
use Rattle.cert_rules.specs.Counts.{entry_at, entry_ways, AreCounts}
use Rattle.cert_rules.specs.Valid.{HasPlans, HasEntry}
use Rattle.cert_rules.specs.Example as e

given : {A : Type 0} (P : A → Type 0) (x d : A) → Some x ≡ Some d → P x → P d
given P x d e p = let same : x ≡ d = cc in subst P same p

only_zero : {A : Type 0} (x : A) (n : ℕ) (y : A) → slice_get (x ∷ []) n ≡ Some y → n ≡ 0
only_zero x zero y h = refl
only_zero x (suc n) y h = absurd (cc)

right : (n : ℕ) (x : Node) (reach : Reach) → slice_get (node.Leaf 0 ∷ []) n ≡ Some x → reach_at (everything ∷ []) (node.Leaf 0 ∷ []) n ≡ Some reach → IsRight (e.format ∷ []) e.sizes reach x
right zero x reach h h' = given (IsRight (e.format ∷ []) e.sizes reach) (node.Leaf 0) x h (λ n r. only_zero e.format n r.format r.format_at)
right (suc n) x reach h h' = absurd (cc)

abbrev read : List Step
read = MethodLength 0 Compressed ∷ Take 0 ∷ LibraryUp 0 ∷ []

abbrev write : List Step
write = MethodLength 0 Uncompressed ∷ Take 0 ∷ LibraryDown 0 ∷ []

abbrev plans : Plans
plans = record { read = read; write = write }

abbrev entry : MethodPlans
entry = record { name = codes "plain"; parameters = []; tree = node.Leaf 0 ∷ []; formats = record { name = None; fields = codes "x" ∷ []; plans = Some plans } ∷ [] }

has_plans : (n : ℕ) (format : Format) (sizes : FormatSizes) → slice_get (e.format ∷ []) n ≡ Some format → slice_get e.sizes.formats n ≡ Some sizes → HasPlans One (e.sizes ∷ []) sizes format entry n
has_plans zero format sizes is is_sizes = given (λ z. HasPlans One (e.sizes ∷ []) sizes z entry 0) e.format format is record {
  plans = plans;
  plans_are = refl;
  read = record { enabled = refl; complete = refl };
  write = record { enabled = refl; complete = refl };
}
has_plans (suc n) format sizes is is_sizes = absurd (cc)

has_entry : (k : ℕ) (m : Method) (s : MethodSizes) (first : Format) → slice_get (e.method ∷ []) k ≡ Some m → slice_get (e.sizes ∷ []) k ≡ Some s → slice_get m.formats 0 ≡ Some first → HasEntry One (e.sizes ∷ []) m s e.certificate.methods k
has_entry zero m s first is_m is_s is = given (λ z. HasEntry One (e.sizes ∷ []) z s e.certificate.methods 0) e.method m is_m (given (λ z. HasEntry One (e.sizes ∷ []) e.method z e.certificate.methods 0) e.sizes s is_s
    record { entry = entry; entry_is = refl; tree = record { whole = refl; each = right }; formats = has_plans })
has_entry (suc k) m s first is_m is_s is = absurd (cc)

right_counts : (k n : ℕ) (m : Method) → slice_get (e.method ∷ []) k ≡ Some m → slice_get (1 ∷ []) k ≡ Some n → n ≡ entry_ways (1 ∷ []) m.formats (entry_at e.certificate.methods k)
right_counts zero n m is_m is_n = given (λ (z : Method). n ≡ entry_ways (1 ∷ []) z.formats (entry_at e.certificate.methods 0)) e.method m is_m (let same : n ≡ 1 = cc in same)
right_counts (suc k) n m is_m is_n = absurd (cc)

are_counts : AreCounts (e.method ∷ []) e.certificate.methods (1 ∷ [])
are_counts = record { each = refl; right = right_counts }

pub plain_is_valid : e.PlainIsValid
plain_is_valid = record {
  entries = has_entry;
  counts = 1 ∷ [];
  are_counts = are_counts;
  few = λ n is. let same : 1 ≡ n = cc in omega arith;
  short = λ s is. given (λ (z : MethodSizes). z.whole.compressed.most ≤ 8192) e.sizes s is (omega arith);
}
