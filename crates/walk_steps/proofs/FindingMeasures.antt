-- The lengths that library methods and constraints give.
use Rattle.std.proofs.Common.{◌≡◌, sym, ◌∙◌, ap, subst, ℕ, Bool, true, false, List, [], ◌∷◌}
use Rattle.std.proofs.lemmas.Option.{same_Some}
use Rattle.std.specs.Prelude.{Option, Some, None, IfSome, slice_get, option_and_then, ℤ, pos}
use Rattle.sem_context.specs.Entries.{bits_at}
use Rattle.cert_types.specs.declared.certificate.Step.TheVariants as step
use Rattle.cert_types.specs.declared.certificate.Version.TheVariants.{Two}
use Rattle.cert_types.specs.declared.rule.Fact.TheVariants.{LengthOf}
use Rattle.sem_expr.specs.declared.expr.Expr.{Expr}
use Rattle.sem_expr.specs.declared.expr.Side.{Side}
use Rattle.sem_expr.specs.declared.expr.Side.TheVariants.{Uncompressed, Compressed}
use Rattle.sem_expr.specs.Values.{Assignment, val}
use Rattle.sem_profile.specs.declared.profile.Encoding.TheVariants as encoding
use Rattle.sem_profile.specs.declared.profile.Field.{Field}
use Rattle.sem_profile.specs.declared.profile.Library.{Library}
use Rattle.sem_profile.specs.declared.profile.Library.TheVariants as library
use Rattle.sem_profile.specs.HasBounds.{size_of, is_empty}
use Rattle.sem_profile.specs.BoundsLaws.{library_exprs, encoding_exprs, in_encoding}
use Rattle.cert_rules.specs.Facts.{inputs}
use Rattle.cert_rules.specs.Rules.{common_rule, by_library, length_needs, length_given}
use Rattle.cert_rules.specs.Slots.{knows_all}
use Rattle.cert_rules.specs.Steps.{LengthIs, IsLengthOf}
use Rattle.cert_rules.proofs.ViewsLearning.{by_constraint, length_of}
use Rattle.walk_steps.specs.Partial.{Reached, stands}
use Rattle.walk_steps.specs.declared.level_frame.LevelFrame.{LevelFrame}
use Rattle.walk_steps.specs.Finding.{IsReady, Counts, shown_numbers, reference_at, spot_of, AllAsked}
use Rattle.walk_steps.proofs.FindingRuled.{constrained}

-- ---- by a library method

pub sized_asked : (side : Side) (m : Library) (e : Expr) → size_of side m ≡ Some e → (n : ℕ) × (slice_get (library_exprs m) n ≡ Some e)
sized_asked Uncompressed (library.UncompressedValue len v) e is = (0, is)
sized_asked Uncompressed (library.Irregular len) e is = (0, is)
sized_asked Uncompressed (library.CompressedValue len v) e is = absurd (cc)
sized_asked Uncompressed library.Static e is = absurd (cc)
sized_asked Uncompressed (library.Lsb k offset) e is = absurd (cc)
sized_asked Uncompressed (library.Crc crc) e is = absurd (cc)
sized_asked Compressed (library.CompressedValue len v) e is = (0, is)
sized_asked Compressed (library.Irregular len) e is = (0, is)
sized_asked Compressed (library.Lsb k offset) e is = (0, is)
sized_asked Compressed (library.Crc crc) e is = (0, is)
sized_asked Compressed (library.UncompressedValue len v) e is = absurd (cc)
sized_asked Compressed library.Static e is = absurd (cc)

-- the argument that is the length
pub sized_value : (a : Assignment) (ref : Option (List Bool)) (side : Side) (m : Library) (e : Expr) (n : ℕ) → size_of side m ≡ Some e → LengthIs a ref side m n → val a e ≡ Some (pos n)
sized_value a ref Uncompressed (library.UncompressedValue len v) e n is h = ap (val a) (sym (same_Some len e is)) ∙ h
sized_value a ref Uncompressed (library.Irregular len) e n is h = ap (val a) (sym (same_Some len e is)) ∙ h
sized_value a ref Uncompressed (library.CompressedValue len v) e n is h = absurd (cc)
sized_value a ref Uncompressed library.Static e n is h = absurd (cc)
sized_value a ref Uncompressed (library.Lsb k offset) e n is h = absurd (cc)
sized_value a ref Uncompressed (library.Crc crc) e n is h = absurd (cc)
sized_value a ref Compressed (library.CompressedValue len v) e n is h = ap (val a) (sym (same_Some len e is)) ∙ h
sized_value a ref Compressed (library.Irregular len) e n is h = ap (val a) (sym (same_Some len e is)) ∙ h
sized_value a ref Compressed (library.Lsb k offset) e n is h = ap (val a) (sym (same_Some k e is)) ∙ h
sized_value a ref Compressed (library.Crc crc) e n is h = ap (val a) (sym (same_Some crc.bits e is)) ∙ h
sized_value a ref Compressed (library.UncompressedValue len v) e n is h = absurd (cc)
sized_value a ref Compressed library.Static e n is h = absurd (cc)

-- none
pub empty_value : (a : Assignment) (ref : Option (List Bool)) (side : Side) (m : Library) (n : ℕ) → is_empty side m ≡ true → LengthIs a ref side m n → n ≡ 0
empty_value a ref Uncompressed (library.CompressedValue len v) n is h = h
empty_value a ref Uncompressed (library.Crc crc) n is h = h
empty_value a ref Uncompressed (library.UncompressedValue len v) n is h = absurd (cc)
empty_value a ref Uncompressed (library.Irregular len) n is h = absurd (cc)
empty_value a ref Uncompressed library.Static n is h = absurd (cc)
empty_value a ref Uncompressed (library.Lsb k offset) n is h = absurd (cc)
empty_value a ref Compressed (library.UncompressedValue len v) n is h = h
empty_value a ref Compressed library.Static n is h = h
empty_value a ref Compressed (library.CompressedValue len v) n is h = absurd (cc)
empty_value a ref Compressed (library.Irregular len) n is h = absurd (cc)
empty_value a ref Compressed (library.Lsb k offset) n is h = absurd (cc)
empty_value a ref Compressed (library.Crc crc) n is h = absurd (cc)

-- or that of the reference
pub referred_value : (a : Assignment) (ref : Option (List Bool)) (side : Side) (m : Library) (n : ℕ) → size_of side m ≡ None → is_empty side m ≡ false → LengthIs a ref side m n → IsLengthOf ref n
referred_value a ref Uncompressed library.Static n none full h = h
referred_value a ref Uncompressed (library.Lsb k offset) n none full h = h
referred_value a ref Uncompressed (library.CompressedValue len v) n none full h = absurd (cc)
referred_value a ref Uncompressed (library.Crc crc) n none full h = absurd (cc)
referred_value a ref Uncompressed (library.UncompressedValue len v) n none full h = absurd (cc)
referred_value a ref Uncompressed (library.Irregular len) n none full h = absurd (cc)
referred_value a ref Compressed (library.UncompressedValue len v) n none full h = absurd (cc)
referred_value a ref Compressed library.Static n none full h = absurd (cc)
referred_value a ref Compressed (library.CompressedValue len v) n none full h = absurd (cc)
referred_value a ref Compressed (library.Irregular len) n none full h = absurd (cc)
referred_value a ref Compressed (library.Lsb k offset) n none full h = absurd (cc)
referred_value a ref Compressed (library.Crc crc) n none full h = absurd (cc)

-- the arguments of a field's method may be asked for
pub all_asked : (l : Reached) (i : ℕ) (d : Field) (m : Library) → slice_get l.format.fields i ≡ Some d → d.encoding ≡ encoding.Library m → AllAsked l (library_exprs m)
all_asked l i d m at is n e here = stands (in_encoding i n at (ap (λ x. slice_get (encoding_exprs x) n) is ∙ here))

pub method_counts : (level_frame : LevelFrame) (l : Reached) (i : ℕ) (side : Side) (d : Field) (m : Library) (count : Option ℤ) → slice_get l.format.fields i ≡ Some d → d.encoding ≡ encoding.Library m →
    IsReady l (common_rule Two l.sizes l.format (step.MethodLength i side)) → ((n : ℕ) → LengthIs (shown_numbers l) (reference_at level_frame d) side m n → count ≡ Some (pos n)) → Counts level_frame l i side count
method_counts level_frame l i side d m count at is ready counts bits f shows =
    let p = level_frame.frame.profile.now in
    let needs = length_needs l.format side in
    let known : knows_all l.format l.slots (needs m) ≡ true =
    subst (IsReady l) (ap (option_and_then (λ d. by_library needs (LengthOf side i ∷ []) d.encoding)) at ∙ ap (by_library needs (LengthOf side i ∷ [])) is) ready in
    counts _ (length_of p.methods (bits_at level_frame.frame.context.now) (spot_of level_frame l bits) level_frame.format l.format l.slots f shows i d m side at is known)

-- ---- by a constraint

pub constraint_counts : (level_frame : LevelFrame) (l : Reached) (i : ℕ) (side : Side) (j : ℕ) (count : Option ℤ) → IsReady l (common_rule Two l.sizes l.format (step.ConstraintLength i side j)) →
    IfSome (option_and_then (length_given i side) (slice_get l.format.constraints j)) (λ e. knows_all l.format l.slots (inputs l.format e) ≡ true → count ≡ val (shown_numbers l) e) → Counts level_frame l i side count
constraint_counts level_frame l i side j count ready some bits f shows =
    let c = constrained l i (length_given i side) j (inputs l.format) (LengthOf side i ∷ []) ready in
    let same = ap (option_and_then (length_given i side)) c.constraint_at ∙ c.given_is in
    let is = (subst (λ o. IfSome o (λ e. knows_all l.format l.slots (inputs l.format e) ≡ true → count ≡ val (shown_numbers l) e)) same some) c.known in
    is ∙ by_constraint level_frame.frame.profile.now.methods (bits_at level_frame.frame.context.now) (spot_of level_frame l bits) level_frame.format l.format l.slots f shows i j side c.constraint c.expr c.constraint_at c.given_is c.known
