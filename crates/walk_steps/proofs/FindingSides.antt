-- The sides that library methods give to a field of a level.
use Rattle.std.proofs.Common.{◌≡◌, ◌∙◌, ap, subst, ℕ, ◌≤◌, Bool, true, false, List, [], ◌∷◌, length, arith}
use Rattle.std.specs.Prelude.{Option, Some, None, slice_get, option_and_then, option_map}
use Rattle.std.proofs.lemmas.Option.{same_Some}
use Rattle.sem_context.specs.Entries.{bits_at}
use Rattle.cert_types.specs.declared.certificate.Step.TheVariants as step
use Rattle.cert_types.specs.declared.certificate.Version.TheVariants.{Two}
use Rattle.cert_types.specs.declared.rule.Fact.TheVariants.{LengthOf, BitsOf}
use Rattle.sem_expr.specs.declared.expr.Expr.{Expr}
use Rattle.sem_expr.specs.declared.expr.Side.TheVariants.{Uncompressed, Compressed}
use Rattle.sem_library.specs.Methods.{IsOnly}
use Rattle.sem_profile.specs.declared.profile.Encoding.TheVariants as encoding
use Rattle.sem_profile.specs.declared.profile.Field.{Field}
use Rattle.sem_profile.specs.declared.profile.Library.{Library}
use Rattle.sem_profile.specs.BoundsLaws.{library_exprs}
use Rattle.cert_rules.specs.declared.slots.Learnt.{Learnt}
use Rattle.cert_rules.specs.declared.slots.Learnt.TheVariants.{Nothing, Length, Whole}
use Rattle.cert_rules.specs.Rules.{common_rule, by_library, up_needs, down_needs}
use Rattle.cert_rules.specs.Slots.{HasSide, knows_all, bits_of, learnt_at}
use Rattle.cert_rules.specs.Steps.{UpIs, DownIs}
use Rattle.cert_rules.specs.Views.{view, side_at}
use Rattle.cert_rules.proofs.ViewsLearning.{up, down}
use Rattle.cert_rules.specs.Reading.{known_sides}
use Rattle.sem_profile.specs.Resolved.{IsSound}
use Rattle.std.proofs.lemmas.List.{length-replicate}
use Rattle.walk_steps.specs.Partial.{Reached, IsKept, IsAsked}
use Rattle.walk_steps.specs.Sides.{whole_of}
use Rattle.walk_steps.specs.declared.level_frame.LevelFrame.{LevelFrame}
use Rattle.walk_steps.proofs.FindingGaining.{has_known}
use Rattle.walk_steps.proofs.FindingRuled.{within_slots}
use Rattle.walk_steps.proofs.FindingShown.{coded_short}
use Rattle.walk_steps.specs.Finding.{IsAt, IsReady, Finds, AreFound, AllAsked, shown_numbers, reference_at, spot_of}

-- an argument of a method that is known by its constructor
pub argument_asked : (l : Reached) {m n : Library} {e : Expr} (k : ℕ) → AllAsked l (library_exprs m) → m ≡ n → slice_get (library_exprs n) k ≡ Some e → IsAsked l.format e
argument_asked l k all same at = all k _ (ap (λ x. slice_get (library_exprs x) k) same ∙ at)

-- bits that are known
pub whole_bits : (l : Learnt) (bits : List Bool) → whole_of l ≡ Some bits → bits_of l ≡ bits
whole_bits Nothing bits e = absurd (cc)
whole_bits (Length n) bits e = absurd (cc)
whole_bits (Whole known) bits e = same_Some known bits e

-- the one for which a fact holds is found of any
pub only_found : (P : List Bool → Type 0) (o : Option (List Bool)) (x : List Bool) → IsOnly P o → P x → AreFound (option_map Whole o) x
only_found P None x none p = none x p
only_found P (Some y) x only p = only.1 x p

pub up_finds : (level_frame : LevelFrame) (l : Reached) (i : ℕ) (d : Field) (m : Library) (o : Option (List Bool)) → slice_get l.format.fields i ≡ Some d → d.encoding ≡ encoding.Library m →
    IsReady l (common_rule Two l.sizes l.format (step.LibraryUp i)) → IsOnly (UpIs (shown_numbers l) (reference_at level_frame d) (bits_of (learnt_at l.slots i Compressed)) m) o → Finds level_frame l i Uncompressed (option_map Whole o)
up_finds level_frame l i d m o at is ready only bits f shows =
    let gives = LengthOf Uncompressed i ∷ BitsOf Uncompressed i ∷ [] in
    let needs = up_needs l.format i in
    let known : knows_all l.format l.slots (needs m) ≡ true =
    subst (IsReady l) (ap (option_and_then (λ d. by_library needs gives d.encoding)) at ∙ ap (by_library needs gives) is) ready in
    only_found (UpIs (shown_numbers l) (reference_at level_frame d) (bits_of (learnt_at l.slots i Compressed)) m) o (side_at (view f) i Uncompressed) only
    (up level_frame.frame.profile.now.methods (bits_at level_frame.frame.context.now) (spot_of level_frame l bits) level_frame.format l.format l.slots f shows i d m at is known)

-- ---- down

own_short : (l : Learnt) (u : List Bool) → HasSide u l → length u ≤ 64 → length (bits_of l) ≤ 64
own_short Nothing u h short = omega arith
own_short (Length n) u h short = let e = length-replicate n false in let is : length u ≡ n = h in omega (arith, e, is, short)
own_short (Whole bits) u h short = subst (λ z. length z ≤ 64) h short

pub down_finds : (level_frame : LevelFrame) (l : Reached) (i : ℕ) (d : Field) (m : Library) (o : Option (List Bool)) → IsSound level_frame.frame.profile.now → IsKept l → IsAt level_frame l → slice_get l.format.fields i ≡ Some d →
    d.encoding ≡ encoding.Library m → IsReady l (common_rule Two l.sizes l.format (step.LibraryDown i)) →
    (length (bits_of (learnt_at l.slots i Uncompressed)) ≤ 64 → IsOnly (DownIs (known_sides l.format l.slots) (shown_numbers l) (bits_of (learnt_at l.slots i Uncompressed)) m) o) →
    Finds level_frame l i Compressed (option_map Whole o)
down_finds level_frame l i d m o sound kept at at_d is ready only bits f shows =
    let gives = LengthOf Compressed i ∷ BitsOf Compressed i ∷ [] in
    let needs = down_needs l.format i in
    let known : knows_all l.format l.slots (needs m) ≡ true =
    subst (IsReady l) (ap (option_and_then (λ d. by_library needs gives d.encoding)) at_d ∙ ap (by_library needs gives) is) ready in
    let short = coded_short level_frame l sound kept at bits f shows i (within_slots l kept i d at_d) d m at_d is Uncompressed in
    let own = own_short (learnt_at l.slots i Uncompressed) (side_at (view f) i Uncompressed) (has_known f l.slots shows.has i Uncompressed) short in
    only_found (DownIs (known_sides l.format l.slots) (shown_numbers l) (bits_of (learnt_at l.slots i Uncompressed)) m) o (side_at (view f) i Compressed) (only own)
    (down level_frame.frame.profile.now.methods (bits_at level_frame.frame.context.now) (spot_of level_frame l bits) level_frame.format l.format l.slots f shows i d m at_d is known)
