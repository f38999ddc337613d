-- Where a called method stands, and what is written there.
use Rattle.std.proofs.Common.{◌≡◌, sym, ◌∙◌, ap, subst, ℕ, ◌-◌, ◌<◌, ◌≤◌, Bool, List, [], length, drop, arith}
use Rattle.std.specs.Prelude.{Some, IsSomeAnd, slice_get, string_bytes}
use Rattle.std.proofs.lemmas.Option.{same_Some}
use Rattle.sem_context.specs.Entries.{bits_at}
use Rattle.sem_profile.specs.declared.profile.Field.{Field}
use Rattle.sem_profile.specs.declared.profile.Format.{Format}
use Rattle.sem_profile.specs.declared.profile.Method.{Method}
use Rattle.sem_profile.specs.Limits.{Chain, at_top}
use Rattle.sem_profile.specs.Resolved.{Resolved}
use Rattle.sem_profile.specs.Uses.{used_graph}
use Rattle.sem_filling.specs.declared.filling.Filling.{Filling}
use Rattle.sem_filling.specs.Entries.{below}
use Rattle.sem_filling.specs.Fillings.{is_header}
use Rattle.sem_filling.specs.Fits.{Context}
use Rattle.sem_filling.proofs.FitsSized.{and_then_some}
use Rattle.sem_filling.specs.Ready.{ArgumentsLieAt}
use Rattle.sem_expr.specs.declared.expr.Side.TheVariants.{Uncompressed}
use Rattle.cert_rules.specs.Slots.{learnt_at}
use Rattle.cert_accepted.specs.Accepted.{Accepting}
use Rattle.walk_steps.specs.Partial.{Reached}
use Rattle.walk_steps.specs.Calls.{IsCall}
use Rattle.walk_steps.specs.declared.calls.Call.{Call}
use Rattle.walk_steps.specs.declared.level_frame.LevelFrame.{LevelFrame}
use Rattle.walk_steps.specs.Finding.{IsAt}
use Rattle.cert_accepted.specs.declared.frame.AcceptedFrame.{AcceptedFrame}
use Rattle.cert_accepted.specs.Standing.{Stands, HasDepth, IsShallower}
use Rattle.cert_accepted.proofs.StandingDepth.{calls_are_shallower}
use Rattle.cert_candidates.specs.Writing.{Site, NoneNumbered, IsNumbered, header_offset, known_bits, source_for}
use Rattle.walk_write.specs.declared.fault.WriteFault.{WriteFault}
use Rattle.walk_write.specs.declared.fault.WriteFault.TheVariants.{Failed, OutOfMemory}
use Rattle.walk_write.specs.Going.{Serves, IsDeep, IsInside, BlamesInside, inside}
use Rattle.walk_write.specs.Walking.{site_of, IsBelow, IsWritten, Blames}
use Rattle.walk_write.proofs.Called.{is_method}

-- a claim of methods, of what is accepted, of a context and of a site
pub moved : (P : List Method → Accepting → Context → Site → Type 0) (m m' : List Method) → m ≡ m' → (a a' : Accepting) → a ≡ a' → (x x' : Context) → x ≡ x' → (s s' : Site) → s ≡ s' → P m a x s → P m' a' x' s'
moved P m m' em a a' ea x x' ex s s' es h = subst (P m' a' x') es (subst (λ z. P m' a' z s) ex (subst (λ z. P m' z x s) ea (subst (λ z. P z a x s) em h)))

module _ (a : Accepting) (level_frame : LevelFrame) (l : Reached) (serves : Serves a level_frame) (at : IsAt level_frame l) (i : ℕ) (call : Call) (is : IsCall level_frame l i call) where
  -- the called method has shorter chains of calls
  pub shallower : (depth : ℕ) → IsDeep level_frame depth → IsShallower level_frame.frame.profile.now.methods call.method depth
  shallower depth deep =
      let m = and_then_some (λ (x : Method). slice_get x.formats level_frame.format) (slice_get level_frame.frame.profile.now.methods level_frame.frame.method) l.format at.format_is in
      calls_are_shallower level_frame.frame.profile.now.methods level_frame.frame.method depth deep m.0 level_frame.format i call.method l.format is.field is.exprs m.1 m.2 is.field_is is.encoding_is

  module _ (place : AcceptedFrame) (a_is : place.accepted.now ≡ a) (context_is : place.frame.context.now ≡ level_frame.frame.context.now) (method_is : place.frame.method ≡ call.method) (args_is : place.frame.arguments.now ≡ call.arguments)
      (path_is : place.frame.path.now ≡ string_bytes call.path) where
    profile_is : place.accepted.now.profile ≡ level_frame.frame.profile.now
    profile_is = ap (λ (z : Accepting). z.profile) a_is ∙ sym serves.profile_is

    pub stands : place.frame.profile.now ≡ level_frame.frame.profile.now → Stands place
    stands own_is = record {
      profile_is = own_is ∙ sym profile_is;
      within = subst (λ k. k < length place.accepted.now.profile.methods) (sym method_is) (subst (λ (p : Resolved). call.method < length p.methods) (sym profile_is)
          (is_method level_frame.frame.profile.now serves.sound level_frame.frame.method level_frame.format i call.method l.format is.field is.exprs at.format_is is.field_is is.encoding_is));
      lie = subst (ArgumentsLieAt place.accepted.now.profile place.frame.method) (sym args_is) (subst (λ k. ArgumentsLieAt place.accepted.now.profile k call.arguments) (sym method_is)
          (subst (λ p. ArgumentsLieAt p call.method call.arguments) (sym profile_is) is.lie));
    }

    pub deep_inside : (depth : ℕ) → IsDeep level_frame depth → HasDepth place (depth - 1)
    deep_inside depth deep j n chain =
        let s = shallower depth deep in
        let below = s.below j n (subst (λ k. Chain (used_graph level_frame.frame.profile.now.methods) k n j) method_is (subst (λ (p : Resolved). Chain (used_graph p.methods) place.frame.method n j) profile_is chain)) in
        omega (arith, below)

    pub below_inside : (c : ℕ) → ((n : ℕ) → slice_get a.counts call.method ≡ Some n → c < n) → IsBelow place c
    below_inside c below n counted = below n (count_there n counted)
      where
        count_there : (n : ℕ) → slice_get place.accepted.now.counts place.frame.method ≡ Some n → slice_get a.counts call.method ≡ Some n
        count_there n e = subst (λ k. slice_get a.counts k ≡ Some n) method_is (subst (λ (z : Accepting). slice_get z.counts place.frame.method ≡ Some n) a_is e)

    -- what it takes from is that of the field
    abbrev Takes : List Bool → List Bool → Type 0
    Takes source bits = source_for (is_header is.field.declared.part) (drop (header_offset l.format l.slots i) source) (known_bits (learnt_at l.slots i Uncompressed)) ≡ bits

    same_site : (source bits : List Bool) → Takes source bits → (d : Field) → slice_get l.format.fields i ≡ Some d → site_of place bits [] ≡ inside level_frame l source i d call
    same_site source bits takes d field_is =
        let one : is.field ≡ d = same_Some is.field d (sym is.field_is ∙ field_is) in
        let path : place.frame.path.now ≡ below level_frame.frame.path.now d.declared.name = path_is ∙ (is.path_is ∙ ap (λ (z : Field). below level_frame.frame.path.now z.declared.name) one) in
        let source_is : bits ≡ (inside level_frame l source i d call).source =
        sym takes ∙ ap (λ (z : Field). source_for (is_header z.declared.part) (drop (header_offset l.format l.slots i) source) (known_bits (learnt_at l.slots i Uncompressed))) one in
        λ k. record { method = method_is k; args = args_is k; path = path k; source = source_is k; asked = [] }

    pub written : (source bits : List Bool) → Takes source bits → (c : ℕ) (g : Filling) → IsWritten place bits [] c g → IsInside a level_frame l source i call c g
    written source bits takes c g h d field_is =
        moved (λ methods b ctx site. IsNumbered methods b.certificate.methods b.counts ctx site c g) place.accepted.now.profile.methods level_frame.frame.profile.now.methods (ap (λ (p : Resolved). p.methods) profile_is) place.accepted.now a a_is
        (bits_at place.frame.context.now) (bits_at level_frame.frame.context.now) (ap bits_at context_is) (site_of place bits []) (inside level_frame l source i d call) (same_site source bits takes d field_is) h

    pub blamed : (e : WriteFault) (source bits : List Bool) → Takes source bits → (c : ℕ) → Blames e place bits [] c → BlamesInside e a level_frame l source i call c
    blamed OutOfMemory source bits takes c h d field_is = tt
    blamed (Failed m) source bits takes c h d field_is = record {
      some = h.some;
      within = λ n counted. h.within n (subst (λ (z : Accepting). slice_get z.counts place.frame.method ≡ Some n) (sym a_is) (subst (λ k. slice_get a.counts k ≡ Some n) (sym method_is) counted));
      none = moved (λ methods b ctx site. NoneNumbered methods b.certificate.methods b.counts ctx site c m) place.accepted.now.profile.methods level_frame.frame.profile.now.methods (ap (λ (p : Resolved). p.methods) profile_is) place.accepted.now a
          a_is (bits_at place.frame.context.now) (bits_at level_frame.frame.context.now) (ap bits_at context_is) (site_of place bits []) (inside level_frame l source i d call) (same_site source bits takes d field_is) h.none;
    }

-- there is a method in a chain of calls
pub one_deep : (level_frame : LevelFrame) (depth : ℕ) → IsDeep level_frame depth → 1 ≤ depth
one_deep level_frame depth deep = deep level_frame.frame.method 1 at_top

-- whether it is a header field
pub header_told : (x format : Format) → x ≡ format → (i : ℕ) (d : Field) → slice_get format.fields i ≡ Some d → (b : Bool) → IsSomeAnd (slice_get x.fields i) (λ (z : Field). b ≡ is_header z.declared.part) →
    b ≡ is_header d.declared.part
header_told x format same i d e b is =
    let there : slice_get x.fields i ≡ Some d = ap (λ (z : Format). slice_get z.fields i) same ∙ e in
    subst (λ o. IsSomeAnd o (λ (z : Field). b ≡ is_header z.declared.part)) there is
