-- How a walk goes on and fails at a call.
use Rattle.std.proofs.Common.{◌≡◌, refl, sym, ◌∙◌, ap, subst, ℕ, ◌+◌, ◌*◌, ◌^◌, ◌<◌, ◌≤◌, Bool, true, false, List, [], ◌∷◌, ◌++◌, length, inl, inr, arith, eq-eqb}
use Rattle.std.specs.Prelude.{Option, Some, None, IsSomeAnd, nat_eq, slice_get, option_and_then, ◌||◌, not}
use Rattle.std.proofs.lemmas.Option.{slice_get_within, same_Some}
use Rattle.std.proofs.Math.Nat.{mul-le-mul_right}
use Rattle.sem_context.specs.Entries.{bits_at}
use Rattle.sem_graph.specs.Calls.{Reaches, by_call, further}
use Rattle.sem_expr.specs.declared.expr.Expr.{Expr}
use Rattle.sem_expr.specs.declared.expr.Side.TheVariants.{Uncompressed, Compressed}
use Rattle.sem_profile.specs.declared.profile.Encoding.{Encoding}
use Rattle.sem_profile.specs.declared.profile.Encoding.TheVariants as encoding
use Rattle.sem_profile.specs.declared.profile.Field.{Field}
use Rattle.sem_profile.specs.declared.profile.Format.{Format}
use Rattle.sem_profile.specs.declared.profile.FormatSizes.{FormatSizes}
use Rattle.sem_profile.specs.declared.profile.Method.{Method}
use Rattle.sem_profile.specs.declared.profile.MethodSizes.{MethodSizes}
use Rattle.sem_profile.specs.Methods.{CallsMethod}
use Rattle.sem_profile.specs.Resolved.{Resolved, IsSound}
use Rattle.sem_profile.specs.Uses.{Uses, IsReached}
use Rattle.sem_filling.specs.declared.filling.AskedValue.{AskedValue}
use Rattle.sem_filling.specs.declared.filling.Filling.{Filling}
use Rattle.sem_filling.specs.Fillings.{is_header, header}
use Rattle.sem_filling.specs.Fits.{format_at}
use Rattle.sem_filling.proofs.FitsSized.{and_then_some}
use Rattle.cert_types.specs.declared.certificate.Direction.TheVariants.{Write}
use Rattle.cert_types.specs.declared.certificate.Step.{Step}
use Rattle.cert_types.specs.declared.certificate.Step.TheVariants.{Call}
use Rattle.cert_types.specs.declared.rule.Fact.{Fact}
use Rattle.cert_types.specs.declared.rule.Fact.TheVariants.{Done}
use Rattle.cert_types.specs.declared.rule.Rule.{Rule}
use Rattle.cert_rules.specs.declared.slots.Slot.{Slot}
use Rattle.cert_rules.specs.Counts.{ways, callee}
use Rattle.cert_rules.specs.Facts.{has, has_all, has_none, inputs_of_all}
use Rattle.cert_types.specs.declared.certificate.Version.TheVariants.{Two}
use Rattle.cert_rules.specs.Plans.{rule_of, enabled, learnt, all_enabled}
use Rattle.cert_rules.specs.Rules.{write_rule, write_call, rule_once, all_of, headers_before, is_headless, own_bits, in_header}
use Rattle.cert_rules.specs.Slots.{has_length, has_bits, learnt_at, calls_at, is_there, slot_inner}
use Rattle.cert_rules.proofs.ViewsAgree.{and_true, not_true}
use Rattle.cert_candidates.specs.declared.digits.Digits.{Digits}
use Rattle.cert_candidates.specs.Codes.{called_at}
use Rattle.cert_candidates.specs.Reading.{Divides, IsNext, ReadsOn, CarriesOn, ShareDigits}
use Rattle.cert_candidates.proofs.CodesKept.{reading_parts, ways_of_call}
use Rattle.cert_accepted.specs.Accepted.{Accepting}
use Rattle.walk_steps.specs.Partial.{Reached, IsKept}
use Rattle.walk_steps.specs.Calls.{MayCall, IsCall, IsFilledBy, Fills, BlamesFilling}
use Rattle.walk_steps.specs.declared.calls.Call.{Call as CallOf}
use Rattle.walk_steps.specs.declared.fault.StepFault.{StepFault}
use Rattle.walk_steps.specs.declared.fault.StepFault.TheVariants as fault
use Rattle.walk_steps.specs.declared.level_frame.LevelFrame.{LevelFrame}
use Rattle.cert_candidates.specs.Knowing.{writer_knows, writer_knows_all}
use Rattle.cert_candidates.specs.Writing.{AsksNothing}
use Rattle.cert_candidates.proofs.WritingLawsGoing.{writing_calls, filled_law, call_fails_law}
use Rattle.cert_candidates.proofs.Knowing.{both_true, alike, inputs_all_plain, needs_known, left_known, right_known}
use Rattle.walk_write.specs.declared.fault.WriteFault.{WriteFault}
use Rattle.walk_write.specs.declared.fault.WriteFault.TheVariants.{Failed, OutOfMemory}
use Rattle.walk_write.specs.Going.{Serves, IsGoing, StepsOn, BlamesAt, BlamesGoing, KnowsBefore, IsInside, BlamesInside, CanPass, PassesOn, fault_of}
use Rattle.walk_write.specs.Walking.{site_at, IsHere, BlamesStep}
use Rattle.walk_write.proofs.WalkingPassing.{Open, here, step_fails, renewed, went, counted, room_next, has_more}

-- ---- a called method asks nothing: the top alone does, and nothing calls it

module _ (p : Resolved) (sound : IsSound p) where
  goes_down : (x y i : ℕ) → Reaches (Uses p.methods) x y → slice_get sound.order i ≡ Some x → (q : ℕ) × (q < i) × (slice_get sound.order q ≡ Some y)
  goes_down x y i (by_call u) at = sound.ordered.before i x y u.method at u.at u.calls
  goes_down x y i (further {j = z} r u) at =
      let a = goes_down x z i r at in
      let b = sound.ordered.before a.0 z y u.method a.2 u.at u.calls in
      let below = a.1 in
      let next = b.1 in
      (b.0, omega (arith, below, next), b.2)

  -- what calls the top isn't reached
  calls_top : (k : ℕ) (m : Method) → slice_get p.methods k ≡ Some m → CallsMethod m p.top → IsReached p.methods p.top k → ⊥
  calls_top k m at calls reached =
      let place = sound.ordered.each p.top sound.within in
      let from : (q : ℕ) × (q ≤ place.0) × (slice_get sound.order q ≡ Some k) = by reached in
      let again = sound.ordered.before from.0 k p.top m from.2 at calls in
      let same = sound.ordered.once place.0 again.0 p.top sound.within place.1 again.2 in
      let upper = from.1 in
      let below = again.1 in
      omega (arith, same, upper, below)
    where
      by : IsReached p.methods p.top k → (q : ℕ) × (q ≤ (sound.ordered.each p.top sound.within).0) × (slice_get sound.order q ≡ Some k)
      by (inl is) = let place = sound.ordered.each p.top sound.within in (place.0, omega arith, place.1 ∙ ap Some (sym is))
      by (inr r) =
          let place = sound.ordered.each p.top sound.within in
          let a = goes_down p.top k place.0 r place.1 in
          let below = a.1 in (a.0, omega (arith, below), a.2)

  pub asks_nothing : (k n i j : ℕ) (format : Format) (d : Field) (es : List Expr) → format_at p.methods k n ≡ Some format → slice_get format.fields i ≡ Some d → d.encoding ≡ encoding.Call j es → AsksNothing p.methods j
  asks_nothing k n i j format d es at field_is is n' i' format' d' at' field_is' = by d'.declared.asked refl
    where
      by : (b : Bool) → d'.declared.asked ≡ b → d'.declared.asked ≡ false
      by false e = e
      by true e =
          let m = and_then_some (λ (x : Method). slice_get x.formats n) (slice_get p.methods k) format at in
          let m' = and_then_some (λ (x : Method). slice_get x.formats n') (slice_get p.methods j) format' at' in
          let top : j ≡ p.top = sound.asking.alone j n' i' m'.0 format' d' m'.1 m'.2 field_is' e in
          let calls : CallsMethod m.0 p.top = record { format = format; format_place = n; format_at = m.2; field = d; field_place = i; field_at = field_is; arguments = es; is_call = is ∙ ap (λ z. encoding.Call z es) top } in
          let none = sound.rooted.unreached k m.0 m.1 (calls_top k m.0 m.1 calls) in
          absurd (let wrong : None ≡ Some format = ap (λ (z : List Format). slice_get z n) (sym none) ∙ m.2 in cc)

  -- a called method is there
  pub is_method : (k n i j : ℕ) (format : Format) (d : Field) (es : List Expr) → format_at p.methods k n ≡ Some format → slice_get format.fields i ≡ Some d → d.encoding ≡ encoding.Call j es → j < length p.methods
  is_method k n i j format d es at field_is is =
      let m = and_then_some (λ (x : Method). slice_get x.formats n) (slice_get p.methods k) format at in
      let callee = (sound.well_formed.formats k n m.0 format m.1 m.2).calls i j d es field_is is in
      slice_get_within p.methods j callee.0 callee.1

-- ---- the rule of a call

called_field : (format : Format) (i j : ℕ) (d : Field) (es : List Expr) → slice_get format.fields i ≡ Some d → d.encoding ≡ encoding.Call j es → called_at format i ≡ Some j
called_field format i j d es e is = ap (option_and_then (λ (z : Field). callee z.encoding)) e ∙ ap callee is

or_true : (a b : Bool) → b ≡ true → (a || b) ≡ true
or_true true b e = refl
or_true false b e = e

rule_at : (table : List MethodSizes) (bounds : FormatSizes) (format : Format) (i j : ℕ) (d : Field) (es : List Expr) → slice_get format.fields i ≡ Some d → d.encoding ≡ encoding.Call j es →
    write_rule Two table bounds format (Call i) ≡ Some (rule_once i (inputs_of_all format es ++ in_header (is_header d.declared.part) (headers_before format i) (own_bits (is_headless (slice_get table j)) i)) (all_of i))
rule_at table bounds format i j d es field_is is = ap (option_and_then (λ (x : Field). write_call table format i (is_header x.declared.part) x.encoding)) field_is ∙ ap (write_call table format i (is_header d.declared.part)) is

-- an enabled call has one
record Ruled (format : Format) (i : ℕ) : Type 0 where
  pub field : Field
  pub method : ℕ
  pub exprs : List Expr
  pub field_is : slice_get format.fields i ≡ Some field
  pub encoding_is : field.encoding ≡ encoding.Call method exprs

ruled : (table : List MethodSizes) (format : Format) (known : List Fact) (i : ℕ) (o : Option Field) → slice_get format.fields i ≡ o →
    enabled known (option_and_then (λ (x : Field). write_call table format i (is_header x.declared.part) x.encoding) o) ≡ true → Ruled format i
ruled table format known i None at e = absurd (cc)
ruled table format known i (Some d) at e = by d.encoding refl e
  where
    by : (x : Encoding) → d.encoding ≡ x → enabled known (write_call table format i (is_header d.declared.part) x) ≡ true → Ruled format i
    by (encoding.Call j es) is e = record { field = d; method = j; exprs = es; field_is = at; encoding_is = is }
    by encoding.Bare is e = absurd (cc)
    by (encoding.Library l) is e = absurd (cc)

-- what it needs is known, and the field isn't done
record Needs (table : List MethodSizes) (format : Format) (slots : List Slot) (known : List Fact) (i j : ℕ) (d : Field) (es : List Expr) : Type 0 where
  pub needs : writer_knows_all format slots (inputs_of_all format es ++ in_header (is_header d.declared.part) (headers_before format i) (own_bits (is_headless (slice_get table j)) i)) ≡ true
  pub absent : has known (Done i) ≡ false

module _ (a : Accepting) (level_frame : LevelFrame) (source : List Bool) (asked : List AskedValue) (serves : Serves a level_frame) (i : ℕ) where
  abbrev Stands : List Step → ℕ → Digits → Reached → Type 0
  Stands later c digits l = IsGoing a level_frame source asked (Call i ∷ later) c digits l

  is_enabled : (later : List Step) (c : ℕ) (digits : Digits) (l : Reached) (g : Stands later c digits l) → enabled g.known (write_rule Two level_frame.frame.profile.now.sizes l.sizes l.format (Call i)) ≡ true
  is_enabled later c digits l g =
      let rules = rule_of Two Write level_frame.frame.profile.now.sizes l.sizes l.format in
      (and_true (enabled g.known (rules (Call i))) (all_enabled rules (learnt (rules (Call i)) ++ g.known) later) g.enabled).0

  needed : (later : List Step) (c : ℕ) (digits : Digits) (l : Reached) (g : Stands later c digits l) (j : ℕ) (d : Field) (es : List Expr) → slice_get l.format.fields i ≡ Some d → d.encoding ≡ encoding.Call j es →
      Needs level_frame.frame.profile.now.sizes l.format l.slots g.known i j d es
  needed later c digits l g j d es field_is is =
      let rule = rule_once i (inputs_of_all l.format es ++ in_header (is_header d.declared.part) (headers_before l.format i) (own_bits (is_headless (slice_get level_frame.frame.profile.now.sizes j)) i)) (all_of i) in
      let on : enabled g.known (Some rule) ≡ true = ap (enabled g.known) (sym (rule_at level_frame.frame.profile.now.sizes l.sizes l.format i j d es field_is is)) ∙ is_enabled later c digits l g in
      let b = and_true (has_all g.known rule.needs) (has_none g.known rule.absent) on in
      let n = and_true (not (has g.known (Done i))) true b.1 in
      record { needs = needs_known l.format l.slots g.known rule on g.knows; absent = not_true (has g.known (Done i)) n.0 }

  -- the call may be made
  pub may_call : (later : List Step) (c : ℕ) (digits : Digits) (l : Reached) → Stands later c digits l → MayCall l i
  may_call later c digits l g =
      let r = ruled level_frame.frame.profile.now.sizes l.format g.known i (slice_get l.format.fields i) refl (is_enabled later c digits l g) in
      let n = needed later c digits l g r.method r.field r.exprs r.field_is r.encoding_is in
      record {
        field = r.field;
        method = r.method;
        exprs = r.exprs;
        field_is = r.field_is;
        encoding_is = r.encoding_is;
        known = sym (alike l.format l.slots (inputs_of_all l.format r.exprs) (inputs_all_plain l.format r.exprs)) ∙ left_known l.format l.slots (inputs_of_all l.format r.exprs) _ n.needs;
      }

  module _ (call : CallOf) (l : Reached) (is : IsCall level_frame l i call) where
    -- what stands before a called header field is known
    pub knows_before : (later : List Step) (c : ℕ) (digits : Digits) → Stands later c digits l → KnowsBefore l i
    knows_before later c digits g d field_is header =
        let one : is.field ≡ d = same_Some is.field d (sym is.field_is ∙ field_is) in
        let n = needed later c digits l g call.method is.field is.exprs is.field_is is.encoding_is in
        let own = own_bits (is_headless (slice_get level_frame.frame.profile.now.sizes call.method)) i in
        let known = right_known l.format l.slots (inputs_of_all l.format is.exprs) (in_header (is_header is.field.declared.part) (headers_before l.format i) own) n.needs in
        subst (λ b. writer_knows_all l.format l.slots (in_header b (headers_before l.format i) own) ≡ true) (ap (λ (z : Field). is_header z.declared.part) one ∙ header) known

    -- the field has no filling inside yet
    pub is_empty : (later : List Step) (c : ℕ) (digits : Digits) → Stands later c digits l → slot_inner (slice_get l.slots i) ≡ None
    is_empty later c digits g = by (slot_inner (slice_get l.slots i)) refl
      where
        by : (o : Option Filling) → slot_inner (slice_get l.slots i) ≡ o → slot_inner (slice_get l.slots i) ≡ None
        by None e = e
        by (Some x) e =
            let there = g.filled i (ap is_there e) in
            let absent = (needed later c digits l g call.method is.field is.exprs is.field_is is.encoding_is).absent in
            absurd (let wrong : true ≡ false = sym there ∙ absent in cc)

    pub has_slot : (later : List Step) (c : ℕ) (digits : Digits) → Stands later c digits l → i < length l.slots
    has_slot later c digits g = subst (λ n. i < n) (sym g.writing.count) (slice_get_within l.format.fields i is.field is.field_is)

    pub is_there_method : (later : List Step) (c : ℕ) (digits : Digits) → Stands later c digits l → call.method < length level_frame.frame.profile.now.methods
    is_there_method later c digits g = is_method level_frame.frame.profile.now serves.sound level_frame.frame.method level_frame.format i call.method l.format is.field is.exprs g.at.format_is is.field_is is.encoding_is

    pub has_count : (later : List Step) (c : ℕ) (digits : Digits) → Stands later c digits l → call.method < length a.counts
    has_count later c digits g = subst (λ n. call.method < n) (sym serves.checked.are_counts.each) (is_there_method later c digits g)

    called_is : called_at l.format i ≡ Some call.method
    called_is = called_field l.format i call.method is.field is.exprs is.field_is is.encoding_is

    module _ (radix : ℕ) (radix_is : slice_get a.counts call.method ≡ Some radix) where
      ways_is : radix ≡ ways a.counts l.format (Call i)
      ways_is = sym (ways_of_call a.counts l.format i call.method radix called_is radix_is)

      pub call_divides : (later : List Step) (c : ℕ) (digits : Digits) → Stands later c digits l → Divides radix digits.span
      call_divides later c digits g =
          reading_parts level_frame.frame.profile.now.methods a.certificate.methods a.counts level_frame.frame.method level_frame.format l.format (Call i) later c digits g.writing.reading radix ways_is

      module _ (digits next : Digits) (digit : ℕ) (split : IsNext radix digits digit next) (carries : CarriesOn radix digits digit next) where
        read : (later : List Step) (c : ℕ) (g : Stands later c digits l) → ReadsOn level_frame.frame.profile.now.methods a.certificate.methods a.counts level_frame.frame.method level_frame.format l.format (Call i) later c digits g.writing.reading digit next
        read later c g = carries level_frame.frame.profile.now.methods a.certificate.methods a.counts serves.checked.are_counts level_frame.frame.method level_frame.format l.format (Call i) later c ways_is g.writing.reading

        asks : (later : List Step) (c : ℕ) (g : Stands later c digits l) → AsksNothing level_frame.frame.profile.now.methods call.method
        asks later c g = asks_nothing level_frame.frame.profile.now serves.sound level_frame.frame.method level_frame.format i call.method l.format is.field is.exprs g.at.format_is is.field_is is.encoding_is

        -- so many digits are within 64 bits
        pub can_pass : radix * next.span < 2 ^ 64 → (e : WriteFault) → BlamesInside e a level_frame l source i call digit → CanPass e next
        can_pass fits OutOfMemory blame = tt
        can_pass fits (Failed m) blame =
            let inner = blame is.field is.field_is in
            let within = inner.within radix radix_is in
            let all : m * next.span ≤ radix * next.span = mul-le-mul_right next.span (omega (arith, within)) in
            (inner.some, omega (arith, all, fits))

        -- what the fault of the filling inside passes
        pub inside_fails : (e w : WriteFault) → BlamesInside e a level_frame l source i call digit → PassesOn e next w → BlamesGoing w a level_frame source asked (Call i) digits l
        inside_fails OutOfMemory w blame passes later c g = subst (λ z. BlamesAt z a level_frame (site_at level_frame l source asked) c) (sym passes) tt
        inside_fails (Failed m) w blame passes later c g =
            let inner = blame is.field is.field_is in
            let rest = next.rest in
            let span = next.span in
            let skipped = passes.0 in
            let count = passes.2 in
            let below = split.below in
            let within = inner.within radix radix_is in
            let some = inner.some in
            let least : 1 * span ≤ m * span = mul-le-mul_right span (omega (arith, some)) in
            let all : (digit + m) * span ≤ radix * span = mul-le-mul_right span (omega (arith, within)) in
            let parts : (digit + m) * span ≡ digit * span + m * span = omega arith in
            let span_is = split.span_is in
            let rest_is = split.rest_is in
            subst (λ z. BlamesAt z a level_frame (site_at level_frame l source asked) c) (sym passes.1) record {
              some = omega (arith, count, below, least);
              within = λ n at. let room = g.room n at in omega (arith, room, count, all, parts, span_is, rest_is);
              none = call_fails_law level_frame.frame.profile.now.methods level_frame.frame.profile.now.sizes level_frame.frame.profile.now.top a.certificate.methods a.counts serves.checked (bits_at level_frame.frame.context.now) (site_at level_frame l source asked) level_frame.format l.format
                  i later c digits next l.slots g.writing digit (read later c g) is.field call.method is.exprs is.field_is is.encoding_is (asks later c g)
                  (needed later c digits l g call.method is.field is.exprs is.field_is is.encoding_is).needs call.arguments is.args_are m (subst (λ z. digit + m ≤ z) ways_is within) inner.none skipped passes.3;
            }

        module _ (g' : Filling) (made : IsInside a level_frame l source i call digit g') where
          -- each that is open with the digit has the filling inside
          has_inside : (later : List Step) (c : ℕ) (g : Stands later c digits l) (f : Filling) → Open a level_frame source asked serves l (read later c g).after.base later f → IsFilledBy f i g'
          has_inside later c g f h =
              let x = filled_law level_frame.frame.profile.now.methods level_frame.frame.profile.now.sizes level_frame.frame.profile.now.top a.certificate.methods a.counts serves.checked (bits_at level_frame.frame.context.now) (site_at level_frame l source asked) level_frame.format l.format
              i later c digits next l.slots g.writing digit (read later c g) is.field call.method is.exprs is.field_is is.encoding_is (asks later c g)
              (needed later c digits l g call.method is.field is.exprs is.field_is is.encoding_is).needs call.arguments is.args_are g' (made is.field is.field_is) f h in
              record { inner_is = x.inner_is; uncompressed = x.uncompressed; compressed = x.compressed }

          was_here : (later : List Step) (c : ℕ) (g : Stands later c digits l) (f : Filling) → Open a level_frame source asked serves l (read later c g).after.base later f → IsHere level_frame l source asked f
          was_here later c g f h =
              let was : Open a level_frame source asked serves l g.writing.reading.base (Call i ∷ later) f = record { begins = h.begins; within = (read later c g).inside f h.within } in
              here a level_frame source asked serves l (Call i ∷ later) c digits g.writing f was

          -- it is here, with the filling inside
          record Theirs (f : Filling) : Type 0 where
            shows : IsHere level_frame l source asked f
            filled : IsFilledBy f i g'

          pub filling_fails : (e : StepFault) → BlamesFilling e level_frame l i g' → (alike : ℕ) → alike + next.rest ≡ next.span → ShareDigits next alike → (w : WriteFault) → w ≡ fault_of e alike →
              BlamesGoing w a level_frame source asked (Call i) digits l
          filling_fails e blame many count share w is_fault later c g =
              subst (λ z. BlamesAt z a level_frame (site_at level_frame l source asked) c) (sym is_fault)
              (step_fails a level_frame source asked serves e Theirs (blames e blame) l later c next (read later c g).after (λ k at. room_next radix c k digit digits next split (g.room k at))
              (λ f h. record { shows = was_here later c g f h; filled = has_inside later c g f h }) many count share)
            where
              blames : (e : StepFault) → BlamesFilling e level_frame l i g' → BlamesStep e Theirs
              blames fault.Short b = b
              blames fault.Refused b = λ f h. b [] f h.shows.shows h.filled
              blames fault.OutOfMemory b = tt

          gives : (new : Reached) → Fills l i g' new → writer_knows_all l.format new.slots (all_of i) ≡ true
          gives new fills =
              let u = fills.uncompressed_is in
              let c = fills.compressed_is in
              let ul = ap has_length u in
              let ub = ap has_bits u in
              let cl = ap has_length c in
              let cb = ap has_bits c in
              let inner = ap is_there fills.inner_is in
              let calls = not (calls_at (slice_get l.format.fields i)) in
              let there = or_true calls (is_there (slot_inner (slice_get new.slots i))) inner in
              let done : writer_knows l.format new.slots (Done i) ≡ true = both_true (has_bits (learnt_at new.slots i Uncompressed)) (calls || is_there (slot_inner (slice_get new.slots i))) ub there in
              both_true (has_length (learnt_at new.slots i Uncompressed)) _ ul
              (both_true (has_bits (learnt_at new.slots i Uncompressed)) _ ub
              (both_true (has_length (learnt_at new.slots i Compressed)) _ cl
              (both_true (has_bits (learnt_at new.slots i Compressed)) _ cb (both_true (writer_knows l.format new.slots (Done i)) true done refl))))

          filled_now : (known : List Fact) (new : Reached) → Fills l i g' new → ((k : ℕ) → is_there (slot_inner (slice_get l.slots k)) ≡ true → has known (Done k) ≡ true) →
              (k : ℕ) → is_there (slot_inner (slice_get new.slots k)) ≡ true → has (all_of i ++ known) (Done k) ≡ true
          filled_now known new fills was k there = by (nat_eq i k) refl
            where
              by : (b : Bool) → nat_eq i k ≡ b → has (all_of i ++ known) (Done k) ≡ true
              by true e = ap (λ b. b || has known (Done k)) e
              by false e = has_more (all_of i) known (Done k) (was k (ap is_there (sym (fills.others k (λ same. let wrong : false ≡ true = sym e ∙ eq-eqb i k (sym same) in cc))) ∙ there))

          pub call_goes : (new : Reached) → Fills l i g' new → IsKept new → StepsOn a level_frame source asked (Call i) digits l next new
          call_goes new fills kept later c g =
              let reads = read later c g in
              let rule = rule_at level_frame.frame.profile.now.sizes l.sizes l.format i call.method is.field is.exprs is.field_is is.encoding_is in
              let has_new = λ (f : Filling) (h : Open a level_frame source asked serves l reads.after.base later f). fills.agrees f ((was_here later c g f h).shows.has) (has_inside later c g f h) in
              let writing = writing_calls level_frame.frame.profile.now.methods level_frame.frame.profile.now.sizes level_frame.frame.profile.now.top a.certificate.methods a.counts serves.checked (bits_at level_frame.frame.context.now) (site_at level_frame l source asked) level_frame.format
              l.format i later c digits next l.slots new.slots g.writing digit reads (counted a level_frame source asked serves l new g.writing.count kept fills.format_is) fills.grown is.field call.method is.exprs g' is.field_is
              is.encoding_is fills.inner_is (made is.field is.field_is).number_is has_new in
              renewed a level_frame source asked serves l new fills.format_is fills.sizes_are fills.args_are (IsGoing a level_frame source asked later c next)
              (went a level_frame source asked serves (Call i) later c digits next l new.slots g writing fills.grown
              (subst (λ o. IsSomeAnd o (λ (r : Rule). writer_knows_all l.format new.slots r.gives ≡ true)) (sym rule) (gives new fills))
              (subst (λ o. (k : ℕ) → is_there (slot_inner (slice_get new.slots k)) ≡ true → has (learnt o ++ g.known) (Done k) ≡ true) (sym rule) (filled_now g.known new fills g.filled))
              (λ k at. room_next radix c k digit digits next split (g.room k at)))

-- the digit is below the count
pub digit_below : (counts : List ℕ) (j radix : ℕ) → slice_get counts j ≡ Some radix → (digit : ℕ) → digit < radix → (n : ℕ) → slice_get counts j ≡ Some n → digit < n
digit_below counts j radix is digit below n counted = subst (λ z. digit < z) (same_Some radix n (sym is ∙ counted)) below
