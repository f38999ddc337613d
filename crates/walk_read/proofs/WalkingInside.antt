-- A call: where the called method stands, what is read there, and what that says of the level.
use Rattle.std.proofs.Common.{◌≡◌, refl, sym, ◌∙◌, ap, subst, ℕ, zero, suc, ◌+◌, ◌-◌, ◌^◌, ◌<◌, ◌≤◌, Bool, true, false, List, [], ◌∷◌, ◌++◌, length, drop, nat_eq, arith, inl, inr}
use Rattle.std.specs.Prelude.{◌⊎◌, ◌&&◌, ◌||◌, not, Option, Some, None, IsSomeAnd, Result, Ok, Err, IfErr, slice_get, option_and_then, ℤ}
use Rattle.std.proofs.lemmas.Bool.{eqb-false}
use Rattle.std.proofs.lemmas.Option.{same_Some, slice_get_within}
use Rattle.sem_profile.specs.Fields.{lists}
use Rattle.cert_types.specs.declared.certificate.Step.TheVariants as steps
use Rattle.cert_types.specs.declared.rule.Fact.TheVariants.{Done}
use Rattle.cert_types.specs.declared.rule.Rule.{Rule}
use Rattle.sem_context.specs.Entries.{bits_at}
use Rattle.sem_expr.specs.declared.expr.Expr.{Expr}
use Rattle.sem_expr.specs.declared.expr.Side.TheVariants.{Compressed}
use Rattle.sem_filling.specs.declared.filling.Filling.{Filling}
use Rattle.sem_filling.specs.Fillings.{header, packed}
use Rattle.sem_filling.specs.Fits.{format_at}
use Rattle.sem_filling.proofs.FitsSized.{and_then_some}
use Rattle.sem_filling.specs.Ready.{ArgumentsLieAt}
use Rattle.sem_filling.proofs.FitsJudged.{placed}
use Rattle.sem_profile.specs.declared.profile.Encoding.{Encoding}
use Rattle.sem_profile.specs.declared.profile.Encoding.TheVariants as encoding
use Rattle.sem_profile.specs.declared.profile.Field.{Field}
use Rattle.sem_profile.specs.declared.profile.Format.{Format}
use Rattle.sem_profile.specs.declared.profile.FormatSizes.{FormatSizes}
use Rattle.sem_profile.specs.Limits.{Chain, at_top}
use Rattle.sem_profile.specs.Resolved.{IsSound}
use Rattle.sem_profile.specs.Uses.{used_graph}
use Rattle.cert_rules.specs.Facts.{has_all, inputs_of_all}
use Rattle.cert_rules.specs.Reading.{Spot, IsAhead, InnerIs, bits_from, offset_of}
use Rattle.cert_types.specs.declared.certificate.Version.TheVariants.{Two}
use Rattle.cert_rules.specs.Rules.{rule_once, all_of, where_true, listed_before, read_rule, read_call}
use Rattle.cert_rules.specs.Slots.{has_length, has_bits, learnt_at, is_there, slot_inner, calls_at, knows_all}
use Rattle.cert_rules.proofs.ViewsLearning.{called}
use Rattle.cert_rules.proofs.SlotsWithin.{all_end_within}
use Rattle.walk_steps.specs.Partial.{Reached, IsKept}
use Rattle.walk_steps.proofs.LevelAsked.{knows_left, knows_right}
use Rattle.walk_steps.specs.Calls.{MayCall, IsCall, IsFilledBy, Fills, BlamesFilling}
use Rattle.walk_steps.specs.declared.calls.Call as calling
use Rattle.walk_steps.specs.declared.fault.StepFault.{StepFault}
use Rattle.walk_steps.specs.declared.fault.StepFault.TheVariants as step
use Rattle.walk_steps.specs.declared.level_frame.LevelFrame.{LevelFrame}
use Rattle.walk_steps.specs.Finding.{IsAt, IsReady, Shows}
use Rattle.walk_steps.specs.Finding as finding
use Rattle.cert_accepted.specs.declared.frame.AcceptedFrame.{AcceptedFrame}
use Rattle.cert_accepted.specs.Standing.{IsLevelFrameOf, Stands, HasDepth}
use Rattle.walk_read.specs.declared.fault.ReadFault.{ReadFault}
use Rattle.walk_read.specs.declared.fault.ReadFault.TheVariants.{Short, Refused, OutOfMemory}
use Rattle.walk_read.specs.Walk.{spot_of, Blames, AreFew, AreFewLeft, BlamesStep, LearnsAhead}
use Rattle.walk_read.specs.Walking.{BlamesShown, fault_of, spot_in, IsOnlyInside, BlamesInside, ended, ended_fault}
use Rattle.cert_accepted.proofs.StandingDepth.{calls_of_field, chain_before}
use Rattle.walk_read.proofs.WalkingUnder.{ahead_there}

-- ---- the rule of a call

has_call : (l : Reached) (i : ℕ) (o : Option Rule) → IsReady l o → (r : Rule) × (o ≡ Some r) × (knows_all l.format l.slots r.needs ≡ true)
has_call l i None h = absurd h
has_call l i (Some r) h = (r, refl, h)

encoded : (format : Format) (i : ℕ) (e : Encoding) (r : Rule) → read_call format i e ≡ Some r → (k : ℕ) × (es : List Expr) × (e ≡ encoding.Call k es)
encoded format i (encoding.Call k es) r e = (k, es, refl)
encoded format i encoding.Bare r e = absurd (cc)
encoded format i (encoding.Library l) r e = absurd (cc)

rule_of_call : (sizes : FormatSizes) (format : Format) (i k : ℕ) (d : Field) (es : List Expr) → slice_get format.fields i ≡ Some d → d.encoding ≡ encoding.Call k es →
    read_rule Two sizes format (steps.Call i) ≡ Some (rule_once i (inputs_of_all format es ++ where_true (lists format.listing i) (listed_before format i)) (all_of i))
rule_of_call sizes format i k d es field_is encoding_is = ap (λ (o : Option Field). option_and_then (λ d. read_call format i d.encoding) o) field_is ∙ ap (read_call format i) encoding_is

module _ (l : Reached) (i : ℕ) (is_ready : IsReady l (read_rule Two l.sizes l.format (steps.Call i))) where
  pub needs_of : (k : ℕ) (d : Field) (es : List Expr) → slice_get l.format.fields i ≡ Some d → d.encoding ≡ encoding.Call k es →
      knows_all l.format l.slots (inputs_of_all l.format es ++ where_true (lists l.format.listing i) (listed_before l.format i)) ≡ true
  needs_of k d es field_is encoding_is = subst (λ o. IsSomeAnd o (λ r. knows_all l.format l.slots r.needs ≡ true)) (rule_of_call l.sizes l.format i k d es field_is encoding_is) is_ready

  pub may_call : MayCall l i
  may_call =
      let p = has_call l i (read_rule Two l.sizes l.format (steps.Call i)) is_ready in
      let a = and_then_some (λ d. read_call l.format i d.encoding) (slice_get l.format.fields i) p.0 p.1 in
      let e = encoded l.format i a.0.encoding p.0 a.2 in
      record {
        field = a.0;
        method = e.0;
        exprs = e.1;
        field_is = a.1;
        encoding_is = e.2;
        known = knows_left l.format l.slots (inputs_of_all l.format e.1) (where_true (lists l.format.listing i) (listed_before l.format i)) (needs_of e.0 a.0 e.1 a.1 e.2);
      }

  pub before_known : (k : ℕ) (d : Field) (es : List Expr) → slice_get l.format.fields i ≡ Some d → d.encoding ≡ encoding.Call k es → lists l.format.listing i ≡ true →
      knows_all l.format l.slots (listed_before l.format i) ≡ true
  before_known k d es field_is encoding_is listed =
      subst (λ b. knows_all l.format l.slots (where_true b (listed_before l.format i)) ≡ true) listed
      (knows_right l.format l.slots (inputs_of_all l.format es) (where_true (lists l.format.listing i) (listed_before l.format i)) (needs_of k d es field_is encoding_is))

-- ---- what a filling has inside

module _ (place : AcceptedFrame) (level_frame : LevelFrame) (s : IsLevelFrameOf place level_frame.format level_frame) (l : Reached) (i : ℕ) (bits : List Bool) (call : calling.Call) (c : IsCall level_frame l i call)
    (is_ready : IsReady l (read_rule Two l.sizes l.format (steps.Call i))) where
  module _ (f : Filling) (shows : Shows level_frame l bits f) where
    pub inside : InnerIs level_frame.frame.profile.now.methods (bits_at level_frame.frame.context.now) (finding.spot_of level_frame l bits) l.format l.slots i c.field call.method c.exprs f
    inside =
        called level_frame.frame.profile.now.methods (bits_at level_frame.frame.context.now) (finding.spot_of level_frame l bits) level_frame.format l.format l.slots f shows i c.field call.method c.exprs c.field_is c.encoding_is
        (needs_of l i is_ready call.method c.field c.exprs c.field_is c.encoding_is)

    pub inside_ahead : IsAhead place.accepted.now.profile.methods (bits_at place.frame.context.now) (spot_in l i call bits) inside.inner
    inside_ahead =
        let same : inside.args ≡ call.arguments = same_Some inside.args call.arguments (sym inside.args_are ∙ c.args_are) in
        ahead_there place level_frame s (spot_in l i call bits) inside.inner
        (subst (λ z. IsAhead level_frame.frame.profile.now.methods (bits_at level_frame.frame.context.now) z inside.inner)
        (λ q. record { method = call.method; args = same q; path = sym c.path_is q; bits = bits_from (lists l.format.listing i) (offset_of l.format l.slots i) bits }) inside.ahead)

  pub inside_blames : (e : ReadFault) → BlamesInside e place l i call bits → BlamesShown e level_frame l bits
  inside_blames (Short at) h = λ f shows.
      (inside f shows).longer h.0 (subst (λ b. length (bits_from b (offset_of l.format l.slots i) bits) < length (packed (inside f shows).inner)) h.0 (h.1 (inside f shows).inner (inside_ahead f shows)))
  inside_blames (Refused at) h = λ f shows. h (inside f shows).inner (inside_ahead f shows) (inside f shows).unsent
  inside_blames OutOfMemory h = tt

  module _ (g : Filling) (found : IsOnlyInside place l i call bits g) where
    pub filled : (f : Filling) → Shows level_frame l bits f → IsFilledBy f i g
    filled f shows =
        let same : (inside f shows).inner ≡ g = found (inside f shows).inner (inside_ahead f shows) in
        record {
          inner_is = (inside f shows).inner_is ∙ ap Some same;
          uncompressed = (inside f shows).uncompressed ∙ ap header same;
          compressed = (inside f shows).compressed ∙ ap packed same;
        }

    pub filling_blames : (e : StepFault) → BlamesFilling e level_frame l i g → BlamesShown (fault_of level_frame e) level_frame l bits
    filling_blames step.Short h = absurd h
    filling_blames step.Refused h = λ f shows. h bits f shows (filled f shows)
    filling_blames step.OutOfMemory h = tt

    pub call_learns : (new : Reached) → Fills l i g new → LearnsAhead level_frame bits (read_rule Two l.sizes l.format (steps.Call i)) l new
    call_learns new h = record {
      format_is = h.format_is;
      sizes_are = h.sizes_are;
      args_are = h.args_are;
      grown = h.grown;
      inners = λ j. by j (nat_eq i j) refl;
      gives = subst (λ o. IsSomeAnd o (λ r. knows_all l.format new.slots r.gives ≡ true)) (sym is) all_known;
      agrees = λ f shows. h.agrees f shows.has (filled f shows);
    } where
      is : read_rule Two l.sizes l.format (steps.Call i) ≡ Some (rule_once i (inputs_of_all l.format c.exprs ++ where_true (lists l.format.listing i) (listed_before l.format i)) (all_of i))
      is = rule_of_call l.sizes l.format i call.method c.field c.exprs c.field_is c.encoding_is

      both_true : (a b : Bool) → a ≡ true → b ≡ true → (a && b) ≡ true
      both_true a b e h = λ q. (e ∙ refl) q && h q

      or_there : (a b : Bool) → b ≡ true → (a || b) ≡ true
      or_there true b e = refl
      or_there false b e = e

      all_known : knows_all l.format new.slots (all_of i) ≡ true
      all_known =
          let u = h.uncompressed_is in
          let k = h.compressed_is in
          let inner : is_there (slot_inner (slice_get new.slots i)) ≡ true = ap is_there h.inner_is in
          let calls = not (calls_at (slice_get l.format.fields i)) in
          let done = both_true (has_bits (learnt_at new.slots i Compressed)) (calls || is_there (slot_inner (slice_get new.slots i))) (ap has_bits k) (or_there calls (is_there (slot_inner (slice_get new.slots i))) inner) in
          λ q. ap has_length u q && (ap has_bits u q && (ap has_length k q && (ap has_bits k q && (done q && true))))

      by : (j : ℕ) (b : Bool) → nat_eq i j ≡ b →
          (slot_inner (slice_get new.slots j) ≡ slot_inner (slice_get l.slots j)) ⊎ IsSomeAnd (read_rule Two l.sizes l.format (steps.Call i)) (λ r. has_all r.gives (Done j ∷ []) ≡ true)
      by j true e = inr (subst (λ o. IsSomeAnd o (λ r. has_all r.gives (Done j ∷ []) ≡ true)) (sym is) (λ q. (e q || false) && true))
      by j false e = inl (h.others j (λ same. eqb-false i j e (sym same)))

-- ---- faults of the level's own steps

pub step_blames : (level_frame : LevelFrame) (l : Reached) (bits : List Bool) (e : StepFault) → BlamesStep e level_frame l bits → BlamesShown (fault_of level_frame e) level_frame l bits
step_blames level_frame l bits step.Short h = h
step_blames level_frame l bits step.Refused h = h
step_blames level_frame l bits step.OutOfMemory h = tt

pub called_blames : (level_frame : LevelFrame) (l : Reached) (bits : List Bool) (e : StepFault) → finding.Blames e level_frame l → BlamesShown (fault_of level_frame e) level_frame l bits
called_blames level_frame l bits step.Short h = absurd h
called_blames level_frame l bits step.Refused h = λ f shows. h bits f shows
called_blames level_frame l bits step.OutOfMemory h = tt

pub one_deep : (place : AcceptedFrame) (depth : ℕ) → HasDepth place depth → 1 ≤ depth
one_deep place depth deep = deep place.frame.method 1 at_top

pub step_few : (level_frame : LevelFrame) (depth : ℕ) (bits : List Bool) (e : StepFault) → 1 ≤ depth → AreFewLeft e bits → AreFew (fault_of level_frame e) depth bits
step_few level_frame depth bits step.Short deep h = omega (arith, deep, h)
step_few level_frame depth bits step.Refused deep h = tt
step_few level_frame depth bits step.OutOfMemory deep h = tt

-- ---- where the called method stands

pub lie_here : (place : AcceptedFrame) (level_frame : LevelFrame) → IsLevelFrameOf place level_frame.format level_frame → (args : List ℤ) → args ≡ place.frame.arguments.now → Stands place → ArgumentsLieAt level_frame.frame.profile.now level_frame.frame.method args
lie_here place level_frame s args args_are stands =
    subst (λ p. ArgumentsLieAt p level_frame.frame.method args) (sym s.profile_is)
    (subst (λ k. ArgumentsLieAt place.accepted.now.profile k args) (sym s.method_is) (subst (ArgumentsLieAt place.accepted.now.profile place.frame.method) (sym args_are) stands.lie))

module _ (place : AcceptedFrame) (level_frame : LevelFrame) (s : IsLevelFrameOf place level_frame.format level_frame) (l : Reached) (i : ℕ) (call : calling.Call) (c : IsCall level_frame l i call) (at : IsAt level_frame l) where
  format_here : format_at place.accepted.now.profile.methods place.frame.method level_frame.format ≡ Some l.format
  format_here =
      subst (λ p. format_at p.methods place.frame.method level_frame.format ≡ Some l.format) s.profile_is (subst (λ k. format_at level_frame.frame.profile.now.methods k level_frame.format ≡ Some l.format) s.method_is at.format_is)

  pub callee_there : IsSound place.accepted.now.profile → call.method < length place.accepted.now.profile.methods
  callee_there sound =
      let p = placed place.accepted.now.profile.methods place.frame.method level_frame.format l.format format_here in
      let callee = (sound.well_formed.formats place.frame.method level_frame.format p.method l.format p.method_at p.format_is).calls i call.method c.field c.exprs c.field_is c.encoding_is in
      slice_get_within place.accepted.now.profile.methods call.method callee.0 callee.1

  pub callee_lies : ArgumentsLieAt place.accepted.now.profile call.method call.arguments
  callee_lies = subst (λ p. ArgumentsLieAt p call.method call.arguments) s.profile_is c.lie

  pub callee_deep : (depth : ℕ) → HasDepth place depth → (j n : ℕ) → Chain (used_graph place.accepted.now.profile.methods) call.method n j → n ≤ depth - 1
  callee_deep depth deep j n chain =
      let p = placed place.accepted.now.profile.methods place.frame.method level_frame.format l.format format_here in
      let calls = calls_of_field place.accepted.now.profile.methods place.frame.method p.method level_frame.format i call.method l.format c.field c.exprs p.method_at p.format_is c.field_is c.encoding_is in
      let longer = deep j (suc n) (chain_before (used_graph place.accepted.now.profile.methods) place.frame.method call.method calls chain) in
      omega (arith, longer)

-- ---- what was read there

module _ (place inner : AcceptedFrame) (l : Reached) (i : ℕ) (call : calling.Call) (bits there : List Bool) (same : spot_of inner there ≡ spot_in l i call bits)
    (accepted_is : inner.accepted.now ≡ place.accepted.now) (context_is : inner.frame.context.now ≡ place.frame.context.now) where
  ahead_inside : (g : Filling) → IsAhead place.accepted.now.profile.methods (bits_at place.frame.context.now) (spot_in l i call bits) g →
      IsAhead inner.accepted.now.profile.methods (bits_at inner.frame.context.now) (spot_of inner there) g
  ahead_inside g h =
      subst (λ z. IsAhead inner.accepted.now.profile.methods (bits_at inner.frame.context.now) z g) (sym same)
      (subst (λ a. IsAhead a.profile.methods (bits_at inner.frame.context.now) (spot_in l i call bits) g) (sym accepted_is)
      (subst (λ x. IsAhead place.accepted.now.profile.methods (bits_at x) (spot_in l i call bits) g) (sym context_is) h))

  pub listed_blames : lists l.format.listing i ≡ true → (e : ReadFault) → Blames e inner there → BlamesInside e place l i call bits
  listed_blames listed (Short at) h = (listed, λ g a. subst (λ (z : Spot). length z.bits < length (packed g)) same (h g (ahead_inside g a)))
  listed_blames listed (Refused at) h = λ g a unsent. h g (ahead_inside g a)
  listed_blames listed OutOfMemory h = tt

  pub unlisted_blames : lists l.format.listing i ≡ false → (e : ReadFault) → Blames e inner there → BlamesInside (ended_fault e) place l i call bits
  unlisted_blames unlisted (Short at) h = λ g a unsent.
      let longer = h g (ahead_inside g a) in
      let none : length (packed g) ≡ 0 = ap length (unsent unlisted) in
      omega (arith, longer, none)
  unlisted_blames unlisted (Refused at) h = λ g a unsent. h g (ahead_inside g a)
  unlisted_blames unlisted OutOfMemory h = tt

pub ended_fails : (r : Result Filling ReadFault) (P Q : ReadFault → Type 0) → ((e : ReadFault) → P e → Q (ended_fault e)) → IfErr r P → IfErr (ended r) Q
ended_fails (Ok g) P Q f h = tt
ended_fails (Err e) P Q f h = f e h

-- a listed field's offset is small
pub offset_small : (l : Reached) → IsKept l → (i : ℕ) → lists l.format.listing i ≡ true → offset_of l.format l.slots i ≤ 2 ^ 18
offset_small l kept i listed =
    let p = kept.placed in
    let ends = all_end_within p.methods p.table p.are_sizes p.method l.format p.whole l.sizes p.at l.slots kept.count kept.within i listed in
    omega (arith, ends.0, ends.1)

drop_less : (n : ℕ) (bits : List Bool) → length bits ≤ n + length (drop n bits)
drop_less zero bits = omega arith
drop_less (suc n) [] = omega arith
drop_less (suc n) (x ∷ bits) = let less = drop_less n bits in omega (arith, less)

pub few_inside : (e : ReadFault) (depth offset : ℕ) (bits there : List Bool) → 1 ≤ depth → offset ≤ 2 ^ 18 → there ≡ drop offset bits → AreFew e (depth - 1) there → AreFew e depth bits
few_inside (Short at) (suc depth) offset bits there deep small is h =
    let less = drop_less offset bits in
    let same : length there ≡ length (drop offset bits) = ap length is in
    omega (arith, small, less, same, h)
few_inside (Short at) zero offset bits there deep small is h = absurd (omega (arith, deep))
few_inside (Refused at) depth offset bits there deep small is h = tt
few_inside OutOfMemory depth offset bits there deep small is h = tt
