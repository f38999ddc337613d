-- The words of a line, as a slice pattern takes them.
use Rattle.std.proofs.Common.{◌≡◌, ◌∙◌, refl, sym, ap, ℕ, suc, ◌-◌, ◌<◌, ◌≤◌, List, [], ◌∷◌, map, length, take, drop, get_or, arith}
use Rattle.std.specs.Prelude.{option_and_then}
use Rattle.std.proofs.Common.{append_assoc, ◌++◌, ◌+◌}
use Rattle.std.specs.Prelude.{Some, None, slice_get, ◌&&◌, true}
use Rattle.std.proofs.Common.{zero, Bool, false, not, IsTrue, ◌↔◌}
use Rattle.std.proofs.lemmas.Bool.{false≢true}
use Rattle.std.proofs.lemmas.Bool.{lt-ltb, le-leb}
use Rattle.cert_types.specs.declared.certificate.Version.{Version}
use Rattle.cert_types.specs.declared.certificate.FormatPlans.{FormatPlans}
use Rattle.cert_text.specs.declared.draft.Draft.{Draft}
use Rattle.cert_text.specs.declared.draft.Stage.TheVariants as stage
use Rattle.std.proofs.lemmas.List.{take_all, append-nil}
use Rattle.cert_text.specs.declared.faults.Fault.TheVariants as fault
use Rattle.cert_text.specs.Shapes.{line_fault}
use Rattle.cert_types.specs.Kept.{Entries}
use Rattle.sem_profile.specs.declared.profile.Format.{Format}
use Rattle.std.specs.Borrow.{Bor}
use Rattle.sem_profile.specs.declared.profile.Method.{Method}
use Rattle.cert_text.specs.Drafts.{node_of, named_node, step_of, step_on, field_place, nones, blank, blanks, method_place, is_stage, begin_method, when, with_owed, with_nones}

pub node_two : (v : Version) (m : Method) (w : List ℕ) (xs : List (Bor (List ℕ))) (d : Bor (List ℕ)) → 2 ≤ length xs → length xs < 3 → node_of v m w (map (λ x. x.now) xs) ≡ named_node v m w (get_or xs 0 d).now (get_or xs 1 d).now
node_two v m w [] d h k = absurd (omega arith)
node_two v m w (x ∷ []) d h k = absurd (omega arith)
node_two v m w (x ∷ y ∷ []) d h k = refl
node_two v m w (x ∷ y ∷ z ∷ zs) d h k = absurd (omega arith)

pub step_more : (f : Format) (w : List ℕ) (xs : List (Bor (List ℕ))) (d : Bor (List ℕ)) → 1 ≤ length xs
    → step_of f w (map (λ x. x.now) xs) ≡ option_and_then (λ i. step_on (length f.constraints) i w (map (λ x. x.now) (take (length xs - 1) (drop 1 xs)))) (field_place (get_or xs 0 d).now f)
step_more f w [] d h = absurd (omega arith)
step_more f w (x ∷ xs) d h =
    let n : suc (length xs) - 1 ≡ length xs = omega arith in
    λ i. option_and_then (λ k. step_on (length f.constraints) k w (map (λ y. y.now) (sym (ap (λ m. take m xs) n ∙ take_all (length xs) xs (omega arith)) i))) (field_place x.now f)

-- ---- lists without plans

pub nones_more : (es : Entries) (to c : ℕ) → c < to → (es ++ None ∷ []) ++ nones (to - (c + 1)) ≡ es ++ nones (to - c)
nones_more es to c h =
    let n : to - c ≡ suc (to - (c + 1)) = omega arith in
    append_assoc es (None ∷ []) (nones (to - (c + 1))) ∙ ap (λ k. es ++ nones k) (sym n)

pub nones_end : (es : Entries) (to c : ℕ) → to ≤ c → es ++ nones (to - c) ≡ es
nones_end es to c h = let n : to - c ≡ 0 = omega arith in ap (λ k. es ++ nones k) n ∙ append-nil es

blank_next : (fs : List Format) (i to : ℕ) (f : Format) → slice_get fs i ≡ Some f → i < to → blanks fs i to ≡ blank f ∷ blanks fs (suc i) to
blank_next [] i to f h l = absurd cc
blank_next (x ∷ fs) i zero f h l = absurd (omega arith)
blank_next (x ∷ fs) zero (suc to) f h l = let same : x ≡ f = cc in ap (λ y. blank y ∷ map blank (take to fs)) same
blank_next (x ∷ fs) (suc i) (suc to) f h l = blank_next fs i to f h (omega arith)

no_blank : (fs : List Format) (i to : ℕ) → slice_get fs i ≡ None → blanks fs i to ≡ blanks fs (suc i) to
no_blank [] zero zero h = refl
no_blank [] zero (suc to) h = refl
no_blank [] (suc i) zero h = refl
no_blank [] (suc i) (suc to) h = refl
no_blank (x ∷ fs) zero zero h = refl
no_blank (x ∷ fs) zero (suc to) h = absurd cc
no_blank (x ∷ fs) (suc i) zero h = refl
no_blank (x ∷ fs) (suc i) (suc to) h = no_blank fs i to h

pub blanks_more : (es new : List FormatPlans) (fs : List Format) (i to : ℕ) (f : Format) (plans : FormatPlans) → slice_get fs i ≡ Some f → i < to → plans ≡ blank f → new ≡ es ++ plans ∷ [] → new ++ blanks fs (i + 1) to ≡ es ++ blanks fs i to
blanks_more es new fs i to f plans at h is pushed =
    let n : i + 1 ≡ suc i = omega arith in
    (λ k. pushed k ++ blanks fs (n k) to) ∙ append_assoc es (plans ∷ []) (blanks fs (suc i) to) ∙ ap (λ p. es ++ p ∷ blanks fs (suc i) to) is ∙ ap (λ b. es ++ b) (sym (blank_next fs i to f at h))

pub blanks_past : (es : List FormatPlans) (fs : List Format) (i to : ℕ) → slice_get fs i ≡ None → es ++ blanks fs (i + 1) to ≡ es ++ blanks fs i to
blanks_past es fs i to at = let n : i + 1 ≡ suc i = omega arith in ap (λ k. es ++ blanks fs k to) n ∙ ap (λ b. es ++ b) (sym (no_blank fs i to at))

-- ---- what is begun

pub begun : (methods : List Method) (d : Draft) (name : List ℕ) (k : ℕ) (m : Method) (es : Entries) (owed : List ℕ) → method_place name methods ≡ Some k → slice_get methods k ≡ Some m → is_stage d.stage stage.Between ≡ true → length d.entries ≤ k → 0 < length m.formats
    → es ≡ d.entries ++ nones (k - length d.entries) → owed ≡ 1 ∷ d.owed
    → begin_method methods d name ≡ Some record { version = d.version; stage = stage.Tree; entries = es; tree = d.tree; owed = owed; formats = d.formats; read = d.read; write = d.write }
begun methods d name k m es owed placed at here up some entries_are owed_are =
    ap (option_and_then _) placed ∙ ap (option_and_then _) at
    ∙ (λ i. when (here i && (le-leb (length d.entries) k up i && lt-ltb 0 (length m.formats) some i)) (with_owed (with_nones stage.Tree d k) (1 ∷ d.owed)))
    ∙ (λ i. Some record { version = d.version; stage = stage.Tree; entries = sym entries_are i; tree = d.tree; owed = sym owed_are i; formats = d.formats; read = d.read; write = d.write })

pub some_left : {A : Type 0} (xs : List A) (empty : Bool) → IsTrue empty ↔ (xs ≡ []) → empty ≡ false → 0 < length xs
some_left [] empty h e = absurd (false≢true (sym e ∙ h.1 refl))
some_left (x ∷ xs) empty h e = omega arith

pub many_words : (v : Version) (ws : List (Bor (List ℕ))) → 5 ≤ length ws → line_fault v (map (λ w. w.now) ws) ≡ Some fault.BadWord
many_words v [] h = absurd (omega arith)
many_words v (a ∷ []) h = absurd (omega arith)
many_words v (a ∷ b ∷ []) h = absurd (omega arith)
many_words v (a ∷ b ∷ c ∷ []) h = absurd (omega arith)
many_words v (a ∷ b ∷ c ∷ e ∷ []) h = absurd (omega arith)
many_words v (a ∷ b ∷ c ∷ e ∷ g ∷ ws) h = refl

-- ---- the first word, and the others

pub front_more : (xs : List (Bor (List ℕ))) (d : Bor (List ℕ)) → 1 ≤ length xs → map (λ x. x.now) xs ≡ (get_or xs 0 d).now ∷ map (λ x. x.now) (take (length xs - 1) (drop 1 xs))
front_more [] d h = absurd (omega arith)
front_more (x ∷ xs) d h =
    let n : suc (length xs) - 1 ≡ length xs = omega arith in
    λ i. x.now ∷ map (λ y. y.now) (sym (ap (λ m. take m xs) n ∙ take_all (length xs) xs (omega arith)) i)

pub none_by : (is left : Bool) → is ≡ not left → left ≡ not is
none_by is true e = sym (ap not e)
none_by is false e = sym (ap not e)
