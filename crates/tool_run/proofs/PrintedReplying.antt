-- What is printed, line by line.
use Rattle.std.proofs.Common.{◌≡◌, refl, ℕ, ◌+◌, ◌<◌, ◌≤◌, Bool, List, [], ◌∷◌, ◌++◌, length, drop, get_or, ap, sym, ◌∙◌, subst, append_assoc}
use Rattle.std.specs.Borrow.{Bor}
use Rattle.std.specs.Prelude.{Option, Some, None, Result, Ok, Err, IfOk, String, codes, string_bytes, true, false}
use Rattle.std.specs.Global.{Global}
use Rattle.std.specs.declared.alloc.AllocError.{AllocError}
use Rattle.std.proofs.lemmas.List.{append-nil, drop_more, drop_all}
use Rattle.sem_context.specs.Entries.{Entries}
use Rattle.sem_context.specs.Text.{IsContextText}
use Rattle.sem_filling.specs.declared.filling.Filling.{Filling}
use Rattle.sem_filling.specs.Entries.{next}
use Rattle.tool_input.specs.declared.status.Answer.{Answer}
use Rattle.tool_input.specs.declared.status.Status.{Status}
use Rattle.tool_input.specs.declared.status.Status.TheVariants as status
use Rattle.cert_accepted.specs.Accepted.{Accepting}
use Rattle.tool_input.specs.declared.inputs.BadLine.{BadLine}
use Rattle.tool_input.specs.declared.inputs.BadLine.TheVariants as bad
use Rattle.tool_words.specs.declared.words.Direction.{Direction}
use Rattle.tool_run.specs.declared.packets.Shape.{Shape}
use Rattle.tool_input.specs.Inputs.{BlamesContext}
use Rattle.tool_run.specs.Printed.{AnsweredFor, bad_context, IsBadInput, IsEnd, IsFinished, IsStep, AnsweredIn, Prints, bad_line, bad_line_text, done, line, fault}
use Rattle.tool_input.specs.Refusals.{Holds, IsRefusal, context_line}
use Rattle.tool_input.proofs.RefusalsHeld.{refusal_is}

-- ---- a line for each input

abbrev pub Says : Type 0 → Type 1
Says X = Entries → ℕ → X → Filling → List ℕ → Type 0

abbrev pub Faults : Type 0 → Type 1
Faults X = Entries → ℕ → X → List ℕ → Type 0

-- the lines so far and those for what is left, from the context that is reached on, are all lines
abbrev pub SoFar : {X : Type 0} → Says X → Faults X → Status → Bool → Entries → List X → ℕ → Entries → List ℕ → Type 0
SoFar says faults stop shows start inputs i ctx out = (s : Status) (rest : List ℕ) → Prints says faults stop shows ctx (i + 1) (drop i inputs) s rest → Prints says faults stop shows start 1 inputs s (out ++ rest)

joined : (out text rest : List ℕ) → out ++ (text ++ 10 ∷ rest) ≡ (out ++ text ++ 10 ∷ []) ++ rest
joined out text rest = simp append_assoc

module _ {X : Type 0} (says : Says X) (faults : Faults X) (stop : Status) (shows : Bool) (start : Entries) (inputs : List X) where
  pub printed_start : (out : List ℕ) → out ≡ [] → SoFar says faults stop shows start inputs 0 start out
  printed_start out e s rest h = subst (λ o. Prints says faults stop shows start 1 inputs s (o ++ rest)) (sym e) h

  -- a line more
  pub printed_on : (i : ℕ) (d x : X) (ctx reached : Entries) (out new : List ℕ) (b : Bool) → i < length inputs → x ≡ get_or inputs i d → SoFar says faults stop shows start inputs i ctx out → IsStep says faults ctx reached out new (i + 1) x b → b ≡ false
      → SoFar says faults stop shows start inputs (i + 1) reached new
  printed_on i d x ctx reached out new b h e so step is s rest more =
      let l = subst (λ (y : Bool). IsStep says faults ctx reached out new (i + 1) x y) is step in
      let text = l.1.0 in
      let here : drop i inputs ≡ x ∷ drop (i + 1) inputs = drop_more inputs i d h ∙ ap (λ y. y ∷ drop (i + 1) inputs) (sym e) in
      let next_one : Prints says faults stop shows (next ctx l.0) (i + 1 + 1) (drop (i + 1) inputs) s rest = subst (λ c. Prints says faults stop shows c (i + 1 + 1) (drop (i + 1) inputs) s rest) l.2 more in
      let lines : Prints says faults stop shows ctx (i + 1) (x ∷ drop (i + 1) inputs) s (text ++ 10 ∷ rest) = line l.0 text rest l.1.1 next_one in
      subst (λ o. Prints says faults stop shows start 1 inputs s o) (joined out text rest ∙ ap (λ o. o ++ rest) (sym l.1.2))
      (so s (text ++ 10 ∷ rest) (subst (λ xs. Prints says faults stop shows ctx (i + 1) xs s (text ++ 10 ∷ rest)) (sym here) lines))

  -- the line that refuses
  printed_fault : (i : ℕ) (d x : X) (ctx reached : Entries) (out new : List ℕ) (b : Bool) → i < length inputs → x ≡ get_or inputs i d → SoFar says faults stop shows start inputs i ctx out → IsStep says faults ctx reached out new (i + 1) x b → b ≡ true
      → Prints says faults stop shows start 1 inputs stop new
  printed_fault i d x ctx reached out new b h e so step is =
      let f = subst (λ (y : Bool). IsStep says faults ctx reached out new (i + 1) x y) is step in
      let here : drop i inputs ≡ x ∷ drop (i + 1) inputs = drop_more inputs i d h ∙ ap (λ y. y ∷ drop (i + 1) inputs) (sym e) in
      let last : Prints says faults stop shows ctx (i + 1) (x ∷ drop (i + 1) inputs) stop (f.0 ++ 10 ∷ []) = fault f.0 f.1 in
      let whole = so stop (f.0 ++ 10 ∷ []) (subst (λ xs. Prints says faults stop shows ctx (i + 1) xs stop (f.0 ++ 10 ∷ [])) (sym here) last) in
      subst (λ o. Prints says faults stop shows start 1 inputs stop o) (sym (f.2 ∙ append_assoc out f.0 (10 ∷ []))) whole

  pub printed_stop : (s : Status) → s ≡ stop → (i : ℕ) (d x : X) (ctx reached : Entries) (out new : List ℕ) (b : Bool) → i < length inputs → x ≡ get_or inputs i d → SoFar says faults stop shows start inputs i ctx out
      → IsStep says faults ctx reached out new (i + 1) x b → b ≡ true → Prints says faults stop shows start 1 inputs s new
  printed_stop s same i d x ctx reached out new b h e so step is = subst (λ st. Prints says faults stop shows start 1 inputs st new) (sym same) (printed_fault i d x ctx reached out new b h e so step is)

  -- after the last
  pub printed_end : (i : ℕ) (ctx : Entries) (out : List ℕ) (r : Result Answer AllocError) → length inputs ≤ i → SoFar says faults stop shows start inputs i ctx out → IfOk r (IsFinished shows ctx out) → IfOk r (Holds (Prints says faults stop shows start 1 inputs))
  printed_end i ctx out (Err e) h so f = tt
  printed_end i ctx out (Ok a) h so f =
      let last : Prints says faults stop shows ctx (i + 1) (drop i inputs) status.Done f.text = subst (λ xs. Prints says faults stop shows ctx (i + 1) xs status.Done f.text) (sym (drop_all i inputs h)) (done f.ends) in
      let whole = so status.Done f.text last in
      subst (λ s. Prints says faults stop shows start 1 inputs s (string_bytes a.output)) (sym f.status_is) (subst (λ o. Prints says faults stop shows start 1 inputs status.Done o) (sym f.output_is) whole)

-- ---- a context that can't be read

context_bad : (direction : Direction) (shape : Shape) (shows : Bool) (a : Accepting) (part : Option (Bor (List ℕ))) (input : List ℕ) (n : ℕ) (p : Option (Bor (List ℕ))) → part ≡ p → BlamesContext (bad.Number n) p → AnsweredFor direction shape shows a part input status.Refused (context_line n ++ 10 ∷ [])
context_bad direction shape shows a part input n None is h = absurd h
context_bad direction shape shows a part input n (Some octets) is h = bad_context octets n is h

pub bad_context_is : (direction : Direction) (shape : Shape) (shows : Bool) (a : Accepting) (part : Option (Bor (List ℕ))) (input : List ℕ) (e : BadLine) (n m : ℕ) (written : List ℕ) (r : Result Answer AllocError) → BlamesContext e part → e ≡ bad.Number n → written ≡ context_line m → m ≡ n → IfOk r (IsRefusal written)
    → IfOk r (Holds (AnsweredFor direction shape shows a part input))
bad_context_is direction shape shows a part input e n m written r blames is same number g =
    let here : BlamesContext (bad.Number n) part = subst (λ (x : BadLine). BlamesContext x part) is blames in
    refusal_is (AnsweredFor direction shape shows a part input) (context_line n) written r (context_bad direction shape shows a part input n part (λ i. part) here) (same ∙ ap context_line number) g

-- ---- items or packets of which a line can't be read

pub bad_input_is : (direction : Direction) (shape : Shape) (shows : Bool) (a : Accepting) (ctx : Entries) (input : List ℕ) (n m : ℕ) (written : List ℕ) (r : Result Answer AllocError) → IsBadInput direction input n → written ≡ bad_line_text direction m → m ≡ n → IfOk r (IsRefusal written)
    → IfOk r (Holds (AnsweredIn direction shape shows a ctx input))
bad_input_is direction shape shows a ctx input n m written r is same number g =
    refusal_is (AnsweredIn direction shape shows a ctx input) (bad_line_text direction n) written r (bad_line n is) (same ∙ ap (bad_line_text direction) number) g

-- ---- after the last line

pub finished_at : (shows b : Bool) (ctx : Entries) (lines : List ℕ) (r : Result Answer AllocError) → shows ≡ b → IfOk r (IsFinished b ctx lines) → IfOk r (IsFinished shows ctx lines)
finished_at shows b ctx lines r is h = subst (λ x. IfOk r (IsFinished x ctx lines)) (sym is) h

pub finished_plain : (shows : Bool) (ctx : Entries) (output : String Global) → shows ≡ false → IsFinished shows ctx (string_bytes output) record { status = status.Done; output = output }
finished_plain shows ctx output is = record {
  status_is = refl;
  text = [];
  ends = subst (λ b. IsEnd b ctx []) (sym is) refl;
  output_is = sym (append-nil (string_bytes output));
}

pub finished_more : (ctx : Entries) (lines mid shown text : List ℕ) (output : String Global) → mid ≡ lines ++ codes "=== context\n" → string_bytes output ≡ mid ++ shown → shown ≡ text → IsContextText ctx text → IsFinished true ctx lines record { status = status.Done; output = output }
finished_more ctx lines mid shown text output head all same is = record {
  status_is = refl;
  text = codes "=== context\n" ++ text;
  ends = (text, is, refl);
  output_is = all ∙ (λ i. head i ++ same i) ∙ append_assoc lines (codes "=== context\n") text;
}
