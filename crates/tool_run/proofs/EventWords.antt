-- The words of events.
use Rattle.std.proofs.Common.{◌≡◌, ℕ, List, [], ◌∷◌, ◌∙◌, true, false, get_or, ap, sym, subst, arith, codes, refl}
use Rattle.std.proofs.lemmas.Bool.{false≢true}
use Rattle.std.specs.Str.{bytes_eq}
use Rattle.std.proofs.lemmas.Slice.Eq.{bytes_eq-Decides}
use Rattle.sem_filling.specs.declared.filling.Item.{Item}
use Rattle.walk_line.specs.declared.runs.Event.{Event}
use Rattle.walk_line.specs.declared.runs.Event.TheVariants.{Send, Reset}
use Rattle.tool_run.specs.Events.{AreEventWords, AreResetWords, AreSendWords}

differ : codes "send" ≡ codes "reset" → ⊥
differ e = apart 115 114 refl refl (ap (λ xs. get_or xs 0 0) e)
  where
    apart : (a b : ℕ) → a ≡ 115 → b ≡ 114 → a ≡ b → ⊥
    apart a b x y h = omega (arith, x, y, h)

-- one word is no event
pub lone_word : (words : List (List ℕ)) (word : List ℕ) → words ≡ word ∷ [] → (e : Event) → AreEventWords words e → ⊥
lone_word words word is (Send flow it) h = (subst (λ ws. AreEventWords ws (Send flow it)) is h).1
lone_word words word is (Reset flow) h = (subst (λ ws. AreEventWords ws (Reset flow)) is h).1

pub lone_send : (words : List (List ℕ)) (word : List ℕ) → words ≡ word ∷ [] → (flow : ℕ) (it : Item) → AreSendWords words flow it → ⊥
lone_send words word is flow it h = (subst (λ ws. AreSendWords ws flow it) is h).1

pub sends : (words more : List (List ℕ)) (word : List ℕ) (flow : ℕ) (it : Item) → words ≡ word ∷ more → bytes_eq word (codes "send") ≡ true → AreSendWords more flow it → AreEventWords words (Send flow it)
sends words more word flow it is same h = subst (λ ws. AreEventWords ws (Send flow it)) (sym is) ((bytes_eq-Decides word (codes "send")).0 same, h)

pub resets : (words more : List (List ℕ)) (word : List ℕ) (flow : ℕ) → words ≡ word ∷ more → bytes_eq word (codes "reset") ≡ true → AreResetWords more flow → AreEventWords words (Reset flow)
resets words more word flow is same h = subst (λ ws. AreEventWords ws (Reset flow)) (sym is) ((bytes_eq-Decides word (codes "reset")).0 same, h)

pub no_send : (words more : List (List ℕ)) (word : List ℕ) → words ≡ word ∷ more → bytes_eq word (codes "send") ≡ true → ((flow : ℕ) (it : Item) → AreSendWords more flow it → ⊥) → (e : Event) → AreEventWords words e → ⊥
no_send words more word is same none (Send flow it) h = none flow it (subst (λ ws. AreEventWords ws (Send flow it)) is h).1
no_send words more word is same none (Reset flow) h =
    differ (sym ((bytes_eq-Decides word (codes "send")).0 same) ∙ (subst (λ ws. AreEventWords ws (Reset flow)) is h).0)

pub no_reset : (words more : List (List ℕ)) (word : List ℕ) → words ≡ word ∷ more → bytes_eq word (codes "reset") ≡ true → ((flow : ℕ) → AreResetWords more flow → ⊥) → (e : Event) → AreEventWords words e → ⊥
no_reset words more word is same none (Send flow it) h =
    differ (sym (subst (λ ws. AreEventWords ws (Send flow it)) is h).0 ∙ (bytes_eq-Decides word (codes "reset")).0 same)
no_reset words more word is same none (Reset flow) h = none flow (subst (λ ws. AreEventWords ws (Reset flow)) is h).1

pub no_event : (words more : List (List ℕ)) (word : List ℕ) → words ≡ word ∷ more → bytes_eq word (codes "send") ≡ false → bytes_eq word (codes "reset") ≡ false → (e : Event) → AreEventWords words e → ⊥
no_event words more word is send reset (Send flow it) h =
    false≢true (sym send ∙ (bytes_eq-Decides word (codes "send")).1 (subst (λ ws. AreEventWords ws (Send flow it)) is h).0)
no_event words more word is send reset (Reset flow) h =
    false≢true (sym reset ∙ (bytes_eq-Decides word (codes "reset")).1 (subst (λ ws. AreEventWords ws (Reset flow)) is h).0)
