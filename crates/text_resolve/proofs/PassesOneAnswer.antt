-- Octets with a reading are refused only where memory is out.
use Rattle.std.proofs.Common.{◌≡◌, ap, ℕ, ◌<◌, ◌≤◌, inl, inr, List, [], ◌∷◌, ◌++◌, append-nil, length, refl, sym, subst, arith}
use Rattle.text_source.specs.declared.fault.Fault.{Fault}
use Rattle.text_source.specs.declared.fault.FaultKind.{FaultKind}
use Rattle.text_source.specs.declared.fault.FaultKind.TheVariants as faults
use Rattle.text_source.specs.declared.token.Token.{Token}
use Rattle.text_source.proofs.LexicalUnique as lexing
use Rattle.text_tree.specs.declared.refusal.FaultPlace.{FaultPlace}
use Rattle.text_tree.specs.declared.tree.File.{File}
use Rattle.text_tree.specs.Grammar.{IsText}
use Rattle.text_tree.specs.Limits.{Parsed}
use Rattle.text_tree.specs.Refused.{KeepsRule, NoText, IsRefused}
use Rattle.text_tree.proofs.FileViable.{one_tree}
use Rattle.sem_profile.specs.Resolved.{Resolved}
use Rattle.text_resolve.specs.declared.passes.ReadError.{ReadError}
use Rattle.text_resolve.specs.declared.passes.ReadError.TheVariants as errors
use Rattle.text_resolve.specs.Excluded.{NoRefusal}
use Rattle.text_resolve.specs.Passes.{HasTree, Reads, IsTextFault, no_text, no_tokens, no_tree, Refuses}
use Rattle.text_resolve.specs.Resolved.{IsNormalForm, Cause}
use Rattle.text_resolve.proofs.ExcludedCauses.{no_cause}

rule_kept : (kind : FaultKind) (tokens : List Token) (file : File) → Parsed tokens file → KeepsRule kind file
rule_kept faults.Nesting tokens file parsed = parsed.shallow
rule_kept faults.RepeatedSection tokens file parsed = parsed.unrepeated
rule_kept faults.MixedRemainder tokens file parsed = parsed.unmixed
rule_kept faults.TooManyParts tokens file parsed = parsed.limited
rule_kept _ tokens file parsed = tt

-- tokens with a tree have no fault of the grammar
tokens_right : (tokens : List Token) (file : File) (kind : FaultKind) (at : FaultPlace) → Parsed tokens file → IsRefused tokens kind at → ⊥
tokens_right tokens file kind at parsed refused = by refused.rest refused.parts refused.no_text
  where
    by : (rest : List Token) → tokens ≡ refused.front ++ rest → NoText kind refused.front rest → ⊥
    by [] parts none = none file (subst (λ ts. IsText ts file) (append-nil refused.front) (subst (λ ts. IsText ts file) parts parsed.text)) (rule_kept kind tokens file parsed)
    by (t ∷ ts) parts none = none ts file (subst (λ us. IsText us file) parts parsed.text) (rule_kept kind tokens file parsed)

one_lexing : (octets : List ℕ) (file other : File) (a : HasTree octets file) (b : HasTree octets other) → a.tokens ≡ b.tokens
one_lexing octets file other a b = lexing.unique (length octets) octets a.tokens b.tokens a.lexed b.lexed

text_right : (octets : List ℕ) (file : File) → HasTree octets file → (fault : Fault) → IsTextFault octets fault → ⊥
text_right octets file tree fault (no_text (inl long)) = let short = tree.text.0 in let more = long.0 in omega (arith, short, more)
text_right octets file tree fault (no_text (inr other)) = other.1 tree.text.1
text_right octets file tree fault (no_tokens text stopped) = lexing.no_tokens octets tree.tokens fault stopped tree.lexed
text_right octets file tree fault (no_tree tokens text lexed refuses) =
    let same = lexing.unique (length octets) octets tokens tree.tokens lexed tree.lexed in
    tokens_right tree.tokens file refuses.0.kind refuses.0.at tree.parsed (subst (λ ts. IsRefused ts refuses.0.kind refuses.0.at) same refuses.2)

pub no_refusal : NoRefusal
no_refusal octets top p reads (errors.Text fault) cause = absurd (text_right octets reads.file reads.tree fault cause)
no_refusal octets top p reads (errors.Profile fault) has =
    let tokens = one_lexing octets has.file reads.file has.tree reads.tree in
    let file = one_tree reads.tree.tokens has.file reads.file (subst (λ ts. IsText ts has.file) tokens has.tree.parsed.text) reads.tree.parsed.text in
    absurd (no_cause octets reads.file.parts top p reads.form fault (subst (λ (f : File). Cause octets f.parts top fault) file has.cause))
no_refusal octets top p reads errors.OutOfMemory said = refl
