-- What a refusal by the grammar says of the octets of a profile.
use Rattle.std.proofs.Common.{◌≡◌, ℕ, List, length, sym, subst, Result, Ok, Err}
use Rattle.std.specs.Prelude.{IfErr}
use Rattle.std.specs.Result.{IsErrAnd}
use Rattle.text_source.specs.declared.fault.SourceError.{SourceError}
use Rattle.text_source.specs.declared.fault.SourceError.TheVariants as sources
use Rattle.text_source.specs.declared.token.Token.{Token}
use Rattle.text_source.specs.Lexical.{Lexed}
use Rattle.text_source.specs.Places.{IsText}
use Rattle.text_tree.specs.Refused as tree
use Rattle.text_resolve.specs.declared.passes.ReadError.{ReadError}
use Rattle.text_resolve.specs.Passes.{IsTextFault, Refuses, PassesText, no_tree}

-- the source is the octets' text, the slice its tokens, of which there is no tree
pub no_tree_at : {B : Type 0} (octets source top : List ℕ) (items slice : List Token) (e : SourceError) (r : Result B ReadError) → source ≡ octets → IsText octets → Lexed source items → slice ≡ items
    → tree.Refuses (length source) slice e → IsErrAnd r (PassesText e) → IfErr r (Refuses octets top)
no_tree_at octets source top items slice e (Ok x) same text lexed at h p = tt
no_tree_at octets source top items slice (sources.Fault fault) (Err x) same text lexed at h p =
    let here : Lexed octets slice = subst (λ (ts : List Token). Lexed octets ts) (sym at) (subst (λ (us : List ℕ). Lexed us items) same lexed) in
    let refused : IsTextFault octets fault = no_tree slice text here (subst (λ (us : List ℕ). tree.Refuses (length us) slice (sources.Fault fault)) same h) in
    subst (λ (y : ReadError). Refuses octets top y) (sym p) refused
no_tree_at octets source top items slice sources.OutOfMemory (Err x) same text lexed at h p = subst (λ (y : ReadError). Refuses octets top y) (sym p) tt
