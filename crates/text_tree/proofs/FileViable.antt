-- Where a token is refused, no text begins with the tokens up to and with it.
use Rattle.std.proofs.Common.{◌≡◌, ◌⊎◌, inl, inr, ℕ, List, [], ◌∷◌, ◌++◌, Ok, Err, refl, sym, ap, subst, ◌∙◌}
use Rattle.std.proofs.lemmas.List.{append-nil}
use Rattle.text_source.specs.declared.fault.FaultKind.{FaultKind}
use Rattle.text_source.specs.declared.fault.FaultKind.TheVariants as f
use Rattle.text_source.specs.declared.fault.SourceError.TheVariants as sources
use Rattle.text_source.specs.declared.token.Token.{Token}
use Rattle.text_tree.specs.declared.refusal.FaultPlace.{FaultPlace}
use Rattle.text_tree.specs.declared.refusal.PlacedFault.{PlacedFault}
use Rattle.text_tree.specs.declared.tree.Part.{Part}
use Rattle.text_tree.specs.declared.tree.File.{File}
use Rattle.text_tree.specs.Rules.{Rules, all, none}
use Rattle.text_tree.specs.Grammar.{IsText, Many, IsPart}
use Rattle.text_tree.specs.Limits.{Parsed}
use Rattle.text_tree.proofs.GrammarStrict as g
use Rattle.text_tree.proofs.GrammarStrict.{IsFile}
use Rattle.text_tree.proofs.RuledFile.{parsed}
use Rattle.text_tree.proofs.RuledKinds.{sums_alone, repeats_alone, counts_alone, text_passes, shallow_passes, sums_pass, repeats_pass, counts_pass, parsed_passes, two_pass}
use Rattle.text_tree.specs.Reading.{Outcome}
use Rattle.text_tree.specs.Refused.{KeepsRule, NoText, Stands, reached, IsRefused, Refuses, fault_of, OneTree}
use Rattle.text_tree.specs.File.{parts}
use Rattle.text_tree.proofs.ReadingLocal.{Alike, value_is}
use Rattle.text_tree.proofs.ReadingBegun.{AnyOf, Sees}
use Rattle.text_tree.proofs.BegunFile.{reads_parts}
use Rattle.text_tree.proofs.WholeFile.{parts_whole}
use Rattle.text_tree.proofs.SoundFile.{parts_sound}
use Rattle.text_tree.proofs.ReadingAgree.{Counts, Off}
use Rattle.text_tree.proofs.AgreeFile.{agree_parts}

reads : (r : Rules) (tokens : List Token) (file : File) → IsFile r tokens file → parts r tokens ≡ Ok (file.parts, [])
reads r tokens file (g.is_file h) = parts_whole r h

pub one_tree : OneTree
one_tree tokens a b pa pb =
    let both = two_pass tokens a b pa pb in
    let same : a.parts ≡ b.parts = value_is (sym (reads (none both.0) tokens a both.1) ∙ reads (none both.0) tokens b both.2) in
    ap (λ (xs : List Part). record { parts = xs }) same

-- what is refused keeps not the rule that the fault speaks of
refused : (tokens : List Token) (refusal : PlacedFault) → parts all tokens ≡ Err refusal → (r : Rules) → Counts refusal.kind r → (file : File) → IsFile r tokens file → ⊥
refused tokens refusal e r counts file h = by_agree ((agree_parts r).same tokens)
  where
    by_agree : (parts all tokens ≡ parts r tokens) ⊎ Off r (parts all tokens) → ⊥
    by_agree (inl same) = let both : ◌≡◌ {A = Outcome (List Part)} (Ok (file.parts, [])) (Err refusal) = sym (reads r tokens file h) ∙ sym same ∙ e in absurd cc
    by_agree (inr off) = subst (λ (o : Outcome (List Part)). Off r o) e off counts

-- nor does a text that keeps that rule pass
rule_out : (kind : FaultKind) (at : FaultPlace) (front rest tokens : List Token) → Stands kind at front rest → ((r : Rules) → Counts kind r → (file : File) → IsFile r tokens file → ⊥)
    → (file : File) → IsText tokens file → KeepsRule kind file → ⊥
rule_out f.Unexpected at front rest tokens h never file text rule = let pass = text_passes tokens file text in never (none pass.0) tt file pass.1
rule_out f.EmptyBracket at front rest tokens h never file text rule = let pass = text_passes tokens file text in never (none pass.0) tt file pass.1
rule_out f.Nesting at front rest tokens h never file text rule = never (none 0) refl file (shallow_passes tokens file rule text)
rule_out f.RepeatedSection at front rest tokens h never file text rule = let pass = repeats_pass tokens file rule text in never (repeats_alone pass.0) refl file pass.1
rule_out f.MixedRemainder at front rest tokens h never file text rule = let pass = sums_pass tokens file rule text in never (sums_alone pass.0) refl file pass.1
rule_out f.TooManyParts at front rest tokens h never file text rule = let pass = counts_pass tokens file rule text in never (counts_alone pass.0) refl file pass.1
rule_out _ at front rest tokens h never file text rule = absurd h

no_text : (refusal : PlacedFault) (taken rest : List Token) → Stands refusal.kind refusal.at taken rest → ((other : List Token) → Alike rest other → parts all (taken ++ other) ≡ Err refusal) → NoText refusal.kind taken rest
no_text refusal taken [] h whatever = λ file text rule.
    rule_out refusal.kind refusal.at taken [] taken h (refused taken refusal (ap (parts all) (sym (append-nil taken)) ∙ whatever [] tt)) file text rule
no_text refusal taken (t ∷ ts) h whatever = λ more file text rule.
    rule_out refusal.kind refusal.at taken (t ∷ ts) (taken ++ t ∷ more) h (refused (taken ++ t ∷ more) refusal (whatever (t ∷ more) refl)) file text rule

is_refused : (tokens : List Token) (refusal : PlacedFault) → parts all tokens ≡ Err refusal → IsRefused tokens refusal.kind refusal.at
is_refused tokens refusal e = by_look (subst (λ (o : Outcome (List Part)). Sees [] (Many IsPart) AnyOf (parts all) tokens o) e (reads_parts.sees [] tokens tt))
  where
    by_look : Sees [] (Many IsPart) AnyOf (parts all) tokens (Err refusal) → IsRefused tokens refusal.kind refusal.at
    by_look s =
        let b = s.right.1 in
        record {
          front = s.taken;
          rest = s.rest;
          parts = s.parts;
          begun = (b.more, record { parts = b.value }, subst (λ (ts : List Token). Many IsPart ts [] b.value) (append-nil (reached refusal.kind s.taken s.rest ++ b.more)) (b.spans []));
          no_text = no_text refusal s.taken s.rest s.right.0 s.whatever;
          stands = s.right.0;
        }

-- ---- as the code has it

pub refuses : (len : ℕ) (tokens : List Token) (refusal : PlacedFault) → parts all tokens ≡ Err refusal → Refuses len tokens (sources.Fault (fault_of len refusal))
refuses len tokens refusal e = (refusal, refl, is_refused tokens refusal e)

pub found_file : (tokens rest : List Token) (xs : List Part) → parts all tokens ≡ Ok (xs, rest) → Parsed tokens (record { parts = xs })
found_file tokens rest xs e = parsed tokens (record { parts = xs }) (g.is_file (parts_sound all tokens rest xs e))

pub only_file : (tokens rest : List Token) (xs : List Part) → parts all tokens ≡ Ok (xs, rest) → (file : File) → Parsed tokens file → ◌≡◌ {A = File} (record { parts = xs }) file
only_file tokens rest xs e file h = ap (λ (ys : List Part). record { parts = ys }) (value_is (sym e ∙ reads all tokens file (parsed_passes tokens file h)))

pub never_refused : (tokens : List Token) (refusal : PlacedFault) → parts all tokens ≡ Err refusal → (file : File) → Parsed tokens file → ⊥
never_refused tokens refusal e file h = let both : ◌≡◌ {A = Outcome (List Part)} (Ok (file.parts, [])) (Err refusal) = sym (reads all tokens file (parsed_passes tokens file h)) ∙ e in absurd cc
