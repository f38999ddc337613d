use Rattle.std.proofs.Common.{length, reverse}
use Rattle.std.specs.List.{AllByRecursion}
use Rattle.text_methods.specs.Worded.{PartIsWorded}
use Rattle.text_resolve.specs.Parts.{methods_of}
use Rattle.text_resolve.specs.Methods.{Leads}
use Rattle.text_resolve.proofs.methods.all_drafts.Given as goal

abbrev pub invariant-loop-part : goal.invariant-loop-part
invariant-loop-part l = Leads l.file l.fn.parts l.top (length l.drafts.found) (methods_of (reverse l.rest)) l.drafts × AllByRecursion (PartIsWorded l.file.text.now) (reverse l.rest)

abbrev pub decreases-loop-part : goal.decreases-loop-part
decreases-loop-part l = length l.rest
