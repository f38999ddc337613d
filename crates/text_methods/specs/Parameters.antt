-- The names of a method's parameters.
use Rattle.std.specs.Prelude.{ℕ, List, [], fold}
use Rattle.text_source.specs.declared.span.Span.{Span}
use Rattle.sem_profile.specs.Words.{word, with_word}

-- each name once, in the order of the text
abbrev pub distinct_words : List ℕ → List Span → List (List ℕ)
distinct_words text parameters = fold (λ names p. with_word names (word text p)) [] parameters
