use Rattle.std.proofs.Common.{◌≡◌, ◌∙◌, ◌∷◌, ◌++◌, [], Some, None, ap, sym, true, false, string_bytes}
use Rattle.std.specs.Prelude.{is_some}
use Rattle.sem_context.specs.Entries.{bits_at}
use Rattle.sem_context.specs.Placing.{place_of, with_path}
use Rattle.sem_context.proofs.PlacingPaths.{as_found}
use Rattle.sem_context.proofs.PlacingMissing.{path_added, path_there, path_missing}
use Rattle.sem_context.proofs.context.Context.add_if_missing.Goals as goal

pub returns-then-is_some-clause-ok : goal.returns-then-is_some-clause-ok
returns-then-is_some-clause-ok c =
    let found : is_some (place_of c.args.self.now (string_bytes c.args.path.now)) ≡ true = cc (c.place_of.ensures, c.as_str.ensures.value, c.is_some.ensures, c.if-is_some.true) in
    sym (path_there c.args.self.now (string_bytes c.args.path.now) (as_found c.args.self.now (string_bytes c.args.path.now) ∙ found))

pub push_new-requires : goal.push_new-requires
push_new-requires c =
    let missing : is_some (place_of c.args.self.now (string_bytes c.args.path.now)) ≡ false = cc (c.place_of.ensures, c.as_str.ensures.value, c.is_some.ensures, c.if-is_some.false) in
    let none : bits_at c.args.self.now (string_bytes c.args.path.now) ≡ None = path_missing c.args.self.now (string_bytes c.args.path.now) (as_found c.args.self.now (string_bytes c.args.path.now) ∙ missing) in
    ap (bits_at c.args.self.now) (cc (c.in_ok-clone.ensures.cases)) ∙ none

pub returns-clause-ok : goal.returns-clause-ok
returns-clause-ok c =
    let missing : is_some (place_of c.args.self.now (string_bytes c.args.path.now)) ≡ false = cc (c.place_of.ensures, c.as_str.ensures.value, c.is_some.ensures, c.if-is_some.false) in
    let none : bits_at c.args.self.now (string_bytes c.args.path.now) ≡ None = path_missing c.args.self.now (string_bytes c.args.path.now) (as_found c.args.self.now (string_bytes c.args.path.now) ∙ missing) in
    let put = c.in_ok-push_new.ensures.ok in
    path_added c.args.self.now c.push_new.new.self (string_bytes c.args.path.now) none (put ∙ ap (λ e. c.args.self.now ++ (e, c.new-bits.result) ∷ []) (cc (c.in_ok-clone.ensures.cases)) ∙ ap (λ b. c.args.self.now ++ (string_bytes c.args.path.now, b) ∷ []) c.new-bits.ensures)
