-- What words that are written out ask for.
use Rattle.std.proofs.Common.{◌≡◌, [], ◌∷◌, None, Some, true, false, inl, refl, codes}
use Rattle.std.specs.Fmt.{digits}
use Rattle.clap.proofs.OnLiterals.{clap_on_literals}
use Rattle.cert_types.specs.declared.certificate.Version.TheVariants.{One, Two}
use Rattle.tool_words.specs.declared.words.Command.TheVariants.{Show, Lint, Draw, Check, Prove, ExplainCheck, ExplainProve, Run, Fields, Why, WhyNot, Stats, Loss, Advise, RobustPack, RobustStats, RobustLoss, RobustWhy, Line, SendFrames, ReceiveFrames}
use Rattle.tool_words.specs.declared.words.Direction.TheVariants.{Pack, Unpack}
use Rattle.tool_words.specs.declared.words.End.TheVariants.{Sending, Receiving}
use Rattle.tool_words.specs.declared.words.Form.TheVariants.{Text, Json}
use Rattle.tool_words.specs.Words.{AskHelp, AskJustHelp, ReadsWords, asked_of, plain_counting, program}

pub pack_read : asked_of (codes "pack" ∷ codes "--top" ∷ codes "plain" ∷ []) ≡ Some (record { command = Run Pack; top = codes "plain"; shows_context = false; version = One; is_wide = false; is_strict = false; form = Text; avoided = [] })
unfolding asked_of program clap_on_literals
pack_read = refl

pub unpack_read : asked_of (codes "unpack" ∷ codes "--top=plain" ∷ []) ≡ Some (record { command = Run Unpack; top = codes "plain"; shows_context = false; version = One; is_wide = false; is_strict = false; form = Text; avoided = [] })
unfolding asked_of program clap_on_literals
unpack_read = refl

pub show_read : asked_of (codes "show" ∷ codes "--top" ∷ codes "plain" ∷ []) ≡ Some (record { command = Show; top = codes "plain"; shows_context = false; version = One; is_wide = false; is_strict = false; form = Text; avoided = [] })
unfolding asked_of program clap_on_literals
show_read = refl

pub check_read : asked_of (codes "check" ∷ codes "--top" ∷ codes "plain" ∷ []) ≡ Some (record { command = Check; top = codes "plain"; shows_context = false; version = One; is_wide = false; is_strict = false; form = Text; avoided = [] })
unfolding asked_of program clap_on_literals
check_read = refl

pub prove_read : asked_of (codes "prove" ∷ codes "--top" ∷ codes "plain" ∷ []) ≡ Some (record { command = Prove; top = codes "plain"; shows_context = false; version = One; is_wide = false; is_strict = false; form = Text; avoided = [] })
unfolding asked_of program clap_on_literals
prove_read = refl

pub pack_context_read : asked_of (codes "pack" ∷ codes "--top" ∷ codes "plain" ∷ codes "--context" ∷ []) ≡ Some (record { command = Run Pack; top = codes "plain"; shows_context = true; version = One; is_wide = false; is_strict = false; form = Text; avoided = [] })
unfolding asked_of program clap_on_literals
pack_context_read = refl

pub pack_second_read : asked_of (codes "pack" ∷ codes "--top" ∷ codes "plain" ∷ codes "--v2" ∷ []) ≡ Some (record { command = Run Pack; top = codes "plain"; shows_context = false; version = Two; is_wide = false; is_strict = false; form = Text; avoided = [] })
unfolding asked_of program clap_on_literals
pack_second_read = refl

pub prove_second_read : asked_of (codes "prove" ∷ codes "--v2" ∷ codes "--top" ∷ codes "plain" ∷ []) ≡ Some (record { command = Prove; top = codes "plain"; shows_context = false; version = Two; is_wide = false; is_strict = false; form = Text; avoided = [] })
unfolding asked_of program clap_on_literals
prove_second_read = refl

pub line_second_read : asked_of (codes "line" ∷ codes "--top" ∷ codes "plain" ∷ codes "--receive" ∷ codes "--v2" ∷ []) ≡ Some (record { command = Line Receiving; top = codes "plain"; shows_context = false; version = Two; is_wide = false; is_strict = false; form = Text; avoided = [] })
unfolding asked_of program clap_on_literals
line_second_read = refl

pub show_second_refused : asked_of (codes "show" ∷ codes "--top" ∷ codes "plain" ∷ codes "--v2" ∷ []) ≡ None
unfolding asked_of program clap_on_literals
show_second_refused = refl

pub show_context_refused : asked_of (codes "show" ∷ codes "--top" ∷ codes "plain" ∷ codes "--context" ∷ []) ≡ None
unfolding asked_of program clap_on_literals
show_context_refused = refl

pub line_read : asked_of (codes "line" ∷ codes "--top" ∷ codes "plain" ∷ []) ≡ Some (record { command = Line Sending; top = codes "plain"; shows_context = false; version = One; is_wide = false; is_strict = false; form = Text; avoided = [] })
unfolding asked_of program clap_on_literals
line_read = refl

pub line_receive_read : asked_of (codes "line" ∷ codes "--top" ∷ codes "plain" ∷ codes "--receive" ∷ []) ≡ Some (record { command = Line Receiving; top = codes "plain"; shows_context = false; version = One; is_wide = false; is_strict = false; form = Text; avoided = [] })
unfolding asked_of program clap_on_literals
line_receive_read = refl

pub line_wide_read : asked_of (codes "line" ∷ codes "--top" ∷ codes "plain" ∷ codes "--wide" ∷ []) ≡ Some (record { command = Line Sending; top = codes "plain"; shows_context = false; version = One; is_wide = true; is_strict = false; form = Text; avoided = [] })
unfolding asked_of program clap_on_literals
line_wide_read = refl

pub line_wide_receive_read : asked_of (codes "line" ∷ codes "--wide" ∷ codes "--receive" ∷ codes "--top" ∷ codes "plain" ∷ []) ≡ Some (record { command = Line Receiving; top = codes "plain"; shows_context = false; version = One; is_wide = true; is_strict = false; form = Text; avoided = [] })
unfolding asked_of program clap_on_literals
line_wide_receive_read = refl

pub fields_read : asked_of (codes "fields" ∷ codes "--top" ∷ codes "plain" ∷ []) ≡ Some (record { command = Fields Unpack; top = codes "plain"; shows_context = false; version = One; is_wide = false; is_strict = false; form = Text; avoided = [] })
unfolding asked_of program clap_on_literals
fields_read = refl

pub fields_items_read : asked_of (codes "fields" ∷ codes "--top" ∷ codes "plain" ∷ codes "--items" ∷ codes "--context" ∷ []) ≡ Some (record { command = Fields Pack; top = codes "plain"; shows_context = true; version = One; is_wide = false; is_strict = false; form = Text; avoided = [] })
unfolding asked_of program clap_on_literals
fields_items_read = refl

pub why_read : asked_of (codes "why" ∷ codes "--top" ∷ codes "plain" ∷ []) ≡ Some (record { command = Why Unpack; top = codes "plain"; shows_context = false; version = One; is_wide = false; is_strict = false; form = Text; avoided = [] })
unfolding asked_of program clap_on_literals
why_read = refl

pub why_items_read : asked_of (codes "why" ∷ codes "--top" ∷ codes "plain" ∷ codes "--items" ∷ []) ≡ Some (record { command = Why Pack; top = codes "plain"; shows_context = false; version = One; is_wide = false; is_strict = false; form = Text; avoided = [] })
unfolding asked_of program clap_on_literals
why_items_read = refl

pub stats_read : asked_of (codes "stats" ∷ codes "--top" ∷ codes "plain" ∷ []) ≡ Some (record { command = Stats plain_counting; top = codes "plain"; shows_context = false; version = One; is_wide = false; is_strict = false; form = Text; avoided = [] })
unfolding asked_of program clap_on_literals
stats_read = refl

pub stats_context_refused : asked_of (codes "stats" ∷ codes "--top" ∷ codes "plain" ∷ codes "--context" ∷ []) ≡ None
unfolding asked_of program clap_on_literals
stats_context_refused = refl

pub loss_read : asked_of (codes "loss" ∷ codes "--top" ∷ codes "plain" ∷ []) ≡ Some (record { command = Loss 8; top = codes "plain"; shows_context = false; version = One; is_wide = false; is_strict = false; form = Text; avoided = [] })
unfolding asked_of program clap_on_literals digits
loss_read = refl

pub loss_none_read : asked_of (codes "loss" ∷ codes "--top" ∷ codes "plain" ∷ codes "--lost" ∷ codes "0" ∷ []) ≡ Some (record { command = Loss 0; top = codes "plain"; shows_context = false; version = One; is_wide = false; is_strict = false; form = Text; avoided = [] })
unfolding asked_of program clap_on_literals digits
loss_none_read = refl

pub loss_most_read : asked_of (codes "loss" ∷ codes "--lost=63" ∷ codes "--top" ∷ codes "plain" ∷ codes "--v2" ∷ []) ≡ Some (record { command = Loss 63; top = codes "plain"; shows_context = false; version = Two; is_wide = false; is_strict = false; form = Text; avoided = [] })
unfolding asked_of program clap_on_literals digits
loss_most_read = refl

pub loss_above_refused : asked_of (codes "loss" ∷ codes "--top" ∷ codes "plain" ∷ codes "--lost" ∷ codes "64" ∷ []) ≡ None
unfolding asked_of program clap_on_literals digits
loss_above_refused = refl

pub loss_plus_refused : asked_of (codes "loss" ∷ codes "--top" ∷ codes "plain" ∷ codes "--lost" ∷ codes "+1" ∷ []) ≡ None
unfolding asked_of program clap_on_literals digits
loss_plus_refused = refl

pub loss_minus_refused : asked_of (codes "loss" ∷ codes "--top" ∷ codes "plain" ∷ codes "--lost=-1" ∷ []) ≡ None
unfolding asked_of program clap_on_literals digits
loss_minus_refused = refl

pub loss_zero_first_refused : asked_of (codes "loss" ∷ codes "--top" ∷ codes "plain" ∷ codes "--lost" ∷ codes "01" ∷ []) ≡ None
unfolding asked_of program clap_on_literals digits
loss_zero_first_refused = refl

pub loss_empty_refused : asked_of (codes "loss" ∷ codes "--top" ∷ codes "plain" ∷ codes "--lost=" ∷ []) ≡ None
unfolding asked_of program clap_on_literals digits
loss_empty_refused = refl

pub loss_letter_refused : asked_of (codes "loss" ∷ codes "--top" ∷ codes "plain" ∷ codes "--lost" ∷ codes "1x" ∷ []) ≡ None
unfolding asked_of program clap_on_literals digits
loss_letter_refused = refl

pub loss_twice_refused : asked_of (codes "loss" ∷ codes "--top" ∷ codes "plain" ∷ codes "--lost" ∷ codes "1" ∷ codes "--lost" ∷ codes "1" ∷ []) ≡ None
unfolding asked_of program clap_on_literals digits
loss_twice_refused = refl

pub loss_context_refused : asked_of (codes "loss" ∷ codes "--top" ∷ codes "plain" ∷ codes "--context" ∷ []) ≡ None
unfolding asked_of program clap_on_literals digits
loss_context_refused = refl

pub stats_lost_refused : asked_of (codes "stats" ∷ codes "--top" ∷ codes "plain" ∷ codes "--lost" ∷ codes "1" ∷ []) ≡ None
unfolding asked_of program clap_on_literals digits
stats_lost_refused = refl

pub pack_robust_read : asked_of (codes "pack" ∷ codes "--top" ∷ codes "plain" ∷ codes "--robust" ∷ codes "0" ∷ []) ≡ Some (record { command = RobustPack 0; top = codes "plain"; shows_context = false; version = One; is_wide = false; is_strict = false; form = Text; avoided = [] })
unfolding asked_of program clap_on_literals digits
pack_robust_read = refl

pub pack_robust_context_read : asked_of (codes "pack" ∷ codes "--robust=63" ∷ codes "--top" ∷ codes "plain" ∷ codes "--context" ∷ codes "--v2" ∷ []) ≡ Some (record { command = RobustPack 63; top = codes "plain"; shows_context = true; version = Two; is_wide = false; is_strict = false; form = Text; avoided = [] })
unfolding asked_of program clap_on_literals digits
pack_robust_context_read = refl

pub pack_robust_above_read : asked_of (codes "pack" ∷ codes "--top" ∷ codes "plain" ∷ codes "--robust" ∷ codes "64" ∷ []) ≡ None
unfolding asked_of program clap_on_literals digits
pack_robust_above_read = refl

pub pack_robust_zero_first_read : asked_of (codes "pack" ∷ codes "--top" ∷ codes "plain" ∷ codes "--robust" ∷ codes "01" ∷ []) ≡ None
unfolding asked_of program clap_on_literals digits
pack_robust_zero_first_read = refl

pub pack_robust_twice_read : asked_of (codes "pack" ∷ codes "--top" ∷ codes "plain" ∷ codes "--robust" ∷ codes "1" ∷ codes "--robust" ∷ codes "1" ∷ []) ≡ None
unfolding asked_of program clap_on_literals digits
pack_robust_twice_read = refl

pub stats_robust_read : asked_of (codes "stats" ∷ codes "--top" ∷ codes "plain" ∷ codes "--robust" ∷ codes "3" ∷ []) ≡ Some (record { command = RobustStats 3 plain_counting; top = codes "plain"; shows_context = false; version = One; is_wide = false; is_strict = false; form = Text; avoided = [] })
unfolding asked_of program clap_on_literals digits
stats_robust_read = refl

pub stats_robust_plus_read : asked_of (codes "stats" ∷ codes "--top" ∷ codes "plain" ∷ codes "--robust" ∷ codes "+1" ∷ []) ≡ None
unfolding asked_of program clap_on_literals digits
stats_robust_plus_read = refl

pub loss_robust_read : asked_of (codes "loss" ∷ codes "--top" ∷ codes "plain" ∷ codes "--robust" ∷ codes "3" ∷ []) ≡ Some (record { command = RobustLoss 8 3; top = codes "plain"; shows_context = false; version = One; is_wide = false; is_strict = false; form = Text; avoided = [] })
unfolding asked_of program clap_on_literals digits
loss_robust_read = refl

pub loss_both_read : asked_of (codes "loss" ∷ codes "--top" ∷ codes "plain" ∷ codes "--robust" ∷ codes "15" ∷ codes "--lost" ∷ codes "2" ∷ []) ≡ Some (record { command = RobustLoss 2 15; top = codes "plain"; shows_context = false; version = One; is_wide = false; is_strict = false; form = Text; avoided = [] })
unfolding asked_of program clap_on_literals digits
loss_both_read = refl

pub loss_robust_empty_read : asked_of (codes "loss" ∷ codes "--top" ∷ codes "plain" ∷ codes "--robust=" ∷ []) ≡ None
unfolding asked_of program clap_on_literals digits
loss_robust_empty_read = refl

pub unpack_robust_read : asked_of (codes "unpack" ∷ codes "--top" ∷ codes "plain" ∷ codes "--robust" ∷ codes "1" ∷ []) ≡ None
unfolding asked_of program clap_on_literals digits
unpack_robust_read = refl

pub fields_robust_read : asked_of (codes "fields" ∷ codes "--top" ∷ codes "plain" ∷ codes "--items" ∷ codes "--robust" ∷ codes "1" ∷ []) ≡ None
unfolding asked_of program clap_on_literals digits
fields_robust_read = refl

pub why_robust_read : asked_of (codes "why" ∷ codes "--top" ∷ codes "plain" ∷ codes "--items" ∷ codes "--robust" ∷ codes "2" ∷ []) ≡ Some (record { command = RobustWhy 2; top = codes "plain"; shows_context = false; version = One; is_wide = false; is_strict = false; form = Text; avoided = [] })
unfolding asked_of program clap_on_literals digits
why_robust_read = refl

pub why_robust_packets_refused : asked_of (codes "why" ∷ codes "--top" ∷ codes "plain" ∷ codes "--robust" ∷ codes "2" ∷ []) ≡ None
unfolding asked_of program clap_on_literals digits
why_robust_packets_refused = refl

pub stats_by_item_read : asked_of (codes "stats" ∷ codes "--top" ∷ codes "plain" ∷ codes "--by-item" ∷ []) ≡ Some (record { command = Stats (record { lists_items = true; needs_all = false; most = None; form = Text }); top = codes "plain"; shows_context = false; version = One; is_wide = false; is_strict = false; form = Text; avoided = [] })
unfolding asked_of program clap_on_literals
stats_by_item_read = refl

pub stats_checks_read : asked_of (codes "stats" ∷ codes "--top" ∷ codes "plain" ∷ codes "--all" ∷ codes "--at-most" ∷ codes "40" ∷ []) ≡ Some (record { command = Stats (record { lists_items = false; needs_all = true; most = Some 40; form = Text }); top = codes "plain"; shows_context = false; version = One; is_wide = false; is_strict = false; form = Text; avoided = [] })
unfolding asked_of program clap_on_literals digits
stats_checks_read = refl

pub stats_checks_robust_read : asked_of (codes "stats" ∷ codes "--top" ∷ codes "plain" ∷ codes "--robust" ∷ codes "2" ∷ codes "--at-most=65536" ∷ codes "--by-item" ∷ []) ≡ Some (record { command = RobustStats 2 (record { lists_items = true; needs_all = false; most = Some 65536; form = Text }); top = codes "plain"; shows_context = false; version = One; is_wide = false; is_strict = false; form = Text; avoided = [] })
unfolding asked_of program clap_on_literals digits
stats_checks_robust_read = refl

pub stats_most_above_refused : asked_of (codes "stats" ∷ codes "--top" ∷ codes "plain" ∷ codes "--at-most" ∷ codes "65537" ∷ []) ≡ None
unfolding asked_of program clap_on_literals digits
stats_most_above_refused = refl

pub stats_most_letter_refused : asked_of (codes "stats" ∷ codes "--top" ∷ codes "plain" ∷ codes "--at-most" ∷ codes "4x" ∷ []) ≡ None
unfolding asked_of program clap_on_literals digits
stats_most_letter_refused = refl

pub loss_checks_refused : asked_of (codes "loss" ∷ codes "--top" ∷ codes "plain" ∷ codes "--all" ∷ []) ≡ None
unfolding asked_of program clap_on_literals
loss_checks_refused = refl

pub why_not_read : asked_of (codes "why" ∷ codes "--top" ∷ codes "plain" ∷ codes "--items" ∷ codes "--not" ∷ codes "short" ∷ []) ≡ Some (record { command = WhyNot; top = codes "plain"; shows_context = false; version = One; is_wide = false; is_strict = false; form = Text; avoided = codes "short" })
unfolding asked_of program clap_on_literals
why_not_read = refl

pub why_not_second_read : asked_of (codes "why" ∷ codes "--not=a.b" ∷ codes "--v2" ∷ codes "--items" ∷ codes "--top" ∷ codes "plain" ∷ []) ≡ Some (record { command = WhyNot; top = codes "plain"; shows_context = false; version = Two; is_wide = false; is_strict = false; form = Text; avoided = codes "a.b" })
unfolding asked_of program clap_on_literals
why_not_second_read = refl

pub why_not_packets_refused : asked_of (codes "why" ∷ codes "--top" ∷ codes "plain" ∷ codes "--not" ∷ codes "short" ∷ []) ≡ None
unfolding asked_of program clap_on_literals
why_not_packets_refused = refl

pub why_not_robust_refused : asked_of (codes "why" ∷ codes "--top" ∷ codes "plain" ∷ codes "--items" ∷ codes "--not" ∷ codes "short" ∷ codes "--robust" ∷ codes "2" ∷ []) ≡ None
unfolding asked_of program clap_on_literals digits
why_not_robust_refused = refl

pub fields_not_refused : asked_of (codes "fields" ∷ codes "--top" ∷ codes "plain" ∷ codes "--items" ∷ codes "--not" ∷ codes "short" ∷ []) ≡ None
unfolding asked_of program clap_on_literals
fields_not_refused = refl

pub advise_read : asked_of (codes "advise" ∷ codes "--top" ∷ codes "plain" ∷ []) ≡ Some (record { command = Advise 8; top = codes "plain"; shows_context = false; version = One; is_wide = false; is_strict = false; form = Text; avoided = [] })
unfolding asked_of program clap_on_literals digits
advise_read = refl

pub advise_lost_read : asked_of (codes "advise" ∷ codes "--top" ∷ codes "plain" ∷ codes "--lost" ∷ codes "3" ∷ []) ≡ Some (record { command = Advise 3; top = codes "plain"; shows_context = false; version = One; is_wide = false; is_strict = false; form = Text; avoided = [] })
unfolding asked_of program clap_on_literals digits
advise_lost_read = refl

pub advise_robust_refused : asked_of (codes "advise" ∷ codes "--top" ∷ codes "plain" ∷ codes "--robust" ∷ codes "3" ∷ []) ≡ None
unfolding asked_of program clap_on_literals digits
advise_robust_refused = refl

pub lint_strict_read : asked_of (codes "lint" ∷ codes "--top" ∷ codes "plain" ∷ codes "--strict" ∷ []) ≡ Some (record { command = Lint; top = codes "plain"; shows_context = false; version = One; is_wide = false; is_strict = true; form = Text; avoided = [] })
unfolding asked_of program clap_on_literals
lint_strict_read = refl

pub draw_strict_refused : asked_of (codes "draw" ∷ codes "--top" ∷ codes "plain" ∷ codes "--strict" ∷ []) ≡ None
unfolding asked_of program clap_on_literals
draw_strict_refused = refl

pub lint_read : asked_of (codes "lint" ∷ codes "--top" ∷ codes "plain" ∷ []) ≡ Some (record { command = Lint; top = codes "plain"; shows_context = false; version = One; is_wide = false; is_strict = false; form = Text; avoided = [] })
unfolding asked_of program clap_on_literals
lint_read = refl

pub lint_second_refused : asked_of (codes "lint" ∷ codes "--top" ∷ codes "plain" ∷ codes "--v2" ∷ []) ≡ None
unfolding asked_of program clap_on_literals
lint_second_refused = refl

pub draw_read : asked_of (codes "draw" ∷ codes "--top" ∷ codes "plain" ∷ []) ≡ Some (record { command = Draw; top = codes "plain"; shows_context = false; version = One; is_wide = false; is_strict = false; form = Text; avoided = [] })
unfolding asked_of program clap_on_literals
draw_read = refl

pub check_explain_read : asked_of (codes "check" ∷ codes "--top" ∷ codes "plain" ∷ codes "--explain" ∷ []) ≡ Some (record { command = ExplainCheck; top = codes "plain"; shows_context = false; version = One; is_wide = false; is_strict = false; form = Text; avoided = [] })
unfolding asked_of program clap_on_literals
check_explain_read = refl

pub prove_explain_read : asked_of (codes "prove" ∷ codes "--explain" ∷ codes "--top" ∷ codes "plain" ∷ []) ≡ Some (record { command = ExplainProve; top = codes "plain"; shows_context = false; version = One; is_wide = false; is_strict = false; form = Text; avoided = [] })
unfolding asked_of program clap_on_literals
prove_explain_read = refl

pub lint_json_read : asked_of (codes "lint" ∷ codes "--top" ∷ codes "plain" ∷ codes "--json" ∷ []) ≡ Some (record { command = Lint; top = codes "plain"; shows_context = false; version = One; is_wide = false; is_strict = false; form = Json; avoided = [] })
unfolding asked_of program clap_on_literals
lint_json_read = refl

pub stats_json_read : asked_of (codes "stats" ∷ codes "--json" ∷ codes "--top" ∷ codes "plain" ∷ []) ≡ Some (record { command = Stats (record { lists_items = false; needs_all = false; most = None; form = Json }); top = codes "plain"; shows_context = false; version = One; is_wide = false; is_strict = false; form = Json; avoided = [] })
unfolding asked_of program clap_on_literals
stats_json_read = refl

pub pack_json_refused : asked_of (codes "pack" ∷ codes "--top" ∷ codes "plain" ∷ codes "--json" ∷ []) ≡ None
unfolding asked_of program clap_on_literals
pack_json_refused = refl

pub pack_explain_refused : asked_of (codes "pack" ∷ codes "--top" ∷ codes "plain" ∷ codes "--explain" ∷ []) ≡ None
unfolding asked_of program clap_on_literals
pack_explain_refused = refl

pub pack_items_refused : asked_of (codes "pack" ∷ codes "--top" ∷ codes "plain" ∷ codes "--items" ∷ []) ≡ None
unfolding asked_of program clap_on_literals
pack_items_refused = refl

pub pack_wide_refused : asked_of (codes "pack" ∷ codes "--top" ∷ codes "plain" ∷ codes "--wide" ∷ []) ≡ None
unfolding asked_of program clap_on_literals
pack_wide_refused = refl

pub pack_receive_refused : asked_of (codes "pack" ∷ codes "--top" ∷ codes "plain" ∷ codes "--receive" ∷ []) ≡ None
unfolding asked_of program clap_on_literals
pack_receive_refused = refl

pub line_context_refused : asked_of (codes "line" ∷ codes "--top" ∷ codes "plain" ∷ codes "--context" ∷ []) ≡ None
unfolding asked_of program clap_on_literals
line_context_refused = refl

pub top_missing : asked_of (codes "pack" ∷ []) ≡ None
unfolding asked_of program clap_on_literals
top_missing = refl

pub flag_unknown : asked_of (codes "pack" ∷ codes "--top" ∷ codes "plain" ∷ codes "--fly" ∷ []) ≡ None
unfolding asked_of program clap_on_literals
flag_unknown = refl

pub command_missing : asked_of [] ≡ None
unfolding asked_of program clap_on_literals
command_missing = refl

pub help_wanted : AskJustHelp (codes "--help" ∷ [])
unfolding AskJustHelp program clap_on_literals
help_wanted = refl

pub command_help_wanted : AskJustHelp (codes "pack" ∷ codes "--help" ∷ [])
unfolding AskJustHelp program clap_on_literals
command_help_wanted = refl

pub help_command_met : AskHelp (codes "help" ∷ [])
unfolding AskHelp program clap_on_literals
help_command_met = inl refl

pub line_frames_read : asked_of (codes "line" ∷ codes "--top" ∷ codes "plain" ∷ codes "--frames" ∷ []) ≡ Some (record { command = SendFrames 0; top = codes "plain"; shows_context = false; version = One; is_wide = false; is_strict = false; form = Text; avoided = [] })
unfolding asked_of program clap_on_literals digits
line_frames_read = refl

pub line_frames_receive_read : asked_of (codes "line" ∷ codes "--receive" ∷ codes "--frames" ∷ codes "--top" ∷ codes "plain" ∷ codes "--v2" ∷ []) ≡ Some (record { command = ReceiveFrames; top = codes "plain"; shows_context = false; version = Two; is_wide = false; is_strict = false; form = Text; avoided = [] })
unfolding asked_of program clap_on_literals digits
line_frames_receive_read = refl

pub line_frames_robust_read : asked_of (codes "line" ∷ codes "--top" ∷ codes "plain" ∷ codes "--frames" ∷ codes "--robust" ∷ codes "3" ∷ []) ≡ Some (record { command = SendFrames 3; top = codes "plain"; shows_context = false; version = One; is_wide = false; is_strict = false; form = Text; avoided = [] })
unfolding asked_of program clap_on_literals digits
line_frames_robust_read = refl

pub line_frames_wide_refused : asked_of (codes "line" ∷ codes "--top" ∷ codes "plain" ∷ codes "--frames" ∷ codes "--wide" ∷ []) ≡ None
unfolding asked_of program clap_on_literals digits
line_frames_wide_refused = refl

pub line_robust_refused : asked_of (codes "line" ∷ codes "--top" ∷ codes "plain" ∷ codes "--robust" ∷ codes "3" ∷ []) ≡ None
unfolding asked_of program clap_on_literals digits
line_robust_refused = refl

pub line_robust_receive_refused : asked_of (codes "line" ∷ codes "--top" ∷ codes "plain" ∷ codes "--frames" ∷ codes "--receive" ∷ codes "--robust" ∷ codes "3" ∷ []) ≡ None
unfolding asked_of program clap_on_literals digits
line_robust_receive_refused = refl

pub line_frames_above_refused : asked_of (codes "line" ∷ codes "--top" ∷ codes "plain" ∷ codes "--frames" ∷ codes "--robust" ∷ codes "64" ∷ []) ≡ None
unfolding asked_of program clap_on_literals digits
line_frames_above_refused = refl

pub words_are_read : ReadsWords
words_are_read = record { pack = pack_read; unpack = unpack_read; show = show_read; check = check_read; prove = prove_read; pack_context = pack_context_read; pack_second = pack_second_read; prove_second = prove_second_read; line_second = line_second_read; show_second = show_second_refused; show_context = show_context_refused; line = line_read; line_receive = line_receive_read; line_wide = line_wide_read; line_wide_receive = line_wide_receive_read; line_frames = line_frames_read; line_frames_receive = line_frames_receive_read; line_frames_robust = line_frames_robust_read; line_frames_wide = line_frames_wide_refused; line_robust = line_robust_refused; line_robust_receive = line_robust_receive_refused; line_frames_above = line_frames_above_refused; fields = fields_read; fields_items = fields_items_read; why = why_read; why_items = why_items_read; stats = stats_read; stats_context = stats_context_refused; loss = loss_read; loss_none = loss_none_read; loss_most = loss_most_read; loss_above = loss_above_refused; loss_plus = loss_plus_refused; loss_minus = loss_minus_refused; loss_zero_first = loss_zero_first_refused; loss_empty = loss_empty_refused; loss_letter = loss_letter_refused; loss_twice = loss_twice_refused; loss_context = loss_context_refused; stats_lost = stats_lost_refused; pack_robust = pack_robust_read; pack_robust_context = pack_robust_context_read; pack_robust_above = pack_robust_above_read; pack_robust_zero_first = pack_robust_zero_first_read; pack_robust_twice = pack_robust_twice_read; stats_robust = stats_robust_read; stats_robust_plus = stats_robust_plus_read; loss_robust = loss_robust_read; loss_both = loss_both_read; loss_robust_empty = loss_robust_empty_read; why_robust = why_robust_read; why_robust_packets = why_robust_packets_refused; unpack_robust = unpack_robust_read; fields_robust = fields_robust_read; stats_by_item = stats_by_item_read; stats_checks = stats_checks_read; stats_checks_robust = stats_checks_robust_read; stats_most_above = stats_most_above_refused; stats_most_letter = stats_most_letter_refused; loss_checks = loss_checks_refused; why_not = why_not_read; why_not_second = why_not_second_read; why_not_packets = why_not_packets_refused; why_not_robust = why_not_robust_refused; fields_not = fields_not_refused; advise = advise_read; advise_lost = advise_lost_read; advise_robust = advise_robust_refused; lint_strict = lint_strict_read; draw_strict = draw_strict_refused; lint = lint_read; lint_second = lint_second_refused; draw = draw_read; check_explain = check_explain_read; prove_explain = prove_explain_read; lint_json = lint_json_read; stats_json = stats_json_read; pack_json = pack_json_refused; pack_explain = pack_explain_refused; pack_items = pack_items_refused; pack_wide = pack_wide_refused; pack_receive = pack_receive_refused; line_context = line_context_refused; no_top = top_missing; no_command = command_missing; other_flag = flag_unknown; help = help_wanted; command_help = command_help_wanted; help_command = help_command_met }
