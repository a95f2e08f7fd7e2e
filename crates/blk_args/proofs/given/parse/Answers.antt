use Rattle.std.proofs.Common.{rules, ◌≡◌, ◌∙◌, true, codes, ap, ap₂, Option, None, Some, IsSomeAnd}
use Rattle.std.proofs.lemmas.Result.{IfErr-weaker, IfOk-weaker}
use Rattle.clap.specs.Lexer.{usize_max}
use Rattle.clap.specs.Walk.{Rule, rule_of}
use Rattle.clap.specs.declared.builder.action.ArgAction.TheVariants.{Append}
use Rattle.clap.specs.declared.builder.arg.Arg.{Arg}
use Rattle.clap.specs.declared.builder.range.ValueRange.{ValueRange}
use Rattle.clap.specs.Simple.{App, Shape, app_of, app_of_fields, is_simple, matches_of, new_app, on_top, subcommand_of, with_rule}
use Rattle.clap.specs.Takes.{takes}
use Rattle.blk_args.specs.Parsing.{option_rule, program, words_rule}
use Rattle.blk_args.specs.Words.{argument_bytes}
use Rattle.blk_args.proofs.Inside.{has_parts}
use Rattle.blk_args.proofs.Taken.{takes_words, walk_of}
use Rattle.blk_args.proofs.given.parse.Goals.{After-try_get_matches_from}
use Rattle.blk_args.proofs.given.parse.Goals as goal

-- a value that is there
is_some_and : {A : Type 0} (o : Option A) (v : A) → IsSomeAnd o (λ x. x ≡ v) → o ≡ Some v
is_some_and None v is = absurd is
is_some_and (Some x) v is = ap Some is

-- the command whose arguments are read is the program's
is_program : (c : After-try_get_matches_from) → app_of c.in_ok-command.command ≡ program
is_program c =
    let max_is : rule_of c.action-max.result ≡ option_rule (codes "max") = search rules in
    let items_is : rule_of c.action-items.result ≡ option_rule (codes "items") = search rules in
    let some : c.num_args.result.num_vals ≡ Some (record { start_inclusive = 1; end_inclusive = usize_max }) = is_some_and c.num_args.result.num_vals _ (search rules) in
    let words_are : rule_of c.action-ordinary.result ≡ words_rule =
    ap rule_of c.action-ordinary.ensures
    ∙ ap (λ (a : Arg). rule_of (record a { action = Some Append })) c.num_args.ensures.0
    ∙ ap (λ (o : Option ValueRange). rule_of (record c.new-3.result { num_vals = o; action = Some Append })) some
    ∙ ap (λ (r : Rule). record r { action = Some Append; range = Some (record { start_inclusive = 1; end_inclusive = usize_max }) }) c.new-3.ensures.rule in
    let all : App → App = on_top (λ (s : Shape). record s { no_binary_name = true }) in
    let no_help : App → App = on_top (λ (s : Shape). record s { disable_help_flag = true }) in
    let no_version : App → App = on_top (λ (s : Shape). record s { disable_version_flag = true }) in
    let base : app_of c.disable_version_flag-command.result ≡ no_version (no_help (all (new_app (codes "blkcache")))) =
    ap app_of_fields c.disable_version_flag-command.ensures ∙ ap no_version (ap app_of_fields c.disable_help_flag.ensures ∙ ap no_help (ap app_of_fields c.no_binary_name.ensures ∙ ap all c.new-4.ensures.app)) in
    c.in_ok-command.ensures.shape (search rules) ∙ ap₂ with_rule (c.in_ok-arg-2.ensures.shape (search rules) ∙ ap₂ with_rule (c.in_ok-arg.ensures.shape (search rules) ∙ ap₂ with_rule base max_is) items_is) words_are

pub returns-clause-matches : goal.returns-clause-matches
returns-clause-matches c =
    IfOk-weaker c.try_get_matches_from.result _ _ (λ m has simple. let parsed = has (ap is_simple (is_program c) ∙ simple) in (parsed.0 ∙ ap (λ (a : App). matches_of a (argument_bytes c.args.words.now)) (is_program c), parsed.1 ∙ ap (λ (a : App). subcommand_of a (argument_bytes c.args.words.now)) (is_program c))) c.try_get_matches_from.ensures.matches

pub returns-clause-wanting : goal.returns-clause-wanting
returns-clause-wanting c =
    let known = has_parts (argument_bytes c.args.words.now) c.requires.inside in
    let taken = takes_words (argument_bytes c.args.words.now) known.parts (walk_of (argument_bytes c.args.words.now) known.parts known.are known.inside) in
    IfErr-weaker c.try_get_matches_from.result _ _ (λ e wants. wants (ap (λ (a : App). takes a (argument_bytes c.args.words.now)) (is_program c) ∙ taken)) c.try_get_matches_from.ensures.passes
