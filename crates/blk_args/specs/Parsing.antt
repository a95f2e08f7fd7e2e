-- The description of the command line for the crate `clap`.
use Rattle.std.specs.Prelude.{ℕ, true, List, codes, Some}
use Rattle.clap.specs.Lexer.{usize_max}
use Rattle.clap.specs.Walk.{Rule}
use Rattle.clap.specs.Simple.{App, new_app, new_rule, on_top, with_rule}
use Rattle.clap.specs.declared.builder.action.ArgAction.TheVariants.{Append, Set}

-- an option that takes one value
abbrev pub option_rule : List ℕ → Rule
option_rule name = record (new_rule name) { long = Some name; action = Some Set }

-- the positional arguments, at least one
abbrev pub words_rule : Rule
words_rule = record (new_rule (codes "words")) { action = Some Append; range = Some (record { start_inclusive = 1; end_inclusive = usize_max }) }

-- the description of the program: its two options and its positional arguments, without help and version
abbrev pub program : App
program =
    with_rule
    (with_rule
    (with_rule (on_top (λ shape. record shape { no_binary_name = true; disable_help_flag = true; disable_version_flag = true }) (new_app (codes "blkcache"))) (option_rule (codes "max")))
    (option_rule (codes "items"))) words_rule
