-- The subcommands: what the positional arguments ask for.
use Rattle.std.specs.Prelude.{ℕ, ◌≡◌, if◌then◌else◌, List, [], ◌∷◌, codes, Option, Some, None, Ok}
use Rattle.std.specs.Borrow.{Bor}
use Rattle.std.specs.Option.{option_and_then, option_map}
use Rattle.std.specs.Result.{result_ok}
use Rattle.std.specs.Str.{bytes_eq}
use Rattle.percent_encoding.specs.Percent.{percent_decode}
use Rattle.blk_script.specs.Fields.{key_field}
use Rattle.blk_script.specs.Line.{stream_field}
use Rattle.blk_inspect.specs.declared.inspecting.Part.{Part}
use Rattle.blk_args.specs.declared.order.Order.{Order}
use Rattle.blk_args.specs.declared.order.Order.TheVariants as order
use Rattle.blk_args.specs.declared.verbs.Verb.{Verb}
use Rattle.blk_args.specs.declared.verbs.Verb.TheVariants as verb
use Rattle.blk_args.specs.Inspected.{part_named, part_numbered}
use Rattle.blk_args.specs.Numbers.{few_word, number_word}

-- a subcommand with its arguments; keys are decoded to bytes
pub data Task : Type 0 where
  do_session : Task
  do_count : Task
  do_list : Task
  do_get : List ℕ → ℕ → Task
  do_put : List ℕ → ℕ → Task
  do_doom : List ℕ → Task
  do_trim : ℕ → Task
  do_inspect : Part → Task
  do_verify : Task
  do_generate : (seed turns : ℕ) → Task

-- the most iterations of the generator
abbrev pub most_turns : ℕ
most_turns = 100000

-- a key, spelled as in a script line
abbrev pub key_word : List ℕ → Option (List ℕ)
key_word word = result_ok (key_field word)

-- the number of a stream, spelled as in a script line
abbrev pub stream_word : List ℕ → Option ℕ
stream_word word = result_ok (stream_field word)

-- a subcommand without arguments
abbrev pub alone : Task → List (List ℕ) → Option Task
alone task [] = Some task
alone task (word ∷ words) = None

-- a subcommand with a key
abbrev pub a_key : (List ℕ → Task) → List (List ℕ) → Option Task
a_key make (key ∷ []) = option_map make (key_word key)
a_key make _ = None

-- a subcommand with a number
abbrev pub a_number : (ℕ → Task) → List (List ℕ) → Option Task
a_number make (number ∷ []) = option_map make (number_word number)
a_number make _ = None

-- a subcommand with a key and a stream
abbrev pub key_and_stream : (List ℕ → ℕ → Task) → List (List ℕ) → Option Task
key_and_stream make (key ∷ stream ∷ []) = option_and_then (λ (k : List ℕ). option_map (make k) (stream_word stream)) (key_word key)
key_and_stream make _ = None

-- the subcommand that `make` gives for a percent-escaped key and a stream
abbrev pub task_on : (List ℕ → ℕ → Task) → Option (Bor (List ℕ) × ℕ) → Option Task
task_on make pair = option_map (λ (p : Bor (List ℕ) × ℕ). make (percent_decode p.0.now) p.1) pair

-- the subcommand that `make` gives for two arguments, a key and a stream
abbrev pub of_key_and_stream : (List ℕ → ℕ → Task) → (key stream : List ℕ) → Option Task
of_key_and_stream make key stream = key_and_stream make (key ∷ stream ∷ [])

-- the subcommand `inspect`, with the name of a part of a folder, alone or with a number or an address
abbrev pub a_part : List (List ℕ) → Option Task
a_part (name ∷ []) = option_map do_inspect (part_named name)
a_part (name ∷ value ∷ []) = option_map do_inspect (part_numbered name value)
a_part _ = None

-- the subcommand `gen`, with a seed and a number of iterations
abbrev pub seed_and_turns : List (List ℕ) → Option Task
seed_and_turns (seed ∷ turns ∷ []) = option_and_then (λ (s : ℕ). option_map (do_generate s) (few_word most_turns turns)) (number_word seed)
seed_and_turns _ = None

-- how the arguments of each subcommand are parsed
unfoldable pub task_of : Verb → List (List ℕ) → Option Task
task_of verb.Session = alone do_session
task_of verb.Count = alone do_count
task_of verb.List = alone do_list
task_of verb.Get = key_and_stream do_get
task_of verb.Put = key_and_stream do_put
task_of verb.Doom = a_key do_doom
task_of verb.Trim = a_number do_trim
task_of verb.Inspect = a_part
task_of verb.Verify = alone do_verify
task_of verb.Gen = seed_and_turns

-- the names of the subcommands
unfoldable pub first_words : List (List ℕ × Verb)
first_words =
    (codes "session", verb.Session)
    ∷ (codes "count", verb.Count)
    ∷ (codes "list", verb.List)
    ∷ (codes "get", verb.Get)
    ∷ (codes "put", verb.Put)
    ∷ (codes "doom", verb.Doom)
    ∷ (codes "trim", verb.Trim)
    ∷ (codes "inspect", verb.Inspect)
    ∷ (codes "verify", verb.Verify)
    ∷ (codes "gen", verb.Gen)
    ∷ []

-- the subcommand of a name in the table, or None
abbrev pub verb_of_word : List ℕ → List (List ℕ × Verb) → Option Verb
verb_of_word word [] = None
verb_of_word word (line ∷ table) = if bytes_eq word line.0 then Some line.1 else verb_of_word word table

-- what the positional arguments ask for, or None where they aren't in the grammar
unfoldable pub task_in : List (List ℕ) → Option Task
task_in [] = None
task_in (word ∷ words) = option_and_then (λ (v : Verb). task_of v words) (verb_of_word word first_words)

-- the subcommand that a parsed order of the program denotes
abbrev pub task_given : Order → Task
task_given order.Session = do_session
task_given order.Count = do_count
task_given order.List = do_list
task_given (order.Get key stream) = do_get (percent_decode key.now) stream
task_given (order.Put key stream) = do_put (percent_decode key.now) stream
task_given (order.Doom key) = do_doom (percent_decode key.now)
task_given (order.Trim bytes) = do_trim bytes
task_given (order.Inspect part) = do_inspect part
task_given order.Verify = do_verify
task_given (order.Generate seed turns) = do_generate seed turns

-- the key of an order, not decoded yet, is spelled as a script line spells keys
abbrev pub HasSpelledKey : Order → Type 0
HasSpelledKey (order.Get key stream) = key_field key.now ≡ Ok (percent_decode key.now)
HasSpelledKey (order.Put key stream) = key_field key.now ≡ Ok (percent_decode key.now)
HasSpelledKey (order.Doom key) = key_field key.now ≡ Ok (percent_decode key.now)
HasSpelledKey _ = Unit {0}
