-- The arguments of the grammar, one after another, as the crate `clap` walks over them.
use Rattle.std.proofs.Common.{◌≡◌, ◌≤◌, ℕ, suc, Bool, true, false, not, ◌&&◌, ◌||◌, List, [], ◌∷◌, ◌++◌, length, codes, Option, None, Some, ◌⊎◌, inl, inr, refl, sym, ◌∙◌, ap, arith}
use Rattle.std.specs.Bool.{nat_le}
use Rattle.std.specs.List.{list_all}
use Rattle.std.proofs.lemmas.Bool.{le-leb}
use Rattle.std.proofs.lemmas.List.{append-nil, append_assoc}
use Rattle.clap.specs.Lexer.{usize_max}
use Rattle.clap.specs.Walk.{Held, Row, Rule, Text, Waiting, Walk, all_of, idle, option, positional, settled_rows, walked, with_values}
use Rattle.clap.specs.Simple.{Shape, built}
use Rattle.clap.specs.Takes.{settle_passes}
use Rattle.clap.specs.declared.builder.value_parser.Reading.TheVariants.{AsWritten}
use Rattle.clap.specs.declared.parser.matches.ValueSource.TheVariants.{CommandLine}
use Rattle.blk_args.specs.declared.kinds.Limit.{Limit}
use Rattle.blk_args.specs.declared.kinds.Limit.TheVariants as limit
use Rattle.blk_args.specs.Apart.{Parts, joined, with_option, words_alone}
use Rattle.blk_args.specs.Parsing.{program}
use Rattle.blk_args.specs.Words.{at_most_once}
use Rattle.blk_args.proofs.Rows.{absent_same, absent_row, values_kept, values_there, values_used}
use Rattle.blk_args.proofs.WordFacts.{IsPlain, option_word, setting_word}

-- the command as it is built
abbrev pub shape : Shape
shape = (built program).top

abbrev pub rules : List Rule
rules = shape.rules

abbrev pub name_of : Limit → Text
name_of limit.Bytes = codes "max"
name_of limit.Items = codes "items"

-- what the walk holds back: nothing, the value of an option, or positional arguments
pub data Pending : Type 0 where
  nothing : Pending
  value_of : Limit → Text → Pending
  words_of : Text → List Text → Pending

abbrev pub shown : Pending → Option (Text × List Text)
shown nothing = None
shown (value_of limit.Bytes value) = Some (codes "max", value ∷ [])
shown (value_of limit.Items value) = Some (codes "items", value ∷ [])
shown (words_of word words) = Some (codes "words", word ∷ words)

abbrev pub held : List Row → Pending → Held
held rows pending = record { rows = rows; pending = shown pending; skip = 0 }

abbrev pub waits : Bool → Waiting
waits true = positional
waits false = idle

-- where the walk is between two arguments, of which the second is no value of the first
abbrev pub stands : List Row → Pending → Bool → Bool → Walk
stands rows pending ordinary trailing = record { held = held rows pending; waiting = waits ordinary; position = 1; is_trailing = trailing; stopped = None }

-- and where it comes after an option whose value is the next argument
abbrev pub asks : List Row → Limit → Walk
asks rows limit = record { held = record { rows = rows; pending = Some (name_of limit, []); skip = 0 }; waiting = option (name_of limit); position = 1; is_trailing = false; stopped = None }

-- the rows once what is held back is used
abbrev pub all_rows : List Row → Pending → List Row
all_rows rows pending = settled_rows rules (shown pending) rows

abbrev pub given : List Text → Option (List Text)
given [] = None
given (value ∷ values) = Some (value ∷ values)

-- the rows have these values
pub record Shows (rows : List Row) (parts : Parts) : Type 0 where
  pub maxes : all_of (codes "max") rows ≡ given parts.maxes
  pub counts : all_of (codes "items") rows ≡ given parts.counts
  pub ordinary : all_of (codes "words") rows ≡ given parts.ordinary

-- what is held back may be used
abbrev pub MayUse : List Row → Pending → Parts → Type 0
MayUse rows nothing parts = Unit {0}
MayUse rows (value_of limit value) parts = all_of (name_of limit) rows ≡ None
MayUse rows (words_of word words) parts = suc (length words) ≤ length parts.ordinary

pub record IsReady (rows : List Row) (pending : Pending) (parts : Parts) : Type 0 where
  pub shows : Shows (all_rows rows pending) parts
  pub may : MayUse rows pending parts

-- the parts are those of arguments in the grammar, as far as a parse asks
pub record IsInside (parts : Parts) : Type 0 where
  pub bytes : ℕ
  pub one_max : at_most_once 83886080 parts.maxes ≡ Some bytes
  pub items : ℕ
  pub one_count : at_most_once 65536 parts.counts ≡ Some items
  pub few : length parts.ordinary ≤ 3

all_pass : (words : List Text) → list_all (λ (word : Text). true) words ≡ true
all_pass [] = refl
all_pass (word ∷ words) = all_pass words

few_words : (words : List Text) → length words ≤ 2 → nat_le (suc (length words)) usize_max ≡ true
few_words words few = le-leb (suc (length words)) usize_max (omega (arith, few))

pub settles : (rows : List Row) (pending : Pending) (parts : Parts) → IsReady rows pending parts → length parts.ordinary ≤ 3 → settle_passes rules false (held rows pending) ≡ true
settles rows nothing parts ready few = refl
settles rows (value_of limit.Bytes value) parts ready few = ap (λ b. (not b || false) && true) (absent_row (codes "max") rows ready.may)
settles rows (value_of limit.Items value) parts ready few = ap (λ b. (not b || false) && true) (absent_row (codes "items") rows ready.may)
settles rows (words_of word words) parts ready few =
    let two : length words ≤ 2 = omega (arith, ready.may, few) in
    ap (λ b. b && (nat_le (suc (length words)) usize_max && list_all (λ (w : Text). true) words)) (le-leb 1 (suc (length words)) (omega arith)) ∙ ap (λ b. b && list_all (λ (w : Text). true) words) (few_words words two) ∙ all_pass words

there_given : (values : List Text) → values_there (given values) ≡ values
there_given [] = refl
there_given (value ∷ values) = refl

given_more : (values : List Text) (word : Text) → Some (values ++ word ∷ []) ≡ given (values ++ word ∷ [])
given_more [] word = refl
given_more (value ∷ values) word = refl

-- a use of an option
pub max_used : (rows : List Row) (parts : Parts) (value : Text) → Shows rows parts → parts.maxes ≡ [] → Shows (all_rows rows (value_of limit.Bytes value)) (joined parts (with_option limit.Bytes value (words_alone [])))
max_used rows parts value shows first =
    let none : all_of (codes "max") rows ≡ None = shows.maxes ∙ ap given first in
    let same = ap (with_values (codes "max") AsWritten CommandLine (value ∷ [])) (absent_same (codes "max") rows none) in
    record {
      maxes = ap (all_of (codes "max")) same ∙ values_used (codes "max") AsWritten CommandLine (value ∷ []) rows refl ∙ ap (λ o. Some (values_there o ++ value ∷ [])) none ∙ ap (λ (l : List Text). given (l ++ value ∷ [])) (sym first);
      counts = ap (all_of (codes "items")) same ∙ values_kept (codes "max") (codes "items") AsWritten CommandLine (value ∷ []) rows refl ∙ shows.counts ∙ ap given (sym (append-nil parts.counts));
      ordinary = ap (all_of (codes "words")) same ∙ values_kept (codes "max") (codes "words") AsWritten CommandLine (value ∷ []) rows refl ∙ shows.ordinary ∙ ap given (sym (append-nil parts.ordinary));
    }

pub items_used : (rows : List Row) (parts : Parts) (value : Text) → Shows rows parts → parts.counts ≡ [] → Shows (all_rows rows (value_of limit.Items value)) (joined parts (with_option limit.Items value (words_alone [])))
items_used rows parts value shows first =
    let none : all_of (codes "items") rows ≡ None = shows.counts ∙ ap given first in
    let same = ap (with_values (codes "items") AsWritten CommandLine (value ∷ [])) (absent_same (codes "items") rows none) in
    record {
      maxes = ap (all_of (codes "max")) same ∙ values_kept (codes "items") (codes "max") AsWritten CommandLine (value ∷ []) rows refl ∙ shows.maxes ∙ ap given (sym (append-nil parts.maxes));
      counts = ap (all_of (codes "items")) same ∙ values_used (codes "items") AsWritten CommandLine (value ∷ []) rows refl ∙ ap (λ o. Some (values_there o ++ value ∷ [])) none ∙ ap (λ (l : List Text). given (l ++ value ∷ [])) (sym first);
      ordinary = ap (all_of (codes "words")) same ∙ values_kept (codes "items") (codes "words") AsWritten CommandLine (value ∷ []) rows refl ∙ shows.ordinary ∙ ap given (sym (append-nil parts.ordinary));
    }

-- the values that an option has
abbrev pub values_in : Limit → Parts → List Text
values_in limit.Bytes parts = parts.maxes
values_in limit.Items parts = parts.counts

pub option_used : (l : Limit) (rows : List Row) (parts : Parts) (value : Text) → Shows rows parts → values_in l parts ≡ [] → Shows (all_rows rows (value_of l value)) (joined parts (with_option l value (words_alone [])))
option_used limit.Bytes rows parts value shows first = max_used rows parts value shows first
option_used limit.Items rows parts value shows first = items_used rows parts value shows first

pub option_absent : (l : Limit) (rows : List Row) (parts : Parts) → Shows rows parts → values_in l parts ≡ [] → all_of (name_of l) rows ≡ None
option_absent limit.Bytes rows parts shows first = shows.maxes ∙ ap given first
option_absent limit.Items rows parts shows first = shows.counts ∙ ap given first

-- a positional argument
pub word_used : (rows : List Row) (parts : Parts) (word : Text) → Shows rows parts → Shows (all_rows rows (words_of word [])) (joined parts (words_alone (word ∷ [])))
word_used rows parts word shows = record {
  maxes = values_kept (codes "words") (codes "max") AsWritten CommandLine (word ∷ []) rows refl ∙ shows.maxes ∙ ap given (sym (append-nil parts.maxes));
  counts = values_kept (codes "words") (codes "items") AsWritten CommandLine (word ∷ []) rows refl ∙ shows.counts ∙ ap given (sym (append-nil parts.counts));
  ordinary = values_used (codes "words") AsWritten CommandLine (word ∷ []) rows refl ∙ ap (λ o. Some (values_there o ++ word ∷ [])) shows.ordinary ∙ ap (λ (l : List Text). Some (l ++ word ∷ [])) (there_given parts.ordinary) ∙ given_more parts.ordinary word;
}

grows : (values more : List Text) (word : Text) → Some more ≡ given values → Some (more ++ word ∷ []) ≡ given (values ++ word ∷ [])
grows [] more word is = absurd (never is)
  where
    never : Some more ≡ None → ⊥
    never c = cc
grows (value ∷ values) more word is = ap (λ (l : List Text). Some (l ++ word ∷ [])) (inj is)
  where
    inj : Some more ≡ Some (value ∷ values) → more ≡ value ∷ values
    inj c = cc

pub word_more : (rows : List Row) (parts : Parts) (first : Text) (words : List Text) (word : Text) → Shows (all_rows rows (words_of first words)) parts → Shows (all_rows rows (words_of first (words ++ word ∷ []))) (joined parts (words_alone (word ∷ [])))
word_more rows parts first words word shows =
    let before : List Text = values_there (all_of (codes "words") rows) in record {
      maxes = values_kept (codes "words") (codes "max") AsWritten CommandLine (first ∷ (words ++ word ∷ [])) rows refl ∙ sym (values_kept (codes "words") (codes "max") AsWritten CommandLine (first ∷ words) rows refl) ∙ shows.maxes ∙ ap given (sym (append-nil parts.maxes));
      counts = values_kept (codes "words") (codes "items") AsWritten CommandLine (first ∷ (words ++ word ∷ [])) rows refl ∙ sym (values_kept (codes "words") (codes "items") AsWritten CommandLine (first ∷ words) rows refl) ∙ shows.counts ∙ ap given (sym (append-nil parts.counts));
      ordinary = values_used (codes "words") AsWritten CommandLine (first ∷ (words ++ word ∷ [])) rows refl ∙ ap Some (sym (append_assoc before (first ∷ words) (word ∷ [])))
          ∙ grows parts.ordinary (before ++ (first ∷ words)) word (sym (values_used (codes "words") AsWritten CommandLine (first ∷ words) rows refl) ∙ shows.ordinary);
    }

-- one argument of the walk
pub set_step : (l : Limit) (value : Text) (rows : List Row) (pending : Pending) (b : Bool) → walked rules [] (stands rows pending b false) (setting_word l value) ≡ stands (all_rows (all_rows rows pending) (value_of l value)) nothing false false
unfolding walked
set_step limit.Bytes value rows pending true = refl
set_step limit.Bytes value rows pending false = refl
set_step limit.Items value rows pending true = refl
set_step limit.Items value rows pending false = refl

pub name_step : (l : Limit) (rows : List Row) (pending : Pending) (b : Bool) → walked rules [] (stands rows pending b false) (option_word l) ≡ asks (all_rows rows pending) l
unfolding walked
name_step limit.Bytes rows pending true = refl
name_step limit.Bytes rows pending false = refl
name_step limit.Items rows pending true = refl
name_step limit.Items rows pending false = refl

pub value_step : (l : Limit) (value : Text) (rows : List Row) → IsPlain value → walked rules [] (asks rows l) value ≡ stands rows (value_of l value) false false
unfolding walked
value_step limit.Bytes value rows plain = rw (plain.no_end, plain.no_long, plain.no_short) refl
value_step limit.Items value rows plain = rw (plain.no_end, plain.no_long, plain.no_short) refl

pub end_step : (rows : List Row) (pending : Pending) (b : Bool) → walked rules [] (stands rows pending b false) (codes "--") ≡ stands rows pending b true
unfolding walked
end_step rows pending true = refl
end_step rows pending false = refl

-- what is held back once a positional argument was met, and the rows
abbrev pub held_then : Pending → Text → Pending
held_then (words_of first words) word = words_of first (words ++ word ∷ [])
held_then _ word = words_of word []

abbrev pub rows_then : List Row → Pending → List Row
rows_then rows (words_of first words) = rows
rows_then rows pending = all_rows rows pending

pub word_step : (word : Text) (rows : List Row) (pending : Pending) (b trailing : Bool) → IsPlain word ⊎ (trailing ≡ true) → walked rules [] (stands rows pending b trailing) word ≡ stands (rows_then rows pending) (held_then pending word) true trailing
unfolding walked
word_step word rows pending b true plain = by_pending pending b
  where
    by_pending : (pending : Pending) (b : Bool) → walked rules [] (stands rows pending b true) word ≡ stands (rows_then rows pending) (held_then pending word) true true
    by_pending nothing true = refl
    by_pending nothing false = refl
    by_pending (value_of limit.Bytes value) true = refl
    by_pending (value_of limit.Bytes value) false = refl
    by_pending (value_of limit.Items value) true = refl
    by_pending (value_of limit.Items value) false = refl
    by_pending (words_of first words) true = refl
    by_pending (words_of first words) false = refl
word_step word rows pending b false (inr lie) = absurd (never lie)
  where
    never : false ≡ true → ⊥
    never c = cc
word_step word rows nothing true false (inl plain) = rw (plain.no_end, plain.no_long, plain.no_short) refl
word_step word rows nothing false false (inl plain) = rw (plain.no_end, plain.no_long, plain.no_short) refl
word_step word rows (value_of limit.Bytes value) true false (inl plain) = rw (plain.no_end, plain.no_long, plain.no_short) refl
word_step word rows (value_of limit.Bytes value) false false (inl plain) = rw (plain.no_end, plain.no_long, plain.no_short) refl
word_step word rows (value_of limit.Items value) true false (inl plain) = rw (plain.no_end, plain.no_long, plain.no_short) refl
word_step word rows (value_of limit.Items value) false false (inl plain) = rw (plain.no_end, plain.no_long, plain.no_short) refl
word_step word rows (words_of first words) true false (inl plain) = rw (plain.no_end, plain.no_long, plain.no_short) refl
word_step word rows (words_of first words) false false (inl plain) = rw (plain.no_end, plain.no_long, plain.no_short) refl
