-- What positional arguments ask for, by the first of them; and what the arguments ask for, by their parts.
use Rattle.std.proofs.Common.{◌≡◌, ℕ, ◌^◌, ◌<◌, ◌≤◌, Bool, true, false, ◌&&◌, List, [], ◌∷◌, Option, None, Some, is_some, Result, Ok, Err, ◌⊎◌, inl, inr, refl, ap, ◌∙◌, sym, subst, arith}
use Rattle.std.specs.Bool.{nat_le}
use Rattle.std.specs.Option.{option_and_then, option_map}
use Rattle.std.specs.Result.{OkIff, result_ok}
use Rattle.std.proofs.lemmas.Bool.{and_from, and_parts, le-leb, leb-true, cond-true, cond-false, cases_lt}
use Rattle.blk_model.specs.Bounds.{AreAllowed, bounds_of}
use Rattle.blk_model.specs.declared.bounds.Limits.{Limits}
use Rattle.blk_model.specs.Sizes.{most_bytes, most_items}
use Rattle.blk_model.specs.State.{Bounds}
use Rattle.blk_args.specs.declared.order.Order.{Order}
use Rattle.blk_args.specs.declared.verbs.Verb.{Verb}
use Rattle.blk_args.specs.Apart.{Parts, taken_apart}
use Rattle.blk_args.specs.Tasks.{Task, verb_of_word, first_words, task_given, task_in, task_of}
use Rattle.blk_args.specs.Words.{Invocation, allowed, asked_by, at_most_once, limits_in, words_ask}
use Rattle.blk_args.proofs.Refused.{and_none}

-- the first argument is none of the table
pub unnamed : (r : Option Order) (words : List (List ℕ)) (found : Option Verb) (word : List ℕ) (behind : List (List ℕ)) → r ≡ None → words ≡ word ∷ behind → found ≡ verb_of_word word first_words → found ≡ None → option_map task_given r ≡ task_in words
unfolding task_in
unnamed r words found word behind none are is not =
    ap (option_map task_given) none ∙ sym (ap task_in are ∙ ap (option_and_then (λ (v : Verb). task_of v behind)) (sym is ∙ not))

-- it is one of the table
pub named : (r : Option Order) (words : List (List ℕ)) (found : Option Verb) (v : Verb) (word : List ℕ) (behind : List (List ℕ)) → words ≡ word ∷ behind → found ≡ verb_of_word word first_words → found ≡ Some v → option_map task_given r ≡ task_of v behind
    → option_map task_given r ≡ task_in words
unfolding task_in
named r words found v word behind are is so gives =
    gives ∙ sym (ap task_in are ∙ ap (option_and_then (λ (w : Verb). task_of w behind)) (sym is ∙ so))

-- there is no argument
pub no_words : (words : List (List ℕ)) → words ≡ [] → None ≡ task_in words
unfolding task_in
no_words words none = sym (ap task_in none)

-- The arguments by their parts.
pub by_parts : (words : List (List ℕ)) (parts : Parts) → taken_apart words ≡ Some parts → words_ask words ≡ asked_by parts
unfolding words_ask
by_parts words parts are = ap (option_and_then asked_by) are

with_task : List (List ℕ) → Bounds → Option Invocation
with_task words limits = option_and_then (λ (task : Task). Some (record { task = task; limits = limits })) (task_in words)

limits_none : (parts : Parts) → limits_in parts ≡ None → asked_by parts ≡ None
unfolding asked_by with_task
limits_none parts none = ap (option_and_then (with_task parts.ordinary)) none

limits_some : (parts : Parts) (limits : Bounds) → limits_in parts ≡ Some limits → asked_by parts ≡ with_task parts.ordinary limits
unfolding asked_by with_task
limits_some parts limits are = ap (option_and_then (with_task parts.ordinary)) are

in_turn : (parts : Parts) → ℕ → Option Bounds
in_turn parts bytes = option_and_then (allowed bytes) (at_most_once 65536 parts.counts)

-- where the limit of bytes can't be read, the arguments ask for nothing
pub bytes_none : (parts : Parts) → at_most_once 83886080 parts.maxes ≡ None → asked_by parts ≡ None
unfolding limits_in in_turn
bytes_none parts none = limits_none parts (ap (option_and_then (in_turn parts)) none)

-- where the limit of items can't be read, the arguments ask for nothing
pub items_none : (parts : Parts) → at_most_once 65536 parts.counts ≡ None → asked_by parts ≡ None
unfolding limits_in in_turn
items_none parts none = limits_none parts (and_none (in_turn parts) (at_most_once 83886080 parts.maxes) (λ bytes. ap (option_and_then (allowed bytes)) none))

limits_are : (parts : Parts) (bytes items : ℕ) → at_most_once 83886080 parts.maxes ≡ Some bytes → at_most_once 65536 parts.counts ≡ Some items → limits_in parts ≡ allowed bytes items
unfolding limits_in in_turn
limits_are parts bytes items b i = ap (option_and_then (in_turn parts)) b ∙ ap (option_and_then (allowed bytes)) i

allowed_is : (bytes items : ℕ) → AreAllowed bytes items → allowed bytes items ≡ Some (record { max_bytes = bytes; max_items = items })
allowed_is bytes items are =
    cond-true _ _ _ (and_from (nat_le 1 bytes && nat_le bytes most_bytes && nat_le 1 items) (nat_le items most_items) (and_from (nat_le 1 bytes && nat_le bytes most_bytes) (nat_le 1 items) (and_from (nat_le 1 bytes) (nat_le bytes most_bytes) (le-leb 1 bytes are.0) (le-leb bytes most_bytes are.1)) (le-leb 1 items are.2)) (le-leb items most_items are.3))

not_true : (b : Bool) → (b ≡ true → ⊥) → b ≡ false
not_true true no_way = absurd (no_way refl)
not_true false no_way = refl

allowed_not : (bytes items : ℕ) → (AreAllowed bytes items → ⊥) → allowed bytes items ≡ None
allowed_not bytes items not =
    cond-false _ _ _ (not_true (nat_le 1 bytes && nat_le bytes most_bytes && nat_le 1 items && nat_le items most_items) (λ all.
    let last = and_parts (nat_le 1 bytes && nat_le bytes most_bytes && nat_le 1 items) (nat_le items most_items) all in
    let third = and_parts (nat_le 1 bytes && nat_le bytes most_bytes) (nat_le 1 items) last.0 in
    let second = and_parts (nat_le 1 bytes) (nat_le bytes most_bytes) third.0 in
    not (leb-true 1 bytes second.0, leb-true bytes most_bytes second.1, leb-true 1 items third.1, leb-true items most_items last.1)))

-- a number of 64 bits that is none of 32
pub no_word : {E : Type 0} (r : Result ℕ E) (n most : ℕ) → OkIff r (n < most) n → None ≡ result_ok r → most ≤ n
no_word (Ok x) n most says none = cc
no_word (Err e) n most says none = by_cases (cases_lt n most)
  where
    by_cases : (n < most) ⊎ (most ≤ n) → most ≤ n
    by_cases (inl small) = absurd (says small)
    by_cases (inr large) = large

-- and one that is
pub same_word : {E : Type 0} (r : Result ℕ E) (n most x : ℕ) → OkIff r (n < most) n → Some x ≡ result_ok r → x ≡ n
same_word (Ok y) n most x says some = cc
same_word (Err e) n most x says some = cc

-- too many items for a number of 32 bits
pub too_large : (parts : Parts) (bytes items : ℕ) → at_most_once 83886080 parts.maxes ≡ Some bytes → at_most_once 65536 parts.counts ≡ Some items → 2 ^ 32 ≤ items → asked_by parts ≡ None
too_large parts bytes items b i large = limits_none parts (limits_are parts bytes items b i ∙ allowed_not bytes items (λ may. let few = may.3 in absurd (omega (arith, large, few))))

-- the limits are none that a cache may have
pub not_allowed : (parts : Parts) (bytes items word : ℕ) → at_most_once 83886080 parts.maxes ≡ Some bytes → at_most_once 65536 parts.counts ≡ Some items → word ≡ items → (AreAllowed bytes word → false ≡ true) → asked_by parts ≡ None
not_allowed parts bytes items word b i is not =
    limits_none parts (limits_are parts bytes items b i ∙ allowed_not bytes items (λ may. let lie = not (subst (λ (n : ℕ). AreAllowed bytes n) (sym is) may) in cc))

-- the positional arguments ask for nothing
pub task_none : (parts : Parts) → task_in parts.ordinary ≡ None → asked_by parts ≡ None
unfolding asked_by with_task
task_none parts none = and_none (with_task parts.ordinary) (limits_in parts) (λ limits. ap (option_and_then (λ (task : Task). Some (record { task = task; limits = limits }))) none)

-- all is there
pub all_there : (parts : Parts) (limits : Limits) (bytes items word : ℕ) (task : Task) → at_most_once 83886080 parts.maxes ≡ Some bytes → at_most_once 65536 parts.counts ≡ Some items → word ≡ items → (limits.max_bytes ≡ bytes) × (limits.max_items ≡ word)
    → task_in parts.ordinary ≡ Some task → Some (record { task = task; limits = bounds_of limits }) ≡ asked_by parts
unfolding with_task
all_there parts limits bytes items word task b i is numbers asks =
    let same = numbers.0 in
    let same_items = numbers.1 ∙ is in
    let may : AreAllowed bytes items = (omega (arith, same, limits.some_bytes), omega (arith, same, limits.few_bytes), omega (arith, same_items, limits.some_items), omega (arith, same_items, limits.few_items)) in
    let found : Bounds = record { max_bytes = bytes; max_items = items } in
    let made : Bounds = bounds_of limits in
    let are : made ≡ found = ap (λ (n : ℕ). record { max_bytes = n; max_items = limits.max_items }) same ∙ ap (λ (n : ℕ). record { max_bytes = bytes; max_items = n }) same_items in
    sym (limits_some parts found (limits_are parts bytes items b i ∙ allowed_is bytes items may)
    ∙ ap (option_and_then (λ (task : Task). Some (record { task = task; limits = found }))) asks
    ∙ ap (λ (l : Bounds). Some (record { task = task; limits = l })) (sym are))

-- what is asked for is there where the parts ask for it
pub some_asked : {A B : Type 0} (f : A → B) (o : Option A) (asked : Option B) → option_map f o ≡ asked → is_some o ≡ is_some asked
some_asked f None asked is = ap is_some is
some_asked f (Some x) asked is = ap is_some is
