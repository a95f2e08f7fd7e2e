-- What the getters of a parse give, by the parts of the arguments.
use Rattle.std.proofs.Common.{◌≡◌, ℕ, List, [], ◌∷◌, map, slice_get, codes, Option, None, Some, IsSome, refl, sym, ◌∙◌, ap, subst, find}
use Rattle.std.specs.Borrow.{Bor}
use Rattle.std.specs.Option.{option_and_then, option_map, option_to_list}
use Rattle.std.specs.Str.{bytes_eq}
use Rattle.clap.specs.Walk.{Row, Text, all_of, first_of, rows_of}
use Rattle.clap.specs.Matches.{first_value, found_of, matched_of, raw_values}
use Rattle.clap.specs.Simple.{HasMatchesOf}
use Rattle.clap.specs.declared.parser.matches.ArgMatches.{ArgMatches}
use Rattle.clap.specs.declared.parser.matches.Found.{Found}
use Rattle.clap.proofs.WalkLemmas.{first_value-rows, raw_values-rows}
use Rattle.blk_args.specs.Apart.{Parts, taken_apart, value_in}
use Rattle.blk_args.specs.Parsing.{program}
use Rattle.blk_args.specs.Words.{at_most_once, words_ask}
use Rattle.blk_args.proofs.Inside.{has_parts}
use Rattle.blk_args.proofs.Taken.{rows_show, walk_of}
use Rattle.blk_args.proofs.Walked.{IsInside, Shows, given}

-- a parse gives the parts of the arguments
pub record Gives (words : List Text) (f : Found) : Type 0 where
  pub parts : Parts
  pub are : taken_apart words ≡ Some parts
  pub inside : IsInside parts
  pub shows : Shows (rows_of f) parts

pub gives : (words : List Text) (m : ArgMatches) → IsSome (words_ask words) → HasMatchesOf program words m → Gives words (found_of m)
gives words m asks has =
    let known = has_parts words asks in
    record {
      parts = known.parts;
      are = known.are;
      inside = known.inside;
      shows = subst (λ (rows : List Row). Shows rows known.parts) (sym (has refl).0) (rows_show words known.parts (walk_of words known.parts known.are known.inside));
    }

-- the first value is the first of all
first_of_all : (id : Text) (rows : List Row) → first_of id rows ≡ option_and_then (λ (values : List Text). slice_get values 0) (all_of id rows)
first_of_all id rows = by_row (find (λ (r : Row). bytes_eq r.id id) rows)
  where
    by_row : (o : Option Row) → option_and_then (λ (r : Row). slice_get r.values 0) o ≡ option_and_then (λ (values : List Text). slice_get values 0) (option_map (λ (r : Row). r.values) o)
    by_row None = refl
    by_row (Some r) = refl

none_some : {A P : Type 0} {x : A} → None ≡ Some x → P
none_some e = absurd (never e)
  where
    never : {A : Type 0} {x : A} → None ≡ Some x → ⊥
    never c = cc

alone : (default : ℕ) (values : List Text) (n : ℕ) → at_most_once default values ≡ Some n → option_to_list (option_and_then (λ (l : List Text). slice_get l 0) (given values)) ≡ values
alone default [] n one = refl
alone default (value ∷ []) n one = refl
alone default (value ∷ other ∷ values) n one = none_some one

-- the value of an option that is given at most once
pub value_read : (default : ℕ) (f : Found) (id : Text) (v : Option (Bor Text)) (values : List Text) (n : ℕ) → option_map (λ (value : Bor Text). value.now) v ≡ first_value f id → all_of id (rows_of f) ≡ given values → at_most_once default values ≡ Some n → value_in v ≡ values
value_read default f id v values n reads shows one =
    ap option_to_list (reads ∙ first_value-rows f id ∙ first_of_all id (rows_of f) ∙ ap (option_and_then (λ (l : List Text). slice_get l 0)) shows) ∙ alone default values n one

given_is : (l values : List Text) → Some l ≡ given values → l ≡ values
given_is l [] is = none_some (sym is)
given_is l (value ∷ values) is = inj is
  where
    inj : Some l ≡ Some (value ∷ values) → l ≡ value ∷ values
    inj c = cc

given_none : (values : List Text) → None ≡ given values → values ≡ []
given_none [] is = refl
given_none (value ∷ values) is = none_some is

-- the positional arguments, where there are any
pub words_read : (f : Found) (r : Option (Bor (List (Bor Text)))) (words : Bor (List (Bor Text))) (values : List Text) → option_map (λ (s : Bor (List (Bor Text))). map (λ (v : Bor Text). v.now) s.now) r ≡ option_map raw_values (matched_of f (codes "words")) → all_of (codes "words") (rows_of f) ≡ given values → r ≡ Some words
    → map (λ (v : Bor Text). v.now) words.now ≡ values
words_read f r words values reads shows is = given_is _ values (sym (ap (option_map (λ (s : Bor (List (Bor Text))). map (λ (v : Bor Text). v.now) s.now)) is) ∙ reads ∙ raw_values-rows f (codes "words") ∙ shows)

pub no_words_read : (f : Found) (r : Option (Bor (List (Bor Text)))) (values : List Text) → option_map (λ (s : Bor (List (Bor Text))). map (λ (v : Bor Text). v.now) s.now) r ≡ option_map raw_values (matched_of f (codes "words")) → all_of (codes "words") (rows_of f) ≡ given values → r ≡ None → values ≡ []
no_words_read f r values reads shows is = given_none values (sym (ap (option_map (λ (s : Bor (List (Bor Text))). map (λ (v : Bor Text). v.now) s.now)) is) ∙ reads ∙ raw_values-rows f (codes "words") ∙ shows)

-- the parts, by each of them
pub parts_are : (a b : Parts) → a.maxes ≡ b.maxes → a.counts ≡ b.counts → a.ordinary ≡ b.ordinary → Some b ≡ Some a
parts_are a b m c o =
    let one : List Text → Parts = λ x. record { maxes = x; counts = a.counts; ordinary = a.ordinary } in
    let two : List Text → Parts = λ x. record { maxes = b.maxes; counts = x; ordinary = a.ordinary } in
    let three : List Text → Parts = λ x. record { maxes = b.maxes; counts = b.counts; ordinary = x } in
    sym (ap Some (ap one m ∙ ap two c ∙ ap three o))
