-- What is known of arguments that are in the grammar.
use Rattle.std.proofs.Common.{◌≡◌, ◌≤◌, ◌<◌, ℕ, List, length, Option, None, Some, IsSome, false, true, ◌⊎◌, inl, inr, refl, arith}
use Rattle.std.specs.Option.{option_and_then}
use Rattle.std.proofs.lemmas.Bool.{cases_lt}
use Rattle.blk_args.specs.Apart.{Parts, taken_apart}
use Rattle.blk_args.specs.Words.{asked_by, at_most_once, words_ask}
use Rattle.blk_args.proofs.Named.{bytes_none, items_none}
use Rattle.blk_args.proofs.Refused.{too_many}
use Rattle.blk_args.proofs.Walked.{IsInside}

-- the parts of the arguments, which are in the grammar
pub record HasParts (words : List (List ℕ)) : Type 0 where
  pub parts : Parts
  pub are : taken_apart words ≡ Some parts
  pub inside : IsInside parts

no_some : {A P : Type 0} (o : Option A) → IsSome o → o ≡ None → P
no_some None some none = absurd (never some)
  where
    never : false ≡ true → ⊥
    never c = cc
no_some (Some x) some none = absurd (never none)
  where
    never : Some x ≡ None → ⊥
    never c = cc

inside_of : (parts : Parts) → IsSome (asked_by parts) → IsInside parts
inside_of parts some = by_numbers (at_most_once 83886080 parts.maxes) refl (at_most_once 65536 parts.counts) refl (cases_lt (length parts.ordinary) 4)
  where
    by_numbers : (m : Option ℕ) → at_most_once 83886080 parts.maxes ≡ m → (c : Option ℕ) → at_most_once 65536 parts.counts ≡ c → (length parts.ordinary < 4) ⊎ (4 ≤ length parts.ordinary) → IsInside parts
    by_numbers None is c same few = no_some (asked_by parts) some (bytes_none parts is)
    by_numbers (Some n) is None same few = no_some (asked_by parts) some (items_none parts same)
    by_numbers (Some n) is (Some k) same (inr many) = no_some (asked_by parts) some (too_many parts many)
    by_numbers (Some n) is (Some k) same (inl less) = record { bytes = n; one_max = is; items = k; one_count = same; few = omega (arith, less) }

pub has_parts : (words : List (List ℕ)) → IsSome (words_ask words) → HasParts words
unfolding words_ask
has_parts words some = by_parts (taken_apart words) refl some
  where
    by_parts : (o : Option Parts) → taken_apart words ≡ o → IsSome (option_and_then asked_by o) → HasParts words
    by_parts None is none = absurd (never none)
      where
        never : false ≡ true → ⊥
        never c = cc
    by_parts (Some parts) is asks = record { parts = parts; are = is; inside = inside_of parts asks }
