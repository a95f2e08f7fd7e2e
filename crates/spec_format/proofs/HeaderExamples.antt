-- Each check of the index on a small example, computed.
use Rattle.std.proofs.Common.{◌≡◌, ℕ, ◌+◌, ◌^◌, List, [], ◌∷◌, None, Some, true, false, refl}
use Rattle.std.specs.Prelude.{◌==◌, if◌then◌else◌, map}
use Rattle.std.specs.List.{concat}
use Rattle.std.specs.declared.option.Option.{Option}
use Rattle.spec_image.specs.Bytes.{content, word_bytes}
use Rattle.spec_image.specs.Image.{Image, Index, empty_image, with_file}
use Rattle.spec_image.specs.Checks.{Damage, first_of}
use Rattle.spec_format.specs.Headers.{field_checks, head_checks, list_checks, unfinished, first_index_damage, place_of_bucket, index_length, table_length}

-- a header with these fields, and zeros elsewhere
header : ℕ → ℕ → ℕ → ℕ → ℕ → ℕ → ℕ
header magic version stats table_len experiment = content (concat (map word_bytes (magic ∷ version ∷ 0 ∷ 0 ∷ 0 ∷ 0 ∷ stats ∷ table_len ∷ 0 ∷ experiment ∷ [])))

-- a failed check of the index
damage : ℕ → ℕ → Option Damage
damage at found = Some (record { file = Index; at = at; found = found })

whole_index : first_of (head_checks (header 0xC103CAC3 0x20000 0 65536 0) 262512) ≡ None
unfolding header field_checks head_checks
whole_index = refl

new_version : first_of (head_checks (header 0xC103CAC3 0x30000 0 65536 0) 262512) ≡ None
unfolding header field_checks head_checks
new_version = refl

no_table_length : first_of (head_checks (header 0xC103CAC3 0x20000 0 0 0) 262512) ≡ None
unfolding header field_checks head_checks
no_table_length = refl

other_magic : first_of (head_checks (header 0xC103CAC4 0x20000 0 65536 0) 262512) ≡ damage 0 0xC103CAC4
unfolding header damage field_checks head_checks
other_magic = refl

short_index : first_of (head_checks (header 0xC103CAC3 0x20000 0 65536 0) 262511) ≡ damage 262512 262511
unfolding header damage field_checks head_checks
short_index = refl

huge_index : first_of (head_checks (header 0xC103CAC3 0x20000 0 65536 0) (2 ^ 32 + 262512)) ≡ damage 262512 262512
unfolding header damage field_checks head_checks
huge_index = refl

other_version : first_of (head_checks (header 0xC103CAC3 0x20001 0 65536 0) 262512) ≡ damage 4 0x20001
unfolding header damage field_checks head_checks
other_version = refl

later_version : first_of (head_checks (header 0xC103CAC3 0x40000 0 65536 0) 262512) ≡ damage 4 0x40000
unfolding header damage field_checks head_checks
later_version = refl

some_stats : first_of (head_checks (header 0xC103CAC3 0x20000 0x90000000 65536 0) 262512) ≡ damage 24 0x90000000
unfolding header damage field_checks head_checks
some_stats = refl

table_of_one : first_of (head_checks (header 0xC103CAC3 0x20000 0 1 0) 262512) ≡ damage 28 1
unfolding header damage field_checks head_checks
table_of_one = refl

an_experiment : first_of (head_checks (header 0xC103CAC3 0x20000 0 65536 9) 262512) ≡ damage 36 9
unfolding header damage field_checks head_checks
an_experiment = refl

-- the checks go in order
magic_before_length : first_of (head_checks (header 1 2 3 4 5) 368) ≡ damage 0 1
unfolding header damage field_checks head_checks
magic_before_length = refl

length_before_version : first_of (head_checks (header 0xC103CAC3 2 3 4 5) 368) ≡ damage 262512 368
unfolding header damage field_checks head_checks
length_before_version = refl

version_before_stats : first_of (head_checks (header 0xC103CAC3 2 3 4 5) 262512) ≡ damage 4 2
unfolding header damage field_checks head_checks
version_before_stats = refl

stats_before_table_len : first_of (head_checks (header 0xC103CAC3 0x20000 3 4 5) 262512) ≡ damage 24 3
unfolding header damage field_checks head_checks
stats_before_table_len = refl

table_len_before_experiment : first_of (head_checks (header 0xC103CAC3 0x20000 0 4 5) 262512) ≡ damage 28 4
unfolding header damage field_checks head_checks
table_len_before_experiment = refl

-- a content of zeros but for one byte
one_at : ℕ → ℕ → ℕ
one_at place i = if i == place then 7 else 0

-- the first failed check of a content of zeros but for one byte
zeros_but : ℕ → Option Damage
zeros_but place = first_of (list_checks (one_at place))

other_sizes : (zeros_but 268 ≡ None) × (zeros_but 272 ≡ damage 272 7) × (zeros_but 276 ≡ damage 276 7) × (zeros_but 280 ≡ damage 280 7) × (zeros_but 284 ≡ damage 284 7)
unfolding zeros_but one_at damage list_checks
other_sizes = (refl, refl, refl, refl, refl)

other_heads : (zeros_but 288 ≡ None) × (zeros_but 292 ≡ damage 292 7) × (zeros_but 296 ≡ damage 296 7) × (zeros_but 300 ≡ damage 300 7) × (zeros_but 304 ≡ damage 304 7)
unfolding zeros_but one_at damage list_checks
other_heads = (refl, refl, refl, refl, refl)

other_tails : (zeros_but 308 ≡ None) × (zeros_but 312 ≡ damage 312 7) × (zeros_but 316 ≡ damage 316 7) × (zeros_but 320 ≡ damage 320 7) × (zeros_but 324 ≡ damage 324 7)
unfolding zeros_but one_at damage list_checks
other_tails = (refl, refl, refl, refl, refl)

operation_list : (zeros_but 328 ≡ None) × (zeros_but 332 ≡ None) × (zeros_but 336 ≡ damage 336 7) × (zeros_but 340 ≡ None)
unfolding zeros_but one_at damage list_checks
operation_list = (refl, refl, refl, refl)

-- the lowest place is named
lowest_place : first_of (list_checks (λ i. 1)) ≡ damage 272 0x1010101
unfolding damage list_checks
lowest_place = refl

-- a folder with an index of these bytes alone
index_alone : List ℕ → Image
index_alone bytes = with_file empty_image Index (Some bytes)

no_index : unfinished empty_image ≡ true
unfolding unfinished
no_index = refl

three_bytes : unfinished (index_alone (0xC3 ∷ 0xCA ∷ 0x03 ∷ [])) ≡ true
unfolding unfinished index_alone
three_bytes = refl

magic_of_zero : unfinished (index_alone (0 ∷ 0 ∷ 0 ∷ 0 ∷ 1 ∷ [])) ≡ true
unfolding unfinished index_alone
magic_of_zero = refl

magic_alone : unfinished (index_alone (word_bytes 0xC103CAC3)) ≡ false
unfolding unfinished index_alone
magic_alone = refl

cut_after_the_magic : first_index_damage (index_alone (word_bytes 0xC103CAC3)) ≡ damage 262512 4
unfolding field_checks head_checks list_checks damage index_alone
cut_after_the_magic = refl

buckets : (place_of_bucket 0 ≡ 368) × (place_of_bucket 65535 ≡ 262508) × (place_of_bucket table_length ≡ index_length)
buckets = (refl, refl, refl)
