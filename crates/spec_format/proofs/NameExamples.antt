-- Worked names.
use Rattle.std.proofs.Common.{◌≡◌, [], ◌++◌, refl, Some, None}
use Rattle.std.specs.Prelude.{codes, replicate}
use Rattle.std.specs.Fmt.{digits}
use Rattle.spec_format.specs.Names.{child_name, split_last, read_name}

-- a signature of 0 and part 0
pub all_zeros : (child_name (codes "a") 0 0 ≡ codes "Range_a:0:0") × (read_name (codes "Range_a:0:0") ≡ Some (record { key = codes "a"; signature = 0; part = 0 }))
unfolding child_name digits read_name split_last
all_zeros = (refl, refl)

pub signature_of_100 : (child_name (codes "v") 100 0 ≡ codes "Range_v:64:0") × (read_name (codes "Range_v:64:0") ≡ Some (record { key = codes "v"; signature = 100; part = 0 }))
unfolding child_name digits read_name split_last
signature_of_100 = (refl, refl)

-- the largest signature and part
pub largest : (child_name (codes "a") 0x7FFFFFFFFFFFFFFF 65535 ≡ codes "Range_a:7fffffffffffffff:ffff") × (read_name (codes "Range_a:7fffffffffffffff:ffff") ≡ Some (record { key = codes "a"; signature = 0x7FFFFFFFFFFFFFFF; part = 65535 }))
unfolding child_name digits read_name split_last
largest = (refl, refl)

-- a key may have colons of its own
pub key_with_colons : read_name (codes "Range_a:1:2:3") ≡ Some (record { key = codes "a:1"; signature = 2; part = 3 })
unfolding child_name digits read_name split_last
key_with_colons = refl

-- no names: no part, a leading zero, an upper-case digit, no key, another beginning, a sign, a part or a signature that is too large
pub no_part : read_name (codes "Range_a:1:") ≡ None
unfolding child_name digits read_name split_last
no_part = refl

pub leading_zeros : (read_name (codes "Range_a:01:1") ≡ None) × (read_name (codes "Range_a:1:01") ≡ None)
unfolding child_name digits read_name split_last
leading_zeros = (refl, refl)

pub upper_case : (read_name (codes "Range_a:A:1") ≡ None) × (read_name (codes "Range_a:1:A") ≡ None)
unfolding child_name digits read_name split_last
upper_case = (refl, refl)

pub no_key : read_name (codes "Range_:1:1") ≡ None
unfolding child_name digits read_name split_last
no_key = refl

pub other_beginning : (read_name (codes "range_a:1:1") ≡ None) × (read_name (codes "a:1:1") ≡ None) × (read_name (codes "Range_a") ≡ None) × (read_name [] ≡ None)
unfolding child_name digits read_name split_last
other_beginning = (refl, refl, refl, refl)

pub too_large : (read_name (codes "Range_a:8000000000000000:0") ≡ None) × (read_name (codes "Range_a:0:10000") ≡ None)
unfolding child_name digits read_name split_last
too_large = (refl, refl)

-- a key of 32769 bytes is too long
pub long_keys : (read_name (codes "Range_" ++ replicate 32768 97 ++ codes ":0:0") ≡ Some (record { key = replicate 32768 97; signature = 0; part = 0 })) × (read_name (codes "Range_" ++ replicate 32769 97 ++ codes ":0:0") ≡ None)
unfolding child_name digits read_name split_last
long_keys = (refl, refl)
