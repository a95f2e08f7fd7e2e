-- The hash of some bytes, computed.
use Rattle.std.proofs.Common.{◌≡◌, [], ◌∷◌, refl}
use Rattle.spec_format.specs.Hash.{hash, mixed, of_bytes, of_four, of_one}

hash_of_none : hash [] ≡ 0
unfolding hash
hash_of_none = refl

-- `a`
hash_of_a : hash (97 ∷ []) ≡ 0x115EA782
unfolding hash mixed of_bytes of_one
hash_of_a = refl

-- `abcd`
hash_of_abcd : hash (97 ∷ 98 ∷ 99 ∷ 100 ∷ []) ≡ 0xDAD8B8DB
unfolding hash mixed of_bytes of_four
hash_of_abcd = refl

hash_of_a_high_byte : hash (0xFF ∷ []) ≡ 0
unfolding hash mixed of_bytes of_one
hash_of_a_high_byte = refl
