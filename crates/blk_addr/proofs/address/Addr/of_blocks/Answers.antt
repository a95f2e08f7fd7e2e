use Rattle.std.proofs.Common.{◌≡◌, ◌≢◌, ◌<◌, true, refl, arith}
use Rattle.spec_format.specs.Address.{is_block_kind, external}
use Rattle.spec_format.proofs.Words.{AreFields, is_address-block_word}
use Rattle.blk_addr.specs.Kind.{kind_number}
use Rattle.blk_addr.specs.declared.kinds.Kind.{Kind}
use Rattle.blk_addr.specs.declared.kinds.Kind.TheVariants.{External, Rankings, B256, B1K, B4K}
use Rattle.blk_addr.proofs.address.Addr.of_blocks.Goals as goal

small : (k : Kind) → kind_number k < 8
small External = omega arith
small Rankings = omega arith
small B256 = omega arith
small B1K = omega arith
small B4K = omega arith

has_blocks : (k : Kind) → kind_number k ≢ external → is_block_kind (kind_number k) ≡ true
has_blocks External never = absurd (never refl)
has_blocks Rankings never = refl
has_blocks B256 never = refl
has_blocks B1K never = refl
has_blocks B4K never = refl

pub invariant_of-result : goal.invariant_of-result
invariant_of-result c =
    let fields : AreFields (kind_number c.args.kind) c.args.file c.args.start c.args.count =
    record { kind = small c.args.kind; file = omega (arith, c.ranges.file); start = c.requires.small; some = c.requires.some; most = omega (arith, c.requires.group) } in
    rw (c.block_word.ensures, c.number.ensures) (is_address-block_word (kind_number c.args.kind) c.args.file c.args.start c.args.count fields (has_blocks c.args.kind c.requires.blocks) c.requires.group c.requires.node)
