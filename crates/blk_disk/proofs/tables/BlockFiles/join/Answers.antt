use Rattle.std.proofs.Common.{◌<◌, length, subst, lit<, refl, ◌∙◌}
use Rattle.std.proofs.lemmas.List.{length-set}
use Rattle.blk_addr.specs.Kind.{kind_number}
use Rattle.blk_addr.specs.declared.kinds.Kind.{Kind}
use Rattle.blk_disk.specs.Tables.{files_of}
use Rattle.blk_disk.proofs.Joining.{joins_rankings, joins_b256, joins_b1k, joins_b4k}
use Rattle.blk_disk.proofs.KeptOnce.{taken_rankings, taken_b256, taken_b1k, taken_b4k}
use Rattle.blk_disk.proofs.tables.BlockFiles.join.Goals as goal

pub push-requires : goal.push-requires
unfolding files_of
push-requires c = (lit< tt, subst (λ (k : Kind). length (files_of c.args.self.now (kind_number k)) < 60) c.in-Rankings.is c.requires.room)

pub push-requires-in-B256 : goal.push-requires-in-B256
unfolding files_of
push-requires-in-B256 c = (lit< tt, subst (λ (k : Kind). length (files_of c.args.self.now (kind_number k)) < 60) c.in-B256.is c.requires.room)

pub push-requires-in-B1K : goal.push-requires-in-B1K
unfolding files_of
push-requires-in-B1K c = (lit< tt, subst (λ (k : Kind). length (files_of c.args.self.now (kind_number k)) < 60) c.in-B1K.is c.requires.room)

pub push-requires-in-B4K : goal.push-requires-in-B4K
unfolding files_of
push-requires-in-B4K c = (lit< tt, subst (λ (k : Kind). length (files_of c.args.self.now (kind_number k)) < 60) c.in-B4K.is c.requires.room)

pub invariant_of-self : goal.invariant_of-self
invariant_of-self c =
    let old = c.args.self.now in
    let is = taken_rankings old c.args.file c.args.blocks c.from.result c.from.ensures c.ranges.file.fits c.requires.fresh c.requires.count _ c.push.ensures.items in
    record { all_blocks = length-set old.blocks c.from.result c.args.blocks ∙ old.all_blocks; all_lengths = length-set old.lengths c.from-2.result c.args.size ∙ old.all_lengths; once = is.once; counts = is.counts }

pub invariant_of-self-in-B256 : goal.invariant_of-self-in-B256
invariant_of-self-in-B256 c =
    let old = c.args.self.now in
    let is = taken_b256 old c.args.file c.args.blocks c.from.result c.from.ensures c.ranges.file.fits c.requires.fresh c.requires.count _ c.push-in-B256.ensures.items in
    record { all_blocks = length-set old.blocks c.from.result c.args.blocks ∙ old.all_blocks; all_lengths = length-set old.lengths c.from-2.result c.args.size ∙ old.all_lengths; once = is.once; counts = is.counts }

pub invariant_of-self-in-B1K : goal.invariant_of-self-in-B1K
invariant_of-self-in-B1K c =
    let old = c.args.self.now in
    let is = taken_b1k old c.args.file c.args.blocks c.from.result c.from.ensures c.ranges.file.fits c.requires.fresh c.requires.count _ c.push-in-B1K.ensures.items in
    record { all_blocks = length-set old.blocks c.from.result c.args.blocks ∙ old.all_blocks; all_lengths = length-set old.lengths c.from-2.result c.args.size ∙ old.all_lengths; once = is.once; counts = is.counts }

pub invariant_of-self-in-B4K : goal.invariant_of-self-in-B4K
invariant_of-self-in-B4K c =
    let old = c.args.self.now in
    let is = taken_b4k old c.args.file c.args.blocks c.from.result c.from.ensures c.ranges.file.fits c.requires.fresh c.requires.count _ c.push-in-B4K.ensures.items in
    record { all_blocks = length-set old.blocks c.from.result c.args.blocks ∙ old.all_blocks; all_lengths = length-set old.lengths c.from-2.result c.args.size ∙ old.all_lengths; once = is.once; counts = is.counts }

pub returns-in-Rankings : goal.returns-in-Rankings
returns-in-Rankings c =
    rw c.in-Rankings.is
    (joins_rankings c.args.self.now _ c.args.file c.args.blocks c.args.size c.from.result c.from-2.result c.from.ensures c.from-2.ensures c.ranges.file.fits refl refl c.push.ensures.items refl refl refl)

pub returns-in-B256 : goal.returns-in-B256
returns-in-B256 c =
    rw c.in-B256.is
    (joins_b256 c.args.self.now _ c.args.file c.args.blocks c.args.size c.from.result c.from-2.result c.from.ensures c.from-2.ensures c.ranges.file.fits refl refl c.push-in-B256.ensures.items refl refl refl)

pub returns-in-B1K : goal.returns-in-B1K
returns-in-B1K c =
    rw c.in-B1K.is
    (joins_b1k c.args.self.now _ c.args.file c.args.blocks c.args.size c.from.result c.from-2.result c.from.ensures c.from-2.ensures c.ranges.file.fits refl refl c.push-in-B1K.ensures.items refl refl refl)

pub returns-in-B4K : goal.returns-in-B4K
returns-in-B4K c =
    rw c.in-B4K.is
    (joins_b4k c.args.self.now _ c.args.file c.args.blocks c.args.size c.from.result c.from-2.result c.from.ensures c.from-2.ensures c.ranges.file.fits refl refl c.push-in-B4K.ensures.items refl refl refl)
