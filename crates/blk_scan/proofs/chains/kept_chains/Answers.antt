use Rattle.std.proofs.Common.{◌≡◌, ℕ, true, List, sym, ap, subst, ◌∙◌}
use Rattle.std.specs.Prelude.{length}
use Rattle.std.specs.BTreeSet.{contains}
use Rattle.std.specs.Ordering.{nat_cmp}
use Rattle.spec_folder.specs.Found.{kept}
use Rattle.blk_disk.specs.Tables.{is_record_among}
use Rattle.blk_audit.specs.BucketEnds.{AreEnds}
use Rattle.law_recovery.specs.ChainRepair.{is_kept_record}
use Rattle.blk_scan.specs.Packing.{ArePacked}
use Rattle.blk_scan.proofs.Packed.{chains_exact, chains_kept, chains_whole, kept_by_set, packed_among, packed_of}
use Rattle.blk_scan.proofs.chains.kept_chains.Goals as goal

pub pack-requires : goal.pack-requires
pack-requires c = record {
  ends = subst (λ (rs : List ℕ). AreEnds rs c.bucket_ends.result.now) (sym c.as_slice.ensures) (subst (λ (es : List ℕ). AreEnds c.args.reached.now.words.items es) (sym c.bucket_ends.ensures) c.requires.buckets.ends);
  told = ap length c.closed_buckets.ensures ∙ c.requires.buckets.closed;
}

pub returns-then-are_whole-clause-told : goal.returns-then-are_whole-clause-told
returns-then-are_whole-clause-told c image of are =
    let packed : ArePacked (contains nat_cmp c.in_ok-kept.kept) c.args.reached.now.words.items c.args.reached.now.ends.items c.args.reached.now.closed.items 65536 c.in_ok-chains.chains =
    packed_of (contains nat_cmp c.in_ok-kept.kept) c.args.reached.now c.as_slice.result.now c.bucket_ends.result.now c.closed_buckets.result.now c.in_ok-chains.chains c.as_slice.ensures c.bucket_ends.ensures c.closed_buckets.ensures c.in_ok-chains.ensures in
    let same : (w : ℕ) → contains nat_cmp c.in_ok-kept.kept w ≡ is_kept_record (kept image) w =
    kept_by_set image c.args.records.now c.deref.result.now (contains nat_cmp c.in_ok-kept.kept) are (c.deref.ensures.value ∙ c.in_ok-entries.ensures) (λ w. c.in_ok-kept.ensures w) in
    chains_whole image c.args.reached.now c.in_ok-chains.chains (contains nat_cmp c.in_ok-kept.kept) c.requires.buckets.ends of same packed (sym c.are_whole.ensures ∙ c.if-are_whole.true)

pub returns-clause-told : goal.returns-clause-told
returns-clause-told c image of are =
    let packed : ArePacked (contains nat_cmp c.in_ok-kept.kept) c.args.reached.now.words.items c.args.reached.now.ends.items c.args.reached.now.closed.items 65536 c.in_ok-chains.chains =
    packed_of (contains nat_cmp c.in_ok-kept.kept) c.args.reached.now c.as_slice.result.now c.bucket_ends.result.now c.closed_buckets.result.now c.in_ok-chains.chains c.as_slice.ensures c.bucket_ends.ensures c.closed_buckets.ensures c.in_ok-chains.ensures in
    let same : (w : ℕ) → contains nat_cmp c.in_ok-kept.kept w ≡ is_kept_record (kept image) w =
    kept_by_set image c.args.records.now c.deref.result.now (contains nat_cmp c.in_ok-kept.kept) are (c.deref.ensures.value ∙ c.in_ok-entries.ensures) (λ w. c.in_ok-kept.ensures w) in
    chains_kept image c.args.reached.now c.in_ok-chains.chains (contains nat_cmp c.in_ok-kept.kept) c.requires.buckets.ends of same packed

pub returns-then-are_whole-clause-exact : goal.returns-then-are_whole-clause-exact
returns-then-are_whole-clause-exact c image of are =
    let packed : ArePacked (contains nat_cmp c.in_ok-kept.kept) c.args.reached.now.words.items c.args.reached.now.ends.items c.args.reached.now.closed.items 65536 c.in_ok-chains.chains =
    packed_of (contains nat_cmp c.in_ok-kept.kept) c.args.reached.now c.as_slice.result.now c.bucket_ends.result.now c.closed_buckets.result.now c.in_ok-chains.chains c.as_slice.ensures c.bucket_ends.ensures c.closed_buckets.ensures c.in_ok-chains.ensures in
    let same : (w : ℕ) → contains nat_cmp c.in_ok-kept.kept w ≡ is_kept_record (kept image) w =
    kept_by_set image c.args.records.now c.deref.result.now (contains nat_cmp c.in_ok-kept.kept) are (c.deref.ensures.value ∙ c.in_ok-entries.ensures) (λ w. c.in_ok-kept.ensures w) in
    chains_whole image c.args.reached.now c.in_ok-chains.chains (contains nat_cmp c.in_ok-kept.kept) c.requires.buckets.ends of same packed (sym c.are_whole.ensures ∙ c.if-are_whole.true)

pub returns-clause-exact : goal.returns-clause-exact
returns-clause-exact c image of are =
    let packed : ArePacked (contains nat_cmp c.in_ok-kept.kept) c.args.reached.now.words.items c.args.reached.now.ends.items c.args.reached.now.closed.items 65536 c.in_ok-chains.chains =
    packed_of (contains nat_cmp c.in_ok-kept.kept) c.args.reached.now c.as_slice.result.now c.bucket_ends.result.now c.closed_buckets.result.now c.in_ok-chains.chains c.as_slice.ensures c.bucket_ends.ensures c.closed_buckets.ensures c.in_ok-chains.ensures in
    let same : (w : ℕ) → contains nat_cmp c.in_ok-kept.kept w ≡ is_kept_record (kept image) w =
    kept_by_set image c.args.records.now c.deref.result.now (contains nat_cmp c.in_ok-kept.kept) are (c.deref.ensures.value ∙ c.in_ok-entries.ensures) (λ w. c.in_ok-kept.ensures w) in
    chains_exact image c.args.reached.now c.in_ok-chains.chains (contains nat_cmp c.in_ok-kept.kept) c.requires.buckets.ends of same packed (sym c.are_whole.ensures ∙ c.if-are_whole.false)

pub returns-clause-stand : goal.returns-clause-stand
returns-clause-stand c files stand =
    let packed : ArePacked (contains nat_cmp c.in_ok-kept.kept) c.args.reached.now.words.items c.args.reached.now.ends.items c.args.reached.now.closed.items 65536 c.in_ok-chains.chains =
    packed_of (contains nat_cmp c.in_ok-kept.kept) c.args.reached.now c.as_slice.result.now c.bucket_ends.result.now c.closed_buckets.result.now c.in_ok-chains.chains c.as_slice.ensures c.bucket_ends.ensures c.closed_buckets.ensures c.in_ok-chains.ensures in
    record {
      records = packed_among (λ w. is_record_among files w ≡ true) (contains nat_cmp c.in_ok-kept.kept) c.args.reached.now.words.items c.args.reached.now.ends.items c.args.reached.now.closed.items 65536 c.in_ok-chains.chains packed stand;
      ends = record { many = packed.many; rising = packed.rising; inside = packed.inside };
      told = packed.told;
    }
