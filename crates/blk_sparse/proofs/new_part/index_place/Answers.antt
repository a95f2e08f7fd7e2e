use Rattle.std.proofs.Common.{◌≡◌, ℕ, slice_index_or, sym, ◌∙◌, ap, subst, arith, true, false}
use Rattle.spec_format.specs.Address.{is_address}
use Rattle.blk_entry.specs.Keys.{stores}
use Rattle.blk_stream.specs.Streams.{address_word}
use Rattle.blk_object.proofs.StreamsThere.{address_is, no_address, none_address}
use Rattle.blk_object.proofs.WriteChecks.{no-storage}
use Rattle.blk_sparse.proofs.NewIndex.{misplaced, none-told, third-word}
use Rattle.blk_sparse.proofs.NewKept.{address-of}
use Rattle.blk_sparse.proofs.new_part.index_place.Goals as goal

pub returns-in_default-clause-damaged : goal.returns-in_default-clause-damaged
returns-in_default-clause-damaged g c =
    let word : ℕ = slice_index_or c.in_ok-head.head.addrs 2 0 in
    misplaced c.args.files.now (g.F.Folder.told c.read_head.new.folder) c.args.parent word c.record_damage.result c.requires.kind c.requires.stands (no-storage c.args.files.now 8256 word (omega arith) (none_address word c.from_word.result c.from_word.ensures c.in_default.is)) c.record_damage.ensures

pub returns-in_default-clause-untold : goal.returns-in_default-clause-untold
returns-in_default-clause-untold g c agrees has =
    let word : ℕ = slice_index_or c.in_ok-head.head.addrs 2 0 in
    none-told c.record_damage.result (g.F.Folder.told c.args.folder.now).files
    (λ image there.
    let is : word ≡ address_word image c.args.parent 2 = third-word image c.args.parent c.in_ok-head.head (c.in_ok-head.ensures.head image there) in
    no_address word c.from_word.result c.from_word.ensures c.in_default.is
    (subst (λ (v : ℕ). is_address v ≡ true) (sym is) (address-of c.args.files.now (address_word image c.args.parent 2) (has image there).place)))

pub returns-then-not-stores-clause-damaged : goal.returns-then-not-stores-clause-damaged
returns-then-not-stores-clause-damaged g c =
    let word : ℕ = slice_index_or c.in_ok-head.head.addrs 2 0 in
    let addr : c.in-Some.addr ≡ word = address_is word c.in-Some.addr c.from_word.result c.from_word.ensures c.in-Some.is in
    misplaced c.args.files.now (g.F.Folder.told c.read_head.new.folder) c.args.parent word c.record_damage-then-not-stores.result c.requires.kind c.requires.stands
    (ap (λ (v : ℕ). stores c.args.files.now 8256 v) (sym addr) ∙ sym c.stores.ensures ∙ c.if-not-stores.true) c.record_damage-then-not-stores.ensures

pub returns-then-not-stores-clause-untold : goal.returns-then-not-stores-clause-untold
returns-then-not-stores-clause-untold g c agrees has =
    let word : ℕ = slice_index_or c.in_ok-head.head.addrs 2 0 in
    let addr : c.in-Some.addr ≡ word = address_is word c.in-Some.addr c.from_word.result c.from_word.ensures c.in-Some.is in
    none-told c.record_damage-then-not-stores.result (g.F.Folder.told c.args.folder.now).files
    (λ image there.
    let is : word ≡ address_word image c.args.parent 2 = third-word image c.args.parent c.in_ok-head.head (c.in_ok-head.ensures.head image there) in
    let both : true ≡ false = sym (has image there).place ∙ ap (λ (v : ℕ). stores c.args.files.now 8256 v) (sym (addr ∙ is)) ∙ sym c.stores.ensures ∙ c.if-not-stores.true in
    cc)
