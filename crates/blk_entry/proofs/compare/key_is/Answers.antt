use Rattle.std.proofs.Common.{◌≡◌, ◌↔◌, ℕ, length, None, Some, inl, inr, sym, ◌∙◌, subst, arith}
use Rattle.std.proofs.lemmas.Result.{on_ok_weaker}
use Rattle.std.specs.Option.{ForSome}
use Rattle.std.specs.Prelude.{IsTrue}
use Rattle.blk_entry.specs.Keys.{AreKeyBytes, HasData, HasReadableKey, IsCutKey, IsCutPiece, IsRecordHead, IsMisplacedKey, IsPlaceDamage, bytes_before, data_at, key_address, key_at}
use Rattle.blk_io.proofs.Carried.{carried, if_damaged_weaker, untold_where}
use Rattle.blk_entry.proofs.KeyPlaces.{bytes_by_place, bytes_of_head, clash, damaged_any, head_facts, key_by_bytes, key_is_cut, ok_there, ok_weaker, whole_there}
use Rattle.blk_entry.proofs.compare.key_is.Goals as goal

pub returns-in_err-place-clause-untold : goal.returns-in_err-place-clause-untold
returns-in_err-place-clause-untold g c can words =
    damaged_any c.from_residual.result ((g.F.Folder.told c.args.folder.now).files ≡ None)
    (untold_where (g.F.Folder.told c.args.folder.now).files
    (λ image there. let has = (can image there).key in
    let known = head_facts c.args.files.now image c.args.entry c.args.head.now has.key (can image there).agrees c.requires.kind (words image there) has.is in
    clash (c.in_err-place.ensures.right known.has known.holds)))

pub returns-clause-untold : goal.returns-clause-untold
returns-clause-untold g c can words =
    c.data_is.ensures.untold (λ image there. (can image there).agrees)
    (λ image there.
    let has = (can image there).key in
    let known = head_facts c.args.files.now image c.args.entry c.args.head.now has.key (can image there).agrees c.requires.kind (words image there) has.is in
    let place = c.in_ok-place.ensures.place in
    whole_there c.args.files.now image c.args.entry c.args.head.now.key_len c.args.head.now.long_key has.key c.in_ok-place.place (length c.args.key.now) known place (let h = place.len in omega (arith, h, c.if-head-key.false)))

pub returns-then-head-key-clause-bytes : goal.returns-then-head-key-clause-bytes
returns-then-head-key-clause-bytes g c image there = (λ no. absurd (clash no), λ are. absurd (c.if-head-key.true are.len))

pub returns-then-head-key-clause-equal : goal.returns-then-head-key-clause-equal
returns-then-head-key-clause-equal g c image there words has = (
  λ no. absurd (clash no),
  λ is. absurd (c.if-head-key.true (((bytes_of_head image c.args.entry c.args.head.now c.args.key.now words).1 ((key_by_bytes image c.args.entry c.args.key.now c.requires.kind has).1 is)).len)),
)

pub returns-clause-bytes : goal.returns-clause-bytes
returns-clause-bytes g c =
    ok_weaker c.data_is.result (λ same. ForSome (g.F.Folder.told c.args.folder.now).files (λ image. IsTrue same ↔ (c.args.key.now ≡ data_at image c.in_ok-place.place.addr c.in_ok-place.place.skip (length c.args.key.now))))
    (λ same. ForSome (g.F.Folder.told c.args.folder.now).files (λ image. IsTrue same ↔ AreKeyBytes c.args.key.now c.args.entry c.args.head.now.key_len c.args.head.now.long_key image))
    (λ same read_as image there.
    let by_place = bytes_by_place image c.args.entry c.args.head.now.key_len c.args.head.now.long_key c.args.key.now c.in_ok-place.place c.in_ok-place.ensures.place c.if-head-key.false in
    let whole = read_as image there in
    (λ yes. by_place.0 (whole.0 yes), λ is. whole.1 (by_place.1 is)))
    c.data_is.ensures.same

pub returns-clause-equal : goal.returns-clause-equal
returns-clause-equal g c =
    ok_weaker c.data_is.result (λ same. ForSome (g.F.Folder.told c.args.folder.now).files (λ image. IsTrue same ↔ (c.args.key.now ≡ data_at image c.in_ok-place.place.addr c.in_ok-place.place.skip (length c.args.key.now))))
    (λ same. ForSome (g.F.Folder.told c.args.folder.now).files (λ image. IsRecordHead image c.args.entry c.args.head.now → HasReadableKey c.args.entry image → IsTrue same ↔ (key_at image c.args.entry ≡ Some c.args.key.now)))
    (λ same read_as image there words has.
    let by_place = bytes_by_place image c.args.entry c.args.head.now.key_len c.args.head.now.long_key c.args.key.now c.in_ok-place.place c.in_ok-place.ensures.place c.if-head-key.false in
    let by_head = bytes_of_head image c.args.entry c.args.head.now c.args.key.now words in
    let by_bytes = key_by_bytes image c.args.entry c.args.key.now c.requires.kind has in
    let whole = read_as image there in
    (λ yes. by_bytes.0 (by_head.0 (by_place.0 (whole.0 yes))), λ is. whole.1 (by_place.1 (by_head.1 (by_bytes.1 is)))))
    c.data_is.ensures.same

pub returns-clause-placed : goal.returns-clause-placed
returns-clause-placed g c = on_ok_weaker c.data_is.result (λ there size. c.in_ok-place.ensures.placed) (ok_there c.data_is.result)

pub returns-clause-there : goal.returns-clause-there
returns-clause-there g c =
    let at = c.in_ok-place.ensures.place in
    ok_weaker c.data_is.result (λ same. IsTrue same → ForSome (g.F.Folder.told c.args.folder.now).files (HasData c.in_ok-place.place.addr c.in_ok-place.place.skip (length c.args.key.now)))
    (λ same. IsTrue same → ForSome (g.F.Folder.told c.args.folder.now).files (HasData (key_address c.args.entry c.args.head.now.key_len c.args.head.now.long_key) (bytes_before c.args.head.now.key_len) (length c.args.key.now)))
    (λ same has holds image there. subst (λ (w : ℕ). HasData w (bytes_before c.args.head.now.key_len) (length c.args.key.now) image) at.addr (subst (λ (i : ℕ). HasData c.in_ok-place.place.addr i (length c.args.key.now) image) at.skip (has holds image there)))
    c.data_is.ensures.there

pub returns-in_err-place-clause-damaged : goal.returns-in_err-place-clause-damaged
returns-in_err-place-clause-damaged g c =
    carried c.key_place.result c.from_residual.result c.in_err-place.field-0.0 (IsPlaceDamage c.args.files.now (g.F.Folder.told c.args.folder.now) c.args.entry (length c.args.key.now) c.args.head.now.long_key) c.in_err-place.was c.from_residual.ensures.1
    (if_damaged_weaker c.key_place.result _ _ (λ damage wrong. inr (subst (λ (k : ℕ). IsMisplacedKey c.args.files.now c.args.entry k c.args.head.now.long_key damage) c.if-head-key.false wrong)) c.key_place.ensures.damaged)

pub returns-clause-damaged : goal.returns-clause-damaged
returns-clause-damaged g c =
    let place = c.in_ok-place.ensures.place in
    let len = place.len in
    let size = c.if-head-key.false in
    if_damaged_weaker c.data_is.result _ _
    (λ damage cut. inl (subst (λ (k : ℕ). IsCutKey c.args.files.now (g.F.Folder.told c.args.folder.now) c.args.entry k c.args.head.now.long_key damage) size
    (key_is_cut c.args.files.now (g.F.Folder.told c.args.folder.now) c.args.entry c.args.head.now.key_len c.args.head.now.long_key c.in_ok-place.place damage
    c.in_ok-place.ensures.placed place (subst (λ (n : ℕ). IsCutPiece (g.F.Folder.told c.args.folder.now) c.in_ok-place.place.addr c.in_ok-place.place.skip n damage) (sym size ∙ sym len) cut))))
    c.data_is.ensures.short
