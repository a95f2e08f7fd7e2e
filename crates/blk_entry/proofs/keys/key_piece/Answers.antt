use Rattle.std.proofs.Common.{◌≡◌, ◌+◌, ℕ, List, inl, inr, length, take, drop, length-take, None, Some, sym, ◌∙◌, ap, ap₂, subst, arith}
use Rattle.std.specs.Prelude.{min, ◌++◌}
use Rattle.std.specs.Option.{ForSome}
use Rattle.spec_image.specs.Bytes.{range_at}
use Rattle.spec_image.specs.Image.{byte}
use Rattle.spec_image.specs.Told.{Told}
use Rattle.blk_disk.specs.Tables.{Agrees}
use Rattle.spec_folder.specs.View.{entry_at}
use Rattle.blk_io.specs.Faults.{IfDamaged}
use Rattle.blk_io.proofs.Carried.{carried, if_damaged_weaker, untold_where}
use Rattle.blk_entry.specs.Keys.{HasData, IsCutPart, IsPartDamage, IsPiece, IsPlaced, bytes_before, data_file, data_start, key_address, key_bytes}
use Rattle.blk_entry.proofs.KeyPlaces.{bytes_in_place, clash, damaged_any, head_facts, key_is_bytes, part_is_cut, piece_is, piece_there}
use Rattle.blk_entry.proofs.keys.key_piece.Given as given
use Rattle.blk_entry.proofs.keys.key_piece.Goals as goal

pub returns-in_err-head-clause-untold : goal.returns-in_err-head-clause-untold
returns-in_err-head-clause-untold g c can =
    carried c.read_head.result c.from_residual.result c.in_err-head.field-0.0 (λ _. (g.F.Folder.told c.args.f.now).files ≡ None) c.in_err-head.was c.from_residual.ensures.1
    (c.read_head.ensures.untold (λ image there. (can image there).agrees) (λ image there. (can image there).checks))

pub returns-in_err-key-clause-untold : goal.returns-in_err-key-clause-untold
returns-in_err-key-clause-untold g c can =
    damaged_any c.from_residual-in_err-key.result ((g.F.Folder.told c.args.f.now).files ≡ None)
    (untold_where (g.F.Folder.told c.args.f.now).files
    (λ image there. let has = (can image there).key in
    let known = head_facts c.args.files.now image c.args.entry c.in_ok-head.head has.key (can image there).agrees c.requires.kind (c.in_ok-head.ensures.head image there) has.is in
    clash (c.in_err-key.ensures.right known.has known.holds)))

pub returns-in_err-read_data-clause-untold : goal.returns-in_err-read_data-clause-untold
returns-in_err-read_data-clause-untold g c can =
    subst (λ (t : Told). IfDamaged c.from_residual-in_err-read_data.result (λ _. t.files ≡ None)) c.in_ok-head.ensures.reads.stays
    (carried c.read_data.result c.from_residual-in_err-read_data.result c.in_err-read_data.field-0.0 (λ _. (g.F.Folder.told c.read_head.new.folder).files ≡ None) c.in_err-read_data.was c.from_residual-in_err-read_data.ensures.1
    (c.read_data.ensures.untold
    (subst (λ (t : Told). ForSome t.files (Agrees c.args.files.now)) (sym c.in_ok-head.ensures.reads.stays) (λ image there. (can image there).agrees))
    (λ image now.
    let there : (g.F.Folder.told c.args.f.now).files ≡ Some image = ap (λ (t : Told). t.files) (sym c.in_ok-head.ensures.reads.stays) ∙ now in
    let has = (can image there).key in
    let known = head_facts c.args.files.now image c.args.entry c.in_ok-head.head has.key (can image there).agrees c.requires.kind (c.in_ok-head.ensures.head image there) has.is in
    piece_there c.args.files.now image c.args.entry c.in_ok-head.head.key_len c.in_ok-head.head.long_key has.key c.in_ok-key.key c.min-at.result (length (take c.min-n.result c.args.out.now)) known c.in_ok-key.ensures.place
    (omega (arith, length-take c.min-n.result c.args.out.now, c.min-at.ensures, c.min-n.ensures)))))

-- the piece of the bytes where the words say that the key lies
piece_of : (g : given.Over) (c : goal.In_ok-read_data g) → ForSome (g.F.Folder.told c.args.f.now).files (λ image. IsPiece (key_bytes image c.args.entry) c.args.at c.args.out.now (c.read_data.new.out ++ drop c.min-n.result c.args.out.now) c.min-n.result)
piece_of g c image there =
    let f : ℕ → ℕ = byte image (data_file c.in_ok-key.key.addr) in
    let start : ℕ = data_start c.in_ok-key.key.addr in
    let now : (g.F.Folder.told c.read_head.new.folder).files ≡ Some image = ap (λ (t : Told). t.files) c.in_ok-head.ensures.reads.stays ∙ there in
    let size : length (take c.min-n.result c.args.out.now) ≡ c.min-n.result = omega (arith, length-take c.min-n.result c.args.out.now, c.min-n.ensures) in
    let order : start + (c.in_ok-key.key.skip + c.min-at.result) ≡ start + c.in_ok-key.key.skip + c.min-at.result = omega arith in
    piece_is (key_bytes image c.args.entry) c.read_data.new.out c.args.out.now f (start + c.in_ok-key.key.skip) c.in_ok-key.key.len c.args.at c.min-at.result c.min-n.result
    (bytes_in_place image c.args.entry c.in_ok-head.head c.in_ok-key.key (c.in_ok-head.ensures.head image there) c.in_ok-key.ensures.place) c.min-at.ensures c.min-n.ensures
    (c.in_ok-read_data.ensures.bytes image now ∙ ap₂ (λ (i n : ℕ). range_at f i n) order size)

pub returns-clause-bytes : goal.returns-clause-bytes
returns-clause-bytes g c = piece_of g c

pub returns-clause-piece : goal.returns-clause-piece
returns-clause-piece g c image there key is = subst (λ (k : List ℕ). IsPiece k c.args.at c.args.out.now (c.read_data.new.out ++ drop c.min-n.result c.args.out.now) c.min-n.result) (sym (key_is_bytes image c.args.entry key c.requires.kind is)) (piece_of g c image there)

pub returns-clause-placed : goal.returns-clause-placed
returns-clause-placed g c image there =
    let words = c.in_ok-head.ensures.head image there in
    subst (λ (l : ℕ). IsPlaced c.args.files.now c.args.entry (entry_at image c.args.entry).key_len l) words.long_key (subst (λ (k : ℕ). IsPlaced c.args.files.now c.args.entry k c.in_ok-head.head.long_key) words.key_len c.in_ok-key.ensures.placed)

pub returns-clause-there : goal.returns-clause-there
returns-clause-there g c image there =
    let words = c.in_ok-head.ensures.head image there in
    let at = c.in_ok-key.ensures.place in
    let now : (g.F.Folder.told c.read_head.new.folder).files ≡ Some image = ap (λ (t : Told). t.files) c.in_ok-head.ensures.reads.stays ∙ there in
    let addr : c.in_ok-key.key.addr ≡ key_address c.args.entry (entry_at image c.args.entry).key_len (entry_at image c.args.entry).long_key = at.addr ∙ (λ j. key_address c.args.entry (words.key_len j) (words.long_key j)) in
    let skip : c.in_ok-key.key.skip ≡ bytes_before (entry_at image c.args.entry).key_len = at.skip ∙ ap bytes_before words.key_len in
    let len : c.in_ok-key.key.len ≡ (entry_at image c.args.entry).key_len = at.len ∙ words.key_len in
    let first : c.in_ok-key.key.skip + c.min-at.result ≡ bytes_before (entry_at image c.args.entry).key_len + min c.args.at (entry_at image c.args.entry).key_len = (λ j. skip j + (c.min-at.ensures ∙ ap (min c.args.at) len) j) in
    let size : length (take c.min-n.result c.args.out.now) ≡ c.min-n.result = omega (arith, length-take c.min-n.result c.args.out.now, c.min-n.ensures) in
    subst (λ (w : ℕ). HasData w (bytes_before (entry_at image c.args.entry).key_len + min c.args.at (entry_at image c.args.entry).key_len) c.min-n.result image) addr
    (subst (λ (i : ℕ). HasData c.in_ok-key.key.addr i c.min-n.result image) first (subst (λ (n : ℕ). HasData c.in_ok-key.key.addr (c.in_ok-key.key.skip + c.min-at.result) n image) size (c.in_ok-read_data.ensures.checked image now)))

pub returns-in_err-key-clause-damaged : goal.returns-in_err-key-clause-damaged
returns-in_err-key-clause-damaged g c =
    carried c.key_place.result c.from_residual-in_err-key.result c.in_err-key.field-0.0 (IsPartDamage c.args.files.now (g.F.Folder.told c.args.f.now) c.args.entry c.args.at (length c.args.out.now)) c.in_err-key.was c.from_residual-in_err-key.ensures.1
    (if_damaged_weaker c.key_place.result _ _ (λ damage wrong. inr (record { key_len = c.in_ok-head.head.key_len; long_key = c.in_ok-head.head.long_key; wrong = inr wrong })) c.key_place.ensures.damaged)

pub returns-in_err-read_data-clause-damaged : goal.returns-in_err-read_data-clause-damaged
returns-in_err-read_data-clause-damaged g c =
    let n : ℕ = length (take c.min-n.result c.args.out.now) in
    carried c.read_data.result c.from_residual-in_err-read_data.result c.in_err-read_data.field-0.0 (IsPartDamage c.args.files.now (g.F.Folder.told c.args.f.now) c.args.entry c.args.at (length c.args.out.now)) c.in_err-read_data.was c.from_residual-in_err-read_data.ensures.1
    (if_damaged_weaker c.read_data.result _ _
    (λ damage cut. inr (record {
      key_len = c.in_ok-head.head.key_len;
      long_key = c.in_ok-head.head.long_key;
      wrong = inl (subst (λ (t : Told). IsCutPart c.args.files.now t c.args.entry c.in_ok-head.head.key_len c.in_ok-head.head.long_key c.args.at (length c.args.out.now) damage) c.in_ok-head.ensures.reads.stays
          (part_is_cut c.args.files.now (g.F.Folder.told c.read_head.new.folder) c.args.entry c.in_ok-head.head.key_len c.in_ok-head.head.long_key c.in_ok-key.key c.args.at (length c.args.out.now) c.min-at.result n damage c.in_ok-key.ensures.placed c.in_ok-key.ensures.place
          (omega (arith, c.min-at.ensures)) (omega (arith, length-take c.min-n.result c.args.out.now, c.min-at.ensures, c.min-n.ensures)) cut));
    }))
    c.read_data.ensures.short)
