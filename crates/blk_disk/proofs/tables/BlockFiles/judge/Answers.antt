use Rattle.std.proofs.Common.{◌+◌, ◌++◌, ◌∷◌, [], ℕ, List, length, subst, sym, ◌∙◌, ap, arith}
use Rattle.std.specs.Option.{option_map}
use Rattle.spec_image.specs.Bytes.{content}
use Rattle.spec_format.specs.Headers.{next_file_of}
use Rattle.blk_addr.specs.Kind.{kind_number}
use Rattle.blk_io.specs.Faults.{damage_of}
use Rattle.blk_disk.specs.Tables.{all_files, files_of}
use Rattle.blk_disk.specs.Loading.{files_left, HasRoom, IsFresh, MayBeNext, next_of}
use Rattle.spec_format.proofs.LinkedHeads.{next_small, link_passed}
use Rattle.blk_disk.proofs.Firsts.{link_number, link_room}
use Rattle.blk_disk.proofs.TakingUp.{link_fresh}
use Rattle.spec_format.specs.BlockFiles.{is_block_count}
use Rattle.spec_format.proofs.Keeping.{checks_hold}
use Rattle.blk_disk.proofs.tables.BlockFiles.judge.Goals as goal

pub next_file-next-requires : goal.next_file-next-requires
next_file-next-requires c =
    let kind : ℕ = kind_number c.args.kind in
    let small = next_small kind (all_files c.args.self.now ++ c.args.n ∷ []) (files_left c.args.self.now kind) c.args.n (content c.args.head.now) c.args.size (sym c.header_damage.ensures ∙ ap (option_map damage_of) c.in_default.is) in
    omega (arith, small, c.next_file.ensures)

pub returns-clause-room : goal.returns-clause-room
returns-clause-room c =
    let kind : ℕ = kind_number c.args.kind in
    let met : List ℕ = all_files c.args.self.now ++ c.args.n ∷ [] in
    let link = link_passed kind met (files_left c.args.self.now kind) c.args.n (content c.args.head.now) c.args.size (sym c.header_damage.ensures ∙ ap (option_map damage_of) c.in_default.is) in
    let room = link_room met (length (files_of c.args.self.now kind)) (next_file_of (content c.args.head.now)) link in
    subst (HasRoom (length (files_of c.args.self.now kind) + 1)) (sym (c.next_file-next.ensures ∙ ap next_of c.next_file.ensures)) room

pub returns-clause-number : goal.returns-clause-number
returns-clause-number c =
    let kind : ℕ = kind_number c.args.kind in
    let met : List ℕ = all_files c.args.self.now ++ c.args.n ∷ [] in
    let left : ℕ = files_left c.args.self.now kind in
    let link = link_passed kind met left c.args.n (content c.args.head.now) c.args.size (sym c.header_damage.ensures ∙ ap (option_map damage_of) c.in_default.is) in
    subst (MayBeNext kind) (sym (c.next_file-next.ensures ∙ ap next_of c.next_file.ensures)) (link_number kind met left (next_file_of (content c.args.head.now)) link)

pub returns-clause-fresh : goal.returns-clause-fresh
returns-clause-fresh c =
    let kind : ℕ = kind_number c.args.kind in
    let met : List ℕ = all_files c.args.self.now ++ c.args.n ∷ [] in
    let left : ℕ = files_left c.args.self.now kind in
    let link = link_passed kind met left c.args.n (content c.args.head.now) c.args.size (sym c.header_damage.ensures ∙ ap (option_map damage_of) c.in_default.is) in
    subst (IsFresh met) (sym (c.next_file-next.ensures ∙ ap next_of c.next_file.ensures)) (link_fresh met left (next_file_of (content c.args.head.now)) link)

pub returns-clause-count : goal.returns-clause-count
returns-clause-count c =
    let kind : ℕ = kind_number c.args.kind in
    let passed = checks_hold kind (all_files c.args.self.now ++ c.args.n ∷ []) (files_left c.args.self.now kind) c.args.n (content c.args.head.now) c.args.size (sym c.header_damage.ensures ∙ ap (option_map damage_of) c.in_default.is) in
    ap is_block_count c.max_entries-blocks.ensures ∙ passed.count
