use Rattle.std.proofs.Common.{◌≡◌, ◌≢◌, ℕ, ◌+◌, ◌*◌, ap₂, sym, ◌∙◌, refl}
use Rattle.spec_format.specs.Address.{kind_of, external, place}
use Rattle.blk_disk.proofs.Ranges.{name_is}
use Rattle.blk_disk.proofs.Standings.{start_is, place_is}
use Rattle.blk_entry.proofs.Windows.{size_of_entry, not_external}
use Rattle.blk_entry.proofs.keys.record_damage.Goals as goal

pub returns : goal.returns
returns c =
    let block_kind : kind_of c.args.entry ≢ external = not_external c.args.entry c.requires.kind in
    let start = start_is c.args.entry c.start.result block_kind c.start.ensures in
    let front : 8192 + c.from.result * 256 ≡ place c.args.entry = place_is c.args.entry c.from.result 256 (c.from.ensures ∙ start) (sym (size_of_entry c.args.entry c.requires.kind)) in
    record { damage = _; is = refl; word = record { of_file = name_is c.args.entry c.file_of.result block_kind c.file_of.ensures; at_place = ap₂ (λ (n m : ℕ). n + m) front c.from-2.ensures; of_word = refl } }
