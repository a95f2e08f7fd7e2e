use Rattle.std.proofs.Common.{◌≡◌, ◌≢◌, ℕ, ◌+◌, ◌*◌, ap₂, refl, ◌∙◌}
use Rattle.spec_format.specs.Address.{external, kind_of, place}
use Rattle.blk_disk.proofs.Ranges.{name_is}
use Rattle.blk_lru.proofs.NodeWords.{node_place}
use Rattle.blk_object.proofs.ListWalks.{block-kind}
use Rattle.blk_object.proofs.list_walks.node_damage.Goals as goal

pub returns : goal.returns
returns c =
    let blocky : kind_of c.args.node ≢ external = block-kind c.args.node c.requires.kind in
    let front : 8192 + c.from.result * 36 ≡ place c.args.node = node_place c.args.node c.from.result c.requires.kind (c.from.ensures ∙ c.start.ensures) in
    record { damage = _; is = refl; word = record { of_file = name_is c.args.node c.file_of.result blocky c.file_of.ensures; at_place = ap₂ (λ (n m : ℕ). n + m) front c.from-2.ensures; of_word = refl } }
