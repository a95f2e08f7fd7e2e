use Rattle.std.proofs.Common.{arith, ◌∙◌, ap₂, ℕ}
use Rattle.std.specs.Int.{w32, w64}
use Rattle.std.proofs.lemmas.Int.{of_z-to_z}
use Rattle.blk_ranges.specs.PartMaps.{head_words, partial_word, map_signature}
use Rattle.blk_ranges.proofs.Indexes.{partial-small, words-put}
use Rattle.blk_ranges.proofs.part_map.PartMap.words.Goals as goal

pub returns : goal.returns
returns c =
    words-put c.args.self.now c.copy_from_slice.new.self c.copy_from_slice-2.new.self
    (c.copy_from_slice.ensures.after ∙ c.head_words.ensures ∙ ap₂ (λ (s b : ℕ). head_words s c.args.self.now.key_len b c.args.self.now.partial_len) (of_z-to_z w64 (map_signature c.args.self.now) (omega (arith, c.requires.signature))) (of_z-to_z w32 (partial_word c.args.self.now) (partial-small c.args.self.now c.requires.partial).0))
    c.copy_from_slice-2.ensures.after
