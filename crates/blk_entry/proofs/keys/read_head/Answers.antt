use Rattle.std.proofs.Common.{◌≡◌, ◌⊎◌, ◌+◌, ◌≤◌, ⊎_elim, true, subst, ℕ, List, inr, None, Some, false, Bool, if◌then◌else◌, sym, ◌∙◌, ap, arith}
use Rattle.spec_image.specs.Bytes.{content, word_at, words_at}
use Rattle.spec_image.specs.Image.{Block, length_of}
use Rattle.spec_format.specs.Address.{file_selector, place}
use Rattle.spec_format.specs.Records.{checks}
use Rattle.spec_format.specs.Sealed.{seal_place}
use Rattle.blk_disk.specs.Unsealed.{IsUnsealed}
use Rattle.spec_format.proofs.SealedRecords.{entry_bytes, entry_seal}
use Rattle.blk_disk.proofs.SealedReads.{record_read, unsealed_is, untold_unsealed}
use Rattle.blk_entry.specs.declared.keys.Head.{Head}
use Rattle.blk_entry.specs.Keys.{IsHeadDamage}
use Rattle.blk_entry.proofs.Windows.{entry_room_least}
use Rattle.blk_entry.proofs.KeyPlaces.{head_is, err_damaged}
use Rattle.blk_entry.proofs.keys.read_head.Given as given
use Rattle.blk_entry.proofs.keys.read_head.Goals as goal

pub read_block-requires-clause-inside : goal.read_block-requires-clause-inside
read_block-requires-clause-inside g c = let least = entry_room_least c.args.entry c.requires.kind in omega (arith, least)

unsealed_here : (g : given.Over) (c : goal.After-record_damage g) → IsUnsealed (g.F.Folder.told c.args.folder.now) c.args.entry c.record_damage.ensures.damage
unsealed_here g c =
    let window : List ℕ = c.read_block.new.out in
    let fails : checks 92 window ≡ false = ap (checks 92) (sym c.in-Some.ensures.same) ∙ sym c.checks.ensures ∙ c.if-not-checks.true in
    let found : c.word.result ≡ word_at (content window) 92 = c.word.ensures ∙ ap (λ (l : List ℕ). word_at (content l) 92) c.in-Some.ensures.same in
    unsealed_is (g.F.Folder.told c.args.folder.now) c.args.entry 92 c.word.result window c.record_damage.ensures.damage (sym (entry_seal c.args.entry c.requires.kind))
    (ap (λ (b : Bool). if b then None else Some (word_at (content window) 92)) fails ∙ ap Some (sym found)) c.record_damage.ensures.word.of_file c.record_damage.ensures.word.at_place c.record_damage.ensures.word.of_word
    (λ image there. record_read image c.args.entry 96 window (sym (entry_bytes c.args.entry c.requires.kind)) (c.in_ok-read_block.ensures.bytes image there))

pub returns-then-not-checks-clause-damaged : goal.returns-then-not-checks-clause-damaged
returns-then-not-checks-clause-damaged g c =
    err_damaged Head c.record_damage.result c.record_damage.ensures.damage (IsHeadDamage (g.F.Folder.told c.args.folder.now) c.args.entry)
    c.record_damage.ensures.is (inr (unsealed_here g c))

pub returns-then-not-checks-clause-untold : goal.returns-then-not-checks-clause-untold
returns-then-not-checks-clause-untold g c agrees good =
    err_damaged Head c.record_damage.result c.record_damage.ensures.damage (λ _. (g.F.Folder.told c.args.folder.now).files ≡ None) c.record_damage.ensures.is
    (untold_unsealed (g.F.Folder.told c.args.folder.now) c.args.entry c.record_damage.ensures.damage (unsealed_here g c) good)

pub returns-clause-head : goal.returns-clause-head
returns-clause-head g c image there =
    let window : List ℕ = c.read_block.new.out in
    let same = c.in-Some.ensures.same in
    head_is image c.args.entry window _ c.requires.kind (c.in_ok-read_block.ensures.bytes image there)
    (c.word-2.ensures ∙ ap (λ (l : List ℕ). word_at (content l) 0) same) (c.word-3.ensures ∙ ap (λ (l : List ℕ). word_at (content l) 4) same) (c.word-4.ensures ∙ ap (λ (l : List ℕ). word_at (content l) 8) same) (c.word-5.ensures ∙ ap (λ (l : List ℕ). word_at (content l) 32) same)
    (c.word-6.ensures ∙ ap (λ (l : List ℕ). word_at (content l) 36) same)
    (c.four_words.ensures ∙ ap (λ (l : List ℕ). words_at (content l) 40 4) same) (c.four_words-2.ensures ∙ ap (λ (l : List ℕ). words_at (content l) 56 4) same)
    (c.word-7.ensures ∙ ap (λ (l : List ℕ). word_at (content l) 72) same)

pub returns-clause-checked : goal.returns-clause-checked
returns-clause-checked g c image there =
    let window : List ℕ = c.read_block.new.out in
    let holds : checks 92 window ≡ true = ap (checks 92) (sym c.in-Some.ensures.same) ∙ sym c.checks.ensures ∙ c.if-not-checks.false in
    record {
      there = ⊎_elim (λ (h : place c.args.entry + 0 + 96 ≤ length_of image (Block (file_selector c.args.entry))). omega (arith, h)) (λ (none : ◌≡◌ {A = ℕ} 96 0). absurd (omega (arith, none))) (c.in_ok-read_block.ensures.checked image there);
      checks = subst (λ (bytes : List ℕ). checks (seal_place c.args.entry) bytes ≡ true) (record_read image c.args.entry 96 window (sym (entry_bytes c.args.entry c.requires.kind)) (c.in_ok-read_block.ensures.bytes image there))
          (subst (λ (s : ℕ). checks s window ≡ true) (sym (entry_seal c.args.entry c.requires.kind)) holds);
    }
