-- Blocks that are found in a file where space was made.
use Rattle.std.proofs.Common.{◌≡◌, ◌≢◌, ◌⊎◌, inl, inr, ℕ, ◌/◌, ◌%◌, ◌<◌, ◌≤◌, [], Bool, true, false, refl, sym, ◌∙◌, ap, subst, arith, ⊎_elim}
use Rattle.std.proofs.lemmas.Bool.{cases_eq}
use Rattle.spec_image.specs.Image.{Block, Image, byte}
use Rattle.spec_format.specs.Address.{external, file_selector, first_block}
use Rattle.spec_format.specs.BlockFiles.{is_among}
use Rattle.spec_format.specs.Claims.{has_claim}
use Rattle.spec_format.specs.Headers.{hints_of}
use Rattle.spec_format.specs.Maps.{groups_of, is_block_marked, AreAllocations, EmptyAgrees}
use Rattle.blk_addr.specs.declared.kinds.Kind.{Kind}
use Rattle.blk_addr.specs.Kind.{kind_number}
use Rattle.blk_disk.specs.declared.tables.BlockFiles.{BlockFiles}
use Rattle.blk_disk.specs.Growth.{IsLeastFileNumber, grown}
use Rattle.blk_disk.specs.Tables.{Agrees, all_files, blocks_of, files_of}
use Rattle.blk_alloc.specs.declared.blocks.Blocks.{Blocks}
use Rattle.blk_alloc.specs.Allocating.{Extends, HaveNoRoom, IsAddedPlace, IsFoundBy, IsGrownPlace, IsGrownRoom, LiesAtHint, SetsHint}
use Rattle.blk_alloc.specs.Extending.{HasNoHints, IsFirstGrowing, KeepsHintsOf, KeepsMarks}
use Rattle.blk_alloc.specs.Fitting.{HasNoRoom, IsByHint, IsPlace, IsGroupSought}
use Rattle.blk_alloc.specs.Marking.{CanBeMarked, HasHintAmong}
use Rattle.blk_alloc.proofs.Hinted.{all_member, fresh_start, hint_same, no_room}
use Rattle.blk_alloc.proofs.Members.{member_all, member_split}
use Rattle.blk_alloc.proofs.Rooms.{takeable_there}

unmarked : (image : Image) (n : ℕ) → AreAllocations image n [] → (b : ℕ) → b < 64896 → is_block_marked image n b ≡ false
unfolding has_claim
unmarked image n are b small = are.marks b small

true_or_false : (t : Bool) → (t ≡ true) ⊎ (t ≡ false)
true_or_false true = inl refl
true_or_false false = inr refl

module _ (old new : BlockFiles) (k : Kind) (block_kind : kind_number k ≢ external) (count : ℕ) (some : 0 < count) (few : count ≤ 4) (room place : Blocks) (from mid : Image)
    (fits : IsPlace new (kind_number k) count place) (file : place.file ≡ room.file) (none : HaveNoRoom old (kind_number k) count from)
    (marks : KeepsMarks old from mid) (hints : KeepsHintsOf old from mid) (grows : is_among (all_files old) room.file ≡ true → blocks_of new room.file ≡ grown (blocks_of old room.file))
    (fresh : is_among (all_files old) room.file ≡ false → AreAllocations mid room.file [] × (EmptyAgrees mid room.file × HasNoHints mid room.file))
    (by : IsByHint mid room.file (groups_of (blocks_of new room.file)) count 3 place.start) where
  -- in a new file they are the first
  pub added_start : is_among (all_files old) room.file ≡ false → place.start ≡ 0
  added_start none_there = let are = fresh none_there in fresh_start mid room.file (groups_of (blocks_of new room.file)) count place.start some few (unmarked mid room.file are.0) (are.1.1 3 (omega arith)) by

  pub room_place : IsGrownRoom old (kind_number k) room ⊎ IsAddedPlace old (kind_number k) room → IsGrownPlace old (kind_number k) count from place ⊎ IsAddedPlace old (kind_number k) place
  room_place = ⊎_elim grew added
    where
      grew : IsGrownRoom old (kind_number k) room → IsGrownPlace old (kind_number k) count from place ⊎ IsAddedPlace old (kind_number k) place
      grew is =
          let first = is.growing in
          let all = member_all old k room.file block_kind (member_split (files_of old (kind_number k)) first.before room.file first.behind first.split) in
          let there : IsByHint from room.file (groups_of (blocks_of new room.file)) count 3 place.start = hint_same from mid room.file (groups_of (blocks_of new room.file)) count 3 place.start (λ b. marks room.file b all) (hints room.file 3 all (omega arith)) by in
          let more : IsByHint from room.file (groups_of (grown (blocks_of old room.file))) count 3 place.start = subst (λ (m : ℕ). IsByHint from room.file (groups_of m) count 3 place.start) (grows all) there in
          inl (record { growing = subst (IsFirstGrowing old (files_of old (kind_number k))) (sym file) first; blocks = subst (λ (n : ℕ). IsByHint from n (groups_of (grown (blocks_of old n))) count 3 place.start) (sym file) more })

      added : IsAddedPlace old (kind_number k) room → IsGrownPlace old (kind_number k) count from place ⊎ IsAddedPlace old (kind_number k) place
      added is = inr (record { full = is.full; few = is.few; least = subst (IsLeastFileNumber old) (sym file) is.least; start = added_start is.least.free })

  -- the blocks lie at the hint
  pub at_hint : (newest : BlockFiles) (w : ℕ) → file_selector w ≡ room.file → first_block w ≡ place.start → blocks_of newest room.file ≡ blocks_of new room.file → LiesAtHint old newest (kind_number k) count from w
      → place.start / 4 ≡ hints_of (byte mid (Block room.file)) 3 % groups_of (blocks_of new room.file)
  at_hint newest w of start same lies = ⊎_elim was_there not_there (true_or_false (is_among (all_files old) room.file))
    where
      not_there : is_among (all_files old) room.file ≡ false → place.start / 4 ≡ hints_of (byte mid (Block room.file)) 3 % groups_of (blocks_of new room.file)
      not_there e =
          let first = added_start e in
          let hint = (fresh e).1.1 3 (omega arith) in
          let zero_is : place.start / 4 ≡ 0 = omega (arith, first) in
          zero_is ∙ zero_mod (groups_of (blocks_of new room.file)) ∙ ap (λ (h : ℕ). h % groups_of (blocks_of new room.file)) (sym hint)
        where
          zero_mod : (m : ℕ) → 0 ≡ 0 % m
          zero_mod m = omega arith

      clash : true ≡ false → ⊥
      clash e = cc

      was_there : is_among (all_files old) room.file ≡ true → place.start / 4 ≡ hints_of (byte mid (Block room.file)) 3 % groups_of (blocks_of new room.file)
      was_there e = ⊎_elim (λ (no_file : is_among (all_files old) (file_selector w) ≡ false). absurd (clash (sym e ∙ ap (is_among (all_files old)) (sym of) ∙ no_file)))
          (λ (found : (i : ℕ) × IsFoundBy old (kind_number k) count from w i × (first_block w / 4 ≡ hints_of (byte from (Block (file_selector w))) i % groups_of (blocks_of newest (file_selector w)))).
          let three : found.0 ≡ 3 = ⊎_elim (λ (had : (is_among (files_of old (kind_number k)) (file_selector w) ≡ true) × IsGroupSought from (file_selector w) count found.0). absurd (no_room from (file_selector w) count found.0 had.1 (all_member (HasNoRoom from count) (files_of old (kind_number k)) (file_selector w) had.0 none)))
          (λ (last : HaveNoRoom old (kind_number k) count from × (found.0 ≡ 3)). last.1) found.1 in
          ap (λ (s : ℕ). s / 4) (sym start) ∙ found.2
          ∙ (λ j. hints_of (byte from (Block (of j))) (three j) % groups_of (blocks_of newest (of j)))
          ∙ (λ j. sym (hints room.file 3 e (omega arith)) j % groups_of (same j)))
          lies

  -- the hint that led to the blocks is set
  pub sets_hint : (image : Image) (w : ℕ) → file_selector w ≡ room.file → first_block w ≡ place.start → HasHintAmong room.file 3 (place.start / 4) mid image → SetsHint old (kind_number k) count from w image
  sets_hint image w of start is = record {
    i = 3;
    found = inr (none, refl);
    set = (λ j. hints_of (byte image (Block (of j))) 3) ∙ is.set ∙ ap (λ (s : ℕ). s / 4) (sym start);
    others = λ m i among small apart.
        is.others m i small (⊎_elim (λ (other : m ≢ file_selector w). inl (λ (e : m ≡ room.file). other (e ∙ sym of))) (λ other. inr other) apart) ∙ hints m i among small;
  }

  -- the blocks may be taken
  pub can_take : Agrees new mid → is_among (all_files new) room.file ≡ true → CanBeMarked mid room → CanBeMarked mid place
  can_take agrees among can =
      let blocks = agrees.blocks room.file among in
      let there = by.there in
      takeable_there mid room place count file fits.counted (let below = there in omega (arith, below, blocks)) fits.group by.least.place can

  pub extends_there : Extends old from room mid → CanBeMarked mid place → Extends old from place mid
  extends_there made can = record {
    takeable = can;
    keeps = made.keeps;
    marks = made.marks;
    fresh = λ e. subst (λ (n : ℕ). AreAllocations mid n []) (sym file) (made.fresh (ap (is_among (all_files old)) (sym file) ∙ e));
    hints = λ e. subst (HasNoHints mid) (sym file) (made.hints (ap (is_among (all_files old)) (sym file) ∙ e));
  }

  -- a new file has no hints but 0
  pub no_hints : (image : Image) (w : ℕ) → file_selector w ≡ room.file → HasHintAmong room.file 3 (place.start / 4) mid image → is_among (all_files old) (file_selector w) ≡ false → HasNoHints image (file_selector w)
  no_hints image w of is none_there =
      let new_file : is_among (all_files old) room.file ≡ false = ap (is_among (all_files old)) (sym of) ∙ none_there in
      let first = added_start new_file in
      let zeros = (fresh new_file).1.1 in
      subst (HasNoHints image) (sym of)
      (λ i small.
      ⊎_elim (λ (e : i ≡ 3). ap (hints_of (byte image (Block room.file))) e ∙ is.set ∙ ap (λ (s : ℕ). s / 4) first) (λ (differs : i ≢ 3). is.others room.file i small (inr differs) ∙ zeros i small) (cases_eq i 3))
