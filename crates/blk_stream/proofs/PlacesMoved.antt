-- A stream has a new place in the place of its old one: maps and counters.
use Rattle.std.proofs.Common.{◌≡◌, ◌≢◌, inl, ⊎_elim, ℕ, ◌+◌, ◌<◌, ◌≤◌, Bool, true, false, ◌&&◌, ◌||◌, if◌then◌else◌, List, [], ◌∷◌, refl, sym, ◌∙◌, ap, subst, arith}
use Rattle.std.specs.Prelude.{◌==◌}
use Rattle.std.proofs.lemmas.Bool.{and_parts, cases_Bool, eqb-true}
use Rattle.std.proofs.lemmas.Bool.Decides.{nat_tests}
use Rattle.spec_image.specs.Image.{Image}
use Rattle.spec_format.specs.Address.{block_count, external, file_selector, first_block, kind_of}
use Rattle.spec_format.specs.BlockFiles.{is_among}
use Rattle.spec_format.specs.Claims.{is_in_file}
use Rattle.spec_format.specs.Maps.{AreAllocations, is_block_marked}
use Rattle.blk_addr.specs.Bits.{is_between}
use Rattle.blk_disk.specs.declared.tables.BlockFiles.{BlockFiles}
use Rattle.blk_disk.specs.Tables.{all_files, stands_among}
use Rattle.blk_disk.proofs.Ranges.{stands_linked}
use Rattle.blk_alloc.specs.Owning.{is_of}
use Rattle.blk_stream.specs.Changing.{NamesInProgress}
use Rattle.blk_stream.specs.Copying.{ShareNoData}
use Rattle.blk_stream.specs.Freeing.{is_block_of, left_by}
use Rattle.blk_stream.specs.Moving.{LeavesPlace}
use Rattle.blk_stream.specs.Placing.{GainsPlace, gained_by}
use Rattle.blk_stream.specs.Written.{MovesPlace, moved_by}
use Rattle.blk_stream.proofs.Drops.{no_block, none_left}
use Rattle.blk_stream.proofs.KeptMaps.{KeepsMaps, gains_still, spared_maps}
use Rattle.blk_stream.proofs.Naming.{words_spare}
use Rattle.blk_stream.proofs.PlacesFreed.{in_file_blocks, in_file_external, left_elsewhere}

clash : true ≡ false → ⊥
clash e = cc

not_external : (w : ℕ) → (kind_of w == external) ≡ false → kind_of w ≢ external
not_external w t e = clash (sym (let z : (kind_of w == external) ≡ true = grind (arith, nat_tests) in z) ∙ t)

-- a block of an address is between its first and its end, in its file
pub block_parts : (w n b : ℕ) → is_block_of w n b ≡ true → (kind_of w ≢ external) × ((file_selector w ≡ n) × ((first_block w ≤ b) × (b < first_block w + block_count w)))
unfolding is_block_of is_of
block_parts w n b of = by_test (kind_of w == external) refl of
  where
    by_test : (t : Bool) → (kind_of w == external) ≡ t → (if t then false else ((file_selector w == n) && is_between (first_block w) (first_block w + block_count w) b)) ≡ true → (kind_of w ≢ external) × ((file_selector w ≡ n) × ((first_block w ≤ b) × (b < first_block w + block_count w)))
    by_test true e h = absurd (clash (sym h))
    by_test false e h =
        let p = and_parts (file_selector w == n) (is_between (first_block w) (first_block w + block_count w) b) h in
        let between = p.1 in
        (not_external w e, (eqb-true (file_selector w) n p.0, (grind (arith, nat_tests), grind (arith, nat_tests))))

-- two addresses that share no data have no block in common
pub no_common_block : (u w n b : ℕ) → ShareNoData u w → is_block_of u n b ≡ true → is_block_of w n b ≡ true → ⊥
no_common_block u w n b apart of_u of_w =
    let p = block_parts u n b of_u in
    let q = block_parts w n b of_w in
    ⊎_elim
    (λ (low : first_block u + block_count u ≤ first_block w). let a = p.1.1.1 in let c = q.1.1.0 in omega (arith, low, a, c))
    (λ (up : first_block w + block_count w ≤ first_block u). let a = q.1.1.1 in let c = p.1.1.0 in omega (arith, up, a, c))
    (apart.blocks p.0 q.0 (p.1.0 ∙ sym q.1.0))

-- the marks, in either order
marks_by : (u w n b : ℕ) (was : Bool) → (is_block_of u n b ≡ true → is_block_of w n b ≡ true → ⊥) → (if is_block_of u n b then false else if is_block_of w n b then true else was) ≡ (if is_block_of w n b then true else if is_block_of u n b then false else was)
marks_by u w n b was apart = by_tests (is_block_of u n b) (is_block_of w n b) apart
  where
    by_tests : (s t : Bool) → (s ≡ true → t ≡ true → ⊥) → (if s then false else if t then true else was) ≡ (if t then true else if s then false else was)
    by_tests true true apart = absurd (apart refl refl)
    by_tests true false apart = refl
    by_tests false true apart = refl
    by_tests false false apart = refl

pub gained_among : (w v n : ℕ) (words : List ℕ) → is_among words v ≡ true → is_among (gained_by w n words) v ≡ true
unfolding gained_by
gained_among w v n words among = by_test (is_in_file n w)
  where
    by_test : (t : Bool) → is_among (if t then w ∷ words else words) v ≡ true
    by_test true = one (w == v) among
      where
        one : (s : Bool) → is_among words v ≡ true → (s || is_among words v) ≡ true
        one true h = refl
        one false h = h
    by_test false = among

moved_where : (old new n : ℕ) (words : List ℕ) → old ≢ new → moved_by old new n words ≡ left_by old n (gained_by new n words)
unfolding moved_by
moved_where old new n words differs = let t : (old == new) ≡ false = grind (arith, nat_tests) in rw t refl

module _ (files : BlockFiles) (old new : ℕ) (from filled : Image) (gains : GainsPlace files new from filled) (differs : old ≢ new) where
  -- the record has the new words, and the old place is freed
  module _ (entry i size : ℕ) (image : Image) (stands : kind_of old ≢ external → stands_among files old ≡ true) (apart : ShareNoData old new) (leaves : LeavesPlace entry i old size new filled image) where
    -- the old place isn't in a file that wasn't kept
    not_in_new : (n : ℕ) → is_among (all_files files) n ≡ false → is_in_file n old ≡ false
    not_in_new n none = ⊎_elim
        (λ (t : (kind_of old == external) ≡ true). in_file_external n old (eqb-true (kind_of old) external t))
        (λ (t : (kind_of old == external) ≡ false).
        let blocky = not_external old t in
        in_file_blocks n old blocky ∙ other (file_selector old == n) refl blocky)
        (cases_Bool (kind_of old == external))
      where
        other : (s : Bool) → (file_selector old == n) ≡ s → kind_of old ≢ external → s ≡ false
        other true e blocky = absurd (clash (sym (ap (is_among (all_files files)) (sym (eqb-true (file_selector old) n e)) ∙ stands_linked files old (stands blocky)) ∙ none))
        other false e blocky = refl

    pub left_moved : MovesPlace files old new from image
    left_moved = record {
      marks = λ n b among small.
          leaves.marks n b small ∙ ap (λ (t : Bool). if is_block_of old n b then false else t) (gains.marks n b among small)
          ∙ marks_by old new n b (is_block_marked from n b) (no_common_block old new n b apart);
      allocations = λ n words among are there.
          subst (AreAllocations image n) (sym (moved_where old new n words differs))
          (leaves.allocations n (gained_by new n words) (gains.allocations n words among are) (λ t. gained_among new old n words (there t)));
      fresh = λ n none t.
          subst (AreAllocations image n) (left_elsewhere old n (new ∷ []) (not_in_new n none))
          (leaves.allocations n (new ∷ []) (gains.fresh n none t) (λ in_it. absurd (clash (sym in_it ∙ not_in_new n none))));
      empty = λ n among few was. leaves.empty n (gains.most n (inl among)) (gains.empty n among was);
      gone = λ other some kind. leaves.gone kind;
    }

  -- there was no old place
  pub named_moved : (image : Image) → old ≡ 0 → KeepsMaps filled image → MovesPlace files old new from image
  named_moved image none kept =
      let now = gains_still files new from filled image kept gains in
      record {
        marks = λ n b among small. now.marks n b among small ∙ ap (λ (t : Bool). if is_block_of new n b then true else t) (sym (ap (λ (t : Bool). if t then false else is_block_marked from n b) (ap (λ (w : ℕ). is_block_of w n b) none ∙ no_block n b)));
        allocations = λ n words among are there.
            subst (AreAllocations image n) (sym (moved_where old new n words differs ∙ ap (λ (w : ℕ). left_by w n (gained_by new n words)) none ∙ none_left n (gained_by new n words))) (now.allocations n words among are);
        fresh = λ n out t. now.fresh n out t;
        empty = λ n among few was. now.empty n among was;
        gone = λ other some kind. absurd (some none);
      }

-- the words of a record keep the maps
pub naming_keeps_maps : (entry i : ℕ) (from image : Image) → NamesInProgress entry i from image → KeepsMaps from image
naming_keeps_maps entry i from image named = spared_maps _ from image (words_spare entry i) named.same
