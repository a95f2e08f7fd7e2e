-- Maps and counters that are made anew: one file, and one file after another.
use Rattle.std.proofs.Common.{◌≡◌, ◌≢◌, ℕ, ◌+◌, ◌<◌, ◌≤◌, ◌⊎◌, inl, inr, List, [], ◌∷◌, Bool, true, false, ◌&&◌, ◌||◌, nat_le, nat_lt, Option, refl, sym, ◌∙◌, ap, ap₂, subst, arith, ⊎_elim, unwrap_or}
use Rattle.std.proofs.lemmas.Bool.{cases_eq}
use Rattle.std.proofs.lemmas.Bool.Decides.{nat_tests}
use Rattle.spec_image.specs.Bytes.{content}
use Rattle.spec_image.specs.Image.{Image, File, Index, Block, External, byte, length_of, same_file}
use Rattle.spec_image.specs.Footprint.{SameOutside, IsWithin, size_of}
use Rattle.spec_image.proofs.Footprints.{outside-refl, outside-trans, outside_wider, same_file_outside}
use Rattle.spec_format.specs.Headers.{allocations_of, empty_of, max_entries_of, updating_of}
use Rattle.spec_format.specs.BlockFiles.{is_among, max_entries_in}
use Rattle.spec_format.specs.Maps.{is_block_marked_at, groups_of, groups_with, EmptyAgrees}
use Rattle.blk_addr.specs.declared.claim_set.Claims.{Claims}
use Rattle.blk_alloc.specs.Changes.{map_of}
use Rattle.blk_alloc.specs.Rebuilding.{is_block_file, is_counted_place, is_updating_place, rebuilding_of, IsInHand, IsOldOrClaimed, IsRebuilding, IsRebuilt, KeepsBytes, RemakesInProgress}
use Rattle.blk_alloc.proofs.Mended.{each_begin, each_same}
use Rattle.blk_alloc.proofs.Sparing.{SparesFields, headers_stay, grown_spared}

-- One file.

-- a file with the bytes that it had is rebuilt as it was
pub rebuilt_bytes : (claims : Claims) (a b : Image) (n : ℕ) → ((i : ℕ) → byte b (Block n) i ≡ byte a (Block n) i) → IsRebuilt claims a n → IsRebuilt claims b n
unfolding EmptyAgrees max_entries_in
rebuilt_bytes claims a b n same rebuilt =
    let bytes : byte b (Block n) ≡ byte a (Block n) = λ j i. same i j in record {
      right = record {
        marks = λ k small. ap (λ (f : ℕ → ℕ). is_block_marked_at f k) bytes ∙ rebuilt.right.marks k small;
        allocations = ap allocations_of bytes ∙ rebuilt.right.allocations;
        empty = λ i small. ap (λ (f : ℕ → ℕ). empty_of f i) bytes ∙ rebuilt.right.empty i small ∙ sym (ap (λ (f : ℕ → ℕ). groups_with (is_block_marked_at f) (groups_of (max_entries_of f)) (i + 1)) bytes);
      };
      updating = ap updating_of bytes ∙ rebuilt.updating;
    }

-- a file that is as it was is rebuilt as it was
pub rebuilt_same : (claims : Claims) (a b : Image) (n : ℕ) → b (Block n) ≡ a (Block n) → IsRebuilt claims a n → IsRebuilt claims b n
rebuilt_same claims a b n same = rebuilt_bytes claims a b n (λ i. ap (λ (o : Option (List ℕ)). content (unwrap_or o []) i) same)

-- a file that is as it was is as far in its rebuild as it was
pub in_hand_same : (claims : Claims) (n : ℕ) (from a b : Image) → b (Block n) ≡ a (Block n) → IsInHand claims n from a → IsInHand claims n from b
in_hand_same claims n from a b same (inl keeps) = inl (λ i beside. ap (λ (o : Option (List ℕ)). content (unwrap_or o []) i) same ∙ keeps i beside)
in_hand_same claims n from a b same (inr (inl one)) = inr (inl (ap (λ (o : Option (List ℕ)). updating_of (content (unwrap_or o []))) same ∙ one))
in_hand_same claims n from a b same (inr (inr rebuilt)) = inr (inr (rebuilt_same claims a b n same rebuilt))

-- what was before may be earlier, where nothing but updating has changed since
pub in_hand_before : (claims : Claims) (n : ℕ) (from a b : Image) → KeepsBytes n from a → IsInHand claims n a b → IsInHand claims n from b
in_hand_before claims n from a b same (inl keeps) = inl (λ i beside. keeps i beside ∙ same i beside)
in_hand_before claims n from a b same (inr (inl one)) = inr (inl one)
in_hand_before claims n from a b same (inr (inr rebuilt)) = inr (inr rebuilt)

-- Some files.

and_parts : (a b : Bool) → (a && b) ≡ true → (a ≡ true) × (b ≡ true)
and_parts true b e = (refl, e)
and_parts false b e = absurd (clash e)
  where
    clash : false ≡ true → ⊥
    clash c = cc

-- the one file of a list of one
only_one : (n m : ℕ) → is_among (n ∷ []) m ≡ true → m ≡ n
only_one n m among = grind (arith, nat_tests)

pub is_only : (n : ℕ) → is_among (n ∷ []) n ≡ true
is_only n = grind (arith, nat_tests)

not_only : (n m : ℕ) → m ≢ n → is_among (n ∷ []) m ≡ false
not_only n m differs = grind (arith, nat_tests)

-- what is touched of a file is touched of some files that it is one of
module _ (numbers : List ℕ) (n : ℕ) (there : is_among numbers n ≡ true) where
  pub size_within : IsWithin (size_of (Block n)) (rebuilding_of numbers)
  unfolding is_block_file
  size_within = record { bytes = λ file i e. absurd (clash e); sizes = λ file e. in_file file e }
    where
      clash : false ≡ true → ⊥
      clash c = cc

      in_file : (file : File) → same_file (Block n) file ≡ true → is_block_file numbers file ≡ true
      in_file Index e = absurd (clash e)
      in_file (Block m) e = let same : n ≡ m = grind (arith, nat_tests) in ap (is_among numbers) (sym same) ∙ there
      in_file (External m) e = absurd (clash e)

  pub map_within : IsWithin (map_of n) (rebuilding_of numbers)
  unfolding is_block_file
  map_within = record { bytes = λ file i e. in_file file i e; sizes = λ file e. absurd (clash e) }
    where
      clash : false ≡ true → ⊥
      clash c = cc

      at_place : (i : ℕ) (t : Bool) → ((t && (nat_le 16 i && nat_lt i 20)) || ((t && (nat_le 24 i && nat_lt i 40)) || ((t && (nat_le 56 i && nat_lt i 60)) || (t && (nat_le 80 i && nat_lt i 8192))))) ≡ true
          → (t ≡ true) × ((is_counted_place i || is_updating_place i) ≡ true)
      at_place i true e = (refl, grind (arith, nat_tests))
      at_place i false e = absurd (clash e)

      in_file : (file : File) (i : ℕ) → (map_of n).bytes file i ≡ true → (rebuilding_of numbers).bytes file i ≡ true
      in_file Index i e = absurd (clash e)
      in_file (Block m) i e =
          let parts = at_place i (same_file (Block n) (Block m)) e in
          let equal : same_file (Block n) (Block m) ≡ true = parts.0 in
          let same : n ≡ m = grind (arith, nat_tests) in
          ap₂ (λ (x y : Bool). x && y) (ap (is_among numbers) (sym same) ∙ there) parts.1
      in_file (External m) i e = absurd (clash e)

  pub one_within : IsWithin (rebuilding_of (n ∷ [])) (rebuilding_of numbers)
  unfolding is_block_file
  one_within = record { bytes = λ file i e. in_bytes file i e; sizes = λ file e. in_file file e }
    where
      clash : false ≡ true → ⊥
      clash c = cc

      in_file : (file : File) → is_block_file (n ∷ []) file ≡ true → is_block_file numbers file ≡ true
      in_file Index e = absurd (clash e)
      in_file (Block m) e = ap (is_among numbers) (only_one n m e) ∙ there
      in_file (External m) e = absurd (clash e)

      in_bytes : (file : File) (i : ℕ) → (rebuilding_of (n ∷ [])).bytes file i ≡ true → (rebuilding_of numbers).bytes file i ≡ true
      in_bytes file i e = let parts = and_parts (is_block_file (n ∷ []) file) _ e in ap₂ (λ (x y : Bool). x && y) (in_file file parts.0) parts.1

-- headers stay, but for maps, counters and updating
pub rebuilding_spares : (numbers : List ℕ) → SparesFields (rebuilding_of numbers)
unfolding is_block_file
rebuilding_spares numbers = record {
  fields = λ m i field. beside (is_block_file numbers (Block m)) i (field_of i field);
  blocks = λ m i past. beside (is_block_file numbers (Block m)) i (past_of i past);
  index = λ i. refl;
  index_size = refl;
  externals = λ m i. refl;
  external_sizes = λ m. refl;
}
  where
    beside : (t : Bool) (i : ℕ) → (is_counted_place i || is_updating_place i) ≡ false
        → (t && (is_counted_place i || is_updating_place i)) ≡ false
    beside true i e = e
    beside false i e = refl

    field_of : (i : ℕ) → (i < 16) ⊎ ((20 ≤ i) × (i < 24)) → (is_counted_place i || is_updating_place i) ≡ false
    field_of i field = grind (arith, nat_tests)

    past_of : (i : ℕ) → 8192 ≤ i → (is_counted_place i || is_updating_place i) ≡ false
    past_of i past = grind (arith, nat_tests)

-- a file that is no one of some is as before
pub other_file_kept : (numbers : List ℕ) (m : ℕ) (a b : Image) → is_among numbers m ≡ false → SameOutside (rebuilding_of numbers) a b → b (Block m) ≡ a (Block m)
unfolding is_block_file
other_file_kept numbers m a b apart same = same_file_outside (rebuilding_of numbers) a b (Block m) same (λ i. ap (λ (t : Bool). t && (is_counted_place i || is_updating_place i)) apart) apart

-- what differs leaves the folder whole
rebuilding_is : (claims : Claims) (numbers : List ℕ) (from image : Image) → SameOutside (rebuilding_of numbers) from image → ((n : ℕ) → length_of from (Block n) ≤ length_of image (Block n)) → ((n : ℕ) → is_among numbers n ≡ true → IsInHand claims n from image) → ((n : ℕ) → is_among numbers n ≡ true → IsOldOrClaimed claims n from image) → ((n : ℕ) → is_among numbers n ≡ true → IsRebuilt claims from n → (i : ℕ) → byte image (Block n) i ≡ byte from (Block n) i) → IsRebuilding claims numbers from image
rebuilding_is claims numbers from image same longer each words right = record {
  same = same;
  longer = longer;
  each = each;
  words = words;
  right = right;
  stays = record { grown = grown_spared (rebuilding_of numbers) from image (rebuilding_spares numbers) same longer; headers = headers_stay (rebuilding_of numbers) from image (rebuilding_spares numbers) same longer };
}

-- nothing is done yet
pub rebuilding_begin : (claims : Claims) (numbers : List ℕ) (from : Image) → IsRebuilding claims numbers from from
rebuilding_begin claims numbers from = rebuilding_is claims numbers from from (outside-refl (rebuilding_of numbers) from) (λ n. omega arith) (λ n there. inl (λ i beside. refl)) (λ n there. each_begin claims n from) (λ n there rebuilt i. refl)

module _ (claims : Claims) (n : ℕ) (from mid : Image) (lengthened : SameOutside (size_of (Block n)) from mid) (longer : length_of from (Block n) ≤ length_of mid (Block n)) where
  all_longer : (m : ℕ) → length_of from (Block m) ≤ length_of mid (Block m)
  all_longer m =
      ⊎_elim (λ (e : m ≡ n). subst (λ (k : ℕ). length_of from (Block k) ≤ length_of mid (Block k)) (sym e) longer)
      (λ differs. let other : same_file (Block n) (Block m) ≡ false = grind (arith, nat_tests) in let e = lengthened.lengths (Block m) other in omega (arith, e)) (cases_eq m n)

  -- the file was lengthened
  pub lengthened_is : IsRebuilding claims (n ∷ []) from mid
  lengthened_is =
      rebuilding_is claims (n ∷ []) from mid (outside_wider (size_of (Block n)) (rebuilding_of (n ∷ [])) from mid (size_within (n ∷ []) n (is_only n)) lengthened) all_longer
      (λ m there. inl (λ i beside. lengthened.bytes (Block m) i refl)) (λ m there. each_same claims m from from from mid (λ i beside. refl) (λ i beside. lengthened.bytes (Block m) i refl) (each_begin claims m from)) (λ m there rebuilt i. lengthened.bytes (Block m) i refl)

  -- the file was lengthened, and its map and counters are under way
  pub remade_is : (image : Image) → RemakesInProgress claims n mid image → IsRebuilding claims (n ∷ []) from image
  remade_is image remade =
      rebuilding_is claims (n ∷ []) from image
      (outside-trans (rebuilding_of (n ∷ [])) from mid image lengthened_is.same (outside_wider (map_of n) (rebuilding_of (n ∷ [])) mid image (map_within (n ∷ []) n (is_only n)) remade.same))
      (λ m. let first = all_longer m in let then_ = remade.same.lengths (Block m) refl in omega (arith, first, then_))
      (λ m there.
      subst (λ (k : ℕ). IsInHand claims k from image) (sym (only_one n m there))
      (in_hand_before claims n from mid image (λ i beside. lengthened.bytes (Block n) i refl) remade.hand))
      (λ m there. subst (λ (k : ℕ). IsOldOrClaimed claims k from image) (sym (only_one n m there)) (each_same claims n mid from image image (λ i beside. sym (lengthened.bytes (Block n) i refl)) (λ i beside. refl) remade.each))
      (λ m there. subst (λ (k : ℕ). IsRebuilt claims from k → (i : ℕ) → byte image (Block k) i ≡ byte from (Block k) i) (sym (only_one n m there))
      (λ rebuilt i. remade.right (rebuilt_bytes claims from mid n (λ k. lengthened.bytes (Block n) k refl) rebuilt) i ∙ lengthened.bytes (Block n) i refl))

-- one file more
module _ (claims : Claims) (numbers : List ℕ) (n : ℕ) (there : is_among numbers n ≡ true) (from mid : Image) (before : IsRebuilding claims numbers from mid) (untouched : mid (Block n) ≡ from (Block n)) where
  pub one_more : (image : Image) → IsRebuilding claims (n ∷ []) mid image → IsRebuilding claims numbers from image
  one_more image more =
      rebuilding_is claims numbers from image
      (outside-trans (rebuilding_of numbers) from mid image before.same (outside_wider (rebuilding_of (n ∷ [])) (rebuilding_of numbers) mid image (one_within numbers n there) more.same))
      (λ m. let first = before.longer m in let second = more.longer m in omega (arith, first, second))
      (λ m among.
      ⊎_elim
      (λ (e : m ≡ n). subst (λ (k : ℕ). IsInHand claims k from image) (sym e) (in_hand_before claims n from mid image (λ i beside. ap (λ (o : Option (List ℕ)). content (unwrap_or o []) i) untouched) (more.each n (is_only n))))
      (λ (differs : m ≢ n). in_hand_same claims m from mid image (other_file_kept (n ∷ []) m mid image (not_only n m differs) more.same) (before.each m among)) (cases_eq m n))
      (λ m among.
      ⊎_elim
      (λ (e : m ≡ n). subst (λ (k : ℕ). IsOldOrClaimed claims k from image) (sym e) (each_same claims n mid from image image (λ i beside. sym (ap (λ (o : Option (List ℕ)). content (unwrap_or o []) i) untouched)) (λ i beside. refl) (more.words n (is_only n))))
      (λ (differs : m ≢ n). each_same claims m from from mid image (λ i beside. refl) (λ i beside. ap (λ (o : Option (List ℕ)). content (unwrap_or o []) i) (other_file_kept (n ∷ []) m mid image (not_only n m differs) more.same)) (before.words m among)) (cases_eq m n))
      (λ m among.
      ⊎_elim
      (λ (e : m ≡ n). subst (λ (k : ℕ). IsRebuilt claims from k → (i : ℕ) → byte image (Block k) i ≡ byte from (Block k) i) (sym e)
      (λ rebuilt i. more.right n (is_only n) (rebuilt_same claims from mid n untouched rebuilt) i ∙ ap (λ (o : Option (List ℕ)). content (unwrap_or o []) i) untouched))
      (λ (differs : m ≢ n) rebuilt i. ap (λ (o : Option (List ℕ)). content (unwrap_or o []) i) (other_file_kept (n ∷ []) m mid image (not_only n m differs) more.same) ∙ before.right m among rebuilt i) (cases_eq m n))

-- another file stays
pub others_kept : (claims : Claims) (n m : ℕ) (mid image : Image) → m ≢ n → IsRebuilding claims (n ∷ []) mid image → image (Block m) ≡ mid (Block m)
others_kept claims n m mid image differs more = other_file_kept (n ∷ []) m mid image (not_only n m differs) more.same
