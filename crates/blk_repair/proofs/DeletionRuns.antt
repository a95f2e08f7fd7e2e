-- Deletions, one after the other: what is deleted, what stays, and what is there in the end.
use Rattle.std.proofs.Common.{◌≡◌, ◌≢◌, ◌⊎◌, inl, inr, ⊎_elim, ℕ, zero, suc, ◌-◌, ◌<◌, ◌≤◌, ◌^◌, Bool, true, false, List, [], ◌∷◌, ◌++◌, length, Option, Some, None, is_some, refl, sym, ◌∙◌, ap, subst, arith}
use Rattle.std.specs.Prelude.{◌==◌, ◌&&◌, ◌||◌, not, nat_lt, if◌then◌else◌}
use Rattle.std.specs.Cmp.{both_ways}
use Rattle.std.specs.List.{AllByRecursion, filter, flat_map, list_any}
use Rattle.std.specs.Option.{ForSome, unwrap_or}
use Rattle.std.proofs.Math.Dec.{eqb}
use Rattle.std.proofs.lemmas.Bool.{and_parts, eq-eqb, or_left, false_from_ne_true, not_from_true, cases_lt, lt-ltb}
use Rattle.std.proofs.lemmas.Bool.Decides.{eqb_tells, nat_tests}
use Rattle.std.proofs.lemmas.List.{map-append}
use Rattle.std.proofs.lemmas.List.Elements.{filter-append}
use Rattle.spec_image.specs.Bytes.{content}
use Rattle.spec_image.specs.Checks.{first_of}
use Rattle.spec_image.specs.Footprint.{SameOutside, whole}
use Rattle.spec_image.specs.Image.{File, Index, Block, External, Image, has_file}
use Rattle.spec_image.specs.Order.{IsBefore, IsNextFile}
use Rattle.spec_image.specs.Steps.{TrailStep, Delete, after, applied}
use Rattle.spec_image.specs.Told.{Told, Applies}
use Rattle.spec_image.proofs.ByteSteps.{are_bytes-step}
use Rattle.spec_image.proofs.Footprints.{outside_step}
use Rattle.spec_image.proofs.Images.{with_file-other}
use Rattle.spec_image.proofs.Orders.{before_trans}
use Rattle.spec_image.proofs.Quiet.{any_end}
use Rattle.spec_image.proofs.Runs.{grows_none, grows_then, some_inj, told_whole}
use Rattle.spec_format.specs.Address.{external, external_number, external_word, file_selector, is_address, is_block_kind, kind_of, names_blocks, names_external}
use Rattle.spec_format.specs.BlockFiles.{files_along, is_among, kind_among, linked, linked_as, max_entries_in, next_file_in, stands_in, stands_in_blocks}
use Rattle.spec_format.specs.Claims.{Claim, BlockOf, ExternalOf, claims_of, claims_of_all, has_claim}
use Rattle.spec_format.specs.Headers.{max_entries_of}
use Rattle.spec_format.specs.Standing.{stands}
use Rattle.spec_format.proofs.LinkedHeads.{linked_head}
use Rattle.spec_format.proofs.Words.{external_number-external_word, kind_of-external_word}
use Rattle.spec_folder.specs.Found.{kept}
use Rattle.spec_folder.specs.Loads.{Loaded, claims_of_loaded}
use Rattle.spec_folder.specs.Sound.{OnlyClaimed, OnlyLinked, words_of}
use Rattle.blk_addr.specs.Claims.{IsClaimsOf, contains_claim, is_claimed}
use Rattle.blk_addr.specs.declared.claim_set.Claims.{Claims}
use Rattle.blk_addr.proofs.ClaimLemmas.{claims_of-external}
use Rattle.blk_disk.specs.declared.tables.BlockFiles.{BlockFiles}
use Rattle.blk_disk.specs.Open.{IsOpen}
use Rattle.blk_disk.specs.Tables.{Agrees, all_files, files_of}
use Rattle.blk_disk.proofs.Agreeing.{agrees_still}
use Rattle.blk_disk.proofs.Joined.{among_kinds}
use Rattle.blk_alloc.proofs.Rebuilt.{told_same}
use Rattle.blk_index.specs.Making.{Lists, deletions}
use Rattle.blk_index.proofs.Makings.{files_after, lists_more, next_same, other_file, up_to}
use Rattle.law_folder.proofs.claims.ByteChanges.{same-links}
use Rattle.law_folder.proofs.claims.ClaimLists.{claim-append, no-claim}
use Rattle.law_folder.proofs.claims.Files.{blocks-same, list-same, none-linked, other-file, unlinked-go}
use Rattle.law_recovery.specs.MendedChanges.{KeepsMendedLinks}
use Rattle.law_recovery.specs.RecordSeals.{StaysSealed}
use Rattle.law_recovery.proofs.MendedChanges.{links-on, unclaimed-change, unlinked-deleted}
use Rattle.law_recovery.proofs.MendedParts.{blocks-alike, external-leaves, words-claim, words-stand}
use Rattle.law_recovery.proofs.OwnClaims.{claim-file}
use Rattle.law_recovery.proofs.RecordSeals.{linked-of, same-sealed}
use Rattle.blk_repair.specs.Deletions.{DeletesAll, DeletesUpTo, IsMidDeletion, deletion_of, is_number_claimed, is_unclaimed, is_unlinked}
use Rattle.blk_repair.specs.Endings.{RepairBreaksOff}
use Rattle.blk_repair.specs.Maps.{IsNextRebuilt}
use Rattle.blk_repair.specs.Seals.{HasMendedLinksOf}
use Rattle.blk_repair.proofs.Endings.{breaks-none, breaks-step, breaks-then, breaks-weaker}
use Rattle.blk_repair.proofs.MapRuns.{same-kind}

clash : true ≡ false → ⊥
clash e = cc

-- ---- the linked files

some-of : (a b c d : Bool) → is_some {T = ℕ} (if a then Some 1 else if b then Some 2 else if c then Some 3 else if d then Some 4 else None) ≡ (a || b || c || d)
some-of true b c d = refl
some-of false true c d = refl
some-of false false true d = refl
some-of false false false true = refl
some-of false false false false = refl

-- a file is linked where it is kept as one
pub linked-among : (files : BlockFiles) (image : Image) (n : ℕ) → Agrees files image → is_some (linked_as image n) ≡ is_among (all_files files) n
unfolding kind_among
linked-among files image n agrees =
    ap is_some (sym (same-kind files image n agrees)) ∙ some-of (is_among (files_of files 1) n) (is_among (files_of files 2) n) (is_among (files_of files 3) n) (is_among (files_of files 4) n) ∙ sym (among_kinds files n)

none-of : (o : Option ℕ) → is_some o ≡ false → o ≡ None
none-of None e = refl
none-of (Some kind) e = cc

-- the first four files are linked
begins : (next : ℕ → ℕ) (left k : ℕ) → is_among (files_along next left k) k ≡ true
unfolding files_along
begins next zero k = or_left (k == k) false (eq-eqb k k refl)
begins next (suc left) k = or_left (k == k) _ (eq-eqb k k refl)

in-kind : (files : BlockFiles) (image : Image) (kind : ℕ) → Agrees files image → is_block_kind kind ≡ true → is_among (files_of files kind) (kind - 1) ≡ true
unfolding linked
in-kind files image kind agrees is = ap (λ (l : List ℕ). is_among l (kind - 1)) (agrees.links kind is) ∙ begins (next_file_in image) 59 (kind - 1)

any-of : (a b c d : Bool) → (a ≡ true) ⊎ ((b ≡ true) ⊎ ((c ≡ true) ⊎ (d ≡ true))) → (a || b || c || d) ≡ true
any-of true b c d h = refl
any-of false true c d h = refl
any-of false false true d h = refl
any-of false false false true h = refl
any-of false false false false h = absurd (⊎_elim (λ e. clash (sym e)) (λ h. ⊎_elim (λ e. clash (sym e)) (λ h. ⊎_elim (λ e. clash (sym e)) (λ e. clash (sym e)) h) h) h)

pub first-linked : (files : BlockFiles) (image : Image) (n : ℕ) → Agrees files image → n ≤ 3 → is_among (all_files files) n ≡ true
first-linked files image n agrees small = among_kinds files n ∙ any-of (is_among (files_of files 1) n) (is_among (files_of files 2) n) (is_among (files_of files 3) n) (is_among (files_of files 4) n) (one_of n small)
  where
    one_of : (n : ℕ) → n ≤ 3 → (is_among (files_of files 1) n ≡ true) ⊎ ((is_among (files_of files 2) n ≡ true) ⊎ ((is_among (files_of files 3) n ≡ true) ⊎ (is_among (files_of files 4) n ≡ true)))
    one_of zero small = inl (in-kind files image 1 agrees refl)
    one_of (suc zero) small = inr (inl (in-kind files image 2 agrees refl))
    one_of (suc (suc zero)) small = inr (inr (inl (in-kind files image 3 agrees refl)))
    one_of (suc (suc (suc zero))) small = inr (inr (inr (in-kind files image 4 agrees refl)))
    one_of (suc (suc (suc (suc n)))) small = absurd (omega (arith, small))

-- a linked file is there
there-of : (o : Option (List ℕ)) → 8192 ≤ length (unwrap_or o []) → is_some o ≡ true
there-of None long = absurd (omega (arith, long))
there-of (Some bytes) long = refl

linked-there : (files : BlockFiles) (image : Image) (n : ℕ) → Agrees files image → is_among (all_files files) n ≡ true → has_file image (Block n) ≡ true
linked-there files image n agrees among = there-of (image (Block n)) (linked_head image n agrees.undamaged (linked-among files image n agrees ∙ among)).header

-- where each block file that is there is kept as a linked one, only linked ones are there
only-linked_now : (files : BlockFiles) (image : Image) → IsOpen files image → ((n : ℕ) → has_file image (Block n) ≡ true → is_among (all_files files) n ≡ true) → OnlyLinked image
only-linked_now files image is all n small =
    both_ways (has_file image (Block n)) (is_some (linked_as image n)) (λ there. linked-among files image n is.agrees ∙ all n there) (λ linked. linked-there files image n is.agrees (sym (linked-among files image n is.agrees) ∙ linked))

-- ---- one file is deleted

-- the same files are linked, and each of them is as it was
pub record KeepsLinked (from image : Image) : Type 0 where
  pub links : (n : ℕ) → linked_as image n ≡ linked_as from n
  pub same : (n : ℕ) → is_some (linked_as from n) ≡ true → image (Block n) ≡ from (Block n)

keeps-trans : (a b c : Image) → KeepsLinked a b → KeepsLinked b c → KeepsLinked a c
keeps-trans a b c one other = record {
  links = λ n. other.links n ∙ one.links n;
  same = λ n is. other.same n (ap is_some (one.links n) ∙ is) ∙ one.same n is;
}

-- what had its checksum has it still
linked-seals : (from image : Image) → KeepsLinked from image → StaysSealed from image
linked-seals from image keeps w st begins was =
    same-sealed from image w (λ i low high. ap (λ (o : Option (List ℕ)). content (unwrap_or o []) i) (keeps.same _ (ap is_some (linked-of from w st begins)))) was

-- what holds at each deletion
pub record Holds (entry from image : Image) : Type 0 where
  pub holds : HasMendedLinksOf entry image
  pub kept_same : kept image ≡ kept from
  pub linked : KeepsLinked from image
  pub only_linked : OnlyLinked from → OnlyLinked image
  pub only_claimed : OnlyClaimed from (claims_of_loaded (kept from)) → OnlyClaimed image (claims_of_loaded (kept image))

holds-first : (entry from : Image) → HasMendedLinksOf entry from → Holds entry from from
holds-first entry from holds = record { holds = holds; kept_same = refl; linked = record { links = λ n. refl; same = λ n is. refl }; only_linked = λ was. was; only_claimed = λ was. was }

holds-said : (entry from image : Image) → Holds entry from image → IsMidDeletion entry from image
holds-said entry from image now = record {
  holds = now.holds;
  files = blocks-alike from image now.linked.links now.linked.same now.kept_same;
  seals = linked-seals from image now.linked;
  only_linked = now.only_linked;
  only_claimed = now.only_claimed;
}

-- a block file that isn't linked
module _ (now : Image) (n : ℕ) (free : linked_as now n ≡ None) where
  abbrev without : Image
  without = applied (Delete (Block n)) now

  block-linked : KeepsLinked now without
  block-linked = record {
    links = (unlinked-go now n free).linked;
    same = λ m is. ⊎_elim
        (λ (e : (eqb m n ≡ true) × (m ≡ n)). absurd (clash (sym is ∙ ap is_some (ap (linked_as now) e.1 ∙ free))))
        (λ (e : (eqb m n ≡ false) × _). other-file now n free m e.0)
        (eqb_tells m n);
  }

  gone-only : OnlyLinked now → OnlyLinked without
  gone-only only m small = ⊎_elim
      (λ (e : (eqb m n ≡ true) × (m ≡ n)). subst (λ (x : ℕ). has_file without (Block x) ≡ is_some (linked_as without x)) (sym e.1) (none ∙ sym (ap is_some ((unlinked-go now n free).linked n ∙ free))))
      (λ (e : (eqb m n ≡ false) × _). ap is_some (other-file now n free m e.0) ∙ only m small ∙ sym (ap is_some ((unlinked-go now n free).linked m)))
      (eqb_tells m n) where
        none : has_file without (Block n) ≡ false
        none = let same : (n == n) ≡ true = eq-eqb n n refl in rw same refl

  block-goes : (entry from : Image) → Holds entry from now → Holds entry from without
  block-goes entry from was =
      let keeps : KeepsMendedLinks now without = unlinked-deleted now n was.holds.keeps.mended free in
      record {
        holds = record {
          writable = record { bytes = are_bytes-step now (Delete (Block n)) tt was.holds.writable.bytes; has_header = was.holds.writable.has_header };
          keeps = links-on entry now without was.holds.keeps keeps;
        };
        kept_same = keeps.kept_same ∙ was.kept_same;
        linked = keeps-trans from now without was.linked block-linked;
        only_linked = λ only. gone-only (was.only_linked only);
        only_claimed = λ only m small. was.only_claimed only m small ∙ ap (λ (ks : List Loaded). has_claim (claims_of_loaded ks) (ExternalOf m)) (sym keeps.kept_same);
      }

-- an external file that what is kept doesn't use
module _ (now : Image) (n : ℕ) (unclaimed : has_claim (claims_of_loaded (kept now)) (ExternalOf n) ≡ false) where
  abbrev less : Image
  less = applied (Delete (External n)) now

  outside : SameOutside (whole (External n)) now less
  outside = outside_step (Delete (External n)) now

  external-linked : KeepsLinked now less
  unfolding next_file_in
  external-linked = record { links = same-links now less (λ m. refl); same = λ m is. refl }

  gone-claimed : kept less ≡ kept now → OnlyClaimed now (claims_of_loaded (kept now)) → OnlyClaimed less (claims_of_loaded (kept less))
  gone-claimed same only m small = ⊎_elim
      (λ (e : (eqb n m ≡ true) × (n ≡ m)). subst (λ (x : ℕ). has_file less (External x) ≡ has_claim (claims_of_loaded (kept less)) (ExternalOf x)) e.1 (none ∙ sym (as_was n ∙ unclaimed)))
      (λ (e : (eqb n m ≡ false) × _). ap is_some (with_file-other now (External n) (External m) None e.0) ∙ only m small ∙ sym (as_was m))
      (eqb_tells n m) where
        none : has_file less (External n) ≡ false
        none = let same : (n == n) ≡ true = eq-eqb n n refl in rw same refl

        as_was : (x : ℕ) → has_claim (claims_of_loaded (kept less)) (ExternalOf x) ≡ has_claim (claims_of_loaded (kept now)) (ExternalOf x)
        as_was x = ap (λ (ks : List Loaded). has_claim (claims_of_loaded ks) (ExternalOf x)) same

  external-goes : (entry from : Image) → Holds entry from now → Holds entry from less
  external-goes entry from was =
      let keeps : KeepsMendedLinks now less = unclaimed-change now less n was.holds.keeps.mended unclaimed outside in
      record {
        holds = record {
          writable = record { bytes = are_bytes-step now (Delete (External n)) tt was.holds.writable.bytes; has_header = was.holds.writable.has_header };
          keeps = links-on entry now less was.holds.keeps keeps;
        };
        kept_same = keeps.kept_same ∙ was.kept_same;
        linked = keeps-trans from now less was.linked external-linked;
        only_linked = λ only. (external-leaves now less n outside keeps).1 (was.only_linked only);
        only_claimed = λ only. gone-claimed keeps.kept_same (was.only_claimed only);
      }

-- ---- an open folder stays open

module _ (files : BlockFiles) (now : Image) (n : ℕ) (is : IsOpen files now) (away : is_among (all_files files) n ≡ false) where
  pub unlinked-free : linked_as now n ≡ None
  unlinked-free = none-of (linked_as now n) (linked-among files now n is.agrees ∙ away)

  kinds : (kind : ℕ) → is_block_kind kind ≡ true → (kind ≡ 1) ⊎ ((kind ≡ 2) ⊎ ((kind ≡ 3) ⊎ (kind ≡ 4)))
  kinds kind holds = grind (arith, nat_tests)

  lacks : (kind : ℕ) → is_block_kind kind ≡ true → is_among (linked now kind) n ≡ false
  lacks kind holds =
      let none = none-linked now n unlinked-free in
      ⊎_elim (λ (e : kind ≡ 1). at 1 e none.0) (λ more. ⊎_elim (λ (e : kind ≡ 2). at 2 e none.1) (λ more. ⊎_elim (λ (e : kind ≡ 3). at 3 e none.2) (λ (e : kind ≡ 4). at 4 e none.3) more) more) (kinds kind holds) where
        at : (k : ℕ) → kind ≡ k → is_among (linked now k) n ≡ false → is_among (linked now kind) n ≡ false
        at k e none = subst (λ (x : ℕ). is_among (linked now x) n ≡ false) (sym e) none

  stays : (m : ℕ) → is_among (all_files files) m ≡ true → applied (Delete (Block n)) now (Block m) ≡ now (Block m)
  stays m among = ⊎_elim
      (λ (e : (eqb m n ≡ true) × (m ≡ n)). absurd (clash (sym among ∙ ap (is_among (all_files files)) e.1 ∙ away)))
      (λ (e : (eqb m n ≡ false) × _). other-file now n unlinked-free m e.0)
      (eqb_tells m n)

  pub unlinked-open : IsOpen files (applied (Delete (Block n)) now)
  unfolding max_entries_in
  unlinked-open = record {
    agrees = record {
      links = λ kind holds. is.agrees.links kind holds ∙ sym (list-same now n unlinked-free kind (lacks kind holds));
      blocks = λ m among. is.agrees.blocks m among ∙ sym (ap (λ (o : Option (List ℕ)). max_entries_of (content (unwrap_or o []))) (stays m among));
      lengths = λ m among. is.agrees.lengths m among ∙ sym (ap (λ (o : Option (List ℕ)). length (unwrap_or o [])) (stays m among));
      undamaged = ap first_of (blocks-same now n unlinked-free) ∙ is.agrees.undamaged;
    };
    whole_index = is.whole_index;
  }

pub external-open : (files : BlockFiles) (now : Image) (n : ℕ) → IsOpen files now → IsOpen files (applied (Delete (External n)) now)
external-open files now n is = record {
  agrees = agrees_still (whole (External n)) now (applied (Delete (External n)) now) (record { bytes = λ m i small. refl }) (outside_step (Delete (External n)) now) files (λ m. refl) is.agrees;
  whole_index = is.whole_index;
}

-- ---- what was listed and deleted

past-one : (goes : File → Bool) (file f : File) (files : List File) (image : Image) → IsBefore file f → ((i : Image) → after (deletions (filter goes files)) i f ≡ i f) → (t : Bool) → after (deletions (if t then file ∷ filter goes files else filter goes files)) image f ≡ image f
past-one goes file f files image early rest true = rest (applied (Delete file) image) ∙ with_file-other image file f None (other_file file f early)
past-one goes file f files image early rest false = rest image

-- what is after the last file that was listed is as it was
past : (goes : File → Bool) (from : Image) (before : File) (files : List File) (last : File) → Lists from before files last → (image : Image) (f : File) → IsBefore last f → after (deletions (filter goes files)) image f ≡ image f
past goes from before [] last lists image f behind = refl
past goes from before (file ∷ files) last lists image f behind =
    let early : IsBefore file f = ⊎_elim (λ (same : file ≡ last). subst (λ (x : File). IsBefore x f) (sym same) behind) (λ (e : IsBefore file last). before_trans file last f e behind) (up_to from file files last lists.1) in
    past-one goes file f files image early (λ i. past goes from file files last lists.1 i f behind) (goes file)

one-deletion : (goes : File → Bool) (next : File) → deletions (filter goes (next ∷ [])) ≡ deletion_of goes next
one-deletion goes next = by_test (goes next)
  where
    by_test : (t : Bool) → deletions (if t then next ∷ [] else []) ≡ (if t then Delete next ∷ [] else [])
    by_test true = refl
    by_test false = refl

none-deleted : (goes : File → Bool) (first : File) (a : Told) → DeletesUpTo goes first first a a
none-deleted goes first a = record { files = []; listed = λ from there. refl; applies = grows_none refl }

-- the next file was listed, and deleted where it is to be
next-deleted : {a b c : Told} (goes : File → Bool) (first last next : File) → DeletesUpTo goes first last a b → ForSome b.files (λ image. IsNextFile image (Some last) (Some next)) → Applies b c (deletion_of goes next) → DeletesUpTo goes first next a c
next-deleted {a} {b} {c} goes first last next made is applies = record {
  files = made.files ++ next ∷ [];
  listed = λ from there.
      let lists = made.listed from there in
      lists_more from first made.files last next lists
      (next_same (after (deletions (filter goes made.files)) from) from last (Some next)
      (λ f behind. sym (ap is_some (past goes from first made.files last lists from f behind)))
      (is _ (files_after made.applies from there)));
  applies =
      subst (Applies a c)
      (sym (ap deletions (filter-append goes made.files (next ∷ [])) ∙ map-append Delete (filter goes made.files) (filter goes (next ∷ [])) ∙ ap (λ (l : List TrailStep). deletions (filter goes made.files) ++ l) (one-deletion goes next)))
      (grows_then made.applies applies);
}

-- no file after the last one is deleted
all-deleted : {a b : Told} (goes : File → Bool) (first last : File) → DeletesUpTo goes first last a b → ForSome b.files (λ image. (file : File) → IsBefore last file → has_file image file ≡ true → goes file ≡ false) → DeletesAll goes first a b
all-deleted {a} {b} goes first last made rest = record {
  last = last;
  up_to = made;
  rest = λ from there file behind has.
      rest _ (files_after made.applies from there) file behind (ap is_some (past goes from first made.files last (made.listed from there) from file behind) ∙ has);
}

-- one deletion, or none, passes what it leaves
breaks-one : {a b : Told} (goes : File → Bool) (file : File) (P : Image → Type 0) → ForSome a.files P → (goes file ≡ true → ForSome a.files (λ image. P (applied (Delete file) image))) → Applies a b (deletion_of goes file) → RepairBreaksOff a b P
breaks-one {a} {b} goes file P is leaves applies = by_test (goes file) refl applies
  where
    by_test : (t : Bool) → goes file ≡ t → Applies a b (if t then Delete file ∷ [] else []) → RepairBreaksOff a b P
    by_test true e made = breaks-step P refl made tt (λ image there. (is image there, leaves e image there))
    by_test false e made = breaks-none P (told_same a b made) is

-- where a file isn't to be deleted, nothing was done
unless-goes : {a b : Told} (goes : File → Bool) (file : File) → goes file ≡ false → Applies a b (deletion_of goes file) → b ≡ a
unless-goes {a} {b} goes file stays applies = told_same a b (subst (λ (t : Bool). Applies a b (if t then Delete file ∷ [] else [])) stays applies)

-- ---- block files

-- the unlinked block files up to one are deleted
pub record HasDeletedBlocks (files : BlockFiles) (last : ℕ) (a b : Told) : Type 0 where
  pub made : DeletesUpTo (is_unlinked files) (Block 3) (Block last) a b
  pub is_open : ForSome b.files (IsOpen files)
  pub linked : ForSome b.files (λ image. (n : ℕ) → n ≤ last → has_file image (Block n) ≡ true → is_among (all_files files) n ≡ true)
  pub passed : ForSome a.files (λ from. (entry : Image) → HasMendedLinksOf entry from → RepairBreaksOff a b (Holds entry from))
  pub clean : ForSome a.files (λ from. OnlyLinked from → b ≡ a)

pub blocks-begin : (files : BlockFiles) (a : Told) → ForSome a.files (IsOpen files) → HasDeletedBlocks files 3 a a
blocks-begin files a is = record {
  made = none-deleted (is_unlinked files) (Block 3) a;
  is_open = is;
  linked = λ image there n small has. first-linked files image n (is image there).agrees small;
  passed = λ from there entry holds. breaks-none (Holds entry from) refl (λ image here. subst (Holds entry from) (some_inj (sym there ∙ here)) (holds-first entry from holds));
  clean = λ from there only. refl;
}

-- a call without a step
pub blocks-stay : {files : BlockFiles} {last : ℕ} {a b c : Told} → HasDeletedBlocks files last a b → c ≡ b → HasDeletedBlocks files last a c
blocks-stay {files} {last} {a} {b} {c} has stays = subst (HasDeletedBlocks files last a) (sym stays) has

module _ (files : BlockFiles) (last n : ℕ) (a b c : Told) (has : HasDeletedBlocks files last a b) (small : n < 256) (next : ForSome b.files (λ image. IsNextFile image (Some (Block last)) (Some (Block n)))) (applies : Applies b c (deletion_of (is_unlinked files) (Block n))) where
  -- the block files before the next one
  before-next : (image : Image) → b.files ≡ Some image → (k : ℕ) → k < n → has_file image (Block k) ≡ true → is_among (all_files files) k ≡ true
  before-next image there k early is = ⊎_elim
      (λ (e : last < k). absurd (between ((next image there).least (Block k) (inr (refl, e)) is)))
      (λ (e : k ≤ last). has.linked image there k e is)
      (cases_lt last k) where
        between : (Block n ≡ Block k) ⊎ IsBefore (Block n) (Block k) → ⊥
        between up = ⊎_elim (λ (e : Block n ≡ Block k). let same : n ≡ k = cc in omega (arith, early, same)) (λ (e : IsBefore (Block n) (Block k)). ⊎_elim (λ r. omega (arith, r)) (λ r. let late = r.1 in omega (arith, early, late)) e) up

  gone-apart : (image : Image) → b.files ≡ Some image → is_among (all_files files) n ≡ false → (k : ℕ) → k ≤ n → has_file (applied (Delete (Block n)) image) (Block k) ≡ true → is_among (all_files files) k ≡ true
  gone-apart image there away k up is = ⊎_elim
      (λ (e : (eqb n k ≡ true) × (n ≡ k)). absurd (clash (sym is ∙ rw e.0 refl)))
      (λ (e : (eqb n k ≡ false) × (n ≢ k)). before-next image there k (below e.1) (sym (ap is_some (with_file-other image (Block n) (Block k) None e.0)) ∙ is))
      (eqb_tells n k) where
        below : n ≢ k → k < n
        below apart = grind arith

  kept-apart : (image : Image) → b.files ≡ Some image → is_among (all_files files) n ≡ true → (k : ℕ) → k ≤ n → has_file image (Block k) ≡ true → is_among (all_files files) k ≡ true
  kept-apart image there among k up is = ⊎_elim
      (λ (e : (eqb n k ≡ true) × (n ≡ k)). subst (λ (x : ℕ). is_among (all_files files) x ≡ true) e.1 among)
      (λ (e : (eqb n k ≡ false) × (n ≢ k)). before-next image there k (below e.1) is)
      (eqb_tells n k) where
        below : n ≢ k → k < n
        below apart = grind arith

  -- what is there after it
  next-open : (t : Bool) → is_among (all_files files) n ≡ t → Applies b c (if not t then Delete (Block n) ∷ [] else []) → ForSome c.files (IsOpen files) × ForSome c.files (λ image. (k : ℕ) → k ≤ n → has_file image (Block k) ≡ true → is_among (all_files files) k ≡ true)
  next-open true among made =
      let same : c ≡ b = told_same b c made in (
        λ image here. has.is_open image (ap (λ (t : Told). t.files) (sym same) ∙ here),
        λ image here. kept-apart image (ap (λ (t : Told). t.files) (sym same) ∙ here) among,
      )
  next-open false away made = (
    told_whole (IsOpen files) made (λ image there. unlinked-open files image n (has.is_open image there) away),
    told_whole (λ image. (k : ℕ) → k ≤ n → has_file image (Block k) ≡ true → is_among (all_files files) k ≡ true) made (λ image there. gone-apart image there away),
  )

  next-passes : (from : Image) → a.files ≡ Some from → (entry : Image) → HasMendedLinksOf entry from → RepairBreaksOff a c (Holds entry from)
  next-passes from there entry holds =
      let first = has.passed from there entry holds in
      breaks-then first (breaks-one (is_unlinked files) (Block n) (Holds entry from) (any_end first.passes)
      (λ goes image here. block-goes image n (unlinked-free files image n (has.is_open image here) (not-true_is goes)) entry from (any_end first.passes image here)) applies) where
        not-true_is : not (is_among (all_files files) n) ≡ true → is_among (all_files files) n ≡ false
        not-true_is e = false_from_ne_true (is_among (all_files files) n) (λ t. clash (sym e ∙ not_from_true (is_among (all_files files) n) t))

  next-clean : (from : Image) → a.files ≡ Some from → OnlyLinked from → c ≡ a
  next-clean from there only =
      let same : b ≡ a = has.clean from there only in
      let here : b.files ≡ Some from = ap (λ (t : Told). t.files) same ∙ there in
      let is : has_file from (Block n) ≡ true = (next from here).there (Block n) refl in
      let among : is_among (all_files files) n ≡ true = sym (linked-among files from n (has.is_open from here).agrees) ∙ sym (only n small) ∙ is in
      unless-goes (is_unlinked files) (Block n) (not_from_true (is_among (all_files files) n) among) applies ∙ same

  pub blocks-next : HasDeletedBlocks files n a c
  blocks-next =
      let after_it = next-open (is_among (all_files files) n) refl applies in
      record {
        made = next-deleted (is_unlinked files) (Block 3) (Block last) (Block n) has.made next applies;
        is_open = after_it.0;
        linked = after_it.1;
        passed = next-passes;
        clean = next-clean;
      }

pub blocks-said : {files : BlockFiles} {last : ℕ} {a b : Told} → HasDeletedBlocks files last a b → ForSome a.files (λ from. (entry : Image) → HasMendedLinksOf entry from → RepairBreaksOff a b (IsMidDeletion entry from))
blocks-said {files} {last} {a} {b} has from there entry holds = breaks-weaker (has.passed from there entry holds) (holds-said entry from)

-- none is after the last
module _ (files : BlockFiles) (last : ℕ) (a b : Told) (has : HasDeletedBlocks files last a b) (none : ForSome b.files (λ image. (n : ℕ) → last < n → has_file image (Block n) ≡ false)) where
  pub blocks-only : ForSome b.files OnlyLinked
  blocks-only image there = only-linked_now files image (has.is_open image there) (λ n is. ⊎_elim (λ (e : last < n). absurd (clash (sym is ∙ none image there n e))) (λ (e : n ≤ last). has.linked image there n e is) (cases_lt last n))

  rest-linked : (image : Image) → b.files ≡ Some image → (file : File) → IsBefore (Block last) file → has_file image file ≡ true → is_unlinked files file ≡ false
  rest-linked image there Index behind is = refl
  rest-linked image there (Block n) behind is = absurd (clash (sym is ∙ none image there n (later behind)))
    where
      later : IsBefore (Block last) (Block n) → last < n
      later e = ⊎_elim (λ r. absurd (omega (arith, r))) (λ r. r.1) e
  rest-linked image there (External n) behind is = refl

  pub blocks-all : DeletesAll (is_unlinked files) (Block 3) a b
  blocks-all = all-deleted (is_unlinked files) (Block 3) (Block last) has.made rest-linked

-- ---- external files

-- an external number that a word uses is one that addresses have, and its file is there where the word is valid
pub record IsThereFor (image : Image) (number : ℕ) : Type 0 where
  pub there : has_file image (External number) ≡ true
  pub some : 0 < number
  pub small : number < 2 ^ 28

number-of : (w : ℕ) → is_address w ≡ true → kind_of w ≡ external → (0 < external_number w) × (external_number w < 2 ^ 28)
unfolding is_address names_external names_blocks external_number
number-of w address kind = grind (arith, nat_tests)

word-named : (image : Image) (w number : ℕ) → stands_in image w ≡ true → has_claim (claims_of w) (ExternalOf number) ≡ true → IsThereFor image number
unfolding stands
word-named image w number stands_w claimed = ⊎_elim (λ k. of_number k.0 (number-one (k.1))) (λ k. absurd (no-number k.1.1)) (claim-file w (ExternalOf number) claimed) where
  number-one : ExternalOf number ≡ ExternalOf (external_number w) → number ≡ external_number w
  number-one e = cc

  no-number : {b : ℕ} → ExternalOf number ≡ BlockOf (file_selector w) b → ⊥
  no-number e = cc

  of_number : kind_of w ≡ external → number ≡ external_number w → IsThereFor image number
  of_number kind e =
      let parts = and_parts (is_address w) (if kind_of w == external then has_file image (External (external_number w)) else stands_in_blocks image w) stands_w in
      let range = number-of w parts.0 kind in
      let low = range.0 in
      let high = range.1 in
      let test : (kind_of w == external) ≡ true = eq-eqb (kind_of w) external kind in
      record {
        there = subst (λ (x : ℕ). has_file image (External x) ≡ true) (sym e) (rw test at parts.1);
        some = omega (arith, e, low);
        small = omega (arith, e, high);
      }

words-named : (image : Image) (words : List ℕ) (number : ℕ) → AllByRecursion (λ w. stands_in image w ≡ true) words → has_claim (claims_of_all words) (ExternalOf number) ≡ true → IsThereFor image number
words-named image [] number all claimed = absurd (clash (sym claimed ∙ no-claim (ExternalOf number)))
words-named image (w ∷ words) number all claimed = go (has_claim (claims_of w) (ExternalOf number)) refl (words-named image words number all.1) (sym (claim-append (claims_of w) (claims_of_all words) (ExternalOf number)) ∙ claimed) where
  go : (t : Bool) → has_claim (claims_of w) (ExternalOf number) ≡ t → (has_claim (claims_of_all words) (ExternalOf number) ≡ true → IsThereFor image number) → (t || has_claim (claims_of_all words) (ExternalOf number)) ≡ true → IsThereFor image number
  go true here later e = word-named image w number all.0 here
  go false here later e = later e

-- what is kept uses only external files that are there
kept-named : (image : Image) (number : ℕ) → has_claim (claims_of_loaded (kept image)) (ExternalOf number) ≡ true → IsThereFor image number
kept-named image number claimed = words-named image (flat_map words_of (kept image)) number (words-stand image) (ap (λ (cs : List Claim). has_claim cs (ExternalOf number)) (words-claim image) ∙ claimed)

-- the used blocks are those of what is kept
module _ (entry image : Image) (claims : Claims) (claimed : IsClaimsOf claims (flat_map words_of (kept entry))) (same : kept image ≡ kept entry) where
  has-same : (number : ℕ) → contains_claim claims (ExternalOf number) ≡ has_claim (claims_of_loaded (kept image)) (ExternalOf number)
  has-same number =
      claimed.claims (ExternalOf number) ∙ ap (λ (ks : List Loaded). has_claim (claims_of_all (flat_map words_of ks)) (ExternalOf number)) (sym same)
      ∙ ap (λ (cs : List Claim). has_claim cs (ExternalOf number)) (words-claim image)

  number-is : (number : ℕ) → is_number_claimed claims number ≡ has_claim (claims_of_loaded (kept image)) (ExternalOf number)
  number-is number = go (has_claim (claims_of_loaded (kept image)) (ExternalOf number)) refl where
    go : (t : Bool) → has_claim (claims_of_loaded (kept image)) (ExternalOf number) ≡ t → is_number_claimed claims number ≡ t
    go true e =
        let is = kept-named image number e in
        let some = is.some in
        let small = is.small in
        let low : nat_lt 0 number ≡ true = grind (arith, nat_tests) in
        let high : nat_lt number (2 ^ 28) ≡ true = grind (arith, nat_tests) in
        let has : contains_claim claims (ExternalOf number) ≡ true = has-same number ∙ e in
        rw (low, high, has) refl
    go false e =
        let has : contains_claim claims (ExternalOf number) ≡ false = has-same number ∙ e in
        rw has (none (nat_lt 0 number) (nat_lt number (2 ^ 28))) where
          none : (s t : Bool) → (s && (t && false)) ≡ false
          none true true = refl
          none true false = refl
          none false t = refl

word-some : (number : ℕ) → external_word number ≢ 0
unfolding external_word
word-some number e = omega (arith, e)

-- whether the address of an external number is used
pub external-is_claimed : (claims : Claims) (number : ℕ) → 0 < number → number < 2 ^ 28 → is_claimed claims (external_word number) ≡ is_number_claimed claims number
unfolding is_claimed
external-is_claimed claims number some small =
    ap (list_any (contains_claim claims)) (claims_of-external (external_word number) (word-some number) (kind_of-external_word number small) ∙ ap (λ (n : ℕ). ExternalOf n ∷ []) (external_number-external_word number small))
    ∙ lone (contains_claim claims (ExternalOf number)) ∙ sym (tests (contains_claim claims (ExternalOf number)) (lt-ltb 0 number some) (lt-ltb number (2 ^ 28) small)) where
      lone : (t : Bool) → (t || false) ≡ t
      lone true = refl
      lone false = refl

      tests : (t : Bool) → nat_lt 0 number ≡ true → nat_lt number (2 ^ 28) ≡ true → (nat_lt 0 number && (nat_lt number (2 ^ 28) && t)) ≡ t
      tests t low high = rw (low, high) refl

-- a block file after another has a larger number
pub block-later : (last n : ℕ) → IsBefore (Block last) (Block n) → last < n
block-later last n behind = ⊎_elim (λ r. absurd (omega (arith, r))) (λ r. r.1) behind

-- the unclaimed external files up to one are deleted
pub record HasDeletedExternals (claims : Claims) (last : File) (a b : Told) : Type 0 where
  pub made : DeletesUpTo (is_unclaimed claims) (Block 255) last a b
  pub is_open : (files : BlockFiles) → ForSome a.files (IsOpen files) → ForSome b.files (IsOpen files)
  pub claimed : ForSome b.files (λ image. (number : ℕ) → (IsBefore last (External number) → ⊥) → has_file image (External number) ≡ true → is_number_claimed claims number ≡ true)
  pub passed : ForSome a.files (λ from. (entry : Image) → IsNextRebuilt entry claims from → RepairBreaksOff a b (Holds entry from))
  pub clean : ForSome a.files (λ from. (entry : Image) → IsNextRebuilt entry claims from → OnlyClaimed from (claims_of_loaded (kept from)) → b ≡ a)

pub externals-begin : (claims : Claims) (a : Told) → HasDeletedExternals claims (Block 255) a a
externals-begin claims a = record {
  made = none-deleted (is_unclaimed claims) (Block 255) a;
  is_open = λ files is. is;
  claimed = λ image there number late has. absurd (late (inl (omega arith)));
  passed = λ from there entry next. breaks-none (Holds entry from) refl (λ image here. subst (Holds entry from) (some_inj (sym there ∙ here)) (holds-first entry from next.holds));
  clean = λ from there entry next only. refl;
}

pub externals-stay : {claims : Claims} {last : File} {a b c : Told} → HasDeletedExternals claims last a b → c ≡ b → HasDeletedExternals claims last a c
externals-stay {claims} {last} {a} {b} {c} has stays = subst (HasDeletedExternals claims last a) (sym stays) has

module _ (claims : Claims) (last : File) (number : ℕ) (a b c : Told) (has : HasDeletedExternals claims last a b) (small : number < 2 ^ 32) (next : ForSome b.files (λ image. IsNextFile image (Some last) (Some (External number))))
    (applies : Applies b c (deletion_of (is_unclaimed claims) (External number))) where
  -- the external files before the next one
  before-external : (image : Image) → b.files ≡ Some image → (k : ℕ) → k < number → has_file image (External k) ≡ true → is_number_claimed claims k ≡ true
  before-external image there k early is = has.claimed image there k late is where
    between : (External number ≡ External k) ⊎ IsBefore (External number) (External k) → ⊥
    between up = ⊎_elim (λ (e : External number ≡ External k). let same : number ≡ k = cc in omega (arith, early, same)) (λ (e : IsBefore (External number) (External k)). ⊎_elim (λ r. omega (arith, r)) (λ r. let past = r.1 in omega (arith, early, past)) e) up

    late : IsBefore last (External k) → ⊥
    late behind = between ((next image there).least (External k) behind is)

  up-to : (k : ℕ) → (IsBefore (External number) (External k) → ⊥) → number ≢ k → k < number
  up-to k late apart = ⊎_elim (λ (e : number < k). absurd (late (inr (refl, e)))) (λ (e : k ≤ number). grind arith) (cases_lt number k)

  gone-number : (image : Image) → b.files ≡ Some image → (k : ℕ) → (IsBefore (External number) (External k) → ⊥) → has_file (applied (Delete (External number)) image) (External k) ≡ true → is_number_claimed claims k ≡ true
  gone-number image there k late is = ⊎_elim
      (λ (e : (eqb number k ≡ true) × (number ≡ k)). absurd (clash (sym is ∙ rw e.0 refl)))
      (λ (e : (eqb number k ≡ false) × (number ≢ k)). before-external image there k (up-to k late e.1) (sym (ap is_some (with_file-other image (External number) (External k) None e.0)) ∙ is))
      (eqb_tells number k)

  kept-number : (image : Image) → b.files ≡ Some image → is_number_claimed claims number ≡ true → (k : ℕ) → (IsBefore (External number) (External k) → ⊥) → has_file image (External k) ≡ true → is_number_claimed claims k ≡ true
  kept-number image there claimed k late is = ⊎_elim
      (λ (e : (eqb number k ≡ true) × (number ≡ k)). subst (λ (x : ℕ). is_number_claimed claims x ≡ true) e.1 claimed)
      (λ (e : (eqb number k ≡ false) × (number ≢ k)). before-external image there k (up-to k late e.1) is)
      (eqb_tells number k)

  next-claimed : (t : Bool) → is_number_claimed claims number ≡ t → Applies b c (if not t then Delete (External number) ∷ [] else []) → ForSome c.files (λ image. (k : ℕ) → (IsBefore (External number) (External k) → ⊥) → has_file image (External k) ≡ true → is_number_claimed claims k ≡ true)
  next-claimed true claimed made = λ image here. kept-number image (ap (λ (t : Told). t.files) (sym (told_same b c made)) ∙ here) claimed
  next-claimed false away made = told_whole (λ image. (k : ℕ) → (IsBefore (External number) (External k) → ⊥) → has_file image (External k) ≡ true → is_number_claimed claims k ≡ true) made gone-number

  next-still_open : (files : BlockFiles) → ForSome b.files (IsOpen files) → (t : Bool) → Applies b c (if t then Delete (External number) ∷ [] else []) → ForSome c.files (IsOpen files)
  next-still_open files is true made = told_whole (IsOpen files) made (λ image there. external-open files image number (is image there))
  next-still_open files is false made = subst (λ (t : Told). ForSome t.files (IsOpen files)) (sym (told_same b c made)) is

  next-kept : (from : Image) → a.files ≡ Some from → (entry : Image) → IsNextRebuilt entry claims from → RepairBreaksOff a c (Holds entry from)
  next-kept from there entry rebuilt =
      let first = has.passed from there entry rebuilt in
      breaks-then first (breaks-one (is_unclaimed claims) (External number) (Holds entry from) (any_end first.passes)
      (λ goes image here. let now = any_end first.passes image here in external-goes image number (sym (number-is entry image claims rebuilt.claimed now.holds.keeps.kept_same number) ∙ not-true_is goes) entry from now) applies) where
        not-true_is : not (is_number_claimed claims number) ≡ true → is_number_claimed claims number ≡ false
        not-true_is e = false_from_ne_true (is_number_claimed claims number) (λ t. clash (sym e ∙ not_from_true (is_number_claimed claims number) t))

  next-all_claimed : (from : Image) → a.files ≡ Some from → (entry : Image) → IsNextRebuilt entry claims from → OnlyClaimed from (claims_of_loaded (kept from)) → c ≡ a
  next-all_claimed from there entry rebuilt only =
      let same : b ≡ a = has.clean from there entry rebuilt only in
      let here : b.files ≡ Some from = ap (λ (t : Told). t.files) same ∙ there in
      let is : has_file from (External number) ≡ true = (next from here).there (External number) refl in
      let claimed : is_number_claimed claims number ≡ true = number-is entry from claims rebuilt.claimed rebuilt.holds.keeps.kept_same number ∙ sym (only number small) ∙ is in
      unless-goes (is_unclaimed claims) (External number) (not_from_true (is_number_claimed claims number) claimed) applies ∙ same

  pub externals-next : HasDeletedExternals claims (External number) a c
  externals-next = record {
    made = next-deleted (is_unclaimed claims) (Block 255) last (External number) has.made next applies;
    is_open = λ files is. next-still_open files (has.is_open files is) (is_unclaimed claims (External number)) applies;
    claimed = next-claimed (is_number_claimed claims number) refl applies;
    passed = next-kept;
    clean = next-all_claimed;
  }

pub externals-said : {claims : Claims} {last : File} {a b : Told} → HasDeletedExternals claims last a b → ForSome a.files (λ from. (entry : Image) → IsNextRebuilt entry claims from → RepairBreaksOff a b (IsMidDeletion entry from))
externals-said {claims} {last} {a} {b} has from there entry next = breaks-weaker (has.passed from there entry next) (holds-said entry from)

-- none is after the last
module _ (claims : Claims) (last : File) (a b : Told) (has : HasDeletedExternals claims last a b) (none : ForSome b.files (λ image. (number : ℕ) → IsBefore last (External number) → has_file image (External number) ≡ false)) where
  all-claimed : (image : Image) → b.files ≡ Some image → (number : ℕ) → has_file image (External number) ≡ true → is_number_claimed claims number ≡ true
  all-claimed image there number is = has.claimed image there number (λ behind. clash (sym is ∙ none image there number behind)) is

  pub externals-only : ForSome a.files (λ from. (entry : Image) → IsNextRebuilt entry claims from → ForSome b.files (λ image. OnlyClaimed image (claims_of_loaded (kept image))))
  externals-only from there entry next image here number small =
      let now = any_end (has.passed from there entry next).passes image here in
      let same = number-is entry image claims next.claimed now.holds.keeps.kept_same number in
      both_ways (has_file image (External number)) (has_claim (claims_of_loaded (kept image)) (ExternalOf number)) (λ is. sym same ∙ all-claimed image here number is) (λ is. (kept-named image number is).there)

  rest-claimed : (image : Image) → b.files ≡ Some image → (file : File) → IsBefore last file → has_file image file ≡ true → is_unclaimed claims file ≡ false
  rest-claimed image there Index behind is = refl
  rest-claimed image there (Block n) behind is = refl
  rest-claimed image there (External number) behind is = absurd (clash (sym is ∙ none image there number behind))

  pub externals-all : DeletesAll (is_unclaimed claims) (Block 255) a b
  externals-all = all-deleted (is_unclaimed claims) (Block 255) last has.made rest-claimed
