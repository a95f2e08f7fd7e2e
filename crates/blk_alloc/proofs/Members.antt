-- The files of a kind that are kept, and those that are linked.
use Rattle.std.proofs.Common.{◌≡◌, ◌≢◌, ℕ, ◌+◌, ◌<◌, ◌≤◌, ◌⊎◌, inl, inr, List, [], ◌∷◌, ◌++◌, length, Bool, true, false, ◌||◌, None, Some, refl, sym, ◌∙◌, ap, subst, arith, take, drop, get_or}
use Rattle.std.specs.Prelude.{◌==◌, slice_get}
use Rattle.std.proofs.lemmas.Option.{get_or_from_slice_get, slice_get_cases}
use Rattle.std.proofs.lemmas.List.{drop_more, take-append-drop}
use Rattle.std.proofs.lemmas.List.Folds.{list_any_at}
use Rattle.std.proofs.lemmas.Bool.Decides.{nat_tests}
use Rattle.spec_image.specs.Image.{Image}
use Rattle.spec_format.specs.Address.{is_block_kind, external}
use Rattle.spec_format.specs.BlockFiles.{is_among}
use Rattle.blk_addr.specs.declared.kinds.Kind.{Kind}
use Rattle.blk_addr.specs.declared.kinds.Kind.TheVariants.{External, Rankings, B256, B1K, B4K}
use Rattle.blk_addr.specs.Kind.{kind_number}
use Rattle.blk_disk.specs.declared.tables.BlockFiles.{BlockFiles}
use Rattle.blk_disk.specs.Tables.{Agrees, files_of, all_files}
use Rattle.blk_disk.proofs.Joined.{among_kinds}
use Rattle.spec_format.proofs.LinkedHeads.{HasHead, linked_checked}

pub kind_blocky : (k : Kind) → kind_number k ≢ external → is_block_kind (kind_number k) ≡ true
kind_blocky External some = absurd (some refl)
kind_blocky Rankings some = refl
kind_blocky B256 some = refl
kind_blocky B1K some = refl
kind_blocky B4K some = refl

pub kind_small : (k : Kind) → kind_number k < 8
kind_small External = omega arith
kind_small Rankings = omega arith
kind_small B256 = omega arith
kind_small B1K = omega arith
kind_small B4K = omega arith

or_right : (a b : Bool) → b ≡ true → (a || b) ≡ true
or_right true b e = refl
or_right false b e = e

or_left : (a b : Bool) → a ≡ true → (a || b) ≡ true
or_left true b e = refl
or_left false b e = absurd (clash e)
  where
    clash : false ≡ true → ⊥
    clash c = cc

-- a file of a kind is one of all
pub member_all : (files : BlockFiles) (k : Kind) (n : ℕ) → kind_number k ≢ external → is_among (files_of files (kind_number k)) n ≡ true → is_among (all_files files) n ≡ true
member_all files External n some among = absurd (some refl)
member_all files Rankings n some among = among_kinds files n ∙ or_left _ (is_among (files_of files 4) n) (or_left _ (is_among (files_of files 3) n) (or_left (is_among (files_of files 1) n) (is_among (files_of files 2) n) among))
member_all files B256 n some among = among_kinds files n ∙ or_left _ (is_among (files_of files 4) n) (or_left _ (is_among (files_of files 3) n) (or_right (is_among (files_of files 1) n) (is_among (files_of files 2) n) among))
member_all files B1K n some among = among_kinds files n ∙ or_left _ (is_among (files_of files 4) n) (or_right (is_among (files_of files 1) n || is_among (files_of files 2) n) (is_among (files_of files 3) n) among)
member_all files B4K n some among = among_kinds files n ∙ or_right (is_among (files_of files 1) n || is_among (files_of files 2) n || is_among (files_of files 3) n) (is_among (files_of files 4) n) among

-- what its header has
pub member_head : (files : BlockFiles) (image : Image) (k : Kind) (n : ℕ) → kind_number k ≢ external → Agrees files image → is_among (files_of files (kind_number k)) n ≡ true → HasHead image n
member_head files image k n some agrees among =
    let block_kind = kind_blocky k some in
    linked_checked image (kind_number k) n agrees.undamaged block_kind (subst (λ (l : List ℕ). is_among l n ≡ true) (agrees.links (kind_number k) block_kind) among)

-- one that is given by its place
pub at_place : (xs : List ℕ) (i x : ℕ) → slice_get xs i ≡ Some x → (i < length xs) × ((d : ℕ) → get_or xs i d ≡ x)
at_place xs i x is = (inside (slice_get_cases xs i).1, λ d. get_or_from_slice_get xs i x d is)
  where
    clash : None ≡ Some x → ⊥
    clash e = cc

    inside : ((y : ℕ) × (i < length xs) × (slice_get xs i ≡ Some y) × (get_or xs i y ≡ y)) ⊎ ((length xs ≤ i) × (slice_get xs i ≡ None)) → i < length xs
    inside (inl there) = there.1
    inside (inr past) = absurd (clash (sym past.1 ∙ is))

pub member_at : (xs : List ℕ) (i x : ℕ) → slice_get xs i ≡ Some x → is_among xs x ≡ true
member_at xs i x is =
    let there = at_place xs i x is in
    list_any_at (λ m. m == x) xs i 0 there.0 (let e = there.1 0 in grind (arith, nat_tests))

pub split_at : (xs : List ℕ) (i x : ℕ) → slice_get xs i ≡ Some x → xs ≡ take i xs ++ x ∷ drop (i + 1) xs
split_at xs i x is =
    let there = at_place xs i x is in
    sym (take-append-drop i xs) ∙ ap (λ (l : List ℕ). take i xs ++ l) (drop_more xs i 0 there.0 ∙ ap (λ (y : ℕ). y ∷ drop (i + 1) xs) (there.1 0))

member_middle : (before : List ℕ) (x : ℕ) (behind : List ℕ) → is_among (before ++ x ∷ behind) x ≡ true
member_middle [] x behind = or_left (x == x) (is_among behind x) (grind (arith, nat_tests))
member_middle (b ∷ before) x behind = or_right (b == x) (is_among (before ++ x ∷ behind) x) (member_middle before x behind)

-- one between two parts of a list
pub member_split : (xs before : List ℕ) (x : ℕ) (behind : List ℕ) → xs ≡ before ++ x ∷ behind → is_among xs x ≡ true
member_split xs before x behind split = ap (λ (l : List ℕ). is_among l x) split ∙ member_middle before x behind
