-- A file that is loaded is none of those before.
use Rattle.std.proofs.Common.{◌≡◌, ◌≢◌, ◌⊎◌, inl, inr, ⊎_elim, ℕ, ◌-◌, ◌<◌, ◌≤◌, Bool, true, false, ◌||◌, if◌then◌else◌, List, [], ◌∷◌, ◌++◌, Option, None, Some, refl, sym, ◌∙◌, ap, arith}
use Rattle.std.specs.Prelude.{◌==◌}
use Rattle.std.proofs.lemmas.Bool.{or_cases}
use Rattle.std.proofs.lemmas.Bool.Decides.{nat_tests}
use Rattle.blk_addr.specs.declared.kinds.Kind.{Kind}
use Rattle.blk_addr.specs.declared.kinds.Kind.TheVariants.{External, Rankings, B256, B1K, B4K}
use Rattle.blk_addr.specs.Kind.{kind_number}
use Rattle.spec_format.specs.BlockFiles.{is_among, is_link}
use Rattle.spec_format.proofs.Among.{is_among_more}
use Rattle.blk_disk.specs.declared.tables.BlockFiles.{BlockFiles}
use Rattle.blk_disk.specs.Loading.{AreNumbered, IsFileNumber, IsFresh, TakesUp, next_of}
use Rattle.blk_disk.specs.Tables.{Joins, all_files, files_of}
use Rattle.blk_disk.proofs.Chains.{fails, link_far}
use Rattle.blk_disk.proofs.Joined.{among_kinds}

-- a link is none of the files met
pub link_fresh : (met : List ℕ) (left next : ℕ) → is_link met left next ≡ true → IsFresh met (next_of next)
link_fresh met left next holds = by_test (next == 0) refl
  where
    by_test : (t : Bool) → (next == 0) ≡ t → IsFresh met (if t then None else Some next)
    by_test true e = tt
    by_test false e = (link_far met left next holds e).1

later : (p q x : Bool) → ((p || x) || q) ≡ ((p || q) || x)
later true q x = refl
later false true true = refl
later false true false = refl
later false false true = refl
later false false false = refl

inner : (p q x : Bool) → (p || (q || x)) ≡ ((p || q) || x)
inner true q x = refl
inner false q x = refl

by_third : (p r s x : Bool) → ((p || (r || x)) || s) ≡ (((p || r) || s) || x)
by_third p r s x = ap (λ (t : Bool). t || s) (inner p r x) ∙ later (p || r) s x

by_second : (p q r s x : Bool) → (((p || (q || x)) || r) || s) ≡ ((((p || q) || r) || s) || x)
by_second p q r s x = ap (λ (t : Bool). (t || r) || s) (inner p q x) ∙ ap (λ (t : Bool). t || s) (later (p || q) r x) ∙ later (p || q || r) s x

by_first : (p q r s x : Bool) → ((((p || x) || q) || r) || s) ≡ ((((p || q) || r) || s) || x)
by_first p q r s x = ap (λ (t : Bool). (t || r) || s) (later p q x) ∙ ap (λ (t : Bool). t || s) (later (p || q) r x) ∙ later (p || q || r) s x

-- the last file of a kind is one more of all
members : (k : Kind) (old new : BlockFiles) (n blocks size m : ℕ) → kind_number k ≢ 0 → Joins old new (kind_number k) n blocks size
    → (is_among (files_of new 1) m || is_among (files_of new 2) m || is_among (files_of new 3) m || is_among (files_of new 4) m)
    ≡ ((is_among (files_of old 1) m || is_among (files_of old 2) m || is_among (files_of old 3) m || is_among (files_of old 4) m) || (n == m))
members External old new n blocks size m block_kind joins = absurd (block_kind refl)
members Rankings old new n blocks size m block_kind joins =
    rw (joins.last, joins.others 2 (omega arith), joins.others 3 (omega arith), joins.others 4 (omega arith), is_among_more (files_of old 1) n m)
    (by_first (is_among (files_of old 1) m) (is_among (files_of old 2) m) (is_among (files_of old 3) m) (is_among (files_of old 4) m) (n == m))
members B256 old new n blocks size m block_kind joins =
    rw (joins.last, joins.others 1 (omega arith), joins.others 3 (omega arith), joins.others 4 (omega arith), is_among_more (files_of old 2) n m)
    (by_second (is_among (files_of old 1) m) (is_among (files_of old 2) m) (is_among (files_of old 3) m) (is_among (files_of old 4) m) (n == m))
members B1K old new n blocks size m block_kind joins =
    rw (joins.last, joins.others 1 (omega arith), joins.others 2 (omega arith), joins.others 4 (omega arith), is_among_more (files_of old 3) n m)
    (by_third (is_among (files_of old 1) m || is_among (files_of old 2) m) (is_among (files_of old 3) m) (is_among (files_of old 4) m) (n == m))
members B4K old new n blocks size m block_kind joins =
    rw (joins.last, joins.others 1 (omega arith), joins.others 2 (omega arith), joins.others 3 (omega arith), is_among_more (files_of old 4) n m)
    (inner (is_among (files_of old 1) m || is_among (files_of old 2) m || is_among (files_of old 3) m) (is_among (files_of old 4) m) (n == m))

pub joined_more : (k : Kind) (old new : BlockFiles) (n blocks size : ℕ) → kind_number k ≢ 0 → Joins old new (kind_number k) n blocks size → TakesUp old new n
joined_more k old new n blocks size block_kind joins m = among_kinds new m ∙ members k old new n blocks size m block_kind joins ∙ ap (λ (t : Bool). t || (n == m)) (sym (among_kinds old m))

-- the next file isn't loaded yet
pub fresh_still : (old new : BlockFiles) (n : ℕ) (next : Option ℕ) → TakesUp old new n → IsFresh (all_files old ++ n ∷ []) next → IsFresh (all_files new) next
fresh_still old new n None takes fresh = tt
fresh_still old new n (Some m) takes fresh = takes m ∙ sym (is_among_more (all_files old) n m) ∙ fresh

-- The numbers of the files.

pub numbers_none : (files : List ℕ) (kind : ℕ) → files ≡ [] → AreNumbered files kind
numbers_none files kind none n among = absurd (let z : false ≡ true = sym (ap (λ (l : List ℕ). is_among l n) none) ∙ among in cc)

-- those up to the kind before are those up to this one
pub numbers_before : (files : List ℕ) (kind : ℕ) → AreNumbered files (kind - 1) → AreNumbered files kind
numbers_before files kind numbers n among = ⊎_elim (λ less. inl (omega (arith, less))) (λ link. inr link) (numbers n among)

-- one more has its number
pub numbers_more : (old new : BlockFiles) (k : Kind) (n : ℕ) → kind_number k ≢ 0 → TakesUp old new n → IsFileNumber (kind_number k) n → AreNumbered (all_files old) (kind_number k) → AreNumbered (all_files new) (kind_number k)
numbers_more old new k n block_kind takes number numbers m among = ⊎_elim (λ was. numbers m was) here (or_cases (is_among (all_files old) m) (n == m) (sym (takes m) ∙ among))
  where
    here : (n == m) ≡ true → (m < kind_number k) ⊎ (4 ≤ m)
    here e =
        let is : n ≡ m = grind (arith, nat_tests) in
        ⊎_elim (λ (first : n ≡ kind_number k - 1). inl (omega (arith, is, first, block_kind))) (λ link. inr (let low = link.0 in omega (arith, is, low))) number

small_kind : (k : Kind) → kind_number k ≤ 4
small_kind External = omega arith
small_kind Rankings = omega arith
small_kind B256 = omega arith
small_kind B1K = omega arith
small_kind B4K = omega arith

-- the first file of a kind isn't loaded with the kinds before
pub first_fresh : (files : List ℕ) (k : Kind) → AreNumbered files (kind_number k - 1) → is_among files (kind_number k - 1) ≡ false
first_fresh files k numbers =
    let small = small_kind k in
    fails (is_among files (kind_number k - 1)) (λ among. ⊎_elim (λ less. omega (arith, less)) (λ link. omega (arith, link, small)) (numbers (kind_number k - 1) among))
