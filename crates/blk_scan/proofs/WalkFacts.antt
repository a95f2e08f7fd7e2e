-- Walked nodes are few, and what is made of each, one after the other.
use Rattle.std.proofs.Common.{inl, ◌≡◌, ◌≤◌, ◌<◌, ◌+◌, ℕ, zero, suc, Bool, true, false, List, [], ◌∷◌, ◌++◌, Option, None, Some, take, length, sym, ap, subst, ◌∙◌, arith}
use Rattle.std.specs.Prelude.{slice_get, not, ◌&&◌, ◌==◌, if◌then◌else◌}
use Rattle.std.specs.List.{cons_option, filter_map}
use Rattle.std.proofs.lemmas.Bool.{and_parts, eqb-true}
use Rattle.std.proofs.lemmas.List.{length-append, take_all, take_more}
use Rattle.std.proofs.lemmas.Option.{slice_get-get_or, slice_get_within}
use Rattle.spec_image.specs.Image.{Image}
use Rattle.spec_format.specs.Address.{is_address, kind_of, rankings}
use Rattle.spec_format.specs.BlockFiles.{is_among}
use Rattle.spec_folder.specs.Completion.{completed_list}
use Rattle.spec_folder.specs.ListImages.{completed_walk}
use Rattle.spec_folder.specs.ListView.{ListView}
use Rattle.spec_folder.specs.View.{list_of}
use Rattle.spec_folder.specs.Walk.{walk, walk_from}
use Rattle.blk_disk.specs.declared.tables.BlockFiles.{BlockFiles}
use Rattle.blk_disk.specs.Tables.{is_node_among, names_among, stands_among}
use Rattle.blk_audit.specs.Sealable.{CanBeSealed}
use Rattle.blk_verdict.proofs.Searched.{none_past}

few_from : (checks : ℕ → Bool) (next prev : ℕ → ℕ) (most : ℕ) (met : List ℕ) (before word : ℕ) → length (walk_from checks next prev most met before word) ≤ most
unfolding walk_from
few_from checks next prev zero met before word = omega arith
few_from checks next prev (suc most) met before word = go (checks word && not (is_among met word) && (prev word == before)) (next word == word) (few_from checks next prev most (word ∷ met) word (next word))
  where
    go : (t s : Bool) → length (walk_from checks next prev most (word ∷ met) word (next word)) ≤ most
        → length (if t then (word ∷ (if s then [] else walk_from checks next prev most (word ∷ met) word (next word))) else []) ≤ suc most
    go false s few = omega arith
    go true true few = omega arith
    go true false few = omega (arith, few)

few_walked : (list : ListView) → length (walk list) ≤ 131072
unfolding walk
few_walked list = few_from list.checks list.next list.prev 131072 [] list.head list.head

-- all walked nodes of an image are taken, as they are few
pub all_taken : (image : Image) (nodes : List ℕ) → nodes ≡ completed_walk image → take 131072 nodes ≡ completed_walk image
all_taken image nodes is = take_all 131072 nodes (subst (λ (ns : List ℕ). length ns ≤ 131072) (sym is) (few_walked (completed_list (list_of image)))) ∙ is

-- One node more.

some_same : {A : Type 0} {a b : A} → Some a ≡ Some b → a ≡ b
some_same e = cc

pub next_taken : (xs : List ℕ) (i w : ℕ) → slice_get xs i ≡ Some w → take (i + 1) xs ≡ take i xs ++ w ∷ []
next_taken xs i w at =
    let inside : i < length xs = slice_get_within xs i w at in
    take_more xs i w inside ∙ ap (λ (x : ℕ). take i xs ++ x ∷ []) (some_same (sym (slice_get-get_or xs i w inside) ∙ at))

pub take_past : (xs : List ℕ) (i n : ℕ) → slice_get xs i ≡ None → i ≤ n → take i xs ≡ take n xs
take_past xs i n none less =
    let past : length xs ≤ i = none_past xs i none in
    take_all i xs past ∙ sym (take_all n xs (omega (arith, past, less)))

pub few_mapped : {A B : Type 0} (h : A → Option B) (xs : List A) → length (filter_map h xs) ≤ length xs
few_mapped h [] = omega arith
few_mapped {B = B} h (x ∷ xs) = go (h x) (few_mapped h xs)
  where
    go : (o : Option B) → length (filter_map h xs) ≤ length xs → length (cons_option o (filter_map h xs)) ≤ suc (length xs)
    go None few = omega (arith, few)
    go (Some y) few = omega (arith, few)

pub few_of_prefix : {A B : Type 0} (h : A → Option B) (xs : List A) (ys rest : List B) → ys ++ rest ≡ filter_map h xs → length ys ≤ length xs
few_of_prefix h xs ys rest are =
    let long : length ys + length rest ≡ length (filter_map h xs) = sym (length-append ys rest) ∙ ap length are in
    let few : length (filter_map h xs) ≤ length xs = few_mapped h xs in
    omega (arith, long, few)

-- What can get its checksum.

pub node_sealable : (files : BlockFiles) (w : ℕ) → is_node_among files w ≡ true → CanBeSealed files w
unfolding names_among
node_sealable files w is =
    let parts = and_parts (kind_of w == rankings) (stands_among files w) (and_parts (is_address w) ((kind_of w == rankings) && stands_among files w) is).1 in
    record { stands = parts.1; begins = inl (eqb-true (kind_of w) rankings parts.0) }
