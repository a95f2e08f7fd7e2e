-- How a run of calls goes on through a list of writes.
use Rattle.std.proofs.Common.{zero, suc, arith, Bool, ◌≡◌, ℕ, ◌+◌, ◌<◌, ◌≤◌, length, get_or, drop, map, List, [], ◌∷◌, ◌++◌, Option, None, Some, refl, sym, ap, ◌∙◌, subst, append_assoc, true}
use Rattle.std.specs.Option.{option_map, ForSome}
use Rattle.std.proofs.lemmas.List.{append-nil, drop_more, drop_all}
use Rattle.spec_image.specs.Image.{Image, AreBytes}
use Rattle.spec_image.specs.Steps.{TrailStep, after, applied}
use Rattle.spec_image.specs.Told.{Told, Along, Applies, AppliesPrefix}
use Rattle.spec_image.proofs.Cuts.{after-append}
use Rattle.spec_image.proofs.Runs.{grows_none, grows_then, part_then, part_only, part_whole, some_inj, until_last}
use Rattle.spec_folder.specs.ListView.{ListWrite, Next, Prev, Head, Tail, Transaction, Operation}
use Rattle.spec_folder.specs.View.{list_of}
use Rattle.spec_folder.specs.ListSteps.{write_steps, steps_of_writes, AreOf, AllWriteWords}
use Rattle.spec_folder.specs.ListImages.{IsWritable, CanBeMade}
use Rattle.law_folder.proofs.lists.WriteSteps.{writes_show, writable-after, rest_can, first_can, one_write, still_check}
use Rattle.blk_disk.specs.declared.tables.BlockFiles.{BlockFiles}
use Rattle.blk_lru.specs.Writes.{meant}
use Rattle.blk_lru.specs.declared.writes.Write.{Write}
use Rattle.blk_lru.proofs.Kept.{kept_writes}
use Rattle.blk_disk.specs.Open.{IsOpen}

-- an observable folder before writes: its files have bytes alone, the index is whole, and the headers agree with the table
pub record IsReady (files : BlockFiles) (image : Image) : Type 0 where
  pub kept : IsOpen files image
  pub bytes : AreBytes image

-- a folder that is ready can be written
pub ready_writable : {files : BlockFiles} {image : Image} → IsReady files image → IsWritable image
ready_writable {files} {image} ready = record { bytes = ready.bytes; has_header = let index = ready.kept.whole_index in omega (arith, index) }

pub told_ready : (files : BlockFiles) (told : Told) → ForSome told.files (IsOpen files) → ForSome told.files AreBytes → ForSome told.files (IsReady files)
told_ready files told is_open bytes image there = record { kept = is_open image there; bytes = bytes image there }

-- all of some writes were made
pub record Wrote (old now : Told) (writes : List ListWrite) : Type 0 where
  pub applies : ForSome old.files (λ from. Applies old now (steps_of_writes writes from))
  pub silent : old.files ≡ None → now.files ≡ None

-- the checksums of the nodes of some writes match or are absent
abbrev pub Check : Image → List ListWrite → Type 0
Check image writes = AreOf (λ n. (list_of image).checks n ≡ true) writes

-- a prefix of the writes was made, whose nodes had checksums that matched or were absent, and these writes are left
pub record Reached (old now : Told) (writes left : List ListWrite) : Type 0 where
  pub done : List ListWrite
  pub split : writes ≡ done ++ left
  pub wrote : Wrote old now done
  pub checked : ForSome old.files (λ from. Check from done)

pub steps-append : (xs ys : List ListWrite) (image : Image) → steps_of_writes (xs ++ ys) image ≡ steps_of_writes xs image ++ steps_of_writes ys (after (steps_of_writes xs image) image)
steps-append [] ys image = refl
steps-append (x ∷ xs) ys image =
    let steps : List TrailStep = write_steps x image in
    let between : Image = after steps image in
    ap (λ (s : List TrailStep). steps ++ s) (steps-append xs ys between)
    ∙ sym (append_assoc steps (steps_of_writes xs between) (steps_of_writes ys (after (steps_of_writes xs between) between)))
    ∙ ap (λ (i : Image). (steps ++ steps_of_writes xs between) ++ steps_of_writes ys i) (sym (after-append steps (steps_of_writes xs between) image))

pub no_some : {A : Type 0} (x : A) → None ≡ Some x → ⊥
no_some x e = cc

-- what holds after a call that a folder with files ends with these files
pub now_has : (old now : Told) (after_it : Image → Image) (Q : Image → Type 0) → ForSome old.files (λ from. (now.files ≡ Some (after_it from)) × Q (after_it from)) → (old.files ≡ None → now.files ≡ None) → ForSome now.files Q
now_has old now after_it Q all silent image here = by_files old.files refl
  where
    by_files : (o : Option Image) → old.files ≡ o → Q image
    by_files None none = absurd (no_some image (sym (silent none) ∙ here))
    by_files (Some from) there = let a = all from there in subst Q (some_inj (sym a.0 ∙ here)) a.1

-- the files after writes
pub wrote_files : {old now : Told} {writes : List ListWrite} → Wrote old now writes → (from : Image) → old.files ≡ Some from → now.files ≡ Some (after (steps_of_writes writes from) from)
wrote_files {old} {now} {writes} wrote from there = (wrote.applies from there).files ∙ ap (option_map (after (steps_of_writes writes from))) there

-- no write yet
pub nothing : (old now : Told) (writes : List ListWrite) → now ≡ old → Reached old now writes writes
nothing old now writes same = record {
  done = [];
  split = refl;
  wrote = record { applies = λ from there. grows_none same; silent = λ none. ap (λ (t : Told). t.files) same ∙ none };
  checked = λ from there. tt;
}

-- nodes of writes, one list after the other
both_of : (P : ℕ → Type 0) (xs ys : List ListWrite) → AreOf P xs → AreOf P ys → AreOf P (xs ++ ys)
both_of P [] ys h k = k
both_of P (Next n w ∷ xs) ys h k = (h.0, both_of P xs ys h.1 k)
both_of P (Prev n w ∷ xs) ys h k = (h.0, both_of P xs ys h.1 k)
both_of P (Head w ∷ xs) ys h k = both_of P xs ys h k
both_of P (Tail w ∷ xs) ys h k = both_of P xs ys h k
both_of P (Transaction w ∷ xs) ys h k = both_of P xs ys h k
both_of P (Operation w ∷ xs) ys h k = both_of P xs ys h k

pub first_nodes : (P : ℕ → Type 0) (xs ys : List ListWrite) → AreOf P (xs ++ ys) → AreOf P xs
first_nodes P [] ys h = tt
first_nodes P (Next n w ∷ xs) ys h = (h.0, first_nodes P xs ys h.1)
first_nodes P (Prev n w ∷ xs) ys h = (h.0, first_nodes P xs ys h.1)
first_nodes P (Head w ∷ xs) ys h = first_nodes P xs ys h
first_nodes P (Tail w ∷ xs) ys h = first_nodes P xs ys h
first_nodes P (Transaction w ∷ xs) ys h = first_nodes P xs ys h
first_nodes P (Operation w ∷ xs) ys h = first_nodes P xs ys h

first_words : (xs ys : List ListWrite) → AllWriteWords (xs ++ ys) → AllWriteWords xs
first_words [] ys h = tt
first_words (x ∷ xs) ys h = (h.0, first_words xs ys h.1)

-- where some writes and then others can be made, the others can be made after the first ones
split_can : (from : Image) (xs ys : List ListWrite) → IsWritable from → CanBeMade from (xs ++ ys) → CanBeMade (after (steps_of_writes xs from) from) ys
split_can from [] ys is all = all
split_can from (x ∷ xs) ys is all =
    let first = one_write x from is (first_can from x (xs ++ ys) all) in
    let between : Image = after (write_steps x from) from in
    subst (λ (i : Image). CanBeMade i ys) (sym (after-append (write_steps x from) (steps_of_writes xs between) from)) (split_can between xs ys (writable-after x from is) (rest_can from between x (xs ++ ys) first.ends all))

-- the last step of a part
pub part_kept : (files : BlockFiles) (old now : Told) (steps : Image → List TrailStep) → ForSome old.files (λ from. Along (IsOpen files) from (steps from)) → (old.files ≡ None → now.files ≡ None) → ForSome old.files (λ from. AppliesPrefix old now (steps from)) → ForSome now.files (IsOpen files)
part_kept files old now steps along silent part image here = by_files old.files refl
  where
    cut : (xs ys : List TrailStep) (from : Image) → Along (IsOpen files) from (xs ++ ys) → IsOpen files (after xs from)
    cut [] [] from all = all
    cut [] (y ∷ ys) from all = all.0
    cut (x ∷ xs) ys from all = cut xs ys (applied x from) all.1

    by_files : (o : Option Image) → old.files ≡ o → IsOpen files image
    by_files None none = absurd (no_some image (sym (silent none) ∙ here))
    by_files (Some from) there =
        let p = part from there in
        let is : now.files ≡ Some (after p.made from) = p.applies.files ∙ ap (option_map (after p.made)) there in
        subst (IsOpen files) (some_inj (sym is ∙ here)) (cut p.made p.left from (subst (Along (IsOpen files) from) p.split (along from there)))

module _ (files : BlockFiles) (old : Told) (writes : List ListWrite) (ready : ForSome old.files (IsReady files)) (words : AllWriteWords writes) where
  -- the checksums of the nodes of the writes that are made matched or were absent before the first write
  front_can : (now : Told) (left : List ListWrite) (r : Reached old now writes left) → ForSome old.files (λ from. CanBeMade from r.done)
  front_can now left r from there = record { nodes = r.checked from there; words = first_words r.done left (subst AllWriteWords r.split words) }

  -- the folder in the midst of the writes
  pub midst : (now : Told) (left : List ListWrite) → Reached old now writes left → ForSome now.files (IsOpen files)
  midst now left r =
      now_has old now (λ from. after (steps_of_writes r.done from) from) (IsOpen files)
      (λ from there. (wrote_files r.wrote from there, until_last (IsOpen files) (IsOpen files) (steps_of_writes r.done from) from (kept_writes files r.done from (ready from there).kept)))
      r.wrote.silent

  -- the rest can be made where all can
  pub rest_made : (now : Told) (write : ListWrite) (left : List ListWrite) → Reached old now writes (write ∷ left) → ForSome old.files (λ image. CanBeMade image writes) → ForSome now.files (λ image. Check image (write ∷ []))
  rest_made now write left r can =
      now_has old now (λ from. after (steps_of_writes r.done from) from) (λ image. Check image (write ∷ []))
      (λ from there. (
        wrote_files r.wrote from there,
        (let rest = split_can from r.done (write ∷ left) (ready_writable (ready from there)) (subst (CanBeMade from) r.split (can from there)) in
            first_nodes (λ n. (list_of (after (steps_of_writes r.done from) from)).checks n ≡ true) (write ∷ []) left rest.nodes),
      ))
      r.wrote.silent

  -- one more
  pub one_more : (now next : Told) (write : ListWrite) (left : List ListWrite) → Reached old now writes (write ∷ left) → ForSome now.files (λ from. Applies now next (write_steps write from)) → (now.files ≡ None → next.files ≡ None)
      → ForSome now.files (λ from. Check from (write ∷ [])) → Reached old next writes left
  one_more now next write left r grows silent checked = record {
    done = r.done ++ write ∷ [];
    split = r.split ∙ sym (append_assoc r.done (write ∷ []) left);
    wrote = record {
      applies = λ from there.
          let between : Image = after (steps_of_writes r.done from) from in
          subst (Applies old next) (ap (λ (s : List TrailStep). steps_of_writes r.done from ++ s) (sym (append-nil (write_steps write between))) ∙ sym (steps-append r.done (write ∷ []) from)) (grows_then (r.wrote.applies from there) (grows between (wrote_files r.wrote from there)));
      silent = λ none. silent (r.wrote.silent none);
    };
    checked = λ from there.
        let between : Image = after (steps_of_writes r.done from) from in
        let same = still_check r.done from between (writes_show r.done from (ready_writable (ready from there)) (front_can now (write ∷ left) r from there)).ends in
        both_of (λ n. (list_of from).checks n ≡ true) r.done (write ∷ []) (r.checked from there)
        (subst (λ (checks : ℕ → Bool). AreOf (λ n. checks n ≡ true) (write ∷ [])) same (checked between (wrote_files r.wrote from there)));
  }

  -- what a failed write leaves
  pub in_part : (now next : Told) (write : ListWrite) (left : List ListWrite) → Reached old now writes (write ∷ left) → ForSome now.files (λ from. AppliesPrefix now next (write_steps write from)) → ForSome old.files (λ from. AppliesPrefix old next (steps_of_writes writes from))
  in_part now next write left r part from there =
      let between : Image = after (steps_of_writes r.done from) from in
      subst (AppliesPrefix old next) (sym (ap (λ (ws : List ListWrite). steps_of_writes ws from) r.split ∙ steps-append r.done (write ∷ left) from)) (part_then (r.wrote.applies from there) (part_only _ (part between (wrote_files r.wrote from there))))

  pub done_all : (now : Told) → Reached old now writes [] → Wrote old now writes
  done_all now r = subst (Wrote old now) (sym (r.split ∙ append-nil r.done)) r.wrote

  pub all_checked : (now : Told) → Reached old now writes [] → ForSome old.files (λ from. CanBeMade from writes)
  all_checked now r from there = subst (CanBeMade from) (sym (r.split ∙ append-nil r.done)) (front_can now [] r from there)

  -- a part of the writes keeps the index and the files
  pub part_ready : (now : Told) → (old.files ≡ None → now.files ≡ None) → ForSome old.files (λ from. AppliesPrefix old now (steps_of_writes writes from)) → ForSome now.files (IsOpen files)
  part_ready now silent part = part_kept files old now (steps_of_writes writes) (λ from there. kept_writes files writes from (ready from there).kept) silent part

-- all of the writes are a part of them
pub wrote_part : {old now : Told} {writes : List ListWrite} → Wrote old now writes → ForSome old.files (λ from. AppliesPrefix old now (steps_of_writes writes from))
wrote_part wrote from there = part_whole (wrote.applies from there)

-- the write of this number, and those after it
pub at_item : (ws : List Write) (i : ℕ) (d item : Write) → i < length ws → get_or ws i d ≡ item → map meant (drop i ws) ≡ meant item ∷ map meant (drop (i + 1) ws)
at_item ws i d item lt is = ap (map meant) (drop_more ws i d lt) ∙ ap (λ (v : Write). meant v ∷ map meant (drop (i + 1) ws)) is

rest_is : (P : ℕ → Type 0) (x : ListWrite) (xs : List ListWrite) → AreOf P (x ∷ xs) → AreOf P xs
rest_is P (Next n w) xs h = h.1
rest_is P (Prev n w) xs h = h.1
rest_is P (Head w) xs h = h
rest_is P (Tail w) xs h = h
rest_is P (Transaction w) xs h = h
rest_is P (Operation w) xs h = h

pub item_is : (P : ℕ → Type 0) (ws : List Write) (i : ℕ) (d item : Write) → i < length ws → get_or ws i d ≡ item → AreOf P (map meant ws) → AreOf P (meant item ∷ [])
item_is P [] i d item lt is h = absurd (omega arith)
item_is P (w ∷ ws) zero d item lt is h = subst (λ (v : Write). AreOf P (meant v ∷ [])) is (first_nodes P (meant w ∷ []) (map meant ws) h)
item_is P (w ∷ ws) (suc i) d item lt is h = item_is P ws i d item (omega arith) is (rest_is P (meant w) (map meant ws) h)

pub all_done : (ws : List Write) (i : ℕ) → length ws ≤ i → map meant (drop i ws) ≡ []
all_done ws i past = ap (map meant) (drop_all i ws past)

-- a folder that is opaque in the midst of the writes was opaque before them
pub back_untold : {old now : Told} {writes : List ListWrite} → Wrote old now writes → now.files ≡ None → old.files ≡ None
back_untold {old} {now} {writes} wrote none = by_files old.files refl
  where
    by_files : (o : Option Image) → old.files ≡ o → old.files ≡ None
    by_files None there = there
    by_files (Some from) there = absurd (no_some _ (sym none ∙ wrote_files wrote from there))
