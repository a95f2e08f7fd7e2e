-- How a change of the list of files changes the image.
use Rattle.std.proofs.Common.{◌≡◌, ◌≢◌, ℕ, zero, suc, ◌+◌, ◌<◌, Bool, true, false, not, if◌then◌else◌, List, [], ◌∷◌, ◌++◌, length, take, drop, get_or, filter, Option, None, Some, Result, Ok, Err, OnErr, refl, sym, ◌∙◌, ap, subst, arith, IsSome, ◌⊎◌, inl, inr, ⊎_elim}
use Rattle.std.proofs.Math.ListN.{set}
use Rattle.std.proofs.lemmas.List.{take_more, get_or_default, take_at}
use Rattle.std.specs.Option.{ForSome}
use Rattle.spec_image.specs.Image.{File, Image, same_file, with_file}
use Rattle.spec_image.specs.Order.{IsAfter, IsUpTo, IsNextFile, IsBefore}
use Rattle.spec_image.proofs.Images.{same_file-refl, same_file-true, same_file-swap, with_file-id}
use Rattle.spec_image.proofs.Orders.{before_trans}
use Rattle.blk_io.specs.declared.mem_files.MemFile.{MemFile}
use Rattle.blk_io.specs.declared.folder.FileId.{FileId}
use Rattle.blk_io.specs.FileNames.{file_of}
use Rattle.blk_io.specs.Files.{image_of, IsPlaceOf, IsNearer}

-- the test for one name, read the other way round
is_true : (f g : File) → same_file g f ≡ true → f ≡ g
is_true f g e = sym (same_file-true g f e)

is_swap : (f g : File) → same_file g f ≡ false → same_file f g ≡ false
is_swap f g e = same_file-swap g f e

is_other : (f g : File) → f ≢ g → same_file g f ≡ false
is_other f g other = by_test (same_file g f) refl
  where
    by_test : (t : Bool) → same_file g f ≡ t → t ≡ false
    by_test true e = absurd (other (is_true f g e))
    by_test false e = refl

-- what is before the first file with the name
skipped : (file : File) (x : MemFile) (files : List MemFile) → image_of (x ∷ files) file ≡ None → (same_file (file_of x.file) file ≡ false) × (image_of files file ≡ None)
skipped file x files none = by_test (same_file (file_of x.file) file) refl
  where
    by_test : (t : Bool) → same_file (file_of x.file) file ≡ t → (same_file (file_of x.file) file ≡ false) × (image_of files file ≡ None)
    by_test true e = absurd (clash (sym (ap (λ (t : Bool). if t then Some x.bytes.items else image_of files file) e) ∙ none))
      where
        clash : Some x.bytes.items ≡ None → ⊥
        clash c = cc
    by_test false e = (e, sym (ap (λ (t : Bool). if t then Some x.bytes.items else image_of files file) e) ∙ none)

pub image_of-skip : (f : File) (x : MemFile) (files : List MemFile) → same_file (file_of x.file) f ≡ false → image_of (x ∷ files) f ≡ image_of files f
image_of-skip f x files e = ap (λ (t : Bool). if t then Some x.bytes.items else image_of files f) e

pub image_of-take : (f : File) (x : MemFile) (files : List MemFile) → (file_of x.file) ≡ f → image_of (x ∷ files) f ≡ Some x.bytes.items
image_of-take f x files e = ap (λ (t : Bool). if t then Some x.bytes.items else image_of files f) (ap (λ (h : File). same_file h f) e ∙ same_file-refl f)

pub image_of-append : (f : File) (xs ys : List MemFile) → image_of xs f ≡ None → image_of (xs ++ ys) f ≡ image_of ys f
image_of-append f [] ys none = refl
image_of-append f (x ∷ xs) ys none =
    let parts = skipped f x xs none in
    image_of-skip f x (xs ++ ys) parts.0 ∙ image_of-append f xs ys parts.1

-- one more file that hasn't the name
pub image_of-more : (f : File) (files : List MemFile) (i : ℕ) (x : MemFile) → i < length files → x ≡ get_or files i x → (file_of x.file) ≢ f → image_of (take i files) f ≡ None → image_of (take (i + 1) files) f ≡ None
image_of-more f files i x within there other none =
    ap (λ (l : List MemFile). image_of l f) (take_more files i x within ∙ ap (λ (y : MemFile). take i files ++ y ∷ []) (sym there))
    ∙ image_of-append f (take i files) (x ∷ []) none
    ∙ image_of-skip f x [] (is_swap (file_of x.file) f (is_other (file_of x.file) f other))

pub image_of-found : (f : File) (files : List MemFile) (i : ℕ) (x : MemFile) → i < length files → x ≡ get_or files i x → (file_of x.file) ≡ f → image_of (take i files) f ≡ None → image_of files f ≡ Some x.bytes.items
image_of-found f [] i x within there named none = absurd (omega arith)
image_of-found f (y ∷ files) zero x within there named none = ap (λ (z : MemFile). image_of (z ∷ files) f) (sym there) ∙ image_of-take f x files named
image_of-found f (y ∷ files) (suc i) x within there named none =
    let parts = skipped f y (take i files) none in
    image_of-skip f y files parts.0 ∙ image_of-found f files i x (omega arith) there named parts.1

-- a change after a file that has another name
deeper : (g f : File) (y : MemFile) (changed files : List MemFile) (new : MemFile) → same_file (file_of y.file) f ≡ false
    → image_of changed g ≡ with_file (image_of files) f (Some new.bytes.items) g → image_of (y ∷ changed) g ≡ with_file (image_of (y ∷ files)) f (Some new.bytes.items) g
deeper g f y changed files new other is = by_test (same_file (file_of y.file) g) refl
  where
    by_test : (t : Bool) → same_file (file_of y.file) g ≡ t → image_of (y ∷ changed) g ≡ (if same_file f g then Some new.bytes.items else image_of (y ∷ files) g)
    by_test true e =
        let apart : same_file f g ≡ false = ap (λ (h : File). same_file f h) (is_true g (file_of y.file) e) ∙ is_swap f (file_of y.file) other in
        image_of-take g y changed (sym (is_true g (file_of y.file) e)) ∙ sym (image_of-take g y files (sym (is_true g (file_of y.file) e))) ∙ ap (λ (t : Bool). if t then Some new.bytes.items else image_of (y ∷ files) g) (sym apart)
    by_test false e =
        image_of-skip g y changed e ∙ is ∙ ap (λ (o : Option (List ℕ)). if same_file f g then Some new.bytes.items else o) (sym (image_of-skip g y files e))

-- a file that is changed in its place
pub image_of-set : (f : File) (files : List MemFile) (i : ℕ) (x new : MemFile) → i < length files → x ≡ get_or files i x → (file_of x.file) ≡ f → image_of (take i files) f ≡ None → (file_of new.file) ≡ f
    → (g : File) → image_of (set files i new) g ≡ with_file (image_of files) f (Some new.bytes.items) g
image_of-set f [] i x new within there named none same g = absurd (omega arith)
image_of-set f (y ∷ files) zero x new within there named none same g = by_test (same_file f g) refl
  where
    by_test : (t : Bool) → same_file f g ≡ t → image_of (new ∷ files) g ≡ (if t then Some new.bytes.items else image_of (y ∷ files) g)
    by_test true e = image_of-take g new files (same ∙ sym (is_true g f e))
    by_test false e =
        image_of-skip g new files (ap (λ (h : File). same_file h g) same ∙ e) ∙ sym (image_of-skip g y files (ap (λ (h : File). same_file h g) (ap (λ (z : MemFile). file_of z.file) (sym there) ∙ named) ∙ e))
image_of-set f (y ∷ files) (suc i) x new within there named none same g =
    let parts = skipped f y (take i files) none in
    deeper g f y (set files i new) files new parts.0 (image_of-set f files i x new (omega arith) there named parts.1 same g)

-- a file that is added after the others
pub image_of-push : (f : File) (files : List MemFile) (new : MemFile) → image_of files f ≡ None → (file_of new.file) ≡ f → (g : File) → image_of (files ++ new ∷ []) g ≡ with_file (image_of files) f (Some new.bytes.items) g
image_of-push f [] new none same g = ap (λ (h : File). if same_file h g then Some new.bytes.items else None) same
image_of-push f (y ∷ files) new none same g =
    let parts = skipped f y files none in
    deeper g f y (files ++ new ∷ []) files new parts.0 (image_of-push f files new parts.1 same g)

-- a file that is removed
pub image_of-filter : (f : File) (files : List MemFile) (g : File) → image_of (filter (λ (one : MemFile). not (same_file f (file_of one.file))) files) g ≡ with_file (image_of files) f None g
image_of-filter f [] g = by_test (same_file f g)
  where
    by_test : (t : Bool) → image_of [] g ≡ (if t then None else image_of [] g)
    by_test true = refl
    by_test false = refl
image_of-filter f (y ∷ files) g = by_test (same_file f (file_of y.file)) refl (same_file (file_of y.file) g) refl (image_of-filter f files g)
  where
    kept : List MemFile
    kept = filter (λ (one : MemFile). not (same_file f (file_of one.file))) files

    by_test : (t : Bool) → same_file f (file_of y.file) ≡ t → (u : Bool) → same_file (file_of y.file) g ≡ u → image_of kept g ≡ with_file (image_of files) f None g
        → image_of (if not t then y ∷ kept else kept) g ≡ (if same_file f g then None else image_of (y ∷ files) g)
    by_test true e true d is = is ∙ ap (λ (t : Bool). if t then None else image_of files g) at_f ∙ sym (ap (λ (t : Bool). if t then None else image_of (y ∷ files) g) at_f)
      where
        at_f : same_file f g ≡ true
        at_f = ap (λ (h : File). same_file h g) (sym (is_true (file_of y.file) f e)) ∙ d
    by_test true e false d is = is ∙ ap (λ (o : Option (List ℕ)). if same_file f g then None else o) (sym (image_of-skip g y files d))
    by_test false e true d is =
        image_of-take g y kept (sym (is_true g (file_of y.file) d)) ∙ sym (image_of-take g y files (sym (is_true g (file_of y.file) d)))
        ∙ ap (λ (t : Bool). if t then None else image_of (y ∷ files) g) (sym (ap (λ (h : File). same_file f h) (is_true g (file_of y.file) d) ∙ e))
    by_test false e false d is = image_of-skip g y kept d ∙ is ∙ ap (λ (o : Option (List ℕ)). if same_file f g then None else o) (sym (image_of-skip g y files d))

-- the file at its place, and a new one in its stead
pub set_is : (f : File) (files items : List MemFile) (i : ℕ) (new : MemFile) → files ≡ items → IsPlaceOf files f i → (file_of new.file) ≡ f → image_of (set items i new) ≡ with_file (image_of items) f (Some new.bytes.items)
set_is f files items i new e place same =
    let at_files : image_of (set files i new) ≡ with_file (image_of files) f (Some new.bytes.items) = (λ j g. image_of-set f files i place.one new place.within place.there place.named place.none_before same g j) in
    subst (λ (l : List MemFile). image_of (set l i new) ≡ with_file (image_of l) f (Some new.bytes.items)) e at_files

pub place_is : (f : File) (files items : List MemFile) (i : ℕ) (x : MemFile) → files ≡ items → IsPlaceOf files f i → x ≡ get_or items i x → ((file_of x.file) ≡ f) × (image_of items f ≡ Some x.bytes.items)
place_is f files items i x e place there =
    let same : place.one ≡ x = place.there ∙ get_or_default files i place.one x place.within ∙ ap (λ (l : List MemFile). get_or l i x) e ∙ sym there in (
      ap (λ (z : MemFile). file_of z.file) (sym same) ∙ place.named,
      ap (λ (l : List MemFile). image_of l f) (sym e) ∙ image_of-found f files i place.one place.within place.there place.named place.none_before ∙ ap (λ (z : MemFile). Some z.bytes.items) same,
    )

pub push_is : (f : File) (files : List MemFile) (new : MemFile) → image_of files f ≡ None → (file_of new.file) ≡ f → image_of (files ++ new ∷ []) ≡ with_file (image_of files) f (Some new.bytes.items)
push_is f files new none same = λ j g. image_of-push f files new none same g j

pub filter_is : (f : File) (files kept : List MemFile) → kept ≡ filter (λ (one : MemFile). not (same_file f (file_of one.file))) files → image_of kept ≡ with_file (image_of files) f None
filter_is f files kept e = ap image_of e ∙ (λ j g. image_of-filter f files g j)

-- a file that is put back as it was
pub put_back : (f : File) (items : List MemFile) (b : List ℕ) → image_of items f ≡ Some b → with_file (image_of items) f (Some b) ≡ image_of items
put_back f items b is = ap (with_file (image_of items) f) (sym is) ∙ with_file-id (image_of items) f

-- what holds anyway holds at an error
pub on_err_any : {T E P : Type 0} (r : Result T E) → P → OnErr r P
on_err_any (Ok x) p = tt
on_err_any (Err e) p = p

-- what a vector holds after as many elements are written through a slice of it
pub with_is : (n : ℕ) (new old : List ℕ) → length new ≡ n → take n (new ++ drop (length new) old) ≡ new
with_is n new old size = take_at new (drop (length new) old) n size

no_some : (f : File) → IsSome (image_of [] f) → ⊥
no_some f e = cc

-- files that are there stay there after others
pub there-append : (f : File) (xs ys : List MemFile) → IsSome (image_of xs f) → IsSome (image_of (xs ++ ys) f)
there-append f [] ys there = absurd (no_some f there)
there-append f (x ∷ xs) ys there = by_test (same_file (file_of x.file) f) there (there-append f xs ys)
  where
    by_test : (t : Bool) → IsSome (if t then Some x.bytes.items else image_of xs f) → (IsSome (image_of xs f) → IsSome (image_of (xs ++ ys) f)) → IsSome (if t then Some x.bytes.items else image_of (xs ++ ys) f)
    by_test true here deeper = refl
    by_test false here deeper = deeper here

pub there-push : (xs : List MemFile) (one : MemFile) → IsSome (image_of (xs ++ one ∷ []) (file_of one.file))
there-push [] one = subst IsSome (sym (image_of-take (file_of one.file) one [] refl)) refl
there-push (x ∷ xs) one = by_test (same_file (file_of x.file) (file_of one.file)) (there-push xs one)
  where
    by_test : (t : Bool) → IsSome (image_of (xs ++ one ∷ []) (file_of one.file)) → IsSome (if t then Some x.bytes.items else image_of (xs ++ one ∷ []) (file_of one.file))
    by_test true deeper = refl
    by_test false deeper = deeper

pub there-was : (f : File) (xs : List MemFile) (one : MemFile) → IsSome (image_of (xs ++ one ∷ []) f) → IsSome (image_of xs f) ⊎ (f ≡ (file_of one.file))
there-was f [] one there = by_test (same_file (file_of one.file) f) refl there
  where
    by_test : (t : Bool) → same_file (file_of one.file) f ≡ t → IsSome (if t then Some one.bytes.items else image_of [] f) → IsSome (image_of [] f) ⊎ (f ≡ (file_of one.file))
    by_test true e here = inr (is_true f (file_of one.file) e)
    by_test false e here = inl here
there-was f (x ∷ xs) one there = by_test (same_file (file_of x.file) f) there (there-was f xs one)
  where
    by_test : (t : Bool) → IsSome (if t then Some x.bytes.items else image_of (xs ++ one ∷ []) f) → (IsSome (image_of (xs ++ one ∷ []) f) → IsSome (image_of xs f) ⊎ (f ≡ (file_of one.file))) → IsSome (if t then Some x.bytes.items else image_of xs f) ⊎ (f ≡ (file_of one.file))
    by_test true here deeper = inl refl
    by_test false here deeper = deeper here

-- the nearer one comes after the other too
pub nearer_after : (file : File) (after next new : Option File) → IsNearer file after next new → ForSome next (IsAfter after) → ForSome new (IsAfter after)
nearer_after file after next new (inl taken) so_far other e =
    let same : file ≡ other = cc (taken.is, e) in
    subst (IsAfter after) same taken.follows
nearer_after file after next new (inr kept) so_far other e = so_far other (sym kept.is ∙ e)

-- the next file among one more
pub next_more : (files : List MemFile) (one : MemFile) (after next new : Option File) → IsNextFile (image_of files) after next → IsNearer (file_of one.file) after next new → IsNextFile (image_of (files ++ one ∷ [])) after new
next_more files one after next new so_far (inl taken) = subst (IsNextFile (image_of (files ++ one ∷ [])) after) (sym taken.is) (record {
  there = λ file e. subst (λ (f : File). IsSome (image_of (files ++ one ∷ []) f)) (some_inj e) (there-push files one);
  follows = nearer_after (file_of one.file) after next (Some (file_of one.file)) (inl (record { is = refl; follows = taken.follows; before = taken.before })) so_far.follows;
  least = λ file follows there. ⊎_elim (λ was. up_to next file (so_far.least file follows was) taken.before) (λ same. inl (sym same)) (there-was file files one there);
})
  where
    some_inj : {A : Type 0} {x y : A} → Some x ≡ Some y → x ≡ y
    some_inj e = cc

    up_to : (next : Option File) (file : File) → IsUpTo file next → ForSome next (IsBefore (file_of one.file)) → IsUpTo file (Some (file_of one.file))
    up_to None file none before = absurd none
    up_to (Some other) file (inl same) before = inr (before file (ap Some same))
    up_to (Some other) file (inr behind) before = inr (before_trans (file_of one.file) other file (before other refl) behind)
next_more files one after next new so_far (inr kept) = subst (IsNextFile (image_of (files ++ one ∷ [])) after) (sym kept.is) (record {
  there = λ file e. there-append file files (one ∷ []) (so_far.there file e);
  follows = so_far.follows;
  least = λ file follows there. ⊎_elim (λ was. so_far.least file follows was) (λ same. subst (λ (f : File). IsUpTo f next) (sym same) (kept.later (subst (IsAfter after) same follows))) (there-was file files one there);
})

-- the first, where there is one, and otherwise the second
abbrev pub first_of : Option (List ℕ) → Option (List ℕ) → Option (List ℕ)
first_of None other = other
first_of (Some bytes) other = Some bytes

-- the files of two lists, one after the other
pub image_of-both : (f : File) (xs ys : List MemFile) → image_of (xs ++ ys) f ≡ first_of (image_of xs f) (image_of ys f)
image_of-both f [] ys = refl
image_of-both f (x ∷ xs) ys = by_test (same_file (file_of x.file) f) (image_of-both f xs ys)
  where
    by_test : (t : Bool) → image_of (xs ++ ys) f ≡ first_of (image_of xs f) (image_of ys f) → (if t then Some x.bytes.items else image_of (xs ++ ys) f) ≡ first_of (if t then Some x.bytes.items else image_of xs f) (image_of ys f)
    by_test true deeper = refl
    by_test false deeper = deeper

-- one more file in a copy
pub copied_more : (copies files : List MemFile) (copy one : MemFile) → image_of copies ≡ image_of files → copy.file ≡ one.file → copy.bytes.items ≡ one.bytes.items → image_of (copies ++ copy ∷ []) ≡ image_of (files ++ one ∷ [])
copied_more copies files copy one so_far same bytes = λ i f. at_file f i
  where
    last : (f : File) → image_of (copy ∷ []) f ≡ image_of (one ∷ []) f
    last f = ap (λ (name : FileId). if same_file (file_of name) f then Some copy.bytes.items else None) same ∙ ap (λ (b : List ℕ). if same_file (file_of one.file) f then Some b else None) bytes

    at_file : (f : File) → image_of (copies ++ copy ∷ []) f ≡ image_of (files ++ one ∷ []) f
    at_file f = image_of-both f copies (copy ∷ []) ∙ ap (λ (image : Image). first_of (image f) (image_of (copy ∷ []) f)) so_far ∙ ap (first_of (image_of files f)) (last f) ∙ sym (image_of-both f files (one ∷ []))
