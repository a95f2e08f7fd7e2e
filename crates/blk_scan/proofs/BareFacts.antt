-- The kept nodes and records without a checksum.
use Rattle.std.proofs.Common.{◌≡◌, ◌≢◌, ◌<◌, ◌⊎◌, inl, inr, ℕ, zero, suc, Bool, true, false, List, [], ◌∷◌, ◌++◌, map, length, None, Some, if◌then◌else◌, refl, sym, ap, ap₂, subst, ◌∙◌, ⊎_elim, arith}
use Rattle.std.specs.Prelude.{All, Contains, slice_index_or, ◌==◌, ◌&&◌}
use Rattle.std.specs.List.{filter}
use Rattle.std.proofs.lemmas.Bool.{and_parts, cases_Bool, eq-eqb, eqb-true, or_left, or_right}
use Rattle.std.proofs.lemmas.Bool.Decides.{eqb_tells}
use Rattle.std.proofs.Math.Bool.{and-true}
use Rattle.std.proofs.Math.Dec.{eqb}
use Rattle.std.proofs.lemmas.List.Elements.{All-append, All-filter, All-weaker, Contains-append_left, Contains-append_right, filter_passes}
use Rattle.spec_image.specs.Image.{AreBytes, Image}
use Rattle.spec_format.specs.Address.{blocks_256, kind_of, rankings}
use Rattle.spec_format.specs.BlockFiles.{is_among, stands_in}
use Rattle.spec_format.specs.Records.{entry_checks, node_checks}
use Rattle.spec_folder.specs.Audit.{is_kept, kept_nodes}
use Rattle.spec_folder.specs.Completion.{completed_list}
use Rattle.spec_folder.specs.Found.{kept}
use Rattle.spec_folder.specs.ListImages.{completed_walk}
use Rattle.spec_folder.specs.Loads as shown
use Rattle.spec_folder.specs.Loads.{held_rule}
use Rattle.spec_folder.specs.View.{RecordFields, checks_at, entry_at, fields_at, fields_of, list_of, node_at, stands_as, store_of}
use Rattle.law_folder.proofs.lists.Walked.{walk-once, walks-distinct}
use Rattle.law_folder.proofs.walks.Kept.{kept-nodes}
use Rattle.law_folder.proofs.walks.Loads.{load-then}
use Rattle.law_folder.proofs.walks.Shown.{is_among-filter}
use Rattle.law_recovery.specs.ChainRepair.{is_kept_record}
use Rattle.law_recovery.specs.KeptSeals.{IsOfKept}
use Rattle.law_recovery.specs.RecordSeals.{IsSealedAt}
use Rattle.law_recovery.proofs.KeptRecords.{checks-completed}
use Rattle.blk_disk.specs.declared.tables.BlockFiles.{BlockFiles}
use Rattle.blk_disk.specs.Tables.{Agrees, is_record_among}
use Rattle.blk_audit.proofs.Shown.{names_stand}
use Rattle.blk_audit.proofs.CheckedSeals.{nodes-sealed, records-sealed}
use Rattle.blk_verdict.specs.Kept.{AreShown}
use Rattle.blk_verdict.specs.declared.loading.Loaded.{Loaded}
use Rattle.blk_scan.specs.Bare.{bare_of_kept, is_bare_node, is_bare_record, is_kept_bare_node}
use Rattle.blk_scan.specs.Scans.{AreBare}
use Rattle.blk_scan.proofs.Ordered.{all_entries_told, all_nodes_told}
use Rattle.blk_scan.proofs.Packed.{same_entries}

-- Lists.

contained : (xs : List ℕ) (w : ℕ) → is_among xs w ≡ true → Contains xs w
contained [] w among = absurd (let c : false ≡ true = among in cc)
contained (x ∷ xs) w among = ⊎_elim
    (λ (e : (eqb x w ≡ true) × (x ≡ w)). (0, omega arith, e.1))
    (λ (e : (eqb x w ≡ false) × _). let more = contained xs w (rw e.0 at among) in let inside = more.1 in (suc more.0, omega (arith, inside), more.2))
    (eqb_tells x w)

among_at : (xs : List ℕ) (k d : ℕ) → k < length xs → is_among xs (slice_index_or xs k d) ≡ true
among_at [] k d inside = absurd (omega (arith, inside))
among_at (x ∷ xs) zero d inside = or_left (x == x) (is_among xs x) (eq-eqb x x refl)
among_at (x ∷ xs) (suc k) d inside = or_right (x == slice_index_or xs k d) (is_among xs (slice_index_or xs k d)) (among_at xs k d (omega (arith, inside)))

filtered : (p : ℕ → Bool) (xs : List ℕ) (w : ℕ) → p w ≡ true → is_among xs w ≡ true → Contains (filter p xs) w
filtered p xs w passes among = contained (filter p xs) w (is_among-filter p xs w ∙ rw (passes, among) refl)

-- of some of a list those that pass, by a test that agrees on its members
filter_both : (p q k : ℕ → Bool) (xs : List ℕ) → ((w : ℕ) → is_among xs w ≡ true → p w ≡ k w) → filter (λ w. p w && q w) xs ≡ filter q (filter k xs)
filter_both p q k [] same = refl
filter_both p q k (x ∷ xs) same =
    let here : p x ≡ k x = same x (or_left (x == x) (is_among xs x) (eq-eqb x x refl)) in
    let more : filter (λ w. p w && q w) xs ≡ filter q (filter k xs) = filter_both p q k xs (λ w among. same w (or_right (x == w) (is_among xs w) among)) in
    ⊎_elim
    (λ (kx : k x ≡ true). rw (here ∙ kx, kx) (ap (λ (ys : List ℕ). if q x then x ∷ ys else ys) more))
    (λ (kx : k x ≡ false). rw (here ∙ kx, kx) more)
    (cases_Bool (k x))

not_zero : (n : ℕ) → (n == 0) ≡ false → n ≢ 0
not_zero n e z = let c : true ≡ false = sym (eq-eqb n 0 z) ∙ e in absurd cc

-- A kept record is there, and its checksum matches or is absent.

pub record IsGood (image : Image) (w : ℕ) : Type 0 where
  kind : kind_of w ≡ blocks_256
  stands : stands_as image blocks_256 w ≡ true
  checks : entry_checks (entry_at image w) ≡ true

record_good : (image : Image) (w : ℕ) (e : RecordFields) → fields_at image w ≡ Some e → e.checks ≡ true → IsGood image w
unfolding fields_at
record_good image w e is checks = by (stands_as image blocks_256 w) refl is
  where
    none : None ≡ Some e → ⊥
    none c = cc

    by : (t : Bool) → stands_as image blocks_256 w ≡ t → (if t then Some (fields_of (entry_at image w)) else None) ≡ Some e → IsGood image w
    by false s h = absurd (none h)
    by true s h =
        let same : fields_of (entry_at image w) ≡ e = cc in
        record { kind = eqb-true (kind_of w) blocks_256 (and_parts (stands_in image w) (kind_of w == blocks_256) s).1; stands = s; checks = ap (λ (f : RecordFields). f.checks) same ∙ checks }

pub kept_good : (image : Image) (ks : List shown.Loaded) (said : List Loaded) (w : ℕ) → AreShown image ks said → is_kept_record ks w ≡ true → IsGood image w
unfolding store_of
kept_good image [] [] w are is = absurd (let c : false ≡ true = is in cc)
kept_good image [] (s ∷ said) w are is = absurd are
kept_good image (k ∷ ks) [] w are is = absurd are
kept_good image (k ∷ ks) (s ∷ said) w are is = ⊎_elim
    (λ (x : (eqb k.contents w ≡ true) × (k.contents ≡ w)).
    load-then {P = IsGood image w} (store_of image) held_rule are.0.node k are.0.loads
    (λ n e facts. subst (IsGood image) (sym facts.facts.contents_is ∙ x.1) (record_good image n.contents e facts.entry facts.checks)))
    (λ (x : (eqb k.contents w ≡ false) × _). kept_good image ks said w are.1 (rw x.0 at is))
    (eqb_tells k.contents w)

-- the records of what is kept are valid among the block files
pub entries_stand : (files : BlockFiles) (image : Image) (said : List Loaded) (words : List ℕ) → Agrees files image → AreShown image (kept image) said → words ≡ map (λ (s : Loaded). s.entry) said → All (λ w. is_record_among files w ≡ true) words
entries_stand files image said words agrees are words_are =
    subst (All (λ w. is_record_among files w ≡ true)) (sym words_are)
    (λ k d inside.
    let w : ℕ = slice_index_or (map (λ (s : Loaded). s.entry) said) k d in
    let is : is_kept_record (kept image) w ≡ true = sym (same_entries image (kept image) said w are) ∙ among_at (map (λ (s : Loaded). s.entry) said) k d inside in
    names_stand files image w agrees ∙ (kept_good image (kept image) said w are is).stands)

-- What a scan reports of absent checksums.

module _ (image : Image) (small : AreBytes image) (said : List Loaded) (are : AreShown image (kept image) said) (keep : ℕ → Bool) (keeps : (w : ℕ) → keep w ≡ is_among (map (λ (s : Loaded). s.node) said) w) where
  abbrev entries : List ℕ
  entries = map (λ (s : Loaded). s.entry) said

  abbrev bare_words : List ℕ
  bare_words = filter (is_kept_bare_node keep image) (completed_walk image) ++ filter (is_bare_record image) entries

  keeps_nodes : (w : ℕ) → keep w ≡ is_among (map (λ (k : shown.Loaded). k.node) (kept image)) w
  keeps_nodes w = keeps w ∙ ap (λ (ns : List ℕ). is_among ns w) (all_nodes_told image (kept image) said are)

  node_walked : (w : ℕ) → is_among (map (λ (k : shown.Loaded). k.node) (kept image)) w ≡ true → is_among (completed_walk image) w ≡ true
  unfolding kept
  node_walked w among =
      let nodes : List ℕ = completed_walk image in
      let here : is_among (kept_nodes (store_of image) held_rule nodes) w ≡ true = ap (λ (ns : List ℕ). is_among ns w) (sym (kept-nodes (store_of image) held_rule nodes (walk-once (completed_list (list_of image))))) ∙ among in
      (and_parts (is_kept (store_of image) held_rule nodes w) (is_among nodes w) (sym (is_among-filter (is_kept (store_of image) held_rule nodes) nodes w) ∙ here)).1

  node_checked : (w : ℕ) → is_among (completed_walk image) w ≡ true → (kind_of w ≡ rankings) × (node_checks (node_at image w) ≡ true)
  unfolding list_of checks_at
  node_checked w among =
      let checked : checks_at image w ≡ true = ap (λ (checks : ℕ → Bool). checks w) (sym (checks-completed (list_of image))) ∙ (walks-distinct (completed_list (list_of image))).1 w among in
      let parts = and_parts (stands_as image rankings w) (node_checks (node_at image w)) checked in
      (eqb-true (kind_of w) rankings (and_parts (stands_in image w) (kind_of w == rankings) parts.0).1, parts.1)

  node_covered : (w : ℕ) → is_among (map (λ (k : shown.Loaded). k.node) (kept image)) w ≡ true → IsSealedAt image w ⊎ Contains bare_words w
  node_covered w among =
      let walked = node_walked w among in
      let good = node_checked w walked in
      ⊎_elim
      (λ (z : ((node_at image w).self_hash == 0) ≡ true).
      inr (Contains-append_left (filter (is_kept_bare_node keep image) (completed_walk image)) (filter (is_bare_record image) entries) w (filtered (is_kept_bare_node keep image) (completed_walk image) w (rw (keeps_nodes w ∙ among, z) refl) walked)))
      (λ (z : ((node_at image w).self_hash == 0) ≡ false). inl (nodes-sealed image w small good.0 good.1 (not_zero (node_at image w).self_hash z)))
      (cases_Bool ((node_at image w).self_hash == 0))

  record_covered : (w : ℕ) → is_kept_record (kept image) w ≡ true → IsSealedAt image w ⊎ Contains bare_words w
  record_covered w is =
      let good = kept_good image (kept image) said w are is in
      ⊎_elim
      (λ (z : ((entry_at image w).self_hash == 0) ≡ true).
      inr (Contains-append_right (filter (is_kept_bare_node keep image) (completed_walk image)) (filter (is_bare_record image) entries) w (filtered (is_bare_record image) entries w z (same_entries image (kept image) said w are ∙ is))))
      (λ (z : ((entry_at image w).self_hash == 0) ≡ false). inl (records-sealed image w small good.kind good.checks (not_zero (entry_at image w).self_hash z)))
      (cases_Bool ((entry_at image w).self_hash == 0))

  pub bare_told : AreBare image bare_words
  bare_told = record {
    are_kept = All-append (IsOfKept image) (filter (is_kept_bare_node keep image) (completed_walk image)) (filter (is_bare_record image) entries)
        (All-weaker (λ w. is_kept_bare_node keep image w ≡ true) (IsOfKept image) (λ w e. inl (sym (keeps_nodes w) ∙ (and_parts (keep w) ((node_at image w).self_hash == 0) e).0)) (filter (is_kept_bare_node keep image) (completed_walk image)) (filter_passes (is_kept_bare_node keep image) (completed_walk image)))
        (All-filter (is_bare_record image) (IsOfKept image) entries (λ k d inside. inr (sym (same_entries image (kept image) said (slice_index_or entries k d) are) ∙ among_at entries k d inside)));
    others = λ w of. ⊎_elim (λ (among : is_among (map (λ (k : shown.Loaded). k.node) (kept image)) w ≡ true). node_covered w among) (λ (is : is_kept_record (kept image) w ≡ true). record_covered w is) of;
  }

  -- the walked nodes that are kept and have no checksum are the nodes of the kept entries that have none
  bare_nodes_are : filter (is_kept_bare_node keep image) (completed_walk image) ≡ filter (is_bare_node image) (map (λ (k : shown.Loaded). k.node) (kept image))
  unfolding kept
  bare_nodes_are =
      let nodes : List ℕ = completed_walk image in
      let kept_are : map (λ (k : shown.Loaded). k.node) (kept image) ≡ kept_nodes (store_of image) held_rule nodes = kept-nodes (store_of image) held_rule nodes (walk-once (completed_list (list_of image))) in
      filter_both keep (is_bare_node image) (is_kept (store_of image) held_rule nodes) nodes
      (λ w among. keeps_nodes w ∙ ap (λ (ns : List ℕ). is_among ns w) kept_are ∙ is_among-filter (is_kept (store_of image) held_rule nodes) nodes w
      ∙ ap (λ (b : Bool). is_kept (store_of image) held_rule nodes w && b) among ∙ and-true (is_kept (store_of image) held_rule nodes w))
      ∙ ap (filter (is_bare_node image)) (sym kept_are)

  pub bare_exact : (before after nodes words : List ℕ) → nodes ≡ completed_walk image → words ≡ entries → before ≡ filter (is_kept_bare_node keep image) nodes → after ≡ before ++ filter (is_bare_record image) words → after ≡ bare_of_kept image
  bare_exact before after nodes words nodes_are words_are before_is after_is =
      after_is
      ∙ ap₂ (λ (xs ys : List ℕ). xs ++ ys) (before_is ∙ ap (filter (is_kept_bare_node keep image)) nodes_are ∙ bare_nodes_are)
      (ap (filter (is_bare_record image)) (words_are ∙ all_entries_told image (kept image) said are))

  pub bare_are : (before after nodes words : List ℕ) → nodes ≡ completed_walk image → words ≡ entries → before ≡ filter (is_kept_bare_node keep image) nodes → after ≡ before ++ filter (is_bare_record image) words → AreBare image after
  bare_are before after nodes words nodes_are words_are before_is after_is =
      subst (AreBare image)
      (sym (after_is ∙ ap₂ (λ (xs ys : List ℕ). xs ++ ys) (before_is ∙ ap (filter (is_kept_bare_node keep image)) nodes_are) (ap (filter (is_bare_record image)) words_are)))
      bare_told
