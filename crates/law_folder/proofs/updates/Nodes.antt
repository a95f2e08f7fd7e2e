-- What an update of a node shows.
use Rattle.std.proofs.Common.{◌≡◌, ◌≢◌, ◌⊎◌, inl, inr, ⊎_elim, ℕ, ◌+◌, ◌*◌, ◌^◌, ◌%◌, ◌<◌, ◌≤◌, true, false, if◌then◌else◌, List, [], ◌∷◌, All, length, take, get_or, Some, refl, sym, ◌∙◌, ap, subst, arith}
use Rattle.std.specs.Prelude.{◌==◌}
use Rattle.std.proofs.lemmas.Bool.{and_parts, cases_Bool, cases_lt, eqb-true, eq-eqb}
use Rattle.spec_image.specs.Bytes.{content, word_at}
use Rattle.spec_image.specs.Image.{Block, Image, byte}
use Rattle.spec_image.specs.Steps.{with_word, with_words}
use Rattle.spec_image.proofs.Runs.{some_inj}
use Rattle.spec_image.proofs.Words.{word-beside, word-there}
use Rattle.spec_format.specs.Address.{kind_of, file_selector, place, rankings}
use Rattle.spec_format.specs.Records.{Node, node_in, node_checks}
use Rattle.spec_format.specs.BlockFiles.{stands_in}
use Rattle.spec_format.specs.Claims.{claims_of, has_claim}
use Rattle.spec_folder.specs.ListView.{Next, Prev, put, after_writes}
use Rattle.spec_folder.specs.View.{NodeFields, stands_as, node_at, list_of, checks_at, next_at, prev_at, store_of, node_fields_at}
use Rattle.spec_folder.specs.Footprint.{IsClear}
use Rattle.law_folder.proofs.lists.Lists.{eqb-sym}
use Rattle.law_folder.proofs.claims.ByteChanges.{not_equal}
use Rattle.law_folder.proofs.claims.NodeWords.{is-node, other-clear}
use Rattle.spec_format.specs.Sealed.{AreChanges, BeginsWithRecord, IsMidUpdate, record_at, record_size, seal_place, size_by_kind}
use Rattle.spec_format.proofs.SealedRecords.{length-record}
use Rattle.spec_format.proofs.SealedFields.{record_word, field_stays}
use Rattle.spec_folder.specs.ShownChanges.{ShowsTheSame, OnlyNodeFieldsChange}
use Rattle.law_folder.specs.NodeUpdates.{IsNode, NextsAreWritten, PrevsAreWritten, TimesAreNotShown, ContentsAreWritten, DirtyWordsAreWritten}
use Rattle.law_folder.proofs.updates.Prefixes.{open_node}
use Rattle.law_folder.proofs.claims.Inside.{record-changes}
use Rattle.law_folder.proofs.updates.Updates.{node-seal, node-here, node-made, node-checks}
use Rattle.law_folder.proofs.updates.StillShown.{standing-parts, stands_as-all, index-still, table-still, entries-still, follows-still, keys-still, stored-still}

-- what a node says
abbrev names_of : Node → NodeFields
names_of n = record { contents = n.contents; dirty = n.dirty }

pub good-stands : (image : Image) (w : ℕ) → (list_of image).checks w ≡ true → stands_as image rankings w ≡ true
unfolding list_of checks_at
good-stands image w good = (and_parts (stands_as image rankings w) (node_checks (node_at image w)) good).0

-- what a node that is there shows
shown-node : (image : Image) (w : ℕ) → stands_as image rankings w ≡ true
    → (checks_at image w ≡ node_checks (node_at image w)) × (next_at image w ≡ (node_at image w).next) × (prev_at image w ≡ (node_at image w).prev) × (node_fields_at image w ≡ Some (names_of (node_at image w)))
unfolding checks_at next_at prev_at node_fields_at
shown-node image w st = (rw st refl, rw st refl, rw st refl, rw st refl)

-- a value at one place and elsewhere
by-place : {A : Type 0} (f g : ℕ → A) (w : ℕ) → f w ≡ g w → ((u : ℕ) → (w == u) ≡ false → f u ≡ g u) → (u : ℕ) → f u ≡ g u
by-place f g w here others u = ⊎_elim
    (λ (e : (w == u) ≡ true). subst (λ (y : ℕ). f y ≡ g y) (eqb-true w u e) here)
    (λ (e : (w == u) ≡ false). others u e)
    (cases_Bool (w == u))

put-there : (f : ℕ → ℕ) (w x : ℕ) → x ≡ put f w x w
unfolding put
put-there f w x = rw (eq-eqb w w refl) refl

put-apart : (f : ℕ → ℕ) (w x u : ℕ) → (w == u) ≡ false → f u ≡ put f w x u
unfolding put
put-apart f w x u e = rw (eqb-sym w u e) refl

-- a node of bytes in which one word is written
module _ (b : List ℕ) (x : ℕ) (long : length b ≡ 36) (small : x < 2 ^ 32) where
  with-next : open_node (node_in (content (with_word 16 x b)) 0) ≡ record (open_node (node_in (content b) 0)) { next = x }
  unfolding node_in
  with-next =
      let s = (λ (j : ℕ) (h : (j + 4 ≤ 16) ⊎ (16 + 4 ≤ j)). word-beside j 16 x b h) in
      λ i. record {
        last_used = s 0 (inl (omega arith)) i + 4294967296 * s 4 (inl (omega arith)) i;
        last_modified = s 8 (inl (omega arith)) i + 4294967296 * s 12 (inl (omega arith)) i;
        next = word-there 16 x b small (omega arith) i;
        prev = s 20 (inr (omega arith)) i;
        contents = s 24 (inr (omega arith)) i;
        dirty = s 28 (inr (omega arith)) i;
        self_hash = 0;
      }

  with-prev : open_node (node_in (content (with_word 20 x b)) 0) ≡ record (open_node (node_in (content b) 0)) { prev = x }
  unfolding node_in
  with-prev =
      let s = (λ (j : ℕ) (h : (j + 4 ≤ 20) ⊎ (20 + 4 ≤ j)). word-beside j 20 x b h) in
      λ i. record {
        last_used = s 0 (inl (omega arith)) i + 4294967296 * s 4 (inl (omega arith)) i;
        last_modified = s 8 (inl (omega arith)) i + 4294967296 * s 12 (inl (omega arith)) i;
        next = s 16 (inl (omega arith)) i;
        prev = word-there 20 x b small (omega arith) i;
        contents = s 24 (inr (omega arith)) i;
        dirty = s 28 (inr (omega arith)) i;
        self_hash = 0;
      }

  with-contents : open_node (node_in (content (with_word 24 x b)) 0) ≡ record (open_node (node_in (content b) 0)) { contents = x }
  unfolding node_in
  with-contents =
      let s = (λ (j : ℕ) (h : (j + 4 ≤ 24) ⊎ (24 + 4 ≤ j)). word-beside j 24 x b h) in
      λ i. record {
        last_used = s 0 (inl (omega arith)) i + 4294967296 * s 4 (inl (omega arith)) i;
        last_modified = s 8 (inl (omega arith)) i + 4294967296 * s 12 (inl (omega arith)) i;
        next = s 16 (inl (omega arith)) i;
        prev = s 20 (inl (omega arith)) i;
        contents = word-there 24 x b small (omega arith) i;
        dirty = s 28 (inr (omega arith)) i;
        self_hash = 0;
      }

  with-dirty : open_node (node_in (content (with_word 28 x b)) 0) ≡ record (open_node (node_in (content b) 0)) { dirty = x }
  unfolding node_in
  with-dirty =
      let s = (λ (j : ℕ) (h : (j + 4 ≤ 28) ⊎ (28 + 4 ≤ j)). word-beside j 28 x b h) in
      λ i. record {
        last_used = s 0 (inl (omega arith)) i + 4294967296 * s 4 (inl (omega arith)) i;
        last_modified = s 8 (inl (omega arith)) i + 4294967296 * s 12 (inl (omega arith)) i;
        next = s 16 (inl (omega arith)) i;
        prev = s 20 (inl (omega arith)) i;
        contents = s 24 (inl (omega arith)) i;
        dirty = word-there 28 x b small (omega arith) i;
        self_hash = 0;
      }

-- one change is made or not
pub none-or-one : (m : ℕ) → m ≤ 1 → (m ≡ 0) ⊎ (m ≡ 1)
none-or-one m most = ⊎_elim (λ (e : m < 1). inl (omega arith)) (λ (e : 1 ≤ m). inr (omega arith)) (cases_lt m 1)

module _ (from image : Image) (w : ℕ) (node : IsNode from w) (changes : List (ℕ × ℕ)) (moment : IsMidUpdate from w changes image) where
  as-node : stands_as from rankings w ≡ true
  as-node = good-stands from w node.good

  standing : stands_in from w ≡ true
  standing = (standing-parts from rankings w as-node).0

  kind : kind_of w ≡ rankings
  kind = (standing-parts from rankings w as-node).1

  begins : BeginsWithRecord w
  begins = inl kind

  as-node-now : stands_as image rankings w ≡ true
  as-node-now = stands_as-all from image w standing begins moment.outside rankings w ∙ as-node

  good-now : checks_at image w ≡ checks_at from w
  unfolding list_of
  good-now = (shown-node image w as-node-now).0 ∙ node-checks from image w changes node.bytes moment kind ∙ sym node.good

  -- the other nodes
  clear : (u : ℕ) → stands_as from rankings u ≡ true → (w == u) ≡ false → IsClear (has_claim (claims_of w)) u
  clear u e apart = other-clear from w u (is-node from w as-node) (is-node from u e) apart

  others : (u : ℕ) → (w == u) ≡ false → (checks_at image u ≡ checks_at from u) × (next_at image u ≡ next_at from u) × (prev_at image u ≡ prev_at from u) × (node_fields_at image u ≡ node_fields_at from u)
  unfolding list_of store_of checks_at next_at prev_at node_fields_at
  others u apart = ⊎_elim
      (λ (e : stands_as from rankings u ≡ true).
      let shown = (record-changes from image w standing begins moment.outside).shown in
      let c = clear u e apart in
      (sym (shown.links.checks u c), sym (shown.links.next u c), sym (shown.links.prev u c), sym (shown.store.node_fields u c)))
      (λ (e : stands_as from rankings u ≡ false).
      let s : stands_as image rankings u ≡ false = stands_as-all from image w standing begins moment.outside rankings u ∙ e in
      (rw (s, e) refl, rw (s, e) refl, rw (s, e) refl, rw (s, e) refl))
      (cases_Bool (stands_as from rankings u))

  -- the list, where the links of the node are these
  list-for : (next prev : ℕ → ℕ) → (node_at image w).next ≡ next w → (node_at image w).prev ≡ prev w
      → ((u : ℕ) → (w == u) ≡ false → next_at from u ≡ next u) → ((u : ℕ) → (w == u) ≡ false → prev_at from u ≡ prev u)
      → list_of image ≡ record (list_of from) { next = next; prev = prev }
  unfolding list_of
  list-for next prev here here2 beside beside2 =
      let f = index-still from image w standing begins moment.outside in
      let now = shown-node image w as-node-now in
      let good = by-place (checks_at image) (checks_at from) w good-now (λ u e. (others u e).0) in
      let nexts = by-place (next_at image) next w (now.1 ∙ here) (λ u e. (others u e).1 ∙ beside u e) in
      let prevs = by-place (prev_at image) prev w (now.2 ∙ here2) (λ u e. (others u e).2 ∙ beside2 u e) in
      λ i. record {
        head = word_at (f i) 288;
        tail = word_at (f i) 308;
        transaction = word_at (f i) 328;
        operation = word_at (f i) 332;
        checks = λ u. good u i;
        next = λ u. nexts u i;
        prev = λ u. prevs u i;
      }

  -- the list, where they are as before
  list-kept : (node_at image w).next ≡ (node_at from w).next → (node_at image w).prev ≡ (node_at from w).prev → list_of image ≡ list_of from
  unfolding list_of
  list-kept here here2 =
      let was = shown-node from w as-node in
      list-for (next_at from) (prev_at from) (here ∙ sym was.1) (here2 ∙ sym was.2) (λ u e. refl) (λ u e. refl)

  -- all but the fields of nodes shows the same
  rest : ShowsTheSame (record (store_of from) { node_fields = (store_of image).node_fields }) (store_of image)
  rest = record {
    store = record {
      node_fields = λ u c. refl;
      entry = λ u c. entries-still from image w standing begins moment.outside kind u;
      chain_next = λ u c. follows-still from image w standing begins moment.outside kind u;
      key_place = λ u fields c is long short. keys-still from image w standing begins moment.outside kind u fields is long short;
      stored = λ size u c. stored-still from image w standing begins moment.outside kind size u;
    };
    table = λ b. table-still from image w standing begins moment.outside b;
  }

  -- the store view, where the node says the same
  stock-for : names_of (node_at image w) ≡ names_of (node_at from w) → ShowsTheSame (store_of from) (store_of image)
  unfolding store_of
  stock-for here =
      let node_fields : (u : ℕ) → node_fields_at from u ≡ node_fields_at image u =
      by-place (node_fields_at from) (node_fields_at image) w ((shown-node from w as-node).3 ∙ sym ((shown-node image w as-node-now).3 ∙ ap (λ (n : NodeFields). Some n) here)) (λ u e. sym (others u e).3) in
      record {
        store = record { node_fields = λ u c. node_fields u; entry = rest.store.entry; chain_next = rest.store.chain_next; key_place = rest.store.key_place; stored = rest.store.stored };
        table = rest.table;
      }

  -- what the node says
  named-is : (said : NodeFields) → names_of (node_at image w) ≡ said → (store_of image).node_fields w ≡ Some said
  unfolding store_of
  named-is said here = (shown-node image w as-node-now).3 ∙ ap (λ (n : NodeFields). Some n) here

  named-was : (node_fields : NodeFields) → (store_of from).node_fields w ≡ Some node_fields → names_of (node_at from w) ≡ node_fields
  unfolding store_of
  named-was node_fields is = some_inj (sym (shown-node from w as-node).3 ∙ is)

  named-changes : (node_at image w).next ≡ (node_at from w).next → (node_at image w).prev ≡ (node_at from w).prev → OnlyNodeFieldsChange w from image
  unfolding store_of
  named-changes here here2 = record {
    list = list-kept here here2;
    node_fields = λ u apart. sym (others u (not_equal w u (λ e. apart (sym e)))).3;
    rest = rest;
  }

-- one word
module _ (from image : Image) (w d x : ℕ) (node : IsNode from w) (moment : IsMidUpdate from w ((d, x) ∷ []) image) where
  kind-one : kind_of w ≡ rankings
  kind-one = kind from image w node ((d, x) ∷ []) moment

  node-old : moment.made ≡ 0 → open_node (node_at image w) ≡ open_node (node_at from w)
  node-old e =
      node-made from image w ((d, x) ∷ []) node.bytes moment kind-one
      ∙ ap (λ (m : ℕ). open_node (node_in (content (with_words (take m ((d, x) ∷ [])) (record_at from w))) 0)) e
      ∙ sym (node-here from w kind-one)

  node-new : moment.made ≡ 1 → open_node (node_at image w) ≡ open_node (node_in (content (with_word d x (record_at from w))) 0)
  node-new e =
      node-made from image w ((d, x) ∷ []) node.bytes moment kind-one
      ∙ ap (λ (m : ℕ). open_node (node_in (content (with_words (take m ((d, x) ∷ [])) (record_at from w))) 0)) e

  long : length (record_at from w) ≡ 36
  long = let s : seal_place w ≡ 32 = node-seal w kind-one in omega (arith, s, length-record w from)

  made-cases : (moment.made ≡ 0) ⊎ (moment.made ≡ 1)
  made-cases = none-or-one moment.made (let h : moment.made ≤ 1 = moment.within in h)

pub nexts-written : NextsAreWritten
unfolding list_of
nexts-written from image w x node small moment = ⊎_elim
    (λ (e : moment.made ≡ 0).
    let n = node-old from image w 16 x node moment e in
    record {
      list = subst (λ (m : ℕ). list_of image ≡ after_writes (take m (Next w x ∷ [])) (list_of from)) (sym e) (list-kept from image w node _ moment (ap (λ (a : Node). a.next) n) (ap (λ (a : Node). a.prev) n));
      store = stock-for from image w node _ moment (ap names_of n);
    })
    (λ (e : moment.made ≡ 1).
    let n : open_node (node_at image w) ≡ record (open_node (node_at from w)) { next = x } =
    node-new from image w 16 x node moment e ∙ with-next (record_at from w) x (long from image w 16 x node moment) small ∙ ap (λ (a : Node). record a { next = x }) (sym (node-here from w (kind-one from image w 16 x node moment))) in
    let was = shown-node from w (as-node from image w node _ moment) in
    record {
      list = subst (λ (m : ℕ). list_of image ≡ after_writes (take m (Next w x ∷ [])) (list_of from)) (sym e)
          (list-for from image w node _ moment (put (next_at from) w x) (prev_at from) (ap (λ (a : Node). a.next) n ∙ put-there (next_at from) w x) (ap (λ (a : Node). a.prev) n ∙ sym was.2) (λ u apart. put-apart (next_at from) w x u apart) (λ u apart. refl));
      store = stock-for from image w node _ moment (ap names_of n);
    })
    (made-cases from image w 16 x node moment)

pub prevs-written : PrevsAreWritten
unfolding list_of
prevs-written from image w x node small moment = ⊎_elim
    (λ (e : moment.made ≡ 0).
    let n = node-old from image w 20 x node moment e in
    record {
      list = subst (λ (m : ℕ). list_of image ≡ after_writes (take m (Prev w x ∷ [])) (list_of from)) (sym e) (list-kept from image w node _ moment (ap (λ (a : Node). a.next) n) (ap (λ (a : Node). a.prev) n));
      store = stock-for from image w node _ moment (ap names_of n);
    })
    (λ (e : moment.made ≡ 1).
    let n : open_node (node_at image w) ≡ record (open_node (node_at from w)) { prev = x } =
    node-new from image w 20 x node moment e ∙ with-prev (record_at from w) x (long from image w 20 x node moment) small ∙ ap (λ (a : Node). record a { prev = x }) (sym (node-here from w (kind-one from image w 20 x node moment))) in
    let was = shown-node from w (as-node from image w node _ moment) in
    record {
      list = subst (λ (m : ℕ). list_of image ≡ after_writes (take m (Prev w x ∷ [])) (list_of from)) (sym e)
          (list-for from image w node _ moment (next_at from) (put (prev_at from) w x) (ap (λ (a : Node). a.next) n ∙ sym was.1) (ap (λ (a : Node). a.prev) n ∙ put-there (prev_at from) w x) (λ u apart. refl) (λ u apart. put-apart (prev_at from) w x u apart));
      store = stock-for from image w node _ moment (ap names_of n);
    })
    (made-cases from image w 20 x node moment)

-- a field of a node that no change is of
module _ (from image : Image) (w : ℕ) (changes : List (ℕ × ℕ)) (node : IsNode from w) (are : AreChanges (seal_place w) changes) (moment : IsMidUpdate from w changes image) where
  word-kept : (d : ℕ) → d % 4 ≡ 0 → d < 32 → All (λ change. change.0 ≢ d) changes → word_at (byte image (Block (file_selector w))) (place w + d) ≡ word_at (byte from (Block (file_selector w))) (place w + d)
  unfolding size_by_kind
  word-kept d even inside other =
      let k : kind_of w ≡ rankings = kind from image w node changes moment in
      let s : seal_place w ≡ 32 = node-seal w k in
      let fits : d + 4 ≤ record_size w = rw k (omega (arith, even, inside)) in
      sym (record_word image w d fits) ∙ field_stays from image w changes are moment d even (omega (arith, s, inside)) other ∙ record_word from w d fits

pub times-hidden : TimesAreNotShown
unfolding node_in
times-hidden from image w changes node are early moment =
    let other : (d : ℕ) → 16 ≤ d → All (λ change. change.0 ≢ d) changes = λ d later i c within e. let h : (get_or changes i c).0 < 16 = early i c within in omega (arith, h, e, later) in
    let k : (d : ℕ) → d % 4 ≡ 0 → 16 ≤ d → d < 32 → word_at (byte image (Block (file_selector w))) (place w + d) ≡ word_at (byte from (Block (file_selector w))) (place w + d) = λ d even low high. word-kept from image w changes node are moment d even high (other d low) in
    record {
      list = list-kept from image w node changes moment (k 16 refl (omega arith) (omega arith)) (k 20 refl (omega arith) (omega arith));
      store = stock-for from image w node changes moment (λ i. record { contents = k 24 refl (omega arith) (omega arith) i; dirty = k 28 refl (omega arith) (omega arith) i });
    }

pub contents-written : ContentsAreWritten
contents-written from image w x node small moment node_fields is =
    let was : names_of (node_at from w) ≡ node_fields = named-was from image w node _ moment node_fields is in
    ⊎_elim
    (λ (e : moment.made ≡ 0).
    let n = node-old from image w 24 x node moment e in (
      named-changes from image w node _ moment (ap (λ (a : Node). a.next) n) (ap (λ (a : Node). a.prev) n),
      subst (λ (m : ℕ). (store_of image).node_fields w ≡ Some (if m == 0 then node_fields else record node_fields { contents = x })) (sym e) (named-is from image w node _ moment node_fields (ap names_of n ∙ was)),
    ))
    (λ (e : moment.made ≡ 1).
    let n : open_node (node_at image w) ≡ record (open_node (node_at from w)) { contents = x } =
    node-new from image w 24 x node moment e ∙ with-contents (record_at from w) x (long from image w 24 x node moment) small ∙ ap (λ (a : Node). record a { contents = x }) (sym (node-here from w (kind-one from image w 24 x node moment))) in (
      named-changes from image w node _ moment (ap (λ (a : Node). a.next) n) (ap (λ (a : Node). a.prev) n),
      subst (λ (m : ℕ). (store_of image).node_fields w ≡ Some (if m == 0 then node_fields else record node_fields { contents = x })) (sym e)
          (named-is from image w node _ moment (record node_fields { contents = x }) (ap names_of n ∙ ap (λ (a : NodeFields). record a { contents = x }) was)),
    ))
    (made-cases from image w 24 x node moment)

pub dirty-written : DirtyWordsAreWritten
dirty-written from image w x node small moment node_fields is =
    let was : names_of (node_at from w) ≡ node_fields = named-was from image w node _ moment node_fields is in
    ⊎_elim
    (λ (e : moment.made ≡ 0).
    let n = node-old from image w 28 x node moment e in (
      named-changes from image w node _ moment (ap (λ (a : Node). a.next) n) (ap (λ (a : Node). a.prev) n),
      subst (λ (m : ℕ). (store_of image).node_fields w ≡ Some (if m == 0 then node_fields else record node_fields { dirty = x })) (sym e) (named-is from image w node _ moment node_fields (ap names_of n ∙ was)),
    ))
    (λ (e : moment.made ≡ 1).
    let n : open_node (node_at image w) ≡ record (open_node (node_at from w)) { dirty = x } =
    node-new from image w 28 x node moment e ∙ with-dirty (record_at from w) x (long from image w 28 x node moment) small ∙ ap (λ (a : Node). record a { dirty = x }) (sym (node-here from w (kind-one from image w 28 x node moment))) in (
      named-changes from image w node _ moment (ap (λ (a : Node). a.next) n) (ap (λ (a : Node). a.prev) n),
      subst (λ (m : ℕ). (store_of image).node_fields w ≡ Some (if m == 0 then node_fields else record node_fields { dirty = x })) (sym e)
          (named-is from image w node _ moment (record node_fields { dirty = x }) (ap names_of n ∙ ap (λ (a : NodeFields). record a { dirty = x }) was)),
    ))
    (made-cases from image w 28 x node moment)
