-- Something else lies at a node of a state: what was there is unlinked, or is there still.
use Rattle.std.proofs.Common.{◌≡◌, ℕ, List, [], ◌∷◌, ◌++◌, refl, ap, sym, ◌∙◌, subst, Bool, true, false, Option, Some, None, ⊎_elim, ◌⊎◌, append_assoc}
use Rattle.std.specs.Prelude.{◌==◌, not, IsSomeAnd}
use Rattle.std.specs.Option.{option_map_or}
use Rattle.std.specs.List.{All, AllByRecursion, cons_option, filter_map, flat_map}
use Rattle.std.specs.List.Sorted.{IsPermutation}
use Rattle.std.proofs.lemmas.Bool.{cases_Bool, eqb-true, or_parts}
use Rattle.std.proofs.lemmas.List.Elements.{All-head, All-tail}
use Rattle.std.proofs.lemmas.List.Sorted.{All-permutation, IsPermutation-append_left, IsPermutation-append_right, IsPermutation-sym, IsPermutation-trans}
use Rattle.blk_model.specs.State.{State, Object, IsValidState, object_at}
use Rattle.spec_image.specs.Image.{Image, Index, byte}
use Rattle.spec_format.specs.BlockFiles.{is_among, stands_in}
use Rattle.spec_format.specs.Claims.{Claim, claims_of, claims_of_all, has_claim, repeats}
use Rattle.spec_format.specs.Headers.{this_id_of}
use Rattle.spec_folder.specs.Layout.{Layout, Represents, changed_at, order, rule_of}
use Rattle.spec_folder.specs.ListView.{Distinct, put}
use Rattle.spec_folder.specs.Loads.{Loaded, all_claims}
use Rattle.spec_folder.specs.Sound.{words_of}
use Rattle.spec_folder.specs.StandsFor.{AreNumbers, IsOwner}
use Rattle.spec_folder.specs.Tidy.{doomed_nodes}
use Rattle.spec_folder.specs.View.{view_of}
use Rattle.law_folder.proofs.claims.Allocations.{all-from, join, repeats-head, words-claims, words-stand}
use Rattle.law_folder.proofs.states.Changing.{apart-sym, at-elsewhere, at-itself}
use Rattle.law_folder.proofs.claims.ClaimLists.{repeats-append}
use Rattle.law_folder.proofs.lists.Lists.{has_not}
use Rattle.std.proofs.lemmas.Grind.{flat_map-append}
use Rattle.law_state.specs.Arranging.{IsArranged, LeavesFiles}
use Rattle.law_state.specs.Keeping.{AllAreSealed, AreMarkedBy, KeepsUncounted, all_loaded, all_nodes, words_in_use}
use Rattle.law_state.proofs.Arranging.{rearranged}
use Rattle.law_state.proofs.Claimed.{once-alike}
use Rattle.law_state.proofs.Headers.{stand-same}
use Rattle.law_state.proofs.Touched.{node-to-front, words-append, words_at}

-- ---- lists

pub all-to : (P : ℕ → Type 0) (xs : List ℕ) → All P xs → AllByRecursion P xs
all-to P [] all = tt
all-to P (x ∷ xs) all = (All-head P x xs all, all-to P xs (All-tail P x xs all))

pub first-of : (P : ℕ → Type 0) (xs ys : List ℕ) → AllByRecursion P (xs ++ ys) → AllByRecursion P xs
first-of P [] ys all = tt
first-of P (x ∷ xs) ys all = (all.0, first-of P xs ys all.1)

-- where a word is in a list
pub record IsAmid (xs : List ℕ) (w : ℕ) : Type 0 where
  pub prefix : List ℕ
  pub suffix : List ℕ
  pub is : xs ≡ prefix ++ w ∷ suffix

pub amid : (xs : List ℕ) (w : ℕ) → is_among xs w ≡ true → IsAmid xs w
amid [] w e = absurd (let z : false ≡ true = e in cc)
amid (x ∷ xs) w e = ⊎_elim
    (λ (here : (x == w) ≡ true). record { prefix = []; suffix = xs; is = ap (λ (v : ℕ). v ∷ xs) (eqb-true x w here) })
    (λ (there : (x == w) ≡ false). let more = amid xs w (rw there at e) in record { prefix = x ∷ more.prefix; suffix = more.suffix; is = ap (λ (vs : List ℕ). x ∷ vs) more.is })
    (cases_Bool (x == w))

-- what lies at other nodes is the same
pub others-at : (at : ℕ → Option Loaded) (node : ℕ) (now : Option Loaded) (nodes : List ℕ) → is_among nodes node ≡ false → filter_map (put at node now) nodes ≡ filter_map at nodes
others-at at node now [] none = refl
others-at at node now (x ∷ nodes) none =
    let parts = or_parts (x == node) (is_among nodes node) none in
    (λ i. cons_option (at-elsewhere at node now x (apart-sym x node parts.0) i) (filter_map (put at node now) nodes)) ∙ ap (λ (ls : List Loaded). cons_option (at x) ls) (others-at at node now nodes parts.1)

-- what is in use with something else at a node
module _ (at : ℕ → Option Loaded) (node : ℕ) (was now : Loaded) (here : at node ≡ Some was) (unlinked left : List ℕ) (same : IsPermutation (unlinked ++ words_of was) (left ++ words_of now)) where
  one : (f : ℕ → Option Loaded) (l : Loaded) → f node ≡ Some l → words_at f (node ∷ []) ≡ words_of l
  one f l is = ap (λ (o : Option Loaded). flat_map words_of (cons_option o [])) is ∙ nothing (words_of l) where
    nothing : (xs : List ℕ) → xs ++ [] ≡ xs
    nothing [] = refl
    nothing (x ∷ xs) = ap (λ (ys : List ℕ). x ∷ ys) (nothing xs)

  pub words-changed : (nodes : List ℕ) → is_among nodes node ≡ true → Distinct nodes → IsPermutation (unlinked ++ words_at at nodes) (left ++ words_at (put at node (Some now)) nodes)
  words-changed nodes among once =
      IsPermutation-trans (unlinked ++ words_at at nodes) (unlinked ++ (words_of was ++ rest)) (left ++ words_at (put at node (Some now)) nodes)
      (IsPermutation-append_right unlinked (words_at at nodes) (words_of was ++ rest) (subst (IsPermutation (words_at at nodes)) old-front old))
      (IsPermutation-trans (unlinked ++ (words_of was ++ rest)) (left ++ (words_of now ++ rest)) (left ++ words_at (put at node (Some now)) nodes)
      (subst (λ (xs : List ℕ). IsPermutation xs (left ++ (words_of now ++ rest))) (append_assoc unlinked (words_of was) rest) (subst (IsPermutation ((unlinked ++ words_of was) ++ rest)) (append_assoc left (words_of now) rest) (IsPermutation-append_left rest (unlinked ++ words_of was) (left ++ words_of now) same)))
      (IsPermutation-append_right left (words_of now ++ rest) (words_at (put at node (Some now)) nodes) (subst (λ (xs : List ℕ). IsPermutation xs (words_at (put at node (Some now)) nodes)) new-front (IsPermutation-sym _ _ new))))
    where
      p : IsAmid nodes node
      p = amid nodes node among

      rest : List ℕ
      rest = words_at at (p.prefix ++ p.suffix)

      apart : is_among (p.prefix ++ p.suffix) node ≡ false
      apart = has_not p.prefix node p.suffix (subst Distinct p.is once)

      old : IsPermutation (words_at at nodes) (words_at at (node ∷ p.prefix ++ p.suffix))
      old = subst (λ (ns : List ℕ). IsPermutation (words_at at ns) (words_at at (node ∷ p.prefix ++ p.suffix))) (sym p.is) (node-to-front at p.prefix node p.suffix)

      old-front : words_at at (node ∷ p.prefix ++ p.suffix) ≡ words_of was ++ rest
      old-front = words-append at (node ∷ []) (p.prefix ++ p.suffix) ∙ ap (λ (xs : List ℕ). xs ++ rest) (one at was here)

      new : IsPermutation (words_at (put at node (Some now)) nodes) (words_at (put at node (Some now)) (node ∷ p.prefix ++ p.suffix))
      new = subst (λ (ns : List ℕ). IsPermutation (words_at (put at node (Some now)) ns) (words_at (put at node (Some now)) (node ∷ p.prefix ++ p.suffix))) (sym p.is) (node-to-front (put at node (Some now)) p.prefix node p.suffix)

      new-front : words_at (put at node (Some now)) (node ∷ p.prefix ++ p.suffix) ≡ words_of now ++ rest
      new-front = words-append (put at node (Some now)) (node ∷ []) (p.prefix ++ p.suffix)
          ∙ ap (λ (xs : List ℕ). xs ++ words_at (put at node (Some now)) (p.prefix ++ p.suffix)) (one (put at node (Some now)) now (at-itself at node (Some now)))
          ∙ ap (λ (ls : List Loaded). words_of now ++ flat_map words_of ls) (others-at at node (Some now) (p.prefix ++ p.suffix) apart)

-- ---- doomed objects

-- whether an object is doomed
abbrev pub is_dead : Option Object → Bool
is_dead o = option_map_or (λ object. not object.live) o false

pub numbers-same : (state other : State) (layout now : Layout) (numbers : List ℕ) → ((number : ℕ) → is_dead (object_at other number) ≡ is_dead (object_at state number)) → ((number : ℕ) → is_among numbers number ≡ true → now.state (now.place_of_doomed number) ≡ layout.state (layout.place_of_doomed number)) → AreNumbers state layout numbers → AreNumbers other now numbers
numbers-same state other layout now numbers same kinds a = record {
  each = each numbers a.each;
  once = a.once;
  all = λ number object is dead. found number (object_at state number) refl (sym (same number) ∙ ap is_dead is ∙ ap not dead);
  records = λ number among. kinds number among ∙ a.records number among;
} where
  found : (number : ℕ) (o : Option Object) → object_at state number ≡ o → is_dead (object_at state number) ≡ true → is_among numbers number ≡ true
  found number None is dead = absurd (let z : false ≡ true = ap is_dead (sym is) ∙ dead in cc)
  found number (Some object) is dead = a.all number object is (turn object.live (ap is_dead (sym is) ∙ dead)) where
    turn : (t : Bool) → not t ≡ true → t ≡ false
    turn true e = absurd (let z : false ≡ true = e in cc)
    turn false e = refl

  dead-there : (o : Option Object) → is_dead o ≡ true → IsSomeAnd o (λ object. object.live ≡ false)
  dead-there None e = absurd (let z : false ≡ true = e in cc)
  dead-there (Some object) e = turn object.live e where
    turn : (t : Bool) → not t ≡ true → t ≡ false
    turn true e = absurd (let z : false ≡ true = e in cc)
    turn false e = refl

  was-dead : (o : Option Object) → IsSomeAnd o (λ object. object.live ≡ false) → is_dead o ≡ true
  was-dead None e = absurd e
  was-dead (Some object) e = ap not e

  each : (ns : List ℕ) → AllByRecursion (λ number. IsSomeAnd (object_at state number) (λ object. object.live ≡ false)) ns → AllByRecursion (λ number. IsSomeAnd (object_at other number) (λ object. object.live ≡ false)) ns
  each [] all = tt
  each (n ∷ ns) all = (dead-there (object_at other n) (same n ∙ was-dead (object_at state n) all.0), each ns all.1)

-- ---- the whole

module _ (state other : State) (layout : Layout) (unlinked left : List ℕ) (node : ℕ) (was now : Loaded) (owner : Claim → Option ℕ) (from image : Image) (k : KeepsUncounted state layout unlinked from)
    (here : layout.at node ≡ Some was) (among : is_among (all_nodes state layout k.numbers) node ≡ true) (leaves : LeavesFiles from image) (same : IsPermutation (unlinked ++ words_of was) (left ++ words_of now))
    (owned : (claim : Claim) (n : ℕ) → owner claim ≡ Some n → ((n ≡ node) × (has_claim (all_claims now) claim ≡ true)) ⊎ (((node == n) ≡ false) × (layout.owner claim ≡ Some n)))
    (free : (claim : Claim) → has_claim (claims_of_all left) claim ≡ true → owner claim ≡ None)
    (uses : order other layout ≡ order state layout) (dead : (number : ℕ) → is_dead (object_at other number) ≡ is_dead (object_at state number)) (valid : IsValidState other)
    (represents : Represents (view_of image) other (changed_at layout node now owner)) (sealed : AllAreSealed image (changed_at layout node now owner)) (marked : AreMarkedBy (this_id_of (byte image Index)) other (changed_at layout node now owner)) where
  nodes-same : all_nodes other (changed_at layout node now owner) k.numbers ≡ all_nodes state layout k.numbers
  nodes-same = ap (λ (ns : List ℕ). ns ++ doomed_nodes layout k.numbers) uses

  -- what was there, and what is unlinked, is valid and is used once
  stood : AllByRecursion (λ w. stands_in from w ≡ true) (unlinked ++ words_of was)
  stood = join (λ w. stands_in from w ≡ true) unlinked (words_of was) k.unlinked_words.stand (words-stand from was (rule_of layout node, node, k.represents.holds.shows.each node was here))

  once : repeats (claims_of_all (unlinked ++ words_of was)) ≡ false
  once = ap repeats (flat_map-append claims_of unlinked (words_of was) ∙ ap (λ (cs : List Claim). claims_of_all unlinked ++ cs) (words-claims was))
      ∙ repeats-append (claims_of_all unlinked) (all_claims was) k.unlinked_words.single (k.represents.holds.lies.single node was here)
      (λ c mine its. let z : ◌≡◌ {A = Option ℕ} None (Some node) = sym (k.unlinked_words.free c mine) ∙ k.represents.holds.lies.own node was c here its in cc)

  exact : (claim : Claim) (n : ℕ) → owner claim ≡ Some n → IsOwner other (changed_at layout node now owner) (doomed_nodes layout k.numbers) claim n
  exact claim n is = ⊎_elim
      (λ (new : (n ≡ node) × (has_claim (all_claims now) claim ≡ true)). record {
        among = subst (λ (x : ℕ). is_among (order other layout ++ doomed_nodes layout k.numbers) x ≡ true) (sym new.0) (ap (λ (ns : List ℕ). is_among ns node) nodes-same ∙ among);
        loaded = now;
        here = ap (put layout.at node (Some now)) new.0 ∙ at-itself layout.at node (Some now);
        claims = new.1;
      })
      (λ (old : ((node == n) ≡ false) × (layout.owner claim ≡ Some n)). let o : IsOwner state layout (doomed_nodes layout k.numbers) claim n = k.owners.exact claim n old.1 in record {
        among = ap (λ (ns : List ℕ). is_among ns n) nodes-same ∙ o.among;
        loaded = o.loaded;
        here = at-elsewhere layout.at node (Some now) n old.0 ∙ o.here;
        claims = o.claims;
      })
      (owned claim n is)

  arranged : IsArranged other (changed_at layout node now owner) k.numbers left image
  arranged = record {
    valid = valid;
    represents = represents;
    owners = record {
      exact = exact;
      once = subst Distinct (sym nodes-same) k.owners.once;
      doomed = numbers-same state other layout (changed_at layout node now owner) k.numbers dead (λ number there. refl) k.owners.doomed;
    };
    unlinked_words = record {
      stand = stand-same from image leaves.headers left (first-of (λ w. stands_in from w ≡ true) left (words_of now) (all-to (λ w. stands_in from w ≡ true) (left ++ words_of now) (All-permutation (λ w. stands_in from w ≡ true) (unlinked ++ words_of was) (left ++ words_of now) same (all-from (λ w. stands_in from w ≡ true) (unlinked ++ words_of was) stood))));
      free = free;
      single = repeats-head (claims_of_all left) (claims_of_all (words_of now)) (ap repeats (sym (flat_map-append claims_of left (words_of now))) ∙ once-alike (unlinked ++ words_of was) (left ++ words_of now) same once);
    };
    sealed = sealed;
    marked = marked;
  }

  pub node-changed : KeepsUncounted other (changed_at layout node now owner) left image
  node-changed = rearranged state other layout (changed_at layout node now owner) unlinked left k.numbers from image k leaves arranged
      (subst (λ (ns : List ℕ). IsPermutation (words_in_use unlinked (all_loaded state layout k.numbers)) (left ++ words_at (put layout.at node (Some now)) ns)) (sym nodes-same) (words-changed layout.at node was now here unlinked left same (all_nodes state layout k.numbers) among k.owners.once))
