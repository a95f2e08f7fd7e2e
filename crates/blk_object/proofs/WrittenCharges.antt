-- The sum of the costs of the listed items once a stream of one of them is written.
use Rattle.std.proofs.Common.{◌≡◌, ⊎_elim, ℕ, zero, suc, ◌+◌, ◌<◌, List, [], ◌∷◌, length, refl, ap, sym, ◌∙◌, arith, true, false, Option, None, Some}
use Rattle.std.specs.Prelude.{◌==◌, ◌||◌, if◌then◌else◌}
use Rattle.std.specs.List.{cons_option, filter_map, sum_by}
use Rattle.std.proofs.lemmas.Bool.{cases_Bool, eqb-true, or_parts}
use Rattle.std.proofs.lemmas.Bool.Decides.{nat_tests}
use Rattle.std.proofs.lemmas.List.Sums.{sum_by-cons}
use Rattle.spec_format.specs.BlockFiles.{is_among}
use Rattle.spec_folder.specs.Entries.{stream}
use Rattle.spec_folder.specs.Found.{charge_of}
use Rattle.spec_folder.specs.ListView.{Distinct, put}
use Rattle.spec_folder.specs.Loads.{Loaded}
use Rattle.law_folder.proofs.states.Changing.{at-elsewhere, at-itself}
use Rattle.blk_stream.specs.Loading.{stored_streams_with}

-- ---- one entry

-- three streams, one of which is another
pub streams-sum : (streams : List (List ℕ)) (i : ℕ) (new : List ℕ) → i < 3 → streams ≡ stream 0 streams ∷ stream 1 streams ∷ stream 2 streams ∷ [] → sum_by length (stored_streams_with i new streams) + length (stream i streams) ≡ sum_by length streams + length new
unfolding stored_streams_with
streams-sum streams i new less three = ap (λ (n : ℕ). n + length (stream i streams)) (sums _ _ _) ∙ go i less ∙ ap (λ (n : ℕ). n + length new) (sym (ap (sum_by length) three ∙ sums _ _ _)) where
  sums : (a b c : List ℕ) → sum_by length (a ∷ b ∷ c ∷ []) ≡ length a + length b + length c
  sums a b c =
      let x = sum_by-cons length a (b ∷ c ∷ []) in
      let y = sum_by-cons length b (c ∷ []) in
      let z = sum_by-cons length c [] in
      omega (arith, x, y, z)

  go : (i : ℕ) → i < 3 → length (if i == 0 then new else stream 0 streams) + length (if i == 1 then new else stream 1 streams) + length (if i == 2 then new else stream 2 streams) + length (stream i streams) ≡ length (stream 0 streams) + length (stream 1 streams) + length (stream 2 streams) + length new
  go zero less = omega arith
  go (suc zero) less = omega arith
  go (suc (suc zero)) less = omega arith
  go (suc (suc (suc n))) less = absurd (omega (arith, less))

pub charge-written : (was now : Loaded) (i : ℕ) (new : List ℕ) → i < 3 → was.streams ≡ stream 0 was.streams ∷ stream 1 was.streams ∷ stream 2 was.streams ∷ [] → now.key ≡ was.key → now.streams ≡ stored_streams_with i new was.streams
    → charge_of now + length (stream i was.streams) ≡ charge_of was + length new
charge-written was now i new less three key streams =
    let sum = streams-sum was.streams i new less three in
    let k = ap length key in
    let s = ap (sum_by length) streams in
    omega (arith, sum, k, s)

-- ---- all of them

abbrev charged : (ℕ → Option Loaded) → List ℕ → ℕ
charged at nodes = sum_by charge_of (filter_map at nodes)

-- one node's first
charged-first : (at : ℕ → Option Loaded) (l : Loaded) (x : ℕ) (nodes : List ℕ) → at x ≡ Some l → charged at (x ∷ nodes) ≡ charge_of l + charged at nodes
charged-first at l x nodes is = ap (λ (o : Option Loaded). sum_by charge_of (cons_option o (filter_map at nodes))) is ∙ sum_by-cons charge_of l (filter_map at nodes)

pub charged-elsewhere : (at : ℕ → Option Loaded) (node : ℕ) (now : Loaded) (nodes : List ℕ) → is_among nodes node ≡ false → filter_map (put at node (Some now)) nodes ≡ filter_map at nodes
charged-elsewhere at node now [] none = refl
charged-elsewhere at node now (x ∷ nodes) none =
    let parts = or_parts (x == node) (is_among nodes node) none in
    (λ j. cons_option (at-elsewhere at node (Some now) x (turned x node parts.0) j) (filter_map (put at node (Some now)) nodes)) ∙ ap (λ (ls : List Loaded). cons_option (at x) ls) (charged-elsewhere at node now nodes parts.1)
  where
    turned : (a b : ℕ) → (a == b) ≡ false → (b == a) ≡ false
    turned a b e = grind (arith, nat_tests)

pub charged-there : (at : ℕ → Option Loaded) (node : ℕ) (was now : Loaded) (nodes : List ℕ) → at node ≡ Some was → is_among nodes node ≡ true → Distinct nodes → charged (put at node (Some now)) nodes + charge_of was ≡ charged at nodes + charge_of now
charged-there at node was now [] here among once = absurd (let z : false ≡ true = among in cc)
charged-there at node was now (x ∷ nodes) here among once = ⊎_elim
    (λ (e : (x == node) ≡ true).
    let same : x ≡ node = eqb-true x node e in
    let out : is_among nodes node ≡ false = ap (is_among nodes) (sym same) ∙ once.0 in
    let a = charged-first (put at node (Some now)) now x nodes (ap (put at node (Some now)) same ∙ at-itself at node (Some now)) in
    let b = charged-first at was x nodes (ap at same ∙ here) in
    let c = ap (sum_by charge_of) (charged-elsewhere at node now nodes out) in
    omega (arith, a, b, c))
    (λ (e : (x == node) ≡ false).
    let rest = charged-there at node was now nodes here (let h : ((x == node) || is_among nodes node) ≡ true = among in rw e at h) once.1 in
    let back : (node == x) ≡ false = grind (arith, nat_tests) in
    let a : charged (put at node (Some now)) (x ∷ nodes) ≡ sum_by charge_of (cons_option (at x) (filter_map (put at node (Some now)) nodes)) = ap (λ (o : Option Loaded). sum_by charge_of (cons_option o (filter_map (put at node (Some now)) nodes))) (at-elsewhere at node (Some now) x back) in
    go (at x) a refl rest)
    (cases_Bool (x == node))
  where
    go : (o : Option Loaded) → charged (put at node (Some now)) (x ∷ nodes) ≡ sum_by charge_of (cons_option o (filter_map (put at node (Some now)) nodes)) → at x ≡ o → charged (put at node (Some now)) nodes + charge_of was ≡ charged at nodes + charge_of now
        → charged (put at node (Some now)) (x ∷ nodes) + charge_of was ≡ charged at (x ∷ nodes) + charge_of now
    go None a is rest =
        let b : charged at (x ∷ nodes) ≡ charged at nodes = ap (λ (o : Option Loaded). sum_by charge_of (cons_option o (filter_map at nodes))) is in
        omega (arith, a, b, rest)
    go (Some l) a is rest =
        let b = charged-first at l x nodes is in
        let c = a ∙ sum_by-cons charge_of l (filter_map (put at node (Some now)) nodes) in
        omega (arith, b, c, rest)
