-- One round over the groups of a map, from one on and round to the start, word after word.
use Rattle.std.proofs.Common.{◌≡◌, ◌≢◌, ℕ, ◌+◌, ◌-◌, ◌*◌, ◌/◌, ◌%◌, ◌<◌, ◌≤◌, Bool, sym, ◌∙◌, ap, arith, ⊎_elim}
use Rattle.std.proofs.lemmas.Bool.{cases_lt}
use Rattle.std.proofs.Math.Nat.{div-add-mod, mod-add-mod, mod-eq_of_lt, mod-lt, mul-add-mod_self_left, mul_assoc, add-mod_right}
use Rattle.spec_format.specs.Maps.{longest_run}
use Rattle.blk_alloc.specs.Fitting.{IsFirstMet}

-- a group of a word that is met on the round
pub group_met : (a words i : ℕ) → 0 < words → i < 8 → (8 * a + i) % (8 * words) ≡ 8 * (a % words) + i
group_met a words i some small =
    let c : ℕ = 8 * (a % words) + i in
    let parts = div-add-mod a words in
    let times : 8 * words * (a / words) ≡ 8 * (words * (a / words)) = mul_assoc 8 words (a / words) in
    let split : 8 * a + i ≡ 8 * words * (a / words) + c = omega (arith, parts, times) in
    let low : a % words < words = mod-lt a some in
    ap (λ (x : ℕ). x % (8 * words)) split ∙ mul-add-mod_self_left (8 * words) (a / words) c ∙ mod-eq_of_lt (omega (arith, low, small))

-- no group of the first so many words of the round from a hint on has a longest free run of this length
abbrev pub Seen : (ℕ → Bool) → ℕ → ℕ → ℕ → ℕ → Type 0
Seen marked words hint run turn = (p : ℕ) → hint % (8 * words) ≤ p → p < 8 * (hint % (8 * words) / 8 + turn) → longest_run marked (p % (8 * words)) ≢ run

module _ (marked : ℕ → Bool) (words hint run : ℕ) (some : 0 < words) where
  abbrev pub groups : ℕ
  groups = 8 * words

  abbrev pub start : ℕ
  start = hint % groups

  abbrev SeenSo : ℕ → Type 0
  SeenSo = Seen marked words hint run

  start_low : start < groups
  start_low = mod-lt hint (omega (arith, some))

  pub seen_none : SeenSo 0
  seen_none p low high = absurd (omega (arith, low, high))

  -- a group of a word is met where the round has come to it
  met_at : (turn i : ℕ) → i < 8 → (8 * (start / 8 + turn) + i) % groups ≡ 8 * ((start / 8 + turn) % words) + i
  met_at turn i small = group_met (start / 8 + turn) words i some small

  pub seen_more : (turn : ℕ) → SeenSo turn → (first : ℕ) → ((i : ℕ) → start ≤ 8 * (start / 8 + turn) + i → first ≤ i)
      → ((i : ℕ) → first ≤ i → i < 8 → longest_run marked (8 * ((start / 8 + turn) % words) + i) ≢ run) → SeenSo (turn + 1)
  seen_more turn seen first from none p low high =
      ⊎_elim (λ (before : p < 8 * (start / 8 + turn)). seen p low before)
      (λ (here : 8 * (start / 8 + turn) ≤ p).
      let i : ℕ = p - 8 * (start / 8 + turn) in
      let is : 8 * (start / 8 + turn) + i ≡ p = omega (arith, here) in
      let small : i < 8 = omega (arith, here, high) in
      let met : p % groups ≡ 8 * ((start / 8 + turn) % words) + i = ap (λ (x : ℕ). x % groups) (sym is) ∙ met_at turn i small in
      λ (e : longest_run marked (p % groups) ≡ run). none i (from i (omega (arith, is, low))) small (ap (longest_run marked) (sym met) ∙ e))
      (cases_lt p (8 * (start / 8 + turn)))

  hinted : (k : ℕ) → (hint + k) % groups ≡ (start + k) % groups
  hinted k = sym (mod-add-mod hint groups k)

  module _ (turn : ℕ) (seen : SeenSo turn) (most : turn ≤ words) (first i : ℕ) (from : (j : ℕ) → start ≤ 8 * (start / 8 + turn) + j → first ≤ j) (reached : start ≤ 8 * (start / 8 + turn) + i) (small : i < 8)
      (longest : longest_run marked (8 * ((start / 8 + turn) % words) + i) ≡ run) (before : (j : ℕ) → first ≤ j → j < i → longest_run marked (8 * ((start / 8 + turn) % words) + j) ≢ run) where
    abbrev p0 : ℕ
    p0 = 8 * (start / 8 + turn) + i

    abbrev group : ℕ
    group = 8 * ((start / 8 + turn) % words) + i

    p0_met : p0 % groups ≡ group
    p0_met = met_at turn i small

    none_before : (p : ℕ) → start ≤ p → p < p0 → longest_run marked (p % groups) ≢ run
    none_before p low high =
        ⊎_elim (λ (earlier : p < 8 * (start / 8 + turn)). seen p low earlier)
        (λ (here : 8 * (start / 8 + turn) ≤ p).
        let j : ℕ = p - 8 * (start / 8 + turn) in
        let is : 8 * (start / 8 + turn) + j ≡ p = omega (arith, here) in
        let less : j < i = omega (arith, here, high) in
        let met : p % groups ≡ 8 * ((start / 8 + turn) % words) + j = ap (λ (x : ℕ). x % groups) (sym is) ∙ met_at turn j (omega (arith, less, small)) in
        λ (e : longest_run marked (p % groups) ≡ run). before j (from j (omega (arith, is, low))) less (ap (longest_run marked) (sym met) ∙ e))
        (cases_lt p (8 * (start / 8 + turn)))

    -- a group of a word is met within one round
    within : p0 < start + groups
    within =
        ⊎_elim (λ (h : p0 < start + groups). h)
        (λ (past : start + groups ≤ p0).
        let p1 : ℕ = p0 - groups in
        let is : p1 + groups ≡ p0 = omega (arith, past) in
        let same : p1 % groups ≡ group = sym (add-mod_right p1 groups) ∙ ap (λ (x : ℕ). x % groups) is ∙ p0_met in
        absurd (seen p1 (omega (arith, past)) (omega (arith, past, small, some)) (ap (longest_run marked) same ∙ longest)))
        (cases_lt p0 (start + groups))

    pub met_first : IsFirstMet marked groups hint run group
    met_first = record {
      turns = p0 - start;
      few = omega (arith, within, reached);
      met = sym (hinted (p0 - start) ∙ ap (λ (x : ℕ). x % groups) {x = start + (p0 - start)} {y = p0} (omega (arith, reached)) ∙ p0_met);
      longest = longest;
      none_before = λ k less e. none_before (start + k) (omega arith) (omega (arith, less, reached)) (ap (longest_run marked) (sym (hinted k)) ∙ e);
    }

    -- the group at the hint is met at once
    pub at_once : group ≡ hint % groups → turn ≡ 0
    at_once is =
        ⊎_elim (λ (none : turn < 1). omega (arith, none))
        (λ (later : 1 ≤ turn). let low = start_low in absurd (seen start (omega arith) (omega (arith, later)) (ap (longest_run marked) (mod-eq_of_lt low ∙ sym is) ∙ longest)))
        (cases_lt turn 1)

  -- a whole round has seen each group
  pub all_seen : (turn : ℕ) → SeenSo turn → words + 1 ≤ turn → (g : ℕ) → g < groups → longest_run marked g ≢ run
  all_seen turn seen whole g small e =
      let low = start_low in
      ⊎_elim (λ (before : g < start). seen (g + groups) (omega (arith, low)) (omega (arith, before, whole)) (ap (longest_run marked) (add-mod_right g groups ∙ mod-eq_of_lt small) ∙ e))
      (λ (from : start ≤ g). seen g from (omega (arith, small, whole)) (ap (longest_run marked) (mod-eq_of_lt small) ∙ e))
      (cases_lt g start)

-- the place in a word with which an iteration begins
module _ (turn start first : ℕ) (begins : turn ≡ 0 → first ≡ start % 8) (goes_on : 0 < turn → first ≡ 0) where
  pub begins_low : (j : ℕ) → start ≤ 8 * (start / 8 + turn) + j → first ≤ j
  begins_low j low =
      ⊎_elim (λ (none : turn < 1). let e : turn ≡ 0 = omega (arith, none) in let is = begins e in omega (arith, is, low, e))
      (λ (later : 1 ≤ turn). let is = goes_on later in omega (arith, is))
      (cases_lt turn 1)

  pub begins_reached : (j : ℕ) → first ≤ j → start ≤ 8 * (start / 8 + turn) + j
  begins_reached j low =
      ⊎_elim (λ (none : turn < 1). let e : turn ≡ 0 = omega (arith, none) in let is = begins e in omega (arith, is, low, e))
      (λ (later : 1 ≤ turn). omega (arith, later))
      (cases_lt turn 1)

-- an iteration of the round, by the marks of the word that was read
module _ (marked bits : ℕ → Bool) (words hint run turn first : ℕ) (some : 0 < words) (seen : Seen marked words hint run turn)
    (begins : turn ≡ 0 → first ≡ hint % (8 * words) % 8) (goes_on : 0 < turn → first ≡ 0)
    (runs : (i : ℕ) → i < 8 → longest_run bits i ≡ longest_run marked (8 * ((hint % (8 * words) / 8 + turn) % words) + i)) where
  pub turn_none : ((i : ℕ) → first ≤ i → i < 8 → longest_run bits i ≢ run) → Seen marked words hint run (turn + 1)
  turn_none none =
      seen_more marked words hint run some turn seen first (begins_low turn (hint % (8 * words)) first begins goes_on)
      (λ i low small e. none i low small (runs i small ∙ e))

  module _ (i : ℕ) (low : first ≤ i) (small : i < 8) (longest : longest_run bits i ≡ run) (before : (k : ℕ) → first ≤ k → k < i → longest_run bits k ≢ run) (most : turn ≤ words) where
    pub turn_met : IsFirstMet marked (8 * words) hint run (8 * ((hint % (8 * words) / 8 + turn) % words) + i)
    turn_met =
        met_first marked words hint run some turn seen most first i (begins_low turn (hint % (8 * words)) first begins goes_on) (begins_reached turn (hint % (8 * words)) first begins goes_on i low) small
        (sym (runs i small) ∙ longest) (λ k from less e. before k from less (runs k (omega (arith, less, small)) ∙ e))

    pub turn_once : 8 * ((hint % (8 * words) / 8 + turn) % words) + i ≡ hint % (8 * words) → turn ≡ 0
    turn_once is =
        at_once marked words hint run some turn seen most first i (begins_low turn (hint % (8 * words)) first begins goes_on) (begins_reached turn (hint % (8 * words)) first begins goes_on i low) small
        (sym (runs i small) ∙ longest) (λ k from less e. before k from less (runs k (omega (arith, less, small)) ∙ e)) is
