-- How a chain goes on.
use Rattle.std.proofs.Common.{◌≡◌, ℕ, zero, suc, Bool, true, false, ◌||◌, ◌&&◌, not, List, [], ◌∷◌, ◌++◌, map, None, Some, refl, sym, ap, ap₂, subst, ◌∙◌, arith, append_assoc, if◌then◌else◌}
use Rattle.std.specs.Prelude.{◌==◌}
use Rattle.std.proofs.lemmas.List.{append-nil}
use Rattle.std.proofs.lemmas.Bool.{eqb-true, and_parts}
use Rattle.spec_format.specs.BlockFiles.{is_among}
use Rattle.spec_format.proofs.Among.{is_among-append}
use Rattle.spec_folder.specs.View.{StoreView}
use Rattle.spec_folder.specs.Chains.{Chain, chain, chain_from, file_and_block, is_of_bucket, is_reached, most_records}
use Rattle.blk_audit.specs.Chaining.{AreOfFirst, IsOfFirst, IsReach, reached_by}
use Rattle.blk_audit.proofs.FirstBlocks.{map_last}
use Rattle.blk_audit.proofs.Walks.{among_last}

module _ (store : StoreView) (bucket : ℕ) where
  abbrev pub reached_from : ℕ → List ℕ → ℕ → List ℕ
  reached_from most met w = (chain_from store bucket most met w).reached

  -- the word at which a chain ends
  abbrev pub end_from : ℕ → List ℕ → ℕ → ℕ
  end_from most met w = (chain_from store bucket most met w).end

  choice : (t : Bool) (w end : ℕ) (more : Chain) → (if t then record more { reached = w ∷ more.reached } else record { reached = []; end = end }).reached ≡ (if t then w ∷ more.reached else [])
  choice true w end more = refl
  choice false w end more = refl

  choice_end : (t : Bool) (w end : ℕ) (more : Chain) → (if t then record more { reached = w ∷ more.reached } else record { reached = []; end = end }).end ≡ (if t then more.end else end)
  choice_end true w end more = refl
  choice_end false w end more = refl

  -- one record of a chain
  pub one_step : (most : ℕ) (met : List ℕ) (w : ℕ) → reached_from (suc most) met w ≡ (if is_reached store bucket met w then w ∷ reached_from most (file_and_block w ∷ met) (store.chain_next w) else [])
  unfolding chain_from
  one_step most met w = choice (is_reached store bucket met w) w w (chain_from store bucket most (file_and_block w ∷ met) (store.chain_next w))

  one_end : (most : ℕ) (met : List ℕ) (w : ℕ) → end_from (suc most) met w ≡ (if is_reached store bucket met w then end_from most (file_and_block w ∷ met) (store.chain_next w) else w)
  unfolding chain_from
  one_end most met w = choice_end (is_reached store bucket met w) w w (chain_from store bucket most (file_and_block w ∷ met) (store.chain_next w))

  -- only the first blocks of records of the bucket count
  chain_met : (most : ℕ) (met other : List ℕ) (w : ℕ) → ((v : ℕ) → is_of_bucket store bucket v ≡ true → is_among met (file_and_block v) ≡ is_among other (file_and_block v)) → reached_from most met w ≡ reached_from most other w
  unfolding chain_from
  chain_met zero met other w same = refl
  chain_met (suc most) met other w same =
      one_step most met w
      ∙ by (is_of_bucket store bucket w) refl (chain_met most (file_and_block w ∷ met) (file_and_block w ∷ other) (store.chain_next w) (λ v is. ap (λ (b : Bool). (file_and_block w == file_and_block v) || b) (same v is)))
      ∙ sym (one_step most other w)
    where
      and_none : (a : Bool) → (a && false) ≡ false
      and_none true = refl
      and_none false = refl

      by : (t : Bool) → is_of_bucket store bucket w ≡ t → reached_from most (file_and_block w ∷ met) (store.chain_next w) ≡ reached_from most (file_and_block w ∷ other) (store.chain_next w)
          → (if is_reached store bucket met w then w ∷ reached_from most (file_and_block w ∷ met) (store.chain_next w) else []) ≡ (if is_reached store bucket other w then w ∷ reached_from most (file_and_block w ∷ other) (store.chain_next w) else [])
      by true of rest = ap₂ (λ (t : Bool) (rest : List ℕ). if not t && is_of_bucket store bucket w then w ∷ rest else []) (same w of) rest
      by false of rest =
          ap (λ (t : Bool). if t then w ∷ reached_from most (file_and_block w ∷ met) (store.chain_next w) else []) (ap (λ (t : Bool). not (is_among met (file_and_block w)) && t) of ∙ and_none (not (is_among met (file_and_block w))))
          ∙ sym (ap (λ (t : Bool). if t then w ∷ reached_from most (file_and_block w ∷ other) (store.chain_next w) else []) (ap (λ (t : Bool). not (is_among other (file_and_block w)) && t) of ∙ and_none (not (is_among other (file_and_block w)))))

  end_met : (most : ℕ) (met other : List ℕ) (w : ℕ) → ((v : ℕ) → is_of_bucket store bucket v ≡ true → is_among met (file_and_block v) ≡ is_among other (file_and_block v)) → end_from most met w ≡ end_from most other w
  unfolding chain_from
  end_met zero met other w same = refl
  end_met (suc most) met other w same =
      one_end most met w
      ∙ by (is_of_bucket store bucket w) refl (end_met most (file_and_block w ∷ met) (file_and_block w ∷ other) (store.chain_next w) (λ v is. ap (λ (b : Bool). (file_and_block w == file_and_block v) || b) (same v is)))
      ∙ sym (one_end most other w)
    where
      and_none : (a : Bool) → (a && false) ≡ false
      and_none true = refl
      and_none false = refl

      by : (t : Bool) → is_of_bucket store bucket w ≡ t → end_from most (file_and_block w ∷ met) (store.chain_next w) ≡ end_from most (file_and_block w ∷ other) (store.chain_next w)
          → (if is_reached store bucket met w then end_from most (file_and_block w ∷ met) (store.chain_next w) else w) ≡ (if is_reached store bucket other w then end_from most (file_and_block w ∷ other) (store.chain_next w) else w)
      by true of rest = ap₂ (λ (t : Bool) (rest : ℕ). if not t && is_of_bucket store bucket w then rest else w) (same w of) rest
      by false of rest =
          ap (λ (t : Bool). if t then end_from most (file_and_block w ∷ met) (store.chain_next w) else w) (ap (λ (t : Bool). not (is_among met (file_and_block w)) && t) of ∙ and_none (not (is_among met (file_and_block w))))
          ∙ sym (ap (λ (t : Bool). if t then end_from most (file_and_block w ∷ other) (store.chain_next w) else w) (ap (λ (t : Bool). not (is_among other (file_and_block w)) && t) of ∙ and_none (not (is_among other (file_and_block w)))))

  -- the first blocks that were met once a record is reached
  met_more : (old new : List ℕ) (w v : ℕ) → new ≡ old ++ w ∷ [] → is_among (file_and_block w ∷ map file_and_block old) (file_and_block v) ≡ is_among (map file_and_block new) (file_and_block v)
  met_more old new w v items =
      among_last (map file_and_block old) (file_and_block w) (file_and_block v)
      ∙ ap (λ (t : List ℕ). is_among t (file_and_block v)) (sym (map_last file_and_block old w) ∙ ap (map file_and_block) (sym items))

  pub reach_stops : (old : List ℕ) (w : ℕ) → is_reached store bucket (map file_and_block old) w ≡ false → IsReach store bucket old w old None
  reach_stops old w out most = (
    sym (append-nil old)
        ∙ ap (λ (t : List ℕ). old ++ t) (sym (one_step most (map file_and_block old) w ∙ ap (λ (t : Bool). if t then w ∷ reached_from most (file_and_block w ∷ map file_and_block old) (store.chain_next w) else []) out)),
    one_end most (map file_and_block old) w ∙ ap (λ (t : Bool). if t then end_from most (file_and_block w ∷ map file_and_block old) (store.chain_next w) else w) out,
  )

  pub reach_on : (old new : List ℕ) (w on : ℕ) → is_reached store bucket (map file_and_block old) w ≡ true → store.chain_next w ≡ on → new ≡ old ++ w ∷ [] → IsReach store bucket old w new (Some on)
  reach_on old new w on good is items = (
    items,
    λ most. (
      one_step most (map file_and_block old) w
          ∙ ap (λ (t : Bool). if t then w ∷ reached_from most (file_and_block w ∷ map file_and_block old) (store.chain_next w) else []) good
          ∙ ap (λ (n : ℕ). w ∷ reached_from most (file_and_block w ∷ map file_and_block old) n) is
          ∙ ap (λ (t : List ℕ). w ∷ t) (chain_met most (file_and_block w ∷ map file_and_block old) (map file_and_block new) on (λ v of. met_more old new w v items)),
      one_end most (map file_and_block old) w
          ∙ ap (λ (t : Bool). if t then end_from most (file_and_block w ∷ map file_and_block old) (store.chain_next w) else w) good
          ∙ ap (λ (n : ℕ). end_from most (file_and_block w ∷ map file_and_block old) n) is
          ∙ end_met most (file_and_block w ∷ map file_and_block old) (map file_and_block new) on (λ v of. met_more old new w v items),
    ),
  )

  -- a chain under way: what was reached, and what is to come from a word on
  pub record IsFollowed (old : List ℕ) (start : ℕ) (reached : List ℕ) (left word : ℕ) : Type 0 where
    pub all : old ++ reached_from most_records [] start ≡ reached ++ reached_from left (map file_and_block reached) word
    pub last : end_from most_records [] start ≡ end_from left (map file_and_block reached) word

  pub begins : (old : List ℕ) (start : ℕ) → ((v : ℕ) → is_of_bucket store bucket v ≡ true → is_among (map file_and_block old) (file_and_block v) ≡ false) → IsFollowed old start old 16777216 start
  begins old start apart = record {
    all = ap (λ (t : List ℕ). old ++ t) (chain_met 16777216 [] (map file_and_block old) start (λ v of. sym (apart v of)));
    last = end_met 16777216 [] (map file_and_block old) start (λ v of. sym (apart v of));
  }

  pub goes_on : (before old new : List ℕ) (start left more word next : ℕ) → left ≡ suc more → IsFollowed before start old left word → IsReach store bucket old word new (Some next) → IsFollowed before start new more next
  goes_on before old new start left more word next e on step = record {
    all = on.all
        ∙ ap (λ (n : ℕ). old ++ reached_from n (map file_and_block old) word) e
        ∙ ap (λ (t : List ℕ). old ++ t) (step.1 more).0
        ∙ sym (append_assoc old (word ∷ []) (reached_from more (map file_and_block new) next))
        ∙ ap (λ (t : List ℕ). t ++ reached_from more (map file_and_block new) next) (sym step.0);
    last = on.last ∙ ap (λ (n : ℕ). end_from n (map file_and_block old) word) e ∙ (step.1 more).1;
  }

  pub ends : (before old new : List ℕ) (start left more word : ℕ) → left ≡ suc more → IsFollowed before start old left word → IsReach store bucket old word new None → new ≡ before ++ reached_from most_records [] start
  ends before old new start left more word e on step = sym (on.all ∙ ap (λ (n : ℕ). old ++ reached_from n (map file_and_block old) word) e ∙ sym (step more).0)

  pub ends_at : (before old new : List ℕ) (start left more word : ℕ) → left ≡ suc more → IsFollowed before start old left word → IsReach store bucket old word new None → word ≡ end_from most_records [] start
  ends_at before old new start left more word e on step = sym (on.last ∙ ap (λ (n : ℕ). end_from n (map file_and_block old) word) e ∙ (step more).1)

  pub is_full : (before old : List ℕ) (start left word : ℕ) → left ≡ 0 → IsFollowed before start old left word → old ≡ before ++ reached_from most_records [] start
  unfolding chain_from
  is_full before old start left word e on = sym (on.all ∙ ap (λ (n : ℕ). old ++ reached_from n (map file_and_block old) word) e ∙ append-nil old)

  pub full_at : (before old : List ℕ) (start left word : ℕ) → left ≡ 0 → IsFollowed before start old left word → word ≡ end_from most_records [] start
  unfolding chain_from
  full_at before old start left word e on = sym (on.last ∙ ap (λ (n : ℕ). end_from n (map file_and_block old) word) e)

-- whether a record is reached

pub not_reached : (store : StoreView) (bucket : ℕ) (met : List ℕ) (w : ℕ) → is_of_bucket store bucket w ≡ false → is_reached store bucket met w ≡ false
not_reached store bucket met w e = ap (λ (t : Bool). not (is_among met (file_and_block w)) && t) e ∙ none (not (is_among met (file_and_block w)))
  where
    none : (a : Bool) → (a && false) ≡ false
    none true = refl
    none false = refl

pub not_new : (store : StoreView) (bucket : ℕ) (met : List ℕ) (w : ℕ) → is_among met (file_and_block w) ≡ true → is_reached store bucket met w ≡ false
not_new store bucket met w e = ap (λ (t : Bool). not t && is_of_bucket store bucket w) e

pub reached_new : (store : StoreView) (bucket : ℕ) (met : List ℕ) (w : ℕ) → is_among met (file_and_block w) ≡ false → is_of_bucket store bucket w ≡ true → is_reached store bucket met w ≡ true
reached_new store bucket met w e of = ap (λ (t : Bool). not t && is_of_bucket store bucket w) e ∙ of

-- the records of the first chains are of the first buckets

clash : {A : Type 0} → false ≡ true → A
clash e = absurd cc

pub chain_all : (store : StoreView) (bucket most : ℕ) (met : List ℕ) (w v : ℕ) → is_among (reached_from store bucket most met w) v ≡ true → is_of_bucket store bucket v ≡ true
unfolding chain_from
chain_all store bucket zero met w v h = clash h
chain_all store bucket (suc most) met w v h =
    by (is_reached store bucket met w) refl (λ (more : is_among (reached_from store bucket most (file_and_block w ∷ met) (store.chain_next w)) v ≡ true). chain_all store bucket most (file_and_block w ∷ met) (store.chain_next w) v more)
    (sym (ap (λ (t : List ℕ). is_among t v) (one_step store bucket most met w)) ∙ h)
  where
    here : (t : Bool) → (w == v) ≡ t → is_reached store bucket met w ≡ true → (is_among (reached_from store bucket most (file_and_block w ∷ met) (store.chain_next w)) v ≡ true → is_of_bucket store bucket v ≡ true)
        → ((w == v) || is_among (reached_from store bucket most (file_and_block w ∷ met) (store.chain_next w)) v) ≡ true → is_of_bucket store bucket v ≡ true
    here true e is rest h = subst (λ (u : ℕ). is_of_bucket store bucket u ≡ true) (eqb-true w v e) (and_parts (not (is_among met (file_and_block w))) (is_of_bucket store bucket w) is).1
    here false e is rest h = rest (sym (ap (λ (b : Bool). b || is_among (reached_from store bucket most (file_and_block w ∷ met) (store.chain_next w)) v) e) ∙ h)

    by : (t : Bool) → is_reached store bucket met w ≡ t → (is_among (reached_from store bucket most (file_and_block w ∷ met) (store.chain_next w)) v ≡ true → is_of_bucket store bucket v ≡ true)
        → is_among (if t then w ∷ reached_from store bucket most (file_and_block w ∷ met) (store.chain_next w) else []) v ≡ true → is_of_bucket store bucket v ≡ true
    by true is rest h = here (w == v) refl is rest h
    by false is rest h = clash h

pub first_of_all : (store : StoreView) (n : ℕ) → AreOfFirst store n (reached_by store n)
unfolding reached_by
first_of_all store zero w h = clash h
first_of_all store (suc n) w h = by (first_of_all store n w) (is_among (reached_by store n) w) refl (sym (is_among-append (reached_by store n) (chain store n).reached w) ∙ h)
  where
    by : (is_among (reached_by store n) w ≡ true → IsOfFirst store n w) → (t : Bool) → is_among (reached_by store n) w ≡ t → (is_among (reached_by store n) w || is_among (chain store n).reached w) ≡ true → IsOfFirst store (suc n) w
    by before true e h = let is = before e in record { bucket = is.bucket; below = let b = is.below in omega (arith, b); of_bucket = is.of_bucket }
    by before false e h = record { bucket = n; below = omega arith; of_bucket = chain_all store n most_records [] (store.table n) w (sym (ap (λ (b : Bool). b || is_among (chain store n).reached w) e) ∙ h) }
