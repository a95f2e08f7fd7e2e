-- How a walk goes on.
use Rattle.std.proofs.Common.{◌≡◌, ℕ, zero, suc, Bool, true, false, ◌||◌, ◌&&◌, not, List, [], ◌∷◌, ◌++◌, None, Some, refl, sym, ap, ap₂, subst, ◌∙◌, append_assoc, if◌then◌else◌}
use Rattle.std.specs.Prelude.{◌==◌}
use Rattle.std.proofs.lemmas.List.{append-nil}
use Rattle.std.proofs.lemmas.Bool.{eq-eqb}
use Rattle.spec_format.specs.BlockFiles.{is_among}
use Rattle.spec_folder.specs.ListView.{ListView, most_nodes}
use Rattle.spec_folder.specs.Walk.{walk_from, walk}
use Rattle.blk_audit.specs.declared.list_walk.Walked.{Walked}
use Rattle.blk_audit.specs.declared.list_walk.Link.{Link}
use Rattle.blk_audit.specs.Walking.{AreMet, IsWalkStep}
use Rattle.blk_audit.proofs.Truths.{or_swap}

module _ (checks : ℕ → Bool) (next prev : ℕ → ℕ) where
  -- whether the node of a word is walked
  abbrev pub is_walked : List ℕ → ℕ → ℕ → Bool
  is_walked met before w = checks w && not (is_among met w) && (prev w == before)

  walk_stops : (most : ℕ) (met : List ℕ) (before w : ℕ) → is_walked met before w ≡ false → walk_from checks next prev (suc most) met before w ≡ []
  unfolding walk_from
  walk_stops most met before w stop = rw stop refl

  walk_last : (most : ℕ) (met : List ℕ) (before w : ℕ) → is_walked met before w ≡ true → (next w == w) ≡ true → walk_from checks next prev (suc most) met before w ≡ w ∷ []
  unfolding walk_from
  walk_last most met before w good last = rw (good, last) refl

  walk_on : (most : ℕ) (met : List ℕ) (before w : ℕ) → is_walked met before w ≡ true → (next w == w) ≡ false → walk_from checks next prev (suc most) met before w ≡ w ∷ walk_from checks next prev most (w ∷ met) w (next w)
  unfolding walk_from
  walk_on most met before w good on = rw (good, on) refl

  -- the order of those that were met counts for nothing
  walk_met : (most : ℕ) (met other : List ℕ) (before w : ℕ) → ((v : ℕ) → is_among met v ≡ is_among other v) → walk_from checks next prev most met before w ≡ walk_from checks next prev most other before w
  unfolding walk_from
  walk_met zero met other before w same = refl
  walk_met (suc most) met other before w same =
      ap₂ (λ (t : Bool) (rest : List ℕ). if checks w && not t && (prev w == before) then (w ∷ (if next w == w then [] else rest)) else [])
      (same w) (walk_met most (w ∷ met) (w ∷ other) w (next w) (λ v. ap (λ (b : Bool). (w == v) || b) (same v)))

pub among_last : (words : List ℕ) (w v : ℕ) → is_among (w ∷ words) v ≡ is_among (words ++ w ∷ []) v
among_last [] w v = refl
among_last (x ∷ words) w v = or_swap (w == v) (x == v) (is_among words v) ∙ ap (λ (b : Bool). (x == v) || b) (among_last words w v)

-- whether the node of a word is walked in a list
abbrev pub is_next : ListView → List ℕ → Link → Bool
is_next list met link = is_walked list.checks list.next list.prev met link.before link.word

pub step_stops : (list : ListView) (old : List ℕ) (link : Link) → is_next list old link ≡ false → IsWalkStep list old link old None
step_stops list old link stop most = sym (append-nil old) ∙ ap (λ (t : List ℕ). old ++ t) (sym (walk_stops list.checks list.next list.prev most old link.before link.word stop))

pub step_last : (list : ListView) (old new : List ℕ) (link : Link) → is_next list old link ≡ true → list.next link.word ≡ link.word → new ≡ old ++ link.word ∷ [] → IsWalkStep list old link new None
step_last list old new link good last items most = items ∙ ap (λ (t : List ℕ). old ++ t) (sym (walk_last list.checks list.next list.prev most old link.before link.word good (eq-eqb (list.next link.word) link.word last)))

pub step_on : (list : ListView) (old new : List ℕ) (link : Link) (on : ℕ) → is_next list old link ≡ true → list.next link.word ≡ on → (on == link.word) ≡ false → new ≡ old ++ link.word ∷ [] → IsWalkStep list old link new (Some (record { word = on; before = link.word }))
step_on list old new link on good is apart items = (
  items,
  λ most.
      walk_on list.checks list.next list.prev most old link.before link.word good (ap (λ (n : ℕ). n == link.word) is ∙ apart)
      ∙ ap (λ (n : ℕ). link.word ∷ walk_from list.checks list.next list.prev most (link.word ∷ old) link.word n) is
      ∙ ap (λ (t : List ℕ). link.word ∷ t) (walk_met list.checks list.next list.prev most (link.word ∷ old) new link.word on (λ v. among_last old link.word v ∙ ap (λ (t : List ℕ). is_among t v) (sym items))),
)

-- a walk under way: what was walked, and what is to come from a word on
pub record IsOn (list : ListView) (walked : Walked) (left before word : ℕ) : Type 0 where
  pub met : AreMet walked
  pub whole : walk list ≡ walked.nodes.items ++ walk_from list.checks list.next list.prev left walked.nodes.items before word

pub begins : (list : ListView) (walked : Walked) (word : ℕ) → AreMet walked → walked.nodes.items ≡ [] → word ≡ list.head → IsOn list walked 131072 word word
unfolding walk
begins list walked word met items is = record {
  met = met;
  whole = subst (λ (old : List ℕ). walk_from list.checks list.next list.prev most_nodes [] list.head list.head ≡ old ++ walk_from list.checks list.next list.prev most_nodes old word word) (sym items)
      (ap (λ (h : ℕ). walk_from list.checks list.next list.prev most_nodes [] h h) (sym is));
}

pub goes_on : (list : ListView) (old new : Walked) (left more : ℕ) (link next : Link) → left ≡ suc more → IsOn list old left link.before link.word → AreMet new → IsWalkStep list old.nodes.items link new.nodes.items (Some next) → IsOn list new more next.before next.word
goes_on list old new left more link next e on met step = record {
  met = met;
  whole = on.whole
      ∙ ap (λ (n : ℕ). old.nodes.items ++ walk_from list.checks list.next list.prev n old.nodes.items link.before link.word) e
      ∙ ap (λ (t : List ℕ). old.nodes.items ++ t) (step.1 more)
      ∙ sym (append_assoc old.nodes.items (link.word ∷ []) (walk_from list.checks list.next list.prev more new.nodes.items next.before next.word))
      ∙ ap (λ (t : List ℕ). t ++ walk_from list.checks list.next list.prev more new.nodes.items next.before next.word) (sym step.0);
}

pub ends : (list : ListView) (old new : Walked) (left more : ℕ) (link : Link) → left ≡ suc more → IsOn list old left link.before link.word → IsWalkStep list old.nodes.items link new.nodes.items None → new.nodes.items ≡ walk list
ends list old new left more link e on step = sym (on.whole ∙ ap (λ (n : ℕ). old.nodes.items ++ walk_from list.checks list.next list.prev n old.nodes.items link.before link.word) e ∙ sym (step more))

pub is_full : (list : ListView) (walked : Walked) (left before word : ℕ) → left ≡ 0 → IsOn list walked left before word → walked.nodes.items ≡ walk list
unfolding walk_from
is_full list walked left before word e on = sym (on.whole ∙ ap (λ (n : ℕ). walked.nodes.items ++ walk_from list.checks list.next list.prev n walked.nodes.items before word) e ∙ append-nil walked.nodes.items)
