-- The walk over the nodes of a folder is the walk that the redo leaves.
use Rattle.std.proofs.Common.{◌≡◌, ℕ, zero, suc, Bool, true, false, ◌&&◌, not, List, [], ◌∷◌, Option, None, Some, refl, sym, ap, ◌∙◌, if◌then◌else◌}
use Rattle.std.specs.Prelude.{◌==◌}
use Rattle.std.specs.Option.{option_map_or}
use Rattle.std.proofs.lemmas.Bool.{eq-eqb}
use Rattle.spec_image.specs.Image.{Image}
use Rattle.spec_format.specs.Address.{rankings}
use Rattle.spec_format.specs.BlockFiles.{is_among}
use Rattle.spec_folder.specs.ListView.{ListView, ListWrite, after_writes}
use Rattle.spec_folder.specs.Walk.{walk_from, walk}
use Rattle.spec_folder.specs.Completion.{counts, completed_list}
use Rattle.spec_folder.specs.ListPlans.{completion_writes}
use Rattle.spec_folder.specs.View.{stands_as, checks_at, next_at, prev_at, list_of}
use Rattle.spec_folder.specs.ListImages.{completed_walk}
use Rattle.law_folder.proofs.lists.AtRest.{completions-end}
use Rattle.law_folder.proofs.lists.ListCompletions.{walk_outcome}
use Rattle.law_folder.proofs.lists.ListWrites.{checks_stay}
use Rattle.law_folder.proofs.lists.Walked.{walks-distinct}
use Rattle.blk_audit.specs.Changes.{next_written, prev_written, head_written}
use Rattle.blk_audit.specs.Nodes.{list_in, said_at, AreNodesOf}
use Rattle.blk_audit.specs.declared.nodes.Node.{Node}
use Rattle.blk_audit.specs.declared.nodes.Nodes.{Nodes}
use Rattle.blk_audit.proofs.Written as written

-- Two lists with the same head, checks and links have one walk.

step_of : List ℕ → ℕ → ℕ → Bool → ℕ → ℕ → List ℕ → List ℕ
step_of met before w c p n rest = if c && not (is_among met w) && (p == before) then (w ∷ (if n == w then [] else rest)) else []

module _ (one other : ListView) (checks : (w : ℕ) → one.checks w ≡ other.checks w) (next : (w : ℕ) → one.next w ≡ other.next w) (prev : (w : ℕ) → one.prev w ≡ other.prev w) where
  same_from : (most : ℕ) (met : List ℕ) (before w : ℕ) → walk_from one.checks one.next one.prev most met before w ≡ walk_from other.checks other.next other.prev most met before w
  unfolding walk_from step_of
  same_from zero met before w = refl
  same_from (suc most) met before w =
      ap (λ (c : Bool). step_of met before w c (one.prev w) (one.next w) (walk_from one.checks one.next one.prev most (w ∷ met) w (one.next w))) (checks w)
      ∙ ap (λ (p : ℕ). step_of met before w (other.checks w) p (one.next w) (walk_from one.checks one.next one.prev most (w ∷ met) w (one.next w))) (prev w)
      ∙ ap (λ (n : ℕ). step_of met before w (other.checks w) (other.prev w) n (walk_from one.checks one.next one.prev most (w ∷ met) w n)) (next w)
      ∙ ap (step_of met before w (other.checks w) (other.prev w) (other.next w)) (same_from most (w ∷ met) w (other.next w))

  same_walk : one.head ≡ other.head → walk one ≡ walk other
  unfolding walk
  same_walk head = same_from 131072 [] one.head one.head ∙ ap (λ (h : ℕ). walk_from other.checks other.next other.prev 131072 [] h h) head

-- The same after writes.
same_after : (writes : List ListWrite) (one other : ListView) → ((w : ℕ) → one.checks w ≡ other.checks w) → ((w : ℕ) → one.next w ≡ other.next w) → ((w : ℕ) → one.prev w ≡ other.prev w) → one.head ≡ other.head
    → walk (after_writes writes one) ≡ walk (after_writes writes other)
same_after writes one other checks next prev head =
    same_walk (after_writes writes one) (after_writes writes other)
    (λ w. ap (λ (f : ℕ → Bool). f w) (written.checks_after writes one) ∙ checks w ∙ sym (ap (λ (f : ℕ → Bool). f w) (written.checks_after writes other)))
    (λ w. written.next_after writes one w ∙ ap (next_written writes w) (next w) ∙ sym (written.next_after writes other w))
    (λ w. written.prev_after writes one w ∙ ap (prev_written writes w) (prev w) ∙ sym (written.prev_after writes other w))
    (written.head_after writes one ∙ ap (head_written writes) head ∙ sym (written.head_after writes other))

-- What the redo writes leaves the walk after the redo.

idle_walk : (l : ListView) → counts l ≡ false → walk l ≡ walk (completed_list l)
unfolding walk completed_list
idle_walk l e = rw e refl

nothing_counts : (l : ListView) → (l.transaction == 0) ≡ true → counts l ≡ false
unfolding counts
nothing_counts l e = rw e refl

finished_walk : (l : ListView) → walk (after_writes (completion_writes l) l) ≡ walk (completed_list l)
finished_walk l =
    let done : ListView = after_writes (completion_writes l) l in
    let ends = completions-end l in
    idle_walk done (nothing_counts done (eq-eqb done.transaction 0 ends.1))
    ∙ walk_outcome done ∙ ap walk ends.0 ∙ sym (walk_outcome l)

-- The nodes of an image make its list.

checks_by : (t : Bool) (s : Node) → option_map_or (λ n. n.checks) (if t then Some s else None) false ≡ (t && s.checks)
checks_by true s = refl
checks_by false s = refl

next_by : (t : Bool) (s : Node) → option_map_or (λ n. n.next) (if t then Some s else None) 0 ≡ (if t then s.next else 0)
next_by true s = refl
next_by false s = refl

prev_by : (t : Bool) (s : Node) → option_map_or (λ n. n.prev) (if t then Some s else None) 0 ≡ (if t then s.prev else 0)
prev_by true s = refl
prev_by false s = refl

module _ (image : Image) (nodes : Nodes) (are : AreNodesOf image nodes) (head : ℕ) where
  checks_are : (w : ℕ) → (list_in nodes head).checks w ≡ (list_of image).checks w
  unfolding list_in list_of checks_at
  checks_are w = ap (λ (o : Option Node). option_map_or (λ n. n.checks) o false) (are.each w) ∙ checks_by (stands_as image rankings w) (said_at image w)

  next_are : (w : ℕ) → (list_in nodes head).next w ≡ (list_of image).next w
  unfolding list_in list_of next_at
  next_are w = ap (λ (o : Option Node). option_map_or (λ n. n.next) o 0) (are.each w) ∙ next_by (stands_as image rankings w) (said_at image w)

  prev_are : (w : ℕ) → (list_in nodes head).prev w ≡ (list_of image).prev w
  unfolding list_in list_of prev_at
  prev_are w = ap (λ (o : Option Node). option_map_or (λ n. n.prev) o 0) (are.each w) ∙ prev_by (stands_as image rankings w) (said_at image w)

  head_is : (list_in nodes head).head ≡ head
  unfolding list_in
  head_is = refl

  pub completed_is : (writes : List ListWrite) → head ≡ (list_of image).head → writes ≡ completion_writes (list_of image) → walk (after_writes writes (list_in nodes head)) ≡ completed_walk image
  completed_is writes here plan =
      same_after writes (list_in nodes head) (list_of image) checks_are next_are prev_are (head_is ∙ here)
      ∙ ap (λ (ws : List ListWrite). walk (after_writes ws (list_of image))) plan
      ∙ finished_walk (list_of image)

-- the checksum of a walked node matches or is absent
pub walked_checks : (image : Image) (node : ℕ) → is_among (completed_walk image) node ≡ true → (list_of image).checks node ≡ true
walked_checks image node among =
    let done : ListView = after_writes (completion_writes (list_of image)) (list_of image) in
    ap (λ (checks : ℕ → Bool). checks node) (sym (checks_stay (completion_writes (list_of image)) (list_of image)))
    ∙ (walks-distinct done).1 node (ap (λ (nodes : List ℕ). is_among nodes node) (finished_walk (list_of image)) ∙ among)
