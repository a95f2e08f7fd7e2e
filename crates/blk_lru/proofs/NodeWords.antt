-- Words that name nodes in an image, and the links of nodes.
use Rattle.std.proofs.Common.{inl, inr, ⊎_elim, ◌≡◌, ℕ, ◌+◌, ◌*◌, ◌≤◌, Bool, true, false, ◌&&◌, if◌then◌else◌, refl, sym, ap, ◌∙◌, arith}
use Rattle.std.specs.Prelude.{◌==◌, ◌⊎◌}
use Rattle.std.proofs.lemmas.Bool.{eqb-true, and_parts, and_from}
use Rattle.spec_image.specs.Image.{External, Image, has_file}
use Rattle.spec_format.specs.Address.{is_address, kind_of, external, rankings, block_count, block_size, byte_size, place, block_place, first_block, external_number}
use Rattle.spec_format.specs.Standing.{stands}
use Rattle.spec_format.specs.Records.{node_in, node_checks}
use Rattle.spec_format.specs.BlockFiles.{stands_in, stands_in_blocks}
use Rattle.spec_format.proofs.Words.{AreFields-of}
use Rattle.spec_folder.specs.View.{stands_as, checks_at, next_at, prev_at, list_of, node_at}
use Rattle.blk_disk.specs.declared.tables.BlockFiles.{BlockFiles}
use Rattle.blk_disk.specs.Tables.{Agrees, stands_among, is_node_among, names_among}
use Rattle.blk_disk.proofs.Ranges.{stands_agree}
use Rattle.blk_lru.specs.Nodes.{link_at, IsNodeOrNone}

pub node_kind : (files : BlockFiles) (w : ℕ) → is_node_among files w ≡ true → kind_of w ≡ rankings
unfolding names_among
node_kind files w is = eqb-true (kind_of w) rankings (and_parts (kind_of w == rankings) (stands_among files w) (and_parts (is_address w) ((kind_of w == rankings) && stands_among files w) is).1).0

pub node_stands : (files : BlockFiles) (w : ℕ) → is_node_among files w ≡ true → stands_among files w ≡ true
unfolding names_among
node_stands files w is = (and_parts (kind_of w == rankings) (stands_among files w) (and_parts (is_address w) ((kind_of w == rankings) && stands_among files w) is).1).1

module _ (files : BlockFiles) (image : Image) (agrees : Agrees files image) where
  -- what names a node is valid as one in the image
  pub stands_as_node : (w : ℕ) → is_node_among files w ≡ true → stands_as image rankings w ≡ true
  unfolding names_among stands
  stands_as_node w is =
      let a = and_parts (is_address w) ((kind_of w == rankings) && stands_among files w) is in
      let b = and_parts (kind_of w == rankings) (stands_among files w) a.1 in
      let block_kind : (kind_of w == external) ≡ false = rw (eqb-true (kind_of w) rankings b.0) refl in
      let blocks : stands_in_blocks image w ≡ true = sym (stands_agree files image w agrees) ∙ b.1 in
      and_from (stands_in image w) (kind_of w == rankings)
      (and_from (is_address w) (if kind_of w == external then has_file image (External (external_number w)) else stands_in_blocks image w) a.0 (ap (λ (t : Bool). if t then has_file image (External (external_number w)) else stands_in_blocks image w) block_kind ∙ blocks))
      b.0

  -- what is valid as a node in the image is named as one
  pub names_node : (w : ℕ) → stands_as image rankings w ≡ true → is_node_among files w ≡ true
  unfolding names_among stands
  names_node w st =
      let p = and_parts (stands_in image w) (kind_of w == rankings) st in
      let q = and_parts (is_address w) (if kind_of w == external then has_file image (External (external_number w)) else stands_in_blocks image w) p.0 in
      let block_kind : (kind_of w == external) ≡ false = rw (eqb-true (kind_of w) rankings p.1) refl in
      let blocks : stands_in_blocks image w ≡ true = sym (ap (λ (t : Bool). if t then has_file image (External (external_number w)) else stands_in_blocks image w) block_kind) ∙ q.1 in
      and_from (is_address w) ((kind_of w == rankings) && stands_among files w) q.0 (and_from (kind_of w == rankings) (stands_among files w) p.1 (stands_agree files image w agrees ∙ blocks))

  pub checked_names : (w : ℕ) → (list_of image).checks w ≡ true → is_node_among files w ≡ true
  unfolding list_of checks_at stands
  checked_names w good = names_node w (and_parts (stands_as image rankings w) (node_checks (node_at image w)) good).0

  pub names_or_zero : (w : ℕ) → (w ≡ 0) ⊎ ((list_of image).checks w ≡ true) → IsNodeOrNone files w
  names_or_zero w cases = ⊎_elim (λ (zero : w ≡ 0). inl zero) (λ (good : (list_of image).checks w ≡ true). inr (checked_names w good)) cases

-- the links of a node that is there
pub next_link : (image : Image) (w : ℕ) → stands_as image rankings w ≡ true → (list_of image).next w ≡ link_at image w 16
unfolding list_of next_at node_in
next_link image w st = rw st refl

pub prev_link : (image : Image) (w : ℕ) → stands_as image rankings w ≡ true → (list_of image).prev w ≡ link_at image w 20
unfolding list_of prev_at node_in
prev_link image w st = rw st refl

-- the place of a node
pub node_room : (w : ℕ) → kind_of w ≡ rankings → 36 ≤ byte_size w
unfolding byte_size block_size
node_room w kind = rw kind (let some = (AreFields-of w).some in let h : 36 ≤ block_count w * 36 = omega (arith, some) in h)

pub node_place : (w s : ℕ) → kind_of w ≡ rankings → s ≡ (if kind_of w == external then 0 else first_block w) → 8192 + s * 36 ≡ place w
unfolding place block_place block_size
node_place w s kind is =
    let block_kind : (kind_of w == external) ≡ false = rw kind refl in
    let at : s ≡ first_block w = is ∙ ap (λ (t : Bool). if t then 0 else first_block w) block_kind in
    rw kind (ap (λ (n : ℕ). 8192 + n * 36) at)
