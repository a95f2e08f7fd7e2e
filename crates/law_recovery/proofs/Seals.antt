-- What is kept gets its checksums, one record after the other.
use Rattle.std.proofs.Common.{◌≡◌, ℕ, ◌+◌, true, List, [], ◌∷◌, take, refl, ap, ap₂, sym, ◌∙◌, subst, arith}
use Rattle.std.specs.Prelude.{◌==◌, map}
use Rattle.std.specs.List.{AllByRecursion}
use Rattle.std.proofs.lemmas.Bool.{eq-eqb, or_left, or_right}
use Rattle.spec_image.specs.Bytes.{content, word_at}
use Rattle.spec_image.specs.Image.{Block, Image, AreBytes, byte}
use Rattle.spec_format.specs.Address.{kind_of, file_selector, place, rankings, blocks_256}
use Rattle.spec_format.specs.BlockFiles.{is_among}
use Rattle.spec_format.specs.Hash.{hash}
use Rattle.spec_format.specs.Records.{entry_in, entry_body, entry_is_sealed}
use Rattle.spec_format.specs.Sealed.{is_sealed, record_at, record_size, seal_place}
use Rattle.spec_format.proofs.Bodies.{entry_body-in}
use Rattle.spec_format.proofs.SealedFields.{record_word}
use Rattle.spec_format.proofs.SealedRecords.{node_seal, entry_seal, seal_last, length-record}
use Rattle.spec_folder.specs.View.{entry_at}
use Rattle.spec_folder.specs.Loads.{Loaded}
use Rattle.spec_folder.specs.Sound as sound
use Rattle.spec_folder.specs.Found.{kept}
use Rattle.law_folder.proofs.updates.Prefixes.{AreSmall, small-take, small-range, same-entry, prefix-words, prefix-range}
use Rattle.law_folder.proofs.updates.Sealing.{sealed_bytes}
use Rattle.law_folder.proofs.updates.Updates.{entry-here}
use Rattle.law_recovery.specs.ChainRepair.{is_kept_record, IsStandingRecord}
use Rattle.law_recovery.specs.MendedParts.{KeptAreSealed}
use Rattle.law_recovery.proofs.KeptRecords.{kept-nodes-check, kept-records-check}

-- an entry record has its checksum exactly where its bytes have
entry-sealed_bytes : (image : Image) (w : ℕ) → AreBytes image → kind_of w ≡ blocks_256 → entry_is_sealed (entry_at image w) ≡ is_sealed 92 (record_at image w)
unfolding entry_is_sealed entry_in entry_body record_at
entry-sealed_bytes image w bytes kind =
    let r : List ℕ = record_at image w in
    let f : ℕ → ℕ = byte image (Block (file_selector w)) in
    let s : seal_place w ≡ 92 = entry_seal w kind in
    let small : AreSmall (take 92 r) = small-take 92 r (small-range (record_size w) (place w) f (bytes (Block (file_selector w)))) in
    let seal : word_at f (place w + 92) ≡ word_at (content r) 92 = sym (record_word image w 92 (omega (arith, s, seal_last (kind_of w)))) in
    let here = ap entry_body (entry-here image w kind) in
    let front = sym (ap entry_body (same-entry (content (take 92 r)) 0 (content r) 0 (prefix-words 92 r refl))) in
    let body : entry_body (entry_in f (place w)) ≡ take 92 r = here ∙ front ∙ entry_body-in 0 (content (take 92 r)) small ∙ prefix-range 92 r (omega (arith, s, seal_last (kind_of w), length-record w image)) in
    ap₂ (λ (x : ℕ) (l : List ℕ). x == hash l) seal body

-- ---- all of them

pub all-sealed : KeptAreSealed
all-sealed image ready nodes records = each (kept image) (λ node h. h) (λ w h. h) where
  one : (k : Loaded) → is_among (map (λ k. k.node) (kept image)) k.node ≡ true → is_kept_record (kept image) k.contents ≡ true → sound.AreSealed image k
  one k node_there record_there =
      let n : IsStandingRecord rankings image k.node = kept-nodes-check image ready k.node node_there in
      let r : IsStandingRecord blocks_256 image k.contents = kept-records-check image ready k.contents record_there in
      record {
        node = sealed_bytes image k.node ready.bytes n.kind_is ∙ subst (λ (s : ℕ). is_sealed s (record_at image k.node) ≡ true) (node_seal k.node n.kind_is) (nodes k.node node_there);
        entry = entry-sealed_bytes image k.contents ready.bytes r.kind_is ∙ subst (λ (s : ℕ). is_sealed s (record_at image k.contents) ≡ true) (entry_seal k.contents r.kind_is) (records k.contents record_there);
      }

  each : (ks : List Loaded) → ((node : ℕ) → is_among (map (λ k. k.node) ks) node ≡ true → is_among (map (λ k. k.node) (kept image)) node ≡ true) → ((w : ℕ) → is_kept_record ks w ≡ true → is_kept_record (kept image) w ≡ true) → AllByRecursion (sound.AreSealed image) ks
  each [] sub_nodes sub_records = tt
  each (k ∷ ks) sub_nodes sub_records = (
    one k (sub_nodes k.node (or_left (k.node == k.node) (is_among (map (λ k. k.node) ks) k.node) (eq-eqb k.node k.node refl))) (sub_records k.contents (or_left (k.contents == k.contents) (is_kept_record ks k.contents) (eq-eqb k.contents k.contents refl))),
    each ks (λ node h. sub_nodes node (or_right (k.node == node) (is_among (map (λ k. k.node) ks) node) h)) (λ w h. sub_records w (or_right (k.contents == w) (is_kept_record ks w) h)),
  )
