-- How kept nodes and records get their checksums one after the other, and what is held on the way.
use Rattle.std.proofs.Common.{◌≡◌, ℕ, ◌+◌, ◌<◌, ◌≤◌, Bool, true, false, List, [], ◌∷◌, length, drop, get_or, ◌⊎◌, ⊎_elim, inl, inr, refl, sym, ◌∙◌, ap, subst, arith}
use Rattle.std.specs.Prelude.{All, Contains, map, if◌then◌else◌}
use Rattle.std.specs.Option.{ForSome}
use Rattle.std.proofs.lemmas.List.{drop_more, drop_all}
use Rattle.std.proofs.lemmas.List.Elements.{All-cons, All-contains, All-head, All-nil, All-tail, All-weaker}
use Rattle.spec_image.specs.Bytes.{word_bytes}
use Rattle.spec_image.specs.Image.{Image, Index, Block}
use Rattle.spec_image.specs.Steps.{TrailStep, Word, after, applied, word_step}
use Rattle.spec_image.specs.Told.{Told, Along, Applies, AppliesPrefix, IsQuiet, Passes}
use Rattle.spec_image.specs.Footprint.{SameOutside, range}
use Rattle.spec_image.proofs.Cuts.{after-append}
use Rattle.spec_image.proofs.Footprints.{outside_write}
use Rattle.spec_image.proofs.Images.{length-after_write}
use Rattle.spec_image.proofs.Runs.{passes_part, quiet-append, some_inj, told_whole, until-append, until_both, until_last, until_weaker2}
use Rattle.spec_image.proofs.WordSteps.{quiet-word_step}
use Rattle.spec_format.specs.Address.{file_selector, place}
use Rattle.spec_format.specs.BlockFiles.{is_among, stands_in}
use Rattle.spec_format.specs.Records.{seal_of}
use Rattle.spec_format.specs.Sealed.{BeginsWithRecord, IsMidUpdate, RecordChecks, is_sealed, record_at, record_range, seal_place, seal_steps}
use Rattle.spec_format.proofs.SealedRecords.{sealed_after, sealing}
use Rattle.spec_format.proofs.SpareHeaders.{blocks_spare}
use Rattle.spec_folder.specs.ListImages.{IsWritable}
use Rattle.spec_folder.specs.Loads.{Loaded}
use Rattle.law_folder.proofs.claims.Inside.{updates-inside}
use Rattle.law_folder.proofs.updates.NodeRecords.{are_bytes-word}
use Rattle.blk_disk.specs.declared.tables.BlockFiles.{BlockFiles}
use Rattle.blk_disk.specs.Open.{IsOpen}
use Rattle.blk_disk.proofs.Agreeing.{agrees_still}
use Rattle.law_recovery.specs.ChainRepair.{is_kept_record}
use Rattle.law_recovery.specs.MendedChanges.{KeepsMendedLinks}
use Rattle.law_recovery.specs.RecordSeals.{IsSealedAt, KeepsRecordsSealed}
use Rattle.law_recovery.proofs.KeptRecords.{kept-nodes-check, kept-records-check}
use Rattle.law_recovery.proofs.MendedChanges.{links-on, nodes-sealed, records-sealed}
use Rattle.law_recovery.proofs.MendedParts.{files-mended}
use Rattle.law_recovery.proofs.RecordSeals.{keeps-more, keeps-none, record-fits, records-behind, seals-made, seals-stand}
use Rattle.blk_repair.specs.Damages.{AllCheck}
use Rattle.spec_folder.specs.Found.{kept}
use Rattle.law_recovery.specs.Mended.{AreKeptSealed}
use Rattle.law_recovery.proofs.Seals as laws
use Rattle.law_recovery.specs.KeptSeals.{AreOthersSealed, IsOfKept}
use Rattle.blk_repair.specs.Seals.{AreSealedNow, HasMendedLinksOf, IsNextSealed, seals_steps}
use Rattle.blk_repair.proofs.Progress.{Leads}

-- an image of which a word is written can be written still
pub still-writable : (image : Image) (n at x : ℕ) → IsWritable image → Along IsWritable image (word_step (Block n) at x)
unfolding word_step
still-writable image n at x is = (
  is,
  record {
    bytes = are_bytes-word (Block n) at x image is.bytes;
    has_header = let same = length-after_write image (Block n) Index at (word_bytes x) in let header = is.has_header in omega (arith, same, header);
  },
)

choice-writable : (image : Image) (b : Bool) (n at x : ℕ) → IsWritable image → Along IsWritable image (if b then [] else word_step (Block n) at x)
choice-writable image true n at x is = is
choice-writable image false n at x is = still-writable image n at x is

seal-writable : (image : Image) (w : ℕ) → IsWritable image → Along IsWritable image (seal_steps image w)
unfolding seal_steps
seal-writable image w is = choice-writable image (is_sealed (seal_place w) (record_at image w)) (file_selector w) (place w + seal_place w) (seal_of (seal_place w) (record_at image w)) is

-- what the write of a checksum leaves open
word-open : (files : BlockFiles) (image : Image) (w at x : ℕ) → IsOpen files image → Along (IsOpen files) image (word_step (Block (file_selector w)) (place w + at) x)
unfolding word_step
word-open files image w at x is = (
  is,
  record {
    whole_index = length-after_write image (Block (file_selector w)) Index (place w + at) (word_bytes x) ∙ is.whole_index;
    agrees = agrees_still (range (Block (file_selector w)) (place w + at) (length (word_bytes x))) image (applied (Word (Block (file_selector w)) (place w + at) (word_bytes x)) image) (blocks_spare (Block (file_selector w)) w at (length (word_bytes x)))
        (outside_write (Block (file_selector w)) (place w + at) (word_bytes x) image) files (λ n. refl) is.agrees;
  },
)

choice-open : (files : BlockFiles) (image : Image) (b : Bool) (w at x : ℕ) → IsOpen files image → Along (IsOpen files) image (if b then [] else word_step (Block (file_selector w)) (place w + at) x)
choice-open files image true w at x is = is
choice-open files image false w at x is = word-open files image w at x is

pub seal-open : (files : BlockFiles) (w : ℕ) (image : Image) → IsOpen files image → Along (IsOpen files) image (seal_steps image w)
unfolding seal_steps
seal-open files w image is = choice-open files image (is_sealed (seal_place w) (record_at image w)) w (seal_place w) (seal_of (seal_place w) (record_at image w)) is

pub seals-open : (files : BlockFiles) (words : List ℕ) (image : Image) → IsOpen files image → Along (IsOpen files) image (seals_steps words image)
seals-open files [] image is = is
seals-open files (w ∷ words) image is =
    let first : List TrailStep = seal_steps image w in
    let all : Along (IsOpen files) image first = seal-open files w image is in
    until-append (IsOpen files) (IsOpen files) first (seals_steps words (after first image)) image all (seals-open files words (after first image) (until_last (IsOpen files) (IsOpen files) first image all))

-- no step is a note
choice-quiet : (b : Bool) (n at x : ℕ) → IsQuiet (if b then [] else word_step (Block n) at x)
choice-quiet true n at x = tt
choice-quiet false n at x = quiet-word_step (Block n) at x refl

seal-quiet : (image : Image) (w : ℕ) → IsQuiet (seal_steps image w)
unfolding seal_steps
seal-quiet image w = choice-quiet (is_sealed (seal_place w) (record_at image w)) (file_selector w) (place w + seal_place w) (seal_of (seal_place w) (record_at image w))

pub seals-quiet : (words : List ℕ) (image : Image) → IsQuiet (seals_steps words image)
seals-quiet [] image = tt
seals-quiet (w ∷ words) image = quiet-append (seal_steps image w) (seals_steps words (after (seal_steps image w) image)) (seal-quiet image w) (seals-quiet words (after (seal_steps image w) image))

-- One of what is kept.

-- the record at a kept address is there, its checksum matches or is absent, and it may get the hash as its checksum
pub record MayBeSealed (image : Image) (w : ℕ) : Type 0 where
  pub stands : stands_in image w ≡ true
  pub begins : BeginsWithRecord w
  pub checks : RecordChecks w image
  pub keeps : (between : Image) → IsMidUpdate image w [] between → KeepsMendedLinks image between

kept-now : (entry image : Image) (w : ℕ) → HasMendedLinksOf entry image → IsOfKept entry w → IsOfKept image w
kept-now entry image w holds of = subst (λ (ks : List Loaded). (is_among (map (λ k. k.node) ks) w ≡ true) ⊎ (is_kept_record ks w ≡ true)) (sym holds.keeps.kept_same) of

may-be_sealed : (image : Image) (w : ℕ) → HasMendedLinksOf image image → IsOfKept image w → MayBeSealed image w
may-be_sealed image w holds (inl node) =
    let is = kept-nodes-check image holds.writable w node in
    record { stands = is.stands; begins = inl is.kind_is; checks = is.checks; keeps = λ between mid. nodes-sealed image between w holds.keeps.mended holds.writable node mid }
may-be_sealed image w holds (inr entry) =
    let is = kept-records-check image holds.writable w entry in
    record { stands = is.stands; begins = inr is.kind_is; checks = is.checks; keeps = λ between mid. records-sealed image between w holds.keeps.mended holds.writable entry mid }

itself : (entry image : Image) → HasMendedLinksOf entry image → HasMendedLinksOf image image
itself entry image holds = record { writable = holds.writable; keeps = record { mended = holds.keeps.mended; kept_same = refl; found_same = refl } }

pub one-may : (entry image : Image) (w : ℕ) → HasMendedLinksOf entry image → IsOfKept entry w → MayBeSealed image w
one-may entry image w holds of = may-be_sealed image w (itself entry image holds) (kept-now entry image w holds of)

one-along : (entry image : Image) (w : ℕ) → HasMendedLinksOf entry image → MayBeSealed image w → Along (λ i. IsMidUpdate image w [] i × IsWritable i) image (seal_steps image w)
one-along entry image w holds may =
    let M : Image → Type 0 = IsMidUpdate image w [] in
    until_both M IsWritable M IsWritable (seal_steps image w) image (sealing w image (record-fits image w may.stands may.begins) may.checks) (seal-writable image w holds.writable)

one-holds : (entry image : Image) (w : ℕ) → HasMendedLinksOf entry image → MayBeSealed image w → (between : Image) → IsMidUpdate image w [] between × IsWritable between → HasMendedLinksOf entry between
one-holds entry image w holds may between both = record { writable = both.1; keeps = links-on entry image between holds.keeps (may.keeps between both.0) }

-- where each of these addresses has its checksum, all that is kept has its checksums
kept-sealed : (entry from image : Image) (words : List ℕ) → HasMendedLinksOf entry from → HasMendedLinksOf entry image → KeepsRecordsSealed from image → All (IsSealedAt image) words → AreOthersSealed entry words from → AreKeptSealed image
kept-sealed entry from image words was is seals sealed others = laws.all-sealed image is.writable (λ node there. one node (inl (now node there))) (λ w there. one w (inr (now-record w there))) where
  now : (node : ℕ) → is_among (map (λ k. k.node) (kept image)) node ≡ true → is_among (map (λ k. k.node) (kept entry)) node ≡ true
  now node there = subst (λ (ks : List Loaded). is_among (map (λ k. k.node) ks) node ≡ true) is.keeps.kept_same there

  now-record : (w : ℕ) → is_kept_record (kept image) w ≡ true → is_kept_record (kept entry) w ≡ true
  now-record w there = subst (λ (ks : List Loaded). is_kept_record ks w ≡ true) is.keeps.kept_same there

  one : (w : ℕ) → IsOfKept entry w → IsSealedAt image w
  one w of =
      let may : MayBeSealed from w = one-may entry from w was of in
      ⊎_elim (λ (before : IsSealedAt from w). seals.sealed w may.stands may.begins before) (λ (among : Contains words w). All-contains (IsSealedAt image) words w sealed among) (others w of)

-- a kept record gets its checksum, and the links stay repaired at each word
one-sealed : (entry image : Image) (w : ℕ) → HasMendedLinksOf entry image → IsOfKept entry w → Along (HasMendedLinksOf entry) image (seal_steps image w) × AreSealedNow entry image (w ∷ []) (after (seal_steps image w) image)
one-sealed entry image w holds of =
    let may : MayBeSealed image w = one-may entry image w holds of in
    let both : Image → Type 0 = λ i. IsMidUpdate image w [] i × IsWritable i in
    let steps : List TrailStep = seal_steps image w in
    let all : Along both image steps = one-along entry image w holds may in
    let last : both (after steps image) = until_last both both steps image all in
    let done = sealed_after w image (record-fits image w may.stands may.begins) holds.writable.bytes in
    let outside : SameOutside (record_range w) image (after steps image) = last.0.outside in
    let sealed : All (IsSealedAt (after steps image)) (w ∷ []) = All-cons (IsSealedAt (after steps image)) w [] (seals-made image (after steps image) w done) (All-nil (IsSealedAt (after steps image))) in
    let seals : KeepsRecordsSealed image (after steps image) = record {
      stands = (updates-inside image (after steps image) w [] may.stands may.begins last.0).stands;
      sealed = λ u stands begins was. seals-stand image (after steps image) w u may.stands may.begins stands begins done outside was;
    } in
    let files = files-mended (record_range w) image (after steps image) (records-behind w) outside holds.keeps.mended (may.keeps (after steps image) last.0) in (
      until_weaker2 both (HasMendedLinksOf entry) both (HasMendedLinksOf entry) steps image (one-holds entry image w holds may) (one-holds entry image w holds may) all,
      record {
        holds = one-holds entry image w holds may (after steps image) last;
        sealed = sealed;
        seals = seals;
        files = files.0;
        only = files.1;
        all = kept-sealed entry image (after steps image) (w ∷ []) holds (one-holds entry image w holds may (after steps image) last) seals sealed;
      },
    )

-- All of them.

pub all-sealed : (entry image : Image) (words : List ℕ) → HasMendedLinksOf entry image → All (IsOfKept entry) words → Along (HasMendedLinksOf entry) image (seals_steps words image) × AreSealedNow entry image words (after (seals_steps words image) image)
all-sealed entry image [] holds of = (holds, record { holds = holds; sealed = All-nil (IsSealedAt image); seals = keeps-none image; files = λ files. files; only = λ only. only; all = kept-sealed entry image image [] holds holds (keeps-none image) (All-nil (IsSealedAt image)) })
all-sealed entry image (w ∷ words) holds of =
    let H : Image → Type 0 = HasMendedLinksOf entry in
    let first : List TrailStep = seal_steps image w in
    let between : Image = after first image in
    let rest : List TrailStep = seals_steps words between in
    let one = one-sealed entry image w holds (All-head (IsOfKept entry) w words of) in
    let more = all-sealed entry between words one.1.holds (All-tail (IsOfKept entry) w words of) in
    let may : MayBeSealed image w = one-may entry image w holds (All-head (IsOfKept entry) w words of) in
    let sealed : All (IsSealedAt (after rest between)) (w ∷ words) =
    All-cons (IsSealedAt (after rest between)) w words (more.1.seals.sealed w (one.1.seals.stands w ∙ may.stands) may.begins (All-head (IsSealedAt between) w [] one.1.sealed)) more.1.sealed in
    let seals : KeepsRecordsSealed image (after rest between) = keeps-more image between (after rest between) one.1.seals more.1.seals in (
      until-append H H first rest image one.0 more.0,
      subst (AreSealedNow entry image (w ∷ words)) (sym (after-append first rest image))
          (record {
            holds = more.1.holds;
            sealed = sealed;
            seals = seals;
            files = λ files. more.1.files (one.1.files files);
            only = λ only. more.1.only (one.1.only only);
            all = kept-sealed entry image (after rest between) (w ∷ words) holds more.1.holds seals sealed;
          }),
    )

-- the checksums of these nodes and records match or are absent at each word
pub seals-check : (entry image : Image) (words : List ℕ) → IsNextSealed entry words image → Along (AllCheck words) image (seals_steps words image)
seals-check entry image words next =
    let H : Image → Type 0 = HasMendedLinksOf entry in
    let check : (between : Image) → H between → AllCheck words between = (λ between holds. All-weaker (IsOfKept entry) (λ w. RecordChecks w between) (λ w of. (one-may entry between w holds of).checks) words next.are_kept) in
    until_weaker2 H (AllCheck words) H (AllCheck words) (seals_steps words image) image check check (all-sealed entry image words next.holds next.are_kept).0

-- the first of the rest gets its checksum, and then the others
pub seals-lead : (words : List ℕ) (i w : ℕ) → i < length words → w ≡ get_or words i w → Leads (seals_steps (drop i words)) (λ image. seal_steps image w) (seals_steps (drop (i + 1) words))
seals-lead words i w inside is image =
    let more : List ℕ = drop (i + 1) words in
    ap (λ (l : List ℕ). seals_steps l image) (drop_more words i w inside ∙ ap (λ (v : ℕ). v ∷ more) (sym is))

pub seals-end : (words : List ℕ) (i : ℕ) → length words ≤ i → (image : Image) → seals_steps (drop i words) image ≡ []
seals-end words i past image = ap (λ (l : List ℕ). seals_steps l image) (drop_all i words past)

-- what a prefix of the steps passes, and where all of them lead
pub seals-pass : (a b : Told) (words : List ℕ) → ForSome a.files (λ image. AppliesPrefix a b (seals_steps words image)) → ForSome a.files (λ image. (entry : Image) → IsNextSealed entry words image → Passes a b (HasMendedLinksOf entry))
seals-pass a b words part image there entry next =
    passes_part (HasMendedLinksOf entry) (HasMendedLinksOf entry) (part image there) (seals-quiet words image) (λ i h. h)
    (λ i is_there. subst (λ (x : Image). Along (HasMendedLinksOf entry) x (seals_steps words image)) (some_inj (sym there ∙ is_there)) (all-sealed entry image words next.holds next.are_kept).0)

pub seals-done : (a b : Told) (words : List ℕ) → ForSome a.files (λ image. Applies a b (seals_steps words image)) → ForSome a.files (λ image. (entry : Image) → IsNextSealed entry words image → ForSome b.files (AreSealedNow entry image words))
seals-done a b words all image there entry next =
    told_whole (AreSealedNow entry image words) (all image there)
    (λ i is_there. subst (λ (x : Image). AreSealedNow entry image words (after (seals_steps words image) x)) (some_inj (sym there ∙ is_there)) (all-sealed entry image words next.holds next.are_kept).1)
