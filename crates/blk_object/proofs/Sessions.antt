-- The session is the same while an item is removed: once it is taken out, once its places are freed, and once it is counted no longer.
use Rattle.std.proofs.Common.{◌≡◌, ◌∙◌, ap, refl, lit≤, ℕ, None, Option, Some}
use Rattle.std.specs.Option.{ForSome}
use Rattle.spec_image.specs.Image.{Image, Index, byte}
use Rattle.spec_image.specs.Told.{Passes, Told}
use Rattle.spec_format.specs.Headers.{crash_of, this_id_of}
use Rattle.spec_folder.specs.Chains.{bucket_at}
use Rattle.blk_chain.specs.Unlinking.{IsUnlinked}
use Rattle.law_state.specs.Changes.{SameSession}
use Rattle.law_state.proofs.AtNodes.{index-word}
use Rattle.law_state.proofs.Writes.{index-words}
use Rattle.blk_stream.proofs.Joined.{told_then}
use Rattle.blk_object.specs.Counters.{AreCountedLess}
use Rattle.blk_object.specs.Freeing.{FreedWordsLeaveSession}
use Rattle.blk_object.specs.Removing.{TakenOutItemsLeaveSession}
use Rattle.blk_object.specs.RemovingNext.{CountedLessLeavesSession}
use Rattle.blk_object.proofs.FreedPlaces.{same-index}
use Rattle.blk_object.proofs.TakenItems.{removal-leaves, table-word}

pub then-session : (from between image : Image) → SameSession from between → SameSession between image → SameSession from image
then-session from between image one two = record { crash = two.crash ∙ one.crash; id = two.id ∙ one.id }

-- ---- taken out

unlinking-session : (between image : Image) (entry : ℕ) (before : Option ℕ) → IsUnlinked between entry before image → SameSession between image
unlinking-session between image entry None u =
    let b = bucket_at between entry in
    record { crash = table-word b 32 between image (lit≤ tt) u.keeps.outside; id = table-word b 20 between image (lit≤ tt) u.keeps.outside }
unlinking-session between image entry (Some v) u = record { crash = index-word between image v 32 u.keeps.outside; id = index-word between image v 20 u.keeps.outside }

pub taken-session : TakenOutItemsLeaveSession
taken-session node entry before from image t = then-session from t.between image (removal-leaves from t.between node t.unlisted).session (unlinking-session t.between image entry before t.unlinked)

-- ---- freed

pub freed-session : FreedWordsLeaveSession
freed-session words from image r = record { crash = ap crash_of same; id = ap this_id_of same } where
  same : byte image Index ≡ byte from Index
  same = λ j i. same-index words from image r i j

-- ---- counted less

pub counted-session : CountedLessLeavesSession
counted-session charge from image l =
    then-session from l.written.second image
    (then-session from l.written.sum_written.between l.written.second
    (then-session from l.written.first l.written.sum_written.between
    (index-words from l.written.first 8 refl (lit≤ tt) refl refl refl l.written.items_written.outside).session
    (index-words l.written.first l.written.sum_written.between 48 refl (lit≤ tt) refl refl refl l.written.sum_written.low.outside).session)
    (index-words l.written.sum_written.between l.written.second 52 refl (lit≤ tt) refl refl refl l.written.sum_written.high.outside).session)
    (index-words l.written.second image 268 refl (lit≤ tt) refl refl refl l.written.nodes_written.outside).session

-- of an observable folder, in which an item was taken out, and then is counted no longer
pub counted-then : (a m b : Told) (from : Image) (P : Image → Type 0) (charge : ℕ) → a.files ≡ Some from → Passes a m P → ForSome m.files (SameSession from) → ForSome m.files (λ at. ForSome b.files (AreCountedLess charge at)) → ForSome b.files (SameSession from)
counted-then a m b from P charge there first same less image is =
    let mid = told_then a m from P there first in
    then-session from mid.image image (same mid.image mid.is) (counted-session charge mid.image image (less mid.image mid.is image is))
