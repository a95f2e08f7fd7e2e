-- Changes that leave the files as they are, by what they touch.
use Rattle.std.proofs.Common.{◌≡◌, ◌∙◌, false}
use Rattle.spec_image.specs.Image.{File, Image, Block}
use Rattle.spec_image.specs.Footprint.{Footprint, SameOutside}
use Rattle.spec_format.specs.BlockFiles.{KeepsHeaders}
use Rattle.spec_format.proofs.SpareHeaders.{SparesHeaders}
use Rattle.spec_format.proofs.Finished.{headers-next}
use Rattle.law_state.specs.Arranging.{LeavesFiles}
use Rattle.law_state.specs.Changes.{SameSession}

-- no header and no size of a file is touched, and the words of the session are as before
pub leaves-files : (F : Footprint) (from image : Image) → SparesHeaders F → ((file : File) → F.sizes file ≡ false) → SameOutside F from image → SameSession from image → KeepsHeaders from image → LeavesFiles from image
leaves-files F from image headers sizes same session formed = record {
  headers = record {
    headers = λ n i small. same.bytes (Block n) i (headers.bytes n i small);
    lengths = λ n. same.lengths (Block n) (sizes (Block n));
    files = λ file. same.files file (sizes file);
  };
  session = session;
  well_formed = formed;
}

-- two changes, one after the other, leave them
pub leaves-then : (from between image : Image) → LeavesFiles from between → LeavesFiles between image → LeavesFiles from image
leaves-then from between image one two = record {
  headers = record {
    headers = λ n i small. two.headers.headers n i small ∙ one.headers.headers n i small;
    lengths = λ n. two.headers.lengths n ∙ one.headers.lengths n;
    files = λ file. two.headers.files file ∙ one.headers.files file;
  };
  session = record { crash = two.session.crash ∙ one.session.crash; id = two.session.id ∙ one.session.id };
  well_formed = headers-next from between image one.well_formed two.well_formed;
}
