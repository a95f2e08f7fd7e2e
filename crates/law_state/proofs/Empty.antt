-- A folder without entries keeps the empty state.
use Rattle.std.proofs.Common.{◌≡◌, ℕ, ◌+◌, [], refl, sym, ◌∙◌, arith, true, false}
use Rattle.std.specs.Prelude.{is_some}
use Rattle.std.specs.List.{All}
use Rattle.spec_image.specs.Image.{Image}
use Rattle.blk_model.specs.Holding.{open_state}
use Rattle.spec_format.specs.Address.{block_place}
use Rattle.spec_format.specs.BlockFiles.{linked_as, max_entries_in, stands_in}
use Rattle.spec_format.specs.Claims.{has_claim, is_in_file, repeats}
use Rattle.spec_format.specs.Maps.{groups_of, groups_with, is_block_marked, EmptyAgrees}
use Rattle.law_folder.specs.BareLaws.{HasNoEntries, IsFileWithoutBlocks}
use Rattle.law_folder.proofs.states.Bare.{represents-empty}
use Rattle.law_folder.proofs.states.Empty.{empty-valid, no-object}
use Rattle.law_state.specs.Keeping.{IsMapped}
use Rattle.law_state.specs.KeepingLaws.{FoldersWithoutEntriesKeepTheEmptyState}

none-all : (P : ℕ → Type 0) → All P []
none-all P i d less = absurd (omega arith)

module _ (image : Image) (bare : HasNoEntries image) where
  no-groups : (n i : ℕ) → max_entries_in image n ≡ 0 → groups_with (is_block_marked image n) (groups_of (max_entries_in image n)) (i + 1) ≡ 0
  unfolding groups_with
  no-groups n i none = rw none refl

  mapped : (n : ℕ) → is_some (linked_as image n) ≡ true → IsMapped image [] n
  unfolding EmptyAgrees has_claim repeats
  mapped n linked = let f : IsFileWithoutBlocks image n = bare.blocks n linked in record {
    allocations = record { stand = none-all (λ w. stands_in image w ≡ true); here = none-all (λ w. is_in_file n w ≡ true); apart = refl; marks = f.map; counted = f.allocations };
    empty = λ i small. f.empty i small ∙ sym (no-groups n i f.max_entries);
    updating = f.updating;
  }

pub empty-kept : FoldersWithoutEntriesKeepTheEmptyState
unfolding open_state has_claim repeats block_place
empty-kept image limits bare crash id = record {
  entries = record {
    valid = empty-valid limits;
    sound = bare.sound;
    represents = represents-empty image bare limits;
    numbers = [];
    owners = record {
      exact = λ c w owner. absurd (cc);
      once = tt;
      doomed = record { each = tt; once = tt; all = λ number o is dead. absurd (no-object limits number o is); records = λ number among. absurd (let z : false ≡ true = among in cc) };
    };
    files = record {
      mapped = mapped image bare;
      externals = bare.no_externals;
      only_linked = bare.only_linked;
      long_enough = λ n kind linked. let f : IsFileWithoutBlocks image n = bare.blocks n (rw linked refl) in rw f.max_entries (omega (arith, f.long_enough));
    };
    unlinked_words = record { stand = tt; free = λ claim e. absurd (let z : false ≡ true = e in cc); single = refl };
    sealed = λ node loaded e. absurd (cc);
    session = record { crash = crash; id = id; marked = λ number o is live unsettled. tt };
  };
  counters = bare.index.counts;
}
