-- Which commands are on sparse data.
use Rattle.std.proofs.Common.{◌≡◌, ℕ, Bool, List, refl}
use Rattle.std.specs.Borrow.{Bor}
use Rattle.blk_model.specs.Request.{request_of}
use Rattle.blk_model.specs.declared.Command.{Command}
use Rattle.blk_model.specs.declared.Command.TheVariants as command
use Rattle.blk_cache.specs.CommandClauses.{IsOnSparse}

-- a command that is none of the others is on sparse data
pub is-on-sparse : (given : Command) → ((handle : ℕ) (key : Bor (List ℕ)) → given ≡ command.Create handle key → ⊥) → ((handle : ℕ) (key : Bor (List ℕ)) → given ≡ command.Open handle key → ⊥) → ((handle stream offset count : ℕ) → given ≡ command.Read handle stream offset count → ⊥) → ((handle stream offset : ℕ) (cut : Bool) (bytes : Bor (List ℕ)) → given ≡ command.Write handle stream offset cut bytes → ⊥) → ((handle stream : ℕ) → given ≡ command.Size handle stream → ⊥) → ((handle : ℕ) → given ≡ command.Doom handle → ⊥) → ((key : Bor (List ℕ)) → given ≡ command.DoomKey key → ⊥) → ((handle : ℕ) → given ≡ command.Close handle → ⊥) → ((handle : ℕ) → given ≡ command.Flush handle → ⊥) → (given ≡ command.List → ⊥) → ((bytes : ℕ) → given ≡ command.Trim bytes → ⊥) → (given ≡ command.Total → ⊥) → IsOnSparse (request_of given)
is-on-sparse (command.Create handle key) notCreate notOpen notRead notWrite notSize notDoom notDoomKey notClose notFlush notList notTrim notTotal = absurd (notCreate handle key refl)
is-on-sparse (command.Open handle key) notCreate notOpen notRead notWrite notSize notDoom notDoomKey notClose notFlush notList notTrim notTotal = absurd (notOpen handle key refl)
is-on-sparse (command.Read handle stream offset count) notCreate notOpen notRead notWrite notSize notDoom notDoomKey notClose notFlush notList notTrim notTotal = absurd (notRead handle stream offset count refl)
is-on-sparse (command.Write handle stream offset cut bytes) notCreate notOpen notRead notWrite notSize notDoom notDoomKey notClose notFlush notList notTrim notTotal = absurd (notWrite handle stream offset cut bytes refl)
is-on-sparse (command.Size handle stream) notCreate notOpen notRead notWrite notSize notDoom notDoomKey notClose notFlush notList notTrim notTotal = absurd (notSize handle stream refl)
is-on-sparse (command.Doom handle) notCreate notOpen notRead notWrite notSize notDoom notDoomKey notClose notFlush notList notTrim notTotal = absurd (notDoom handle refl)
is-on-sparse (command.DoomKey key) notCreate notOpen notRead notWrite notSize notDoom notDoomKey notClose notFlush notList notTrim notTotal = absurd (notDoomKey key refl)
is-on-sparse (command.Close handle) notCreate notOpen notRead notWrite notSize notDoom notDoomKey notClose notFlush notList notTrim notTotal = absurd (notClose handle refl)
is-on-sparse (command.Flush handle) notCreate notOpen notRead notWrite notSize notDoom notDoomKey notClose notFlush notList notTrim notTotal = absurd (notFlush handle refl)
is-on-sparse command.List notCreate notOpen notRead notWrite notSize notDoom notDoomKey notClose notFlush notList notTrim notTotal = absurd (notList refl)
is-on-sparse (command.Trim bytes) notCreate notOpen notRead notWrite notSize notDoom notDoomKey notClose notFlush notList notTrim notTotal = absurd (notTrim bytes refl)
is-on-sparse command.Total notCreate notOpen notRead notWrite notSize notDoom notDoomKey notClose notFlush notList notTrim notTotal = absurd (notTotal refl)
is-on-sparse (command.SparseWrite handle offset bytes) notCreate notOpen notRead notWrite notSize notDoom notDoomKey notClose notFlush notList notTrim notTotal = tt
is-on-sparse (command.SparseRead handle offset count) notCreate notOpen notRead notWrite notSize notDoom notDoomKey notClose notFlush notList notTrim notTotal = tt
is-on-sparse (command.SparseRange handle offset count) notCreate notOpen notRead notWrite notSize notDoom notDoomKey notClose notFlush notList notTrim notTotal = tt

-- a command on sparse data is one of the three
pub no-fourth : (given : Command) → IsOnSparse (request_of given) → ((handle offset : ℕ) (bytes : Bor (List ℕ)) → given ≡ command.SparseWrite handle offset bytes → ⊥) → ((handle offset count : ℕ) → given ≡ command.SparseRead handle offset count → ⊥) → ((handle offset count : ℕ) → given ≡ command.SparseRange handle offset count → ⊥) → ⊥
no-fourth (command.Create handle key) on_sparse notSparseWrite notSparseRead notSparseRange = on_sparse
no-fourth (command.Open handle key) on_sparse notSparseWrite notSparseRead notSparseRange = on_sparse
no-fourth (command.Read handle stream offset count) on_sparse notSparseWrite notSparseRead notSparseRange = on_sparse
no-fourth (command.Write handle stream offset cut bytes) on_sparse notSparseWrite notSparseRead notSparseRange = on_sparse
no-fourth (command.Size handle stream) on_sparse notSparseWrite notSparseRead notSparseRange = on_sparse
no-fourth (command.Doom handle) on_sparse notSparseWrite notSparseRead notSparseRange = on_sparse
no-fourth (command.DoomKey key) on_sparse notSparseWrite notSparseRead notSparseRange = on_sparse
no-fourth (command.Close handle) on_sparse notSparseWrite notSparseRead notSparseRange = on_sparse
no-fourth (command.Flush handle) on_sparse notSparseWrite notSparseRead notSparseRange = on_sparse
no-fourth command.List on_sparse notSparseWrite notSparseRead notSparseRange = on_sparse
no-fourth (command.Trim bytes) on_sparse notSparseWrite notSparseRead notSparseRange = on_sparse
no-fourth command.Total on_sparse notSparseWrite notSparseRead notSparseRange = on_sparse
no-fourth (command.SparseWrite handle offset bytes) on_sparse notSparseWrite notSparseRead notSparseRange = absurd (notSparseWrite handle offset bytes refl)
no-fourth (command.SparseRead handle offset count) on_sparse notSparseWrite notSparseRead notSparseRange = absurd (notSparseRead handle offset count refl)
no-fourth (command.SparseRange handle offset count) on_sparse notSparseWrite notSparseRead notSparseRange = absurd (notSparseRange handle offset count refl)
