use Rattle.std.proofs.Common.{◌≡◌, ◌≤◌, ◌*◌, ◌^◌, ℕ, List, IsTrue, length, IfSome, None}
use Rattle.std.specs.Int.{cast_unsigned, w64}
use Rattle.std.specs.List.{FoldsTo}
use Rattle.std.specs.Option.{ForSome}
use Rattle.spec_format.specs.Names.{longest_name}
use Rattle.blk_disk.specs.Open.{IsOpen}
use Rattle.blk_disk.specs.Tables.{is_node_among}
use Rattle.blk_sparse.proofs.PartsDropped.{AreDropping}
use Rattle.blk_sparse.proofs.dropping.drop_parts_with.Given as goal

abbrev pub invariant-loop : goal.invariant-loop
invariant-loop g l = record {
  dropping : ForSome (g.F.Folder.told l.fn.folder).files (AreDropping _ (λ p x q. goal.E-step g p x tt q) (g.F.Folder.told l.fn.folder) (g.F.Folder.told l.folder) l.key (cast_unsigned w64 l.signature) l.behind l.counter l.gone l.fn.each l.each);
  calls : (numbers : List ℕ) × FoldsTo (λ p x q. goal.E-step g p x tt q) l.fn.each numbers l.each;
  stands : IfSome l.behind (λ n. IsTrue (is_node_among l.files n));
  few : l.gone.items ≤ l.counter;
  light : l.gone.bytes ≤ l.counter * 2 ^ 34;
  buffer : longest_name ≤ length l.buffer;
  callable : goal.E-IsAlwaysCallable g l.each;
  is_open : ForSome (g.F.Folder.told l.folder).files (IsOpen l.files);
  silent : (g.F.Folder.told l.fn.folder).files ≡ None → (g.F.Folder.told l.folder).files ≡ None;
  later : g.F.Folder.faults l.fn.folder ≤ g.F.Folder.faults l.folder;
}
