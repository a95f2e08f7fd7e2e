use Rattle.std.proofs.Common.{◌≡◌, List, ℕ, sym, ◌∙◌, arith}
use Rattle.std.specs.Option.{ForSome}
use Rattle.std.specs.Str.{bytes_eq}
use Rattle.blk_disk.specs.Tables.{Agrees}
use Rattle.blk_entry.proofs.KeyPlaces.{may_have_parts, ok_weaker}
use Rattle.blk_verdict.specs.Keyed.{IsKeyOf, words_kept}
use Rattle.blk_verdict.proofs.KeyFacts.{is_key}
use Rattle.blk_verdict.proofs.KeyOf.{bytes_differ, stored_same}
use Rattle.blk_verdict.proofs.same_keys.has_this_key.Goals as goal

pub returns-then-loaded-key-clause-same : goal.returns-then-loaded-key-clause-same
returns-then-loaded-key-clause-same g c image there stored agrees is =
    let known = is_key image c.args.loaded.now.entry (words_kept c.args.loaded.now) c.args.files.now stored agrees c.requires.readable.kind c.requires.readable.placed.has (stored_same image c.args.loaded.now stored is) in
    sym (bytes_differ stored c.args.key.now (λ same. c.if-loaded-key.true (sym known.len ∙ same)))

pub returns-then-key-clause-same : goal.returns-then-key-clause-same
returns-then-key-clause-same g c image there stored agrees is =
    let parts = may_have_parts c.args.loaded.now.entry c.args.loaded.now.key_len c.requires.readable.placed.has in
    let most = parts.1 in
    absurd (omega (arith, most, c.if-key.true, c.if-loaded-key.false))

pub returns-clause-same : goal.returns-clause-same
returns-clause-same g c =
    ok_weaker c.is_stored_key.result _ (λ same. ForSome (g.F.Folder.told c.args.folder.now).files (λ image. (stored : List ℕ) → Agrees c.args.files.now image → IsKeyOf image c.args.loaded.now stored → same ≡ bytes_eq stored c.args.key.now))
    (λ same is image there stored agrees of. is image there stored of) c.is_stored_key.ensures.same
