use Rattle.std.proofs.Common.{ℕ, sym, ◌∙◌, ap}
use Rattle.std.specs.Prelude.{◌==◌, ◌↔◌, IsTrue}
use Rattle.std.specs.Option.{ForSome}
use Rattle.blk_entry.specs.Keys.{AreKeyBytes}
use Rattle.blk_entry.proofs.KeyPlaces.{bytes_of_head, clash, ok_weaker}
use Rattle.blk_chain.specs.Finding.{IsSought}
use Rattle.blk_chain.proofs.Heads.{differs, agrees-by}
use Rattle.blk_chain.proofs.finding.is_sought.Goals as goal

pub returns-then-head-sought-clause-sought : goal.returns-then-head-sought-clause-sought
returns-then-head-sought-clause-sought g c image there = (
  λ no. absurd (clash no),
  λ is. let words = c.requires.head image there in absurd (c.if-head-sought.true (words.hash ∙ is.bytes.hash ∙ sym c.requires.hash)),
)

pub returns-then-head-bits-clause-sought : goal.returns-then-head-bits-clause-sought
returns-then-head-bits-clause-sought g c image there = (
  λ no. absurd (clash no),
  λ is. let words = c.requires.head image there in absurd (differs (c.args.head.now.flags == c.bits.result) c.args.sought.now.child c.if-head-bits.true (ap (λ (b : ℕ). c.args.head.now.flags == b) (c.bits.ensures tt) ∙ ap (λ (f : ℕ). f == 2) words.flags ∙ is.flag)),
)

pub returns-clause-sought : goal.returns-clause-sought
returns-clause-sought g c =
    ok_weaker c.key_is.result (λ same. ForSome (g.F.Folder.told c.args.folder.now).files (λ image. IsTrue same ↔ AreKeyBytes c.args.key.now c.args.entry c.args.head.now.key_len c.args.head.now.long_key image))
    (λ same. ForSome (g.F.Folder.told c.args.folder.now).files (λ image. IsTrue same ↔ IsSought c.args.key.now c.args.sought.now.child c.args.entry image))
    (λ same bytes image there. let words = c.requires.head image there in
    let by_head = bytes_of_head image c.args.entry c.args.head.now c.args.key.now words in
    let flag = ap (λ (f : ℕ). f == 2) (sym words.flags) ∙ ap (λ (b : ℕ). c.args.head.now.flags == b) (sym (c.bits.ensures tt)) ∙ agrees-by (c.args.head.now.flags == c.bits.result) c.args.sought.now.child c.if-head-bits.false in
    let hash = sym words.hash ∙ c.if-head-sought.false ∙ c.requires.hash in (
      λ holds. record { bytes = record { hash = hash; bytes = by_head.0 ((bytes image there).0 holds) }; flag = flag },
      λ is. (bytes image there).1 (by_head.1 is.bytes.bytes),
    ))
    c.key_is.ensures.bytes

pub returns-clause-untold : goal.returns-clause-untold
returns-clause-untold g c can = c.key_is.ensures.untold can c.requires.head
