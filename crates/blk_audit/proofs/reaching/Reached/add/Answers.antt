use Rattle.std.proofs.Common.{◌≡◌, ℕ, ◌++◌, ◌∷◌, [], Bool, true, false, List, map, not, refl, sym, ap, subst, ◌∙◌, if◌then◌else◌}
use Rattle.std.specs.BTreeSet.{contains}
use Rattle.std.specs.Ordering.{nat_cmp}
use Rattle.blk_addr.specs.Claims.{IsClaimsOf, is_claimed}
use Rattle.spec_format.specs.BlockFiles.{is_among}
use Rattle.blk_audit.specs.Chaining.{first_block_of}
use Rattle.blk_audit.proofs.Ends.{cut_more}
use Rattle.blk_audit.proofs.FirstBlocks.{claimed_first, known_more, map_last}
use Rattle.blk_audit.proofs.reaching.Reached.add.Goals as goal

pub returns-clause-reached : goal.returns-clause-reached
returns-clause-reached c =
    let here : c.word.result ≡ c.args.addr = c.word.ensures.word in
    let fresh : is_claimed c.args.self.now.met c.first_of_record.result ≡ false = ap (is_claimed c.args.self.now.met) c.first_of_record.ensures ∙ claimed_first c.args.self.now c.args.addr c.requires.reached ∙ c.requires.fresh in
    let added : c.in_ok-add.field-0 ≡ true = c.in_ok-add.ensures.told ∙ ap not fresh in
    let claims : IsClaimsOf c.add.new.self (map first_block_of c.args.self.now.words.items ++ c.first_of_record.result ∷ []) =
    subst (λ (t : Bool). IsClaimsOf c.add.new.self (map first_block_of c.args.self.now.words.items ++ (if t then c.first_of_record.result ∷ [] else []))) added (c.in_ok-add.ensures.listed (map first_block_of c.args.self.now.words.items) c.requires.reached.met) in
    record {
      met = subst (IsClaimsOf c.add.new.self)
          (ap (λ (w : ℕ). map first_block_of c.args.self.now.words.items ++ w ∷ []) c.first_of_record.ensures ∙ sym (ap (map first_block_of) c.in_ok-push.ensures.items ∙ map_last first_block_of c.args.self.now.words.items c.args.addr))
          claims;
      cut = cut_more c.args.self.now.words.items _ c.args.self.now.ends.items c.args.self.now.closed.items c.args.addr c.in_ok-push.ensures.items c.requires.reached.cut;
      known = λ w.
          known_more (contains nat_cmp c.args.self.now.known) (contains nat_cmp c.insert.new.self) c.args.self.now.words.items c.word.result c.in_ok-insert.ensures.updates.0 c.requires.reached.known w
          ∙ ap (λ (v : ℕ). is_among (c.args.self.now.words.items ++ v ∷ []) w) here ∙ sym (ap (λ (words : List ℕ). is_among words w) c.in_ok-push.ensures.items);
    }

pub returns-clause-ends : goal.returns-clause-ends
returns-clause-ends c = record { ends = refl; closed = refl }
