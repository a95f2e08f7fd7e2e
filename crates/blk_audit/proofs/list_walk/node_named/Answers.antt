use Rattle.std.proofs.Common.{◌≡◌, ℕ, true, None, Some, sym, subst, ◌∙◌}
use Rattle.spec_format.specs.Address.{is_address}
use Rattle.blk_audit.specs.Nodes.{node_of}
use Rattle.blk_audit.proofs.Truths.{none_by, test_by, value_by}
use Rattle.blk_audit.proofs.Steps.{node_named, node_unnamed, node_word_of}
use Rattle.blk_audit.proofs.list_walk.node_named.Goals as goal

pub returns-in_default : goal.returns-in_default
returns-in_default c = node_unnamed c.args.nodes.now c.args.word (none_by (is_address c.args.word) c.args.word (sym c.in_default.is ∙ c.from_word.ensures))

pub returns-in_default-get : goal.returns-in_default-get
returns-in_default-get c =
    node_named c.args.nodes.now c.args.word c.in-Some.addr None
    (test_by (is_address c.args.word) c.args.word c.in-Some.addr (sym c.in-Some.is ∙ c.from_word.ensures))
    (value_by (is_address c.args.word) c.args.word c.in-Some.addr (sym c.in-Some.is ∙ c.from_word.ensures))
    (sym c.in_default-get.is ∙ c.get.ensures)

pub returns : goal.returns
returns c =
    let address : is_address c.args.word ≡ true = test_by (is_address c.args.word) c.args.word c.in-Some.addr (sym c.in-Some.is ∙ c.from_word.ensures) in
    let named : c.in-Some.addr ≡ c.args.word = value_by (is_address c.args.word) c.args.word c.in-Some.addr (sym c.in-Some.is ∙ c.from_word.ensures) in
    record {
      addr = named;
      node = node_named c.args.nodes.now c.args.word c.in-Some.addr (Some c.in-Some-get.node) address named (sym c.in-Some-get.is ∙ c.get.ensures);
      is = node_word_of c.args.nodes.now c.args.word c.in-Some-get.node address (subst (λ (w : ℕ). Some c.in-Some-get.node ≡ node_of c.args.nodes.now w) named (sym c.in-Some-get.is ∙ c.get.ensures));
    }
