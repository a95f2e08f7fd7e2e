use Rattle.std.proofs.Common.{◌≡◌, ◌+◌, ℕ, List, length, sym, ◌∙◌, subst, arith}
use Rattle.std.proofs.lemmas.Result.{on_ok_weaker}
use Rattle.spec_format.specs.Address.{is_address}
use Rattle.blk_entry.specs.Keys.{IsInFile, IsInside, bytes_before, data_at, key_address}
use Rattle.blk_entry.proofs.KeyPlaces.{long_inside, may_have_parts, short_inside}
use Rattle.blk_io.proofs.Carried.{if_damaged_weaker}
use Rattle.blk_verdict.proofs.Joined.{has_value}
use Rattle.blk_verdict.proofs.KeyFacts.{is_key, key_bytes_are, long_is, no_word, place_long, place_short, stores_address}
use Rattle.blk_verdict.proofs.Stored.{chosen_is}
use Rattle.blk_verdict.proofs.keys.read_key.Given as given
use Rattle.blk_verdict.proofs.keys.read_key.Goals as goal

pub read_data-requires : goal.read_data-requires
read_data-requires g c = record { inside = subst (IsInside c.args.files.now c.args.entry 96) (sym c.requires.size) (short_inside c.args.files.now c.args.entry c.args.words.now.key_len c.requires.kind c.requires.stands c.requires.placed.has c.if-words-le-LONGEST_SHORT_KEY.true) }

pub returns-then-words-le-LONGEST_SHORT_KEY-clause-key : goal.returns-then-words-le-LONGEST_SHORT_KEY-clause-key
returns-then-words-le-LONGEST_SHORT_KEY-clause-key g c =
    let p = place_short c.args.entry c.args.words.now.key_len c.args.words.now.long_key c.if-words-le-LONGEST_SHORT_KEY.true in
    let addr : c.args.entry ≡ key_address c.args.entry c.args.words.now.key_len c.args.words.now.long_key = sym p.0 in
    let before : 96 ≡ bytes_before c.args.words.now.key_len = sym p.1 in
    on_ok_weaker c.read_data.result
    (λ h image there key is. h image there ∙ (λ i. data_at image (addr i) (before i) (c.requires.size i)) ∙ sym (key_bytes_are image c.args.entry c.args.words.now key c.requires.kind is)) c.read_data.ensures.bytes

pub returns-then-words-le-LONGEST_SHORT_KEY-clause-short : goal.returns-then-words-le-LONGEST_SHORT_KEY-clause-short
returns-then-words-le-LONGEST_SHORT_KEY-clause-short g c =
    if_damaged_weaker c.read_data.result _ _
    (λ damage cut. record {
      word = c.args.entry;
      at = 96;
      count = length c.args.out.now;
      inside = subst (IsInside c.args.files.now c.args.entry 96) (sym c.requires.size) (short_inside c.args.files.now c.args.entry c.args.words.now.key_len c.requires.kind c.requires.stands c.requires.placed.has c.if-words-le-LONGEST_SHORT_KEY.true);
      cut = cut;
    })
    c.read_data.ensures.short

pub unreachable-requires : goal.unreachable-requires
unreachable-requires g c =
    no_word c.args.words.now.long_key
    (stores_address c.args.files.now (c.args.words.now.key_len + 1) c.args.words.now.long_key (omega arith) (c.requires.placed.holds (long_is c.args.words.now.key_len c.if-words-le-LONGEST_SHORT_KEY.false)))
    (sym c.from_word.ensures ∙ c.in_default.is)

-- the long key is the address that is read
long_addr : (g : given.Over) (c : goal.After-read_data-arg-3-1 g) → c.in-Some.addr ≡ c.args.words.now.long_key
long_addr g c = (chosen_is (is_address c.args.words.now.long_key) c.args.words.now.long_key c.in-Some.addr (sym c.in-Some.is ∙ c.from_word.ensures)).0

inside_long : (g : given.Over) (c : goal.After-read_data-arg-3-1 g) → IsInside c.args.files.now c.in-Some.addr 0 (length c.args.out.now)
inside_long g c =
    let parts = may_have_parts c.args.entry c.args.words.now.key_len c.requires.placed.has in
    let long = long_inside c.args.files.now c.args.words.now.long_key c.args.words.now.key_len parts.1 (c.requires.placed.holds (long_is c.args.words.now.key_len c.if-words-le-LONGEST_SHORT_KEY.false)) in
    subst (λ (w : ℕ). IsInside c.args.files.now w 0 (length c.args.out.now)) (sym (long_addr g c)) (subst (IsInside c.args.files.now c.args.words.now.long_key 0) (sym c.requires.size) long)

pub read_data-requires-2 : goal.read_data-requires-2
read_data-requires-2 g c = record { inside = inside_long g c }

pub returns-clause-key : goal.returns-clause-key
returns-clause-key g c =
    let p = place_long c.args.entry c.args.words.now.key_len c.args.words.now.long_key c.if-words-le-LONGEST_SHORT_KEY.false in
    let read = (chosen_is (is_address c.args.words.now.long_key) c.args.words.now.long_key c.in-Some.addr (sym c.in-Some.is ∙ c.from_word.ensures)).0 in
    let addr : c.in-Some.addr ≡ key_address c.args.entry c.args.words.now.key_len c.args.words.now.long_key = read ∙ sym p.0 in
    let before : 0 ≡ bytes_before c.args.words.now.key_len = sym p.1 in
    on_ok_weaker c.read_data-2.result
    (λ h image there key is. h image there ∙ (λ i. data_at image (addr i) (before i) (c.requires.size i)) ∙ sym (key_bytes_are image c.args.entry c.args.words.now key c.requires.kind is)) c.read_data-2.ensures.bytes

pub returns-clause-short : goal.returns-clause-short
returns-clause-short g c =
    let parts = may_have_parts c.args.entry c.args.words.now.key_len c.requires.placed.has in
    let long = long_inside c.args.files.now c.args.words.now.long_key c.args.words.now.key_len parts.1 (c.requires.placed.holds (long_is c.args.words.now.key_len c.if-words-le-LONGEST_SHORT_KEY.false)) in
    let read = (chosen_is (is_address c.args.words.now.long_key) c.args.words.now.long_key c.in-Some.addr (sym c.in-Some.is ∙ c.from_word.ensures)).0 in
    let inside = subst (λ (w : ℕ). IsInside c.args.files.now w 0 (length c.args.out.now)) (sym read) (subst (IsInside c.args.files.now c.args.words.now.long_key 0) (sym c.requires.size) long) in
    if_damaged_weaker c.read_data-2.result _ _ (λ damage cut. record { word = c.in-Some.addr; at = 0; count = length c.args.out.now; inside = inside; cut = cut }) c.read_data-2.ensures.short

pub returns-clause-untold : goal.returns-clause-untold
returns-clause-untold g c agrees stored =
    let p = place_long c.args.entry c.args.words.now.key_len c.args.words.now.long_key c.if-words-le-LONGEST_SHORT_KEY.false in
    let read = (chosen_is (is_address c.args.words.now.long_key) c.args.words.now.long_key c.in-Some.addr (sym c.in-Some.is ∙ c.from_word.ensures)).0 in
    let addr : key_address c.args.entry c.args.words.now.key_len c.args.words.now.long_key ≡ c.in-Some.addr = p.0 ∙ sym read in
    c.read_data-2.ensures.untold agrees
    (λ image there.
    let key = has_value (List ℕ) _ (stored image there) in
    let known = is_key image c.args.entry c.args.words.now c.args.files.now key.value (agrees image there) c.requires.kind c.requires.placed.has key.is in
    subst (λ (w : ℕ). IsInFile w 0 (length c.args.out.now) image) addr
    (subst (λ (b : ℕ). IsInFile (key_address c.args.entry c.args.words.now.key_len c.args.words.now.long_key) b (length c.args.out.now) image) p.1
    (subst (λ (n : ℕ). IsInFile (key_address c.args.entry c.args.words.now.key_len c.args.words.now.long_key) (bytes_before c.args.words.now.key_len) n image) (sym c.requires.size) known.there)))
