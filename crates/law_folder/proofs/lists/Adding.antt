-- Changes of the list one after the other.
use Rattle.std.proofs.Common.{◌≡◌, List, [], ◌∷◌, ◌++◌, refl, sym, ◌∙◌, ap}
use Rattle.spec_folder.specs.ListView.{ListView, ListWrite, with_write, after_writes}
use Rattle.spec_folder.specs.View.{StoreView, list_of, store_of}
use Rattle.spec_folder.specs.ShownChanges.{ShowsTheSame}
use Rattle.law_folder.proofs.updates.IndexWords.{same-shown}
use Rattle.law_folder.specs.BlockWrites.{ListChangesBegin, ListChangesAdd}

after-both : (writes later : List ListWrite) (list : ListView) → after_writes (writes ++ later) list ≡ after_writes later (after_writes writes list)
after-both [] later list = refl
after-both (write ∷ writes) later list = after-both writes later (with_write list write)

pub shows-both : (a b c : StoreView) → ShowsTheSame a b → ShowsTheSame b c → ShowsTheSame a c
shows-both a b c one two = record {
  store = record {
    node_fields = λ w clear. one.store.node_fields w clear ∙ two.store.node_fields w clear;
    entry = λ w clear. one.store.entry w clear ∙ two.store.entry w clear;
    chain_next = λ w clear. one.store.chain_next w clear ∙ two.store.chain_next w clear;
    key_place = λ w fields clear is long short. one.store.key_place w fields clear is long short ∙ two.store.key_place w fields clear (sym (one.store.entry w clear) ∙ is) long short;
    stored = λ size w clear. one.store.stored size w clear ∙ two.store.stored size w clear;
  };
  table = λ b. one.table b ∙ two.table b;
}

pub changes-add : ListChangesAdd
changes-add writes later from between image one two = record {
  list = two.list ∙ ap (after_writes later) one.list ∙ sym (after-both writes later (list_of from));
  store = shows-both (store_of from) (store_of between) (store_of image) one.store two.store;
}

pub changes-begin : ListChangesBegin
changes-begin image = record { list = refl; store = same-shown (store_of image) }
