-- What a newly made folder shows.
use Rattle.std.specs.Prelude.{[], false, ◌&&◌, ◌==◌, if◌then◌else◌}
use Rattle.std.specs.declared.option.Option.TheVariants.{None, Some}
use Rattle.spec_folder.specs.ListView.{ListView}
use Rattle.spec_folder.specs.View.{StoreView, View}
use Rattle.spec_folder.specs.Layout.{Layout}

-- an empty LRU list
abbrev pub no_list : ListView
no_list = record { head = 0; tail = 0; transaction = 0; operation = 0; checks = λ w. false; next = λ w. 0; prev = λ w. 0 }

-- the store view of a new folder: no node, no record, and no data but that of no bytes
abbrev pub no_store : StoreView
no_store = record { node_fields = λ w. None; table = λ bucket. 0; chain_next = λ w. 0; entry = λ w. None; key_place = λ w n. []; stored = λ size w. if (size == 0) && (w == 0) then Some [] else None }

-- the view of a new folder: an empty LRU list, and no node, record or data
abbrev pub no_view : View
no_view = record { list = no_list; store = no_store }

-- the layout of a state without objects
abbrev pub no_layout : Layout
no_layout = record { place = λ item. 0; place_of_doomed = λ number. 0; at = λ w. None; state = λ w. 0; chains = λ bucket. []; owner = λ claim. None }
