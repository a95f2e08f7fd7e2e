-- One object changed inside its own footprint: what is represented is the changed state.
use Rattle.std.proofs.Common.{◌≡◌, ℕ, ◌<◌, List, [], ◌∷◌, refl, ap, sym, ◌∙◌, subst, Bool, true, false, Option, Some, Ok, ⊎_elim}
use Rattle.std.specs.Prelude.{◌&&◌, ◌==◌}
use Rattle.std.specs.Option.{option_map_or}
use Rattle.std.proofs.lemmas.Bool.{or_left, or_right, eq-eqb}
use Rattle.std.proofs.lemmas.Bool.Decides.{eqb_tells}
use Rattle.std.proofs.Math.Dec.{eqb}
use Rattle.spec_folder.specs.ListView.{ListView, Segment, first_or, last_or, put}
use Rattle.blk_model.specs.Items.{Item}
use Rattle.blk_model.specs.State.{State, Object}
use Rattle.spec_format.specs.BlockFiles.{is_among}
use Rattle.spec_format.specs.Claims.{Claim}
use Rattle.spec_folder.specs.View.{View, StoreView, RecordFields}
use Rattle.spec_folder.specs.Chains.{is_of_bucket, bucket_of_hash, Linked, IsChain}
use Rattle.spec_folder.specs.Loads.{Loaded, load}
use Rattle.spec_folder.specs.Layout.{Layout, is_listed, order, rule_of, IsPlacedAt, IsListedRecord, Shows, IsLayoutOf, Represents, OneChanged, changed_at, IsChange}
use Rattle.spec_folder.specs.Footprint.{SameNodeLinks, IsClear, SameBut, IsReplaced}
use Rattle.law_folder.proofs.walks.Shown.{node-is}
use Rattle.law_folder.proofs.states.Laid.{IsNodeOf, node-of}
use Rattle.law_folder.proofs.claims.Outside.{AreClear, all-clear, clear-zero, load-outside}
use Rattle.law_folder.proofs.states.Changing.{lies-changed, at-itself, at-elsewhere}

pub linked-facts : (v u : StoreView) (b w : ℕ) (cs : List ℕ) → ((c : ℕ) → is_among cs c ≡ true → (is_of_bucket u b c ≡ is_of_bucket v b c) × (u.chain_next c ≡ v.chain_next c)) → Linked v b w cs → Linked u b w cs
linked-facts v u b w [] same linked = linked
linked-facts v u b w (c ∷ cs) same linked =
    let here = same c (or_left (c == c) (is_among cs c) (eq-eqb c c refl)) in
    (linked.0, here.0 ∙ linked.1, subst (λ (x : ℕ). Linked u b x cs) (sym here.1) (linked-facts v u b (v.chain_next c) cs (λ d h. same d (or_right (c == d) (is_among cs d) h)) linked.2))

pub segment-facts : (l k : ListView) (before suffix : ℕ) (xs : List ℕ) → ((w : ℕ) → is_among xs w ≡ true → SameNodeLinks w l k) → Segment l.checks l.next l.prev before xs suffix → Segment k.checks k.next k.prev before xs suffix
segment-facts l k before suffix [] same s = tt
segment-facts l k before suffix (x ∷ xs) same s =
    let here = same x (or_left (x == x) (is_among xs x) (eq-eqb x x refl)) in
    (record { good = sym here.checks ∙ s.0.good; next_is = sym here.next ∙ s.0.next_is; prev_is = sym here.prev ∙ s.0.prev_is }, segment-facts l k x suffix xs (λ w h. same w (or_right (x == w) (is_among xs w) h)) s.1)

module _ (touched : Claim → Bool) (v u : View) (m : State) (y : Layout) (r : Represents v m y) (objects : List (Option Object)) (i : Item) (l k : Loaded) (owner : Claim → Option ℕ)
    (same : SameBut touched v u) (one : OneChanged m objects i) (listed : is_listed m i ≡ true) (here : y.at (y.place i) ≡ Some l) (ch : IsChange m objects y i l k owner) (new : IsReplaced touched v u y (y.place i) l k) where
  lies : IsLayoutOf m y
  lies = r.holds.lies

  shows : Shows v.store y
  shows = r.holds.shows

  -- other nodes' records are clear
  clear-other : (w : ℕ) (x : Loaded) → (y.place i == w) ≡ false → y.at w ≡ Some x → AreClear touched x
  clear-other w x apart is = all-clear touched x (λ c h. new.apart c w (lies.own w x c is h) apart)

  by-node : (P : ℕ → Type 0) (w : ℕ) → (y.place i ≡ w → P w) → ((y.place i == w) ≡ false → P w) → P w
  by-node P w f g = ⊎_elim (λ (e : (eqb (y.place i) w ≡ true) × (y.place i ≡ w)). f e.1) (λ (e : (eqb (y.place i) w ≡ false) × _). g e.0) (eqb_tells (y.place i) w)

  each : (w : ℕ) (x : Loaded) → put y.at (y.place i) (Some k) w ≡ Some x → load u.store (rule_of y w) w ≡ Ok x
  each w x is = by-node (λ z. z ≡ w → load u.store (rule_of y w) w ≡ Ok x) w
      (λ e _.
      let a : ◌≡◌ {A = Option Loaded} (Some k) (Some x) = sym (at-itself y.at (y.place i) (Some k)) ∙ ap (put y.at (y.place i) (Some k)) e ∙ is in
      let s : k ≡ x = cc in
      subst (λ (z : ℕ). load u.store (rule_of y z) z ≡ Ok x) e (new.loads ∙ ap Ok s))
      (λ e _.
      let at : y.at w ≡ Some x = sym (at-elsewhere y.at (y.place i) (Some k) w e) ∙ is in
      load-outside touched v.store u.store same.store (rule_of y w) w x refl (shows.each w x at) (clear-other w x e at))
      refl

  chain-same : (b c : ℕ) → b < 65536 → is_among (y.chains b) c ≡ true → (is_of_bucket u.store b c ≡ is_of_bucket v.store b c) × (u.store.chain_next c ≡ v.store.chain_next c)
  chain-same b c below there =
      let q : IsListedRecord m y c = lies.unchained b c below there in
      by-node (λ z. z ≡ q.node → (is_of_bucket u.store b c ≡ is_of_bucket v.store b c) × (u.store.chain_next c ≡ v.store.chain_next c)) q.node
      (λ e _.
      let s : l ≡ q.loaded = let a : y.at (y.place i) ≡ y.at q.node = ap y.at e in let p : y.at q.node ≡ Some q.loaded = q.here in let t : y.at (y.place i) ≡ Some l = here in cc in
      let c_is : l.contents ≡ c = ap (λ (z : Loaded). z.contents) s ∙ q.record_is in
      subst (λ (z : ℕ). (is_of_bucket u.store b z ≡ is_of_bucket v.store b z) × (u.store.chain_next z ≡ v.store.chain_next z)) c_is (new.bucket b, new.chain_next))
      (λ e _.
      let clear : IsClear touched c = subst (IsClear touched) q.record_is (clear-other q.node q.loaded e q.here).contents in
      (ap (λ (o : Option RecordFields). option_map_or (λ e. e.checks && (bucket_of_hash e.hash == b)) o false) (sym (same.store.entry c clear)), sym (same.store.chain_next c clear)))
      refl

  shows-changed : Shows u.store (changed_at y (y.place i) k owner)
  shows-changed = record {
    no_record = sym (same.store.entry 0 (clear-zero touched)) ∙ shows.no_record;
    each = each;
    chains = λ b below. let c : IsChain v.store b (y.chains b) = shows.chains b below in
        record { linked = subst (λ (x : ℕ). Linked u.store b x (y.chains b)) (same.table b) (linked-facts v.store u.store b (v.store.table b) (y.chains b) (λ x there. chain-same b x below there) c.linked); once = c.once };
  }

  node-same : (w : ℕ) → is_among (order m y) w ≡ true → SameNodeLinks w v.list u.list
  node-same w there =
      let n : IsNodeOf y m.uses w = node-of y m.uses w there in
      let q : IsPlacedAt m y n.item = lies.laid n.item n.among in
      let at : y.at w ≡ Some q.loaded = ap y.at (sym n.is) ∙ q.here in
      by-node (λ z. z ≡ w → SameNodeLinks w v.list u.list) w
      (λ e _. subst (λ (z : ℕ). SameNodeLinks z v.list u.list) e new.links)
      (λ e _.
      let clear : IsClear touched w = subst (IsClear touched) (node-is v.store (rule_of y w) w q.loaded (shows.each w q.loaded at)) (clear-other w q.loaded e at).node in
      record { checks = same.links.checks w clear; next = same.links.next w clear; prev = same.links.prev w clear })
      refl

  pub replaced : Represents u (record m { objects = objects }) (changed_at y (y.place i) k owner)
  replaced = record {
    holds = record { shows = shows-changed; lies = lies-changed m objects y i l k owner lies one listed here ch };
    list = record {
      head_is = sym same.links.head ∙ r.list.head_is;
      tail_is = sym same.links.tail ∙ r.list.tail_is;
      linked = segment-facts v.list u.list (first_or 0 (order m y)) (last_or 0 (order m y)) (order m y) node-same r.list.linked;
      distinct = r.list.distinct;
      few = r.list.few;
      no_zero = sym (same.links.checks 0 (clear-zero touched)) ∙ r.list.no_zero;
    };
    idle = sym same.links.transaction ∙ r.idle;
  }
