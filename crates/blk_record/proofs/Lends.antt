-- Four bytes of the slice that a view holds are lent, and the view follows. Assumes `Logic`.
use mathlib.Core.Path.{◌≡◌, refl, sym, ap, subst, ◌∙◌}
use Prim.Native.Nat.{ℕ, ◌+◌, ◌≤◌}
use native.Mathlib.Omega.{arith}
use mathlib.Core.List.{List, [], ◌∷◌, ◌++◌}
use lib.ListN.{length, take, drop as drop_list, take-append-drop, length-drop}
use seplogic.Ra.Ura.{Ura}
use mir.Syntax.{Sym, Lifetime}
use mir.Val.{Val, vstruct, of_list}
use base.Fraction.{full_share}
use base.Logic.{SProp, ent, sep, ex, guard}
use base.Stored.{coded_list}
use base.Fml.{Lft, Incl, GName, Share, Fml, fsep, fobs, fbor, flft}
use types.Logic.{Logic, sem}
use types.Kit.{‵, check, use1, use2, use3, ◌⊛◌, some, later, await, ◌$◌, ◌∵◌, !, qed, move, keep, drop, split, split3, join, group, pick, show, rewrite, fsplit, fsplit3, fjoin, fjoin3, fpick, fpack, feq_i, feq_l, updating, now as at_once, done}
use types.SemTy.{Body, Arr, cells}
use types.Through.{hands_through}
use types.Follow.{takes_part}
use types.Mut.{open_ref}
use denote.RattleType.{RattleType, Valss, flat}
use denote.Memory.{mem, cell_at, part_at, part_of}
use denote.Ref.{MutBor, at_last}
use denote.Follow.{follows, follows_then}
use denote.Array.{Array}
use denote.Slice.{MutSlice, room, Room, mut_slice_vals, slice_val}
use denote.FollowSlice.{heres_id, slice_of}
use denote.Through.{renamed}
use denote.Builtin.{u8}
use denote.Steps.{nothing}
use denote.Struct.Recorded.{Recorded}
use denote.Struct.Struct.{Shape, Struct, within}
use borrow.Table.Elements.{at, at_mul, cut_app, join_app, length-take-le}
use Rattle.std.proofs.Common.{append-nil}
use Rattle.std.proofs.lemmas.List.{drop_all, drop-drop}
use Rattle.spec_image.specs.Bytes.{spliced}
use Rattle.spec_image.proofs.Splices.{length-spliced, spliced-is}

-- new bytes over all of the old ones
spliced-all : (new old : List ℕ) → length new ≡ length old → spliced 0 new old ≡ new
spliced-all new old e = spliced-is 0 new old (omega (arith, e)) ∙ ap (λ (l : List ℕ). new ++ l) (drop_all (0 + length new) old (omega (arith, e))) ∙ append-nil new

-- ---- part of a slice
module _ {M : Type 1} {𝓤 : Ura M} (𝓛 : Logic 𝓤) (ℓ : Lifetime) (κ : Lft) (q : Share) (b o : ℕ) (γ : GName) (xs : List ℕ) (place : ℕ) (inside : place + 4 ≤ length xs) where
  open 𝓛 use {H, A}

  abbrev front : List ℕ
  front = take place xs

  abbrev pub part : List ℕ
  part = take 4 (drop_list place xs)

  abbrev back : List ℕ
  back = drop_list 4 (drop_list place xs)

  abbrev p : ℕ
  p = place + o

  cut : xs ≡ front ++ (part ++ back)
  cut = sym (take-append-drop place xs) ∙ ap (λ (l : List ℕ). front ++ l) (sym (take-append-drop 4 (drop_list place xs)))

  pub part-long : length part ≡ 4
  part-long = length-take-le 4 (drop_list place xs) (omega (arith, length-drop place xs))

  on : at o (mem u8).size (length front) ≡ p
  on = at_mul o 1 (length front) ∙ omega (arith, length-take-le place xs (omega arith))

  around : (ws : List ℕ) → length ws ≡ 4 → front ++ (ws ++ back) ≡ spliced place ws xs
  around ws e =
      let past : place + length ws ≡ place + 4 = ap (λ (k : ℕ). place + k) e in
      ap (λ (l : List ℕ). front ++ (ws ++ l)) (drop-drop 4 place xs ∙ ap (λ (k : ℕ). drop_list k xs) (sym past)) ∙ sym (spliced-is place ws xs (omega (arith, e)))

  abbrev Others : SProp 𝓤
  Others = sep 𝓤 (sem 𝓛 (cells (mem u8) front b o)) (sem 𝓛 (cells (mem u8) back b (at p (mem u8).size 4)))

  put : (ws : List ℕ) → ent 𝓤 (sep 𝓤 (sem 𝓛 ((Arr (mem u8) (length part)).own_at ws b p)) Others) (sem 𝓛 ((Arr (mem u8) (length xs)).own_at (spliced place ws xs) b o))
  put ws = qed 𝓛 (‵ ((Arr (mem u8) (length part)).own_at ws b p) ∷ ‵ (cells (mem u8) front b o) ∷ ‵ (cells (mem u8) back b (at p (mem u8).size 4)) ∷ []) ∵
      fsplit ! $ feq_l ! (λ e.
      rewrite ! 2 (λ (k : ℕ). ‵ (cells (mem u8) back b (at p (mem u8).size k))) (sym (e ∙ part-long)) refl $ move ! (0 ∷ 2 ∷ []) $
      use2 𝓛 (‵ (cells (mem u8) (ws ++ back) b p)) (join_app 𝓛 (mem u8) ws back b p) $
      rewrite ! 0 (λ (k : ℕ). ‵ (cells (mem u8) (ws ++ back) b k)) (sym on) refl $ move ! (1 ∷ 0 ∷ []) $
      use2 𝓛 (‵ (cells (mem u8) (front ++ (ws ++ back)) b o)) (join_app 𝓛 (mem u8) front (ws ++ back) b o) $
      rewrite ! 0 (λ (l : List ℕ). ‵ (cells (mem u8) l b o)) (around ws (e ∙ part-long)) refl $
      feq_i ! ℕ (length (spliced place ws xs)) (length xs) (length-spliced place ws xs) $ fjoin ! $ done !)

  abbrev pub PartLent : GName → SProp 𝓤
  PartLent δ = sep 𝓤 (sem 𝓛 ((MutSlice ℓ κ u8).own_val (record { ref_ptr = (b, p); ghost_name = δ; now = part }) (slice_val (b, p) (length part) ∷ []))) (sep 𝓤 (A.lft κ q) (sem 𝓛 (follows (Array u8 0) (Array u8 0) γ δ (λ ws. spliced place ws xs))))

  pub lends_part : Room u8 (length part) → (vs : List Val)
      → ent 𝓤 (sep 𝓤 (sem 𝓛 ((MutSlice ℓ κ u8).own_val (record { ref_ptr = (b, o); ghost_name = γ; now = xs }) vs)) (A.lft κ q)) (H.⇛ (ex 𝓤 PartLent))
  lends_part rm vs = qed 𝓛 (‵ ((MutSlice ℓ κ u8).own_val (record { ref_ptr = (b, o); ghost_name = γ; now = xs }) vs) ∷ ‵ (flft κ q) ∷ []) ∵ updating ! $ fsplit3 ! $ drop ! $
      rewrite ! 0 (λ (l : List ℕ). ‵ (fobs γ ((coded_list u8.coded).code l))) (heres_id u8 xs) refl $ open_ref ! tt (Arr (mem u8) (length xs)) {b = b} {o = o} $ fsplit ! $ drop ! $
      rewrite ! 0 (λ (l : List ℕ). ‵ (cells (mem u8) l b o)) cut refl $
      use1 𝓛 (‵ (cells (mem u8) front b o) ⊛ ‵ (cells (mem u8) (part ++ back) b (at o (mem u8).size (length front)))) (cut_app 𝓛 (mem u8) front (part ++ back) b o) $ split ! $ move ! (1 ∷ []) $
      rewrite ! 0 (λ (k : ℕ). ‵ (cells (mem u8) (part ++ back) b k)) on refl $
      use1 𝓛 (‵ (cells (mem u8) part b p) ⊛ ‵ (cells (mem u8) back b (at p (mem u8).size (length part)))) (cut_app 𝓛 (mem u8) part back b p) $ split ! $
      rewrite ! 1 (λ (k : ℕ). ‵ (cells (mem u8) back b (at p (mem u8).size k))) part-long refl $
      feq_i ! ℕ (length part) (length part) refl $ fjoin ! $ move ! (2 ∷ 1 ∷ []) $ join ! $ move ! (2 ∷ 3 ∷ 4 ∷ 1 ∷ 0 ∷ []) $ group ! 5 $
      use1 𝓛 (later (some (λ (δ : GName). ‵ (fobs δ ((coded_list u8.coded).code part)) ⊛ ‵ (fbor κ (Body (Arr (mem u8) (length part)) b p δ)) ⊛ ‵ (flft κ q) ⊛ ‵ (follows (Array u8 0) (Array u8 0) γ δ (λ ws. spliced place ws xs)))))
      (takes_part 𝓛 (Arr (mem u8) (length xs)) (Arr (mem u8) (length part)) (λ ws. spliced place ws xs) κ q b o b p γ Others put ((coded_list u8.coded).code xs) ((coded_list u8.coded).code xs) part) $ await ! tt $ pick ! (λ δ. split3 ! $
      use2 𝓛 (‵ ((MutSlice ℓ κ u8).own_val (record { ref_ptr = (b, p); ghost_name = δ; now = part }) (slice_val (b, p) (length part) ∷ []))) (slice_of 𝓛 u8 ℓ κ b p δ part rm) $ at_once ! $ show ! PartLent δ $ done !)

-- ---- a struct whose one field that holds data is a `&'a mut [u8]`
module _ (name : Sym) (args : List Lifetime) (ℓ' : Lifetime) (κ' : Lft) (D : Type 0) (held : D → MutBor (List ℕ)) where
  abbrev pub Sl : RattleType
  Sl = MutSlice ℓ' κ' u8

  abbrev pub shape : Shape
  shape = record { name = name; args = args; types = []; fields = Sl ∷ [] }

  abbrev pub whole_val : List Val → List Val
  whole_val us = vstruct (of_list (flat (Sl ∷ []) (us, tt))) ∷ []

  module _ (one : (x y : D) → ◌≡◌ {A = MutBor (List ℕ) × Unit {0}} (held x, tt) (held y, tt) → x ≡ y) (with : D → ℕ → List ℕ → D)
      (is : (d : D) (place : ℕ) (ws : List ℕ) → held (with d place ws) ≡ at_last (held d) (spliced place ws (held d).now)) where
    abbrev pub R : RattleType
    R = Recorded (Struct shape) D (λ d. (held d, tt)) one

    module _ {M : Type 1} {𝓤 : Ura M} (𝓛 : Logic 𝓤) (d : D) (rb ro : ℕ) where
      open 𝓛 use {H, A}

      abbrev n : ℕ
      n = length (held d).now

      abbrev b : ℕ
      b = (held d).ref_ptr.0

      abbrev o : ℕ
      o = (held d).ref_ptr.1

      abbrev Held : GName → Fml
      Held δ = Body (Arr (mem u8) n) b o δ

      abbrev Cellᵛ : ℕ → Fml
      Cellᵛ k = cell_at full_share R.mir (whole_val (slice_val (b, o) k ∷ [])) rb ro

      abbrev Has : List ℕ → SProp 𝓤
      Has ws = sep 𝓤 (A.obs (held d).ghost_name ((coded_list u8.coded).code ws)) (sep 𝓤 (A.bor κ' (Held (held d).ghost_name)) (sem 𝓛 (fsep (Cellᵛ n) (room u8 n))))

      counts : (ws : List ℕ) → ent 𝓤 (sem 𝓛 ((Arr (mem u8) n).own_at ws b o)) (guard 𝓤 (length ws ≡ n) (sem 𝓛 ((Arr (mem u8) n).own_at ws b o)))
      counts ws = qed 𝓛 (‵ ((Arr (mem u8) n).own_at ws b o) ∷ []) ∵ fsplit ! $ feq_l ! (λ e. check ! e $ feq_i ! ℕ (length ws) n e $ done !)

      view_out : ent 𝓤 (sem 𝓛 ((mem R).own_at d rb ro)) (Has (held d).now)
      unfolding part_of
      view_out = qed 𝓛 (‵ ((mem R).own_at d rb ro) ∷ []) ∵ fpick ! (λ vs. fsplit ! $ move ! (1 ∷ []) $ fpick ! (λ vss. fsplit ! $ feq_l ! (λ e. fsplit ! $ fsplit3 ! $ fsplit ! $ feq_l ! (λ e'.
          -- [the buffer; the name; the borrow; nothing; the cell]
          rewrite ! 4 (λ (us : List Val). ‵ (cell_at full_share R.mir us rb ro)) (e ∙ ap whole_val e') refl $
          rewrite ! 1 (λ (l : List ℕ). ‵ (fobs (held d).ghost_name ((coded_list u8.coded).code l))) (heres_id u8 (held d).now) refl $ keep ! (1 ∷ 2 ∷ 4 ∷ 0 ∷ []) $ done !))))

      view_in : (d' : D) (ws : List ℕ) → held d' ≡ at_last (held d) ws → length ws ≡ n → ent 𝓤 (Has ws) (sem 𝓛 ((mem R).own_at d' rb ro))
      unfolding part_of
      view_in d' ws f e =
          let h : MutBor (List ℕ) = at_last (held d) ws in
          qed 𝓛 (‵ (fobs (held d).ghost_name ((coded_list u8.coded).code ws)) ∷ ‵ (fbor κ' (Held (held d).ghost_name)) ∷ ‵ (fsep (Cellᵛ n) (room u8 n)) ∷ []) ∵
          rewrite ! 0 (λ (l : List ℕ). ‵ (fobs (held d).ghost_name ((coded_list u8.coded).code l))) (sym (heres_id u8 ws)) refl $
          rewrite ! 1 (λ (k : ℕ). ‵ (fbor κ' (Body (Arr (mem u8) k) b o (held d).ghost_name))) (sym e) refl $
          rewrite ! 2 (λ (k : ℕ). ‵ (fsep (Cellᵛ k) (room u8 k))) (sym e) refl $
          move ! (2 ∷ []) $ fsplit ! $ move ! (1 ∷ []) $ feq_i ! (List Val) (mut_slice_vals h) (mut_slice_vals h) refl $ fjoin ! $ move ! (0 ∷ 2 ∷ 3 ∷ []) $ fjoin3 ! $
          nothing ! $ move ! (1 ∷ 0 ∷ []) $ fjoin ! $
          feq_i ! (List Val) (whole_val (mut_slice_vals h)) (whole_val (mut_slice_vals h)) refl $ fjoin ! $
          fpack ! (Valss (Sl ∷ [])) (λ vss. within shape (h, tt) (whole_val (mut_slice_vals h)) vss) (mut_slice_vals h, tt) $ move ! (1 ∷ 0 ∷ []) $ fjoin ! $
          fpack ! (List Val) (λ us. fsep (cell_at full_share R.mir us rb ro) ((Struct shape).own_val (h, tt) us)) (whole_val (mut_slice_vals h)) $
          rewrite ! 0 (λ (g : MutBor (List ℕ)). ‵ (part_at (Struct shape) full_share (g, tt) rb ro)) (sym f) refl $ done !

      module _ (ℓ : Lifetime) (κ : Lft) (inc : Incl κ κ') (q : Share) (γ : GName) where
        abbrev over : List ℕ → D
        over ws = with d 0 ws

        overlaid : (ws : List ℕ) → length ws ≡ n → held (over ws) ≡ at_last (held d) ws
        overlaid ws e = is d 0 ws ∙ ap (at_last (held d)) (spliced-all ws (held d).now e)

        abbrev WindowLent : GName → SProp 𝓤
        WindowLent γ' = sep 𝓤 (sem 𝓛 ((MutSlice ℓ κ u8).own_val (renamed (held d) γ') (mut_slice_vals (held d)))) (sep 𝓤 (A.lft κ q) (sem 𝓛 (follows R (Array u8 0) γ γ' over)))

        lends_window : Room u8 n → ent 𝓤 (sep 𝓤 (A.obs γ (R.coded.code d)) (sep 𝓤 (A.bor κ (Body (mem R) rb ro γ)) (A.lft κ q))) (H.⇛ (ex 𝓤 WindowLent))
        lends_window rm =
            qed 𝓛 (‵ (fobs γ (R.coded.code d)) ∷ ‵ (fbor κ (Body (mem R) rb ro γ)) ∷ ‵ (flft κ q) ∷ []) ∵ updating ! $
            use3 𝓛 (later (some (λ (γ' : GName). ‵ (fobs γ' ((coded_list u8.coded).code (held d).now)) ⊛ ‵ (fbor κ (Held γ')) ⊛ ‵ (flft κ q) ⊛ ‵ (follows R (Array u8 0) γ γ' over))))
            (hands_through 𝓛 (mem R) (Arr (mem u8) n) over κ κ' inc rb ro b o γ (held d).ghost_name (sem 𝓛 (fsep (Cellᵛ n) (room u8 n))) (λ ws. length ws ≡ n) counts (λ ws e. view_in (over ws) ws (overlaid ws e) e) q d (held d).now view_out) $
            await ! tt $ pick ! (λ γ'. split3 ! $ use2 𝓛 (‵ ((MutSlice ℓ κ u8).own_val (renamed (held d) γ') (mut_slice_vals (held d)))) (slice_of 𝓛 u8 ℓ κ b o γ' (held d).now rm) $ at_once ! $ show ! WindowLent γ' $ done !)

        module _ (place : ℕ) (inside : place + 4 ≤ n) where
          abbrev ys : List ℕ
          ys = part 𝓛 ℓ κ q b o γ (held d).now place inside

          same_at : (ws : List ℕ) → over (spliced place ws (held d).now) ≡ with d place ws
          same_at ws =
              let bytes : List ℕ = spliced place ws (held d).now in
              one (over bytes) (with d place ws) (ap (λ (h : MutBor (List ℕ)). (h, tt)) (overlaid bytes (length-spliced place ws (held d).now) ∙ sym (is d place ws)))

          same : ◌≡◌ {A = List ℕ → D} (λ ws. over (spliced place ws (held d).now)) (with d place)
          same = λ i ws. same_at ws i

          abbrev pub FieldLent : GName → SProp 𝓤
          FieldLent δ = sep 𝓤 (sem 𝓛 ((MutSlice ℓ κ u8).own_val (record { ref_ptr = (b, place + o); ghost_name = δ; now = ys }) (slice_val (b, place + o) (length ys) ∷ []))) (sep 𝓤 (A.lft κ q) (sem 𝓛 (follows R (Array u8 0) γ δ (with d place))))

          pub lends_field : Room u8 n → ent 𝓤 (sep 𝓤 (A.obs γ (R.coded.code d)) (sep 𝓤 (A.bor κ (Body (mem R) rb ro γ)) (A.lft κ q))) (H.⇛ (ex 𝓤 FieldLent))
          lends_field rm =
              let few : length ys ≡ 4 = part-long 𝓛 ℓ κ q b o γ (held d).now place inside in
              let four : Room u8 4 = (omega arith, omega arith) in
              qed 𝓛 (‵ (fobs γ (R.coded.code d)) ∷ ‵ (fbor κ (Body (mem R) rb ro γ)) ∷ ‵ (flft κ q) ∷ []) ∵ updating ! $
              use3 𝓛 (later (some (λ (γ' : GName). ‵ ((MutSlice ℓ κ u8).own_val (renamed (held d) γ') (mut_slice_vals (held d))) ⊛ ‵ (flft κ q) ⊛ ‵ (follows R (Array u8 0) γ γ' over)))) (lends_window rm) $ await ! tt $ pick ! (λ γ'. split3 ! $
              use2 𝓛 (later (some (λ (δ : GName). ‵ ((MutSlice ℓ κ u8).own_val (record { ref_ptr = (b, place + o); ghost_name = δ; now = ys }) (slice_val (b, place + o) (length ys) ∷ [])) ⊛ ‵ (flft κ q) ⊛ ‵ (follows (Array u8 0) (Array u8 0) γ' δ (λ ws. spliced place ws (held d).now)))))
              (lends_part 𝓛 ℓ κ q b o γ' (held d).now place inside (subst (Room u8) (sym few) four) (mut_slice_vals (held d))) $ await ! tt $ pick ! (λ δ. split3 ! $ move ! (3 ∷ 2 ∷ []) $
              use2 𝓛 (‵ (follows R (Array u8 0) γ δ (λ ws. over (spliced place ws (held d).now)))) (follows_then 𝓛 R (Array u8 0) (Array u8 0) over (λ ws. spliced place ws (held d).now) γ γ' δ) $
              rewrite ! 0 (λ (F : List ℕ → D). ‵ (follows R (Array u8 0) γ δ F)) same refl $ move ! (1 ∷ 2 ∷ 0 ∷ []) $ at_once ! $ show ! FieldLent δ $ done !))
