-- Four bytes of the window are lent, and the view follows. Assumes `Logic`.
use mathlib.Core.Path.{◌≡◌, refl, sym, ap}
use Prim.Native.Nat.{◌+◌, ◌-◌, ◌^◌, ◌<◌, ◌≤◌}
use native.Mathlib.Omega.{arith}
use mathlib.Core.List.{List, [], ◌∷◌}
use lib.ListN.{length}
use base.Fraction.{full_share}
use base.Fml.{GName, ftrue, fat, flft}
use mir.Syntax.{named, erased, w64}
use mir.Val.{Val, vint}
use contract.Running.{tables}
use types.Kit.{‵, check, ◌⊛◌, given, some, later, ◌$◌, ◌∵◌, !, qed, done, move, keep, drop, use1, use3, split, split3, join, fsplit, fsplit3, fjoin, learn, pick, await, rewrite, suffices, frame}
use types.Part.{whole, sub, look_in, agg}
use types.Run.{stop, fld, hop, of_opd, load, addr, bin, lit, and_then, no_more, enter, returns}
use types.ByLocal.{alloc_all, pass_all, free_all, look_at, get, get_in, through, sets, is}
use denote.Array.{Array}
use denote.Builtin.{u8, usize, RefMutOf}
use denote.Exit.{yes, no}
use denote.Follow.{follows}
use denote.Laws.{shows}
use denote.Memory.{cell_at}
use denote.Plain.{uint_vals, uint_Tells}
use denote.RattleType.{owns}
use denote.Ref.{MutRef, mut_vals, mut_Tells}
use denote.Signature.{plain, named_lft}
use denote.Slice.{MutSlice, slice_val}
use denote.Steps.{nothing, opens, closes, peeks}
use denote.Triple.Walked.{says, Stays, stay_dropped, walk_of, ends_at, Goes-dropped, Goes-spent_ref}
use Rattle.std.proofs.raw_atomic.Walks.{proved}
use Rattle.spec_format.specs.Records.{entry_size}
use Rattle.blk_record.specs.Fields.{IsField}
use Rattle.blk_record.specs.Views.{entry_mut_with}
use Rattle.blk_record.proofs.Lends.{lends_field, part, part-long}
use Rattle.blk_record.specs.declared.entry.EntryMut.{EntryMut}
use Rattle.blk_record.specs.contracts.entry.EntryMut.{the_row, the_type, struct}
use Rattle.blk_record.proofs.entry.EntryMut.TheLaws.{lowers}
use Rattle.blk_record.proofs.entry.EntryMut.TheLaws.{mir as the_layout}
use Rattle.blk_record.specs.contracts.entry.EntryMutRecordMut.field_mut as f
use Rattle.blk_record.proofs.entry.EntryMutRecordMut.field_mut.Statement.{statement}
use Rattle.blk_record.proofs.entry.EntryMutRecordMut.field_mut.Code as code

abbrev stayed : Stays f.ended.signature.params f.ended.kept
stayed = (stay_dropped (RefMutOf (0 ∷ []) tt (plain (λ κs. the_row (named_lft 2 1 tt κs))) (λ _. tt)) no, (stay_dropped (plain (λ _. usize)) yes, tt))

pub field_mut_spec : {M : Type 1} → statement M
field_mut_spec 𝓤 𝓛 𝓜 𝓡 wired =
    let c = f.clauses 𝓛 𝓜.mem 𝓡.returns in let W = walk_of 𝓛 f.ended stayed c in let 𝓣 = tables 𝓤 𝓛.H 𝓜 𝓡 𝓡.env in
    proved 𝓛 f.ended stayed c 𝓜 𝓡 (Goes-spent_ref 𝓛 2 (0 ∷ []) tt (plain (λ κs. the_row (named_lft 2 1 tt κs))), (Goes-dropped 𝓛 2 (plain (λ _. usize)) yes (λ κs x f. refl), tt))
    f.Key.name code.function (code.unfolded 𝓤 𝓛.H 𝓜 𝓡 wired)
    (λ κs. (mut_vals, (uint_vals w64, tt))) (λ κs. (mut_Tells (named 0) κs.0 (the_row (named_lft 2 1 tt κs)), (uint_Tells w64, tt))) (λ κs qs bounds a _ are.
    let κ = κs.0 in let q = qs.0 in let r = a.0 in let rb = r.ref_ptr.0 in let ro = r.ref_ptr.1 in let d = r.now in let place = a.1.0 in let vs = mut_vals r in
    let lft = named_lft 2 1 tt κs in let V = the_row lft in let b = d.window.ref_ptr.0 in let o = d.window.ref_ptr.1 in
    let y : W.Ghost = ((κs, qs, bounds, a, (vs, (vint w64 place ∷ [], tt))), tt) in
    qed 𝓛 (((‵ (flft κ q) ⊛ (‵ (flft κs.1.0 qs.1.0) ⊛ ‵ ftrue)) ⊛ ‵ (owns (MutRef (named 0) κ V ∷ usize ∷ []) a (vs, (vint w64 place ∷ [], tt)))) ∷ given (IsField entry_size place) (‵ ftrue) ∷ []) ∵
    move ! (1 ∷ []) $ learn ! (λ inside. drop ! $ split ! $ split ! $ move ! (2 ∷ []) $ fsplit ! $ fsplit3 ! $ keep ! (1 ∷ 2 ∷ 4 ∷ 5 ∷ []) $
    enter ! _ _ _ _ _ $ alloc_all ! (λ l. pass_all ! refl ((tt, tt), ((tt, record { fits = are.1.0.1 }), tt)) $
    opens ! tt V {h = d} rb ro (λ us. move ! (1 ∷ []) $ peeks ! V _ (shows 𝓛 V) d us (λ known.
    let Laws = lowers lft in
    let word = Laws.val_is d us known in let room = known.1.1.0.0.1 in
    let fits : place + 4 < 2 ^ 64 = omega (arith, inside.inside) in let fine : place + 4 ≤ length d.window.now = omega (arith, inside.aligned, inside.inside, d.enough) in
    let bytes = part 𝓛 (named 0) κ q b o r.ghost_name d.window.now place fine in
    let count = length (part 𝓛 (named 0) κ q b o r.ghost_name d.window.now place fine) in
    let four : count ≡ 4 = part-long 𝓛 (named 0) κ q b o r.ghost_name d.window.now place fine in
    let counted : place + 4 - place ≡ count = omega (arith, four) in
    let Cell = λ (ws : List Val). ‵ (cell_at full_share V.mir ws rb ro) in
    rewrite ! 1 Cell word refl $ move ! (1 ∷ []) $ use1 𝓛 (‵ (fat full_share (the_layout erased) rb ro (Laws.lowered d))) (𝓛.laws.raw_at full_share (the_layout erased) rb ro (Laws.lowered d)) $
    -- [the view's cell; the view; the open borrow, in three entries]
    sets ! (of_opd ! (load ! (through ! refl (fld ! refl (fld ! refl (stop !)))) (look_in ! 0 (sub ! 1 refl (sub ! 0 refl (whole !)))))) refl (tt, record { fits = room.0 }) $
    sets ! (addr ! (through ! refl (fld ! refl (fld ! refl (hop ! (look_in ! 0 (sub ! 0 refl (sub ! 0 refl (whole !)))) (stop !)))))) refl (tt, tt) $
    use1 𝓛 (Cell (Laws.lowered d ∷ [])) (𝓛.laws.at_raw full_share (the_layout erased) rb ro (Laws.lowered d)) $ rewrite ! 0 Cell (sym word) refl $ closes ! tt V d us rb ro $
    -- [two parts of self; the token; the other tokens]
    sets ! (agg ! (and_then ! (get ! refl) (and_then ! (get ! refl) (no_more !)))) refl (tt, (tt, (record { fits = room.0 }, tt))) $
    sets ! (bin ! (get ! refl) (lit ! tt) (record { fits = fits })) refl (tt, record { fits = fits }) $
    sets ! (bin ! (get_in ! (fld ! refl (stop !)) (sub ! 0 refl (whole !))) (get ! refl) tt) refl (tt, tt) $
    sets ! (is ! (bin ! (get ! refl) (get ! refl) (omega arith)) (ap (vint w64) counted)) refl (tt, record { fits = omega (arith, four) }) $
    sets ! (addr ! (through ! refl (stop !))) refl (tt, tt) $
    sets ! (agg ! (and_then ! (get ! refl) (and_then ! (get ! refl) (no_more !)))) refl (tt, (tt, (record { fits = omega (arith, four) }, tt))) $
    use3 𝓛 (later (some (λ (δ : GName). ‵ ((MutSlice (named 0) κ u8).own_val (record { ref_ptr = (b, place + o); ghost_name = δ; now = bytes }) (slice_val (b, place + o) count ∷ [])) ⊛ ‵ (flft κ q) ⊛ ‵ (follows V (Array u8 0) r.ghost_name δ (entry_mut_with d place)))))
    (lends_field (struct lft).name (struct lft).args lft.mir lft.lft EntryMut (λ v. v.window) (the_type lft).to_one entry_mut_with (λ v i ws. refl) 𝓛 d rb ro (named 0) κ bounds.0 q r.ghost_name place fine room) $ await ! tt $ pick ! (λ δ. split3 ! $
    -- [the bytes; the token; what follows; the other tokens]
    returns ! (look_at ! 0 refl) $ free_all ! refl $ move ! (1 ∷ 3 ∷ []) $ join ! $
    suffices ! _ (ends_at 𝓛 f.ended stayed c y (slice_val (b, place + o) count) (record { ref_ptr = (b, place + o); ghost_name = δ; now = bytes }) (tt, (tt, tt)) (tt, (tt, tt))) $
    nothing ! $ nothing ! $ fjoin ! $ nothing ! $ fjoin ! $ move ! (0 ∷ 2 ∷ []) $ join ! $ move ! (1 ∷ 0 ∷ []) $ join ! $ frame ! $ frame ! $ says ! four $ check ! refl $ done !))))))
