-- The rows of a parse by their names, and what each use of an argument does to them.
use Rattle.std.proofs.Common.{◌≡◌, Bool, true, false, cond, ◌||◌, if◌then◌else◌, List, [], ◌∷◌, ◌++◌, Option, None, Some, refl, sym, ◌∙◌, ap, option_map}
use Rattle.std.specs.List.{find}
use Rattle.std.specs.Str.{bytes_eq}
use Rattle.std.proofs.lemmas.Slice.Eq.{bytes_eq-Decides}
use Rattle.clap.specs.Walk.{Row, Text, all_of, has_row, stronger, with_values, without}
use Rattle.clap.specs.declared.builder.value_parser.Reading.{Reading}
use Rattle.clap.specs.declared.parser.matches.ValueSource.{ValueSource}

pub pick : {P : Type 0} (b : Bool) → (b ≡ true → P) → (b ≡ false → P) → P
pick true when unless = when refl
pick false when unless = unless refl

clash : {A P : Type 0} {x : A} → Some x ≡ None → P
clash e = absurd (never e)
  where
    never : {A : Type 0} {x : A} → Some x ≡ None → ⊥
    never c = cc

-- the values of the first row with a name, where the first of some rows has it or not
abbrev values_by : Bool → Row → Option Row → Option (List Text)
values_by b r found = option_map (λ (x : Row). x.values) (cond b (Some r) found)

-- where no row has the name, none is taken out
pub absent_same : (id : Text) (rows : List Row) → all_of id rows ≡ None → without id rows ≡ rows
absent_same id [] none = refl
absent_same id (r ∷ rows) none = pick (bytes_eq r.id id)
    (λ hit. clash (sym (ap (λ b. values_by b r (find (λ (x : Row). bytes_eq x.id id) rows)) hit) ∙ none))
    (λ miss. ap (λ b. if b then rows else r ∷ without id rows) miss ∙ ap (λ l. r ∷ l) (absent_same id rows (sym (ap (λ b. values_by b r (find (λ (x : Row). bytes_eq x.id id) rows)) miss) ∙ none)))

pub absent_row : (id : Text) (rows : List Row) → all_of id rows ≡ None → has_row id rows ≡ false
absent_row id [] none = refl
absent_row id (r ∷ rows) none = pick (bytes_eq r.id id)
    (λ hit. clash (sym (ap (λ b. values_by b r (find (λ (x : Row). bytes_eq x.id id) rows)) hit) ∙ none))
    (λ miss. ap (λ b. b || has_row id rows) miss ∙ absent_row id rows (sym (ap (λ b. values_by b r (find (λ (x : Row). bytes_eq x.id id) rows)) miss) ∙ none))

-- the values that were there
abbrev pub values_there : Option (List Text) → List Text
values_there None = []
values_there (Some values) = values

-- more values are put after those of the name
pub values_used : (id : Text) (how : Reading) (s : ValueSource) (values : List Text) (rows : List Row) → bytes_eq id id ≡ true → all_of id (with_values id how s values rows) ≡ Some (values_there (all_of id rows) ++ values)
values_used id how s values [] same = ap (λ b. values_by b (record { id = id; values = values; count = None; source = Some s; reading = how }) None) same
values_used id how s values (r ∷ rows) same = pick (bytes_eq r.id id)
    (λ hit.
    ap (λ b. all_of id (if b then (record r { values = r.values ++ values; source = Some (stronger r.source s) } ∷ []) ++ rows else r ∷ with_values id how s values rows)) hit
    ∙ ap (λ b. values_by b (record r { values = r.values ++ values; source = Some (stronger r.source s) }) (find (λ (x : Row). bytes_eq x.id id) rows)) hit
    ∙ ap (λ o. Some (values_there o ++ values)) (sym (ap (λ b. values_by b r (find (λ (x : Row). bytes_eq x.id id) rows)) hit)))
    (λ miss.
    ap (λ b. all_of id (if b then (record r { values = r.values ++ values; source = Some (stronger r.source s) } ∷ []) ++ rows else r ∷ with_values id how s values rows)) miss
    ∙ ap (λ b. values_by b r (find (λ (x : Row). bytes_eq x.id id) (with_values id how s values rows))) miss
    ∙ values_used id how s values rows same
    ∙ ap (λ o. Some (values_there o ++ values)) (sym (ap (λ b. values_by b r (find (λ (x : Row). bytes_eq x.id id) rows)) miss)))

-- and another name keeps its own
pub values_kept : (id other : Text) (how : Reading) (s : ValueSource) (values : List Text) (rows : List Row) → bytes_eq id other ≡ false → all_of other (with_values id how s values rows) ≡ all_of other rows
values_kept id other how s values [] differ = ap (λ b. values_by b (record { id = id; values = values; count = None; source = Some s; reading = how }) None) differ
values_kept id other how s values (r ∷ rows) differ = pick (bytes_eq r.id id)
    (λ hit.
    let named : r.id ≡ id = (bytes_eq-Decides r.id id).0 hit in
    let miss : bytes_eq r.id other ≡ false = ap (λ (x : Text). bytes_eq x other) named ∙ differ in
    ap (λ b. all_of other (if b then (record r { values = r.values ++ values; source = Some (stronger r.source s) } ∷ []) ++ rows else r ∷ with_values id how s values rows)) hit
    ∙ ap (λ b. values_by b (record r { values = r.values ++ values; source = Some (stronger r.source s) }) (find (λ (x : Row). bytes_eq x.id other) rows)) miss
    ∙ sym (ap (λ b. values_by b r (find (λ (x : Row). bytes_eq x.id other) rows)) miss))
    (λ not_it.
    ap (λ b. all_of other (if b then (record r { values = r.values ++ values; source = Some (stronger r.source s) } ∷ []) ++ rows else r ∷ with_values id how s values rows)) not_it
    ∙ by_other (bytes_eq r.id other) (values_kept id other how s values rows differ))
  where
    by_other : (b : Bool) → all_of other (with_values id how s values rows) ≡ all_of other rows → values_by b r (find (λ (x : Row). bytes_eq x.id other) (with_values id how s values rows)) ≡ values_by b r (find (λ (x : Row). bytes_eq x.id other) rows)
    by_other true more = refl
    by_other false more = more
