-- The checks of columns, and those of the constructors of struct and map arrays.
use Rattle.std.specs.Prelude.{List, [], ◌∷◌, nat_eq}
use Rattle.std.proofs.Common.{◌≡◌, ℕ, suc, ◌<◌, Bool, true, false, length, refl, ap, sym, subst, arith}
use Rattle.nest_memory.specs.TypeTree.{Letters, count_fields}
use Rattle.nest_memory.specs.declared.error.Error.{Error}
use Rattle.nest_model.specs.Checks.{FailsOr, error_number}
use Rattle.nest_model.specs.Fits.{EachLen, EachType, FirstError, Fits}
use Rattle.nest_model.specs.Layout.{Layouts, count_layouts, more_layouts, no_layouts}
use Rattle.nest_model.specs.Meaning.{first_len}
use Rattle.nest_array.specs.Columns.{ColumnsError, ColumnsFit, column_fields, columns_struct}

-- one field for each column, of its data type
pub fields-count : (ns : List Letters) (cs : Layouts) → length ns ≡ count_layouts cs → count_fields (column_fields ns cs) ≡ count_layouts cs
fields-count [] no_layouts h = refl
fields-count [] (more_layouts c cs) h = absurd (omega arith)
fields-count (n ∷ ns) no_layouts h = absurd (omega arith)
fields-count (n ∷ ns) (more_layouts c cs) h = ap suc (fields-count ns cs (omega arith))

pub fields-types : (ns : List Letters) (cs : Layouts) → length ns ≡ count_layouts cs → EachType (column_fields ns cs) cs
fields-types [] no_layouts h = tt
fields-types [] (more_layouts c cs) h = absurd (omega arith)
fields-types (n ∷ ns) no_layouts h = absurd (omega arith)
fields-types (n ∷ ns) (more_layouts c cs) h = (refl, fields-types ns cs (omega arith))

pub columns-fit : (ns : List Letters) (cs : Layouts) → ColumnsFit ns cs → Fits (columns_struct ns cs)
columns-fit ns cs h =
    let n = fields-count ns cs h.0 in
    (refl, (subst (λ k. 0 < k) (sym n) h.1.0, (sym n, (fields-types ns cs h.0, (h.1.1.0, (tt, tt))))))

pub columns-fit-back : (ns : List Letters) (cs : Layouts) → length ns ≡ count_layouts cs → Fits (columns_struct ns cs) → ColumnsFit ns cs
columns-fit-back ns cs h f = (h, (subst (λ k. 0 < k) (fields-count ns cs h) f.1.0, (f.1.1.1.1.0, tt)))

passes : (b : Bool) (P R : Type 0) → P → FailsOr b P R → R
passes true P R p f = absurd (f p)
passes false P R p f = f.1

six : (m : ℕ) → nat_eq m 6 ≡ true → m ≡ 6
six m h = grind arith

five : (m : ℕ) → nat_eq m 5 ≡ true → m ≡ 5
five m h = grind arith

eight : (m : ℕ) → nat_eq m 8 ≡ true → m ≡ 8
eight m h = grind arith

-- the constructor of struct arrays, by the number of an error: its checks of the type, the fields and the children
abbrev struct_error : ℕ → Type 0 → Type 0 → Type 0 → Type 0 → Type 0 → Type 0 → Type 0
struct_error m kind some count each same bits =
    FailsOr (nat_eq m 0) kind (FailsOr (nat_eq m 6) some (FailsOr (nat_eq m 7) count (FailsOr (nat_eq m 2) each (FailsOr (nat_eq m 8) same (FailsOr (nat_eq m 4) bits ⊥)))))

struct-error : (m : ℕ) (b d : Bool) (kind some count each same bits : Type 0) → nat_eq m 6 ≡ b → nat_eq m 8 ≡ d → kind → count → each → FailsOr b some (FailsOr d same ⊥)
    → struct_error m kind some count each same bits
struct-error m true d kind some count each same bits x y k c t f = subst (λ j. struct_error j kind some count each same bits) (sym (six m x)) (k, f)
struct-error m false true kind some count each same bits x y k c t f =
    subst (λ j. struct_error j kind some count each same bits) (sym (eight m y)) (k, (f.0, (c, (t, f.1))))
struct-error m false false kind some count each same bits x y k c t f = absurd f.1.1

pub columns-error : (e : Error) (ns : List Letters) (cs : Layouts) → length ns ≡ count_layouts cs → ColumnsError e ns cs → FirstError e (columns_struct ns cs)
columns-error e ns cs h f =
    let m = error_number e in
    let n = fields-count ns cs h in
    let r = passes (nat_eq m 7) (length ns ≡ count_layouts cs) _ h f in
    struct-error m _ _ _ _ _ _ _ _ refl refl refl (sym n) (fields-types ns cs h) (subst (λ k. FailsOr (nat_eq m 6) (0 < k) (FailsOr (nat_eq m 8) (EachLen cs (first_len cs)) ⊥)) (sym n) r)
