-- The fields of columns, made one by one, and the first column.
use Rattle.std.specs.Prelude.{List, [], ◌∷◌, map}
use Rattle.std.proofs.Common.{◌≡◌, ℕ, suc, ◌<◌, ◌≤◌, Bor, true, length, get_or, refl, ap, sym, ◌∙◌, arith}
use Rattle.std.proofs.lemmas.List.{length-map}
use Rattle.nest_memory.specs.TypeOf.{field_list_of, field_of}
use Rattle.nest_memory.specs.TypeTree.{Letters, field}
use Rattle.nest_memory.specs.declared.datatypes.field.Field.{Field}
use Rattle.nest_model.specs.Layout.{count_layouts, layout_type}
use Rattle.nest_model.specs.Meaning.{first_len, len}
use Rattle.nest_array.proofs.Children.{layouts-count}
use Rattle.nest_array.specs.declared.any.AnyArray.{AnyArray}
use Rattle.nest_array.specs.Seen.{layout_of, layouts_of}
use Rattle.nest_array.specs.Columns.{column_fields}

pub fields-made : (xs : List Field) (ns : List Letters) (cs : List AnyArray) → length xs ≡ length ns → length ns ≡ length cs
    → ((k : ℕ) (f : Field) (n : Letters) (c : AnyArray) → k < length xs → field_of (get_or xs k f) ≡ field (get_or ns k n) (layout_type (layout_of (get_or cs k c))) true [])
    → field_list_of xs ≡ column_fields ns (layouts_of cs)
fields-made [] [] cs e g h = refl
fields-made [] (n ∷ ns) cs e g h = absurd (omega arith)
fields-made (x ∷ xs) [] cs e g h = absurd (omega arith)
fields-made (x ∷ xs) (n ∷ ns) [] e g h = absurd (omega arith)
fields-made (x ∷ xs) (n ∷ ns) (c ∷ cs) e g h =
    let a : field_of x ≡ field n (layout_type (layout_of c)) true [] = h 0 x n c (omega arith) in
    let b = fields-made xs ns cs (omega arith) (omega arith) (λ k f m d l. h (suc k) f m d (omega arith)) in
    cc

-- one name for each column
pub names-count : (ns : List (Bor (List ℕ))) (cs : List AnyArray) → length ns ≡ length cs → length (map (λ n. n.now) ns) ≡ count_layouts (layouts_of cs)
names-count ns cs h = length-map ns (λ n. n.now) ∙ h ∙ sym (layouts-count cs)

pub names-count-back : (ns : List (Bor (List ℕ))) (cs : List AnyArray) → length (map (λ n. n.now) ns) ≡ count_layouts (layouts_of cs) → length ns ≡ length cs
names-count-back ns cs h = sym (length-map ns (λ n. n.now)) ∙ h ∙ layouts-count cs

-- the length of the first column
pub first-len : (cs : List AnyArray) (c : AnyArray) → 1 ≤ length cs → c ≡ get_or cs 0 c → len (layout_of c) ≡ first_len (layouts_of cs)
first-len [] c h e = absurd (omega arith)
first-len (d ∷ cs) c h e = ap (λ x. len (layout_of x)) e
