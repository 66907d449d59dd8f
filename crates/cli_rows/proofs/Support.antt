-- Columns that are written one after the other.
use Rattle.std.proofs.Common.{◌≡◌, ℕ, ◌+◌, ◌<◌, List, [], ◌∷◌, ◌++◌, length, map, take, slice_index_or, refl, sym, ap, ◌∙◌, append_assoc}
use Rattle.std.proofs.lemmas.List.{append-nil, take_more, map_push}
use Rattle.nest_memory.specs.TypeTree.{FieldTree}
use Rattle.ipc_schema.specs.FieldSupport.{FieldSupportModel, field_support_of}
use Rattle.ipc_schema.specs.declared.field_support.FieldSupport.{FieldSupport}
use Rattle.cli_rows.specs.SupportText.{column_line, fields_after, text_of_columns}

-- the fields after columns
abbrev pub rest_of : List FieldSupportModel → List FieldTree → List FieldTree
rest_of [] fields = fields
rest_of (c ∷ cs) fields = rest_of cs (fields_after c.unsupported fields)

pub rest_after_last : (cs : List FieldSupportModel) (c : FieldSupportModel) (fields : List FieldTree) → rest_of (cs ++ c ∷ []) fields ≡ fields_after c.unsupported (rest_of cs fields)
rest_after_last [] c fields = refl
rest_after_last (b ∷ cs) c fields = rest_after_last cs c (fields_after b.unsupported fields)

pub text_of_last : (cs : List FieldSupportModel) (c : FieldSupportModel) (fields : List FieldTree) → text_of_columns (cs ++ c ∷ []) fields ≡ text_of_columns cs fields ++ column_line c.unsupported (rest_of cs fields)
text_of_last [] c fields = append-nil (column_line c.unsupported fields)
text_of_last (b ∷ cs) c fields =
    let line : List ℕ = column_line b.unsupported fields in
    let rest : List FieldTree = fields_after b.unsupported fields in
    ap (λ (text : List ℕ). line ++ text) (text_of_last cs c rest) ∙ sym (append_assoc line (text_of_columns cs rest) (column_line c.unsupported (rest_of cs rest)))

pub next_column : (columns : List FieldSupport) (k : ℕ) (d column : FieldSupport) → k < length columns → slice_index_or columns k d ≡ column → map field_support_of (take (k + 1) columns) ≡ map field_support_of (take k columns) ++ field_support_of column ∷ []
next_column columns k d column less is =
    ap (λ (cs : List FieldSupport). map field_support_of cs) (take_more columns k d less) ∙ map_push field_support_of (take k columns) (slice_index_or columns k d)
    ∙ ap (λ (c : FieldSupport). map field_support_of (take k columns) ++ field_support_of c ∷ []) is
