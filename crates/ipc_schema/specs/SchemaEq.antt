-- Decides whether two schemas are equal.
use Rattle.std.specs.Prelude.{◌≡◌, Bool, ◌&&◌, nat_eq, refl}
use Rattle.std.specs.Bool.{Decides}
use Rattle.std.specs.Cmp.{IsEquivalence, decided}
use Rattle.std.specs.Cmp.Lexicographic.{pointwise, bytes_decides}
use Rattle.std.proofs.lemmas.Bool.Decides.{Decides-and, Decides-like}
use Rattle.std.proofs.lemmas.Slice.Eq.{slice_eq-Decides}
use Rattle.nest_memory.specs.TypeTree.{Letters}
use Rattle.nest_memory.specs.TypeEq.{same_field, same_field-decides}
use Rattle.ipc_schema.specs.Schemas.{SchemaModel}

-- whether two entries of metadata have equal keys and equal values
abbrev pub same_entry : Letters × Letters → Letters × Letters → Bool
same_entry a b = pointwise nat_eq a.0 b.0 && pointwise nat_eq a.1 b.1

same_entry-decides : (a b : Letters × Letters) → Decides (same_entry a b) (a ≡ b)
same_entry-decides a b = Decides-like _ (λ h i. (h.0 i, h.1 i)) (λ h. (λ i. (h i).0, λ i. (h i).1)) (Decides-and _ _ (bytes_decides a.0 b.0) (bytes_decides a.1 b.1))

-- whether two schemas have equal fields and equal metadata, in order
abbrev pub same_schema : SchemaModel → SchemaModel → Bool
same_schema a b = pointwise same_field a.fields b.fields && pointwise same_entry a.metadata b.metadata

pub same_schema-decides : (a b : SchemaModel) → Decides (same_schema a b) (a ≡ b)
same_schema-decides a b =
    Decides-like _ (λ h i. record { fields = h.0 i; metadata = h.1 i }) (λ h. (λ i. (h i).fields, λ i. (h i).metadata))
    (Decides-and _ _ (slice_eq-Decides same_field-decides a.fields b.fields _ refl) (slice_eq-Decides same_entry-decides a.metadata b.metadata _ refl))

pub same_schema-equiv : IsEquivalence same_schema
same_schema-equiv = decided same_schema same_schema-decides
