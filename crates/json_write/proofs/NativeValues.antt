-- Native values from a slice of raw values.
use Rattle.std.specs.Prelude.{if◌then◌else◌}
use Rattle.std.proofs.Common.{◌≡◌, ℕ, ◌<◌, ℤ, Bool, true, false, not, List, [], map, length, get_or, refl, sym, ap, ◌∙◌}
use Rattle.std.proofs.lemmas.List.{get_or-map, length-map}
use Rattle.nest_memory.specs.TypeTree.{TypeTree}
use Rattle.nest_memory.specs.declared.datatypes.physical_type.PrimitiveType.{PrimitiveType}
use Rattle.nest_model.specs.Accessors.{natives_of, validity_of}
use Rattle.nest_model.specs.Layout as layouts
use Rattle.nest_model.specs.Layout.{Layout, layout_type}
use Rattle.nest_model.specs.Meaning.{len, slot}
use Rattle.nest_model.specs.Nullness.{is_null_at}
use Rattle.nest_model.specs.Part.{valid_at}
use Rattle.nest_model.specs.Slot as slots
use Rattle.json_write.specs.Formats.{format_of_type}
use Rattle.json_write.specs.JsonText.{json_of_slot, json_of_value, slot_json}
use Rattle.json_write.specs.declared.format.ValueFormat.{ValueFormat}

-- there are as many raw values as slots
pub natives-count : {A : Type 0} (numbers : A → List ℤ) (k : PrimitiveType) (a : Layout) (xs : List A) → a ≡ layouts.primitive k (layout_type a) (natives_of a) (validity_of a)
    → map numbers xs ≡ natives_of a → len a ≡ length xs
natives-count numbers k a xs h e = ap len h ∙ ap length (sym e) ∙ length-map xs numbers

unmasked : (t : TypeTree) (zs : List ℤ) (v : Bool) → not v ≡ false → json_of_slot t (if v then slots.number zs else slots.null) ≡ json_of_value (format_of_type t) zs
unmasked t zs true h = refl
unmasked t zs false h = cc

-- the text of a valid slot is that of its raw value
pub native-shown : {A : Type 0} (numbers : A → List ℤ) (k : PrimitiveType) (v : ValueFormat) (a : Layout) (xs : List A) (i : ℕ) (d : A) → v ≡ format_of_type (layout_type a) → a ≡ layouts.primitive k (layout_type a) (natives_of a) (validity_of a)
    → map numbers xs ≡ natives_of a → i < length xs → is_null_at a i ≡ false → json_of_value v (numbers (get_or xs i d)) ≡ slot_json a i
native-shown numbers k f a xs i d t h e l v =
    ap (λ g. json_of_value g (numbers (get_or xs i d))) t
    ∙ ap (json_of_value (format_of_type (layout_type a))) (sym (get_or-map numbers xs i d [] l) ∙ ap (λ vs. get_or vs i []) e)
    ∙ sym (ap (λ b. json_of_slot (layout_type a) (slot b i)) h ∙ unmasked (layout_type a) (get_or (natives_of a) i []) (valid_at (validity_of a) i) (sym (ap (λ b. is_null_at b i) h) ∙ v))
