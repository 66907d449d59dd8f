-- Scalars of dictionary arrays.
use Rattle.std.specs.Prelude.{Result, Ok, Err, IfOk}
use Rattle.std.proofs.Common.{◌≡◌, ℕ, false, ap, sym, ◌∙◌}
use Rattle.nest_memory.specs.declared.error.Error.{Error}
use Rattle.nest_model.specs.Accessors.{validity_of, child_of, keys_of, key_at}
use Rattle.nest_model.specs.Array.{TopFits}
use Rattle.nest_model.specs.Layout.{Layout, layout_type}
use Rattle.nest_model.specs.Meaning.{slot, where_valid}
use Rattle.nest_model.specs.Nullness.{is_null_at}
use Rattle.nest_model.specs.Part.{to_index}
use Rattle.nest_array.specs.ScalarParts.{ScalarParts, scalar_parts}
use Rattle.nest_array.specs.SeenScalar.{IsValue, shown_type}
use Rattle.nest_array.specs.declared.scalar.ScalarValue.{ScalarValue}
use Rattle.nest_array.proofs.Keyed.{IsDictionaryOf, keyed-slot, keyed-slot_at}
use Rattle.nest_array.proofs.ShownTypes.{shown-keyed, fits-along}

-- the value at a valid key is the slot's value
pub keyed-value : (a c : Layout) (i n : ℕ) (r : Result ScalarValue Error) → TopFits a → IsDictionaryOf a → c ≡ child_of a → n ≡ to_index (key_at (keys_of a) i)
    → is_null_at a i ≡ false → IfOk r (λ v. IsValue c n v) → IfOk r (λ v. IsValue a i v)
keyed-value a c i n (Ok v) h e s p z k =
    record {
      spells = k.spells ∙ ap (λ d. slot d n) s ∙ ap (slot (child_of a)) p ∙ sym (keyed-slot a i e z);
      fits = fits-along (layout_type c) (layout_type a) v (ap (λ d. shown_type (layout_type d)) s ∙ shown-keyed a h e) k.fits;
    }
keyed-value a c i n (Err x) h e s p z k = k

-- the scalar of the value at a raw key
pub named-scalar : (a c : Layout) (i n : ℕ) (r : Result ScalarParts Error) → c ≡ child_of a → n ≡ to_index (key_at (keys_of a) i) → IfOk r (λ s. s ≡ scalar_parts (layout_type c) (slot c n))
    → IfOk r (λ s. s ≡ scalar_parts (layout_type (child_of a)) (slot (child_of a) (to_index (key_at (keys_of a) i))))
named-scalar a c i n (Ok v) s p k = k ∙ ap (λ d. scalar_parts (layout_type d) (slot d n)) s ∙ ap (λ m. scalar_parts (layout_type (child_of a)) (slot (child_of a) m)) p
named-scalar a c i n (Err x) s p k = k

pub named-slot : (a c : Layout) (i n : ℕ) (r : Result ScalarParts Error) → IsDictionaryOf a → c ≡ child_of a → n ≡ to_index (key_at (keys_of a) i)
    → IfOk r (λ s. s ≡ scalar_parts (layout_type c) (slot c n)) → IfOk r (λ s. slot a i ≡ where_valid (validity_of a) i s.slot)
named-slot a c i n (Ok v) e s p k = keyed-slot_at a i n e p ∙ ap (where_valid (validity_of a) i) (sym (ap (λ q. q.slot) k ∙ ap (λ d. slot d n) s))
named-slot a c i n (Err x) e s p k = k
