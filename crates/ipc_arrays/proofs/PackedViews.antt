-- The strings of a view array, packed one after the other by a loop.
use Rattle.std.proofs.Common.{◌≡◌, ℕ, ◌+◌, ◌-◌, ◌*◌, ◌<◌, true, leb, List, [], ◌∷◌, ◌++◌, length, map, Result, Ok, Err, refl, sym, ap, ◌∙◌, arith}
use Rattle.std.proofs.lemmas.List.{append-nil, map-append}
use Rattle.std.proofs.lemmas.List.Concat.{flat_map-cons, flat_map-append}
use Rattle.ipc_flatbuf.specs.declared.error.IpcReadError.{IpcReadError}
use Rattle.nest_memory.specs.Native.{unsigned}
use Rattle.nest_memory.specs.Rising.{last_of}
use Rattle.nest_model.specs.Part.{Validity}
use Rattle.ipc_arrays.specs.EachSlot.{each_slot}
use Rattle.ipc_arrays.specs.EachSlotLaws.{each_more, each_fails}
use Rattle.ipc_arrays.specs.Encoding.{offset_bytes}
use Rattle.ipc_arrays.specs.FixedWidth.{offset_format, values_bytes}
use Rattle.ipc_arrays.specs.PackedStrings.{packed_offsets, packed_bytes}
use Rattle.ipc_arrays.specs.PackedStringLaws.{offsets_more, bytes_more, packed_last}
use Rattle.ipc_arrays.specs.Views.{viewed_string, packed_strings, viewed_strings, spec_packed_views}

-- the strings of the first n slots are in these offsets and values
pub record IsPackedSoFar (f : ℕ → Result (List ℕ) IpcReadError) (n : ℕ) (offsets values : List ℕ) : Type 0 where
  pub strings : List (List ℕ)
  pub packed : (offsets, values) ≡ packed_strings strings
  pub read : each_slot f n ≡ Ok strings

one_offset : (n : ℕ) → offset_bytes true (n ∷ []) ≡ (offset_format true).bytes (unsigned n)
unfolding values_bytes
one_offset n = flat_map-cons (offset_format true).bytes (unsigned n) [] ∙ append-nil ((offset_format true).bytes (unsigned n))

offsets_push : (ns : List ℕ) (n : ℕ) → offset_bytes true (ns ++ n ∷ []) ≡ offset_bytes true ns ++ (offset_format true).bytes (unsigned n)
unfolding values_bytes
offsets_push ns n =
    ap (values_bytes (offset_format true)) (map-append unsigned ns (n ∷ []))
    ∙ flat_map-append (offset_format true).bytes (map unsigned ns) (unsigned n ∷ [])
    ∙ ap (λ (x : List ℕ). offset_bytes true ns ++ x) (one_offset n)

pub no_string : (offsets : List ℕ) → offsets ≡ (offset_format true).bytes (unsigned 0) → (offsets, []) ≡ packed_strings []
unfolding packed_strings
no_string offsets is = let e : offsets ≡ offset_bytes true (0 ∷ []) = is ∙ sym (one_offset 0) in λ w. (e w, [])

module _ (f : ℕ → Result (List ℕ) IpcReadError) where
  pub packed_none : (offsets values : List ℕ) → (offsets, values) ≡ packed_strings [] → IsPackedSoFar f 0 offsets values
  packed_none offsets values packed = record { strings = []; packed = packed; read = refl }

  pub packed_more : (n : ℕ) (offsets values new_offsets new_values s : List ℕ) → f n ≡ Ok s → new_offsets ≡ offsets ++ (offset_format true).bytes (unsigned (length values + length s)) → new_values ≡ values ++ s → IsPackedSoFar f n offsets values → IsPackedSoFar f (n + 1) new_offsets new_values
  unfolding packed_strings
  packed_more n offsets values new_offsets new_values s is offsets_are values_are so_far =
      let old_offsets : offsets ≡ offset_bytes true (packed_offsets so_far.strings) = ap (λ (x : List ℕ × List ℕ). x.0) so_far.packed in
      let old_values : values ≡ packed_bytes so_far.strings = ap (λ (x : List ℕ × List ℕ). x.1) so_far.packed in
      let last : length values + length s ≡ last_of (packed_offsets so_far.strings) + length s = ap (λ (n : ℕ). n + length s) (ap length old_values ∙ sym (packed_last so_far.strings)) in
      let offsets_now : new_offsets ≡ offset_bytes true (packed_offsets (so_far.strings ++ s ∷ [])) =
      offsets_are ∙ (λ w. old_offsets w ++ (offset_format true).bytes (unsigned (last w))) ∙ sym (offsets_push (packed_offsets so_far.strings) (last_of (packed_offsets so_far.strings) + length s)) ∙ ap (offset_bytes true) (sym (offsets_more so_far.strings s)) in
      let values_now : new_values ≡ packed_bytes (so_far.strings ++ s ∷ []) = values_are ∙ ap (λ (x : List ℕ). x ++ s) old_values ∙ sym (bytes_more so_far.strings s) in
      record {
        strings = so_far.strings ++ s ∷ [];
        packed = λ w. (offsets_now w, values_now w);
        read = each_more f n so_far.strings s so_far.read is;
      }

  pub packed_fails : (n slots : ℕ) (offsets values : List ℕ) (e : IpcReadError) → n < slots → f n ≡ Err e → IsPackedSoFar f n offsets values → each_slot f slots ≡ Err e
  packed_fails n slots offsets values e lt is so_far =
      let k : slots ≡ n + 1 + (slots - (n + 1)) = omega arith in
      ap (each_slot f) k ∙ each_fails f n (slots - (n + 1)) so_far.strings e so_far.read is

module _ (validity : Validity) (slots : ℕ) (views : List ℕ) (variadic : List (List ℕ)) where
  pub views_fail : (n : ℕ) (offsets values : List ℕ) (e : IpcReadError) → leb (slots * 16) (length views) ≡ true → n < slots → viewed_string validity views variadic n ≡ Err e → IsPackedSoFar (viewed_string validity views variadic) n offsets values → spec_packed_views validity slots views variadic ≡ Err e
  unfolding spec_packed_views viewed_strings
  views_fail n offsets values e enough lt is so_far = rw (enough, packed_fails (viewed_string validity views variadic) n slots offsets values e lt is so_far) refl

  pub views_are_packed : (n : ℕ) (offsets values : List ℕ) → leb (slots * 16) (length views) ≡ true → n ≡ slots → IsPackedSoFar (viewed_string validity views variadic) n offsets values → spec_packed_views validity slots views variadic ≡ Ok (offsets, values)
  unfolding spec_packed_views viewed_strings
  views_are_packed n offsets values enough same so_far =
      let all : each_slot (viewed_string validity views variadic) slots ≡ Ok so_far.strings = ap (each_slot (viewed_string validity views variadic)) (sym same) ∙ so_far.read in
      rw (enough, all, so_far.packed) refl
