-- Arrays with the bytes of windows over rows between offsets.
use Rattle.std.specs.Prelude.{List, length, get_or}
use Rattle.std.specs.List.{flat_map, sum_by}
use Rattle.std.specs.Str.{IsUtf8}
use Rattle.std.proofs.Common.{◌≡◌, ℕ, ◌+◌, ◌<◌, Bool, refl, ap, sym, ◌∙◌, subst, arith}
use Rattle.nest_memory.specs.Sublist.{sublist}
use Rattle.nest_memory.specs.Physical.{physical_type, binary_of_width, utf8_of_width}
use Rattle.nest_memory.specs.Rising.{last_of}
use Rattle.nest_memory.specs.TypeTree.{TypeTree}
use Rattle.nest_model.specs.Accessors.{validity_of, bytes_of, offsets_of}
use Rattle.nest_model.specs.Array.{TopFits}
use Rattle.nest_model.specs.FactLaws.{binary-facts, text-facts}
use Rattle.nest_model.specs.Fits.{Fits, ValidityFits}
use Rattle.nest_model.specs.Layout.{binary, utf8, layout_type}
use Rattle.nest_model.specs.Meaning.{len, slot}
use Rattle.nest_model.specs.Part.{Validity, begin, extent, count_rows}
use Rattle.nest_model.specs.Slot as slots
use Rattle.nest_array.specs.WindowParts.{WindowParts}
use Rattle.nest_concat.specs.Joined.{AreWithin, IsJoined, IsWithin}
use Rattle.nest_concat.specs.Windows.{bytes_in, window_item_count, count_of, count_slots, extents_in, concatenated_validity}
use Rattle.nest_concat.proofs.Logical.{kind-alike}
use Rattle.nest_concat.proofs.Pieces.{AreLong, AreSpans, ends, ends-last, ends-rows, extents-length, flat-length, row-cut, span-items, span-sum, sum-all}
use Rattle.nest_concat.proofs.Shapes.{binary-shape, text-shape}
use Rattle.nest_concat.proofs.Windows.{joined-fits, joined-slots, locate, nowhere, place_of, same-slot, validity-at, window}

-- windows over rows of items
abbrev pub SpansOf : {A : Type 0} → (WindowParts → List A) → List WindowParts → Type 0
SpansOf xs ws = AreSpans (λ (w : WindowParts). offsets_of w.array) xs (λ (w : WindowParts). w.offset) (λ (w : WindowParts). w.count) ws

abbrev pub joined_ends : List WindowParts → List ℕ
joined_ends ws = ends (flat_map extents_in ws)

abbrev pub span_in : {A : Type 0} → (WindowParts → List A) → WindowParts → List A
span_in xs w = sublist (xs w) (begin (offsets_of w.array) w.offset) (window_item_count w)

pub spans-rows : (ws : List WindowParts) → count_rows (joined_ends ws) ≡ count_slots ws
spans-rows ws =
    let long : AreLong extents_in count_of ws = λ i d l. let w = get_or ws i d in extents-length (offsets_of w.array) w.offset w.count in
    ends-rows (flat_map extents_in ws) ∙ flat-length extents_in count_of ws long

pub spans-last : {A : Type 0} (xs : WindowParts → List A) (ws : List WindowParts) → SpansOf xs ws → last_of (joined_ends ws) ≡ sum_by window_item_count ws
spans-last xs ws h =
    ends-last (flat_map extents_in ws)
    ∙ sum-all extents_in window_item_count ws (λ i d l. let w = get_or ws i d in span-sum (offsets_of w.array) (xs w) w.offset w.count (h i d l))

pub spans-length : {A : Type 0} (xs : WindowParts → List A) (ws : List WindowParts) → SpansOf xs ws → length (flat_map (span_in xs) ws) ≡ sum_by window_item_count ws
spans-length xs ws h = flat-length (span_in xs) window_item_count ws (λ i d l. let w = get_or ws i d in span-items (offsets_of w.array) (xs w) w.offset w.count (h i d l))

pub span-at : {A : Type 0} (xs : WindowParts → List A) (ws : List WindowParts) (k j : ℕ) → SpansOf xs ws → k < length ws → j < count_of (window ws k)
    → sublist (flat_map (span_in xs) ws) (begin (joined_ends ws) (place_of ws k j)) (extent (joined_ends ws) (place_of ws k j))
    ≡ sublist (xs (window ws k)) (begin (offsets_of (window ws k).array) ((window ws k).offset + j)) (extent (offsets_of (window ws k).array) ((window ws k).offset + j))
span-at xs ws k j h l m = row-cut (λ (w : WindowParts). offsets_of w.array) xs (λ (w : WindowParts). w.offset) (λ (w : WindowParts). w.count) ws k j nowhere h l m

-- bytes
binary-is : (large : Bool) (t : TypeTree) (w : WindowParts) → physical_type t ≡ binary_of_width large → IsWithin t w → w.array ≡ binary large (layout_type w.array) (offsets_of w.array) (bytes_of w.array) (validity_of w.array)
binary-is large t w p f =
    binary-shape large w.array f.is_array (kind-alike (layout_type w.array) t _ f.same_type p)

binary-spans : (large : Bool) (t : TypeTree) (ws : List WindowParts) → AreWithin t ws → physical_type t ≡ binary_of_width large → SpansOf (λ (w : WindowParts). bytes_of w.array) ws
binary-spans large t ws h p = λ i d l.
    let w = get_or ws i d in
    let e = binary-is large t w p (h i d l) in
    let f = binary-facts large (layout_type w.array) (offsets_of w.array) (bytes_of w.array) (validity_of w.array) (subst TopFits e (h i d l).is_array) in
    record { rising = f.rising; inside = omega (arith, (h i d l).within, ap len e); covered = f.within }

binary-core : (large : Bool) (t : TypeTree) (ws : List WindowParts) → AreWithin t ws → physical_type t ≡ binary_of_width large
    → Fits (binary large t (joined_ends ws) (flat_map bytes_in ws) (concatenated_validity ws)) × IsJoined t ws (binary large t (joined_ends ws) (flat_map bytes_in ws) (concatenated_validity ws))
binary-core large t ws h p =
    let es = joined_ends ws in
    let bs = flat_map bytes_in ws in
    let v = concatenated_validity ws in
    let bytes : WindowParts → List ℕ = λ w. bytes_of w.array in
    let s = binary-spans large t ws h p in
    let n = spans-rows ws in (
      (omega (arith, spans-last bytes ws s, spans-length bytes ws s), (subst (ValidityFits v) (sym n) (joined-fits t ws h), (p, tt))),
      record {
        slots = joined-slots t (binary large t es bs v) ws h n (λ k j l m.
            let w = window ws k in
            same-slot _ _ _ _ (validity-at t ws k j h l m) (ap slots.bytes (span-at bytes ws k j s l m))
            ∙ sym (ap (λ z. slot z (w.offset + j)) (binary-is large t w p (h k nowhere l))));
        same_type = refl;
      },
    )

pub binary-joined : (large : Bool) (t u : TypeTree) (ws : List WindowParts) (es bs : List ℕ) (v : Validity) → AreWithin t ws → physical_type t ≡ binary_of_width large → u ≡ t
    → es ≡ joined_ends ws → bs ≡ flat_map bytes_in ws → v ≡ concatenated_validity ws → Fits (binary large u es bs v) × IsJoined t ws (binary large u es bs v)
binary-joined large t u ws es bs v h p e f g q =
    let y : binary large t (joined_ends ws) (flat_map bytes_in ws) (concatenated_validity ws) ≡ binary large u es bs v = cc in
    subst (λ z. Fits z × IsJoined t ws z) y (binary-core large t ws h p)

-- UTF-8
text-is : (large : Bool) (t : TypeTree) (w : WindowParts) → physical_type t ≡ utf8_of_width large → IsWithin t w → w.array ≡ utf8 large (layout_type w.array) (offsets_of w.array) (bytes_of w.array) (validity_of w.array)
text-is large t w p f =
    text-shape large w.array f.is_array (kind-alike (layout_type w.array) t _ f.same_type p)

text-spans : (large : Bool) (t : TypeTree) (ws : List WindowParts) → AreWithin t ws → physical_type t ≡ utf8_of_width large → SpansOf (λ (w : WindowParts). bytes_of w.array) ws
text-spans large t ws h p = λ i d l.
    let w = get_or ws i d in
    let e = text-is large t w p (h i d l) in
    let f = text-facts large (layout_type w.array) (offsets_of w.array) (bytes_of w.array) (validity_of w.array) (subst TopFits e (h i d l).is_array) in
    record { rising = f.rising; inside = omega (arith, (h i d l).within, ap len e); covered = f.within }

text-core : (large : Bool) (t : TypeTree) (ws : List WindowParts) → AreWithin t ws → physical_type t ≡ utf8_of_width large
    → Fits (utf8 large t (joined_ends ws) (flat_map bytes_in ws) (concatenated_validity ws)) × IsJoined t ws (utf8 large t (joined_ends ws) (flat_map bytes_in ws) (concatenated_validity ws))
text-core large t ws h p =
    let es = joined_ends ws in
    let bs = flat_map bytes_in ws in
    let v = concatenated_validity ws in
    let bytes : WindowParts → List ℕ = λ w. bytes_of w.array in
    let s = text-spans large t ws h p in
    let n = spans-rows ws in (
      (
        omega (arith, spans-last bytes ws s, spans-length bytes ws s),
        (
          λ i l.
              let r = locate ws i (omega arith) in
              let w = window ws r.k in
              let e = text-is large t w p (h r.k nowhere r.window_there) in
              let f = text-facts large (layout_type w.array) (offsets_of w.array) (bytes_of w.array) (validity_of w.array) (subst TopFits e (h r.k nowhere r.window_there).is_array) in
              let g = f.texts (w.offset + r.j) (omega (arith, (h r.k nowhere r.window_there).within, ap len e, r.slot_there)) in
              subst IsUtf8 (sym (ap (λ z. sublist bs (begin es z) (extent es z)) r.is ∙ span-at bytes ws r.k r.j s r.window_there r.slot_there)) g,
          (subst (ValidityFits v) (sym n) (joined-fits t ws h), (p, tt)),
        ),
      ),
      record {
        slots = joined-slots t (utf8 large t es bs v) ws h n (λ k j l m.
            let w = window ws k in
            same-slot _ _ _ _ (validity-at t ws k j h l m) (ap slots.utf8 (span-at bytes ws k j s l m))
            ∙ sym (ap (λ z. slot z (w.offset + j)) (text-is large t w p (h k nowhere l))));
        same_type = refl;
      },
    )

pub text-joined : (large : Bool) (t u : TypeTree) (ws : List WindowParts) (es bs : List ℕ) (v : Validity) → AreWithin t ws → physical_type t ≡ utf8_of_width large → u ≡ t
    → es ≡ joined_ends ws → bs ≡ flat_map bytes_in ws → v ≡ concatenated_validity ws → Fits (utf8 large u es bs v) × IsJoined t ws (utf8 large u es bs v)
text-joined large t u ws es bs v h p e f g q =
    let y : utf8 large t (joined_ends ws) (flat_map bytes_in ws) (concatenated_validity ws) ≡ utf8 large u es bs v = cc in
    subst (λ z. Fits z × IsJoined t ws z) y (text-core large t ws h p)
