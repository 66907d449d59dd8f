-- Arrays with the bytes of the rows at given indices.
use Rattle.std.specs.Prelude.{if◌then◌else◌}
use Rattle.std.specs.Str.{IsUtf8}
use Rattle.std.proofs.lemmas.Str.{IsUtf8-nil}
use Rattle.std.proofs.Common.{◌≡◌, ℕ, ◌<◌, Bool, true, false, List, get_or, length, refl, ap, sym, ◌∙◌, subst, arith}
use Rattle.nest_memory.specs.Sublist.{sublist}
use Rattle.nest_memory.specs.TypeTree.{TypeTree}
use Rattle.nest_model.specs.Array.{TopFits}
use Rattle.nest_model.specs.FactLaws.{binary-facts, text-facts}
use Rattle.nest_model.specs.Fits.{Fits, ValidityFits}
use Rattle.nest_model.specs.Layout.{Layout, binary, utf8, layout_type}
use Rattle.nest_model.specs.Meaning.{len}
use Rattle.nest_model.specs.Part.{Validity, valid_at, begin, extent, count_rows}
use Rattle.nest_model.specs.Slot as slots
use Rattle.nest_model.specs.Slot.{Slot}
use Rattle.nest_take.specs.Indices.{AreBelow, count_at, items_at, taken_validity}
use Rattle.nest_take.specs.Taken.{IsTaken}
use Rattle.nest_take.proofs.At.{taken-fits}
use Rattle.nest_take.proofs.Flats.{mask-same}
use Rattle.nest_take.proofs.Pieces.{ends, ends-last, ends-rows, rows-within, row-items, items-length, count-valid}
use Rattle.nest_take.proofs.Rows.{taken}

pub validity-rows : (os : List ℕ) (va : Validity) (is : List ℕ) → ValidityFits (taken_validity va is) (count_rows (ends (count_at os va) is))
validity-rows os va is = subst (ValidityFits (taken_validity va is)) (sym (ends-rows (count_at os va) is)) (taken-fits va is)

-- the parts of the result
abbrev pub binary_at : Bool → TypeTree → List ℕ → List ℕ → Validity → List ℕ → Layout
binary_at large t os bs va is = binary large t (ends (count_at os va) is) (items_at bs os va is) (taken_validity va is)

abbrev pub text_at : Bool → TypeTree → List ℕ → List ℕ → Validity → List ℕ → Layout
text_at large t os bs va is = utf8 large t (ends (count_at os va) is) (items_at bs os va is) (taken_validity va is)

binary-core : (large : Bool) (t : TypeTree) (os bs : List ℕ) (va : Validity) (is : List ℕ) → TopFits (binary large t os bs va) → AreBelow is (count_rows os)
    → Fits (binary_at large t os bs va is) × IsTaken (binary large t os bs va) is (binary_at large t os bs va is)
binary-core large t os bs va is h b =
    let f = binary-facts large t os bs va h in
    let n = count_at os va in
    let w = rows-within os va (length bs) is f.rising f.within b in
    let l = items-length bs os va is w in
    let e = ends-last n is in (
      (omega arith, (validity-rows os va is, (f.typed, tt))),
      taken (binary large t os bs va) (binary_at large t os bs va is) is b (ends-rows n is)
          (λ j k.
          let i = get_or is j 0 in
          mask-same va (taken_validity va is) is j (slots.bytes (sublist (items_at bs os va is) (begin (ends n is) j) (extent (ends n is) j))) (slots.bytes (sublist bs (begin os i) (extent os i))) refl k
          (λ v. ap slots.bytes (row-items bs os va is j w k ∙ ap (sublist bs (begin os i)) (count-valid os va i v))))
          refl,
    )

pub binary-taken : (large : Bool) (a : Layout) (t u : TypeTree) (os bs es cs : List ℕ) (va v : Validity) (is : List ℕ) → TopFits a → a ≡ binary large t os bs va → AreBelow is (len a)
    → u ≡ layout_type a → es ≡ ends (count_at os va) is → cs ≡ items_at bs os va is → v ≡ taken_validity va is
    → Fits (binary large u es cs v) × IsTaken a is (binary large u es cs v)
binary-taken large a t u os bs es cs va v is h e b d p q r =
    let k = ap layout_type e in
    let s = subst (λ z. AreBelow is (len z)) e b in
    let x = binary-core large t os bs va is (subst TopFits e h) s in
    let y : binary_at large t os bs va is ≡ binary large u es cs v = cc in
    subst (λ z. Fits z × IsTaken a is z) y (subst (λ z. Fits (binary_at large t os bs va is) × IsTaken z is (binary_at large t os bs va is)) (sym e) x)

some-text : (b : Bool) (bs : List ℕ) (o n : ℕ) → IsUtf8 (sublist bs o n) → IsUtf8 (sublist bs o (if b then n else 0))
some-text true bs o n h = h
some-text false bs o n h = IsUtf8-nil

text-core : (large : Bool) (t : TypeTree) (os bs : List ℕ) (va : Validity) (is : List ℕ) → TopFits (utf8 large t os bs va) → AreBelow is (count_rows os)
    → Fits (text_at large t os bs va is) × IsTaken (utf8 large t os bs va) is (text_at large t os bs va is)
text-core large t os bs va is h b =
    let f = text-facts large t os bs va h in
    let n = count_at os va in
    let w = rows-within os va (length bs) is f.rising f.within b in
    let l = items-length bs os va is w in
    let e = ends-last n is in (
      (
        omega arith,
        (
          λ j k.
              let i = get_or is j 0 in
              let m : j < length is = omega (arith, ends-rows n is) in
              subst IsUtf8 (sym (row-items bs os va is j w m)) (some-text (valid_at va i) bs (begin os i) (extent os i) (f.texts i (b j 0 m))),
          (validity-rows os va is, (f.typed, tt)),
        ),
      ),
      taken (utf8 large t os bs va) (text_at large t os bs va is) is b (ends-rows n is)
          (λ j k.
          let i = get_or is j 0 in
          mask-same va (taken_validity va is) is j (slots.utf8 (sublist (items_at bs os va is) (begin (ends n is) j) (extent (ends n is) j))) (slots.utf8 (sublist bs (begin os i) (extent os i))) refl k
          (λ v. ap slots.utf8 (row-items bs os va is j w k ∙ ap (sublist bs (begin os i)) (count-valid os va i v))))
          refl,
    )

pub text-taken : (large : Bool) (a : Layout) (t u : TypeTree) (os bs es cs : List ℕ) (va v : Validity) (is : List ℕ) → TopFits a → a ≡ utf8 large t os bs va → AreBelow is (len a)
    → u ≡ layout_type a → es ≡ ends (count_at os va) is → cs ≡ items_at bs os va is → v ≡ taken_validity va is
    → Fits (utf8 large u es cs v) × IsTaken a is (utf8 large u es cs v)
text-taken large a t u os bs es cs va v is h e b d p q r =
    let k = ap layout_type e in
    let s = subst (λ z. AreBelow is (len z)) e b in
    let x = text-core large t os bs va is (subst TopFits e h) s in
    let y : text_at large t os bs va is ≡ utf8 large u es cs v = cc in
    subst (λ z. Fits z × IsTaken a is z) y (subst (λ z. Fits (text_at large t os bs va is) × IsTaken z is (text_at large t os bs va is)) (sym e) x)
