-- The number of bytes of a binary or UTF-8 builder is its last offset.
use Rattle.std.specs.Prelude.{if◌then◌else◌}
use Rattle.std.proofs.Common.{◌≡◌, ℕ, zero, suc, ◌+◌, ◌<◌, ◌≤◌, Bool, true, false, List, length, refl, ap, sym, ◌∙◌, arith}
use Rattle.nest_memory.specs.Sublist.{sublist}
use Rattle.nest_memory.specs.SliceLaws.{length-cut}
use Rattle.nest_memory.specs.Rising.{last_of}
use Rattle.nest_model.specs.BuilderItem.{byte_count, bytes_held}
use Rattle.nest_model.specs.Layout.{Layout}
use Rattle.nest_model.specs.Meaning.{run, slot, slots_of}
use Rattle.nest_model.specs.Part.{valid_at, begin, extent, count_rows}
use Rattle.nest_model.specs.Reads.{extent-fits}
use Rattle.nest_model.specs.Slot as slots
use Rattle.nest_model.specs.Slot.{Slot}
use Rattle.nest_flat.specs.BytesGrowth.{Spans, AreSpans}
use Rattle.nest_flat.proofs.BytesGrown.{SpansKind}

counted : (wrap : List ℕ → Slot) → ((xs : List ℕ) → byte_count (wrap xs) ≡ length xs) → (b : Bool) (xs : List ℕ) (n : ℕ) → length xs ≡ n → (b ≡ false → n ≡ 0) → byte_count (if b then wrap xs else slots.null) ≡ n
counted wrap f true xs n e g = f xs ∙ e
counted wrap f false xs n e g = sym (g refl)

module _ (make : Spans → Layout) (wrap : List ℕ → Slot) (kind : SpansKind make wrap) (weigh : (xs : List ℕ) → byte_count (wrap xs) ≡ length xs) (s : Spans) (h : AreSpans s) where
  held-at : (i : ℕ) → i < count_rows s.offsets → byte_count (slot (make s) i) ≡ extent s.offsets i
  held-at i k =
      let w = extent-fits s.offsets (length s.bytes) i h.rising (let e = h.ends in omega arith) k in
      ap byte_count (kind.place s i)
      ∙ counted wrap weigh (valid_at s.validity i) (sublist s.bytes (begin s.offsets i) (extent s.offsets i)) (extent s.offsets i) (length-cut s.bytes (begin s.offsets i) (extent s.offsets i) w) (h.bare i k)

  held-run : (o n : ℕ) → o + n ≤ count_rows s.offsets → bytes_held (run (slot (make s)) o n) + begin s.offsets o ≡ begin s.offsets (o + n)
  held-run o zero k = let p = ap (begin s.offsets) (let e : o ≡ o + 0 = omega arith in e) in omega arith
  held-run o (suc n) k =
      let a = held-at o (omega arith) in
      let b = held-run (suc o) n (omega arith) in
      let m = h.rising.1 o (o + 1) (omega arith) (omega arith) in
      let p = ap (begin s.offsets) (let e : suc o ≡ o + 1 = omega arith in e) in
      let q = ap (begin s.offsets) (let e : suc o + n ≡ o + suc n = omega arith in e) in
      omega arith

  pub kind-held : bytes_held (slots_of (make s)) ≡ last_of s.offsets
  kind-held =
      let z = h.first in
      let e = held-run 0 (count_rows s.offsets) (omega arith) in
      let p = ap (begin s.offsets) (let q : 0 + count_rows s.offsets ≡ count_rows s.offsets = omega arith in q) in
      ap (λ n. bytes_held (run (slot (make s)) 0 n)) (kind.count s) ∙ (let r : bytes_held (run (slot (make s)) 0 (count_rows s.offsets)) ≡ begin s.offsets (count_rows s.offsets) = omega arith in r)
