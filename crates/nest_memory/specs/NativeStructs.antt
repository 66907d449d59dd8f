-- Native values of several integers, high half or longest unit first.
use Rattle.std.specs.Prelude.{◌≡◌, ◌==◌, ◌&&◌, ℤ, pos, List, [], ◌∷◌}
use Rattle.std.specs.Bool.{Decides}
use Rattle.std.specs.Ordering.{int_eq}
use Rattle.std.proofs.lemmas.Bool.Decides.{Decides-eqb, Decides-int_eq, Decides-like, Decides-and}
use Rattle.nest_memory.specs.declared.types.i256.{i256}
use Rattle.nest_memory.specs.declared.types.days_ms.{days_ms}
use Rattle.nest_memory.specs.declared.types.months_days_ns.{months_days_ns}

-- The halves of 256 bits; this library's own.
abbrev pub halves : i256 → List ℤ
halves v = v.high ∷ pos v.low ∷ []

-- `IntervalUnit.DAY_TIME` of `Schema.fbs`: days, then milliseconds.
abbrev pub days_numbers : days_ms → List ℤ
days_numbers v = v.days ∷ v.milliseconds ∷ []

-- `IntervalUnit.MONTH_DAY_NANO` of `Schema.fbs`: months, then days, then nanoseconds.
abbrev pub months_numbers : months_days_ns → List ℤ
months_numbers v = v.months ∷ v.days ∷ v.ns ∷ []

-- Values with equal integers are equal.
pub halves-one : (a b : i256) → halves a ≡ halves b → a ≡ b
halves-one a b h =
    let p : a.high ≡ b.high = cc in
    let q : a.low ≡ b.low = cc in
    λ i. record { high = p i; low = q i }

pub days-one : (a b : days_ms) → days_numbers a ≡ days_numbers b → a ≡ b
days-one a b h =
    let p : a.days ≡ b.days = cc in
    let q : a.milliseconds ≡ b.milliseconds = cc in
    λ i. record { days = p i; milliseconds = q i }

pub months-one : (a b : months_days_ns) → months_numbers a ≡ months_numbers b → a ≡ b
months-one a b h =
    let p : a.months ≡ b.months = cc in
    let q : a.days ≡ b.days = cc in
    let r : a.ns ≡ b.ns = cc in
    λ i. record { months = p i; days = q i; ns = r i }

-- `==` decides whether the integers are equal.
pub halves-decides : (a b : i256) → Decides (int_eq a.high b.high && (a.low == b.low)) (halves a ≡ halves b)
halves-decides a b =
    Decides-like
    _
    (λ (e : (a.high ≡ b.high) × (a.low ≡ b.low)) i. e.0 i ∷ pos (e.1 i) ∷ [])
    (λ (h : halves a ≡ halves b). let p : a.high ≡ b.high = cc in let q : a.low ≡ b.low = cc in (p, q))
    (Decides-and _ _ (Decides-int_eq a.high b.high) (Decides-eqb a.low b.low))

pub days-decides : (a b : days_ms) → Decides (int_eq a.days b.days && int_eq a.milliseconds b.milliseconds) (days_numbers a ≡ days_numbers b)
days-decides a b =
    Decides-like
    _
    (λ (e : (a.days ≡ b.days) × (a.milliseconds ≡ b.milliseconds)) i. e.0 i ∷ e.1 i ∷ [])
    (λ (h : days_numbers a ≡ days_numbers b). let p : a.days ≡ b.days = cc in let q : a.milliseconds ≡ b.milliseconds = cc in (p, q))
    (Decides-and _ _ (Decides-int_eq a.days b.days) (Decides-int_eq a.milliseconds b.milliseconds))

pub months-decides : (a b : months_days_ns) → Decides (int_eq a.months b.months && (int_eq a.days b.days && int_eq a.ns b.ns)) (months_numbers a ≡ months_numbers b)
months-decides a b =
    Decides-like
    _
    (λ (e : (a.months ≡ b.months) × ((a.days ≡ b.days) × (a.ns ≡ b.ns))) i. e.0 i ∷ e.1.0 i ∷ e.1.1 i ∷ [])
    (λ (h : months_numbers a ≡ months_numbers b). let p : a.months ≡ b.months = cc in let q : a.days ≡ b.days = cc in let r : a.ns ≡ b.ns = cc in (p, (q, r)))
    (Decides-and _ _ (Decides-int_eq a.months b.months) (Decides-and _ _ (Decides-int_eq a.days b.days) (Decides-int_eq a.ns b.ns)))
