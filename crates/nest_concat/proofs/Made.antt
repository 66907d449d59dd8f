-- Results of concatenation.
use Rattle.std.specs.Prelude.{◌⊎◌, IfOk, IfErr, IsErrOf, IsOkUnless, MatchResult, alloc_error}
use Rattle.std.proofs.Common.{◌≡◌, ◌<◌, ◌≤◌, ℕ, Bool, false, List, [], ◌∷◌, Result, Ok, Err, length, get_or, inl, inr, ap, sym, ◌∙◌, subst, arith}
use Rattle.nest_array.specs.WindowParts.{WindowParts}
use Rattle.nest_array.specs.declared.any.AnyArray.{AnyArray}
use Rattle.nest_array.specs.Seen.{layout_of}
use Rattle.nest_memory.specs.TypeTree.{TypeTree}
use Rattle.nest_memory.specs.declared.error.Error.{Error}
use Rattle.nest_memory.specs.declared.error.Error.TheVariants.{Memory, Overflow}
use Rattle.nest_memory.specs.Physical.{binary_of_width, list_of_width, physical_type, utf8_of_width}
use Rattle.nest_memory.specs.declared.datatypes.physical_type.PhysicalType.TheVariants as physical
use Rattle.nest_memory.specs.declared.datatypes.physical_type.PhysicalType.{PhysicalType}
use Rattle.nest_model.specs.Array.{TopFits}
use Rattle.nest_model.specs.FactLaws.{binary-facts, fixed_size_binary-facts, fixed_size_list-facts, list-facts, map-facts, struct-facts, text-facts}
use Rattle.nest_model.specs.Decide.{pass-no_error}
use Rattle.nest_model.specs.Fits.{Fits, FirstError, checks}
use Rattle.nest_model.specs.Layout.{Layout, Layouts, boolean, binary, utf8, fixed_size_binary, fixed_size_list, list, map as map_of, struct, union, layout_type, dictionary}
use Rattle.nest_model.specs.Part.{Validity}
use Rattle.nest_concat.specs.Joined.{AreOfKind, AreWithin, IsJoined, RefusesJoin, first_array}
use Rattle.nest_concat.specs.Limits.{PassesLength, PassesLimits, PassesOffsets}
use Rattle.nest_concat.proofs.Logical.{kind-alike}

-- the first window is over the first array
pub first-is : (ws : List WindowParts) (w : WindowParts) → 0 < length ws → w ≡ get_or ws 0 w → first_array ws ≡ w.array
first-is [] w h e = absurd (omega arith)
first-is (x ∷ ws) w h e = sym (ap (λ z. z.array) e)

pub of-kind : (t : TypeTree) (p : PhysicalType) (ws : List WindowParts) → AreWithin t ws → physical_type t ≡ p → AreOfKind p ws
of-kind t p ws h e = λ i d l. kind-alike (layout_type (get_or ws i d).array) t p (h i d l).same_type e

pub passes-length : (a : Layout) (ws : List WindowParts) → PassesLength ws → PassesLimits a ws
passes-length (binary l t os bs va) ws h = inl h
passes-length (utf8 l t os bs va) ws h = inl h
passes-length (fixed_size_list t c va) ws h = inl h
passes-length (list l t os c va) ws h = inl h
passes-length (map_of t os c va) ws h = inl h
passes-length (struct t cs va) ws h = inl h
passes-length (union t ks cs os start) ws h = inl h
passes-length (dictionary t ks c) ws h = inl h
passes-length a ws h = h

pub refuses-length : (e : Error) (a : Layout) (ws : List WindowParts) → e ≡ Overflow → PassesLength ws → RefusesJoin e a ws
refuses-length e a ws o h = inr (o, passes-length a ws h)

-- the contract for the first array, from that for its variant
pub arm-ok : (r : Result AnyArray Error) (a f : Layout) (ws : List WindowParts) → f ≡ a → IfOk r (λ b. IsJoined (layout_type a) ws (layout_of b)) → IfOk r (λ b. IsJoined (layout_type f) ws (layout_of b))
arm-ok r a f ws e h = subst (λ z. IfOk r (λ b. IsJoined (layout_type z) ws (layout_of b))) (sym e) h

pub arm-refuses : (r : Result AnyArray Error) (a f : Layout) (ws : List WindowParts) → f ≡ a → IfErr r (λ e. RefusesJoin e a ws) → IfErr r (λ e. RefusesJoin e f ws)
arm-refuses r a f ws e h = subst (λ z. IfErr r (λ x. RefusesJoin x z ws)) (sym e) h

pub arm-memory : (r : Result AnyArray Error) (f : Layout) (ws : List WindowParts) → IsOkUnless r (Memory alloc_error) → IfErr r (λ e. RefusesJoin e f ws)
arm-memory (Ok b) f ws h = tt
arm-memory (Err e) f ws h = inl h

-- an array with these parts is a concatenation where the parts are one
pub ok-joined : (r : Result AnyArray Error) (t : TypeTree) (p : Layout) (ws : List WindowParts) → IfOk r (λ b. layout_of b ≡ p) → IsJoined t ws p → IfOk r (λ b. IsJoined t ws (layout_of b))
ok-joined (Ok b) t p ws h j = subst (IsJoined t ws) (sym h) j
ok-joined (Err e) t p ws h j = tt

-- the result of a constructor from parts that fit
pub made-ok : (r : Result Layout Error) (t : TypeTree) (p : Layout) (ws : List WindowParts) → MatchResult r (λ b. Fits p × (b ≡ p)) (λ e. FirstError e p) → IsJoined t ws p → IfOk r (λ b. IsJoined t ws b)
made-ok (Ok b) t p ws h j = subst (IsJoined t ws) (sym h.1) j
made-ok (Err e) t p ws h j = tt

pub made-err : (r : Result Layout Error) (p : Layout) (t : TypeTree) (ws : List WindowParts) (Q : Error → Type 0) → MatchResult r (λ b. Fits p × (b ≡ p)) (λ e. FirstError e p) → Fits p × IsJoined t ws p → IfErr r Q
made-err (Ok b) p t ws Q h f = tt
made-err (Err e) p t ws Q h f = absurd (pass-no_error (checks p) e f.0 h)

pub made-memory : (r : Result Layout Error) (p : Layout) (t : TypeTree) (ws : List WindowParts) → MatchResult r (λ b. Fits p × (b ≡ p)) (λ e. FirstError e p) → Fits p × IsJoined t ws p → IsOkUnless r (Memory alloc_error)
made-memory (Ok b) p t ws h f = tt
made-memory (Err e) p t ws h f = absurd (pass-no_error (checks p) e f.0 h)

-- too many items
pub bytes-refuse : (large : Bool) (e : Error) (a : Layout) (t : TypeTree) (os bs : List ℕ) (va : Validity) (ws : List WindowParts) → a ≡ binary large t os bs va
    → (e ≡ Memory alloc_error) ⊎ ((e ≡ Overflow) × PassesOffsets large ws) → RefusesJoin e a ws
bytes-refuse large e a t os bs va ws k (inl m) = inl m
bytes-refuse large e a t os bs va ws k (inr p) = inr (p.0, subst (λ z. PassesLimits z ws) (sym k) (inr p.1))

pub texts-refuse : (large : Bool) (e : Error) (a : Layout) (t : TypeTree) (os bs : List ℕ) (va : Validity) (ws : List WindowParts) → a ≡ utf8 large t os bs va
    → (e ≡ Memory alloc_error) ⊎ ((e ≡ Overflow) × PassesOffsets large ws) → RefusesJoin e a ws
texts-refuse large e a t os bs va ws k (inl m) = inl m
texts-refuse large e a t os bs va ws k (inr p) = inr (p.0, subst (λ z. PassesLimits z ws) (sym k) (inr p.1))

pub lists-refuse : (large : Bool) (e : Error) (a : Layout) (t : TypeTree) (os : List ℕ) (c : Layout) (va : Validity) (ws : List WindowParts) → a ≡ list large t os c va
    → e ≡ Overflow → PassesOffsets large ws → RefusesJoin e a ws
lists-refuse large e a t os c va ws k o p = inr (o, subst (λ z. PassesLimits z ws) (sym k) (inr (inl p)))

pub maps-refuse : (e : Error) (a : Layout) (t : TypeTree) (os : List ℕ) (c : Layout) (va : Validity) (ws : List WindowParts) → a ≡ map_of t os c va
    → e ≡ Overflow → PassesOffsets false ws → RefusesJoin e a ws
maps-refuse e a t os c va ws k o p = inr (o, subst (λ z. PassesLimits z ws) (sym k) (inr (inl p)))

-- where no number overflows, the error is a failed allocation
pub only-memory : {T : Type 0} (e : Error) (m n : ℕ) → (IsErrOf {T = T} {E = Error} (Err e) Overflow → m < n) → n ≤ m → (e ≡ Overflow) ⊎ (e ≡ Memory alloc_error) → e ≡ Memory alloc_error
only-memory e m n past fits h = elim h [
  | inl o ↦ absurd (omega (arith, past (ap Err o), fits))
  | inr e ↦ e
]

-- the physical type of an array of a kind
pub list-kind : (large : Bool) (a : Layout) (t : TypeTree) (os : List ℕ) (c : Layout) (va : Validity) → TopFits a → a ≡ list large t os c va → physical_type (layout_type a) ≡ list_of_width large
list-kind large a t os c va f k = ap (λ z. physical_type (layout_type z)) k ∙ (list-facts large t os c va (subst TopFits k f)).typed

pub map-kind : (a : Layout) (t : TypeTree) (os : List ℕ) (c : Layout) (va : Validity) → TopFits a → a ≡ map_of t os c va → physical_type (layout_type a) ≡ physical.Map
map-kind a t os c va f k = ap (λ z. physical_type (layout_type z)) k ∙ (map-facts t os c va (subst TopFits k f)).typed

pub sized-kind : (a : Layout) (t : TypeTree) (c : Layout) (va : Validity) → TopFits a → a ≡ fixed_size_list t c va → physical_type (layout_type a) ≡ physical.FixedSizeList
sized-kind a t c va f k = ap (λ z. physical_type (layout_type z)) k ∙ (fixed_size_list-facts t c va (subst TopFits k f)).typed

pub record-kind : (a : Layout) (t : TypeTree) (cs : Layouts) (va : Validity) → TopFits a → a ≡ struct t cs va → physical_type (layout_type a) ≡ physical.Struct
record-kind a t cs va f k = ap (λ z. physical_type (layout_type z)) k ∙ (struct-facts t cs va (subst TopFits k f)).typed

pub boolean-kind : (a : Layout) (t : TypeTree) (bs : List Bool) (va : Validity) → TopFits a → a ≡ boolean t bs va → physical_type (layout_type a) ≡ physical.Boolean
boolean-kind a t bs va f k = ap (λ z. physical_type (layout_type z)) k ∙ (subst TopFits k f).1.1.0

pub binary-kind : (large : Bool) (a : Layout) (t : TypeTree) (os bs : List ℕ) (va : Validity) → TopFits a → a ≡ binary large t os bs va → physical_type (layout_type a) ≡ binary_of_width large
binary-kind large a t os bs va f k = ap (λ z. physical_type (layout_type z)) k ∙ (binary-facts large t os bs va (subst TopFits k f)).typed

pub text-kind : (large : Bool) (a : Layout) (t : TypeTree) (os bs : List ℕ) (va : Validity) → TopFits a → a ≡ utf8 large t os bs va → physical_type (layout_type a) ≡ utf8_of_width large
text-kind large a t os bs va f k = ap (λ z. physical_type (layout_type z)) k ∙ (text-facts large t os bs va (subst TopFits k f)).typed

pub fixed-kind : (a : Layout) (t : TypeTree) (bs : List ℕ) (va : Validity) → TopFits a → a ≡ fixed_size_binary t bs va → physical_type (layout_type a) ≡ physical.FixedSizeBinary
fixed-kind a t bs va f k = ap (λ z. physical_type (layout_type z)) k ∙ (fixed_size_binary-facts t bs va (subst TopFits k f)).typed
