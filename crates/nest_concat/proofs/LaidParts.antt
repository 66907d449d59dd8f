-- Arrays with concatenated parts are the layout of the windows, and pass no limit.
use Rattle.std.specs.Prelude.{◌⊎◌, IfOk, MatchResult, List, [], ◌∷◌, map, length, get_or, Option, if◌then◌else◌}
use Rattle.std.specs.List.{flat_map, sum_by}
use Rattle.std.proofs.Common.{◌≡◌, ℕ, ℤ, suc, ◌+◌, ◌<◌, ◌≤◌, ◌^◌, Bool, true, false, Result, Ok, Err, inl, inr, refl, ap, sym, ◌∙◌, subst, arith}
use Rattle.nest_memory.specs.Rising.{largest_offset}
use Rattle.nest_memory.specs.TypeTree.{TypeTree, size_of}
use Rattle.nest_memory.specs.declared.datatypes.physical_type.PrimitiveType.{PrimitiveType}
use Rattle.nest_memory.specs.declared.error.Error.{Error}
use Rattle.nest_model.specs.Accessors.{child_at, child_of, key_type_of}
use Rattle.nest_model.specs.Array.{TopFits}
use Rattle.nest_model.specs.BuilderTree.{key_count}
use Rattle.nest_model.specs.FactLaws.{dictionary-facts}
use Rattle.nest_model.specs.Fits.{Fits, FirstError}
use Rattle.nest_model.specs.Layout.{Layout, Layouts, null, boolean, primitive, binary, utf8, fixed_size_binary, fixed_size_list, list, map as map_of, struct, union, dictionary, no_layouts, more_layouts, count_layouts, layout_type}
use Rattle.nest_model.specs.Part.{Validity}
use Rattle.nest_array.specs.Keys.{keyed_by}
use Rattle.nest_array.specs.Seen.{layout_of, layouts_of}
use Rattle.nest_array.specs.WindowParts.{WindowParts}
use Rattle.nest_array.specs.declared.any.AnyArray.{AnyArray}
use Rattle.nest_concat.specs.Joined.{first_array}
use Rattle.nest_concat.specs.Laid.{have_values, joined_rows, laid, laid_each, laid_keys}
use Rattle.nest_concat.specs.LaidLaws.{values-decides}
use Rattle.nest_concat.specs.Limits.{PassesLength, PassesLimits, PassesOffsets, PassesPicks, SomePasses}
use Rattle.nest_concat.specs.Lookups.{HaveValues, KeysPass, most_keys, values_in}
use Rattle.nest_concat.specs.Moved.{joined_offsets, type_ids_in}
use Rattle.nest_concat.specs.Windows.{blocks_in, blocks_of, bytes_in, window_item_count, count_slots, field_window, items_in, concatenated_validity, natives_in, booleans_in}
use Rattle.nest_concat.proofs.Keyed.{values-first}
use Rattle.nest_concat.proofs.Nested.{IsFirst, child-first}

-- a property that does not depend on the value
pub ok-always : {T E : Type 0} (r : Result T E) (P : Type 0) → P → IfOk r (λ _. P)
ok-always (Ok x) P p = p
ok-always (Err e) P p = tt

pub ok-laid : (r : Result AnyArray Error) (p q : Layout) → IfOk r (λ b. layout_of b ≡ p) → p ≡ q → IfOk r (λ b. layout_of b ≡ q)
ok-laid (Ok b) p q h e = h ∙ e
ok-laid (Err x) p q h e = tt

pub made-laid : (r : Result Layout Error) (p q : Layout) → MatchResult r (λ b. Fits p × (b ≡ p)) (λ e. FirstError e p) → p ≡ q → IfOk r (λ b. b ≡ q)
made-laid (Ok b) p q h e = h.1 ∙ e
made-laid (Err x) p q h e = tt

-- the contract for the first array, from that for its variant
pub arm-laid : (r : Result AnyArray Error) (a f : Layout) (ws : List WindowParts) → f ≡ a → IfOk r (λ b. layout_of b ≡ laid a ws) → IfOk r (λ b. layout_of b ≡ laid f ws)
arm-laid r a f ws e h = subst (λ z. IfOk r (λ b. layout_of b ≡ laid z ws)) (sym e) h

pub arm-room : (r : Result AnyArray Error) (a f : Layout) (ws : List WindowParts) → f ≡ a → IfOk r (λ _. PassesLimits a ws → ⊥) → IfOk r (λ _. PassesLimits f ws → ⊥)
arm-room r a f ws e h = subst (λ z. IfOk r (λ _. PassesLimits z ws → ⊥)) (sym e) h

-- neither of two limits
pub neither : {P Q : Type 0} → (P → ⊥) → (Q → ⊥) → P ⊎ Q → ⊥
neither f g (inl p) = f p
neither f g (inr q) = g q

pub length-room : (ws : List WindowParts) (n : ℕ) → n ≡ count_slots ws → n < 2 ^ 64 → PassesLength ws → ⊥
length-room ws n e h p = omega (arith, e, h, p)

pub offsets-room : (large : Bool) (ws : List WindowParts) (n m : ℕ) → n ≡ sum_by window_item_count ws → n ≤ m → m ≡ largest_offset large → PassesOffsets large ws → ⊥
offsets-room large ws n m e h k p = omega (arith, e, h, k, p)

-- flat arrays
pub null-laid : (a : Layout) (t : TypeTree) (n m : ℕ) (ws : List WindowParts) → a ≡ null t n → m ≡ count_slots ws → null (layout_type a) m ≡ laid a ws
null-laid a t n m ws k e = subst (λ z. null (layout_type z) m ≡ laid z ws) (sym k) (ap (null t) e)

pub null-room : (a : Layout) (t : TypeTree) (n : ℕ) (ws : List WindowParts) → a ≡ null t n → (PassesLength ws → ⊥) → PassesLimits a ws → ⊥
null-room a t n ws k h = subst (λ z. PassesLimits z ws → ⊥) (sym k) h

pub boolean-laid : (a : Layout) (u t : TypeTree) (bs xs : List Bool) (va v : Validity) (ws : List WindowParts) → a ≡ boolean t bs va → u ≡ layout_type a → xs ≡ flat_map booleans_in ws → v ≡ concatenated_validity ws → boolean u xs v ≡ laid a ws
boolean-laid a u t bs xs va v ws k e f g =
    let y : u ≡ t = e ∙ ap layout_type k in
    let z : boolean u xs v ≡ boolean t (flat_map booleans_in ws) (concatenated_validity ws) = cc in
    subst (λ b. boolean u xs v ≡ laid b ws) (sym k) z

pub boolean-room : (a : Layout) (t : TypeTree) (bs : List Bool) (va : Validity) (ws : List WindowParts) → a ≡ boolean t bs va → (PassesLength ws → ⊥) → PassesLimits a ws → ⊥
boolean-room a t bs va ws k h = subst (λ z. PassesLimits z ws → ⊥) (sym k) h

pub primitive-laid : (q : PrimitiveType) (a : Layout) (u t : TypeTree) (vs xs : List (List ℤ)) (va v : Validity) (ws : List WindowParts) → a ≡ primitive q t vs va → u ≡ layout_type a → xs ≡ flat_map natives_in ws → v ≡ concatenated_validity ws
    → primitive q u xs v ≡ laid a ws
primitive-laid q a u t vs xs va v ws k e f g =
    let y : u ≡ t = e ∙ ap layout_type k in
    let z : primitive q u xs v ≡ primitive q t (flat_map natives_in ws) (concatenated_validity ws) = cc in
    subst (λ b. primitive q u xs v ≡ laid b ws) (sym k) z

pub primitive-room : (q : PrimitiveType) (a : Layout) (t : TypeTree) (vs : List (List ℤ)) (va : Validity) (ws : List WindowParts) → a ≡ primitive q t vs va → (PassesLength ws → ⊥) → PassesLimits a ws → ⊥
primitive-room q a t vs va ws k h = subst (λ z. PassesLimits z ws → ⊥) (sym k) h

pub binary-laid : (large : Bool) (a : Layout) (u t : TypeTree) (os es bs xs : List ℕ) (va v : Validity) (ws : List WindowParts) → a ≡ binary large t os bs va → u ≡ layout_type a → es ≡ joined_rows ws → xs ≡ flat_map bytes_in ws → v ≡ concatenated_validity ws
    → binary large u es xs v ≡ laid a ws
binary-laid large a u t os es bs xs va v ws k e f g h =
    let y : u ≡ t = e ∙ ap layout_type k in
    let z : binary large u es xs v ≡ binary large t (joined_rows ws) (flat_map bytes_in ws) (concatenated_validity ws) = cc in
    subst (λ b. binary large u es xs v ≡ laid b ws) (sym k) z

pub binary-room : (large : Bool) (a : Layout) (t : TypeTree) (os bs : List ℕ) (va : Validity) (ws : List WindowParts) → a ≡ binary large t os bs va → (PassesLength ws → ⊥) → (PassesOffsets large ws → ⊥) → PassesLimits a ws → ⊥
binary-room large a t os bs va ws k h o = subst (λ z. PassesLimits z ws → ⊥) (sym k) (neither h o)

pub text-laid : (large : Bool) (a : Layout) (u t : TypeTree) (os es bs xs : List ℕ) (va v : Validity) (ws : List WindowParts) → a ≡ utf8 large t os bs va → u ≡ layout_type a → es ≡ joined_rows ws → xs ≡ flat_map bytes_in ws → v ≡ concatenated_validity ws
    → utf8 large u es xs v ≡ laid a ws
text-laid large a u t os es bs xs va v ws k e f g h =
    let y : u ≡ t = e ∙ ap layout_type k in
    let z : utf8 large u es xs v ≡ utf8 large t (joined_rows ws) (flat_map bytes_in ws) (concatenated_validity ws) = cc in
    subst (λ b. utf8 large u es xs v ≡ laid b ws) (sym k) z

pub text-room : (large : Bool) (a : Layout) (t : TypeTree) (os bs : List ℕ) (va : Validity) (ws : List WindowParts) → a ≡ utf8 large t os bs va → (PassesLength ws → ⊥) → (PassesOffsets large ws → ⊥) → PassesLimits a ws → ⊥
text-room large a t os bs va ws k h o = subst (λ z. PassesLimits z ws → ⊥) (sym k) (neither h o)

pub fixed-laid : (a : Layout) (u t : TypeTree) (bs xs : List ℕ) (va v : Validity) (ws : List WindowParts) → a ≡ fixed_size_binary t bs va → u ≡ layout_type a → xs ≡ flat_map (blocks_in (size_of (layout_type a))) ws → v ≡ concatenated_validity ws
    → fixed_size_binary u xs v ≡ laid a ws
fixed-laid a u t bs xs va v ws k e f g =
    let y : u ≡ t = e ∙ ap layout_type k in
    let x : xs ≡ flat_map (blocks_in (size_of t)) ws = f ∙ ap (λ b. flat_map (blocks_in (size_of (layout_type b))) ws) k in
    let z : fixed_size_binary u xs v ≡ fixed_size_binary t (flat_map (blocks_in (size_of t)) ws) (concatenated_validity ws) = cc in
    subst (λ b. fixed_size_binary u xs v ≡ laid b ws) (sym k) z

pub fixed-room : (a : Layout) (t : TypeTree) (bs : List ℕ) (va : Validity) (ws : List WindowParts) → a ≡ fixed_size_binary t bs va → (PassesLength ws → ⊥) → PassesLimits a ws → ⊥
fixed-room a t bs va ws k h = subst (λ z. PassesLimits z ws → ⊥) (sym k) h

-- the child of arrays with one child
pub child-laid : (f : WindowParts → WindowParts) (c d : Layout) (ws cws : List WindowParts) → first_array cws ≡ c → cws ≡ map f ws → d ≡ laid (first_array cws) cws → d ≡ laid c (map f ws)
child-laid f c d ws cws z q j = j ∙ ap (λ y. laid y cws) z ∙ ap (laid c) q

pub child-room : (f : WindowParts → WindowParts) (c : Layout) (ws cws : List WindowParts) → first_array cws ≡ c → cws ≡ map f ws → (PassesLimits (first_array cws) cws → ⊥) → PassesLimits c (map f ws) → ⊥
child-room f c ws cws z q r = subst (λ y. PassesLimits c y → ⊥) q (subst (λ y. PassesLimits y cws → ⊥) z r)

pub list-laid : (large : Bool) (a : Layout) (u t : TypeTree) (os es : List ℕ) (c d : Layout) (va v : Validity) (ws cws : List WindowParts) → a ≡ list large t os c va → IsFirst a ws → cws ≡ map items_in ws → u ≡ layout_type a → es ≡ joined_rows ws
    → v ≡ concatenated_validity ws → d ≡ laid (first_array cws) cws → list large u es d v ≡ laid a ws
list-laid large a u t os es c d va v ws cws k h q e f g j =
    let y : u ≡ t = e ∙ ap layout_type k in
    let x : d ≡ laid c (map items_in ws) = child-laid items_in c d ws cws (child-first items_in a ws cws (λ w. refl) h q ∙ ap child_of k) q j in
    let z : list large u es d v ≡ list large t (joined_rows ws) (laid c (map items_in ws)) (concatenated_validity ws) = cc in
    subst (λ b. list large u es d v ≡ laid b ws) (sym k) z

pub list-room : (large : Bool) (a : Layout) (t : TypeTree) (os : List ℕ) (c : Layout) (va : Validity) (ws cws : List WindowParts) → a ≡ list large t os c va → IsFirst a ws → cws ≡ map items_in ws → (PassesLength ws → ⊥) → (PassesOffsets large ws → ⊥)
    → (PassesLimits (first_array cws) cws → ⊥) → PassesLimits a ws → ⊥
list-room large a t os c va ws cws k h q n o r =
    let x = child-room items_in c ws cws (child-first items_in a ws cws (λ w. refl) h q ∙ ap child_of k) q r in
    subst (λ z. PassesLimits z ws → ⊥) (sym k) (neither n (neither o x))

pub map-laid : (a : Layout) (u t : TypeTree) (os es : List ℕ) (c d : Layout) (va v : Validity) (ws cws : List WindowParts) → a ≡ map_of t os c va → IsFirst a ws → cws ≡ map items_in ws → u ≡ layout_type a → es ≡ joined_rows ws
    → v ≡ concatenated_validity ws → d ≡ laid (first_array cws) cws → map_of u es d v ≡ laid a ws
map-laid a u t os es c d va v ws cws k h q e f g j =
    let y : u ≡ t = e ∙ ap layout_type k in
    let x : d ≡ laid c (map items_in ws) = child-laid items_in c d ws cws (child-first items_in a ws cws (λ w. refl) h q ∙ ap child_of k) q j in
    let z : map_of u es d v ≡ map_of t (joined_rows ws) (laid c (map items_in ws)) (concatenated_validity ws) = cc in
    subst (λ b. map_of u es d v ≡ laid b ws) (sym k) z

pub map-room : (a : Layout) (t : TypeTree) (os : List ℕ) (c : Layout) (va : Validity) (ws cws : List WindowParts) → a ≡ map_of t os c va → IsFirst a ws → cws ≡ map items_in ws → (PassesLength ws → ⊥) → (PassesOffsets false ws → ⊥)
    → (PassesLimits (first_array cws) cws → ⊥) → PassesLimits a ws → ⊥
map-room a t os c va ws cws k h q n o r =
    let x = child-room items_in c ws cws (child-first items_in a ws cws (λ w. refl) h q ∙ ap child_of k) q r in
    subst (λ z. PassesLimits z ws → ⊥) (sym k) (neither n (neither o x))

pub sized-laid : (a : Layout) (u t : TypeTree) (c d : Layout) (va v : Validity) (ws cws : List WindowParts) → a ≡ fixed_size_list t c va → IsFirst a ws → cws ≡ map (blocks_of (size_of (layout_type a))) ws → u ≡ layout_type a
    → v ≡ concatenated_validity ws → d ≡ laid (first_array cws) cws → fixed_size_list u d v ≡ laid a ws
sized-laid a u t c d va v ws cws k h q e g j =
    let y : u ≡ t = e ∙ ap layout_type k in
    let q' : cws ≡ map (blocks_of (size_of t)) ws = q ∙ ap (λ b. map (blocks_of (size_of (layout_type b))) ws) k in
    let x : d ≡ laid c (map (blocks_of (size_of t)) ws) = child-laid (blocks_of (size_of t)) c d ws cws (child-first (blocks_of (size_of t)) a ws cws (λ w. refl) h q' ∙ ap child_of k) q' j in
    let z : fixed_size_list u d v ≡ fixed_size_list t (laid c (map (blocks_of (size_of t)) ws)) (concatenated_validity ws) = cc in
    subst (λ b. fixed_size_list u d v ≡ laid b ws) (sym k) z

pub sized-room : (a : Layout) (t : TypeTree) (c : Layout) (va : Validity) (ws cws : List WindowParts) → a ≡ fixed_size_list t c va → IsFirst a ws → cws ≡ map (blocks_of (size_of (layout_type a))) ws → (PassesLength ws → ⊥)
    → (PassesLimits (first_array cws) cws → ⊥) → PassesLimits a ws → ⊥
sized-room a t c va ws cws k h q n r =
    let q' : cws ≡ map (blocks_of (size_of t)) ws = q ∙ ap (λ b. map (blocks_of (size_of (layout_type b))) ws) k in
    let x = child-room (blocks_of (size_of t)) c ws cws (child-first (blocks_of (size_of t)) a ws cws (λ w. refl) h q' ∙ ap child_of k) q' r in
    subst (λ z. PassesLimits z ws → ⊥) (sym k) (neither n x)

-- children of structs and unions
all-laid : (cs : Layouts) (k : ℕ) (ws : List WindowParts) (ys : List AnyArray) → length ys ≡ count_layouts cs
    → ((f : ℕ) (d : AnyArray) → f < count_layouts cs → layout_of (get_or ys f d) ≡ laid (child_at cs f) (map (field_window (k + f)) ws)) → layouts_of ys ≡ laid_each cs k ws
all-laid no_layouts k ws [] e h = refl
all-laid no_layouts k ws (y ∷ ys) e h = absurd (omega arith)
all-laid (more_layouts c cs) k ws [] e h = absurd (omega arith)
all-laid (more_layouts c cs) k ws (y ∷ ys) e h =
    let z : k + 0 ≡ k = omega arith in
    let p : layout_of y ≡ laid c (map (field_window k) ws) = h 0 y (omega arith) ∙ ap (λ n. laid c (map (field_window n) ws)) z in
    let q = all-laid cs (suc k) ws ys (omega arith) (λ f d l. let w : k + suc f ≡ suc k + f = omega arith in h (suc f) d (omega arith) ∙ ap (λ n. laid (child_at cs f) (map (field_window n) ws)) w) in
    ap (λ b. more_layouts b (layouts_of ys)) p ∙ ap (more_layouts (laid c (map (field_window k) ws))) q

pub each-laid : (cs : Layouts) (ws : List WindowParts) (ys : List AnyArray) → length ys ≡ count_layouts cs
    → ((f : ℕ) (d : AnyArray) → f < count_layouts cs → layout_of (get_or ys f d) ≡ laid (child_at cs f) (map (field_window f) ws)) → layouts_of ys ≡ laid_each cs 0 ws
each-laid cs ws ys e h = all-laid cs 0 ws ys e (λ f d l. let z : f ≡ 0 + f = omega arith in h f d l ∙ ap (λ n. laid (child_at cs f) (map (field_window n) ws)) z)

all-room : (cs : Layouts) (k : ℕ) (ws : List WindowParts) → ((f : ℕ) → f < count_layouts cs → PassesLimits (child_at cs f) (map (field_window (k + f)) ws) → ⊥) → SomePasses cs k ws → ⊥
all-room no_layouts k ws h p = p
all-room (more_layouts c cs) k ws h (inl p) = let z : k ≡ k + 0 = omega arith in h 0 (omega arith) (subst (λ n. PassesLimits c (map (field_window n) ws)) z p)
all-room (more_layouts c cs) k ws h (inr p) =
    all-room cs (suc k) ws (λ f l q. let z : suc k + f ≡ k + suc f = omega arith in h (suc f) (omega arith) (subst (λ n. PassesLimits (child_at cs f) (map (field_window n) ws)) z q)) p

pub each-room : (cs : Layouts) (ws : List WindowParts) → ((f : ℕ) → f < count_layouts cs → PassesLimits (child_at cs f) (map (field_window f) ws) → ⊥) → SomePasses cs 0 ws → ⊥
each-room cs ws h = all-room cs 0 ws (λ f l q. let z : 0 + f ≡ f = omega arith in h f l (subst (λ n. PassesLimits (child_at cs f) (map (field_window n) ws)) z q))

pub record-laid : (a : Layout) (u t : TypeTree) (cs ds : Layouts) (va v : Validity) (ws : List WindowParts) → a ≡ struct t cs va → u ≡ layout_type a → ds ≡ laid_each cs 0 ws → v ≡ concatenated_validity ws → struct u ds v ≡ laid a ws
record-laid a u t cs ds va v ws k e f g =
    let y : u ≡ t = e ∙ ap layout_type k in
    let z : struct u ds v ≡ struct t (laid_each cs 0 ws) (concatenated_validity ws) = cc in
    subst (λ b. struct u ds v ≡ laid b ws) (sym k) z

pub record-room : (a : Layout) (t : TypeTree) (cs : Layouts) (va : Validity) (ws : List WindowParts) → a ≡ struct t cs va → (PassesLength ws → ⊥) → (SomePasses cs 0 ws → ⊥) → PassesLimits a ws → ⊥
record-room a t cs va ws k n r = subst (λ z. PassesLimits z ws → ⊥) (sym k) (neither n r)

pub union-laid : (a : Layout) (u t : TypeTree) (ks xs : List ℤ) (cs ds : Layouts) (os o : Option (List ℤ)) (s : ℕ) (ws : List WindowParts) → a ≡ union t ks cs os s → u ≡ layout_type a → xs ≡ flat_map type_ids_in ws → ds ≡ laid_each cs 0 ws
    → o ≡ joined_offsets os ws → union u xs ds o 0 ≡ laid a ws
union-laid a u t ks xs cs ds os o s ws k e f g h =
    let y : u ≡ t = e ∙ ap layout_type k in
    let z : union u xs ds o 0 ≡ union t (flat_map type_ids_in ws) (laid_each cs 0 ws) (joined_offsets os ws) 0 = cc in
    subst (λ b. union u xs ds o 0 ≡ laid b ws) (sym k) z

pub union-room : (a : Layout) (t : TypeTree) (ks : List ℤ) (cs : Layouts) (os : Option (List ℤ)) (s : ℕ) (ws : List WindowParts) → a ≡ union t ks cs os s → (PassesLength ws → ⊥) → (PassesPicks os (count_layouts cs) ws → ⊥)
    → (SomePasses cs 0 ws → ⊥) → PassesLimits a ws → ⊥
union-room a t ks cs os s ws k n o r = subst (λ z. PassesLimits z ws → ⊥) (sym k) (neither n (neither o r))

-- dictionaries
selected-true : (b : Bool) (x y : Layout) → b ≡ true → x ≡ (if b then x else y)
selected-true true x y e = refl
selected-true false x y e = cc

selected-false : (b : Bool) (x y : Layout) → (b ≡ true → ⊥) → y ≡ (if b then x else y)
selected-false true x y e = absurd (e refl)
selected-false false x y e = refl

pub kept-laid : (a : Layout) (u t : TypeTree) (ks c new d : Layout) (ws : List WindowParts) → a ≡ dictionary t ks c → u ≡ layout_type a → new ≡ laid_keys false ks ws → HaveValues c ws → d ≡ c → dictionary u new d ≡ laid a ws
kept-laid a u t ks c new d ws k e f h g =
    let y : u ≡ t = e ∙ ap layout_type k in
    let z : dictionary u new d ≡ dictionary t (laid_keys false ks ws) c = cc in
    let s = selected-true (have_values c ws) (dictionary t (laid_keys false ks ws) c) (dictionary t (laid_keys true ks ws) (laid c (map values_in ws))) ((values-decides c ws).1 h) in
    subst (λ b. dictionary u new d ≡ laid b ws) (sym k) (z ∙ s)

pub kept-room : (a : Layout) (t : TypeTree) (ks c : Layout) (ws : List WindowParts) → a ≡ dictionary t ks c → (PassesLength ws → ⊥) → HaveValues c ws → PassesLimits a ws → ⊥
kept-room a t ks c ws k n h = subst (λ z. PassesLimits z ws → ⊥) (sym k) (neither n (λ p. p.0 h))

pub moved-laid : (a : Layout) (u t : TypeTree) (ks c new d : Layout) (ws cws : List WindowParts) → a ≡ dictionary t ks c → IsFirst a ws → cws ≡ map values_in ws → u ≡ layout_type a → new ≡ laid_keys true ks ws → (HaveValues c ws → ⊥)
    → d ≡ laid (first_array cws) cws → dictionary u new d ≡ laid a ws
moved-laid a u t ks c new d ws cws k i q e f h j =
    let y : u ≡ t = e ∙ ap layout_type k in
    let x : d ≡ laid c (map values_in ws) = child-laid values_in c d ws cws (values-first a t ks c ws cws k i q) q j in
    let z : dictionary u new d ≡ dictionary t (laid_keys true ks ws) (laid c (map values_in ws)) = cc in
    let s = selected-false (have_values c ws) (dictionary t (laid_keys false ks ws) c) (dictionary t (laid_keys true ks ws) (laid c (map values_in ws))) (λ b. h ((values-decides c ws).0 b)) in
    subst (λ b. dictionary u new d ≡ laid b ws) (sym k) (z ∙ s)

pub moved-room : (a : Layout) (t : TypeTree) (ks c : Layout) (ws cws : List WindowParts) → a ≡ dictionary t ks c → IsFirst a ws → cws ≡ map values_in ws → (PassesLength ws → ⊥) → (KeysPass (most_keys t) 0 ws → ⊥)
    → (PassesLimits (first_array cws) cws → ⊥) → PassesLimits a ws → ⊥
moved-room a t ks c ws cws k i q n o r =
    let x = child-room values_in c ws cws (values-first a t ks c ws cws k i q) q r in
    subst (λ z. PassesLimits z ws → ⊥) (sym k) (neither n (λ p. neither o x p.1))

-- the keys of the key type
pub keys-room : (a : Layout) (ks c : Layout) (ws : List WindowParts) → TopFits a → a ≡ dictionary (layout_type a) ks c → (KeysPass (key_count (keyed_by (key_type_of ks))) 0 ws → ⊥) → KeysPass (most_keys (layout_type a)) 0 ws → ⊥
keys-room a ks c ws f k h =
    let x = dictionary-facts (layout_type a) ks c (subst TopFits k f) in
    subst (λ z. KeysPass (key_count (keyed_by z)) 0 ws → ⊥) (sym x.key_typed) h
