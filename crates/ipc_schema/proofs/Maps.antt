-- Maps of strings ordered by their bytes.
use Rattle.std.proofs.Common.{◌≡◌, Bool, true, false, cond, List, [], ◌∷◌, ◌++◌, Option, Some, refl, ap, ◌∙◌}
use Rattle.std.specs.declared.alloc.Global.{Global}
use Rattle.std.specs.Prelude.{String, string_bytes, is_some}
use Rattle.std.specs.BTreeMap.{insert_entry, is_at}
use Rattle.std.specs.Cmp.Lexicographic.{slice_cmp}
use Rattle.std.specs.Map.{lookup, remove_entry}
use Rattle.std.specs.Option.{option_map}
use Rattle.std.specs.Ordering.{nat_cmp, match_ordering}
use Rattle.std.specs.declared.cmp.Ordering.{Ordering}
use Rattle.std.specs.declared.cmp.Ordering.TheVariants.{Less, Equal, Greater}
use Rattle.std.specs.Str.{bytes_eq}
use Rattle.std.specs.String.{string_cmp}
use Rattle.std.proofs.lemmas.Map.Text.{is_eq-slice_cmp, text_cmp}
use Rattle.nest_memory.specs.TypeTree.{Letters, Entries}
use Rattle.nest_memory.specs.TypeOf.{entries_of}
use Rattle.std.specs.List.{AllByRecursion, AllZip}
use Rattle.std.specs.List.Sorted.{IsStrictlySortedBy}
use Rattle.std.specs.Map.{keys_of}
use Rattle.ipc_schema.specs.Extensions.{spec_has_key, metadata_value, without}
use Rattle.ipc_schema.specs.Schemas.{with_pairs}
use Rattle.ipc_schema.specs.MetadataLaws.{AreSorted}

abbrev pub Texts : Type 0
Texts = List (String Global × String Global)

both_found : {X Y : Type 0} (b : Bool) (x : X) (y : Y) (m : Option X) (n : Option Y) → is_some m ≡ is_some n → is_some (cond b (Some x) m) ≡ is_some (cond b (Some y) n)
both_found true x y m n same = refl
both_found false x y m n same = same

pub key_found : (key : Letters) (es : Texts) → spec_has_key key (entries_of es) ≡ is_some (lookup (is_at (text_cmp key)) es)
key_found key [] = refl
key_found key (e ∷ es) =
    rw (is_eq-slice_cmp key (string_bytes e.0)) (both_found (bytes_eq key (string_bytes e.0)) (string_bytes e.1) e.1 (lookup (λ other. bytes_eq key other) (entries_of es)) (lookup (is_at (text_cmp key)) es) (key_found key es))

found_both : {X Y : Type 0} (f : X → Y) (b : Bool) (x : X) (m : Option X) (n : Option Y) → n ≡ option_map f m → cond b (Some (f x)) n ≡ option_map f (cond b (Some x) m)
found_both f true x m n same = refl
found_both f false x m n same = same

-- the value of a key
pub value_found : (key : Letters) (es : Texts) → metadata_value key (entries_of es) ≡ option_map string_bytes (lookup (is_at (text_cmp key)) es)
value_found key [] = refl
value_found key (e ∷ es) =
    rw (is_eq-slice_cmp key (string_bytes e.0)) (found_both string_bytes (bytes_eq key (string_bytes e.0)) e.1 (lookup (is_at (text_cmp key)) es) (metadata_value key (entries_of es)) (value_found key es))

taken_both : (b : Bool) (e : String Global × String Global) (es rest : Texts) → entries_of (cond b es (e ∷ rest)) ≡ cond b (entries_of es) ((string_bytes e.0, string_bytes e.1) ∷ entries_of rest)
taken_both true e es rest = refl
taken_both false e es rest = refl

-- the entries without a key
pub taken : (key : Letters) (es : Texts) → entries_of (remove_entry (is_at (text_cmp key)) es) ≡ without key (entries_of es)
taken key [] = refl
taken key (e ∷ es) =
    rw (is_eq-slice_cmp key (string_bytes e.0)) (taken_both (bytes_eq key (string_bytes e.0)) e es (remove_entry (is_at (text_cmp key)) es)
    ∙ ap (λ (rest : Entries). cond (bytes_eq key (string_bytes e.0)) (entries_of es) ((string_bytes e.0, string_bytes e.1) ∷ rest)) (taken key es))

-- copies with equal strings are equal entries
abbrev letters : String Global × String Global → Letters × Letters
letters e = (string_bytes e.0, string_bytes e.1)

pub copied : (R : String Global × String Global → String Global × String Global → Type 0) → ((x y : String Global × String Global) → R x y → letters y ≡ letters x) → (es fs : Texts) → AllZip R es fs → entries_of fs ≡ entries_of es
copied R keeps [] [] h = refl
copied R keeps [] (f ∷ fs) h = absurd h
copied R keeps (e ∷ es) [] h = absurd h
copied R keeps (e ∷ es) (f ∷ fs) h = λ i. keeps e f h.0 i ∷ copied R keeps es fs h.1 i

match_both : (o : Ordering) (a b c : Texts) → entries_of (match_ordering o a b c) ≡ match_ordering o (entries_of a) (entries_of b) (entries_of c)
match_both Less a b c = refl
match_both Equal a b c = refl
match_both Greater a b c = refl

pub inserted : (es : Texts) (key value : String Global) → entries_of (insert_entry string_cmp es key value) ≡ insert_entry (slice_cmp nat_cmp) (entries_of es) (string_bytes key) (string_bytes value)
inserted [] key value = refl
inserted (e ∷ es) key value =
    match_both (string_cmp key e.0) ((key, value) ∷ e ∷ es) ((e.0, value) ∷ es) (e ∷ insert_entry string_cmp es key value)
    ∙ ap (λ (rest : Entries). match_ordering (slice_cmp nat_cmp (string_bytes key) (string_bytes e.0)) ((string_bytes key, string_bytes value) ∷ entries_of (e ∷ es)) ((string_bytes e.0, string_bytes value) ∷ entries_of es) ((string_bytes e.0, string_bytes e.1) ∷ rest)) (inserted es key value)

pub with_more : (entries : Entries) (pairs : Entries) (pair : Letters × Letters) → with_pairs (with_pairs entries pairs) (pair ∷ []) ≡ with_pairs entries (pairs ++ pair ∷ [])
with_more entries [] pair = refl
with_more entries (first ∷ pairs) pair = with_more (insert_entry (slice_cmp nat_cmp) entries first.0 first.1) pairs pair

all_less : (key : String Global) (es : Texts) → AllByRecursion (λ other. string_cmp key other ≡ Less) (keys_of es) → AllByRecursion (λ other. slice_cmp nat_cmp (string_bytes key) other ≡ Less) (keys_of (entries_of es))
all_less key [] less = tt
all_less key (e ∷ es) less = (less.0, all_less key es less.1)

-- the keys of a map are sorted
pub rising_is : (es : Texts) → IsStrictlySortedBy string_cmp (keys_of es) → AreSorted (entries_of es)
unfolding IsStrictlySortedBy
rising_is [] rising = tt
rising_is (e ∷ es) rising = (all_less e.0 es rising.0, rising_is es rising.1)
