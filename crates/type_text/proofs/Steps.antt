-- Fields and keywords one after the other, as the loops parse them.
use Rattle.std.proofs.Common.{◌≡◌, ℕ, zero, suc, ◌+◌, ◌-◌, ◌<◌, ◌≤◌, ℤ, Bool, drop, get_or, List, [], ◌∷◌, ◌++◌, codes, length, Option, Some, None, Result, Ok, Err, refl, sym, ap, ◌∙◌, append_assoc, arith}
use Rattle.std.specs.Option.{option_to_list}
use Rattle.nest_memory.specs.TypeTree.{FieldTree}
use Rattle.type_text.specs.declared.error.SyntaxError.{SyntaxError}
use Rattle.type_text.specs.declared.error.SyntaxError.TheVariants.{TooDeep, Unexpected}
use Rattle.type_text.specs.declared.error.PartError.{PartError}
use Rattle.type_text.specs.declared.error.PartError.TheVariants as part_errors
use Rattle.std.proofs.lemmas.List.{drop_all}
use Rattle.type_text.specs.Keywords.{keyword_text}
use Rattle.type_text.specs.declared.keyword.Keyword.{Keyword}
use Rattle.type_text.specs.TypeParser.{◌>>=◌, FailsWith, FieldsAndIds, TypeReader, after_prefix, expected, read_some_fields, first_keyword, prepend_field, read_after_keyword, read_field, read_keyword, read_type_id, read_type}

-- the fields so far, and what is parsed of the rest
abbrev pub with_front : FieldsAndIds → Result (FieldsAndIds × List ℕ) SyntaxError → Result (FieldsAndIds × List ℕ) SyntaxError
with_front front read = read >>= λ x. Ok ((front.0 ++ x.0.0, front.1 ++ x.0.1), x.1)

regroup : (fs : List FieldTree) (is : List ℤ) (f : FieldTree) (id : Option ℤ) (read : Result (FieldsAndIds × List ℕ) SyntaxError)
    → with_front (fs, is) (read >>= λ more. prepend_field f id more) ≡ with_front (fs ++ f ∷ [], is ++ option_to_list id) read
regroup fs is f id (Err e) = refl
regroup fs is f id (Ok x) =
    ap (λ gs. Ok ((gs, is ++ (option_to_list id ++ x.0.1)), x.1)) (sym (append_assoc fs (f ∷ []) x.0.0))
    ∙ ap (λ js. Ok (((fs ++ f ∷ []) ++ x.0.0, js), x.1)) (sym (append_assoc is (option_to_list id) x.0.1))

-- a field that another follows
pub goes-on : (fs : List FieldTree) (is : List ℤ) (ids : Bool) (inner : TypeReader) (n i : ℕ) (bs b1 b2 next : List ℕ) (f : FieldTree) (id : Option ℤ) (total : Result (FieldsAndIds × List ℕ) SyntaxError)
    → i < n → read_field inner bs ≡ Ok (f, b1) → read_type_id ids b1 ≡ Ok (id, b2) → after_prefix (codes ", ") b2 ≡ Some next
    → with_front (fs, is) (read_some_fields ids inner (n - i) bs) ≡ total → with_front (fs ++ f ∷ [], is ++ option_to_list id) (read_some_fields ids inner (n - (i + 1)) next) ≡ total
unfolding read_some_fields
goes-on fs is ids inner n i bs b1 b2 next f id total lt hf hi ha so_far =
    let k : n - i ≡ suc (n - (i + 1)) = omega arith in
    let one : with_front (fs, is) (read_some_fields ids inner (n - i) bs) ≡ with_front (fs ++ f ∷ [], is ++ option_to_list id) (read_some_fields ids inner (n - (i + 1)) next)
    = rw (k, hf, hi, ha) (regroup fs is f id (read_some_fields ids inner (n - (i + 1)) next)) in
    sym one ∙ so_far

-- the last field and the closing bracket
pub ends-here : (fs : List FieldTree) (is : List ℤ) (ids : Bool) (inner : TypeReader) (n i : ℕ) (bs b1 b2 rest : List ℕ) (f : FieldTree) (id : Option ℤ) (total : Result (FieldsAndIds × List ℕ) SyntaxError)
    → i < n → read_field inner bs ≡ Ok (f, b1) → read_type_id ids b1 ≡ Ok (id, b2) → after_prefix (codes ", ") b2 ≡ None → expected (codes ">") b2 ≡ Ok rest
    → with_front (fs, is) (read_some_fields ids inner (n - i) bs) ≡ total → total ≡ Ok ((fs ++ f ∷ [], is ++ option_to_list id), rest)
unfolding read_some_fields
ends-here fs is ids inner n i bs b1 b2 rest f id total lt hf hi ha he so_far =
    let k : n - i ≡ suc (n - (i + 1)) = omega arith in
    let one : with_front (fs, is) (read_some_fields ids inner (n - i) bs) ≡ Ok ((fs ++ f ∷ [], is ++ option_to_list id), rest) = rw (k, hf, hi, ha, he) refl in
    sym so_far ∙ one

-- no field
pub part_errors-at-field : (fs : List FieldTree) (is : List ℤ) (ids : Bool) (inner : TypeReader) (n i : ℕ) (bs : List ℕ) (e : PartError) (total : Result (FieldsAndIds × List ℕ) SyntaxError)
    → i < n → FailsWith e (read_field inner bs) → with_front (fs, is) (read_some_fields ids inner (n - i) bs) ≡ total → FailsWith e total
unfolding read_some_fields
part_errors-at-field fs is ids inner n i bs part_errors.Memory total lt h so_far = tt
part_errors-at-field fs is ids inner n i bs (part_errors.Syntax e) total lt h so_far =
    let k : n - i ≡ suc (n - (i + 1)) = omega arith in
    let one : with_front (fs, is) (read_some_fields ids inner (n - i) bs) ≡ Err e = rw (k, h) refl in
    sym so_far ∙ one

-- no type id
pub part_errors-at-id : (fs : List FieldTree) (is : List ℤ) (ids : Bool) (inner : TypeReader) (n i : ℕ) (bs b1 : List ℕ) (f : FieldTree) (e : PartError) (total : Result (FieldsAndIds × List ℕ) SyntaxError)
    → i < n → read_field inner bs ≡ Ok (f, b1) → FailsWith e (read_type_id ids b1) → with_front (fs, is) (read_some_fields ids inner (n - i) bs) ≡ total → FailsWith e total
unfolding read_some_fields
part_errors-at-id fs is ids inner n i bs b1 f part_errors.Memory total lt hf h so_far = tt
part_errors-at-id fs is ids inner n i bs b1 f (part_errors.Syntax e) total lt hf h so_far =
    let k : n - i ≡ suc (n - (i + 1)) = omega arith in
    let one : with_front (fs, is) (read_some_fields ids inner (n - i) bs) ≡ Err e = rw (k, hf, h) refl in
    sym so_far ∙ one

-- no closing bracket
pub part_errors-at-end : (fs : List FieldTree) (is : List ℤ) (ids : Bool) (inner : TypeReader) (n i : ℕ) (bs b1 b2 : List ℕ) (f : FieldTree) (id : Option ℤ) (e : PartError) (total : Result (FieldsAndIds × List ℕ) SyntaxError)
    → i < n → read_field inner bs ≡ Ok (f, b1) → read_type_id ids b1 ≡ Ok (id, b2) → after_prefix (codes ", ") b2 ≡ None → FailsWith e (expected (codes ">") b2)
    → with_front (fs, is) (read_some_fields ids inner (n - i) bs) ≡ total → FailsWith e total
unfolding read_some_fields
part_errors-at-end fs is ids inner n i bs b1 b2 f id part_errors.Memory total lt hf hi ha h so_far = tt
part_errors-at-end fs is ids inner n i bs b1 b2 f id (part_errors.Syntax e) total lt hf hi ha h so_far =
    let k : n - i ≡ suc (n - (i + 1)) = omega arith in
    let one : with_front (fs, is) (read_some_fields ids inner (n - i) bs) ≡ Err e = rw (k, hf, hi, ha, h) refl in
    sym so_far ∙ one

-- more fields than bytes
pub too-many : (fs : List FieldTree) (is : List ℤ) (ids : Bool) (inner : TypeReader) (n i : ℕ) (bs : List ℕ) (total : Result (FieldsAndIds × List ℕ) SyntaxError)
    → n ≤ i → with_front (fs, is) (read_some_fields ids inner (n - i) bs) ≡ total → total ≡ Err (Unexpected (length bs))
unfolding read_some_fields
too-many fs is ids inner n i bs total le so_far =
    let k : n - i ≡ 0 = omega arith in
    let one : with_front (fs, is) (read_some_fields ids inner (n - i) bs) ≡ Err (Unexpected (length bs)) = rw k refl in
    sym so_far ∙ one

-- ---- levels

pub no-level : (levels : ℕ) (bs : List ℕ) → levels ≡ 0 → read_type levels bs ≡ Err (TooDeep (length bs))
unfolding read_type
no-level levels bs e = rw e refl

pub one-level : (levels : ℕ) (bs : List ℕ) (h : Keyword) (body : List ℕ) → 0 < levels → read_keyword bs ≡ Ok (h, body) → read_type levels bs ≡ read_after_keyword (read_type (levels - 1)) h body
unfolding read_type
one-level levels bs h body some e =
    let k : levels ≡ suc (levels - 1) = omega arith in
    ap (λ n. read_type n bs) k ∙ ap (λ r. r >>= λ keyword. read_after_keyword (read_type (levels - 1)) keyword.0 keyword.1) e

pub no-keyword : (levels : ℕ) (bs : List ℕ) (e : PartError) → 0 < levels → FailsWith e (read_keyword bs) → FailsWith e (read_type levels bs)
unfolding read_type
no-keyword levels bs part_errors.Memory some h = tt
no-keyword levels bs (part_errors.Syntax f) some h =
    let k : levels ≡ suc (levels - 1) = omega arith in
    ap (λ n. read_type n bs) k ∙ ap (λ r. r >>= λ keyword. read_after_keyword (read_type (levels - 1)) keyword.0 keyword.1) h

-- ---- keywords, one after the other

drop-keyword : (hs : List Keyword) (i : ℕ) (h : Keyword) → i < length hs → drop i hs ≡ get_or hs i h ∷ drop (i + 1) hs
drop-keyword [] i h lt = absurd (omega arith)
drop-keyword (g ∷ hs) zero h lt = refl
drop-keyword (g ∷ hs) (suc i) h lt =
    let z : suc (i + 1) ≡ suc i + 1 = omega arith in
    drop-keyword hs i h (omega arith) ∙ ap (λ n. get_or hs i h ∷ drop n (g ∷ hs)) z

pub other-keyword : (bs : List ℕ) (hs : List Keyword) (i : ℕ) (d : Keyword) (total : Result (Keyword × List ℕ) SyntaxError) → i < length hs → after_prefix (keyword_text (get_or hs i d)) bs ≡ None
    → first_keyword bs (drop i hs) ≡ total → first_keyword bs (drop (i + 1) hs) ≡ total
other-keyword bs hs i d total lt none so_far =
    let one : first_keyword bs (drop i hs) ≡ first_keyword bs (drop (i + 1) hs) = ap (first_keyword bs) (drop-keyword hs i d lt) ∙ rw none refl in
    sym one ∙ so_far

pub found-keyword : (bs : List ℕ) (hs : List Keyword) (i : ℕ) (d : Keyword) (rest : List ℕ) (total : Result (Keyword × List ℕ) SyntaxError) → i < length hs → after_prefix (keyword_text (get_or hs i d)) bs ≡ Some rest
    → first_keyword bs (drop i hs) ≡ total → total ≡ Ok (get_or hs i d, rest)
found-keyword bs hs i d rest total lt some so_far =
    let one : first_keyword bs (drop i hs) ≡ Ok (get_or hs i d, rest) = ap (first_keyword bs) (drop-keyword hs i d lt) ∙ rw some refl in
    sym so_far ∙ one

pub nothing-found : (bs : List ℕ) (hs : List Keyword) (i : ℕ) (total : Result (Keyword × List ℕ) SyntaxError) → length hs ≤ i → first_keyword bs (drop i hs) ≡ total → total ≡ Err (Unexpected (length bs))
nothing-found bs hs i total le so_far = sym so_far ∙ ap (first_keyword bs) (drop_all i hs le)
