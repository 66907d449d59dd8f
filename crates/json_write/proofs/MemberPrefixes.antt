-- The prefixes of the members of an object, one more at a time.
use Rattle.std.specs.Prelude.{◌⊎◌, List as Seq, string_bytes}
use Rattle.std.proofs.Common.{String, Global, take, get_or, ◌<◌, ◌≡◌, ℕ, zero, suc, ◌+◌, ◌≤◌, Bool, true, false, List, [], ◌∷◌, ◌++◌, length, map, refl, sym, ap, ◌∙◌, subst, inl, inr, arith, append_assoc, append-nil}
use Rattle.std.proofs.lemmas.List.{take_more, length-take-le, map-append}
use Rattle.nest_memory.specs.TypeOf.{field_of, field_list_of}
use Rattle.nest_memory.specs.TypeTree.{FieldTrees, no_fields, more_fields}
use Rattle.nest_memory.specs.declared.datatypes.field.Field.{Field}
use Rattle.nest_model.specs.Fits.{EachCovers, EachType}
use Rattle.nest_model.specs.Layout.{Layout, Layouts, no_layouts, more_layouts}
use Rattle.nest_model.specs.Meaning.{each, len, slot}
use Rattle.json.specs.Print.{quoted}
use Rattle.json_write.specs.JsonText.{comma, field_name, prefix_of, prefixes_of, json_members, json_of_slot, slot_json}
use Rattle.nest_array.specs.Seen.{layout_of, layouts_of}
use Rattle.nest_array.specs.declared.any.AnyArray.{AnyArray}

-- whether a member follows another
abbrev pub comes_after : Bool → ℕ → Bool
comes_after after zero = after
comes_after after (suc k) = true

comes-after-true : (k : ℕ) → comes_after true k ≡ true
comes-after-true zero = refl
comes-after-true (suc k) = refl

pub comes-next : (k : ℕ) → true ≡ comes_after false (k + 1)
comes-next k = let e : suc k ≡ k + 1 = omega arith in ap (comes_after false) e

pub heads-more : (fs : Seq Field) (f : Field) (after : Bool)
    → prefixes_of (field_list_of (fs ++ f ∷ [])) after ≡ prefixes_of (field_list_of fs) after ++ prefix_of (comes_after after (length fs)) (field_name (field_of f)) ∷ []
heads-more [] f after = refl
heads-more (g ∷ gs) f after =
    ap (λ hs. prefix_of after (field_name (field_of g)) ∷ hs)
    (heads-more gs f true ∙ ap (λ b. prefixes_of (field_list_of gs) true ++ prefix_of b (field_name (field_of f)) ∷ []) (comes-after-true (length gs)))

pub heads-next : (fs : Seq Field) (k : ℕ) (f : Field) (hs : Seq (String Global)) (h : String Global) (after : Bool) → k < length fs → f ≡ get_or fs k f
    → map string_bytes hs ≡ prefixes_of (field_list_of (take k fs)) false → after ≡ comes_after false k → string_bytes h ≡ prefix_of after (field_name (field_of f))
    → map string_bytes (hs ++ h ∷ []) ≡ prefixes_of (field_list_of (take (k + 1) fs)) false
heads-next fs k f hs h after lt is e a w =
    let at : length (take k fs) ≡ k = length-take-le k fs (omega (arith, lt)) in
    map-append string_bytes hs (h ∷ [])
    ∙ ap (λ b. map string_bytes hs ++ b ∷ []) (w ∙ ap (λ b. prefix_of b (field_name (field_of f))) (a ∙ sym (ap (comes_after false) at)))
    ∙ ap (λ bs. bs ++ prefix_of (comes_after false (length (take k fs))) (field_name (field_of f)) ∷ []) e
    ∙ sym (heads-more (take k fs) f false)
    ∙ ap (λ gs. prefixes_of (field_list_of gs) false) (ap (λ g. take k fs ++ g ∷ []) is ∙ sym (take_more fs k f lt))

-- ---- written

-- the text so far, and the prefixes and values of the remaining members, are the whole text
pub record IsBehind (hs : List (List ℕ)) (cs : Layouts) (i : ℕ) (done whole : List ℕ) : Type 0 where
  pub fields : FieldTrees
  pub after : Bool
  pub typed : EachType fields cs
  pub heads : hs ≡ prefixes_of fields after
  pub text : done ++ json_members fields after (each cs i) ≡ whole

step : (d h x r : List ℕ) → ((d ++ h) ++ x) ++ r ≡ d ++ (h ++ (x ++ r))
step d h x r = append_assoc (d ++ h) x r ∙ append_assoc d h (x ++ r)

head-step : (s q x r : List ℕ) → (s ++ (q ++ 58 ∷ [])) ++ (x ++ r) ≡ s ++ (q ++ 58 ∷ (x ++ r))
head-step s q x r = append_assoc s (q ++ 58 ∷ []) (x ++ r) ∙ ap (λ y. s ++ y) (append_assoc q (58 ∷ []) (x ++ r))

pub behind-start : (fs : FieldTrees) (hs : List (List ℕ)) (cs : Layouts) (i : ℕ) → EachType fs cs → hs ≡ prefixes_of fs false → IsBehind hs cs i [] (json_members fs false (each cs i))
behind-start fs hs cs i t e = record { fields = fs; after = false; typed = t; heads = e; text = refl }

first-head : (h k : List ℕ) (hs ks : List (List ℕ)) → h ∷ hs ≡ k ∷ ks → h ≡ k
first-head h k hs ks e = cc

rest-heads : (h k : List ℕ) (hs ks : List (List ℕ)) → h ∷ hs ≡ k ∷ ks → hs ≡ ks
rest-heads h k hs ks e = cc

behind-step : (fs : FieldTrees) (after : Bool) (x : Layout) (h : List ℕ) (hs : List (List ℕ)) (cs : Layouts) (i : ℕ) (done whole : List ℕ)
    → EachType fs (more_layouts x cs) → h ∷ hs ≡ prefixes_of fs after → done ++ json_members fs after (each (more_layouts x cs) i) ≡ whole
    → IsBehind hs cs i ((done ++ h) ++ slot_json x i) whole
behind-step no_fields after x h hs cs i done whole t e w = absurd t
behind-step (more_fields f fs) after x h hs cs i done whole t e w =
    let rest = json_members fs true (each cs i) in
    record {
      fields = fs;
      after = true;
      typed = t.1;
      heads = rest-heads h _ hs _ e;
      text =
          step done h (slot_json x i) rest
          ∙ ap (λ k. done ++ (k ++ (slot_json x i ++ rest))) (first-head h _ hs _ e)
          ∙ ap (λ y. done ++ y) (head-step (comma after) (quoted (field_name f)) (slot_json x i) rest)
          ∙ ap (λ u. done ++ (comma after ++ (quoted (field_name f) ++ 58 ∷ (json_of_slot u (slot x i) ++ rest)))) t.0
          ∙ w;
    }

pub behind-more : (x : AnyArray) (h : String Global) (gs hs : Seq (String Global)) (ds cs : Seq AnyArray) (i : ℕ) (done whole : List ℕ) → gs ≡ h ∷ hs → ds ≡ x ∷ cs
    → IsBehind (map string_bytes gs) (layouts_of ds) i done whole → IsBehind (map string_bytes hs) (layouts_of cs) i ((done ++ string_bytes h) ++ slot_json (layout_of x) i) whole
behind-more x h gs hs ds cs i done whole e d b =
    let c : IsBehind (map string_bytes (h ∷ hs)) (layouts_of (x ∷ cs)) i done whole = subst (λ ys. IsBehind (map string_bytes (h ∷ hs)) (layouts_of ys) i done whole) d (subst (λ ks. IsBehind (map string_bytes ks) (layouts_of ds) i done whole) e b) in
    behind-step c.fields c.after (layout_of x) (string_bytes h) (map string_bytes hs) (layouts_of cs) i done whole c.typed c.heads c.text

none-left : (fs : FieldTrees) (after : Bool) (cs : Layouts) (i : ℕ) (done whole : List ℕ) → EachType fs cs → [] ≡ prefixes_of fs after → done ++ json_members fs after (each cs i) ≡ whole → done ≡ whole
none-left no_fields after no_layouts i done whole t e w = sym (append-nil done) ∙ w
none-left no_fields after (more_layouts c cs) i done whole t e w = absurd t
none-left (more_fields f fs) after cs i done whole t e w = cc

pub behind-end : (hs : Seq (String Global)) (cs : Seq AnyArray) (i : ℕ) (done whole : List ℕ) → (length hs ≡ 0) ⊎ (length cs ≡ 0) → IsBehind (map string_bytes hs) (layouts_of cs) i done whole → done ≡ whole
behind-end [] cs i done whole h b = none-left b.fields b.after (layouts_of cs) i done whole b.typed b.heads b.text
behind-end (h ∷ hs) [] i done whole e b = sym (append-nil done) ∙ b.text
behind-end (h ∷ hs) (c ∷ cs) i done whole (inl e) b = absurd (omega arith)
behind-end (h ∷ hs) (c ∷ cs) i done whole (inr e) b = absurd (omega arith)

pub rest-covers : (x : AnyArray) (ds cs : Seq AnyArray) (n : ℕ) → ds ≡ x ∷ cs → EachCovers (layouts_of ds) n → (n ≤ len (layout_of x)) × EachCovers (layouts_of cs) n
rest-covers x ds cs n e h = subst (λ ys. EachCovers (layouts_of ys) n) e h
