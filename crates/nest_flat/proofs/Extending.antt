-- Items appended to a builder in order.
use Rattle.std.specs.Prelude.{map, Option, None}
use Rattle.std.proofs.Common.{◌≡◌, ℕ, ◌+◌, Bool, List, [], ◌∷◌, ◌++◌, length, refl, ap, sym, ◌∙◌, arith, append_assoc}
use Rattle.std.proofs.lemmas.List.{length-append, append-nil, map_push}
use Rattle.nest_model.specs.Slot.{Slot}
use Rattle.nest_model.specs.Layout.{Layout}
use Rattle.nest_model.specs.Meaning.{len, slots_of}
use Rattle.nest_model.specs.Reads.{slots-length}
use Rattle.nest_flat.specs.Growth.{pushed_all, refusal_of_all, Extended, Grew, is_masked, rolled_back}
use Rattle.nest_flat.proofs.Refusing.{refusal-next}
use Rattle.nest_memory.specs.declared.error.Error.{Error}

pub grew-len : (ss : List Slot) (a b : Layout) → Grew ss a b → len b ≡ len a + length ss
grew-len ss a b h = omega (arith, slots-length a, slots-length b, ap length h.slots, length-append (slots_of a) ss)

pub grew-none : (a : Layout) → Grew [] a a
grew-none a = record {
  slots = sym (append-nil (slots_of a));
  same_type = refl;
  masked = λ h. h;
  back = λ n m k h. refl;
}

pub grew-more : (ss rs : List Slot) (a b c : Layout) → Grew ss a b → Grew rs b c → Grew (ss ++ rs) a c
grew-more ss rs a b c h k = record {
  slots = k.slots ∙ ap (λ xs. xs ++ rs) h.slots ∙ append_assoc (slots_of a) ss rs;
  same_type = k.same_type ∙ h.same_type;
  masked = λ e. k.masked (h.masked e);
  back = λ n m l e. k.back n m (omega (arith, grew-len ss a b h)) (λ f. h.masked (e f)) ∙ h.back n m l e;
}

pushed-last : {A : Type 0} (pushed : Layout → A → Layout) (xs : List A) (x : A) (a : Layout) → pushed_all pushed a (xs ++ x ∷ []) ≡ pushed (pushed_all pushed a xs) x
pushed-last pushed [] x a = refl
pushed-last pushed (y ∷ xs) x a = pushed-last pushed xs x (pushed a y)

-- the items appended so far
pub record Consumed {A : Type 0} (pushed : Layout → A → Layout) (refusal : Layout → A → Option Error) (slot_of_item : A → Slot) (xs : List A) (old new : Layout) : Type 0 where
  pub parts : new ≡ pushed_all pushed old xs
  pub unrefused : refusal_of_all pushed refusal old xs ≡ None
  pub grew : Grew (map slot_of_item xs) old new

pub took-none : {A : Type 0} (pushed : Layout → A → Layout) (refusal : Layout → A → Option Error) (slot_of_item : A → Slot) (a : Layout) → Consumed pushed refusal slot_of_item [] a a
took-none pushed refusal slot_of_item a = record { parts = refl; unrefused = refl; grew = grew-none a }

pub took-more : {A : Type 0} (pushed : Layout → A → Layout) (refusal : Layout → A → Option Error) (slot_of_item : A → Slot) (xs : List A) (x : A) (a b c : Layout) → Consumed pushed refusal slot_of_item xs a b
    → c ≡ pushed b x → refusal b x ≡ None → Grew (slot_of_item x ∷ []) b c → Consumed pushed refusal slot_of_item (xs ++ x ∷ []) a c
took-more pushed refusal slot_of_item xs x a b c h e n g = record {
  parts = e ∙ ap (λ l. pushed l x) h.parts ∙ sym (pushed-last pushed xs x a);
  unrefused = refusal-next pushed refusal xs x a b h.unrefused h.parts ∙ n;
  grew = rw (map_push slot_of_item xs x) (grew-more (map slot_of_item xs) (slot_of_item x ∷ []) a b c h.grew g);
}

pub took-extended : {A : Type 0} (pushed : Layout → A → Layout) (refusal : Layout → A → Option Error) (slot_of_item : A → Slot) (xs : List A) (a b : Layout) → Consumed pushed refusal slot_of_item xs a b → Extended pushed refusal slot_of_item xs a b
took-extended pushed refusal slot_of_item xs a b h = record { parts = h.parts; unrefused = h.unrefused; slots = h.grew.slots }

-- all of them taken back
pub took-back : {A : Type 0} (pushed : Layout → A → Layout) (refusal : Layout → A → Option Error) (slot_of_item : A → Slot) (xs : List A) (a b c : Layout) (n : ℕ) (m : Bool) → Consumed pushed refusal slot_of_item xs a b
    → n ≡ len a → m ≡ is_masked a → rolled_back a (len a) (is_masked a) ≡ a → c ≡ rolled_back b n m → c ≡ a
took-back pushed refusal slot_of_item xs a b c n m h e f w k =
    k ∙ h.grew.back n m (omega arith) (λ g. sym f ∙ g) ∙ ap (λ i. rolled_back a i m) e ∙ ap (rolled_back a (len a)) f ∙ w
