-- The values that a builder accepts: no call changes their kind, and no builder accepts two kinds.
use Rattle.std.specs.Prelude.{Option, Some, None}
use Rattle.std.proofs.Common.{◌≡◌, ℕ, ℤ, true, List, refl, sym, ◌∙◌}
use Rattle.std.proofs.lemmas.Bool.Decides.{Decides-eqb}
use Rattle.nest_memory.specs.TypeTree.{TypeTree}
use Rattle.nest_memory.specs.Physical.{physical_type}
use Rattle.nest_memory.specs.declared.datatypes.IntegerType.{IntegerType}
use Rattle.nest_memory.specs.declared.datatypes.physical_type.PhysicalType.{PhysicalType}
use Rattle.nest_memory.specs.declared.datatypes.physical_type.PhysicalType.TheVariants as physical
use Rattle.nest_memory.specs.declared.datatypes.physical_type.PrimitiveType.{PrimitiveType}
use Rattle.nest_model.specs.BuilderTree.{BuilderTree, flat, list, fixed_size_list, dictionary, struct}
use Rattle.nest_model.specs.BuilderLevels.{own_slots}
use Rattle.nest_model.specs.BuilderComplete.{truncate_builder, emptied}
use Rattle.nest_model.specs.BuilderItem as items
use Rattle.nest_model.specs.BuilderItem.{PlainValue, native, Item, native_number, holds_kind, takes, position_of}
use Rattle.nest_model.specs.BuilderAppend.{nulls_appended, keyed, value_appended, appended}

takes-nulls : (n : ℕ) (t : BuilderTree) (v : PlainValue) → takes (nulls_appended n t) v ≡ takes t v
takes-nulls n (flat k xs) v = refl
takes-nulls n (list large k rows c) v = refl
takes-nulls n (fixed_size_list k bits c) v = refl
takes-nulls n (dictionary i k keys c) v = refl
takes-nulls n (struct k bits cs) v = refl

takes-keyed : (i : IntegerType) (k : TypeTree) (keys : List (Option ℕ)) (c d : BuilderTree) (o : Option ℕ) (v : PlainValue) → takes d v ≡ takes c v → takes (keyed i k keys c d o) v ≡ takes c v
takes-keyed i k keys c d None v h = h
takes-keyed i k keys c d (Some j) v h = refl

takes-value : (u : PlainValue) (t : BuilderTree) (v : PlainValue) → takes (value_appended u t) v ≡ takes t v
takes-value u (flat k xs) v = refl
takes-value u (list large k rows c) v = refl
takes-value u (fixed_size_list k bits c) v = refl
takes-value u (dictionary i k keys c) v = takes-keyed i k keys c (value_appended u c) (position_of u (own_slots c)) v (takes-value u c v)
takes-value u (struct k bits cs) v = refl

pub takes-appended : (x : Item) (t : BuilderTree) (v : PlainValue) → takes (appended x t) v ≡ takes t v
takes-appended items.null t v = takes-nulls 1 t v
takes-appended (items.plain u) t v = takes-value u t v
takes-appended (items.list_of xs) (flat k ss) v = refl
takes-appended (items.list_of xs) (list large k rows c) v = refl
takes-appended (items.list_of xs) (fixed_size_list k bits c) v = refl
takes-appended (items.list_of xs) (dictionary i k keys c) v = refl
takes-appended (items.list_of xs) (struct k bits cs) v = refl

pub takes-cut : (t : BuilderTree) (n : ℕ) (v : PlainValue) → takes (truncate_builder t n) v ≡ takes t v
takes-cut (flat k xs) n v = refl
takes-cut (list large k rows c) n v = refl
takes-cut (fixed_size_list k bits c) n v = refl
takes-cut (dictionary i k keys c) n v = takes-cut c _ v
takes-cut (struct k bits cs) n v = refl

pub takes-emptied : (t : BuilderTree) (v : PlainValue) → takes (emptied t) v ≡ takes t v
takes-emptied (flat k xs) v = refl
takes-emptied (list large k rows c) v = refl
takes-emptied (fixed_size_list k bits c) v = refl
takes-emptied (dictionary i k keys c) v = takes-emptied c v
takes-emptied (struct k bits cs) v = refl

one_kind : (k : PhysicalType) (p q : PrimitiveType) (zs ws : List ℤ) → holds_kind k (native p zs) ≡ true → holds_kind k (native q ws) ≡ true → native_number p ≡ native_number q
one_kind (physical.Primitive r) p q zs ws a b = sym ((Decides-eqb (native_number r) (native_number p)).0 a) ∙ (Decides-eqb (native_number r) (native_number q)).0 b
one_kind physical.Null p q zs ws a b = absurd cc
one_kind physical.Boolean p q zs ws a b = absurd cc
one_kind physical.Binary p q zs ws a b = absurd cc
one_kind physical.FixedSizeBinary p q zs ws a b = absurd cc
one_kind physical.LargeBinary p q zs ws a b = absurd cc
one_kind physical.Utf8 p q zs ws a b = absurd cc
one_kind physical.LargeUtf8 p q zs ws a b = absurd cc
one_kind physical.List p q zs ws a b = absurd cc
one_kind physical.FixedSizeList p q zs ws a b = absurd cc
one_kind physical.LargeList p q zs ws a b = absurd cc
one_kind physical.Struct p q zs ws a b = absurd cc
one_kind physical.Union p q zs ws a b = absurd cc
one_kind physical.Map p q zs ws a b = absurd cc
one_kind (physical.Dictionary i) p q zs ws a b = absurd cc

pub takes-one_kind : (t : BuilderTree) (p q : PrimitiveType) (zs ws : List ℤ) → takes t (native p zs) ≡ true → takes t (native q ws) ≡ true → native_number p ≡ native_number q
takes-one_kind (flat k xs) p q zs ws a b = one_kind (physical_type k) p q zs ws a b
takes-one_kind (list large k rows c) p q zs ws a b = absurd cc
takes-one_kind (fixed_size_list k bits c) p q zs ws a b = absurd cc
takes-one_kind (dictionary i k keys c) p q zs ws a b = takes-one_kind c p q zs ws a b
takes-one_kind (struct k bits cs) p q zs ws a b = absurd cc
