-- The numbers of data types, builders and fields are equal.
use Rattle.std.specs.Prelude.{List as Seq, [], ◌∷◌}
use Rattle.std.proofs.Common.{◌≡◌, suc, ◌<◌, length, refl, ap, arith}
use Rattle.nest_memory.specs.TypeTree.{FieldTrees, no_fields, more_fields, count_fields}
use Rattle.nest_memory.specs.TypeOf.{field_list_of}
use Rattle.nest_memory.specs.declared.datatypes.field.Field.{Field}
use Rattle.nest_model.specs.BuilderTree.{BuilderTree, BuilderTrees, no_builders, more_builders, builder_types}
use Rattle.nest_model.specs.Layout.{field_types}
use Rattle.nest_any.specs.Each.{each}
use Rattle.nest_any.specs.Refusals.{count_builders}

pub types-count : {A : Type 0} (f : A → BuilderTree) (xs : Seq A) → length (builder_types (each f xs)) ≡ length xs
types-count f [] = refl
types-count f (x ∷ xs) = ap suc (types-count f xs)

pub fields-count : (fs : Seq Field) → length (field_types (field_list_of fs)) ≡ length fs
fields-count [] = refl
fields-count (f ∷ fs) = ap suc (fields-count fs)

pub children-count : {A : Type 0} (f : A → BuilderTree) (xs : Seq A) → count_builders (each f xs) ≡ length xs
children-count f [] = refl
children-count f (x ∷ xs) = ap suc (children-count f xs)

-- a struct type with a field has a child
pub some-children : (cs : BuilderTrees) (fs : FieldTrees) → builder_types cs ≡ field_types fs → 0 < count_fields fs → 0 < count_builders cs
some-children no_builders no_fields e l = l
some-children no_builders (more_fields f fs) e l = absurd cc
some-children (more_builders c cs) fs e l = omega arith
