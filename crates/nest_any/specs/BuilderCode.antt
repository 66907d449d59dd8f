-- An injective encoding of builder trees as ghost values, and the depth of a builder.
use Rattle.std.specs.Prelude.{◌≡◌, ℕ, ◌+◌, Bool, List, Option}
use Rattle.std.specs.Coded.{Coded, code_by, coded_ℕ, coded_bool, coded_list, coded×, coded_option}
use Rattle.std.proofs.Common.{refl, ap}
use base.Stored.{Gv, gnil, gnum, gcons}
use Rattle.nest_memory.specs.TypeTree.{TypeTree}
use Rattle.nest_memory.specs.TypeCode.{coded_type, head, tail, tag}
use Rattle.nest_memory.specs.declared.datatypes.IntegerType.{IntegerType}
use Rattle.nest_memory.specs.contracts.datatypes.IntegerType.{the_row as integer_row}
use Rattle.nest_model.specs.Decide.{apart}
use Rattle.nest_model.specs.Slot.{Slot}
use Rattle.nest_model.specs.SlotCode.{coded_slot}
use Rattle.nest_model.specs.BuilderRow.{Row}
use Rattle.nest_model.specs.BuilderTree.{BuilderTree, BuilderTrees, flat, list, fixed_size_list, dictionary, struct, no_builders, more_builders}

abbrev coded_row : Coded Row
coded_row = code_by (Bool × ℕ) (coded× coded_bool coded_ℕ) (λ r. (r.valid, r.end)) (λ p. record { valid = p.0; end = p.1 }) (λ _. refl)

abbrev coded_integer : Coded IntegerType
coded_integer = integer_row.coded

-- the parts of each kind that are not builders
abbrev flat_part : Coded (TypeTree × List Slot)
flat_part = coded× coded_type (coded_list coded_slot)

abbrev list_part : Coded (Bool × (TypeTree × List Row))
list_part = coded× coded_bool (coded× coded_type (coded_list coded_row))

abbrev bits_part : Coded (TypeTree × List Bool)
bits_part = coded× coded_type (coded_list coded_bool)

abbrev keys_part : Coded (IntegerType × (TypeTree × List (Option ℕ)))
keys_part = coded× coded_integer (coded× coded_type (coded_list (coded_option coded_ℕ)))

abbrev mutual
  pub code_builder : BuilderTree → Gv
  code_builder (flat t xs) = gcons (gnum 0) (flat_part.code (t, xs))
  code_builder (list large t rows c) = gcons (gnum 1) (gcons (list_part.code (large, (t, rows))) (code_builder c))
  code_builder (fixed_size_list t bits c) = gcons (gnum 2) (gcons (bits_part.code (t, bits)) (code_builder c))
  code_builder (dictionary i t keys c) = gcons (gnum 3) (gcons (keys_part.code (i, (t, keys))) (code_builder c))
  code_builder (struct t bits cs) = gcons (gnum 4) (gcons (bits_part.code (t, bits)) (code_builders cs))

  pub code_builders : BuilderTrees → Gv
  code_builders no_builders = gnil
  code_builders (more_builders c cs) = gcons (code_builder c) (code_builders cs)

mutual
  pub builder_one : (x y : BuilderTree) → code_builder x ≡ code_builder y → x ≡ y
  builder_one (flat t xs) (flat u ys) h = let p = flat_part.inj (t, xs) (u, ys) (ap tail h) in λ i. flat (p i).0 (p i).1
  builder_one (list large t rows c) (list wide u more d) h =
      let p = list_part.inj (large, (t, rows)) (wide, (u, more)) (ap (λ v. head (tail v)) h) in
      let q = builder_one c d (ap (λ v. tail (tail v)) h) in
      λ i. list (p i).0 (p i).1.0 (p i).1.1 (q i)
  builder_one (fixed_size_list t bits c) (fixed_size_list u more d) h =
      let p = bits_part.inj (t, bits) (u, more) (ap (λ v. head (tail v)) h) in
      let q = builder_one c d (ap (λ v. tail (tail v)) h) in
      λ i. fixed_size_list (p i).0 (p i).1 (q i)
  builder_one (dictionary k t keys c) (dictionary l u more d) h =
      let p = keys_part.inj (k, (t, keys)) (l, (u, more)) (ap (λ v. head (tail v)) h) in
      let q = builder_one c d (ap (λ v. tail (tail v)) h) in
      λ i. dictionary (p i).0 (p i).1.0 (p i).1.1 (q i)
  builder_one (struct t bits cs) (struct u more ds) h =
      let p = bits_part.inj (t, bits) (u, more) (ap (λ v. head (tail v)) h) in
      let q = builders_one cs ds (ap (λ v. tail (tail v)) h) in
      λ i. struct (p i).0 (p i).1 (q i)
  builder_one x y h = absurd (apart (tag (code_builder x)) (tag (code_builder y)) refl (ap tag h))

  pub builders_one : (x y : BuilderTrees) → code_builders x ≡ code_builders y → x ≡ y
  builders_one no_builders no_builders h = refl
  builders_one no_builders (more_builders d ds) h = cc
  builders_one (more_builders c cs) no_builders h = cc
  builders_one (more_builders c cs) (more_builders d ds) h =
      let p = builder_one c d (ap head h) in
      let q = builders_one cs ds (ap tail h) in
      λ i. more_builders (p i) (q i)

abbrev pub coded_builder : Coded BuilderTree
coded_builder = record { code = code_builder; inj = builder_one }

-- a bound of the depth of a builder
abbrev mutual
  pub weight : BuilderTree → ℕ
  weight (flat t xs) = 0
  weight (list large t rows c) = weight c + 1
  weight (fixed_size_list t bits c) = weight c + 1
  weight (dictionary i t keys c) = weight c + 1
  weight (struct t bits cs) = weight_all cs + 1

  pub weight_all : BuilderTrees → ℕ
  weight_all no_builders = 0
  weight_all (more_builders c cs) = weight c + weight_all cs + 1
