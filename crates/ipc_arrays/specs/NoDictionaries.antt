-- Columns without dictionary-encoded arrays, which need no dictionary batches.
use Rattle.std.specs.Prelude.{◌≡◌, ℕ, ◌+◌, ◌-◌, ◌*◌, Bool, true, false, ◌&&◌, List, [], ◌∷◌, None, Some, refl}
use Rattle.std.specs.List.{list_all}
use Rattle.std.proofs.Common.{sym, ◌∙◌}
use Rattle.nest_memory.specs.TypeTree.{size_of}
use Rattle.nest_model.specs.Layout.{Layout, Layouts, fixed_size_list, list as list_of, map as map_of, struct, union, dictionary, no_layouts, more_layouts}
use Rattle.nest_model.specs.Meaning.{len}
use Rattle.nest_model.specs.Part.{begin}
use Rattle.ipc_arrays.specs.NormalizedLaws.{pass_append}
use Rattle.ipc_arrays.specs.Encoding.{normalized_slice, normalized, normalized_each, normalized_all, sparse_begin, preorder, preorder_all, dictionaries_of, written_arrays}

-- whether an array is not dictionary-encoded
abbrev pub is_not_dictionary : Layout → Bool
is_not_dictionary (dictionary t ks c) = false
is_not_dictionary a = true

-- whether neither an array nor its descendants are dictionary-encoded
abbrev pub is_dictionary_free : Layout → Bool
is_dictionary_free a = list_all is_not_dictionary (preorder a)

abbrev pub are_dictionary_free : List Layout → Bool
are_dictionary_free columns = list_all is_dictionary_free columns

-- ---- no dictionary values are needed

mutual
  normalized_dictionary_free : (a : Layout) (o n : ℕ) → is_dictionary_free (normalized_slice a o n) ≡ is_dictionary_free a
  normalized_dictionary_free (fixed_size_list t c va) o n = normalized_dictionary_free c (o * size_of t) (n * size_of t)
  normalized_dictionary_free (list_of large t os c va) o n = normalized_dictionary_free c (begin os o) (begin os (o + n) - begin os o)
  normalized_dictionary_free (map_of t os c va) o n = normalized_dictionary_free c (begin os o) (begin os (o + n) - begin os o)
  normalized_dictionary_free (struct t cs va) o n = each_dictionary_free cs o n
  normalized_dictionary_free (union t ks cs None start) o n = each_dictionary_free cs (sparse_begin start o n) n
  normalized_dictionary_free (union t ks cs (Some os) start) o n = all_dictionary_free cs
  normalized_dictionary_free a o n = refl

  each_dictionary_free : (cs : Layouts) (o n : ℕ) → list_all is_not_dictionary (preorder_all (normalized_each cs o n)) ≡ list_all is_not_dictionary (preorder_all cs)
  each_dictionary_free no_layouts o n = refl
  each_dictionary_free (more_layouts c cs) o n =
      pass_append is_not_dictionary (preorder (normalized_slice c o n)) (preorder_all (normalized_each cs o n))
      ∙ (λ w. normalized_dictionary_free c o n w && each_dictionary_free cs o n w)
      ∙ sym (pass_append is_not_dictionary (preorder c) (preorder_all cs))

  all_dictionary_free : (cs : Layouts) → list_all is_not_dictionary (preorder_all (normalized_all cs)) ≡ list_all is_not_dictionary (preorder_all cs)
  all_dictionary_free no_layouts = refl
  all_dictionary_free (more_layouts c cs) =
      pass_append is_not_dictionary (preorder (normalized_slice c 0 (len c))) (preorder_all (normalized_all cs))
      ∙ (λ w. normalized_dictionary_free c 0 (len c) w && all_dictionary_free cs w)
      ∙ sym (pass_append is_not_dictionary (preorder c) (preorder_all cs))

written_dictionary_free : (columns : List Layout) → list_all is_not_dictionary (written_arrays columns) ≡ are_dictionary_free columns
unfolding written_arrays
written_dictionary_free [] = refl
written_dictionary_free (a ∷ columns) =
    pass_append is_not_dictionary (preorder (normalized a)) (written_arrays columns)
    ∙ (λ w. normalized_dictionary_free a 0 (len a) w && written_dictionary_free columns w)

no_keys_named : (arrays : List Layout) → list_all is_not_dictionary arrays ≡ true → dictionaries_of arrays ≡ []
no_keys_named [] h = refl
no_keys_named (dictionary t ks c ∷ arrays) h = cc
no_keys_named (a ∷ arrays) h = no_keys_named arrays h

-- so none are looked up when they are read
pub none_named : (columns : List Layout) → are_dictionary_free columns ≡ true → dictionaries_of (written_arrays columns) ≡ []
none_named columns h = no_keys_named (written_arrays columns) (written_dictionary_free columns ∙ h)
