use Rattle.std.proofs.Common.{◌≡◌, ap, arith, rules}
use Rattle.nest_array.specs.Seen.{layout_of}
use Rattle.nest_array.specs.SeenKeys.{keys_layout}
use Rattle.nest_memory.specs.TypeOf.{type_of}
use Rattle.nest_model.specs.BuilderLevels.{own_slots}
use Rattle.nest_model.specs.BuilderRow.{values_needed}
use Rattle.nest_model.specs.BuilderTree.{builder_type}
use Rattle.nest_model.specs.Layout.{layout_type}
use Rattle.nest_model.specs.Meaning.{slots_of}
use Rattle.nest_build.proofs.Dictionaries.{emptied_len, frozen_fits, frozen_slots, if_both}
use Rattle.nest_build.proofs.dictionary.mutable.MutableDictionaryArray.freeze.Goals as goal

pub invariant_of-self : goal.invariant_of-self
invariant_of-self g c =
    let old = c.args.self.now in
    let none = ap values_needed c.freeze-keys.ensures.emptied in
    let n = emptied_len (g.M.MutableArray.model old.values.values) (g.M.MutableArray.model c.freeze.new.self.values) c.freeze.ensures.emptied in
    record {
      covered = omega (arith, none);
      fits = omega (arith, n);
    }

pub over-requires-clause-fits : goal.over-requires-clause-fits
over-requires-clause-fits g c =
    let old = c.args.self.now in
    let child = g.M.MutableArray.model old.values.values in
    let same_type : type_of c.in-Ok.data_type ≡ old.data_type = search rules in
    let slots : slots_of (layout_of c.in-Ok.values) ≡ own_slots child = search rules in
    let child_type : layout_type (layout_of c.in-Ok.values) ≡ builder_type child = search rules in
    let complete = c.is_complete.ensures.0 c.if-not-is_complete.false in
    if_both c.freeze-keys.result
    (λ ks. frozen_fits g.K.DictionaryKey.KEY_TYPE (type_of c.in-Ok.data_type) old.data_type old.rows child (keys_layout ks) (layout_of c.in-Ok.values) same_type c.get.ensures.dictionary c.get.ensures.keys complete slots child_type)
    c.freeze-keys.ensures.key_type c.freeze-keys.ensures.in_range

pub returns-in-Ok-clause-slots : goal.returns-in-Ok-clause-slots
returns-in-Ok-clause-slots g c =
    let old = c.args.self.now in
    let child = g.M.MutableArray.model old.values.values in
    let same_type : type_of c.in-Ok.data_type ≡ old.data_type = search rules in
    let slots : slots_of (layout_of c.in-Ok.values) ≡ own_slots child = search rules in
    let complete = c.is_complete.ensures.0 c.if-not-is_complete.false in
    frozen_slots keys_layout c.over.result c.freeze-keys.result g.K.DictionaryKey.KEY_TYPE (type_of c.in-Ok.data_type) old.data_type old.rows child (layout_of c.in-Ok.values) same_type complete slots c.freeze-keys.ensures.ok c.over.ensures.made c.over.ensures.ok
