use Rattle.std.proofs.Common.{◌∷◌, [], ◌∙◌, ap, map, subst, sym}
use Rattle.nest_memory.specs.Physical.{physical_type}
use Rattle.nest_memory.specs.TypeOf.{type_of}
use Rattle.nest_model.specs.Accessors.{key_type_of}
use Rattle.nest_model.specs.BuilderTree.{key_count}
use Rattle.nest_model.specs.Layout.{layout_type}
use Rattle.nest_array.specs.Keys.{keyed_by}
use Rattle.nest_concat.specs.Joined.{RefusesKeys, first_array}
use Rattle.nest_concat.specs.Lookups.{KeysPass}
use Rattle.nest_concat.proofs.KeyRuns.{keys-laid, keys-made, keys-unmade, one-part, primitive-keys, singles}
use Rattle.nest_concat.proofs.LaidParts.{ok-always}
use Rattle.nest_concat.proofs.keys.joined_of.Goals as goal

pub returns-clause-ok : goal.returns-clause-ok
returns-clause-ok g c =
    let k = primitive-keys g.K.NativeType.PRIMITIVE c.args.keys.now c.known.ensures.fits c.known.ensures.kind in
    keys-made c.try_new.result c.args.moved g.K.NativeType.PRIMITIVE (type_of c.in_ok-data_type.data_type) c.args.keys.now c.args.windows.now _ _ c.try_new.ensures k.1 c.in_ok-raw.ensures.ok c.in_ok-validity.ensures.ok

pub returns-clause-err : goal.returns-clause-err
returns-clause-err g c =
    let ks = c.args.keys.now in
    let ws = c.args.windows.now in
    let k = primitive-keys g.K.NativeType.PRIMITIVE ks c.known.ensures.fits c.known.ensures.kind in
    let t = type_of c.in_ok-data_type.data_type in
    let p = ap physical_type (c.in_ok-data_type.ensures.ok ∙ c.data_type.ensures) ∙ k.0 in
    keys-unmade c.try_new.result c.args.moved g.K.NativeType.PRIMITIVE t (layout_type (first_array ws)) ws _ _ (λ e. RefusesKeys c.args.moved e (key_count (keyed_by (key_type_of ks))) ws)
    c.try_new.ensures c.requires.within p c.in_ok-raw.ensures.ok c.in_ok-validity.ensures.ok

pub returns-clause-laid : goal.returns-clause-laid
returns-clause-laid g c =
    let vs = singles g.K.NativeType.numbers (λ x. g.met.K.NativeType.parts x ∙ one-part g.K.NativeType.PRIMITIVE g.K.DictionaryKey.KEY_TYPE g.met.K.DictionaryKey.kind) c.in_ok-raw.raw in
    keys-laid c.try_new.result c.args.moved g.K.NativeType.PRIMITIVE (type_of c.in_ok-data_type.data_type) c.args.keys.now c.args.windows.now _ _ c.try_new.ensures c.known.ensures.kind (c.in_ok-data_type.ensures.ok ∙ c.data_type.ensures)
    (vs ∙ ap (map (λ z. z ∷ [])) c.in_ok-raw.ensures.ok) c.in_ok-validity.ensures.ok

pub returns-clause-room : goal.returns-clause-room
returns-clause-room g c =
    let k = primitive-keys g.K.NativeType.PRIMITIVE c.args.keys.now c.known.ensures.fits c.known.ensures.kind in
    let w = ap (λ z. key_count (keyed_by z)) (sym g.met.K.DictionaryKey.kind ∙ k.1) in
    ok-always c.try_new.result _ (λ m. subst (λ n. KeysPass n 0 c.args.windows.now → ⊥) w (c.in_ok-raw.ensures.room m))
