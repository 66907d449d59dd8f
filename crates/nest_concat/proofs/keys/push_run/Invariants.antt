use Rattle.std.proofs.Common.{◌≡◌, ◌++◌, map}
use Rattle.nest_model.specs.Accessors.{as_integer}
use Rattle.nest_model.specs.BuilderTree.{key_count}
use Rattle.nest_array.specs.SeenKeys.{keys_layout}
use Rattle.nest_concat.specs.Lookups.{KeysFit, moved_run}
use Rattle.nest_concat.proofs.keys.push_run.Given as goal

abbrev pub invariant-loop-j : goal.invariant-loop-j
invariant-loop-j g l =
    record {
      gathered : map as_integer (map g.K.NativeType.numbers l.raw.items) ≡ map as_integer (map g.K.NativeType.numbers l.initial.raw.items) ++ moved_run l.before (keys_layout l.keys) l.start l.j;
      fit : KeysFit (key_count g.K.DictionaryKey.KEY_TYPE) l.before (keys_layout l.keys) l.start l.j;
    }
