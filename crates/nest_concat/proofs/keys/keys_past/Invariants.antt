use Rattle.std.proofs.Common.{◌≡◌, ◌++◌, drop, map, take}
use Rattle.std.specs.List.{sum_by}
use Rattle.nest_model.specs.Accessors.{as_integer}
use Rattle.nest_model.specs.BuilderTree.{key_count}
use Rattle.nest_concat.specs.Lookups.{KeysPass, count_values, moved_keys}
use Rattle.nest_concat.proofs.keys.keys_past.Given as goal

abbrev pub invariant-loop-window : goal.invariant-loop-window
invariant-loop-window g l =
    record {
      gathered : map as_integer (map g.K.NativeType.numbers l.raw.items) ++ moved_keys l.before (drop l.window-index l.windows) ≡ moved_keys 0 l.windows;
      passes : KeysPass (key_count g.K.DictionaryKey.KEY_TYPE) l.before (drop l.window-index l.windows) → KeysPass (key_count g.K.DictionaryKey.KEY_TYPE) 0 l.windows;
      left : KeysPass (key_count g.K.DictionaryKey.KEY_TYPE) 0 l.windows → KeysPass (key_count g.K.DictionaryKey.KEY_TYPE) l.before (drop l.window-index l.windows);
      summed : l.before ≡ sum_by count_values (take l.window-index l.windows);
    }
