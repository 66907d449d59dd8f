use Rattle.nest_flat.specs.Plain.{plain_value}
use Rattle.nest_memory.specs.declared.error.ArgumentError.TheVariants.{ItemType}
use Rattle.nest_memory.specs.declared.error.Error.TheVariants.{InvalidArgumentError}
use Rattle.nest_build.proofs.Dictionaries.{at_err, full_cause, full_kind}
use Rattle.nest_build.proofs.dictionary.mutable.MutableDictionaryArray.refusal.Goals as goal

pub returns-in-Err-clause-cause : goal.returns-in-Err-clause-cause
returns-in-Err-clause-cause g c =
    let old = c.args.self.now in
    full_cause g.K.DictionaryKey.KEY_TYPE old.data_type old.rows (g.M.MutableArray.model old.values.values) (plain_value c.args.value.now) c.in-Err.refusal c.kind_first.result c.requires.unknown c.requires.full
    (at_err c.push.result c.in-Err.refusal (InvalidArgumentError ItemType) _ c.in-Err.is c.push.ensures.kind) c.kind_first.ensures.kind c.kind_first.ensures.other

pub returns-clause-cause : goal.returns-clause-cause
returns-clause-cause g c =
    let old = c.args.self.now in
    full_kind g.K.DictionaryKey.KEY_TYPE old.data_type old.rows (g.M.MutableArray.model old.values.values) (plain_value c.args.value.now) c.requires.unknown c.requires.full c.in_default.ensures.unrefused
