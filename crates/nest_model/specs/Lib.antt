-- Slots.
pub mod Slot
pub mod Selected
-- Layouts of arrays, and the slots they represent.
pub mod Layout
pub mod Part
pub mod Accessors
pub mod Meaning
pub mod Nullness
-- Slices.
pub mod Slice
-- Ordered checks of constructors.
pub mod Checks
pub mod Fits
pub mod Array
pub mod Facts
-- Null and empty arrays.
pub mod Nulls
pub mod NullLayout
pub mod MadeNulls
-- Equality of arrays.
pub mod SameArray
-- Builders: trees, levels, pushed items, added rows, appends, errors, freezing and joins.
pub mod BuilderRow
pub mod BuilderTree
pub mod BuilderLevels
pub mod BuilderComplete
pub mod BuilderItem
pub mod BuilderAddRow
pub mod BuilderAppend
pub mod BuilderRefusals
pub mod BuilderInput
pub mod BuilderReading
pub mod BuilderFreeze
pub mod BuilderJoin
-- Laws of slots and arrays.
pub mod SlotLaws
pub mod SelectedLaws
pub mod Runs
pub mod SliceLaws
pub mod Reads
pub mod FlatReads
pub mod NullnessLaws
pub mod FactLaws
pub mod FitsLaws
pub mod ValidityLaws
pub mod TextLaws
pub mod SameArrayLaws
pub mod NullLaws
pub mod NullKinds
pub mod MadeNullLaws
-- Laws of builders.
pub mod BuilderRowLaws
pub mod BuilderLevelLaws
pub mod BuilderTruncateLaws
pub mod BuilderAddRowLaws
pub mod BuilderRowCheckLaws
pub mod BuilderAppendLaws
pub mod BuilderKeyLaws
pub mod BuilderAcceptLaws
pub mod BuilderTakesLaws
pub mod BuilderKindLaws
pub mod BuilderRefusalLaws
pub mod BuilderLimitLaws
pub mod BuilderInputLaws
pub mod BuilderReadingLaws
pub mod BuilderFreezeLaws
pub mod BuilderJoinLaws
-- Decidable equality.
pub mod SlotCode
pub mod LayoutCode
pub mod Decide
pub mod DecideType
pub mod FitsDecide
-- Arrays and builders of the worked examples.
pub mod Examples
pub mod BuilderExamples
-- long statements of laws
pub mod LawStatements
