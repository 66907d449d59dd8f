-- The items that an iterator passed to a push may yield.
use Rattle.std.specs.Prelude.{Option, Some, None, List}
use Rattle.std.specs.List.{All}
use Rattle.std.specs.Iterator.{Count, IsFinite, HoldsAlong, Yields, Drains}
use Rattle.nest_model.specs.BuilderItem as items
use Rattle.nest_model.specs.BuilderItem.{PlainValue, Item}

-- None is null; Some is the value
abbrev pub value_item : {T : Type 0} → (T → PlainValue) → Option T → Item
value_item value None = items.null
value_item value (Some x) = items.plain (value x)

-- How an iterator may behave: the iterators it may convert to, that `next` may be called, the number of items left,
-- and the items that each step may yield.
pub record Source (U T A : Type 0) : Type 1 where
  pub becomes : U → T → Type 0
  pub can : T → Type 0
  pub left : T → Count
  pub steps : T → Option A → T → Type 0

-- each iterator that u may convert to can be called, ends, and yields only items that satisfy P
abbrev pub CanRead : {U T A : Type 0} → Source U T A → (A → Type 0) → U → Type 0
CanRead {U} {T} from P u = (it : T) → from.becomes u it → from.can it × IsFinite (from.left it) × HoldsAlong from.steps it (All P)

abbrev pub CanReadList : {U T A : Type 0} → Source U T A → (A → Type 0) → Option U → Type 0
CanReadList from P None = Unit {0}
CanReadList from P (Some u) = CanRead from P u

-- the complete list of items that u may yield, and a prefix of one
abbrev pub YieldsAll : {U T A : Type 0} → (U → T → Type 0) → (T → Option A → T → Type 0) → U → List A → Type 0
YieldsAll {U} {T} becomes steps u given = (it : T) × becomes u it × Drains steps it given

abbrev pub Begins : {U T A : Type 0} → (U → T → Type 0) → (T → Option A → T → Type 0) → U → List A → Type 0
Begins {U} {T} becomes steps u given = (it : T) × (rest : T) × becomes u it × Yields steps it given rest
