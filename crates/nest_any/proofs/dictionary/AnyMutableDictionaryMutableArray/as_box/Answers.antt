use Rattle.std.proofs.Common.{ap, sym}
use Rattle.nest_any.specs.Dictionaries.{keyed_rows, keyed_values}
use Rattle.nest_any.proofs.dictionary.AnyMutableDictionaryMutableArray.as_box.Goals as goal

pub returns-in-Int8-clause-slots : goal.returns-in-Int8-clause-slots
returns-in-Int8-clause-slots c =
    rw (ap keyed_values c.in-Int8.is) (rw (ap keyed_rows c.in-Int8.is) (rw (sym c.deref_mut.ensures.value) c.as_box.ensures.slots))

pub returns-in-Int16-clause-slots : goal.returns-in-Int16-clause-slots
returns-in-Int16-clause-slots c =
    rw (ap keyed_values c.in-Int16.is) (rw (ap keyed_rows c.in-Int16.is) (rw (sym c.deref_mut-in-Int16.ensures.value) c.as_box-in-Int16.ensures.slots))

pub returns-in-Int32-clause-slots : goal.returns-in-Int32-clause-slots
returns-in-Int32-clause-slots c =
    rw (ap keyed_values c.in-Int32.is) (rw (ap keyed_rows c.in-Int32.is) (rw (sym c.deref_mut-in-Int32.ensures.value) c.as_box-in-Int32.ensures.slots))

pub returns-in-Int64-clause-slots : goal.returns-in-Int64-clause-slots
returns-in-Int64-clause-slots c =
    rw (ap keyed_values c.in-Int64.is) (rw (ap keyed_rows c.in-Int64.is) (rw (sym c.deref_mut-in-Int64.ensures.value) c.as_box-in-Int64.ensures.slots))

pub returns-in-UInt8-clause-slots : goal.returns-in-UInt8-clause-slots
returns-in-UInt8-clause-slots c =
    rw (ap keyed_values c.in-UInt8.is) (rw (ap keyed_rows c.in-UInt8.is) (rw (sym c.deref_mut-in-UInt8.ensures.value) c.as_box-in-UInt8.ensures.slots))

pub returns-in-UInt16-clause-slots : goal.returns-in-UInt16-clause-slots
returns-in-UInt16-clause-slots c =
    rw (ap keyed_values c.in-UInt16.is) (rw (ap keyed_rows c.in-UInt16.is) (rw (sym c.deref_mut-in-UInt16.ensures.value) c.as_box-in-UInt16.ensures.slots))

pub returns-in-UInt32-clause-slots : goal.returns-in-UInt32-clause-slots
returns-in-UInt32-clause-slots c =
    rw (ap keyed_values c.in-UInt32.is) (rw (ap keyed_rows c.in-UInt32.is) (rw (sym c.deref_mut-in-UInt32.ensures.value) c.as_box-in-UInt32.ensures.slots))

pub returns-in-UInt64-clause-slots : goal.returns-in-UInt64-clause-slots
returns-in-UInt64-clause-slots c =
    rw (ap keyed_values c.in-UInt64.is) (rw (ap keyed_rows c.in-UInt64.is) (rw (sym c.deref_mut-in-UInt64.ensures.value) c.as_box-in-UInt64.ensures.slots))
