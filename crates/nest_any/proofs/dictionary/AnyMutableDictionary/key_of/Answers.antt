use Rattle.std.proofs.Common.{ap, sym}
use Rattle.nest_any.specs.Dictionaries.{keyed_values}
use Rattle.nest_any.proofs.dictionary.AnyMutableDictionary.key_of.Goals as goal

pub returns-in-Int8 : goal.returns-in-Int8
returns-in-Int8 g c = rw (ap keyed_values c.in-Int8.is) (rw (sym c.deref.ensures) c.place_of.ensures)

pub returns-in-Int16 : goal.returns-in-Int16
returns-in-Int16 g c = rw (ap keyed_values c.in-Int16.is) (rw (sym c.deref-in-Int16.ensures) c.place_of-in-Int16.ensures)

pub returns-in-Int32 : goal.returns-in-Int32
returns-in-Int32 g c = rw (ap keyed_values c.in-Int32.is) (rw (sym c.deref-in-Int32.ensures) c.place_of-in-Int32.ensures)

pub returns-in-Int64 : goal.returns-in-Int64
returns-in-Int64 g c = rw (ap keyed_values c.in-Int64.is) (rw (sym c.deref-in-Int64.ensures) c.place_of-in-Int64.ensures)

pub returns-in-UInt8 : goal.returns-in-UInt8
returns-in-UInt8 g c = rw (ap keyed_values c.in-UInt8.is) (rw (sym c.deref-in-UInt8.ensures) c.place_of-in-UInt8.ensures)

pub returns-in-UInt16 : goal.returns-in-UInt16
returns-in-UInt16 g c = rw (ap keyed_values c.in-UInt16.is) (rw (sym c.deref-in-UInt16.ensures) c.place_of-in-UInt16.ensures)

pub returns-in-UInt32 : goal.returns-in-UInt32
returns-in-UInt32 g c = rw (ap keyed_values c.in-UInt32.is) (rw (sym c.deref-in-UInt32.ensures) c.place_of-in-UInt32.ensures)

pub returns-in-UInt64 : goal.returns-in-UInt64
returns-in-UInt64 g c = rw (ap keyed_values c.in-UInt64.is) (rw (sym c.deref-in-UInt64.ensures) c.place_of-in-UInt64.ensures)
