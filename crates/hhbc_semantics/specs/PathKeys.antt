-- The keys of paths, once their operands were read.
use Rattle.std.specs.Prelude.{ℕ, List}
use Rattle.hack_values.specs.declared.key.Key.{Key}
use Rattle.hack_values.specs.declared.key.Key.TheVariants as elements
use Rattle.hack_values.specs.declared.cell.Cell.{Cell}
use Rattle.hack_values.specs.declared.cell.Cell.TheVariants as cells

-- a key of an element; of a property; of a property of an object or of null; or the place behind the last element.
-- What is neither an int nor a string is a bad key of an element, and what is no string is a bad key of a property
pub data PathKey : Type 0 where
  Elem : Key → PathKey
  BadElem : PathKey
  Prop : List ℕ → PathKey
  BadProp : PathKey
  Nullsafe : List ℕ → PathKey
  Append : PathKey

abbrev pub elem_key : Cell → PathKey
elem_key (cells.Int i) = Elem (elements.Int i)
elem_key (cells.Str s) = Elem (elements.Str s)
elem_key _ = BadElem

abbrev pub prop_key : Cell → PathKey
prop_key (cells.Str s) = Prop s
prop_key _ = BadProp

-- a key as a cell
abbrev pub key_cell : Key → Cell
key_cell (elements.Int i) = cells.Int i
key_cell (elements.Str s) = cells.Str s
