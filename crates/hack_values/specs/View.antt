-- The one bridge between cells and values: a cell as a value, and back. Clauses speak of cells, read
-- elements with `cells_of` and `item_of`, and write elements with `val_of`.
use Rattle.std.specs.Prelude.{◌≡◌, ℕ, List, [], ◌∷◌, refl, map, Option, Some, None, slice_get, slice_set, slice_index_or, length, zero, suc, ◌<◌}
use Rattle.std.proofs.Common.{ap, sym, ◌∙◌, arith}
use Rattle.std.specs.Map.{values_of}
use Rattle.hack_values.specs.Keys.{set_value}
use Rattle.hack_values.specs.declared.cell.Cell.{Cell}
use Rattle.hack_values.specs.declared.cell.Cell.TheVariants as cell
use Rattle.hack_values.specs.declared.key.Key.{Key}
use Rattle.hack_values.specs.Val.{Val, to_list, from_list, to_pairs, from_pairs, to-from_list, to-from_pairs, from-to_list, from-to_pairs}
use Rattle.hack_values.specs.Val.Val.{null, bool, int, str, vec, dict, keyset, obj}

abbrev pub val_of : Cell → Val
val_of cell.Null = null
val_of (cell.Bool b) = bool b
val_of (cell.Int i) = int i
val_of (cell.Str s) = str s
val_of (cell.Vec vs) = vec (from_list vs)
val_of (cell.Dict es) = dict (from_pairs es)
val_of (cell.Keyset ks) = keyset ks
val_of (cell.Obj n) = obj n

abbrev pub cell_of : Val → Cell
cell_of null = cell.Null
cell_of (bool b) = cell.Bool b
cell_of (int i) = cell.Int i
cell_of (str s) = cell.Str s
cell_of (vec vs) = cell.Vec (to_list vs)
cell_of (dict ps) = cell.Dict (to_pairs ps)
cell_of (keyset ks) = cell.Keyset ks
cell_of (obj n) = cell.Obj n

-- lists of cells as lists of values, and back
abbrev pub vals_of : List Cell → List Val
vals_of cs = map val_of cs

abbrev pub cells_of : List Val → List Cell
cells_of vs = map cell_of vs

-- keys and cells as entries
abbrev pub pairs_of : List (Key × Cell) → List (Key × Val)
pairs_of es = map (λ e. (e.0, val_of e.1)) es

abbrev pub some_cell : Option Val → Option Cell
some_cell None = None
some_cell (Some v) = Some (cell_of v)

-- the cell at a place
abbrev pub item_of : List Val → ℕ → Option Cell
item_of vs at = some_cell (slice_get vs at)

pub cell-val : (c : Cell) → cell_of (val_of c) ≡ c
cell-val cell.Null = refl
cell-val (cell.Bool b) = refl
cell-val (cell.Int i) = refl
cell-val (cell.Str s) = refl
cell-val (cell.Vec vs) = ap cell.Vec (to-from_list vs)
cell-val (cell.Dict es) = ap cell.Dict (to-from_pairs es)
cell-val (cell.Keyset ks) = refl
cell-val (cell.Obj n) = refl

pub val-cell : (v : Val) → val_of (cell_of v) ≡ v
val-cell null = refl
val-cell (bool b) = refl
val-cell (int i) = refl
val-cell (str s) = refl
val-cell (vec vs) = ap vec (from-to_list vs)
val-cell (dict ps) = ap dict (from-to_pairs ps)
val-cell (keyset ks) = refl
val-cell (obj n) = refl

pub val_of-inj : (a b : Cell) → val_of a ≡ val_of b → a ≡ b
val_of-inj a b e = sym (cell-val a) ∙ ap cell_of e ∙ cell-val b

pub cells-vals : (cs : List Cell) → cells_of (vals_of cs) ≡ cs
cells-vals [] = refl
cells-vals (c ∷ cs) = λ i. cell-val c i ∷ cells-vals cs i

pub vals-cells : (vs : List Val) → vals_of (cells_of vs) ≡ vs
vals-cells [] = refl
vals-cells (v ∷ vs) = λ i. val-cell v i ∷ vals-cells vs i

pub vals-inj : (a b : List Cell) → vals_of a ≡ vals_of b → a ≡ b
vals-inj a b e = sym (cells-vals a) ∙ ap cells_of e ∙ cells-vals b

pub item-vals : (cs : List Cell) (at : ℕ) (c : Cell) → at < length cs → c ≡ slice_index_or cs at c → item_of (vals_of cs) at ≡ Some c
item-vals [] at c h e = absurd (omega arith)
item-vals (d ∷ cs) zero c h e = ap Some (cell-val d ∙ sym e)
item-vals (d ∷ cs) (suc at) c h e = item-vals cs at c (omega arith) e

-- to write what is there already changes nothing
pub set-item : (vs : List Val) (at : ℕ) (c : Cell) → item_of vs at ≡ Some c → slice_set vs at (val_of c) ≡ vs
set-item [] at c e = refl
set-item (v ∷ vs) zero c e = let found : cell_of v ≡ c = cc in ap (λ x. x ∷ vs) (sym (ap val_of found) ∙ val-cell v)
set-item (v ∷ vs) (suc at) c e = ap (λ rest. v ∷ rest) (set-item vs at c e)

pub set-entry : (es : List (Key × Val)) (at : ℕ) (c : Cell) → item_of (values_of es) at ≡ Some c → set_value es at (val_of c) ≡ es
set-entry [] at c e = refl
set-entry (d ∷ es) zero c e = let found : cell_of d.1 ≡ c = cc in ap (λ x. (d.0, x) ∷ es) (sym (ap val_of found) ∙ val-cell d.1)
set-entry (d ∷ es) (suc at) c e = ap (λ rest. d ∷ rest) (set-entry es at c e)

pub ruleset cells = (cells-vals, set-item, set-entry)

pub ruleset by_cells = (vals-inj)
