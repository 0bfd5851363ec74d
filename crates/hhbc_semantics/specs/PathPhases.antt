-- Writing in two phases. All keys but the last are read, which tells where the write begins: at the last property that is passed, or at
-- the base where none is. From there each container is built anew.
use Rattle.std.specs.Prelude.{◌≡◌, ℕ, List, [], ◌∷◌, Option, Some, None, Result, Ok, Err}
use Rattle.hack_values.specs.declared.cell.Cell.{Cell}
use Rattle.hack_values.specs.declared.cell.Cell.TheVariants as cells
use Rattle.type_lattice.specs.Member.{Heap}
use Rattle.hhbc_repo.specs.Linked.{Linked}
use Rattle.hhbc_semantics.specs.Growth.{HeapGrows}
use Rattle.hhbc_semantics.specs.PathKeys.{PathKey, Append, key_cell}
use Rattle.hhbc_semantics.specs.PathReads.{Miss, NotContainer, Step, Item, Entry, Property, Element, Nothing, Faulty, step, get}
use Rattle.hhbc_semantics.specs.PathWrites.{Change, Sets, Wrote, Base, misses, last_step, in_item, in_entry, in_property, in_base, change_base, write, heap_after}

-- a property in which a write begins: its object and its place there, what it holds, and the keys that follow
pub record Start : Type 0 where
  pub object : ℕ
  pub place : ℕ
  pub holds : Cell
  pub key : PathKey
  pub rest : List PathKey

abbrev pub or_here : Start → Result (Option Start) Miss → Result (Option Start) Miss
or_here here (Ok None) = Ok (Some here)
or_here here (Ok (Some later)) = Ok (Some later)
or_here here (Err m) = Err m

abbrev pub pass : Step → PathKey → List PathKey → (Cell → Result (Option Start) Miss) → Result (Option Start) Miss
pass (Item items at c) k ks more = more c
pass (Entry entries at c) k ks more = more c
pass (Property n i c) k ks more = or_here (record { object = n; place = i; holds = c; key = k; rest = ks }) (more c)
pass (Element e) k ks more = more (key_cell e)
pass Nothing k ks more = more cells.Null
pass (Faulty m) k ks more = Err m

-- all keys but the last are read: the last property that is passed, or the fault of reading
abbrev pub last_passed : Linked → Heap → Cell → PathKey → List PathKey → Result (Option Start) Miss
last_passed r heap c k [] = Ok None
last_passed r heap c k (l ∷ rest) = pass (step r heap c k) l rest (λ d. last_passed r heap d l rest)

abbrev pub rebuild_on : Step → (Cell → Wrote) → Wrote
rebuild_on (Item items at c) more = in_item items at (more c)
rebuild_on (Entry entries at c) more = in_entry entries at (more c)
rebuild_on (Property n i c) more = misses NotContainer
rebuild_on (Element k) more = misses NotContainer
rebuild_on Nothing more = misses NotContainer
rebuild_on (Faulty m) more = misses m

-- the containers along the keys built anew, where no object is passed
abbrev pub rebuild : Linked → Heap → Change → Cell → PathKey → List PathKey → Wrote
rebuild r heap change c k [] = last_step r heap change c k
rebuild r heap change c k (l ∷ rest) = rebuild_on (step r heap c k) (λ d. rebuild r heap change d l rest)

-- the write, where reading told this of it
abbrev pub write_from : Linked → Heap → Change → Result (Option Start) Miss → Wrote → Wrote
write_from r heap change (Ok None) at_base = at_base
write_from r heap change (Ok (Some p)) at_base = in_property p.object p.place (rebuild r heap change p.holds p.key p.rest)
write_from r heap change (Err m) at_base = misses m

abbrev pub write_in_phases : Linked → Heap → Change → Cell → List PathKey → Wrote
write_in_phases r heap change c [] = change_base change
write_in_phases r heap change c (k ∷ ks) = write_from r heap change (last_passed r heap c k ks) (in_base (rebuild r heap change c k ks))

-- the one pass and the two phases come to the same
abbrev pub WritesInPhases : Type 0
WritesInPhases =
    (r : Linked) (heap : Heap) (change : Change) (c : Cell) (ks : List PathKey)
    → write r heap change c ks ≡ write_in_phases r heap change c ks

-- objects stay and keep their classes under every write
abbrev pub WritesKeepObjects : Type 0
WritesKeepObjects =
    (r : Linked) (heap : Heap) (change : Change) (c : Cell) (ks : List PathKey)
    → HeapGrows heap (heap_after heap (write r heap change c ks))

abbrev pub AppendsNothing : List PathKey → Type 0
AppendsNothing [] = Unit {0}
AppendsNothing (Append ∷ ks) = ⊥
AppendsNothing (_ ∷ ks) = AppendsNothing ks

-- where another base is left, reading it finds what was put
abbrev pub ReadsFindWrites : Type 0
ReadsFindWrites =
    (r : Linked) (heap : Heap) (v c e : Cell) (ks : List PathKey) → AppendsNothing ks
    → write r heap (Sets v) c ks ≡ Base e
    → get r heap e ks ≡ Ok v
