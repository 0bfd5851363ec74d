-- The labels of canonical items: each stands at its position, is found there, fits, and is unlike the others.
use Rattle.std.proofs.Common.{◌≡◌, ◌<◌, ◌≤◌, ◌^◌, ◌+◌, ℕ, zero, suc, Bool, true, false, not, ◌&&◌, ◌||◌, nat_le, List, [], ◌∷◌, ◌++◌, map, length, Option, Some, None, option_map, cond, if◌then◌else◌, refl, sym, ap, subst, ◌∙◌, arith, append_assoc, append-nil, replicate}
use Rattle.std.specs.List.{flat_map}
use Rattle.std.specs.Fmt.{decimal}
use Rattle.std.proofs.lemmas.Bool.{or_from, or_left, or_right, false_from_ne_true, le-leb}
use Rattle.std.proofs.lemmas.Fmt.{decimal_injective}
use Rattle.std.proofs.lemmas.Grind.{flat_map-append}
use Rattle.std.proofs.lemmas.List.Folds.{list_any-append}
use Rattle.std.proofs.lemmas.Slice.Eq.{bytes_eq-Decides}
use Rattle.type_lattice.specs.TypeText.{named}
use Rattle.hhbc_repo.specs.declared.body.Body.{Body}
use Rattle.hhbc_repo.specs.declared.body.Position.{Position}
use Rattle.hhbc_repo.specs.declared.body.Region.{Region}
use Rattle.hhbc_repo.specs.declared.link_fault.LinkKind.TheVariants as kinds
use Rattle.hhbc_repo.specs.declared.parts.ItemParts.{ItemParts}
use Rattle.hhbc_repo.specs.declared.parts.ItemParts.TheVariants as items
use Rattle.hhbc_repo.specs.Canonical.{is_named, named_before, label_at, label_called, label_name, label_item, canonical_position, how_many, firsts, mids, lasts, turns, before, items_from}
use Rattle.hhbc_repo.specs.Fits.{is_label}
use Rattle.hhbc_repo.specs.LinkFaults.{Name, is_name, names, place_in, check, differ_from, as_it_is, label_of, position_in}
use Rattle.hhbc_repo.specs.Resolved.{label_here, label_from}
use Rattle.hhbc_repo.proofs.NumbersPut.{same_name, place_step}
use Rattle.hhbc_repo.proofs.LabelWords.{called_fits}

-- ---- what stands before a position

copies_nothing : {A : Type 0} (f : ItemParts → List A) (item : ItemParts) → f item ≡ [] → (n : ℕ) → flat_map f (replicate n item) ≡ []
copies_nothing f item e zero = refl
copies_nothing f item e (suc n) = ap (λ l. l ++ flat_map f (replicate n item)) e ∙ copies_nothing f item e n

-- what ends and beginnings of bodies have none of
pub turns_nothing : {A : Type 0} (f : ItemParts → List A) → f items.End ≡ [] → f items.Catch ≡ [] → f items.Try ≡ [] → (rs : List Region) (p : ℕ) → flat_map f (turns rs p) ≡ []
turns_nothing f at_end at_catch at_try rs p =
    let ends = replicate (how_many p (lasts rs)) items.End in
    let catches = replicate (how_many p (mids rs)) items.Catch in
    let tries = replicate (how_many p (firsts rs)) items.Try in
    flat_map-append f ends (catches ++ tries)
    ∙ ap (λ l. l ++ flat_map f (catches ++ tries)) (copies_nothing f items.End at_end (how_many p (lasts rs)))
    ∙ flat_map-append f catches tries
    ∙ ap (λ l. l ++ flat_map f tries) (copies_nothing f items.Catch at_catch (how_many p (mids rs)))
    ∙ copies_nothing f items.Try at_try (how_many p (firsts rs))

pub labels_only : (rs : List Region) (p : ℕ) → flat_map label_of (turns rs p) ≡ []
labels_only = turns_nothing label_of refl refl refl

pub positions_only : (rs : List Region) (p : ℕ) → flat_map position_in (turns rs p) ≡ []
positions_only = turns_nothing position_in refl refl refl

-- the names of a label that is there
abbrev pub called : Option ℕ → List Name
called None = []
called (Some n) = label_called n ∷ []

item_called : (o : Option ℕ) → flat_map label_of (label_item o) ≡ called o
item_called None = refl
item_called (Some n) = refl

item_placeless : (o : Option ℕ) → flat_map position_in (label_item o) ≡ []
item_placeless None = refl
item_placeless (Some n) = refl

pub before_called : (c : Body) (p : ℕ) → flat_map label_of (before c p) ≡ called (label_at c.positions p)
before_called c p =
    flat_map-append label_of (turns c.regions p) (label_item (label_at c.positions p))
    ∙ ap (λ l. l ++ flat_map label_of (label_item (label_at c.positions p))) (labels_only c.regions p)
    ∙ item_called (label_at c.positions p)

pub before_placeless : (c : Body) (p : ℕ) → flat_map position_in (before c p) ≡ []
before_placeless c p =
    flat_map-append position_in (turns c.regions p) (label_item (label_at c.positions p))
    ∙ ap (λ l. l ++ flat_map position_in (label_item (label_at c.positions p))) (positions_only c.regions p)
    ∙ item_placeless (label_at c.positions p)

-- ---- positions

pub positions_from : (classes : List Name) (c : Body) (p : ℕ) (qs : List Position) → flat_map position_in (items_from classes c p qs) ≡ map (canonical_position classes c) qs
positions_from classes c p [] = before_placeless c p
positions_from classes c p (q ∷ qs) =
    flat_map-append position_in (before c p) (items.Position (canonical_position classes c q) ∷ items_from classes c (suc p) qs)
    ∙ ap (λ l. l ++ canonical_position classes c q ∷ flat_map position_in (items_from classes c (suc p) qs)) (before_placeless c p)
    ∙ ap (λ l. canonical_position classes c q ∷ l) (positions_from classes c (suc p) qs)

pub positions_back : (classes : List Name) (c : Body) → flat_map position_in (items_from classes c 0 c.positions) ≡ map (canonical_position classes c) c.positions
positions_back classes c = positions_from classes c 0 c.positions

-- ---- labels in order

abbrev pub called_from : List Position → ℕ → List Position → List Name
called_from all p [] = called (label_at all p) ++ []
called_from all p (q ∷ qs) = called (label_at all p) ++ called_from all (suc p) qs

pub labels_called : (classes : List Name) (c : Body) (p : ℕ) (qs : List Position) → flat_map label_of (items_from classes c p qs) ≡ called_from c.positions p qs
labels_called classes c p [] = before_called c p ∙ sym (append-nil (called (label_at c.positions p)))
labels_called classes c p (q ∷ qs) =
    flat_map-append label_of (before c p) (items.Position (canonical_position classes c q) ∷ items_from classes c (suc p) qs)
    ∙ ap (λ l. l ++ flat_map label_of (items_from classes c (suc p) qs)) (before_called c p)
    ∙ ap (λ l. called (label_at c.positions p) ++ l) (labels_called classes c (suc p) qs)

-- ---- numbers of labels

-- what the number of positions with a label grows to at a position with this one
abbrev Grows : Option ℕ → ℕ → ℕ → Type 0
Grows None count next = count ≤ next
Grows (Some n) count next = (n ≡ count) × (suc count ≤ next)

grows : (all : List Position) (p : ℕ) → Grows (label_at all p) (named_before all p) (named_before all (suc p))
grows all p = go (nat_le p (length all)) (is_named all p) (named_before all p)
  where
    go : (b c : Bool) (count : ℕ) → Grows (if b && c then Some count else None) count (count + (if c then 1 else 0))
    go true true count = (refl, omega arith)
    go true false count = omega arith
    go false true count = omega arith
    go false false count = omega arith

step_bounds : (b : Bool) (count : ℕ) → (count ≤ count + (if b then 1 else 0)) × (count + (if b then 1 else 0) ≤ suc count)
step_bounds true count = (omega arith, omega arith)
step_bounds false count = (omega arith, omega arith)

pub named_few : (all : List Position) (p : ℕ) → named_before all p ≤ p
named_few all zero = omega arith
named_few all (suc p) = let i = named_few all p in let s = (step_bounds (is_named all p) (named_before all p)).1 in omega (arith, i, s)

pub named_more : (all : List Position) (p d : ℕ) → named_before all p ≤ named_before all (p + d)
named_more all p zero = let e : p ≡ p + 0 = omega arith in let s = ap (named_before all) e in omega (arith, s)
named_more all p (suc d) =
    let i = named_more all p d in
    let e : suc (p + d) ≡ p + suc d = omega arith in
    let s = ap (named_before all) e in
    let b = (step_bounds (is_named all (p + d)) (named_before all (p + d))).0 in
    omega (arith, i, s, b)

pub label_there : (all : List Position) (p : ℕ) → p ≤ length all → is_named all p ≡ true → label_at all p ≡ Some (named_before all p)
label_there all p inside is =
    ap (λ (b : Bool). if b && is_named all p then Some (named_before all p) else None) (le-leb p (length all) inside)
    ∙ ap (λ (b : Bool). if b then Some (named_before all p) else None) is

number_is : (all : List Position) (p n : ℕ) → label_at all p ≡ Some n → n ≡ named_before all p
number_is all p n e = go (nat_le p (length all) && is_named all p) (named_before all p) e
  where
    go : (b : Bool) (count : ℕ) → (if b then Some count else None) ≡ Some n → n ≡ count
    go true count h = cc
    go false count h = absurd (cc)

pub label_spelled : (all : List Position) (p : ℕ) → p ≤ length all → is_named all p ≡ true → label_name all p ≡ label_called (named_before all p)
label_spelled all p inside is = ap (λ (o : Option ℕ). named (option_map label_called o)) (label_there all p inside is)

-- ---- labels by their names

same : (name : Name) → is_name name name ≡ true
same name = (bytes_eq-Decides name name).1 refl

apart : (m n : ℕ) → m < 2 ^ 64 → n < 2 ^ 64 → (m ≡ n → ⊥) → is_name (label_called m) (label_called n) ≡ false
apart m n m_small n_small other =
    false_from_ne_true (is_name (label_called m) (label_called n)) (λ e. other (decimal_injective m n m_small n_small (same_name (decimal m) (decimal n) e)))

-- ---- no two are alike

-- none of the names is the label of this number or a later one
abbrev Unseen : ℕ → List Name → Type 0
Unseen count seen = (m : ℕ) → count ≤ m → m < 2 ^ 64 → names seen (label_called m) ≡ false

seen_more : (seen : List Name) (n next : ℕ) → n < 2 ^ 64 → suc n ≤ next → Unseen n seen → Unseen next (seen ++ label_called n ∷ [])
seen_more seen n next small up unseen m from fits =
    list_any-append (is_name (label_called m)) seen (label_called n ∷ [])
    ∙ or_from (names seen (label_called m)) (is_name (label_called m) (label_called n) || false) (unseen m (omega (arith, up, from)) fits)
    (or_from (is_name (label_called m) (label_called n)) false (apart m n fits small (λ e. omega (arith, up, from, e))) refl)

label_differs : (owner : Name) (o : Option ℕ) (count next : ℕ) (seen more : List Name) → count < 2 ^ 64 → Grows o count next → Unseen count seen
    → ((later : List Name) → Unseen next later → differ_from kinds.DuplicateLabel owner as_it_is later more ≡ [])
    → differ_from kinds.DuplicateLabel owner as_it_is seen (called o ++ more) ≡ []
label_differs owner None count next seen more small g unseen go = go seen (λ m from fits. unseen m (omega (arith, g, from)) fits)
label_differs owner (Some n) count next seen more small g unseen go =
    let is = g.0 in
    let up = g.1 in
    let same_unseen : Unseen n seen = λ m from fits. unseen m (omega (arith, is, from)) fits in
    let n_small : n < 2 ^ 64 = omega (arith, is, small) in
    ap (λ (b : Bool). check (not b) kinds.DuplicateLabel owner (label_called n) 0 ++ differ_from kinds.DuplicateLabel owner as_it_is (seen ++ label_called n ∷ []) more)
    (same_unseen n (omega arith) n_small)
    ∙ go (seen ++ label_called n ∷ []) (seen_more seen n next n_small (omega (arith, is, up)) same_unseen)

differ_on : (all : List Position) (owner : Name) (p : ℕ) (qs : List Position) (seen : List Name) → p + length qs < 2 ^ 64 → Unseen (named_before all p) seen
    → differ_from kinds.DuplicateLabel owner as_it_is seen (called_from all p qs) ≡ []
differ_on all owner p [] seen few unseen =
    let n = named_few all p in
    label_differs owner (label_at all p) (named_before all p) (named_before all (suc p)) seen [] (omega (arith, n, few)) (grows all p) unseen (λ later u. refl)
differ_on all owner p (q ∷ qs) seen few unseen =
    let n = named_few all p in
    label_differs owner (label_at all p) (named_before all p) (named_before all (suc p)) seen (called_from all (suc p) qs) (omega (arith, n, few)) (grows all p) unseen
    (λ later u. differ_on all owner (suc p) qs later (omega (arith, few)) u)

pub labels_differ : (classes : List Name) (c : Body) (owner : Name) → length c.positions ≤ 65535
    → differ_from kinds.DuplicateLabel owner as_it_is [] (flat_map label_of (items_from classes c 0 c.positions)) ≡ []
labels_differ classes c owner few =
    ap (λ (l : List Name). differ_from kinds.DuplicateLabel owner as_it_is [] l) (labels_called classes c 0 c.positions)
    ∙ differ_on c.positions owner 0 c.positions [] (omega (arith, few)) (λ m from fits. refl)

-- ---- each is there

listed_first : (o : Option ℕ) (n : ℕ) (more : List Name) → o ≡ Some n → names (called o ++ more) (label_called n) ≡ true
listed_first None n more e = absurd (cc)
listed_first (Some m) n more e =
    let is : n ≡ m = cc in
    or_left (is_name (label_called n) (label_called m)) (names more (label_called n)) (subst (λ (k : ℕ). is_name (label_called n) (label_called k) ≡ true) is (same (label_called n)))

listed_later : (o : Option ℕ) (more : List Name) (name : Name) → names more name ≡ true → names (called o ++ more) name ≡ true
listed_later None more name h = h
listed_later (Some m) more name h = or_right (is_name name (label_called m)) (names more name) h

-- the label of the position that is so many behind
listed_at : (all : List Position) (s : ℕ) (qs : List Position) (d n : ℕ) → d ≤ length qs → label_at all (s + d) ≡ Some n → names (called_from all s qs) (label_called n) ≡ true
listed_at all s [] zero n h e =
    let z : s + 0 ≡ s = omega arith in
    listed_first (label_at all s) n [] (subst (λ (k : ℕ). label_at all k ≡ Some n) z e)
listed_at all s [] (suc d) n h e = absurd (omega (arith, h))
listed_at all s (q ∷ qs) zero n h e =
    let z : s + 0 ≡ s = omega arith in
    listed_first (label_at all s) n (called_from all (suc s) qs) (subst (λ (k : ℕ). label_at all k ≡ Some n) z e)
listed_at all s (q ∷ qs) (suc d) n h e =
    let z : s + suc d ≡ suc s + d = omega arith in
    listed_later (label_at all s) (called_from all (suc s) qs) (label_called n)
    (listed_at all (suc s) qs d n (omega (arith, h)) (subst (λ (k : ℕ). label_at all k ≡ Some n) z e))

there_from_zero : (all : List Position) (p : ℕ) → p ≤ length all → is_named all p ≡ true → label_at all (0 + p) ≡ Some (named_before all p)
there_from_zero all p inside is =
    let z : p ≡ 0 + p = omega arith in
    subst (λ (k : ℕ). label_at all k ≡ Some (named_before all p)) z (label_there all p inside is)

pub label_listed : (classes : List Name) (c : Body) (p : ℕ) → p ≤ length c.positions → is_named c.positions p ≡ true
    → names (flat_map label_of (items_from classes c 0 c.positions)) (label_name c.positions p) ≡ true
label_listed classes c p inside is =
    ap (λ (name : Name). names (flat_map label_of (items_from classes c 0 c.positions)) name) (label_spelled c.positions p inside is)
    ∙ ap (λ (l : List Name). names l (label_called (named_before c.positions p))) (labels_called classes c 0 c.positions)
    ∙ listed_at c.positions 0 c.positions p (named_before c.positions p) inside (there_from_zero c.positions p inside is)

-- ---- each is found at its position

copies_pass : (item : ItemParts) (s : ℕ) (name : Name) → ((more : List ItemParts) → label_from s (item ∷ more) name ≡ label_from s more name)
    → (n : ℕ) (more : List ItemParts) → label_from s (replicate n item ++ more) name ≡ label_from s more name
copies_pass item s name pass zero more = refl
copies_pass item s name pass (suc n) more = pass (replicate n item ++ more) ∙ copies_pass item s name pass n more

turns_pass : (rs : List Region) (p s : ℕ) (more : List ItemParts) (name : Name) → label_from s (turns rs p ++ more) name ≡ label_from s more name
turns_pass rs p s more name =
    let ends = replicate (how_many p (lasts rs)) items.End in
    let catches = replicate (how_many p (mids rs)) items.Catch in
    let tries = replicate (how_many p (firsts rs)) items.Try in
    ap (λ (l : List ItemParts). label_from s l name) (append_assoc ends (catches ++ tries) more ∙ ap (λ l. ends ++ l) (append_assoc catches tries more))
    ∙ copies_pass items.End s name (λ m. refl) (how_many p (lasts rs)) (catches ++ (tries ++ more))
    ∙ copies_pass items.Catch s name (λ m. refl) (how_many p (mids rs)) (tries ++ more)
    ∙ copies_pass items.Try s name (λ m. refl) (how_many p (firsts rs)) more

before_pass : (c : Body) (p s : ℕ) (more : List ItemParts) (name : Name) → label_from s (before c p ++ more) name ≡ label_from s (label_item (label_at c.positions p) ++ more) name
before_pass c p s more name =
    ap (λ (l : List ItemParts). label_from s l name) (append_assoc (turns c.regions p) (label_item (label_at c.positions p)) more)
    ∙ turns_pass c.regions p s (label_item (label_at c.positions p) ++ more) name

here_when : (b : Bool) (s : ℕ) (other name : Name) (later : ℕ) → is_name name other ≡ b → label_here s (place_in (other ∷ []) name) later ≡ (if b then s else later)
here_when b s other name later e =
    ap (λ (o : Option ℕ). label_here s o later) (place_step other [] name)
    ∙ ap (λ (t : Bool). label_here s (cond t (Some 0) None) later) e
    ∙ go b
  where
    go : (t : Bool) → label_here s (cond t (Some 0) None) later ≡ (if t then s else later)
    go true = refl
    go false = refl

label_first : (s n : ℕ) (o : Option ℕ) (more : List ItemParts) → o ≡ Some n → label_from s (label_item o ++ more) (label_called n) ≡ s
label_first s n None more e = absurd (cc)
label_first s n (Some m) more e =
    let is : n ≡ m = cc in
    here_when true s (label_called m) (label_called n) (label_from s more (label_called n))
    (subst (λ (k : ℕ). is_name (label_called n) (label_called k) ≡ true) is (same (label_called n)))

label_passed : (s count next n : ℕ) (o : Option ℕ) (more : List ItemParts) → Grows o count next → next ≤ n → n < 2 ^ 64
    → label_from s (label_item o ++ more) (label_called n) ≡ label_from s more (label_called n)
label_passed s count next n None more g up small = refl
label_passed s count next n (Some m) more g up small =
    let is = g.0 in
    let less = g.1 in
    here_when false s (label_called m) (label_called n) (label_from s more (label_called n))
    (apart n m small (omega (arith, is, less, up, small)) (λ e. omega (arith, is, less, up, e)))

found_first : (c : Body) (s n : ℕ) (more : List ItemParts) → label_at c.positions (s + 0) ≡ Some n → label_from s (before c s ++ more) (label_called n) ≡ s + 0
found_first c s n more e =
    let z : s + 0 ≡ s = omega arith in
    before_pass c s s more (label_called n)
    ∙ label_first s n (label_at c.positions s) more (subst (λ (k : ℕ). label_at c.positions k ≡ Some n) z e)
    ∙ sym z

found_at : (classes : List Name) (c : Body) (s : ℕ) (qs : List Position) (d n : ℕ) → d ≤ length qs → s + d < 2 ^ 64 → label_at c.positions (s + d) ≡ Some n
    → label_from s (items_from classes c s qs) (label_called n) ≡ s + d
found_at classes c s [] zero n h few e =
    ap (λ (l : List ItemParts). label_from s l (label_called n)) (sym (append-nil (before c s))) ∙ found_first c s n [] e
found_at classes c s [] (suc d) n h few e = absurd (omega (arith, h))
found_at classes c s (q ∷ qs) zero n h few e = found_first c s n (items.Position (canonical_position classes c q) ∷ items_from classes c (suc s) qs) e
found_at classes c s (q ∷ qs) (suc d) n h few e =
    let more : List ItemParts = items.Position (canonical_position classes c q) ∷ items_from classes c (suc s) qs in
    let z : s + suc d ≡ suc s + d = omega arith in
    let there : label_at c.positions (suc s + d) ≡ Some n = subst (λ (k : ℕ). label_at c.positions k ≡ Some n) z e in
    let is = number_is c.positions (suc s + d) n there in
    let up = named_more c.positions (suc s) d in
    let small = named_few c.positions (suc s + d) in
    before_pass c s s more (label_called n)
    ∙ label_passed s (named_before c.positions s) (named_before c.positions (suc s)) n (label_at c.positions s) more (grows c.positions s) (omega (arith, is, up)) (omega (arith, is, small, few))
    ∙ found_at classes c (suc s) qs d n (omega (arith, h)) (omega (arith, few)) there
    ∙ sym z

pub label_back : (classes : List Name) (c : Body) (p : ℕ) → length c.positions ≤ 65535 → p ≤ length c.positions → is_named c.positions p ≡ true
    → label_from 0 (items_from classes c 0 c.positions) (label_name c.positions p) ≡ p
label_back classes c p few inside is =
    let z : 0 + p ≡ p = omega arith in
    ap (λ (name : Name). label_from 0 (items_from classes c 0 c.positions) name) (label_spelled c.positions p inside is)
    ∙ found_at classes c 0 c.positions p (named_before c.positions p) inside (omega (arith, few, inside)) (there_from_zero c.positions p inside is)
    ∙ z

-- ---- each fits

pub label_fits : (c : Body) (p : ℕ) → length c.positions ≤ 65535 → p ≤ length c.positions → is_named c.positions p ≡ true → is_label (label_name c.positions p) ≡ true
label_fits c p few inside is =
    let n = named_few c.positions p in
    ap is_label (label_spelled c.positions p inside is) ∙ called_fits (named_before c.positions p) (omega (arith, n, few, inside))
