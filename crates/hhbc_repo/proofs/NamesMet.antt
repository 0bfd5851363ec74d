-- Names that are met among others.
use Rattle.std.proofs.Common.{◌≡◌, ℕ, zero, suc, true, false, Some, None, take, nat_lt, ◌<◌, ◌+◌, List, [], ◌∷◌, ◌++◌, map, length, drop, get_or, refl, sym, ap, ◌∙◌, not, append_assoc, arith}
use Rattle.std.proofs.lemmas.List.{append-nil}
use Rattle.hhbc_repo.specs.declared.link_fault.LinkFault.{LinkFault}
use Rattle.hhbc_repo.specs.declared.link_fault.LinkKind.{LinkKind}
use Rattle.hhbc_repo.specs.declared.link_fault.LinkError.{LinkError}
use Rattle.hhbc_repo.specs.Checks.{TellsFirst}
use Rattle.hhbc_repo.specs.LinkFaults.{Name, names, place_in, check, differ_from}
use Rattle.hhbc_repo.proofs.CheckLoops.{loop_tells}
use Rattle.hhbc_repo.proofs.NumbersPut.{place_step}

-- the next of what is left has a name that was met
pub differ_stops : {X : Type 0} (kind : LinkKind) (owner : Name) (spelled : Name → Name) (name_of : X → Name) (seen : List Name) (xs : List X) (i : ℕ) (x d : X)
    (name : Name) (all : List LinkFault) (e : LinkError) → i < length xs → x ≡ get_or xs i d → name ≡ name_of x → differ_from kind owner spelled seen (map name_of (drop i xs)) ≡ all
    → TellsFirst (check (not (names seen name)) kind owner (spelled name) 0) e → TellsFirst all e
differ_stops kind owner spelled name_of seen xs i x d name all e h at is left t =
    loop_tells (λ ys. differ_from kind owner spelled seen (map name_of ys)) xs i x d (check (not (names seen name)) kind owner (spelled name) 0)
    (differ_from kind owner spelled (seen ++ name ∷ []) (map name_of (drop (i + 1) xs))) all e h at left
    (ap (λ n. check (not (names seen n)) kind owner (spelled n) 0 ++ differ_from kind owner spelled (seen ++ n ∷ []) (map name_of (drop (i + 1) xs))) (sym is)) t

-- names, and more behind them
pub differ_append : (kind : LinkKind) (owner : Name) (spelled : Name → Name) (before xs ys : List Name)
    → differ_from kind owner spelled before (xs ++ ys) ≡ differ_from kind owner spelled before xs ++ differ_from kind owner spelled (before ++ xs) ys
differ_append kind owner spelled before [] ys = ap (λ b. differ_from kind owner spelled b ys) (sym (append-nil before))
differ_append kind owner spelled before (x ∷ xs) ys =
    let here = check (not (names before x)) kind owner (spelled x) 0 in
    let more = differ_from kind owner spelled (before ++ x ∷ []) xs in
    ap (λ l. here ++ l) (differ_append kind owner spelled (before ++ x ∷ []) xs ys)
    ∙ ap (λ b. here ++ (more ++ differ_from kind owner spelled b ys)) (append_assoc before (x ∷ []) xs)
    ∙ sym (append_assoc here more (differ_from kind owner spelled (before ++ x ∷ xs) ys))

-- names that are met one list after the other
pub differ_split : (kind : LinkKind) (owner : Name) (spelled : Name → Name) (start seen xs ys : List Name) → start ≡ [] → seen ≡ start ++ xs
    → differ_from kind owner spelled start xs ++ differ_from kind owner spelled seen ys ≡ differ_from kind owner spelled [] (xs ++ ys)
differ_split kind owner spelled start seen xs ys s t =
    ap (λ b. differ_from kind owner spelled start xs ++ differ_from kind owner spelled b ys) t
    ∙ sym (differ_append kind owner spelled start xs ys)
    ∙ ap (λ b. differ_from kind owner spelled b (xs ++ ys)) s

-- the first of a name stands before a place, or no earlier one has it
pub met_before : (all : List Name) (name : Name) (first n : ℕ) → place_in all name ≡ Some first → names (take n all) name ≡ nat_lt first n
met_before [] name first n e = absurd (cc)
met_before (x ∷ xs) name first zero e = grind arith
met_before (x ∷ xs) name zero (suc n) e = grind (arith, place_step x xs name)
met_before (x ∷ xs) name (suc first) (suc n) e = grind (arith, place_step x xs name, met_before xs name first n)

pub met_never : (all : List Name) (name : Name) (n : ℕ) → place_in all name ≡ None → names (take n all) name ≡ false
met_never [] name zero e = refl
met_never [] name (suc n) e = refl
met_never (x ∷ xs) name zero e = refl
met_never (x ∷ xs) name (suc n) e = grind (arith, place_step x xs name, met_never xs name n)

-- a name among those behind others
pub names_inherited : (xs ys : List Name) (name : Name) → names xs name ≡ true → names (xs ++ ys) name ≡ true
names_inherited [] ys name e = absurd (cc)
names_inherited (x ∷ xs) ys name e = grind (arith, names_inherited xs ys name)

pub names_behind : (xs ys : List Name) (name : Name) → names xs name ≡ false → names (xs ++ ys) name ≡ names ys name
names_behind [] ys name e = refl
names_behind (x ∷ xs) ys name e = grind (arith, names_behind xs ys name)
