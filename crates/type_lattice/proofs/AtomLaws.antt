-- Atoms that are written one behind another.
use Rattle.std.proofs.Common.{◌≡◌, ℕ, Bool, true, false, List, [], ◌∷◌, ◌++◌, refl, ap, sym, ◌∙◌, append_assoc}
use Rattle.std.specs.Prelude.{codes, if◌then◌else◌}
use Rattle.std.specs.List.{flat_map}
use Rattle.std.proofs.lemmas.List.{append-nil}
use Rattle.std.proofs.lemmas.List.Concat.{flat_map-append}
use Rattle.type_lattice.specs.TypeText.{barred, joined, bracketed}
use Rattle.type_lattice.specs.Atoms.{bar, first_behind, sequel, Adds}

-- none
pub adds_none : (first : Bool) (out : List ℕ) → Adds first [] out out first
adds_none first out = record { text = sym (append-nil out); told = refl }

-- one
pub adds_one : (first : Bool) (a old new : List ℕ) → new ≡ old ++ bar first ++ a → Adds first (a ∷ []) old new false
adds_one first a old new e =
    record { text = e ∙ append_assoc old (bar first) a ∙ ap (λ (x : List ℕ). old ++ (bar first ++ x)) (sym (append-nil a)); told = refl }

-- these and those
behind_all : (first : Bool) (xs ys : List (List ℕ)) → first_behind first (xs ++ ys) ≡ first_behind (first_behind first xs) ys
behind_all first [] ys = refl
behind_all first (x ∷ xs) [] = refl
behind_all first (x ∷ xs) (y ∷ ys) = refl

-- behind some atom each has its bar
later : (ys : List (List ℕ)) → sequel false ys ≡ flat_map barred ys
later [] = refl
later (y ∷ ys) = refl

sequel-append : (first : Bool) (xs ys : List (List ℕ)) → sequel first (xs ++ ys) ≡ sequel first xs ++ sequel (first_behind first xs) ys
sequel-append first [] ys = refl
sequel-append first (x ∷ xs) ys =
    ap (λ (z : List ℕ). bar first ++ (x ++ z)) (flat_map-append barred xs ys ∙ ap (λ (z : List ℕ). flat_map barred xs ++ z) (sym (later ys)))
    ∙ ap (λ (z : List ℕ). bar first ++ z) (sym (append_assoc x (flat_map barred xs) (sequel false ys)))
    ∙ sym (append_assoc (bar first) (x ++ flat_map barred xs) (sequel false ys))

pub adds_both : (first : Bool) (xs ys : List (List ℕ)) (old mid new : List ℕ) (here still : Bool)
    → Adds first xs old mid here → Adds here ys mid new still → Adds first (xs ++ ys) old new still
adds_both first xs ys old mid new here still h k = record {
  text =
      k.text
      ∙ ap (λ (z : List ℕ). z ++ sequel here ys) h.text
      ∙ append_assoc old (sequel first xs) (sequel here ys)
      ∙ ap (λ (b : Bool). old ++ (sequel first xs ++ sequel b ys)) h.told
      ∙ ap (λ (z : List ℕ). old ++ z) (sym (sequel-append first xs ys));
  told = k.told ∙ ap (λ (b : Bool). first_behind b ys) h.told ∙ sym (behind_all first xs ys);
}

-- all of them, and Never where there is none
pub joined_none : (xs : List (List ℕ)) (old new : List ℕ) → Adds true xs old new true → new ++ codes "Never" ≡ old ++ joined xs
joined_none [] old new h = ap (λ (z : List ℕ). z ++ codes "Never") (h.text ∙ append-nil old)
joined_none (x ∷ xs) old new h = let e = h.told in absurd (cc)

pub joined_some : (xs : List (List ℕ)) (old new : List ℕ) → Adds true xs old new false → new ≡ old ++ joined xs
joined_some [] old new h = let e = h.told in absurd (cc)
joined_some (x ∷ xs) old new h = h.text

-- those of the other choice
pub adds_else : (first : Bool) (xs ys : List (List ℕ)) (old new : List ℕ) (still whole : Bool) → whole ≡ false → Adds first ys old new still
    → Adds first (if whole then xs else ys) old new still
adds_else first xs ys old new still whole w h = rw w h

-- a container that isn't whole, and one that is
pub adds_inner : (first : Bool) (name front inner old at mid new : List ℕ) → front ≡ name ++ 60 ∷ [] → at ≡ old ++ bar first ++ front → mid ≡ at ++ inner → new ≡ mid ++ 62 ∷ []
    → (whole : Bool) → whole ≡ false → Adds first (bracketed name whole inner) old new false
adds_inner first name front inner old at mid new f e g h whole w =
    rw w (adds_one first (name ++ (60 ∷ (inner ++ 62 ∷ []))) old new
    (h ∙ ap (λ (z : List ℕ). z ++ 62 ∷ []) (g ∙ ap (λ (z : List ℕ). z ++ inner) (e ∙ ap (λ (z : List ℕ). old ++ bar first ++ z) f)) ∙ regroup old (bar first) name inner))
  where
    regroup : (o b n i : List ℕ) → ((o ++ b ++ (n ++ 60 ∷ [])) ++ i) ++ 62 ∷ [] ≡ o ++ b ++ (n ++ (60 ∷ (i ++ 62 ∷ [])))
    regroup o b n i = simp append_assoc

pub adds_whole : (first : Bool) (name inner old new : List ℕ) (still whole : Bool) → whole ≡ true → Adds first (name ∷ []) old new still → Adds first (bracketed name whole inner) old new still
adds_whole first name inner old new still whole w h = rw w h
