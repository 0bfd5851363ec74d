-- The name of a body, from its own and that of its class.
use Rattle.std.proofs.Common.{◌≡◌, ◌+◌, ℕ, zero, suc, List, [], ◌∷◌, ◌++◌, Option, Some, None, map, slice_get, codes, refl, ap, sym, ◌∙◌, subst, arith}
use Rattle.std.specs.List.{flat_map}
use Rattle.type_lattice.specs.TypeText.{named}
use Rattle.hhbc_repo.specs.declared.body.Body.{Body}
use Rattle.hhbc_repo.specs.declared.repo.Class.{Class}
use Rattle.hhbc_repo.specs.Linked.{Linked}
use Rattle.hhbc_repo.specs.Bodies.{bodies, class_names}
use Rattle.hhbc_repo.specs.LinkFaults.{first_class}
use Rattle.hhbc_repo.specs.LookUps.{methods_in, owners, owners_from}
use Rattle.hhbbc_top.specs.Report.{body_names}

abbrev full_name : List (List ℕ) → Option ℕ → Body → List ℕ
full_name classes None b = b.name
full_name classes (Some c) b = named (slice_get classes c) ++ (codes "::" ++ b.name)

abbrev function_names : List Body → List (List ℕ)
function_names bs = map (λ (b : Body). b.name) bs

abbrev method_names : Class → List Body → List (List ℕ)
method_names c ms = map (λ (b : Body). c.name ++ (codes "::" ++ b.name)) ms

abbrev names_in : List Class → List (List ℕ)
names_in cs = flat_map (λ (c : Class). method_names c c.methods) cs

-- the lists go along each other: owners, bodies and names
module _ (classes : List (List ℕ)) where
  abbrev Along : List (Option ℕ) → List Body → List (List ℕ) → Type 0
  Along [] [] [] = Unit {0}
  Along (o ∷ os) (b ∷ bs) (n ∷ ns) = (n ≡ full_name classes o b) × Along os bs ns
  Along [] [] (n ∷ ns) = ⊥
  Along [] (b ∷ bs) ns = ⊥
  Along (o ∷ os) [] ns = ⊥
  Along (o ∷ os) (b ∷ bs) [] = ⊥

  along_at : (os : List (Option ℕ)) (bs : List Body) (ns : List (List ℕ)) → Along os bs ns → (i : ℕ) (o : Option ℕ) (b : Body)
      → slice_get os i ≡ Some o → slice_get bs i ≡ Some b → slice_get ns i ≡ Some (full_name classes o b)
  along_at [] [] [] h i o b e g = absurd (cc)
  along_at [] [] (n ∷ ns) h i o b e g = absurd h
  along_at [] (x ∷ bs) ns h i o b e g = absurd h
  along_at (p ∷ os) [] ns h i o b e g = absurd h
  along_at (p ∷ os) (x ∷ bs) [] h i o b e g = absurd h
  along_at (p ∷ os) (x ∷ bs) (n ∷ ns) h zero o b e g =
      let owner : p ≡ o = cc in
      let body : x ≡ b = cc in
      ap (λ (k : List ℕ). Some k) (h.0 ∙ ap (λ (q : Option ℕ). full_name classes q x) owner ∙ ap (full_name classes o) body)
  along_at (p ∷ os) (x ∷ bs) (n ∷ ns) h (suc i) o b e g = along_at os bs ns h.1 i o b e g

  along_both : (os : List (Option ℕ)) (bs : List Body) (ns : List (List ℕ)) (ps : List (Option ℕ)) (cs : List Body) (ms : List (List ℕ))
      → Along os bs ns → Along ps cs ms → Along (os ++ ps) (bs ++ cs) (ns ++ ms)
  along_both [] [] [] ps cs ms h k = k
  along_both [] [] (n ∷ ns) ps cs ms h k = absurd h
  along_both [] (x ∷ bs) ns ps cs ms h k = absurd h
  along_both (p ∷ os) [] ns ps cs ms h k = absurd h
  along_both (p ∷ os) (x ∷ bs) [] ps cs ms h k = absurd h
  along_both (p ∷ os) (x ∷ bs) (n ∷ ns) ps cs ms h k = (h.0, along_both os bs ns ps cs ms h.1 k)

  along_functions : (bs : List Body) → Along (map (λ (b : Body). None) bs) bs (function_names bs)
  along_functions [] = tt
  along_functions (b ∷ bs) = (refl, along_functions bs)

  along_methods : (n : ℕ) (c : Class) → slice_get classes n ≡ Some c.name → (ms : List Body) → Along (map (λ (b : Body). Some n) ms) ms (method_names c ms)
  along_methods n c e [] = tt
  along_methods n c e (m ∷ ms) = (ap (λ (k : Option (List ℕ)). named k ++ (codes "::" ++ m.name)) (sym e), along_methods n c e ms)

  along_classes : (n : ℕ) (cs : List Class) → ((k : ℕ) → slice_get classes (n + k) ≡ slice_get (map (λ (c : Class). c.name) cs) k) → Along (owners_from n cs) (methods_in cs) (names_in cs)
  along_classes n [] h = tt
  along_classes n (c ∷ cs) h =
      let here : n ≡ n + 0 = omega arith in
      along_both (map (λ (b : Body). Some n) c.methods) c.methods (method_names c c.methods) (owners_from (suc n) cs) (methods_in cs) (names_in cs)
      (along_methods n c (ap (slice_get classes) here ∙ h 0) c.methods)
      (along_classes (suc n) cs (λ k. let next : suc n + k ≡ n + suc k = omega arith in ap (slice_get classes) next ∙ h (suc k)))

declared : (r : Linked) (k : ℕ) → slice_get (class_names r) (first_class + k) ≡ slice_get (map (λ (c : Class). c.name) r.classes) k
declared r k = let behind : first_class + k ≡ suc (suc (suc (suc (suc (suc k))))) = omega arith in ap (slice_get (class_names r)) behind

name-at : (r : Linked) (n : ℕ) (o : Option ℕ) (b : Body) → slice_get (owners r) n ≡ Some o → slice_get (bodies r) n ≡ Some b → slice_get (body_names r) n ≡ Some (full_name (class_names r) o b)
name-at r n o b e g =
    along_at (class_names r) (owners r) (bodies r) (body_names r)
    (along_both (class_names r) (map (λ (k : Body). None) r.functions) r.functions (function_names r.functions) (owners_from first_class r.classes) (methods_in r.classes) (names_in r.classes)
    (along_functions (class_names r) r.functions) (along_classes (class_names r) first_class r.classes (declared r)))
    n o b e g

pub function_named : (r : Linked) (n : ℕ) (b : Body) → slice_get (owners r) n ≡ Some None → slice_get (bodies r) n ≡ Some b → named (slice_get (body_names r) n) ≡ b.name
function_named r n b e g = ap named (name-at r n None b e g)

pub method_named : (r : Linked) (n c : ℕ) (b : Body) → slice_get (owners r) n ≡ Some (Some c) → slice_get (bodies r) n ≡ Some b
    → named (slice_get (body_names r) n) ≡ named (slice_get (class_names r) c) ++ (codes "::" ++ b.name)
method_named r n c b e g = ap named (name-at r n (Some c) b e g)
